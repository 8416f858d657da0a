-- The first of some bytes and of some words, and those behind it.
use Rattle.std.proofs.Common.{ℕ, List, [], ◌∷◌}

abbrev pub head : List ℕ → ℕ
head [] = 0
head (x ∷ xs) = x

abbrev pub rest : List ℕ → List ℕ
rest [] = []
rest (x ∷ xs) = xs

abbrev pub first_word : List (List ℕ) → List ℕ
first_word [] = []
first_word (x ∷ xs) = x

abbrev pub words_behind : List (List ℕ) → List (List ℕ)
words_behind [] = []
words_behind (x ∷ xs) = xs
