-- Byte order of keys.
use Rattle.std.specs.Prelude.{◌≡◌, ◌<◌, ◌⊎◌, ◌↔◌, ℕ, List, [], ◌∷◌}
use Rattle.std.specs.declared.cmp.Ordering.TheVariants.{Less}
use Rattle.std.specs.Ordering.{nat_cmp}
use Rattle.std.specs.Cmp.Lexicographic.{slice_cmp}

-- the first different byte decides, and a proper prefix of a key is below it
abbrev pub IsBelow : List ℕ → List ℕ → Type 0
IsBelow [] [] = ⊥
IsBelow [] (y ∷ b) = Unit {0}
IsBelow (x ∷ a) [] = ⊥
IsBelow (x ∷ a) (y ∷ b) = (x < y) ⊎ ((x ≡ y) × IsBelow a b)

-- strict and total order: irreflexive, transitive, and of two different keys one is below the other
pub record IsStrictOrder (Below : List ℕ → List ℕ → Type 0) : Type 0 where
  pub never : (a : List ℕ) → Below a a → ⊥
  pub through : (a b c : List ℕ) → Below a b → Below b c → Below a c
  pub total : (a b : List ℕ) → Below a b ⊎ ((a ≡ b) ⊎ Below b a)

-- the order of the code, that of byte slices, is this order
abbrev pub LessIsBelow : Type 0
LessIsBelow = (a b : List ℕ) → (slice_cmp nat_cmp a b ≡ Less) ↔ IsBelow a b
