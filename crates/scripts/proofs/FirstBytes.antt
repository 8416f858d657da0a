-- A line of words that begin with a letter is not skipped.
use Rattle.std.proofs.Common.{List, [], arith, false, inl, inr, refl, sym, ℕ, ◌∙◌, ◌∷◌, ◌≡◌, ◌≤◌}
use Rattle.std.proofs.lemmas.Bool.{cases_Bool}
use Rattle.scripts.specs.Scripts.{is_skipped}
use Rattle.std.proofs.lemmas.Bool.Decides.{nat_tests}
use Rattle.std.specs.List.{onto_first}
use Rattle.script_words.specs.Lines.{words_of}
use Rattle.std.specs.Prelude.{◌==◌}

abbrev pub first_byte : List (List ℕ) → ℕ
first_byte [] = 0
first_byte ([] ∷ words) = 0
first_byte ((b ∷ bs) ∷ words) = b

onto : (b : ℕ) (words : List (List ℕ)) → first_byte (onto_first b words) ≡ b
onto b [] = refl
onto b (w ∷ words) = refl

pub not_skipped : (line : List ℕ) (c : ℕ) → first_byte (words_of line) ≡ c → 97 ≤ c →
    is_skipped line ≡ false
not_skipped [] c e letter = absurd (omega (arith, e, letter))
not_skipped (b ∷ bs) c e letter = elim (cases_Bool (b == 32)) [
  | inl t ↦ let none : 0 ≡ c = rw t at e in absurd (omega (arith, none, letter))
  | inr f ↦
      let is : first_byte (onto_first b (words_of bs)) ≡ c = rw f at e in
      let same : b ≡ c = sym (onto b (words_of bs)) ∙ is in
      grind (arith, nat_tests)
]
