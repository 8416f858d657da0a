-- Words are those before a fault and the others.
use Rattle.std.proofs.Common.{List, ap, arith, false, inl, inr, refl, true, ℕ, ◌++◌, ◌∷◌, ◌≡◌, []}
use Rattle.script_words.specs.Words.{before_fault, begins_fault, from_fault, has_fault}
use Rattle.std.proofs.lemmas.Bool.{cases_Bool}
use Rattle.std.proofs.lemmas.Grind.{common_steps}

-- words without a fault all stand before it
pub faultless_before : (ws : List (List ℕ)) → false ≡ has_fault ws → ws ≡ before_fault ws
faultless_before [] e = refl
faultless_before (w ∷ ws) e = elim (cases_Bool (begins_fault w)) [
  | inl t ↦ absurd (grind (arith, common_steps))
  | inr f ↦ rw f (ap (λ rest. w ∷ rest) (faultless_before ws (rw f at e)))
]

-- words are those before a fault and the others
pub split_words : (ws : List (List ℕ)) → ws ≡ before_fault ws ++ from_fault ws
split_words [] = refl
split_words (w ∷ ws) = elim (cases_Bool (begins_fault w)) [
  | inl t ↦ rw t refl
  | inr f ↦ rw f (ap (λ rest. w ∷ rest) (split_words ws))
]

-- the words of a fault, if there are some
abbrev pub AreOfFault : List (List ℕ) → Type 0
AreOfFault [] = Unit {0}
AreOfFault (w ∷ ws) = begins_fault w ≡ true

-- they stand behind words without a fault
pub joined_words : (front behind : List (List ℕ)) → has_fault front ≡ false → AreOfFault behind
    → (before_fault (front ++ behind) ≡ front) × (from_fault (front ++ behind) ≡ behind)
joined_words [] [] none are = (refl, refl)
joined_words [] (w ∷ ws) none are = (rw are refl, rw are refl)
joined_words (v ∷ front) behind none are = elim (cases_Bool (begins_fault v)) [
  | inl t ↦ absurd (grind (arith, common_steps))
  | inr f ↦
      let rest = joined_words front behind (rw f at none) are in
      (rw (f, rest.0) refl, rw f (rest.1))
]
