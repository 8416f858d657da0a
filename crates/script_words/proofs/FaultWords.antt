-- The words before a fault.
use Rattle.std.proofs.Common.{◌≡◌, ◌+◌, ◌<◌, ℕ, suc, List, [], ◌∷◌, length, take, drop, map, Bor}
use Rattle.std.proofs.Common.{not, Bool, true, false, refl, sym, ◌∙◌, arith, Some, None, inl, inr}
use Rattle.std.proofs.lemmas.Bool.{cases_Bool}
use Rattle.std.proofs.lemmas.Bool.Decides.{nat_tests}
use Rattle.std.proofs.lemmas.Grind.{common_steps}
use Rattle.std.proofs.lemmas.List.{length-drop}
use Rattle.std.proofs.lemmas.List.Quantifiers.{position-Some}
use Rattle.std.specs.Prelude.{◌==◌, nat_lt, position}
use Rattle.std.specs.List.{position_or_len}
use Rattle.script_words.specs.Words.{begins_fault, has_fault, before_fault, from_fault}
use Rattle.script_words.specs.FaultWords.{is_fault}

abbrev begins : Bor (List ℕ) → Bool
begins w = begins_fault w.now

abbrev texts : List (Bor (List ℕ)) → List (List ℕ)
texts ws = map (λ w. w.now) ws

take-one-more : {A : Type 0} (n : ℕ) (x : A) (xs : List A) → take (1 + n) (x ∷ xs) ≡ x ∷ take n xs
take-one-more n x xs = let e : 1 + n ≡ suc n = omega arith in rw e refl

first_lt : (n : ℕ) → nat_lt 0 (suc n) ≡ true
first_lt n = grind (arith, nat_tests)

one_more : (m n : ℕ) → nat_lt (1 + m) (suc n) ≡ nat_lt m n
one_more m n = grind (arith, nat_tests)

before_is : (ws : List (Bor (List ℕ))) → texts (take (position_or_len begins ws) ws) ≡ before_fault
    (texts ws)
before_is [] = refl
before_is (w ∷ ws) = elim (cases_Bool (begins_fault w.now)) [
  | inl t ↦ rw t refl
  | inr f ↦ rw (f, ← before_is ws, take-one-more (position_or_len begins ws) w ws) refl
]

has_is : (ws : List (Bor (List ℕ))) → nat_lt (position_or_len begins ws) (length ws) ≡ has_fault
    (texts ws)
has_is [] = refl
has_is (w ∷ ws) = elim (cases_Bool (begins_fault w.now)) [
  | inl t ↦ rw t (first_lt (length ws))
  | inr f ↦ rw (f, ← has_is ws) (one_more (position_or_len begins ws) (length ws))
]

at_place : (ws : List (Bor (List ℕ))) (i : ℕ) → position begins ws ≡ Some i
    → position_or_len begins ws ≡ i
at_place ws i e = grind (arith, common_steps)

is_before : (ws : List (Bor (List ℕ))) (i : ℕ) → position begins ws ≡ Some i
    → nat_lt (position_or_len begins ws) (length ws) ≡ true
is_before ws i e = grind (arith, common_steps)

is_nowhere : (ws : List (Bor (List ℕ))) → position begins ws ≡ None
    → nat_lt (position_or_len begins ws) (length ws) ≡ false
is_nowhere ws e = grind (arith, common_steps)

pub splits_at : (ws : List (Bor (List ℕ))) (i : ℕ) → position begins ws ≡ Some i
    → texts (take i ws) ≡ before_fault (texts ws)
splits_at ws i e = rw (at_place ws i e) at (before_is ws)

drop-one-more : {A : Type 0} (n : ℕ) (x : A) (xs : List A) → drop (1 + n) (x ∷ xs) ≡ drop n xs
drop-one-more n x xs = let e : 1 + n ≡ suc n = omega arith in rw e refl

from_is : (ws : List (Bor (List ℕ))) → texts (drop (position_or_len begins ws) ws) ≡ from_fault
    (texts ws)
from_is [] = refl
from_is (w ∷ ws) = elim (cases_Bool (begins_fault w.now)) [
  | inl t ↦ rw t refl
  | inr f ↦ rw (f, ← from_is ws, drop-one-more (position_or_len begins ws) w ws) refl
]

pub others_at : (ws : List (Bor (List ℕ))) (i : ℕ) → position begins ws ≡ Some i
    → texts (drop i ws) ≡ from_fault (texts ws)
others_at ws i e = rw (at_place ws i e) at (from_is ws)

pub has_none : (ws : List (Bor (List ℕ))) → position begins ws ≡ None → false ≡ has_fault (texts ws)
has_none ws e = sym (is_nowhere ws e) ∙ has_is ws

-- where there is one, others follow
pub has_others : (ws : List (Bor (List ℕ))) (i : ℕ) → position begins ws ≡ Some i
    → has_fault (texts ws) ≡ not (length (drop i ws) == 0)
has_others ws i e =
    let inside : i < length ws =
    (position-Some begins ws i (record { ref_ptr = (0, 0); now = [] }) e).0 in
    let size = length-drop i ws in
    sym (has_is ws) ∙ is_before ws i e ∙ grind (arith, nat_tests)

-- fewer words than two, or more than three, are no fault
pub too_few : (ws : List (Bor (List ℕ))) → length ws < 2 → is_fault (texts ws) ≡ false
too_few [] few = refl
too_few (u ∷ []) few = refl
too_few (u ∷ v ∷ ws) few = absurd (omega (arith, few))

pub too_many : (ws : List (Bor (List ℕ))) → 3 < length ws → is_fault (texts ws) ≡ false
too_many [] many = absurd (omega (arith, many))
too_many (u ∷ []) many = absurd (omega (arith, many))
too_many (u ∷ v ∷ []) many = absurd (omega (arith, many))
too_many (u ∷ v ∷ w ∷ []) many = absurd (omega (arith, many))
too_many (u ∷ v ∷ w ∷ x ∷ ws) many = refl

pub none_behind : (ws : List (List ℕ)) → false ≡ has_fault ws → [] ≡ from_fault ws
none_behind [] e = refl
none_behind (w ∷ ws) e = elim (cases_Bool (begins_fault w)) [
  | inl t ↦ absurd (grind (arith, common_steps))
  | inr f ↦ rw f (none_behind ws (rw f at e))
]
