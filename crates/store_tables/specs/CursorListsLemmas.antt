-- A list of cursors with one more behind it.
use Rattle.std.proofs.Common.{◌≡◌, ◌⊎◌, ◌↔◌, inl, inr, ℕ, zero, suc, List, [], ◌∷◌, ◌++◌, length}
use Rattle.std.proofs.Common.{Some, slice_get, refl, sym, ◌∙◌, ap, subst}
use Rattle.kv_types.specs.{Entry}
use Rattle.merge_iter.specs.{AreApart, EachChild, UnionHolds, equal_parts}
use Rattle.store_model.specs.PlacesLemmas.{slice_get_last, slice_get_longer}

module _ {C : Type 0} (xs : List C) (x : C) where
  -- a place of the longer list is one of the list, or the last
  abbrev IsPlaceOf : ℕ → C → Type 0
  IsPlaceOf i c = (slice_get xs i ≡ Some c) ⊎ ((i ≡ length xs) × (x ≡ c))

-- each element stands in the list or is the one behind it
pub place_cases : {C : Type 0} (xs : List C) (x : C) (i : ℕ) (c : C)
    → slice_get (xs ++ x ∷ []) i ≡ Some c → IsPlaceOf xs x i c
place_cases [] x zero c is = inr (refl, cc)
place_cases [] x (suc i) c is = absurd cc
place_cases (y ∷ xs) x zero c is = inl is
place_cases (y ∷ xs) x (suc i) c is = elim (place_cases xs x i c is) [
  | inl at ↦ inl at
  | inr last ↦ inr (ap suc last.0, last.1)
]

-- what holds of each cursor and of one more holds of all
pub each_more : {C : Type 0} (P : C → Type 0) (xs : List C) (x : C) → EachChild P xs → P x
    → EachChild P (xs ++ x ∷ [])
each_more P xs x each one i c is = elim (place_cases xs x i c is) [
  | inl at ↦ each i c at
  | inr last ↦ subst P last.1 one
]

module _ {C : Type 0} (holds : C → Entry → Type 0) (xs : List C) (x : C) where
  -- with one more cursor there are the entries of both
  pub union_more : (entry : Entry)
      → UnionHolds holds (xs ++ x ∷ []) entry ↔ (UnionHolds holds xs entry ⊎ holds x entry)
  union_more entry = (
    λ h. elim (place_cases xs x h.0 h.1 h.2) [
      | inl at ↦ inl (h.0, h.1, at, h.3)
      | inr last ↦ inr (subst (λ (c : C). holds c entry) (sym last.1) h.3)
    ],
    λ either. elim either [
      | inl h ↦ (h.0, h.1, slice_get_longer xs (x ∷ []) h.0 h.1 h.2, h.3)
      | inr h ↦ (length xs, x, slice_get_last xs x, h)
    ],
  )

  -- cursors stay apart with one more that shares no key and number with them
  pub apart_more : AreApart holds xs
      → ((a b : Entry) → UnionHolds holds xs a → holds x b → a.key ≡ b.key → a.number ≡ b.number
      → ⊥) → AreApart holds (xs ++ x ∷ [])
  apart_more apart differ i j c d a b is_c is_d has_a has_b same =
      let parts = equal_parts a b same in
      elim (place_cases xs x i c is_c) [
        | inl at_c ↦ elim (place_cases xs x j d is_d) [
          | inl at_d ↦ apart i j c d a b at_c at_d has_a has_b same
          | inr last ↦ absurd (differ a b (i, c, at_c, has_a)
              (subst (λ (e : C). holds e b) (sym last.1) has_b) parts.0 parts.1)
        ]
        | inr last_c ↦ elim (place_cases xs x j d is_d) [
          | inl at_d ↦ absurd (differ b a (j, d, at_d, has_b)
              (subst (λ (e : C). holds e a) (sym last_c.1) has_a) (sym parts.0) (sym parts.1))
          | inr last_d ↦ last_c.0 ∙ sym last_d.0
        ]
      ]
