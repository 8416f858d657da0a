-- Lists that stand side by side, and what a test finds in a list and keeps of it.
use Rattle.std.proofs.Common.{◌≡◌, ◌∙◌, List, [], ◌∷◌, Bool, true, ap, inl, inr, refl, subst}
use Rattle.std.proofs.lemmas.Bool.{cases_Bool}
use Rattle.std.specs.List.{AllZip, filter, list_any}
use Rattle.std.specs.Prelude.{Contains}
use Rattle.store_model.specs.PlacesLemmas.{contains_cases, contains_head, contains_next}
use Rattle.store_model.specs.PlacesLemmas.{contains_none}

-- of what stands side by side each on the second side stands beside one
pub zip_beside : {A B : Type 0} (R : A → B → Type 0) (xs : List A) (ys : List B) → AllZip R xs ys →
    (y : B) → Contains ys y → (x : A) × Contains xs x × R x y
zip_beside R [] [] zip y has = absurd (contains_none y has)
zip_beside R [] (b ∷ ys) zip y has = absurd zip
zip_beside R (a ∷ xs) [] zip y has = absurd zip
zip_beside R (a ∷ xs) (b ∷ ys) zip y has = elim (contains_cases b ys y has) [
  | inl is ↦ (a, contains_head a xs, subst (R a) is zip.0)
  | inr later ↦
      let one = zip_beside R xs ys zip.1 y later in
      (one.0, contains_next a xs one.0 one.1, one.2)
]

-- of what is contained, a weaker relation
pub zip_among : {A B : Type 0} (R Q : A → B → Type 0) (xs : List A) (ys : List B) →
    ((x : A) (y : B) → Contains ys y → R x y → Q x y) → AllZip R xs ys → AllZip Q xs ys
zip_among R Q [] [] weaker zip = tt
zip_among R Q [] (b ∷ ys) weaker zip = absurd zip
zip_among R Q (a ∷ xs) [] weaker zip = absurd zip
zip_among R Q (a ∷ xs) (b ∷ ys) weaker zip = (
  weaker a b (contains_head b ys) zip.0,
  zip_among R Q xs ys (λ x y there r. weaker x y (contains_next b ys y there) r) zip.1,
)

module _ {A : Type 0} (p : A → Bool) where
  -- one of those that a test finds
  pub found_one : (xs : List A) → list_any p xs ≡ true → (x : A) × Contains xs x × (p x ≡ true)
  found_one [] found = absurd cc
  found_one (x ∷ xs) found = elim (cases_Bool (p x)) [
    | inl here ↦ (x, contains_head x xs, here)
    | inr fails ↦
        let rest : list_any p xs ≡ true = rw fails at found in
        let one = found_one xs rest in
        (one.0, contains_next x xs one.0 one.1, one.2)
  ]

  -- a test finds what passes it
  pub finds : (xs : List A) (x : A) → Contains xs x → p x ≡ true → list_any p xs ≡ true
  finds [] x has passes = absurd (contains_none x has)
  finds (y ∷ xs) x has passes = elim (contains_cases y xs x has) [
    | inl is ↦
        let here : p y ≡ true = ap p is ∙ passes in
        rw here refl
    | inr later ↦ elim (cases_Bool (p y)) [
      | inl here ↦ rw here refl
      | inr fails ↦ rw fails (finds xs x later passes)
    ]
  ]

  -- what is kept was there
  pub kept_was : (xs : List A) (x : A) → Contains (filter p xs) x → Contains xs x
  kept_was [] x has = has
  kept_was (y ∷ xs) x has = elim (cases_Bool (p y)) [
    | inl passes ↦
        let there : Contains (y ∷ filter p xs) x = rw passes at has in
        elim (contains_cases y (filter p xs) x there) [
          | inl is ↦ subst (Contains (y ∷ xs)) is (contains_head y xs)
          | inr later ↦ contains_next y xs x (kept_was xs x later)
        ]
    | inr fails ↦
        let there : Contains (filter p xs) x = rw fails at has in
        contains_next y xs x (kept_was xs x there)
  ]

  -- what passes is kept
  pub is_kept : (xs : List A) (x : A) → Contains xs x → p x ≡ true → Contains (filter p xs) x
  is_kept [] x has passes = has
  is_kept (y ∷ xs) x has passes = elim (contains_cases y xs x has) [
    | inl is ↦
        let first : p y ≡ true = ap p is ∙ passes in
        rw first (subst (Contains (y ∷ filter p xs)) is (contains_head y (filter p xs)))
    | inr later ↦ elim (cases_Bool (p y)) [
      | inl here ↦ rw here (contains_next y (filter p xs) x (is_kept xs x later passes))
      | inr fails ↦ rw fails (is_kept xs x later passes)
    ]
  ]
