-- Places in a list, and what short lists contain.
use Rattle.std.proofs.Common.{◌≡◌, ◌⊎◌, inl, inr, ℕ, zero, suc, ◌+◌, ◌<◌, List, [], ◌∷◌, ◌++◌}
use Rattle.std.proofs.Common.{length, drop, slice_get, Contains, Some, refl, ◌∙◌, ap, subst, arith}
use Rattle.std.proofs.lemmas.List.Elements.{Contains-push_cases, Contains-push}

-- an empty list contains nothing
pub contains_none : {A : Type 0} (x : A) → Contains [] x → ⊥
contains_none x c = let lt = c.1 in absurd (omega (arith, lt))

-- a list of one contains it alone
pub contains_one : {A : Type 0} (y x : A) → Contains (y ∷ []) x → y ≡ x
contains_one y x c = elim (Contains-push_cases [] y x c) [
  | inl none ↦ absurd (contains_none x none)
  | inr is ↦ is
]

-- a list of one contains it
pub contains_it : {A : Type 0} (x : A) → Contains (x ∷ []) x
contains_it x = Contains-push [] x

-- what stands at a place stands there in a longer list
pub slice_get_longer : {A : Type 0} (xs ys : List A) (i : ℕ) (x : A) → slice_get xs i ≡ Some x
    → slice_get (xs ++ ys) i ≡ Some x
slice_get_longer [] ys i x is = absurd cc
slice_get_longer (z ∷ xs) ys zero x is = is
slice_get_longer (z ∷ xs) ys (suc i) x is = slice_get_longer xs ys i x is

-- what stands at a place stands there in a shorter list that has the place
pub slice_get_shorter : {A : Type 0} (xs ys : List A) (i : ℕ) (x : A) → i < length xs
    → slice_get (xs ++ ys) i ≡ Some x → slice_get xs i ≡ Some x
slice_get_shorter [] ys i x lt is = absurd (omega (arith, lt))
slice_get_shorter (z ∷ xs) ys zero x lt is = is
slice_get_shorter (z ∷ xs) ys (suc i) x lt is = slice_get_shorter xs ys i x (omega (arith, lt)) is

-- what is added stands last
pub slice_get_last : {A : Type 0} (xs : List A) (x : A)
    → slice_get (xs ++ x ∷ []) (length xs) ≡ Some x
slice_get_last [] x = refl
slice_get_last (z ∷ xs) x = slice_get_last xs x

-- places behind the first few
pub slice_get-drop : {A : Type 0} (n : ℕ) (xs : List A) (i : ℕ)
    → slice_get (drop n xs) i ≡ slice_get xs (n + i)
slice_get-drop zero xs i = let eq : i ≡ 0 + i = omega arith in ap (λ z. slice_get xs z) eq
slice_get-drop (suc n) [] i = refl
slice_get-drop (suc n) (x ∷ xs) i =
    let eq : suc (n + i) ≡ suc n + i = omega arith in
    slice_get-drop n xs i ∙ ap (λ z. slice_get (x ∷ xs) z) eq

-- ---- what holds of each element of a short list

-- a list contains its first, and what the rest contains
pub contains_cases : {A : Type 0} (y : A) (ys : List A) (x : A) → Contains (y ∷ ys) x
    → (y ≡ x) ⊎ Contains ys x
contains_cases y ys x (zero, lt, is) = inl is
contains_cases y ys x (suc k, lt, is) = inr (k, omega (arith, lt), is)

-- a list contains its first
pub contains_head : {A : Type 0} (x : A) (xs : List A) → Contains (x ∷ xs) x
contains_head x xs = (0, omega arith, refl)

-- a list contains what its rest contains
pub contains_next : {A : Type 0} (y : A) (ys : List A) (x : A) → Contains ys x
    → Contains (y ∷ ys) x
contains_next y ys x (k, lt, is) = (suc k, omega (arith, lt), is)

module _ {A : Type 0} (P : A → Type 0) where
  -- what holds of the first and of the rest holds of each
  pub for_more : (y : A) (ys : List A) → P y → ((x : A) → Contains ys x → P x) → (x : A)
      → Contains (y ∷ ys) x → P x
  for_more y ys here rest x c = elim (contains_cases y ys x c) [
    | inl is ↦ subst P is here
    | inr later ↦ rest x later
  ]

  -- what holds of one holds of each in its list
  pub for_one : (y : A) → P y → (x : A) → Contains (y ∷ []) x → P x
  for_one y here = for_more y [] here (λ x c. absurd (contains_none x c))

  -- what holds of two holds of each in their list
  pub for_two : (y z : A) → P y → P z → (x : A) → Contains (y ∷ z ∷ []) x → P x
  for_two y z here there = for_more y (z ∷ []) here (for_one z there)
