-- Ordered lists, and their elements.
use Rattle.std.proofs.Common.{◌≡◌, ◌<◌, ◌-◌, ◌⊎◌, inl, inr, ℕ, zero, suc, List, [], ◌∷◌, length}
use Rattle.std.proofs.Common.{get_or, reverse, All, AllPairs, Contains, refl, sym, ap, subst, ◌∙◌}
use Rattle.std.proofs.Common.{arith}
use Rattle.std.proofs.lemmas.List.{length-reverse, get_or-reverse}

-- one of a list, by its parts
abbrev pub Among : {X : Type 0} → X → List X → Type 0
Among x [] = ⊥
Among x (y ∷ ys) = (y ≡ x) ⊎ Among x ys

-- ---- by place

-- what stands at a place is one of the list
pub among_at : {X : Type 0} (xs : List X) (k : ℕ) (d x : X) → k < length xs → get_or xs k d ≡ x
    → Among x xs
among_at [] k d x lt is = absurd (omega (arith, lt))
among_at (y ∷ ys) zero d x lt is = inl is
among_at (y ∷ ys) (suc k) d x lt is = inr (among_at ys k d x (omega (arith, lt)) is)

-- what stands at a place within a list is one of it
pub among_get : {X : Type 0} (xs : List X) (k : ℕ) (d : X) → k < length xs
    → Among (get_or xs k d) xs
among_get xs k d lt = among_at xs k d (get_or xs k d) lt refl

-- one of a list has a place in it
pub place_of : {X : Type 0} (xs : List X) (x : X) → Among x xs
    → (k : ℕ) × (k < length xs) × ((d : X) → get_or xs k d ≡ x)
place_of [] x a = absurd a
place_of (y ∷ ys) x (inl e) = (0, omega arith, λ d. e)
place_of (y ∷ ys) x (inr a) = let p = place_of ys x a in let lt = p.1 in
    (suc p.0, omega (arith, lt), p.2)

-- what a list contains is one of it
pub among_from_Contains : {X : Type 0} (xs : List X) (x : X) → Contains xs x → Among x xs
among_from_Contains xs x h = among_at xs h.0 x x h.1 h.2

-- a list contains each one of it
pub Contains-among : {X : Type 0} (xs : List X) (x : X) → Among x xs → Contains xs x
Contains-among xs x a = let p = place_of xs x a in (p.0, p.1, p.2 x)

-- what holds of each one of a list holds of all
pub All-among : {X : Type 0} (P : X → Type 0) (xs : List X) → ((x : X) → Among x xs → P x)
    → All P xs
All-among P xs h k d lt = h (get_or xs k d) (among_get xs k d lt)

-- what holds of all holds of each one
pub among_of_All : {X : Type 0} (P : X → Type 0) (xs : List X) (x : X) → All P xs → Among x xs → P x
among_of_All P xs x h a = let p = place_of xs x a in subst P (p.2 x) (h p.0 x p.1)

-- ---- each element precedes all that follow it

-- each stands so to all behind it
abbrev pub Rises : {X : Type 0} → (X → X → Type 0) → List X → Type 0
Rises R [] = Unit {0}
Rises R (x ∷ xs) = ((y : _) → Among y xs → R x y) × Rises R xs

-- where each stands so to all behind it, all pairs do
pub AllPairs-rises : {X : Type 0} (R : X → X → Type 0) (xs : List X) → Rises R xs → AllPairs R xs
AllPairs-rises R [] rises i j d lt short = absurd (omega (arith, short))
AllPairs-rises R (x ∷ xs) rises i zero d lt short = absurd (omega (arith, lt))
AllPairs-rises R (x ∷ xs) rises zero (suc j) d lt short =
    rises.0 (get_or xs j d) (among_get xs j d (omega (arith, short)))
AllPairs-rises R (x ∷ xs) rises (suc i) (suc j) d lt short =
    AllPairs-rises R xs rises.1 i j d (omega (arith, lt)) (omega (arith, short))

-- where all pairs stand so, each does to all behind it
pub rises_from_AllPairs : {X : Type 0} (R : X → X → Type 0) (xs : List X) → AllPairs R xs
    → Rises R xs
rises_from_AllPairs R [] pairs = tt
rises_from_AllPairs R (x ∷ xs) pairs = (
  λ y a. let p = place_of xs y a in let lt = p.1 in
      subst (R x) (p.2 x) (pairs 0 (suc p.0) x (omega arith) (omega (arith, lt))),
  rises_from_AllPairs R xs
      (λ i j d lt short. pairs (suc i) (suc j) d (omega (arith, lt)) (omega (arith, short))),
)

-- two lists of the same elements in one order are one list
pub same_list : {X : Type 0} (R : X → X → Type 0) → ((x y : X) → R x y → R y x → ⊥)
    → (xs ys : List X) → Rises R xs → Rises R ys
    → ((z : X) → Among z xs → Among z ys) → ((z : X) → Among z ys → Among z xs) → xs ≡ ys
same_list R asym [] [] r s f g = refl
same_list R asym [] (y ∷ ys) r s f g = absurd (g y (inl refl))
same_list R asym (x ∷ xs) [] r s f g = absurd (f x (inl refl))
same_list R asym (x ∷ xs) (y ∷ ys) r s f g =
    let heads : x ≡ y = elim (f x (inl refl)) [
      | inl e ↦ sym e
      | inr a ↦ elim (g y (inl refl)) [ inl e ↦ e | inr b ↦ absurd (asym x y (r.0 y b) (s.0 x a)) ]
    ] in
    let there : (z : _) → Among z xs → Among z ys = λ z a. elim (f z (inr a)) [
      | inl e ↦ let lower = subst (R x) (sym e ∙ sym heads) (r.0 z a) in
          absurd (asym x x lower lower)
      | inr b ↦ b
    ] in
    let back : (z : _) → Among z ys → Among z xs = λ z b. elim (g z (inr b)) [
      | inl e ↦ let lower = subst (R y) (sym e ∙ heads) (s.0 z b) in absurd (asym y y lower lower)
      | inr a ↦ a
    ] in
    let tails = same_list R asym xs ys r.1 s.1 there back in
    cc (heads, tails)

-- ---- the other way round

place_back : {X : Type 0} (xs : List X) (k : ℕ) (d : X) → k < length xs
    → get_or (reverse xs) (length xs - 1 - k) d ≡ get_or xs k d
place_back xs k d lt =
    let at : length xs - 1 - (length xs - 1 - k) ≡ k = omega (arith, lt) in
    get_or-reverse xs (length xs - 1 - k) d (omega (arith, lt)) ∙ ap (λ i. get_or xs i d) at

-- a list turned round contains the same
pub Contains-reverse : {X : Type 0} (xs : List X) (x : X) → Contains xs x → Contains (reverse xs) x
Contains-reverse xs x h =
    let lt = h.1 in
    (length xs - 1 - h.0, omega (arith, lt, length-reverse xs), place_back xs h.0 x lt ∙ h.2)

-- what holds of all holds of all of the list turned round
pub All-reverse : {X : Type 0} (P : X → Type 0) (xs : List X) → All P xs → All P (reverse xs)
All-reverse P xs h k d lt =
    let short : k < length xs = omega (arith, lt, length-reverse xs) in
    subst P (sym (get_or-reverse xs k d short)) (h (length xs - 1 - k) d (omega (arith, short)))

-- pairs of a list turned round stand the other way
pub AllPairs-reverse : {X : Type 0} (R S : X → X → Type 0) (xs : List X)
    → ((x y : X) → R x y → S y x) → AllPairs R xs → AllPairs S (reverse xs)
AllPairs-reverse R S xs turn h i j d lt short =
    let far : j < length xs = omega (arith, short, length-reverse xs) in
    let near : i < length xs = omega (arith, lt, far) in
    let n = length xs in
    let pair = h (n - 1 - j) (n - 1 - i) d (omega (arith, lt, far)) (omega (arith, near)) in
    let first = subst (λ z. S z (get_or xs (n - 1 - j) d)) (sym (get_or-reverse xs i d near))
    (turn (get_or xs (n - 1 - j) d) (get_or xs (n - 1 - i) d) pair) in
    subst (λ z. S (get_or (reverse xs) i d) z) (sym (get_or-reverse xs j d far)) first
