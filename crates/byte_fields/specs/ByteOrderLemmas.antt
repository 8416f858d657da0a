-- Byte order is std's order of byte slices, and a strict order.
use Rattle.std.proofs.Common.{◌≡◌, ◌<◌, ◌⊎◌, inl, inr, ℕ, List, [], ◌∷◌, Ordering, IsTrue, ◌↔◌}
use Rattle.std.proofs.Common.{true, refl, sym, ap, subst, ◌∙◌, arith}
use Rattle.std.specs.Cmp.Lexicographic.{slice_cmp}
use Rattle.std.specs.declared.cmp.Ordering.TheVariants.{Less, Equal, Greater}
use Rattle.std.specs.Ordering.{nat_cmp, ordering_then, is_lt}
use Rattle.std.proofs.lemmas.Bool.{cases_lt}
use Rattle.std.proofs.lemmas.Cmp.{ranked, by_ranked}
use Rattle.byte_fields.specs.Order.{IsBelow, IsStrictOrder}

-- ---- the answers of `cmp`

-- what compares as less is below
pub below-Less : (a b : List ℕ) → slice_cmp nat_cmp a b ≡ Less → IsBelow a b
below-Less [] [] e = absurd cc
below-Less [] (y ∷ b) e = tt
below-Less (x ∷ a) [] e = absurd cc
below-Less (x ∷ a) (y ∷ b) e =
    let rest = slice_cmp nat_cmp a b in
    by_ranked (x < y) (x ≡ y) (y < x) (nat_cmp x y) (ranked x y (nat_cmp x y) refl)
    (λ is lt. inl lt)
    (λ is same. inr (same, below-Less a b (ap (λ o. ordering_then o rest) (sym is) ∙ e)))
    (λ is gt. let h : Greater ≡ Less = ap (λ o. ordering_then o rest) (sym is) ∙ e in absurd cc)

-- a lower number compares as less
pub nat_cmp-Less : (x y : ℕ) → x < y → nat_cmp x y ≡ Less
nat_cmp-Less x y lt =
    by_ranked (x < y) (x ≡ y) (y < x) (nat_cmp x y) (ranked x y (nat_cmp x y) refl)
    (λ is h. is) (λ is h. absurd (omega (arith, lt, h))) (λ is h. absurd (omega (arith, lt, h)))

-- a number compares as equal to itself
pub nat_cmp-Equal : (x y : ℕ) → x ≡ y → nat_cmp x y ≡ Equal
nat_cmp-Equal x y same =
    by_ranked (x < y) (x ≡ y) (y < x) (nat_cmp x y) (ranked x y (nat_cmp x y) refl)
    (λ is h. absurd (omega (arith, same, h))) (λ is h. is) (λ is h. absurd (omega (arith, same, h)))

-- a higher number compares as greater
pub nat_cmp-Greater : (x y : ℕ) → y < x → nat_cmp x y ≡ Greater
nat_cmp-Greater x y gt =
    by_ranked (x < y) (x ≡ y) (y < x) (nat_cmp x y) (ranked x y (nat_cmp x y) refl)
    (λ is h. absurd (omega (arith, gt, h))) (λ is h. absurd (omega (arith, gt, h))) (λ is h. is)

-- what is below compares as less
pub Less-below : (a b : List ℕ) → IsBelow a b → slice_cmp nat_cmp a b ≡ Less
Less-below [] [] h = absurd h
Less-below [] (y ∷ b) h = refl
Less-below (x ∷ a) [] h = absurd h
Less-below (x ∷ a) (y ∷ b) (inl lt) =
    ap (λ o. ordering_then o (slice_cmp nat_cmp a b)) (nat_cmp-Less x y lt)
Less-below (x ∷ a) (y ∷ b) (inr p) =
    ap (λ o. ordering_then o (slice_cmp nat_cmp a b)) (nat_cmp-Equal x y p.0) ∙ Less-below a b p.1

only_Less : (o : Ordering) → is_lt o ≡ true → o ≡ Less
only_Less Less e = refl
only_Less Equal e = absurd cc
only_Less Greater e = absurd cc

-- the answer of `<`
pub lt_below : (a b : List ℕ) → IsTrue (is_lt (slice_cmp nat_cmp a b)) ↔ IsBelow a b
lt_below a b =
    (λ e. below-Less a b (only_Less (slice_cmp nat_cmp a b) e), λ h. ap is_lt (Less-below a b h))

-- ---- a strict order

never : (a : List ℕ) → IsBelow a a → ⊥
never [] h = h
never (x ∷ a) (inl lt) = omega (arith, lt)
never (x ∷ a) (inr p) = never a p.1

through : (a b c : List ℕ) → IsBelow a b → IsBelow b c → IsBelow a c
through [] [] c h g = absurd h
through [] (y ∷ b) [] h g = absurd g
through [] (y ∷ b) (z ∷ c) h g = tt
through (x ∷ a) [] c h g = absurd h
through (x ∷ a) (y ∷ b) [] h g = absurd g
through (x ∷ a) (y ∷ b) (z ∷ c) (inl p) (inl q) = inl (omega (arith, p, q))
through (x ∷ a) (y ∷ b) (z ∷ c) (inl p) (inr q) = let e = q.0 in inl (omega (arith, p, e))
through (x ∷ a) (y ∷ b) (z ∷ c) (inr p) (inl q) = let e = p.0 in inl (omega (arith, q, e))
through (x ∷ a) (y ∷ b) (z ∷ c) (inr p) (inr q) = inr (p.0 ∙ q.0, through a b c p.1 q.1)

total : (a b : List ℕ) → IsBelow a b ⊎ ((a ≡ b) ⊎ IsBelow b a)
total [] [] = inr (inl refl)
total [] (y ∷ b) = inl tt
total (x ∷ a) [] = inr (inr tt)
total (x ∷ a) (y ∷ b) =
    elim (cases_lt x y) [
      | inl lt ↦ inl (inl lt)
      | inr le ↦ elim (cases_lt y x) [
        | inl gt ↦ inr (inr (inl gt))
        | inr ge ↦
            let same : x ≡ y = omega (arith, le, ge) in
            elim (total a b) [
              | inl lower ↦ inl (inr (same, lower))
              | inr other ↦ elim other [
                | inl is ↦ inr (inl (cc (same, is)))
                | inr higher ↦ inr (inr (inr (sym same, higher)))
              ]
            ]
      ]
    ]

-- the order of keys is strict and total
pub below_is_strict : IsStrictOrder IsBelow
below_is_strict = record { never = never; through = through; total = total }

-- from <= key, as the code tests it
pub not_below : (from key : List ℕ) → (IsBelow key from → ⊥) → (from ≡ key) ⊎ IsBelow from key
not_below from key h = elim (total from key) [
  | inl lower ↦ inr lower
  | inr other ↦ elim other [ inl same ↦ inl same | inr higher ↦ absurd (h higher) ]
]

-- no key is below one that is at or below it
pub from_below : (from key : List ℕ) → (from ≡ key) ⊎ IsBelow from key → IsBelow key from → ⊥
from_below from key (inl same) h = never from (subst (λ k. IsBelow k from) (sym same) h)
from_below from key (inr lower) h = never from (through from key from lower h)
