-- The order of entries by their keys.
use Rattle.std.proofs.Common.{◌≡◌, ◌≤◌, ◌⊎◌, ◌↔◌, ℕ, List, inl, inr, sym, ap, subst, ◌∙◌, arith}
use Rattle.std.proofs.Common.{Bool, IsTrue}
use Rattle.std.specs.declared.cmp.Ordering.{Ordering}
use Rattle.std.specs.Ordering.{is_lt, nat_cmp, ordering_then}
use Rattle.byte_fields.specs.Order.{IsBelow}
use Rattle.byte_fields.specs.ByteOrderLemmas.{Less-below, below_is_strict, lt_below, not_below}
use Rattle.byte_fields.specs.{stored_cmp}
use Rattle.kv_types.specs.declared.bounds.TheConstants.{MAX_NUMBER}
use Rattle.kv_types.specs.{Entry}
use Rattle.merge_iter.specs.declared.Direction.{Direction}
use Rattle.merge_iter.specs.declared.Direction.TheVariants.{Forward, Backward}
use Rattle.merge_iter.specs.EntryOrder.{never, not_both}
use Rattle.merge_iter.specs.EntryParts.{numbers_fall}
use Rattle.merge_iter.specs.{EntryPrecedes, spot}
use Rattle.row_pages.specs.Walking.{KeyIsBefore}

below_before : (a b : Entry) → IsBelow a.key b.key → EntryPrecedes Forward a b
below_before a b lower =
    ap (λ o. ordering_then o (nat_cmp b.number a.number)) (Less-below a.key b.key lower)

-- an entry of a key that is met before another's is met before that one
pub entry_before : (way : Direction) (a b : Entry) → KeyIsBefore way a.key b.key
    → EntryPrecedes way a b
entry_before Forward a b lower = below_before a b lower
entry_before Backward a b lower = below_before b a lower

-- of two keys one is met before the other
pub key_cases : (way : Direction) (a b : List ℕ)
    → KeyIsBefore way a b ⊎ ((a ≡ b) ⊎ KeyIsBefore way b a)
key_cases Forward a b = below_is_strict.total a b
key_cases Backward a b = elim (below_is_strict.total a b) [
  | inl h ↦ inr (inr h)
  | inr other ↦ elim other [ inl same ↦ inr (inl same) | inr h ↦ inl h ]
]

-- no key is met before itself
pub key_never : (way : Direction) (a : List ℕ) → KeyIsBefore way a a → ⊥
key_never Forward a h = below_is_strict.never a h
key_never Backward a h = below_is_strict.never a h

-- what is met before one that is met before another is met before that
pub key_chain : (way : Direction) (a b c : List ℕ) → KeyIsBefore way a b → KeyIsBefore way b c
    → KeyIsBefore way a c
key_chain Forward a b c h g = below_is_strict.through a b c h g
key_chain Backward a b c h g = below_is_strict.through c b a g h

-- of two entries of a set with one entry a key, the order is that of their keys
pub key_before : (way : Direction) (entries : Entry → Type 0)
    → ((a b : Entry) → entries a → entries b → a.key ≡ b.key → a ≡ b)
    → (a b : Entry) → entries a → entries b → EntryPrecedes way a b → KeyIsBefore way a.key b.key
key_before way entries single a b has_a has_b before = elim (key_cases way a.key b.key) [
  | inl h ↦ h
  | inr other ↦ elim other [
    | inl same ↦ absurd (never way b
        (subst (λ (e : Entry). EntryPrecedes way e b) (single a b has_a has_b same) before))
    | inr later ↦ absurd (not_both way a b before (entry_before way b a later))
  ]
]

-- the entries that are not before a key with the greatest number are those of that key and greater
-- ones
pub from_spot : (key : List ℕ) (entry : Entry) → entry.number ≤ MAX_NUMBER
    → (EntryPrecedes Forward entry (spot key MAX_NUMBER) → ⊥)
    ↔ ((key ≡ entry.key) ⊎ IsBelow key entry.key)
from_spot key entry most = (
  λ late. not_below key entry.key (λ lower. late (below_before entry (spot key MAX_NUMBER) lower)),
  λ from before. elim from [
    | inl same ↦ let lt = numbers_fall entry (spot key MAX_NUMBER) before (sym same) in
        omega (arith, lt, most)
    | inr lower ↦ not_both Forward entry (spot key MAX_NUMBER) before
        (below_before (spot key MAX_NUMBER) entry lower)
  ],
)

-- the test for less of two keys says which is below
pub below_test : (a b k : List ℕ) (o : Ordering) (t : Bool) → k ≡ b → o ≡ stored_cmp a k
    → t ≡ is_lt o → IsTrue t ↔ IsBelow a b
below_test a b k o t same order test =
    subst (λ x. IsTrue x ↔ IsBelow a b)
    (sym (test ∙ ap is_lt (order ∙ ap (stored_cmp a) same))) (lt_below a b)
