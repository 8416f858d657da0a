-- The laws of the order of keys, and of ranges of keys.
use Rattle.std.proofs.Common.{◌≡◌, ◌⊎◌, inl, inr, refl, sym, ◌∙◌, ap, subst}
use Rattle.std.specs.declared.cmp.Ordering.{Ordering}
use Rattle.std.specs.declared.cmp.Ordering.TheVariants.{Less, Equal, Greater}
use Rattle.std.specs.Ordering.{ordering_reverse}
use Rattle.std.specs.Cmp.{tied_itself}
use Rattle.byte_fields.specs.{StoredKey, stored_cmp}
use Rattle.byte_fields.specs.StoredKeysLemmas.{stored_total, stored_tied}
use Rattle.store_model.specs.Keys.{KeyPrecedes, KeyRange, RangeHolds, AreDisjointRanges}

-- ---- a strict order

-- no key precedes itself
pub key_never : (a : StoredKey) → KeyPrecedes a a → ⊥
key_never a h = let e : Equal ≡ Less = sym (tied_itself stored_total a) ∙ h in cc

-- what precedes a key that precedes another precedes that
pub key_chain : (a b c : StoredKey) → KeyPrecedes a b → KeyPrecedes b c → KeyPrecedes a c
key_chain a b c h k = stored_total.trans a b c h k

by_answer : (a b : StoredKey) (answer : Ordering) → stored_cmp a b ≡ answer
    → KeyPrecedes a b ⊎ ((a ≡ b) ⊎ KeyPrecedes b a)
by_answer a b Less is = inl is
by_answer a b Equal is = inr (inl (stored_tied a b is))
by_answer a b Greater is =
    inr (inr (stored_total.antisymm b a ∙ ap ordering_reverse is))

-- of two different keys one comes before the other
pub key_cases : (a b : StoredKey) → KeyPrecedes a b ⊎ ((a ≡ b) ⊎ KeyPrecedes b a)
key_cases a b = by_answer a b (stored_cmp a b) refl

-- a < b and b <= c
pub precedes_upto : (a b c : StoredKey) → KeyPrecedes a b → (KeyPrecedes c b → ⊥) → KeyPrecedes a c
precedes_upto a b c lt le = elim (key_cases b c) [
  | inl x ↦ key_chain a b c lt x
  | inr other ↦ elim other [
    | inl is ↦ subst (λ z. KeyPrecedes a z) is lt
    | inr x ↦ absurd (le x)
  ]
]

-- a <= b and b < c
pub upto_precedes : (a b c : StoredKey) → (KeyPrecedes b a → ⊥) → KeyPrecedes b c → KeyPrecedes a c
upto_precedes a b c le lt = elim (key_cases a b) [
  | inl x ↦ key_chain a b c x lt
  | inr other ↦ elim other [
    | inl is ↦ subst (λ z. KeyPrecedes z c) (sym is) lt
    | inr x ↦ absurd (le x)
  ]
]

-- ---- ranges

-- no key lies in both of two disjoint ranges
pub disjoint_keys : (a b : KeyRange) (key : StoredKey) → AreDisjointRanges a b → RangeHolds a key
    → RangeHolds b key → ⊥
disjoint_keys a b key (inl x) p q = p.1 (precedes_upto a.greatest b.least key x q.0)
disjoint_keys a b key (inr x) p q = q.1 (precedes_upto b.greatest a.least key x p.0)

-- ranges are disjoint both ways
pub disjoint_back : (a b : KeyRange) → AreDisjointRanges a b → AreDisjointRanges b a
disjoint_back a b (inl x) = inr x
disjoint_back a b (inr x) = inl x
