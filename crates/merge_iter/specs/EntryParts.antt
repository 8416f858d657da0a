-- What the order of entries says of their keys and numbers.
use Rattle.std.proofs.Common.{◌≡◌, ◌<◌, ℕ, ◌⊎◌, inl, inr, refl, sym, ◌∙◌, ap, subst}
use Rattle.std.specs.declared.cmp.Ordering.{Ordering}
use Rattle.std.specs.declared.cmp.Ordering.TheVariants.{Less, Equal, Greater}
use Rattle.std.specs.Ordering.{nat_cmp, ordering_then}
use Rattle.std.specs.Cmp.{tied_itself}
use Rattle.std.proofs.lemmas.Cmp.{ranked, by_ranked}
use Rattle.byte_fields.specs.{StoredKey, stored_cmp}
use Rattle.byte_fields.specs.StoredKeysLemmas.{stored_tied, stored_total}
use Rattle.kv_types.specs.{Entry}
use Rattle.merge_iter.specs.Order.{entry_cmp}

below : (x y : ℕ) → nat_cmp x y ≡ Less → x < y
below x y e =
    by_ranked (x < y) (x ≡ y) (y < x) (nat_cmp x y) (ranked x y (nat_cmp x y) refl)
    (λ is h. h) (λ is h. absurd (let k : Equal ≡ Less = sym is ∙ e in cc))
    (λ is h. absurd (let k : Greater ≡ Less = sym is ∙ e in cc))

level : (x y : ℕ) → nat_cmp x y ≡ Equal → x ≡ y
level x y e =
    by_ranked (x < y) (x ≡ y) (y < x) (nat_cmp x y) (ranked x y (nat_cmp x y) refl)
    (λ is h. absurd (let k : Less ≡ Equal = sym is ∙ e in cc)) (λ is h. h)
    (λ is h. absurd (let k : Greater ≡ Equal = sym is ∙ e in cc))

split : (a b : Entry) (o : Ordering) → stored_cmp a.key b.key ≡ o → entry_cmp a b ≡ Less
    → (stored_cmp a.key b.key ≡ Less) ⊎ ((a.key ≡ b.key) × (b.number < a.number))
split a b Less is h = inl is
split a b Equal is h =
    inr (
      stored_tied a.key b.key is,
      below b.number a.number
          (sym (ap (λ o. ordering_then o (nat_cmp b.number a.number)) is) ∙ h),
    )
split a b Greater is h =
    absurd (let k : Greater ≡ Less = sym (ap (λ o. ordering_then o (nat_cmp b.number a.number)) is)
    ∙ h in cc)

-- a lesser key, or in one key a greater number
less_parts : (a b : Entry) → entry_cmp a b ≡ Less → (stored_cmp a.key b.key ≡ Less)
    ⊎ ((a.key ≡ b.key) × (b.number < a.number))
less_parts a b h = split a b (stored_cmp a.key b.key) refl h

tie : (a b : Entry) (o : Ordering) → stored_cmp a.key b.key ≡ o → entry_cmp a b ≡ Equal
    → (a.key ≡ b.key) × (a.number ≡ b.number)
tie a b Less is h = absurd (let k : Less ≡ Equal =
    sym (ap (λ o. ordering_then o (nat_cmp b.number a.number)) is) ∙ h in cc)
tie a b Equal is h = (
  stored_tied a.key b.key is,
  let tied = sym (ap (λ o. ordering_then o (nat_cmp b.number a.number)) is) ∙ h in
      sym (level b.number a.number tied),
)
tie a b Greater is h =
    absurd (let k : Greater ≡ Equal = sym (ap (λ o. ordering_then o (nat_cmp b.number a.number)) is)
    ∙ h in cc)

-- one key and one number
pub equal_parts : (a b : Entry) → entry_cmp a b ≡ Equal → (a.key ≡ b.key) × (a.number ≡ b.number)
equal_parts a b h = tie a b (stored_cmp a.key b.key) refl h

key_never : (k l : StoredKey) → k ≡ l → stored_cmp k l ≡ Less → ⊥
key_never k l e h =
    let z : stored_cmp l l ≡ Less = subst (λ x. stored_cmp x l ≡ Less) e h in
    let y : Equal ≡ Less = sym (tied_itself stored_total l) ∙ z in cc

-- in one key numbers fall
pub numbers_fall : (a b : Entry) → entry_cmp a b ≡ Less → a.key ≡ b.key → b.number < a.number
numbers_fall a b h e = elim (less_parts a b h) [
  | inl k ↦ absurd (key_never a.key b.key e k)
  | inr k ↦ k.1
]

-- the entries of a key stand side by side
pub between : (a b c : Entry) → entry_cmp a b ≡ Less → entry_cmp b c ≡ Less → a.key ≡ c.key
    → b.key ≡ c.key
between a b c h k e = elim (less_parts b c k) [
  | inr n ↦ n.0
  | inl n ↦ elim (less_parts a b h) [
    | inr m ↦ sym m.0 ∙ e
    | inl m ↦ absurd (key_never a.key c.key e (stored_total.trans a.key b.key c.key m n))
  ]
]
