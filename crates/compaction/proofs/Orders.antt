-- What the order of entries says of their keys and numbers.
use Rattle.std.proofs.Common.{◌≡◌, ◌<◌, ℕ, ◌⊎◌, inl, inr, refl, sym, ◌∙◌, ap}
use Rattle.std.specs.declared.cmp.Ordering.{Ordering}
use Rattle.std.specs.declared.cmp.Ordering.TheVariants.{Less, Equal, Greater}
use Rattle.std.specs.Ordering.{nat_cmp, ordering_then, is_eq}
use Rattle.std.proofs.lemmas.Cmp.{ranked, by_ranked}
use Rattle.std.proofs.lemmas.Map.Text.{is_eq-slice_cmp}
use Rattle.std.proofs.lemmas.Slice.Eq.{bytes_eq-Decides}
use Rattle.byte_fields.specs.{StoredKey, stored_cmp}
use Rattle.kv_types.specs.{Entry}
use Rattle.merge_iter.specs.declared.Direction.TheVariants.{Forward}
use Rattle.merge_iter.specs.{EntryPrecedes, entry_cmp}
use Rattle.store_model.specs.{KeyPrecedes}

below : (x y : ℕ) → nat_cmp x y ≡ Less → x < y
below x y e =
    by_ranked (x < y) (x ≡ y) (y < x) (nat_cmp x y) (ranked x y (nat_cmp x y) refl)
    (λ is h. h) (λ is h. absurd (let k : Equal ≡ Less = sym is ∙ e in cc))
    (λ is h. absurd (let k : Greater ≡ Less = sym is ∙ e in cc))

same_key : (k l : StoredKey) → stored_cmp k l ≡ Equal → k ≡ l
same_key k l e = (bytes_eq-Decides k l).0 (sym (is_eq-slice_cmp k l) ∙ ap is_eq e)

split : (a b : Entry) (o : Ordering) → stored_cmp a.key b.key ≡ o → entry_cmp a b ≡ Less
    → KeyPrecedes a.key b.key ⊎ ((a.key ≡ b.key) × (b.number < a.number))
split a b Less is h = inl is
split a b Equal is h =
    inr (
      same_key a.key b.key is,
      below b.number a.number
          (sym (ap (λ o. ordering_then o (nat_cmp b.number a.number)) is) ∙ h),
    )
split a b Greater is h =
    absurd (let k : Greater ≡ Less = sym (ap (λ o. ordering_then o (nat_cmp b.number a.number)) is)
    ∙ h in cc)

-- a lesser key, or in one key a greater number
pub less_parts : (a b : Entry) → EntryPrecedes Forward a b
    → KeyPrecedes a.key b.key ⊎ ((a.key ≡ b.key) × (b.number < a.number))
less_parts a b h = split a b (stored_cmp a.key b.key) refl h
