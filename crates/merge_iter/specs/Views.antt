-- The entries that are shown at a number are those of the view.
use Rattle.std.proofs.Common.{◌≡◌, ◌↔◌, ℕ, inl, inr, refl, sym, ◌∙◌, ap, subst, arith, List, Option}
use Rattle.std.proofs.Common.{Some, None}
use Rattle.std.specs.Cmp.{tied_itself}
use Rattle.byte_fields.specs.{StoredKey}
use Rattle.kv_types.specs.{Entry, IsNewest, IsShown, ViewShows}
use Rattle.merge_iter.specs.Order.{IsApart}
use Rattle.merge_iter.specs.EntryOrder.{entry_total}

-- what the view has of a key is in the second set, and no other value is
abbrev pub IsView : ℕ → (Entry → Type 0) → (Entry → Type 0) → Type 0
IsView at entries shown =
    (key : StoredKey) (value : List ℕ) (seen : Option (List ℕ)) → ViewShows at entries key seen →
    (seen ≡ Some value)
    ↔ ((number : ℕ) × shown (record { key = key; number = number; value = Some value }))

module _ (at : ℕ) (S : Entry → Type 0) where
  one_value : IsApart S → (k : StoredKey) (m n : ℕ) (o e : Option (List ℕ)) → m ≡ n
      → S (record { key = k; number = m; value = o })
      → S (record { key = k; number = n; value = e }) → o ≡ e
  one_value apart k m n o e same p q =
      let r = subst (λ x. S (record { key = k; number = x; value = o })) same p in
      let z = apart (record { key = k; number = n; value = o })
      (record { key = k; number = n; value = e }) r q
      (tied_itself entry_total (record { key = k; number = n; value = e })) in
      ap (λ (x : Entry). x.value) z

  shown_value : (k : StoredKey) (n : ℕ) (o : Option (List ℕ)) (v : List ℕ) → o ≡ Some v
      → IsNewest at S
      (record { key = k; number = n; value = o }) → IsShown at S
      (record { key = k; number = n; value = Some v })
  shown_value k n o v is d =
      record {
        newest = subst (λ x. IsNewest at S (record { key = k; number = n; value = x })) is d;
        put = refl;
      }

  -- the entries that are shown at a number are the view at it
  pub shown_is_view : IsApart S → IsView at S (IsShown at S)
  shown_is_view apart key value o (inl (n, d)) = (
    (λ e. (n, shown_value key n o value e d)),
    (λ h.
        let x = h.1.newest.newest (record { key = key; number = n; value = o }) d.seen refl in
        let y = d.newest (record { key = key; number = h.0; value = Some value }) h.1.newest.seen
        refl in
        let same : n ≡ h.0 = omega (arith, x, y) in
        one_value apart key n h.0 o (Some value) same d.seen.0 h.1.newest.seen.0),
  )
  shown_is_view apart key value o (inr u) = (
    (λ e. let z : None ≡ Some value = sym u.1 ∙ e in cc),
    (λ h. absurd (u.0 (record { key = key; number = h.0; value = Some value }) h.1.newest.seen
        refl)),
  )
