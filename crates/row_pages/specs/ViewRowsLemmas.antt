-- The entries that a view shows are the rows of a map, and a map with a page has a walk.
use Rattle.std.proofs.Common.{◌≡◌, ◌≤◌, ℕ, List, None, Some, inl, inr, sym, refl, ap, subst, ◌∙◌}
use Rattle.std.proofs.Common.{arith}
use Rattle.std.specs.declared.cmp.Ordering.TheVariants.{Equal}
use Rattle.std.specs.Ordering.{nat_cmp, ordering_then}
use Rattle.std.specs.Cmp.{tied_itself}
use Rattle.byte_fields.specs.{row_key, stored_cmp}
use Rattle.kv_types.specs.{Row}
use Rattle.kv_types.specs.declared.bounds.TheConstants.{MAX_NUMBER}
use Rattle.kv_types.specs.Pages.{IsPage, Map}
use Rattle.kv_types.specs.{Entry, IsNewest, IsShown, Rows, Span, ViewShows}
use Rattle.merge_iter.specs.{IsAlike, IsApart, entry_cmp, entry_total}
use Rattle.row_pages.specs.Rows.{HasRowsOf, HasWalk, row_entry}

-- where a map has a page, its rows in the range have a walk
pub walk_of_page : (map : Map) (range : Span) (page : Rows) → IsPage map range page
    → HasWalk map range
walk_of_page map range page is = (_, is.walk)

module _ (at : ℕ) (entries : Entry → Type 0) (apart : IsApart entries) where
  -- the newest entries of one key are one entry
  newest_single : (a b : Entry) → IsNewest at entries a → IsNewest at entries b → a.key ≡ b.key
      → a ≡ b
  newest_single a b m n same =
      let less = m.newest b n.seen (sym same) in
      let more = n.newest a m.seen same in
      let number : a.number ≡ b.number = omega (arith, less, more) in
      let tied : entry_cmp a b ≡ Equal =
      subst (λ k. ordering_then (stored_cmp a.key k) (nat_cmp b.number a.number) ≡ Equal) same
      (subst (λ n. ordering_then (stored_cmp a.key a.key) (nat_cmp n a.number) ≡ Equal) number
      (tied_itself entry_total a))
      in
      apart a b m.seen.0 n.seen.0 tied

  module _ (shown : Entry → Type 0) (alike : IsAlike shown (IsShown at entries)) (map : Map)
      (view : (key : List ℕ) → ViewShows at entries (row_key key) (map key)) where
    shown_row : (row : Row) → map row.key ≡ Some row.value
        → (number : ℕ) × shown (row_entry row number)
    shown_row row is = elim (view row.key) [
      | inl newest ↦
          let number = newest.0 in
          let put : IsNewest at entries (row_entry row number) =
          subst (λ v.
          IsNewest at entries (record { key = row_key row.key; number = number; value = v }))
          is newest.1 in
          (number, (alike (row_entry row number)).1 (record { newest = put; put = refl }))
      | inr unseen ↦ let z : None ≡ Some row.value = sym unseen.1 ∙ is in absurd cc
    ]

    row_shown : (row : Row) (number : ℕ) → shown (row_entry row number)
        → map row.key ≡ Some row.value
    row_shown row number here =
        let own = ((alike (row_entry row number)).0 here).newest in
        elim (view row.key) [
          | inl newest ↦ ap (λ (e : Entry). e.value)
              (newest_single
              (record { key = row_key row.key; number = newest.0; value = map row.key })
              (row_entry row number) newest.1 own refl)
          | inr unseen ↦ absurd (unseen.0 (row_entry row number) own.seen refl)
        ]

    -- the entries that the view at a number shows are the rows of a map, if the map has of each key
    -- what the view has
    pub view_has_rows : (range : Span) → at ≤ MAX_NUMBER → HasRowsOf map range shown
    view_has_rows range most = record {
      rows = λ row within. (shown_row row, λ h. row_shown row h.0 h.1);
      single = λ a b x y same.
          newest_single a b ((alike a).0 x).newest ((alike b).0 y).newest same;
      put = λ e x. ((alike e).0 x).put;
      numbers = λ e x. let seen = ((alike e).0 x).newest.seen.1 in omega (arith, seen, most);
    }
