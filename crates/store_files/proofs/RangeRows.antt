-- The entries of a store in a range show the rows of its map there.
use Rattle.std.proofs.Common.{◌≡◌, ◌≤◌, ℕ, List, length, Option, None, Some, inl, inr}
use Rattle.std.proofs.Common.{arith, ap, refl, subst, sym, ◌∙◌}
use Rattle.std.specs.Prelude.{take}
use Rattle.byte_fields.specs.{StoredKey, row_key}
use Rattle.kv_types.specs.{Row}
use Rattle.kv_types.specs.declared.bounds.TheConstants.{MAX_NUMBER}
use Rattle.kv_types.specs.Pages.{IsWithin}
use Rattle.kv_types.specs.Entries.{RowsAreStored}
use Rattle.kv_types.specs.SpansLemmas.{row_within}
use Rattle.kv_types.specs.{BatchContent, Entry, IsNewest, IsShown, Span, ViewShows}
use Rattle.kv_types.specs.{map_of, stored_span}
use Rattle.merge_iter.specs.{IsAlike}
use Rattle.row_pages.specs.{HasRowsOf, row_entry}
use Rattle.store_model.specs.StoresLemmas.{entries_differ}
use Rattle.store_model.specs.{StoreRepresents, StoreState, store_entries}
use Rattle.store_files.specs.RangeEntries.{HasRange}

module _ (law : RowsAreStored) (list : List BatchContent) (store : StoreState)
    (ok : StoreRepresents list store) (at : ℕ)
    (floor : store.floor ≤ at) (count : at ≤ length list) (range : Span) (entries : Entry → Type 0)
    (has : HasRange (stored_span range) (store_entries list store) entries) where
  -- what the store shows of a key in the range, these entries show
  shows_in : (key : StoredKey) (value : Option (List ℕ)) → IsWithin (stored_span range) key
      → ViewShows at (store_entries list store) key value → ViewShows at entries key value
  shows_in key value within (inl (number, it)) = inl (
    number,
    record {
      seen = (
        has.all (record { key = key; number = number; value = value }) it.seen.0 within,
        it.seen.1,
      );
      newest = λ other seen same. it.newest other (has.sound other seen.0, seen.1) same;
    },
  )
  shows_in key value within (inr it) =
      inr (λ other seen same. it.0 other (has.sound other seen.0, seen.1) same, it.1)

  shows_map : (key : List ℕ) → IsWithin range key
      → ViewShows at entries (row_key key) (map_of (take at list) key)
  shows_map key within =
      subst (ViewShows at entries (row_key key)) (law (take at list) key)
      (shows_in (row_key key) _ (row_within range key within)
      (ok.views at floor count (row_key key)))

  -- the newest entries of one key are one entry
  one_newest : (a b : Entry) → IsNewest at entries a → IsNewest at entries b → a.key ≡ b.key
      → a ≡ b
  one_newest a b m n same =
      let less = m.newest b n.seen (sym same) in
      let more = n.newest a m.seen same in
      entries_differ list store ok a b (has.sound a m.seen.0) (has.sound b n.seen.0) same
      (omega (arith, less, more))

  module _ (shown : Entry → Type 0) (alike : IsAlike shown (IsShown at entries)) where
    shown_row : (row : Row) → IsWithin range row.key
        → map_of (take at list) row.key ≡ Some row.value
        → (number : ℕ) × shown (row_entry row number)
    shown_row row within is = elim (shows_map row.key within) [
      | inl newest ↦
          let put : IsNewest at entries (row_entry row newest.0) =
          subst (λ (v : Option (List ℕ)).
          IsNewest at entries (record { key = row_key row.key; number = newest.0; value = v }))
          is newest.1 in
          (newest.0, (alike (row_entry row newest.0)).1 (record { newest = put; put = refl }))
      | inr unseen ↦ let none : None ≡ Some row.value = sym unseen.1 ∙ is in absurd cc
    ]

    row_shown : (row : Row) → IsWithin range row.key → (number : ℕ)
        → shown (row_entry row number) → map_of (take at list) row.key ≡ Some row.value
    row_shown row within number here =
        let own = ((alike (row_entry row number)).0 here).newest in
        elim (shows_map row.key within) [
          | inl newest ↦ ap (λ (e : Entry). e.value)
              (one_newest (record {
                key = row_key row.key;
                number = newest.0;
                value = map_of (take at list) row.key;
              }) (row_entry row number) newest.1 own refl)
          | inr unseen ↦ absurd (unseen.0 (row_entry row number) own.seen refl)
        ]

    -- they show the rows of the map of the first `at` batches
    pub range_has_rows : length list ≤ MAX_NUMBER
        → HasRowsOf (map_of (take at list)) range shown
    range_has_rows few = record {
      rows = λ row within. (shown_row row within, λ h. row_shown row within h.0 h.1);
      single = λ a b x y same. one_newest a b ((alike a).0 x).newest ((alike b).0 y).newest same;
      put = λ e x. ((alike e).0 x).put;
      numbers = λ e x.
          let seen = ((alike e).0 x).newest.seen.1 in omega (arith, seen, count, few);
    }
