-- Appends, and rises of the floor, keep the store.
use Rattle.std.proofs.Common.{◌≡◌, ◌⊎◌, inl, inr, ℕ, suc, ◌<◌, ◌≤◌, List, [], ◌∷◌, ◌++◌, length}
use Rattle.std.proofs.Common.{take}
use Rattle.std.proofs.Common.{slice_get, Option, Some, None, refl, sym, ◌∙◌, subst, arith}
use Rattle.std.proofs.Common.{length-append}
use Rattle.std.proofs.lemmas.Bool.{cases_lt}
use Rattle.std.proofs.lemmas.List.{take-append-le}
use Rattle.kv_types.specs.Examples.{entry_at}
use Rattle.kv_types.specs.{BatchContent, Entry, IsShown, ViewShows, all_entries, last_edit}
use Rattle.kv_types.specs.{stored_edits}
use Rattle.kv_types.specs.{stored_map_of}
use Rattle.kv_types.specs.Entries.{ViewsAreStored}
use Rattle.store_model.specs.Stores.{StoreState, StoreRepresents, store_entries}
use Rattle.store_model.specs.Steps.{IsRaise, raised_store}
use Rattle.store_model.specs.PlacesLemmas.{slice_get_longer, slice_get_shorter, slice_get_last}
use Rattle.store_model.specs.ViewsLemmas.{seen_already, shown_in_both, shows_alike, shows_further}
use Rattle.store_model.specs.ViewsLemmas.{shows_latest}

-- ---- the entries of one batch more

module _ (l : List BatchContent) (batch : BatchContent) where
  -- the list with the batch
  abbrev Longer : List BatchContent
  Longer = l ++ batch ∷ []

  entries_longer : (a : Entry) → all_entries l a → all_entries Longer a
  entries_longer a (i, b, is, of) = (i, b, slice_get_longer l (batch ∷ []) i b is, of)

  entries_shorter : (a : Entry) → a.number ≤ length l → all_entries Longer a → all_entries l a
  entries_shorter a le (i, b, is, of) =
      let number = of.0 in
      (i, b, slice_get_shorter l (batch ∷ []) i b (omega (arith, le, number)) is, of)

  new_entry : (key : List ℕ) (value : Option (List ℕ)) → last_edit (stored_edits batch) key
      ≡ Some value
      → all_entries Longer (entry_at key (suc (length l)) value)
  new_entry key value is = (length l, batch, slice_get_last l batch, (refl, is))

  -- where the batch has no edit of the key, it gives no entry
  no_new_entry : (key : List ℕ) → last_edit (stored_edits batch) key ≡ None
      → (value : Option (List ℕ))
      → all_entries Longer (entry_at key (suc (length l)) value) → ⊥
  no_new_entry key none value (i, b, is, of) =
      let number = of.0 in
      let at : i ≡ length l = omega (arith, number) in
      let there : slice_get Longer (length l) ≡ Some b =
      subst (λ n. slice_get Longer n ≡ Some b) at is in
      let both : Some b ≡ Some batch = sym there ∙ slice_get_last l batch in
      let same : b ≡ batch = cc in
      let last : last_edit (stored_edits batch) key ≡ Some value =
      subst (λ z. last_edit (stored_edits z) key ≡ Some value) same of.1 in
      absurd (let h : None ≡ Some value = sym none ∙ last in cc)

there_or_not : {A : Type 0} (found : Option A) → (found ≡ None) ⊎ ((x : A) × (found ≡ Some x))
there_or_not None = inl refl
there_or_not (Some x) = inr (x, refl)

module _ (law : ViewsAreStored) (l : List BatchContent) (store : StoreState) (batch : BatchContent)
    (ok : StoreRepresents l store) where
  -- ---- an append

  store_longer : (a : Entry) → store_entries l store a → store_entries (Longer l batch) store a
  store_longer a (inl h) = inl h
  store_longer a (inr g) = inr (g.0, g.1, entries_longer l batch a g.2)

  store_shorter : (a : Entry) → a.number ≤ length l → store_entries (Longer l batch) store a
      → store_entries l store a
  store_shorter a le (inl h) = inl h
  store_shorter a le (inr g) = inr (g.0, g.1, entries_shorter l batch a le g.2)

  old_views : (at : ℕ) → at ≤ length l → (key : List ℕ) (value : Option (List ℕ))
      → ViewShows at (store_entries l store) key value
      → ViewShows at (store_entries (Longer l batch) store) key value
  old_views at short key value =
      shows_alike (store_entries l store) (store_entries (Longer l batch) store) at key value
      (λ a le h. store_longer a h) (λ a le h. store_shorter a (omega (arith, le, short)) h)

  -- where the batch has no edit of the key, the map is as before
  map_stays : (key : List ℕ) → last_edit (stored_edits batch) key ≡ None
      → stored_map_of (take (suc (length l)) (Longer l batch)) key
      ≡ stored_map_of (take (length l) l) key
  map_stays key none =
      let value = stored_map_of (take (length l) l) key in
      let before = (law l (length l) key value).1 refl in
      let longer : ViewShows (length l) (all_entries (Longer l batch)) key value =
      shows_alike (all_entries l) (all_entries (Longer l batch)) (length l) key value
      (λ a le h. entries_longer l batch a h) (λ a le h. entries_shorter l batch a le h) before in
      (law (Longer l batch) (suc (length l)) key value).0
      (shows_further (all_entries (Longer l batch)) (length l) key value
      (no_new_entry l batch key none) longer)

  no_new_in_store : (key : List ℕ) → last_edit (stored_edits batch) key ≡ None
      → (value : Option (List ℕ))
      → store_entries (Longer l batch) store (entry_at key (suc (length l)) value) → ⊥
  no_new_in_store key none value (inl h) =
      let a = ok.tables.numbers (entry_at key (suc (length l)) value) h in
      let b = ok.flushed_count in
      omega (arith, a, b)
  no_new_in_store key none value (inr g) = no_new_entry l batch key none value g.2

  new_in_store : (key : List ℕ) (value : Option (List ℕ)) → last_edit (stored_edits batch) key
      ≡ Some value
      → store_entries (Longer l batch) store (entry_at key (suc (length l)) value)
  new_in_store key value is =
      let a = ok.kept_floor in
      let b = ok.floor_count in
      let c = ok.flushed_count in
      inr (omega (arith, a, b), omega (arith, c), new_entry l batch key value is)

  new_view : (key : List ℕ) → ViewShows (suc (length l)) (store_entries (Longer l batch) store) key
      (stored_map_of (take (suc (length l)) (Longer l batch)) key)
  new_view key =
      let S : Entry → Type 0 = store_entries (Longer l batch) store in
      let n = length l in
      elim (there_or_not (last_edit (stored_edits batch) key)) [
        | inl none ↦
            let value = stored_map_of (take n l) key in
            let old = ok.views n ok.floor_count (omega arith) key in
            subst (λ v. ViewShows (suc n) S key v) (sym (map_stays key none))
            (shows_further S n key value (no_new_in_store key none)
            (old_views n (omega arith) key value old))
        | inr some ↦
            let shown = shows_latest (all_entries (Longer l batch)) (suc n) key some.0
            (new_entry l batch key some.0 some.1) in
            let is = (law (Longer l batch) (suc n) key some.0).0 shown in
            subst (λ v. ViewShows (suc n) S key v) (sym is)
            (shows_latest S (suc n) key some.0 (new_in_store key some.0 some.1))
      ]

  all_views : (at : ℕ) → store.floor ≤ at → at ≤ length (Longer l batch) → (key : List ℕ)
      → ViewShows at (store_entries (Longer l batch) store) key
      (stored_map_of (take at (Longer l batch)) key)
  all_views at high short key = elim (cases_lt (length l) at) [
    | inl lt ↦
        let more = length-append l (batch ∷ []) in
        let is : at ≡ suc (length l) = omega (arith, lt, short, more) in
        subst (λ n. ViewShows n (store_entries (Longer l batch) store) key
        (stored_map_of (take n (Longer l batch)) key)) (sym is) (new_view key)
    | inr le ↦ subst
        (λ z. ViewShows at (store_entries (Longer l batch) store) key (stored_map_of z key))
        (sym (take-append-le at l (batch ∷ []) le))
        (old_views at le key (stored_map_of (take at l) key) (ok.views at high le key))
  ]

  -- what the store shows up to the old length, the batches show
  old_real : (at : ℕ) → store.floor ≤ at → at ≤ length l → (entry : Entry)
      → IsShown at (store_entries (Longer l batch) store) entry
      → IsShown at (all_entries (Longer l batch)) entry
  old_real at high short entry shown =
      shown_in_both (all_entries l) (all_entries (Longer l batch)) at entry
      (λ a le h. entries_longer l batch a h)
      (λ a le h. entries_shorter l batch a (omega (arith, le, short)) h)
      (ok.real at high short entry
      (shown_in_both (store_entries (Longer l batch) store) (store_entries l store) at entry
      (λ a le h. store_shorter a (omega (arith, le, short)) h) (λ a le h. store_longer a h) shown))

  -- an entry of the new batch is of the batches
  new_real : (entry : Entry) → length l < entry.number
      → IsShown (suc (length l)) (store_entries (Longer l batch) store) entry
      → IsShown (suc (length l)) (all_entries (Longer l batch)) entry
  new_real entry late shown = record {
    newest = record {
      seen = (
        elim shown.newest.seen.0 [
          | inl h ↦
              let a = ok.tables.numbers entry h in
              let b = ok.flushed_count in
              absurd (omega (arith, a, b, late))
          | inr g ↦ g.2
        ],
        shown.newest.seen.1,
      );
      newest = λ other seen same. let le = seen.1 in omega (arith, le, late);
    };
    put = shown.put;
  }

  -- an older one is, since the batch has no edit of its key
  kept_real : (entry : Entry) → entry.number ≤ length l
      → IsShown (suc (length l)) (store_entries (Longer l batch) store) entry
      → IsShown (suc (length l)) (all_entries (Longer l batch)) entry
  kept_real entry early shown =
      let n = length l in
      let key = entry.key in
      elim (there_or_not (last_edit (stored_edits batch) key)) [
        | inl none ↦
            let was : IsShown n (store_entries (Longer l batch) store) entry = record {
              newest = record {
                seen = (shown.newest.seen.0, early);
                newest = λ other seen same.
                    let le = seen.1 in
                    shown.newest.newest other (seen.0, omega (arith, le)) same;
              };
              put = shown.put;
            } in
            let is = old_real n ok.floor_count (omega arith) entry was in
            record {
              newest = record {
                seen = (is.newest.seen.0, shown.newest.seen.1);
                newest = λ other seen same. is.newest.newest other
                    (seen_already (all_entries (Longer l batch)) n key
                    (no_new_entry l batch key none) other seen same) same;
              };
              put = shown.put;
            }
        | inr some ↦
            let new = entry_at key (suc n) some.0 in
            let le = shown.newest.newest new (new_in_store key some.0 some.1, omega arith) refl in
            absurd (omega (arith, le, early))
      ]

  all_real : (at : ℕ) → store.floor ≤ at → at ≤ length (Longer l batch) → (entry : Entry)
      → IsShown at (store_entries (Longer l batch) store) entry
      → IsShown at (all_entries (Longer l batch)) entry
  all_real at high short entry shown = elim (cases_lt (length l) at) [
    | inl lt ↦
        let more = length-append l (batch ∷ []) in
        let is : at ≡ suc (length l) = omega (arith, lt, short, more) in
        let here = subst (λ n. IsShown n (store_entries (Longer l batch) store) entry) is shown in
        subst (λ n. IsShown n (all_entries (Longer l batch)) entry) (sym is)
        (elim (cases_lt (length l) entry.number) [
          | inl late ↦ new_real entry late here
          | inr early ↦ kept_real entry early here
        ])
    | inr le ↦ old_real at high le entry shown
  ]

  pub append_keeps : StoreRepresents (l ++ batch ∷ []) store
  append_keeps =
      let a = ok.flushed_count in
      let b = ok.floor_count in
      let more = length-append l (batch ∷ []) in
      record {
        tables = ok.tables;
        kept_floor = ok.kept_floor;
        kept_current = ok.kept_current;
        current_flushed = ok.current_flushed;
        flushed_count = omega (arith, a, more);
        floor_count = omega (arith, b, more);
        views = all_views;
        real = all_real;
      }

-- ---- a rise

module _ (l : List BatchContent) (store : StoreState) (floor kept : ℕ)
    (ok : StoreRepresents l store) (rise : IsRaise l store floor kept) where
  to_raised : (a : Entry) → store_entries l store a
      → store_entries l (raised_store store floor kept) a
  to_raised a (inl h) = inl h
  to_raised a (inr g) =
      let p = rise.kept_current in
      let q = ok.current_flushed in
      let r = g.1 in
      inr (omega (arith, p, q, r), g.1, g.2)

  from_raised : (a : Entry) → store_entries l (raised_store store floor kept) a
      → store_entries l store a
  from_raised a (inl h) = inl h
  from_raised a (inr g) =
      let p = rise.kept_rises in
      let q = g.0 in
      inr (omega (arith, p, q), g.1, g.2)

  pub raise_keeps : StoreRepresents l (raised_store store floor kept)
  raise_keeps = record {
    tables = ok.tables;
    kept_floor = rise.kept_floor;
    kept_current = rise.kept_current;
    current_flushed = ok.current_flushed;
    flushed_count = ok.flushed_count;
    floor_count = rise.floor_count;
    views = λ at high short key.
        let up = rise.floor_rises in
        shows_alike (store_entries l store) (store_entries l (raised_store store floor kept)) at key
        (stored_map_of (take at l) key) (λ a le h. to_raised a h) (λ a le h. from_raised a h)
        (ok.views at (omega (arith, up, high)) short key);
    real = λ at high short entry shown.
        let up = rise.floor_rises in
        ok.real at (omega (arith, up, high)) short entry
        (shown_in_both (store_entries l (raised_store store floor kept)) (store_entries l store) at
        entry (λ a le h. from_raised a h) (λ a le h. to_raised a h) shown);
  }
