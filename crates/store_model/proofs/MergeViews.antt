-- A merge keeps the view at each number from its floor on, and so the store.
use Rattle.std.proofs.Common.{◌≡◌, ◌⊎◌, inl, inr, ℕ, ◌<◌, ◌≤◌, List, take, Option}
use Rattle.std.proofs.Common.{arith, refl}
use Rattle.byte_fields.specs.{StoredKey}
use Rattle.kv_types.specs.{BatchContent, Entry, IsShown, ViewShows, stored_map_of}
use Rattle.store_model.specs.Tables.{LevelTable, AreLeveled, tables_entries}
use Rattle.store_model.specs.Stores.{StoreState, StoreRepresents, memory_entries}
use Rattle.store_model.specs.Steps.{AreAlikeDeeper, AreEdited, IsDropped, IsMerged, IsSpentDeletion}
use Rattle.store_model.specs.Steps.{IsUnderWay, MergePlan, PlanFits, with_tables}
use Rattle.store_model.specs.ViewsLemmas.{IsSurpassed, IsNeedless, newest_before, shows_alike}
use Rattle.store_model.specs.ViewsLemmas.{shows_fewer}
use Rattle.store_model.proofs.Merges.{merge_leveled, nothing_below}

-- M is what is not in tables: the entries in memory, say, whose numbers are above `flushed`
module _ (M : Entry → Type 0) (flushed base floor : ℕ) (plan : MergePlan)
    (before outputs after : List LevelTable) (ok : AreLeveled flushed before)
    (late : (a : Entry) → M a → flushed < a.number) (fits : PlanFits base plan before)
    (alike : AreAlikeDeeper plan.tables before) (merged : IsMerged floor plan outputs)
    (edited : AreEdited plan.inputs outputs before after) where
  -- the entries before the merge
  abbrev Old : Entry → Type 0
  Old a = tables_entries before a ⊎ M a

  -- the entries after it
  abbrev New : Entry → Type 0
  New a = tables_entries after a ⊎ M a

  from_input : (a : Entry) → tables_entries plan.inputs a → tables_entries before a
  from_input a h = (h.0, fits.there h.0 h.1, h.2)

  back : (a : Entry) → New a → Old a
  back a (inl h) = elim (edited.stays h.0 h.1) [
    | inl old ↦ inl (h.0, old.0, h.2)
    | inr new ↦ inl (from_input a (merged.only a (h.0, new, h.2)).0)
  ]
  back a (inr g) = inr g

  -- every entry of the tables stays or is dropped
  stays_or_dropped : (a : Entry) → tables_entries before a
      → tables_entries after a ⊎ (tables_entries plan.inputs a × IsDropped floor plan a)
  stays_or_dropped a h = elim (edited.left h.0 h.1) [
    | inl taken ↦ elim (merged.all a (h.0, taken, h.2)) [
      | inl out ↦ inl (out.0, edited.new out.0 out.1, out.2)
      | inr dropped ↦ inr ((h.0, taken, h.2), dropped)
    ]
    | inr stayed ↦ inl (h.0, stayed, h.2)
  ]

  above_spent : (a : Entry) → tables_entries plan.inputs a → IsSpentDeletion floor plan a
      → (b : Entry) → New b → b.key ≡ a.key → a.number < b.number
  above_spent a h spent b (inl g) same =
      nothing_below flushed base floor plan before outputs after ok fits alike merged edited a h
      spent (λ out. (merged.only a out).1 (inr spent)) b same g
  above_spent a h spent b (inr g) same =
      let low = ok.numbers a (from_input a h) in
      let high = late b g in
      omega (arith, low, high)

  lost : (at : ℕ) → floor ≤ at → (key : StoredKey) → (a : Entry) → Old a
      → New a ⊎ (IsSurpassed Old New at key a ⊎ IsNeedless Old New at key a)
  lost at high key a (inr g) = inl (inr g)
  lost at high key a (inl h) = elim (stays_or_dropped a h) [
    | inl stays ↦ inl (inl stays)
    | inr drop ↦ elim drop.1 [
      | inl it ↦
          let le = it.4 in
          inr (inl (it.0, inl (from_input it.0 it.1), it.2, it.3, omega (arith, le, high)))
      | inr spent ↦ inr (inr (spent.0, above_spent a drop.0 spent))
    ]
  ]

  -- what is shown was the newest before
  pub shown_before : (at : ℕ) → floor ≤ at → (entry : Entry) (value : Option (List ℕ))
      → ViewShows at Old entry.key value → IsShown at New entry → IsShown at Old entry
  shown_before at high entry value view shown = record {
    newest = newest_before Old New at entry.key value back (lost at high entry.key) view entry refl
        shown.newest;
    put = shown.put;
  }

  -- the view is the same at each number from the floor on
  pub merge_view : (at : ℕ) → floor ≤ at → (key : StoredKey) (value : Option (List ℕ))
      → ViewShows at Old key value → ViewShows at New key value
  merge_view at high key value = shows_fewer Old New at key value back (lost at high key)

-- no entries
abbrev NoEntry : Entry → Type 0
NoEntry entry = ⊥

-- of tables alone, the view is the same
pub merge_table_view : (flushed base floor : ℕ) (plan : MergePlan)
    (before outputs after : List LevelTable) → AreLeveled flushed before
    → PlanFits base plan before → AreAlikeDeeper plan.tables before → IsMerged floor plan outputs
    → AreEdited plan.inputs outputs before after → (at : ℕ) → floor ≤ at → (key : StoredKey)
    (value : Option (List ℕ)) → ViewShows at (tables_entries before) key value
    → ViewShows at (tables_entries after) key value
merge_table_view flushed base floor plan before outputs after ok fits alike merged edited at high
    key value shown =
    let wider = shows_alike (tables_entries before) (λ a. tables_entries before a ⊎ NoEntry a) at
    key value (λ a le h. inl h) (λ a le h. elim h [ inl t ↦ t | inr none ↦ absurd none ]) shown in
    shows_alike (λ a. tables_entries after a ⊎ NoEntry a) (tables_entries after) at key value
    (λ a le h. elim h [ inl t ↦ t | inr none ↦ absurd none ]) (λ a le h. inl h)
    (merge_view NoEntry flushed base floor plan before outputs after ok (λ a none. absurd none)
    fits alike merged edited at high key value wider)

module _ (batches : List BatchContent) (store : StoreState) (plan : MergePlan) (floor : ℕ)
    (outputs after : List LevelTable) (ok : StoreRepresents batches store)
    (way : IsUnderWay store plan) (merged : IsMerged floor plan outputs)
    (edited : AreEdited plan.inputs outputs store.tables after) (low : floor ≤ store.floor) where
  pub merge_keeps : StoreRepresents batches (with_tables store after)
  merge_keeps = record {
    tables = merge_leveled store.flushed way.base floor plan store.tables outputs after ok.tables
        way.fits way.alike merged edited;
    kept_floor = ok.kept_floor;
    kept_current = ok.kept_current;
    current_flushed = ok.current_flushed;
    flushed_count = ok.flushed_count;
    floor_count = ok.floor_count;
    views = λ at high short key.
        merge_view (memory_entries batches store) store.flushed way.base floor plan store.tables
        outputs after ok.tables (λ a g. g.1) way.fits way.alike merged edited at
        (omega (arith, low, high)) key (stored_map_of (take at batches) key)
        (ok.views at high short key);
    real = λ at high short entry shown. ok.real at high short entry
        (shown_before (memory_entries batches store) store.flushed way.base floor plan store.tables
        outputs after ok.tables (λ a g. g.1) way.fits way.alike merged edited at
        (omega (arith, low, high)) entry (stored_map_of (take at batches) entry.key)
        (ok.views at high short entry.key) shown);
  }
