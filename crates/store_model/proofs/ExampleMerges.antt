-- The worked example: its merge at two floors.
use Rattle.std.proofs.Common.{◌≡◌, ◌⊎◌, inl, inr, ℕ, ◌<◌, ◌≤◌, List, [], ◌∷◌, Contains}
use Rattle.std.proofs.Common.{Some, None, codes, refl, arith}
use Rattle.kv_types.specs.{Entry, IsUnseen}
use Rattle.kv_types.specs.Entries.{ViewsAreStored}
use Rattle.store_model.specs.Keys.{AreDisjointRanges, RangeHolds, RangeLiesIn}
use Rattle.store_model.specs.Tables.{FitsRange, LevelTable, tables_entries}
use Rattle.store_model.specs.Stores.{StoreRepresents, memory_entries}
use Rattle.store_model.specs.Outputs.{HaveOwnRanges}
use Rattle.store_model.specs.Steps.{AreEdited, IsDropped, IsMerged, IsPlanned, IsRaise}
use Rattle.store_model.specs.Steps.{raised_store}
use Rattle.store_model.specs.LookUps.{TableLacks}
use Rattle.store_model.specs.Examples.{MergeExamples, both_keys, both_merge, deep_table, first_key}
use Rattle.store_model.specs.Examples.{flushed_table, full_table, merged_store, merged_table}
use Rattle.store_model.specs.Examples.{three_batches, two_tables}
use Rattle.store_model.specs.Examples.{key_a, key_b}
use Rattle.store_model.specs.PlacesLemmas.{contains_head, contains_it, contains_next, for_more}
use Rattle.store_model.specs.PlacesLemmas.{for_one, for_two}
use Rattle.store_model.proofs.ExampleEntries.{a1, a1_there, a2, a2_there, b1, b1_there, b2}
use Rattle.store_model.proofs.ExampleEntries.{b2_there, for_memory}
use Rattle.store_model.proofs.ExampleEntries.{for_tables, other_key}
use Rattle.store_model.proofs.ExampleStores.{a_not_a, b_not_a, b_not_b, c_not_b, leveled}
use Rattle.store_model.proofs.ExampleStores.{two_represent}
use Rattle.store_model.proofs.Grows.{raise_keeps}
use Rattle.store_model.proofs.MergeViews.{merge_keeps}
use Rattle.store_model.proofs.Plans.{plan_under_way}

-- ---- the plan

flushed_overlaps : AreDisjointRanges both_keys both_keys → ⊥
flushed_overlaps (inl h) = b_not_a h
flushed_overlaps (inr h) = b_not_a h

planned : IsPlanned both_merge
planned = record {
  level = omega arith;
  there = λ t in_t. in_t;
  levels = for_two (λ t. (t.level ≡ 0) ⊎ (t.level ≡ 1)) flushed_table deep_table (inl refl)
      (inr refl);
  all = λ zero t in_t at. in_t;
  one = λ pos. absurd (omega (arith, pos));
  joint = for_two (λ t. t.level ≡ 0 → RangeLiesIn t.range both_keys) flushed_table deep_table
      (λ at. (a_not_a, b_not_b)) (λ at. absurd (omega (arith, at)));
  least = (flushed_table, contains_head flushed_table (deep_table ∷ []), refl, refl);
  greatest = (flushed_table, contains_head flushed_table (deep_table ∷ []), refl, refl);
  overlapping = λ t in_t at. inl in_t;
  needed = for_two (λ t. t.level ≡ 1 → AreDisjointRanges both_keys t.range → ⊥) flushed_table
      deep_table
      (λ at. absurd (omega (arith, at))) (λ at. flushed_overlaps);
}

-- ---- at floor 2

merged_fits : FitsRange merged_table
merged_fits = record {
  proper = a_not_a;
  within = for_one (λ e. RangeHolds first_key e.key) a2 (a_not_a, a_not_a);
}

-- no entry of the tables has a number above 2
at_most_2 : (e : Entry) → tables_entries both_merge.inputs e → e.number ≤ 2
at_most_2 = for_tables (λ e. e.number ≤ 2) (omega arith) (omega arith) (omega arith) (omega arith)

some_not_none : (value : List ℕ) → Some value ≡ None → ⊥
some_not_none value h = absurd cc

a2_stays : (floor : ℕ) → IsDropped floor both_merge a2 → ⊥
a2_stays floor (inl it) =
    let le = at_most_2 it.0 it.1 in
    let lt = it.3 in
    omega (arith, le, lt)
a2_stays floor (inr spent) = some_not_none (codes "2") spent.0

merged_only : (e : Entry) → tables_entries (merged_table ∷ []) e
    → tables_entries both_merge.inputs e × (IsDropped 2 both_merge e → ⊥)
merged_only e h =
    for_one (λ (t : LevelTable). Contains t.entries e → tables_entries both_merge.inputs e
    × (IsDropped 2 both_merge e → ⊥)) merged_table
    (for_one (λ e. tables_entries both_merge.inputs e × (IsDropped 2 both_merge e → ⊥)) a2
    (a2_there, a2_stays 2) e) h.0 h.1 h.2

no_deeper : (key : List ℕ) (t : LevelTable) → Contains both_merge.tables t → 1 < t.level
    → RangeHolds t.range key → ⊥
no_deeper key t in_t =
    for_two (λ t. 1 < t.level → RangeHolds t.range key → ⊥) flushed_table deep_table
    (λ lt within. absurd (omega (arith, lt))) (λ lt within. absurd (omega (arith, lt))) t in_t

merged_all : (e : Entry) → tables_entries both_merge.inputs e
    → tables_entries (merged_table ∷ []) e ⊎ IsDropped 2 both_merge e
merged_all =
    for_tables (λ e. tables_entries (merged_table ∷ []) e ⊎ IsDropped 2 both_merge e)
    (inr (inl (a2, a2_there, refl, omega arith, omega arith)))
    (inr (inl (b2, b2_there, refl, omega arith, omega arith)))
    (inl (merged_table, contains_it merged_table, contains_it a2))
    (inr (inr (refl, omega arith, no_deeper key_b)))

merged_own : HaveOwnRanges (merged_table ∷ [])
merged_own = record {
  ranges = for_one FitsRange merged_table merged_fits;
  least = for_one (λ t. (e : Entry) × Contains t.entries e × (e.key ≡ t.range.least)) merged_table
      (a2, contains_it a2, refl);
  greatest = for_one (λ t. (e : Entry) × Contains t.entries e × (e.key ≡ t.range.greatest))
      merged_table (a2, contains_it a2, refl);
  disjoint = λ t u in_t in_u. inl (for_one (λ z. z ≡ u) merged_table
      (for_one (λ z. merged_table ≡ z) merged_table refl u in_u) t in_t);
}

at_floor_2 : IsMerged 2 both_merge (merged_table ∷ [])
at_floor_2 = record {
  deeper = for_one (λ t. t.level ≡ 1) merged_table refl;
  own = merged_own;
  only = merged_only;
  all = merged_all;
}

-- ---- at floor 1

-- an entry of the full table is one of four
for_full : (P : Entry → Type 0) → P a2 → P a1 → P b2 → P b1 → (e : Entry)
    → Contains full_table.entries e → P e
for_full P pa2 pa1 pb2 pb1 =
    for_more P a2 (a1 ∷ b2 ∷ b1 ∷ []) pa2
    (for_more P a1 (b2 ∷ b1 ∷ []) pa1 (for_two P b2 b1 pb2 pb1))

a2_in_full : Contains full_table.entries a2
a2_in_full = contains_head a2 (a1 ∷ b2 ∷ b1 ∷ [])

a1_in_full : Contains full_table.entries a1
a1_in_full = contains_next a2 (a1 ∷ b2 ∷ b1 ∷ []) a1 (contains_head a1 (b2 ∷ b1 ∷ []))

b2_in_full : Contains full_table.entries b2
b2_in_full =
    contains_next a2 (a1 ∷ b2 ∷ b1 ∷ []) b2
    (contains_next a1 (b2 ∷ b1 ∷ []) b2 (contains_head b2 (b1 ∷ [])))

b1_in_full : Contains full_table.entries b1
b1_in_full =
    contains_next a2 (a1 ∷ b2 ∷ b1 ∷ []) b1 (contains_next a1 (b2 ∷ b1 ∷ []) b1
    (contains_next b2 (b1 ∷ []) b1 (contains_it b1)))

full_there : Contains (full_table ∷ []) full_table
full_there = contains_it full_table

-- nothing overwrites an entry at floor 1, as each has a number from 1 on
not_overwritten : (e : Entry) → 1 ≤ e.number → ((e.value ≡ None) × (e.number ≤ 1) → ⊥)
    → IsDropped 1 both_merge e → ⊥
not_overwritten e pos put (inl it) =
    let lt = it.3 in
    let le = it.4 in
    omega (arith, pos, lt, le)
not_overwritten e pos put (inr spent) = put (spent.0, spent.1)

full_only : (e : Entry) → tables_entries (full_table ∷ []) e
    → tables_entries both_merge.inputs e × (IsDropped 1 both_merge e → ⊥)
full_only e h =
    for_one (λ (t : LevelTable). Contains t.entries e → tables_entries both_merge.inputs e
    × (IsDropped 1 both_merge e → ⊥)) full_table
    (for_full (λ e. tables_entries both_merge.inputs e × (IsDropped 1 both_merge e → ⊥))
    (a2_there, a2_stays 1)
    (a1_there, not_overwritten a1 (omega arith) (λ p. some_not_none (codes "1") p.0))
    (b2_there, not_overwritten b2 (omega arith) (λ p. let le = p.1 in omega (arith, le)))
    (b1_there, not_overwritten b1 (omega arith) (λ p. some_not_none (codes "1") p.0)) e) h.0 h.1 h.2

full_all : (e : Entry) → tables_entries both_merge.inputs e
    → tables_entries (full_table ∷ []) e ⊎ IsDropped 1 both_merge e
full_all =
    for_tables (λ e. tables_entries (full_table ∷ []) e ⊎ IsDropped 1 both_merge e)
    (inl (full_table, full_there, a1_in_full)) (inl (full_table, full_there, b1_in_full))
    (inl (full_table, full_there, a2_in_full)) (inl (full_table, full_there, b2_in_full))

full_fits : FitsRange full_table
full_fits = record {
  proper = b_not_a;
  within = for_full (λ e. RangeHolds both_keys e.key) (a_not_a, b_not_a) (a_not_a, b_not_a)
      (b_not_a, b_not_b) (b_not_a, b_not_b);
}

full_own : HaveOwnRanges (full_table ∷ [])
full_own = record {
  ranges = for_one FitsRange full_table full_fits;
  least = for_one (λ t. (e : Entry) × Contains t.entries e × (e.key ≡ t.range.least)) full_table
      (a2, a2_in_full, refl);
  greatest = for_one (λ t. (e : Entry) × Contains t.entries e × (e.key ≡ t.range.greatest))
      full_table (b1, b1_in_full, refl);
  disjoint = λ t u in_t in_u. inl (for_one (λ z. z ≡ u) full_table
      (for_one (λ z. full_table ≡ z) full_table refl u in_u) t in_t);
}

at_floor_1 : IsMerged 1 both_merge (full_table ∷ [])
at_floor_1 = record {
  deeper = for_one (λ t. t.level ≡ 1) full_table refl;
  own = full_own;
  only = full_only;
  all = full_all;
}

-- ---- outputs of the other floor

a1_not_merged : tables_entries (merged_table ∷ []) a1 → ⊥
a1_not_merged h =
    let number = for_one (λ (t : LevelTable). (e : Entry) → Contains t.entries e → e.number ≡ 2)
    merged_table (for_one (λ e. e.number ≡ 2) a2 refl) h.0 h.1 a1 h.2 in
    omega (arith, number)

-- at floor 1 the older a has to stay
too_early : IsMerged 1 both_merge (merged_table ∷ []) → ⊥
too_early merged = elim (merged.all a1 a1_there) [
  | inl stays ↦ a1_not_merged stays
  | inr drop ↦ not_overwritten a1 (omega arith) (λ p. some_not_none (codes "1") p.0) drop
]

-- at floor 2 it has to go
too_late : IsMerged 2 both_merge (full_table ∷ []) → ⊥
too_late merged =
    (merged.only a1 (full_table, full_there, a1_in_full)).1
    (inl (a2, a2_there, refl, omega arith, omega arith))

-- ---- the store after the merge

raise : IsRaise three_batches two_tables 2 2
raise = record {
  floor_rises = omega arith;
  floor_count = omega arith;
  kept_rises = omega arith;
  kept_floor = omega arith;
  kept_current = omega arith;
}

edited : AreEdited both_merge.inputs (merged_table ∷ []) two_tables.tables (merged_table ∷ [])
edited = record {
  stays = λ t in_t. inr in_t;
  left = λ t in_t. inl in_t;
  new = λ t in_t. in_t;
}

merged_represents : ViewsAreStored → StoreRepresents three_batches merged_store
merged_represents law =
    let raised = raise_keeps three_batches two_tables 2 2 (two_represent law) raise in
    let way = plan_under_way (raised_store two_tables 2 2) both_merge leveled planned refl in
    merge_keeps three_batches (raised_store two_tables 2 2) both_merge 2 (merged_table ∷ [])
    (merged_table ∷ []) raised way at_floor_2 edited (omega arith)

a_not_b : key_a ≡ key_b → ⊥
a_not_b = other_key key_a key_b refl

merged_lacks : (t : LevelTable) → Contains merged_store.tables t → TableLacks 3 t key_b
merged_lacks t in_t e seen same =
    for_one (λ (t : LevelTable). Contains t.entries e → ⊥) merged_table
    (λ h. for_one (λ it. it.key ≡ key_b → ⊥) a2 a_not_b e h same) t in_t seen.0

memory_lacks : IsUnseen 3 (memory_entries three_batches merged_store) key_b
memory_lacks e seen same =
    let high = seen.0.1 in
    for_memory (λ it. it.key ≡ key_b → ⊥) c_not_b e (omega (arith, high), high, seen.0.2) same

pub merge_examples : ViewsAreStored → MergeExamples
merge_examples law = record {
  planned = planned;
  at_floor_2 = at_floor_2;
  at_floor_1 = at_floor_1;
  too_early = too_early;
  too_late = too_late;
  represents = merged_represents law;
  nowhere = (memory_lacks, merged_lacks);
}
