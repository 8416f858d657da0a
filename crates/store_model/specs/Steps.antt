-- The steps of a store: a flush, a rise of the floor, and a merge.
use Rattle.std.specs.Prelude.{◌≡◌, ◌⊎◌, ℕ, suc, ◌<◌, ◌≤◌, List, length, Contains, None}
use Rattle.kv_types.specs.{BatchContent, Entry}
use Rattle.store_model.specs.Keys.{KeyRange, RangeHolds, RangeLiesIn, AreDisjointRanges}
use Rattle.store_model.specs.Tables.{LevelTable, FitsRange, tables_entries}
use Rattle.store_model.specs.Outputs.{HaveOwnRanges}
use Rattle.store_model.specs.Stores.{StoreState, memory_entries}

-- ---- tables that are removed and added

-- an edit removes some tables and adds others
pub record AreEdited (removed added before after : List LevelTable) : Type 0 where
  pub stays : (t : LevelTable) → Contains after t
      → (Contains before t × (Contains removed t → ⊥)) ⊎ Contains added t
  pub left : (t : LevelTable) → Contains before t → Contains removed t ⊎ Contains after t
  pub new : (t : LevelTable) → Contains added t → Contains after t

-- the store with other tables
abbrev pub with_tables : StoreState → List LevelTable → StoreState
with_tables store tables = record store { tables = tables }

-- ---- a flush

-- a flush writes this table: the entries in memory, in level 0
pub record IsFlush (batches : List BatchContent) (store : StoreState) (table : LevelTable)
    : Type 0 where
  pub range : FitsRange table
  pub level : table.level ≡ 0
  pub only : (entry : Entry) → Contains table.entries entry → memory_entries batches store entry
  pub all : (entry : Entry) → memory_entries batches store entry → Contains table.entries entry

-- the store after a flush: all batches are in tables, and a new log is the newest
abbrev pub flushed_store : List BatchContent → StoreState → List LevelTable → StoreState
flushed_store batches store after =
    record store { tables = after; flushed = length batches; current = length batches }

-- ---- a rise of the floor

-- the floor rises, and logs are trimmed up to it, but for the newest
pub record IsRaise (batches : List BatchContent) (store : StoreState) (floor kept : ℕ)
    : Type 0 where
  pub floor_rises : store.floor ≤ floor
  pub floor_count : floor ≤ length batches
  pub kept_rises : store.kept ≤ kept
  pub kept_floor : kept ≤ floor
  pub kept_current : kept ≤ store.current

-- the store after a rise of the floor
abbrev pub raised_store : StoreState → ℕ → ℕ → StoreState
raised_store store floor kept = record store { floor = floor; kept = kept }

-- ---- a merge

-- a merge under way: its inputs, of a level and the next one, and the tables when it was planned
pub record MergePlan : Type 0 where
  pub level : ℕ
  pub range : KeyRange  -- from the least key to the greatest of the inputs of the level
  pub inputs : List LevelTable
  pub tables : List LevelTable

-- The inputs are those of a merge of a level from 0 to 5: of level 0 all tables, of a deeper one a
-- single table, and what overlaps their joint range in the next level.
pub record IsPlanned (plan : MergePlan) : Type 0 where
  pub level : plan.level ≤ 5
  pub there : (t : LevelTable) → Contains plan.inputs t → Contains plan.tables t
  pub levels : (t : LevelTable) → Contains plan.inputs t
      → (t.level ≡ plan.level) ⊎ (t.level ≡ suc plan.level)
  pub all : plan.level ≡ 0 → (t : LevelTable) → Contains plan.tables t → t.level ≡ 0
      → Contains plan.inputs t
  pub one : 0 < plan.level
      → (t : LevelTable) × Contains plan.inputs t × (t.level ≡ plan.level) × (t.range ≡ plan.range)
  pub joint : (t : LevelTable) → Contains plan.inputs t → t.level ≡ plan.level
      → RangeLiesIn t.range plan.range
  -- both ends of the range are ends of inputs of the level, so it has an input at least
  pub least : (t : LevelTable) × Contains plan.inputs t × (t.level ≡ plan.level)
      × (t.range.least ≡ plan.range.least)
  pub greatest : (t : LevelTable) × Contains plan.inputs t × (t.level ≡ plan.level)
      × (t.range.greatest ≡ plan.range.greatest)
  pub overlapping : (t : LevelTable) → Contains plan.tables t → t.level ≡ suc plan.level
      → Contains plan.inputs t ⊎ AreDisjointRanges plan.range t.range
  pub needed : (t : LevelTable) → Contains plan.inputs t → t.level ≡ suc plan.level
      → AreDisjointRanges plan.range t.range → ⊥

-- an entry that a newer one overwrites, which every number from the floor on sees
abbrev pub IsOverwritten : ℕ → List LevelTable → Entry → Type 0
IsOverwritten floor inputs entry =
    (newer : Entry) × tables_entries inputs newer × (newer.key ≡ entry.key)
    × (entry.number < newer.number) × (newer.number ≤ floor)

-- a deletion that every number from the floor on sees, of a key that no deeper table can hold
abbrev pub IsSpentDeletion : ℕ → MergePlan → Entry → Type 0
IsSpentDeletion floor plan entry =
    (entry.value ≡ None) × (entry.number ≤ floor)
    × ((t : LevelTable) → Contains plan.tables t → suc plan.level < t.level
    → RangeHolds t.range entry.key → ⊥)

-- a merge drops the entry
abbrev pub IsDropped : ℕ → MergePlan → Entry → Type 0
IsDropped floor plan entry =
    IsOverwritten floor plan.inputs entry ⊎ IsSpentDeletion floor plan entry

-- the outputs have the entries of the inputs less exactly those that a merge at this floor drops
pub record IsMerged (floor : ℕ) (plan : MergePlan) (outputs : List LevelTable) : Type 0 where
  pub deeper : (t : LevelTable) → Contains outputs t → t.level ≡ suc plan.level
  -- each range is from key to key, and no key is in two tables
  pub own : HaveOwnRanges outputs
  pub only : (entry : Entry) → tables_entries outputs entry
      → tables_entries plan.inputs entry × (IsDropped floor plan entry → ⊥)
  pub all : (entry : Entry) → tables_entries plan.inputs entry
      → tables_entries outputs entry ⊎ IsDropped floor plan entry

-- ---- a merge while tables are added

-- every entry of the table is of a batch after the first `base`
abbrev pub IsLater : ℕ → LevelTable → Type 0
IsLater base table = (entry : Entry) → Contains table.entries entry → base < entry.number

-- the inputs suit these tables, where `base` batches were in tables when the merge was planned
pub record PlanFits (base : ℕ) (plan : MergePlan) (tables : List LevelTable) : Type 0 where
  pub there : (t : LevelTable) → Contains plan.inputs t → Contains tables t
  pub levels : (t : LevelTable) → Contains plan.inputs t
      → ((t.level ≡ plan.level) × RangeLiesIn t.range plan.range)
      ⊎ ((t.level ≡ suc plan.level) × (AreDisjointRanges plan.range t.range → ⊥))
  pub early : (entry : Entry) → tables_entries plan.inputs entry → entry.number ≤ base
  -- what is no input of the level was added since, or does not overlap the range
  pub upper : (t : LevelTable) → Contains tables t → t.level ≡ plan.level
      → Contains plan.inputs t ⊎ (IsLater base t ⊎ AreDisjointRanges plan.range t.range)
  -- what is no input of the next level does not overlap the range
  pub lower : (t : LevelTable) → Contains tables t → t.level ≡ suc plan.level
      → Contains plan.inputs t ⊎ AreDisjointRanges plan.range t.range

-- from level 1 on, the tables are the same
pub record AreAlikeDeeper (before now : List LevelTable) : Type 0 where
  pub to : (t : LevelTable) → Contains before t → 0 < t.level → Contains now t
  pub back : (t : LevelTable) → Contains now t → 0 < t.level → Contains before t

-- the planned merge can end in this store
pub record IsUnderWay (store : StoreState) (plan : MergePlan) : Type 0 where
  pub base : ℕ
  pub base_flushed : base ≤ store.flushed
  pub fits : PlanFits base plan store.tables
  pub alike : AreAlikeDeeper plan.tables store.tables
