-- The laws of stores.
use Rattle.std.specs.Prelude.{◌≡◌, ◌↔◌, ℕ, ◌<◌, ◌≤◌, List, [], ◌∷◌, ◌++◌, length, take, drop}
use Rattle.std.specs.Prelude.{Contains, Option, IfSome, IsSome}
use Rattle.std.specs.Option.{option_flatten}
use Rattle.byte_fields.specs.{StoredKey}
use Rattle.kv_types.specs.{BatchContent, Entry, IsShown, ViewShows, all_entries}
use Rattle.kv_types.specs.{stored_map_of}
use Rattle.store_model.specs.Keys.{RangeHolds}
use Rattle.store_model.specs.Tables.{AreLeveled, LevelTable, level_entries, tables_entries}
use Rattle.store_model.specs.Stores.{StoreRepresents, StoreState, empty_store, memory_entries}
use Rattle.store_model.specs.Stores.{store_entries}
use Rattle.store_model.specs.Steps.{AreAlikeDeeper, PlanFits}
use Rattle.store_model.specs.Steps.{AreEdited, IsFlush, IsMerged, IsOverwritten, IsPlanned, IsRaise}
use Rattle.store_model.specs.Steps.{IsUnderWay, MergePlan, flushed_store, raised_store, with_tables}
use Rattle.store_model.specs.Outputs.{AreInKeyOrder, HaveOwnRanges}
use Rattle.store_model.specs.Runs.{IsReached}
use Rattle.store_model.specs.LookUps.{StoreFinds, StoreStopsAt, replayed_entries}
use Rattle.store_model.specs.Logs.{AreLogsOf, left_later, trimmed_to}
use Rattle.store_model.specs.Sweeps.{IsNextInSweep}

-- ---- what a store shows

-- the view of the store at a number shows of each stored key exactly what the batches leave there
abbrev pub StoreViewsAreMaps : Type 0
StoreViewsAreMaps =
    (batches : List BatchContent) (store : StoreState) → StoreRepresents batches store
    → (at : ℕ) → store.floor ≤ at → at ≤ length batches
    → (key : StoredKey) (value : Option (List ℕ)) →
    ViewShows at (store_entries batches store) key value
    ↔ (stored_map_of (take at batches) key ≡ value)

-- no two entries of the store share key and number
abbrev pub StoreEntriesDiffer : Type 0
StoreEntriesDiffer =
    (batches : List BatchContent) (store : StoreState) → StoreRepresents batches store
    → (a b : Entry) → store_entries batches store a → store_entries batches store b
    → a.key ≡ b.key → a.number ≡ b.number → a ≡ b

-- what a lookup finds first, in memory and then level by level, is what the batches leave there
abbrev pub LookUpsAreMaps : Type 0
LookUpsAreMaps =
    (batches : List BatchContent) (store : StoreState) → StoreRepresents batches store
    → (at : ℕ) → store.floor ≤ at → at ≤ length batches
    → (key : StoredKey) (found : Option (Option (List ℕ))) → StoreFinds at batches store key found
    → option_flatten found ≡ stored_map_of (take at batches) key

-- the entry at which a lookup stops, where it is no deletion, is one of the batches: their view at
-- the number has it
abbrev pub LookUpsAreShown : Type 0
LookUpsAreShown =
    (batches : List BatchContent) (store : StoreState) → StoreRepresents batches store
    → (at : ℕ) → store.floor ≤ at → at ≤ length batches
    → (entry : Entry) → StoreStopsAt at batches store entry → IsSome entry.value
    → IsShown at (all_entries batches) entry

-- from level 1 on, a table whose range holds the key has all entries of the key in its level
abbrev pub OneTableHasKey : Type 0
OneTableHasKey =
    (batches : List BatchContent) (store : StoreState) → StoreRepresents batches store
    → (t : LevelTable) → Contains store.tables t → 0 < t.level
    → (entry : Entry) → RangeHolds t.range entry.key → level_entries store.tables t.level entry
    → Contains t.entries entry

-- ---- what steps keep

-- a store without batches represents the empty list
abbrev pub EmptyRepresents : Type 0
EmptyRepresents = StoreRepresents [] empty_store

-- with a batch more in the newest log, the store represents the list with that batch
abbrev pub AppendsKeep : Type 0
AppendsKeep =
    (batches : List BatchContent) (store : StoreState) (batch : BatchContent)
    → StoreRepresents batches store → StoreRepresents (batches ++ batch ∷ []) store

-- a flush keeps the list
abbrev pub FlushesKeep : Type 0
FlushesKeep =
    (batches : List BatchContent) (store : StoreState) (table : LevelTable)
    (after : List LevelTable) → StoreRepresents batches store → IsFlush batches store table
    → AreEdited [] (table ∷ []) store.tables after
    → StoreRepresents batches (flushed_store batches store after)

-- a flush keeps a merge under way
abbrev pub FlushesLeaveMerges : Type 0
FlushesLeaveMerges =
    (batches : List BatchContent) (store : StoreState) (table : LevelTable)
    (after : List LevelTable) (plan : MergePlan) → StoreRepresents batches store
    → IsFlush batches store table → AreEdited [] (table ∷ []) store.tables after
    → IsUnderWay store plan → IsUnderWay (flushed_store batches store after) plan

-- a rise of the floor keeps the list
abbrev pub RaisesKeep : Type 0
RaisesKeep =
    (batches : List BatchContent) (store : StoreState) (floor kept : ℕ)
    → StoreRepresents batches store → IsRaise batches store floor kept
    → StoreRepresents batches (raised_store store floor kept)

-- trimming the logs up to the floor, but for the newest, is a rise
abbrev pub TrimsAreRaises : Type 0
TrimsAreRaises =
    (batches : List BatchContent) (store : StoreState) (floor : ℕ) (later : List ℕ)
    → StoreRepresents batches store → AreLogsOf store later → store.floor ≤ floor
    → floor ≤ length batches → IsRaise batches store floor (trimmed_to floor store.kept later)

-- a rise of the floor keeps a merge under way
abbrev pub RaisesLeaveMerges : Type 0
RaisesLeaveMerges =
    (store : StoreState) (floor kept : ℕ) (plan : MergePlan) → IsUnderWay store plan
    → IsUnderWay (raised_store store floor kept) plan

-- after such a trim, the logs that are left are those of the store
abbrev pub TrimsLeaveLogs : Type 0
TrimsLeaveLogs =
    (store : StoreState) (floor : ℕ) (later : List ℕ) → AreLogsOf store later
    → AreLogsOf (raised_store store floor (trimmed_to floor store.kept later))
    (left_later floor later)

-- after a flush, the logs are those before it and a new one
abbrev pub FlushesAddLogs : Type 0
FlushesAddLogs =
    (batches : List BatchContent) (store : StoreState) (after : List LevelTable) (later : List ℕ)
    → StoreRepresents batches store → AreLogsOf store later
    → AreLogsOf (flushed_store batches store after) (later ++ length batches ∷ [])

-- a merge that is planned for the tables of the store can end in it
abbrev pub PlansFit : Type 0
PlansFit =
    (batches : List BatchContent) (store : StoreState) (plan : MergePlan)
    → StoreRepresents batches store → IsPlanned plan → plan.tables ≡ store.tables
    → IsUnderWay store plan

-- a merge at the floor or below it keeps the list
abbrev pub MergesKeep : Type 0
MergesKeep =
    (batches : List BatchContent) (store : StoreState) (plan : MergePlan) (floor : ℕ)
    (outputs after : List LevelTable) → StoreRepresents batches store → IsUnderWay store plan
    → IsMerged floor plan outputs → AreEdited plan.inputs outputs store.tables after
    → floor ≤ store.floor → StoreRepresents batches (with_tables store after)

-- of tables alone, a merge keeps the view at each number from its floor on
abbrev pub MergesKeepViews : Type 0
MergesKeepViews =
    (flushed base floor : ℕ) (plan : MergePlan) (before outputs after : List LevelTable)
    → AreLeveled flushed before → PlanFits base plan before → AreAlikeDeeper plan.tables before
    → IsMerged floor plan outputs → AreEdited plan.inputs outputs before after
    → AreLeveled flushed after
    × ((at : ℕ) → floor ≤ at → (key : StoredKey) (value : Option (List ℕ))
    → ViewShows at (tables_entries before) key value
    → ViewShows at (tables_entries after) key value)

-- after all steps the store represents its list, and a merge under way can end
abbrev pub AlwaysRepresents : Type 0
AlwaysRepresents =
    (batches : List BatchContent) (store : StoreState) (plan : Option MergePlan)
    → IsReached batches store plan
    → StoreRepresents batches store × IfSome plan (λ it. IsUnderWay store it)

-- ---- what code looks at

-- tables that were written in order of keys have ranges of their own
abbrev pub WrittenHaveRanges : Type 0
WrittenHaveRanges = (tables : List LevelTable) → AreInKeyOrder tables → HaveOwnRanges tables

-- the replay of the logs has the entries that belong in memory
abbrev pub ReplaysAgree : Type 0
ReplaysAgree =
    (batches : List BatchContent) (store : StoreState) (entry : Entry) →
    replayed_entries store.kept store.flushed (drop store.kept batches) entry
    ↔ memory_entries batches store entry

-- in order, an entry is overwritten exactly where the one right before it overwrites it
abbrev pub NextDecides : Type 0
NextDecides =
    (floor : ℕ) (inputs : List LevelTable) (a b : Entry)
    → IsNextInSweep (tables_entries inputs) a b
    → IsOverwritten floor inputs b ↔ ((a.key ≡ b.key) × (a.number ≤ floor))
