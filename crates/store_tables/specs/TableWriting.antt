-- The calls that write a table from sorted entries.
use Rattle.std.specs.Prelude.{◌≡◌, ◌↔◌, ℕ, ◌<◌, List, [], ◌∷◌, ◌++◌, All, Bool, true, false}
use Rattle.std.specs.Prelude.{Contains, IsErrOf, Result, IfErr, IfOk, MatchResult, OnOk}
use Rattle.disk.specs.declared.Disk.{Ghosts}
use Rattle.disk.specs.{IsDurable, Slot, State, WritesInto}
use Rattle.disk.specs.{IsEnvironmental, contents}
use Rattle.kv_types.specs.{Entry}
use Rattle.memtable.specs.declared.Memtable.{Memtable}
use Rattle.memtable.specs.{TableHolds}
use Rattle.merge_iter.specs.{IsAlike}
use Rattle.table_format.specs.declared.TableError.{TableError}
use Rattle.table_format.specs.declared.TableError.TheVariants as table
use Rattle.table_format.specs.declared.sizes.TheConstants.{MAX_DATA}
use Rattle.table_format.specs.{AreRising}
use Rattle.manifest.specs.declared.TableLine.{TableLine}
use Rattle.manifest.specs.{IsTableLine}
use Rattle.store_model.specs.{FitsRange, LevelTable}
use Rattle.table_builder.specs.declared.Builder.{Builder}
use Rattle.table_builder.specs.{Builds, HoldsEntries, builder_file, data_size}
use Rattle.store_tables.specs.declared.error.EngineError.{EngineError}
use Rattle.store_tables.specs.declared.error.EngineError.TheVariants as engine
use Rattle.store_tables.specs.Errors.{IsEnd}
use Rattle.store_tables.specs.LevelTables.{IsTableOf}

-- ---- refusals

-- what the disk did to a table that is written: of sorted entries a builder refuses none
abbrev pub error_of_writing : TableError → EngineError
error_of_writing table.Disk = engine.Disk
error_of_writing table.Damaged = engine.Damaged
error_of_writing table.Memory = engine.Memory
error_of_writing table.Order = engine.Damaged
error_of_writing table.TooLarge = engine.Damaged
error_of_writing table.Failed = engine.Damaged

-- ---- the line of a table

-- the line is that of a table of level 0 in the file of this number
pub record IsNewLine (number : ℕ) (line : TableLine) : Type 0 where
  pub file : line.file ≡ number
  pub level : line.level ≡ 0
  pub proper : IsTableLine line

-- ---- the calls

-- the entry was added behind these, or with it they would pass the limit of a table's data
abbrev pub HasAddedOne : List Entry → Entry → Slot → Builder → Bool → Type 0
HasAddedOne entries entry slot builder true = Builds slot builder (entries ++ entry ∷ [])
HasAddedOne entries entry slot builder false = MAX_DATA < data_size (entries ++ entry ∷ [])

-- Of any disk: the builder has the entry behind these in memory, or with it they would pass the
-- limit of a table's data.
abbrev pub HoldsOneMore : List Entry → Entry → Builder → Bool → Type 0
HoldsOneMore entries entry builder true = HoldsEntries builder (entries ++ entry ∷ [])
HoldsOneMore entries entry builder false = MAX_DATA < data_size (entries ++ entry ∷ [])

-- some entries of the set, in order, already pass the limit of a table's data
pub record PassesLimit (has : Entry → Type 0) : Type 0 where
  pub some : List Entry
  pub each : All has some
  pub rising : AreRising some
  pub large : MAX_DATA < data_size some

-- the builder has exactly the entries of the set
pub record BuildsAll (has : Entry → Type 0) (slot : Slot) (builder : Builder) : Type 0 where
  pub entries : List Entry
  pub builds : Builds slot builder entries
  pub alike : IsAlike (Contains entries) has

-- all entries of the set were added, or they pass the limit
abbrev pub HasAddedAll : (Entry → Type 0) → Slot → Builder → Bool → Type 0
HasAddedAll has slot builder true = BuildsAll has slot builder
HasAddedAll has slot builder false = PassesLimit has

-- of any disk: the answer whether there was room for the entries of the set
abbrev pub IsRoomAnswer : (Entry → Type 0) → Bool → Type 0
IsRoomAnswer has true = Unit {0}
IsRoomAnswer has false = PassesLimit has

-- What a call promises that adds all entries of a set to a builder that has none, and answers
-- whether there was room for them.
pub record AddsAll {D : Type 0} (g : Ghosts D) (disk later : D) (builder after : Builder)
    (has : Entry → Type 0) (result : Result Bool EngineError) : Type 0 where
  -- no other file changes, and a device that works fails only where the builder is not begun in it
  pub writes : WritesInto g (builder_file builder) disk later (IsErrOf result engine.Disk)
      (g.is_honest disk × Builds (g.state disk (builder_file builder)) builder [] → ⊥)
  -- the builder writes to the same file as before
  pub file : OnOk result (builder_file after ≡ builder_file builder)
  -- where the builder is begun in its file, all entries are in it then, or they pass the limit of a
  -- table's data, or the refusal is external
  pub added : g.is_honest disk → Builds (g.state disk (builder_file builder)) builder [] →
      MatchResult result (HasAddedAll has (g.state later (builder_file builder)) after)
      (IsEnvironmental engine.Disk engine.Memory)
  -- of any disk: where the answer is that there is no room, they pass the limit
  pub room : HoldsEntries builder [] → IfOk result (IsRoomAnswer has)
  -- it is refused for the device, for damage or for want of memory
  pub causes : IfErr result IsEnd

-- ---- a table that was written

-- the memtable has an entry
abbrev pub HasEntry : Memtable → Type 0
HasEntry memtable = (entry : Entry) × TableHolds memtable entry

-- The table of the memtable's entries is durably in the file, which the line names in level 0.
pub record IsWrittenTable (disk : State) (memtable : Memtable) (file : ℕ) (line : TableLine)
    : Type 0 where
  pub table : LevelTable
  pub is : IsTableOf (contents disk) line table
  pub at : line.file ≡ file
  pub level : line.level ≡ 0
  pub proper : IsTableLine line
  pub durable : IsDurable (disk file)
  pub range : FitsRange table
  pub entries : (entry : Entry) → Contains table.entries entry ↔ TableHolds memtable entry

-- some of the memtable's entries, in order, already pass the limit of a table's data
abbrev pub IsTooLarge : Memtable → Type 0
IsTooLarge memtable = PassesLimit (TableHolds memtable)
