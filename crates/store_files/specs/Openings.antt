-- What an opening has read of the files of a store, before the files that no version names are
-- removed.
use Rattle.std.specs.Prelude.{◌≡◌, ℕ, ◌+◌, ◌-◌, List, ◌∷◌, All, length}
use Rattle.kv_types.specs.{BatchContent}
use Rattle.disk.specs.declared.Disk.{Ghosts}
use Rattle.disk.specs.{Contents, IsDurable, State, contents}
use Rattle.store_model.specs.{LevelTable}
use Rattle.manifest.specs.{IsVersion, StoreVersion}
use Rattle.manifest.specs.Versions.{files_of}
use Rattle.store_files.specs.declared.opening.ReadParts.{ReadParts}
use Rattle.batch_logs.specs.BatchLogs.{LogsHold, first_number, next_number}
use Rattle.store_tables.specs.LevelTables.{AreServed, AreTablesOf, FileFits, IsTableAsMeant}
use Rattle.store_tables.specs.LevelTables.{WereServed}
use Rattle.store_tables.specs.LevelTables.{table_lines}
use Rattle.batch_logs.specs.Syncs.{SlotSettles}
use Rattle.batch_logs.specs.Replaying.{AreBatchesOf, AreOpenLogs, AreReplayed, HasReplayed}
use Rattle.store_files.specs.StoreFiles.{AreOrderedNumbers, durably}

-- the slots, and the files that the version names
abbrev pub kept_files : StoreVersion → List ℕ
kept_files version = 1 ∷ 2 ∷ files_of version.logs version.tables

-- ---- what the lines of a version name

-- the parts are of the version's lines, and its numbers are in order
pub record AreParts (version : StoreVersion) (parts : ReadParts) : Type 0 where
  pub lawful : IsVersion version
  pub logs : AreOpenLogs version.logs parts.logs parts.memtable
  pub tables : table_lines parts.tables ≡ version.tables
  pub numbers : AreOrderedNumbers version (first_number parts.logs - 1)
      (next_number parts.logs - 1)

-- The files have batches and tables for the lines of the version, and its numbers are in order.
pub record HasParts (left : Contents) (version : StoreVersion) : Type 0 where
  pub first : ℕ
  pub batches : List BatchContent
  pub had : AreBatchesOf left version.logs first batches
  pub fits : All (FileFits left) version.tables
  pub ordered : AreOrderedNumbers version (first - 1) (first - 1 + length batches)

-- The files had the batches of the logs, and tables that fit their lines. No file has changed, but
-- for a sync.
pub record WereParts (old new : State) (version : StoreVersion) (parts : ReadParts) : Type 0 where
  pub had : AreReplayed (contents old) version.logs version.flushed parts.logs parts.memtable
  pub fits : All (FileFits (contents old)) version.tables
  pub each : (file : ℕ) → SlotSettles old new file

-- the parts hold these batches and these tables, which the disk durably has
pub record PartsHold (disk : State) (version : StoreVersion) (first : ℕ)
    (batches : List BatchContent) (tables : List LevelTable) (parts : ReadParts) : Type 0 where
  pub logs : LogsHold disk parts.logs first batches
  pub entries : HasReplayed parts.memtable first version.flushed batches
  pub read : AreTablesOf (contents disk) version.tables tables
  pub served : AreServed disk parts.tables tables
  pub durable : All (λ line. IsDurable (disk line.file)) version.tables

-- The parts hold these batches, and were meant to hold these tables: they would, had the disk no
-- damaged block.
pub record PartsWereMeant (disk meant : State) (version : StoreVersion) (first : ℕ)
    (batches : List BatchContent) (tables : List LevelTable) (parts : ReadParts) : Type 0 where
  pub logs : LogsHold disk parts.logs first batches
  pub entries : HasReplayed parts.memtable first version.flushed batches
  pub served : WereServed disk meant parts.tables tables
  pub files : All (λ line. IsTableAsMeant (disk line.file) (meant line.file)) version.tables
  pub durable : All (λ line. IsDurable (disk line.file)) version.tables

-- if an honest disk has batches and tables for the lines of the version, and its numbers are in
-- order, this is said of them
abbrev pub IfParts : {D : Type 0} → Ghosts D → D → StoreVersion →
    (ℕ → List BatchContent → List LevelTable → Type 0) → Type 0
IfParts g disk version IsSaid =
    (first : ℕ) (batches : List BatchContent) (tables : List LevelTable) → g.is_honest disk →
    AreBatchesOf (contents (g.state disk)) version.logs first batches →
    AreTablesOf (contents (g.state disk)) version.tables tables →
    AreOrderedNumbers version (first - 1) (first - 1 + length batches) →
    IsSaid first batches tables

-- if an honest disk has batches for the lines of the version, and was meant to have the tables of
-- this state, this is said of them
abbrev pub IfMeantParts : {D : Type 0} → Ghosts D → D → StoreVersion →
    (State → ℕ → List BatchContent → List LevelTable → Type 0) → Type 0
IfMeantParts g disk version IsSaid =
    (meant : State) (first : ℕ) (batches : List BatchContent) (tables : List LevelTable) →
    g.is_honest disk → AreBatchesOf (contents (g.state disk)) version.logs first batches →
    AreTablesOf (contents meant) version.tables tables →
    All (λ line. IsTableAsMeant (durably (contents (g.state disk)) line.file) (meant line.file))
    version.tables → IsSaid meant first batches tables
