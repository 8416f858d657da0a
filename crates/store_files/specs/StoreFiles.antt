-- What slots, logs and tables of a store represent together: a list of batches, and facts beside
-- it.
use Rattle.std.specs.Prelude.{◌≡◌, ◌≢◌, ◌⊎◌, ℕ, suc, ◌+◌, ◌-◌, ◌<◌, ◌≤◌, List, [], ◌∷◌, ◌++◌}
use Rattle.std.specs.Prelude.{length, take, drop, All, Contains, Option}
use Rattle.std.specs.Option.{option_flatten}
use Rattle.byte_fields.specs.{StoredKey}
use Rattle.kv_types.specs.declared.bounds.TheConstants.{MAX_NUMBER}
use Rattle.kv_types.specs.{BatchContent, IsBatch, stored_map_of}
use Rattle.disk.specs.Crashes.{durable}
use Rattle.disk.specs.declared.Disk.{Ghosts}
use Rattle.disk.specs.{AlwaysLeaves, Contents, OnlyLeaves, State}
use Rattle.disk.specs.Moments.{LooksAt}
use Rattle.store_model.specs.{LevelTable}
use Rattle.store_model.specs.{StoreRepresents, StoreState}
use Rattle.store_model.specs.{StoreFinds}
use Rattle.store_model.specs.{IsFlush}
use Rattle.manifest.specs.declared.LogLine.{LogLine}
use Rattle.manifest.specs.declared.TableLine.{TableLine}
use Rattle.record_log.specs.{IsDurableAs}
use Rattle.manifest.specs.{HasFirstSlots, IsNotCreated, IsOldStore, IsSlotFile, ManifestRepresents}
use Rattle.manifest.specs.{ManifestRepresentsIn, NodeVersion, StoreVersion}
use Rattle.byte_fields.specs.declared.format.Format.{Format}
use Rattle.byte_fields.specs.declared.format.Format.TheVariants as formats
use Rattle.manifest.specs.{Change, changed, first_version}
use Rattle.store_files.specs.Files.{Facts}
use Rattle.batch_logs.specs.Layout.{IsLog}
use Rattle.batch_logs.specs.BatchLogs.{HaveBatches}
use Rattle.store_tables.specs.LevelTables.{AreTablesOf, FileFits, IsTableAsMeant, IsTableOf}
use Rattle.store_files.specs.Settling.{AreAlone}

-- how many batches come before the newest log
abbrev pub before_newest : List LogLine → ℕ
before_newest [] = 0
before_newest (line ∷ []) = line.first - 1
before_newest (line ∷ next ∷ lines) = before_newest (next ∷ lines)

-- the store of the model that a version describes: its numbers, and the tables that its files give
abbrev pub store_of_version : StoreVersion → ℕ → List LevelTable → StoreState
store_of_version version kept tables = record {
  tables = tables;
  flushed = version.flushed;
  floor = version.floor;
  kept = kept;
  current = before_newest version.logs;
}

-- the numbers of batches that concern a store are in order
pub record AreOrderedNumbers (version : StoreVersion) (trimmed count : ℕ) : Type 0 where
  pub kept_floor : trimmed ≤ version.floor
  pub kept_current : trimmed ≤ before_newest version.logs
  pub current_flushed : before_newest version.logs ≤ version.flushed
  pub flushed_count : version.flushed ≤ count
  pub floor_count : version.floor ≤ count
  pub few : count ≤ MAX_NUMBER

-- The slots, of this format, represent a version, its logs have the batches behind the first `kept`
-- ones, and its tables and these batches together represent the list.
pub record FilesRepresentIn (format : Format) (facts : Facts) (list : List BatchContent)
    (left : Contents) : Type 0 where
  pub version : StoreVersion
  pub manifest : ManifestRepresentsIn format (record { id = facts.id; version = version }) left
  pub epoch : version.epoch ≡ facts.epoch
  pub ids : version.ids ≡ facts.ids
  pub floor : version.floor ≡ facts.floor
  pub logs : HaveBatches left (suc facts.kept) version.logs (drop facts.kept list)
  pub tables : List LevelTable
  pub read : AreTablesOf left version.tables tables
  pub store : StoreRepresents list (store_of_version version facts.kept tables)
  pub each : All IsBatch list
  pub few : length list ≤ MAX_NUMBER

-- they do so with slots of format 2, the one that is opened
abbrev pub FilesRepresent : Facts → List BatchContent → Contents → Type 0
FilesRepresent facts list left = FilesRepresentIn formats.Two facts list left

-- they do so with slots of format 1 or of format 2
abbrev pub FilesRepresentInEither : Facts → List BatchContent → Contents → Type 0
FilesRepresentInEither facts list left =
    (format : Format) × FilesRepresentIn format facts list left

-- the files represent one of two stores
abbrev pub IsOneOf : Facts → List BatchContent → Facts → List BatchContent → Contents → Type 0
IsOneOf facts list facts' list' left =
    FilesRepresent facts list left ⊎ FilesRepresent facts' list' left

-- ---- damaged tables

-- a disk that durably has these contents
abbrev pub durably : Contents → State
durably left file = durable (left file)

-- The files were meant to represent the facts and the list: they would, had no table a damaged
-- block. Each file that is no table's is as it was meant.
pub record WereMeant (facts : Facts) (list : List BatchContent) (left : Contents) : Type 0 where
  pub meant : Contents
  pub represents : FilesRepresent facts list meant
  pub others : (file : ℕ) → All (λ line. line.file ≢ file) represents.version.tables →
      left file ≡ meant file
  pub tables : All (λ line. IsTableAsMeant (durably left line.file) (durably meant line.file))
      represents.version.tables

-- the files were meant to represent one of two stores
abbrev pub WereOneOf : Facts → List BatchContent → Facts → List BatchContent → Contents → Type 0
WereOneOf facts list facts' list' left = WereMeant facts list left ⊎ WereMeant facts' list' left

-- Where a crash before a call leaves only files of one of two stores, so does one at each moment
-- since it began. So too where these were meant to be of one.
pub record StillLeavesOneOf {D : Type 0} (g : Ghosts D) (old new : D) (facts : Facts)
    (list : List BatchContent) (facts' : Facts) (list' : List BatchContent) : Type 0 where
  pub whole : OnlyLeaves (IsOneOf facts list facts' list') (g.state old) →
      AlwaysLeaves g old new (IsOneOf facts list facts' list')
  pub meant : OnlyLeaves (WereOneOf facts list facts' list') (g.state old) →
      AlwaysLeaves g old new (WereOneOf facts list facts' list')

-- ---- files that are opened

-- The slots represent a version with these facts, its logs have the batches behind the first `kept`
-- ones, so many in all, its numbers are in order, and the files of its tables fit their lines. An
-- opening asks no more: it reads no block of a table.
pub record OpensAs (left : Contents) (facts : Facts) (count : ℕ) : Type 0 where
  pub version : StoreVersion
  pub manifest : ManifestRepresents (record { id = facts.id; version = version }) left
  pub epoch : version.epoch ≡ facts.epoch
  pub ids : version.ids ≡ facts.ids
  pub floor : version.floor ≡ facts.floor
  pub batches : List BatchContent
  pub logs : HaveBatches left (suc facts.kept) version.logs batches
  pub each : All IsBatch batches
  pub counted : count ≡ facts.kept + length batches
  pub numbers : AreOrderedNumbers version facts.kept count
  pub tables : All (FileFits left) version.tables

-- files of this content are shut: they open as no store
abbrev pub AreShut : Contents → Type 0
AreShut left = (facts : Facts) (count : ℕ) → OpensAs left facts count → ⊥

-- The files are of a store that was created, not in the old format, and represent none. They lack
-- something of what an opening reads.
pub record IsDamaged (left : Contents) : Type 0 where
  pub created : IsNotCreated left → ⊥
  pub old : IsOldStore left → ⊥
  pub no_store : (facts : Facts) (list : List BatchContent) → FilesRepresent facts list left → ⊥
  pub shut : AreShut left

-- Files that were meant to represent a list open as it where each table's file fits its line, so
-- that of tables only blocks are damaged.
abbrev pub DamagedFilesOpen : Type 0
DamagedFilesOpen = (facts : Facts) (list : List BatchContent) (left : Contents)
    (files : WereMeant facts list left) → All (FileFits left) files.represents.version.tables →
    OpensAs left facts (length list)

-- the version has the file as a log or as a table
abbrev pub NamesStoreFile : StoreVersion → ℕ → Type 0
NamesStoreFile version file =
    ((line : LogLine) × Contains version.logs line × (line.file ≡ file))
    ⊎ ((line : TableLine) × Contains version.tables line × (line.file ≡ file))

-- the file is a slot, or one that a version which the slots represent names
abbrev pub IsStoreFile : Contents → ℕ → Type 0
IsStoreFile left file =
    IsSlotFile file
    ⊎ ((named : NodeVersion) × ManifestRepresents named left × NamesStoreFile named.version file)

-- ---- laws

-- what the files represent depends on the named files alone
abbrev pub StoreFilesAreNamed : Type 0
StoreFilesAreNamed = (facts : Facts) (list : List BatchContent) →
    LooksAt IsStoreFile (FilesRepresent facts list)

-- files represent these facts, so many batches, and those of them that logs have, once at most
abbrev pub StoreFilesAreOne : Type 0
StoreFilesAreOne = (facts : Facts) (list : List BatchContent) (facts' : Facts)
    (list' : List BatchContent) (left : Contents) → FilesRepresent facts list left →
    FilesRepresent facts' list' left → (facts ≡ facts') × (length list ≡ length list')
    × (drop facts.kept list ≡ drop facts.kept list')

-- what a lookup in memory and tables finds, at a number from the floor on, is what the batches
-- leave there
abbrev pub StoreFilesShowMaps : Type 0
StoreFilesShowMaps =
    (facts : Facts) (list : List BatchContent) (left : Contents)
    → (files : FilesRepresent facts list left) → (at : ℕ) → facts.floor ≤ at
    → at ≤ length list → (key : StoredKey) (found : Option (Option (List ℕ)))
    → StoreFinds at list (store_of_version files.version facts.kept files.tables) key found
    → option_flatten found ≡ stored_map_of (take at list) key

-- the first version, with a log without records, represents the empty list
abbrev pub FirstFilesRepresent : Type 0
FirstFilesRepresent =
    (id : ℕ) (ids : List ℕ) (left : Contents) → ManifestRepresents (first_version id ids) left
    → IsLog (left 3) []
    → FilesRepresent (record { id = id; epoch = 0; ids = ids; floor = 0; kept = 0 }) [] left

-- a disk durably has the files of a new store, and no other: the first slots of its manifest, and a
-- log without records
pub record HasFirstFiles (disk : State) (id : ℕ) (ids : List ℕ) : Type 0 where
  pub slots : HasFirstSlots disk id ids
  pub log : IsDurableAs disk 3 (0 ∷ [])
  pub alone : AreAlone (1 ∷ 2 ∷ 3 ∷ []) disk

-- ---- a flush

-- the log that a flush begins behind so many batches, where this file is free
abbrev pub begun_log : ℕ → ℕ → LogLine
begun_log free count = record { file = free + 1; first = suc count }

-- the edit of a flush, where this file is free: the batches so far are in tables, of which this is
-- a new one, and a new log takes the next batches
abbrev pub flush_change : StoreVersion → ℕ → ℕ → TableLine → Change
flush_change version free count line = record {
  next_file = free + 2;
  floor = version.floor;
  flushed = count;
  epoch = version.epoch;
  ids = version.ids;
  logs_gone = [];
  logs_added = begun_log free count ∷ [];
  tables_gone = [];
  tables_added = line ∷ [];
}

-- The files have what a flush writes, where this file is free: the table of the memtable in level
-- 0, and a log without records. The other logs and tables of the version are as they were.
pub record HasFlushed (list : List BatchContent) (store : StoreState) (version : StoreVersion)
    (free : ℕ) (line : TableLine) (left other : Contents) : Type 0 where
  pub table : LevelTable
  pub flush : IsFlush list store table
  pub read : IsTableOf other line table
  pub log : IsLog (other (free + 1)) []
  pub logs : (old : LogLine) → Contains version.logs old → other old.file ≡ left old.file
  pub tables : (old : TableLine) → Contains version.tables old → other old.file ≡ left old.file

-- with such files and the edit in the manifest, the list stays
abbrev pub FlushesRepresent : Type 0
FlushesRepresent =
    (facts : Facts) (list : List BatchContent) (free : ℕ) (line : TableLine)
    (left other : Contents) → (files : FilesRepresent facts list left)
    → HasFlushed list (store_of_version files.version facts.kept files.tables) files.version free
    line left other
    → ManifestRepresents (record {
      id = facts.id;
      version = changed files.version (flush_change files.version free (length list) line);
    }) other
    → FilesRepresent facts list other

-- ---- an append

-- with one more batch in the logs, and the slots and tables as they were, the list has one more
abbrev pub LongerLogsRepresent : Type 0
LongerLogsRepresent =
    (facts : Facts) (list : List BatchContent) (batch : BatchContent) (left other : Contents)
    → (files : FilesRepresent facts list left) → IsBatch batch → length list < MAX_NUMBER
    → HaveBatches other (suc facts.kept) files.version.logs (drop facts.kept (list ++ batch ∷ []))
    → ((file : ℕ) → IsSlotFile file → other file ≡ left file)
    → ((line : TableLine) → Contains files.version.tables line → other line.file ≡ left line.file)
    → FilesRepresent facts (list ++ batch ∷ []) other
