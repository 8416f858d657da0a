-- The open files of a store with tables: what they hold in memory, and what their disk represents.
use Rattle.std.specs.Prelude.{◌≡◌, ◌≢◌, ◌⊎◌, ◌↔◌, ℕ, suc, ◌+◌, ◌-◌, ◌≤◌, List, [], ◌∷◌, ◌++◌}
use Rattle.std.specs.Prelude.{IsErrOf, length, drop}
use Rattle.std.specs.Prelude.{All, IfErr, IfOk, IsNone, MatchResult, Result}
use Rattle.byte_fields.specs.{StoredKey}
use Rattle.kv_types.specs.declared.bounds.TheConstants.{MAX_NUMBER}
use Rattle.kv_types.specs.{BatchContent, Entry, IsBatch, IsUnseen}
use Rattle.version_edits.specs.declared.line.TheConstants.{MAX_NEXT}
use Rattle.disk.specs.declared.Disk.{Ghosts}
use Rattle.disk.specs.{AlwaysLeaves, AreLeftOf, Contents, IsDurable, IsEnvironmental, IsStill}
use Rattle.disk.specs.{KeepsDisk, State, contents, seen}
use Rattle.memtable.specs.{TableHolds}
use Rattle.store_model.specs.{LevelTable, StoreRepresents, StoreState, memory_entries}
use Rattle.manifest.specs.{IsNotCreated, IsOldStore, IsVersion, ManifestHasFailed, ManifestHolds}
use Rattle.manifest.specs.{ManifestRepresents, NodeVersion, StoreVersion, version_of}
use Rattle.store_tables.specs.declared.error.EngineError.{EngineError}
use Rattle.store_tables.specs.declared.error.EngineError.TheVariants as engine
use Rattle.store_tables.specs.Errors.{IsEnd}
use Rattle.store_files.specs.declared.store_files.StoreFiles.{StoreFiles}
use Rattle.store_files.specs.Files.{Facts, IsOwned, first_facts}
use Rattle.batch_logs.specs.BatchLogs.{AreUsable, LogsHold, first_number, lines_of}
use Rattle.batch_logs.specs.BatchLogs.{next_number}
use Rattle.store_tables.specs.LevelTables.{AreServed, AreTablesOf, FileFits, HasMeantBlocks}
use Rattle.store_tables.specs.LevelTables.{IsTableAsMeant, table_lines}
use Rattle.store_tables.specs.declared.levels.LevelTables.{LevelTables}
use Rattle.batch_logs.specs.Lists.{ListFollowsOn}
use Rattle.batch_logs.specs.Memtables.{IsNumberedTo}
use Rattle.batch_logs.specs.Replaying.{AreBatchesOf}
use Rattle.store_files.specs.Openings.{kept_files}
use Rattle.store_files.specs.StoreFiles.{AreOrderedNumbers, AreShut, FilesRepresent, WereMeant}
use Rattle.store_files.specs.StoreFiles.{store_of_version}

-- ---- what the open files know

-- the node and its version
abbrev pub known_version : StoreFiles → NodeVersion
known_version files = version_of files.manifest

-- how many batches were trimmed from the front of the logs
abbrev pub trimmed_count : StoreFiles → ℕ
trimmed_count files = first_number files.logs - 1

-- the number of the last batch
abbrev pub batch_count : StoreFiles → ℕ
batch_count files = next_number files.logs - 1

-- the facts that open files know
abbrev pub known_facts : StoreFiles → Facts
known_facts files = record {
  id = (known_version files).id;
  epoch = (known_version files).version.epoch;
  ids = (known_version files).version.ids;
  floor = (known_version files).version.floor;
  kept = trimmed_count files;
}

-- the store of the model, with the tables that its files give
abbrev pub known_store : StoreFiles → List LevelTable → StoreState
known_store files tables =
    store_of_version (known_version files).version (trimmed_count files) tables

-- the numbers of open files and this committed number are in order
pub record AreCounted (store : StoreFiles) (number : ℕ) : Type 0 where
  pub kept : trimmed_count store ≤ (known_facts store).floor
  pub floor : (known_facts store).floor ≤ number
  pub committed : number ≤ batch_count store
  pub few : batch_count store ≤ MAX_NUMBER

-- The open files can take another batch. Files with numbers from the version's next one on, below
-- the first free one, may be under way: no version names them yet.
pub record AreUsableFiles (files : StoreFiles) : Type 0 where
  pub works : ManifestHasFailed files.manifest → ⊥
  pub version : IsVersion (known_version files).version
  pub logs : AreUsable files.logs
  pub lines : lines_of files.logs ≡ (known_version files).version.logs
  pub tables : table_lines files.tables ≡ (known_version files).version.tables
  pub memtable : IsNumberedTo files.memtable (batch_count files)
  pub numbers : AreOrderedNumbers (known_version files).version (trimmed_count files)
      (batch_count files)
  pub free : (known_version files).version.next_file ≤ files.free_file
  pub free_few : files.free_file ≤ MAX_NEXT

-- memory has no entry of the key that is seen at the number
abbrev pub MemoryLacks : StoreFiles → ℕ → StoredKey → Type 0
MemoryLacks files at key = IsUnseen at (TableHolds files.memtable) key

-- no file is under way: the first free one is that of the version
abbrev pub HasNoFileUnderWay : StoreFiles → Type 0
HasNoFileUnderWay files = files.free_file ≡ (known_version files).version.next_file

-- the open files know the same facts and the same version, and the first free file is the same
pub record HasSameFacts (old new : StoreFiles) : Type 0 where
  pub facts : known_facts new ≡ known_facts old
  pub version : known_version new ≡ known_version old
  pub free : new.free_file ≡ old.free_file

-- a batch of this number may be appended: it is the next
pub record IsNextNumber (files : StoreFiles) (number : ℕ) : Type 0 where
  pub usable : AreUsableFiles files
  pub next : number ≡ batch_count files + 1

-- ---- what the open files hold

-- The open files know what the disk durably represents: the list of batches, and the facts. Files
-- of any other number may exist.
pub record FilesAreRead (disk : State) (files : StoreFiles)
    (list : List BatchContent) : Type 0 where
  pub usable : AreUsableFiles files
  pub manifest : ManifestHolds disk files.manifest (known_version files)
  pub logs : LogsHold disk files.logs (suc (trimmed_count files)) (drop (trimmed_count files) list)
  pub tables : List LevelTable
  pub read : AreTablesOf (contents disk) (known_version files).version.tables tables
  pub served : AreServed disk files.tables tables
  pub durable : All (λ line. IsDurable (disk line.file)) (known_version files).version.tables
  pub store : StoreRepresents list (known_store files tables)
  pub entries : (entry : Entry) →
      TableHolds files.memtable entry ↔ memory_entries list (known_store files tables) entry
  pub count : batch_count files ≡ length list
  pub each : All IsBatch list

-- the open files hold it: besides, no file exists with the number of the first free one or a
-- greater one
pub record FilesHold (disk : State) (files : StoreFiles) (list : List BatchContent) : Type 0 where
  pub known : FilesAreRead disk files list
  pub unused : (file : ℕ) → files.free_file ≤ file → IsNone (seen (disk file))

-- ---- damaged tables

-- The disk is as it was meant to be, but for damaged blocks of the version's tables: each other
-- file is the same, and a table's file durably has each block that is not damaged.
pub record IsAsMeant (disk meant : State) (version : StoreVersion) (opened : LevelTables) : Type 0
  where
    pub others : (file : ℕ) → All (λ line. line.file ≢ file) version.tables →
        disk file ≡ meant file
    pub tables : All (λ line. IsTableAsMeant (disk line.file) (meant line.file)) version.tables
    pub blocks : All (HasMeantBlocks disk meant) opened.tables.items
    pub durable : All (λ line. IsDurable (disk line.file)) version.tables

-- the open files were meant to know the list: they would, had the disk no damaged block
pub record WereMeantToRead (disk : State) (files : StoreFiles) (list : List BatchContent) : Type 0
  where
    pub meant : State
    pub read : FilesAreRead meant files list
    pub disk_is : IsAsMeant disk meant (known_version files).version files.tables

-- and they were meant to hold it
pub record WereMeantToHold (disk : State) (files : StoreFiles) (list : List BatchContent) : Type 0
  where
    pub meant : State
    pub hold : FilesHold meant files list
    pub disk_is : IsAsMeant disk meant (known_version files).version files.tables

-- ---- lists that are held

-- if the files of an honest disk hold a list, this is said of it
abbrev pub IfHeld : {D : Type 0} → Ghosts D → D → StoreFiles → (List BatchContent → Type 0) →
    Type 0
IfHeld g disk files IsSaid = (list : List BatchContent) → g.is_honest disk →
    FilesHold (g.state disk) files list → IsSaid list

-- if the files of an honest disk were meant to hold a list, this is said of it
abbrev pub IfMeant : {D : Type 0} → Ghosts D → D → StoreFiles → (List BatchContent → Type 0) →
    Type 0
IfMeant g disk files IsSaid = (list : List BatchContent) → g.is_honest disk →
    WereMeantToHold (g.state disk) files list → IsSaid list

-- An append to files that hold a list in this sense: they hold it with the batch behind it then, or
-- the refusal is external. A crash at any moment leaves files that represent it, without the batch
-- or with it.
abbrev pub ListGrows : {D : Type 0} → (State → StoreFiles → List BatchContent → Type 0) →
    (Facts → List BatchContent → Contents → Type 0) → Ghosts D → BatchContent → (disk later : D) →
    (old new : StoreFiles) → Result (Unit {0}) EngineError → Type 0
ListGrows Hold Represent g batch disk later old new result =
    (list : List BatchContent) → g.is_honest disk → Hold (g.state disk) old list → ListFollowsOn g
    (λ _ state. Hold state new (list ++ batch ∷ []))
    (λ left. Represent (known_facts old) list left
    ⊎ Represent (known_facts old) (list ++ batch ∷ []) left) disk later result

-- ---- what an opening tells

-- The slots represent the version that the open files know, its logs have so many batches, and its
-- tables' files fit their lines.
pub record FilesOpenAs (left : Contents) (files : StoreFiles) : Type 0 where
  pub version : ManifestRepresents (known_version files) left
  pub batches : List BatchContent
  pub logs : AreBatchesOf left (known_version files).version.logs (suc (trimmed_count files))
      batches
  pub count : batch_count files ≡ trimmed_count files + length batches
  pub tables : All (FileFits left) (known_version files).version.tables

-- why files were not opened: an external refusal, no store was created, one of the old format was,
-- or the store lacks something of what an opening reads
abbrev pub OpeningRefusal : EngineError → Contents → Type 0
OpeningRefusal engine.Disk left = Unit {0}
OpeningRefusal engine.Damaged left =
    (IsNotCreated left → ⊥) × (IsOldStore left → ⊥) × AreShut left
OpeningRefusal engine.Memory left = Unit {0}
OpeningRefusal engine.NotCreated left = IsNotCreated left
OpeningRefusal engine.Failed left = ⊥
OpeningRefusal engine.TooOld left = ⊥
OpeningRefusal engine.NotCommitted left = ⊥
OpeningRefusal engine.NoSuchSnapshot left = ⊥
OpeningRefusal engine.TooManySnapshots left = ⊥
OpeningRefusal engine.Exhausted left = ⊥
OpeningRefusal engine.OldFormat left = IsOldStore left

-- why files were not opened, whatever the disk: for the device, for damage or for memory, or since
-- no store was created, or one of the old format
abbrev pub IsOpeningError : EngineError → Type 0
IsOpeningError e = IsEnd e ⊎ (e ≡ engine.NotCreated) ⊎ (e ≡ engine.OldFormat)

-- ---- an opening

-- Of files that represent these facts and the list, the open files have it, or the refusal is
-- external. Of files that were meant to, open files were meant to have it.
pub record OpensFor (facts : Facts) (list : List BatchContent) (left : Contents)
    (have were_meant_to_have : StoreFiles → Type 0) (result : Result StoreFiles EngineError)
    : Type 0 where
  pub whole : FilesRepresent facts list left → MatchResult result
      (λ files. (known_facts files ≡ facts) × have files)
      (IsEnvironmental engine.Disk engine.Memory)
  pub meant : WereMeant facts list left → IfOk result
      (λ files. (known_facts files ≡ facts) × were_meant_to_have files)

-- what an opening promises, of which open files hold a list in the first of these senses, or were
-- meant to in the second
pub record OpensStore {D : Type 0} (g : Ghosts D)
    (Hold WereMeant : State → StoreFiles → List BatchContent → Type 0) (old new : D)
    (result : Result StoreFiles EngineError) : Type 0 where
  -- a device that works never fails; any file may change
  pub kept : KeepsDisk g old new (IsErrOf result engine.Disk) ⊥ IsOwned
  -- of any disk, it is refused so
  pub causes : IfErr result IsOpeningError
  -- files that represent facts and a list, or were meant to, are opened as both
  pub opened : (facts : Facts) (list : List BatchContent) → g.is_honest old →
      OpensFor facts list (contents (g.state old)) (λ files. Hold (g.state new) files list)
      (λ files. WereMeant (g.state new) files list) result
  -- of any honest disk, what is opened is what its files say, and a refusal has its reason in them
  pub told : g.is_honest old → MatchResult result (FilesOpenAs (contents (g.state old)))
      (λ e. OpeningRefusal e (contents (g.state old)))
  -- the open files are usable
  pub usable : IfOk result AreUsableFiles

-- a crash at any moment leaves of the files that the version of the slots names what it might have
-- left before
abbrev pub SparesNamed : {D : Type 0} → Ghosts D → (old new : D) → Type 0
SparesNamed g old new =
    (named : NodeVersion) → g.is_honest old → ManifestRepresents named (contents (g.state old)) →
    AlwaysLeaves g old new (AreLeftOf (kept_files named.version) (g.state old))

-- What an opening leaves of the files: all of them where they are shut, or where it is refused for
-- them, and those that the version of the slots names, whatever it answers.
pub record SparesFound {D : Type 0} (g : Ghosts D) (old new : D) (for_files : Type 0) : Type 0 where
  pub shut : AreShut (contents (g.state old)) ⊎ for_files → IsStill g old new
  pub named : SparesNamed g old new

-- the open files of a new store: its facts, no batch, and they are usable
pub record AreNewFiles (id : ℕ) (ids : List ℕ) (files : StoreFiles) : Type 0 where
  pub facts : known_facts files ≡ first_facts id ids
  pub none : batch_count files ≡ 0
  pub usable : AreUsableFiles files
