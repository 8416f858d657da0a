-- An engine and the list of batches that its disk represents.
use Rattle.std.specs.Prelude.{◌≡◌, ◌⊎◌, ℕ, ◌+◌, ◌≤◌, List, ◌∷◌, length, IsTrue, IsSomeAnd}
use Rattle.kv_types.specs.declared.Limits.{Limits}
use Rattle.kv_types.specs.declared.bounds.TheConstants.{MAX_NUMBER}
use Rattle.kv_types.specs.{BatchContent}
use Rattle.disk.specs.declared.Disk.{Ghosts}
use Rattle.disk.specs.{State, EndsOutOfRange, OnlyLeaves, contents, seen}
use Rattle.record_log.specs.declared.log.TheConstants.{MAX_RECORD}
use Rattle.table_files.specs.{inner_disk}
use Rattle.kv_types.specs.Snapshots.{least, without}
use Rattle.engine.specs.declared.engine.Engine.{Engine}
use Rattle.store_files.specs.Files.{Facts}
use Rattle.manifest.specs.{HasFullSlot, NodeVersion, counting_file}
use Rattle.batch_logs.specs.BatchLogs.{HasFullLog, newest_file}
use Rattle.store_tables.specs.LevelTables.{level_count}
use Rattle.store_files.specs.OpenFiles.{batch_count, known_facts, known_version}
use Rattle.store_files.specs.Openings.{kept_files}
use Rattle.store_files.specs.Raising.{facts_with_floor}
use Rattle.store_files.specs.Settling.{AreAlone}
use Rattle.store_files.specs.StoreFiles.{FilesRepresent, WereMeant}
use Rattle.engine.specs.Snapshots.{AreReadable}
use Rattle.engine.specs.MergeParts.{IsTendedFile}
use Rattle.engine.specs.UnderWay.{HoldsWithMerge, WasMeantWithMerge}

-- ---- what an engine tells

-- what an engine knows: the facts of its files, the number of batches, that of the committed ones,
-- the limits by which it works, and the numbers of the open snapshots, the one opened last first
pub record LookUps : Type 0 where
  pub facts : Facts
  pub count : ℕ
  pub committed : ℕ
  pub limits : Limits
  pub snapshots : List ℕ

module _ {D : Type 0} {g : Ghosts D} where
  -- the facts that an engine knows of its files
  abbrev pub facts_of : Engine D g → Facts
  facts_of engine = known_facts engine.store

  -- the least number that may still be asked for
  abbrev pub least_read : Engine D g → ℕ
  least_read engine = least engine.committed engine.snapshots

  -- the facts that a tend of it leaves where it begins a merge: the floor is the least number that
  -- may still be asked for, and the logs up to it are given up
  abbrev pub raised_facts : Engine D g → Facts
  raised_facts engine = facts_with_floor engine.store (least_read engine)

  -- what an engine tells of itself
  abbrev pub look_ups : Engine D g → LookUps
  look_ups engine = record {
    facts = facts_of engine;
    count = batch_count engine.store;
    committed = engine.committed;
    limits = engine.limits;
    snapshots = engine.snapshots;
  }

  -- the disk that it owns
  abbrev pub engine_disk : Engine D g → D
  engine_disk engine = inner_disk engine.files

  -- an earlier call ended it
  abbrev pub HasEnded : Engine D g → Type 0
  HasEnded engine = IsTrue engine.has_ended

  -- the file of its newest log, which takes the appends
  abbrev pub newest_log_file : Engine D g → ℕ
  newest_log_file engine = newest_file engine.store.logs

  -- the file of the slot of its manifest that counts, which takes the records
  abbrev pub counting_slot_file : Engine D g → ℕ
  counting_slot_file engine = counting_file engine.store.manifest

  -- the version that it knows, and its node
  abbrev pub engine_version : Engine D g → NodeVersion
  engine_version engine = known_version engine.store

  -- the slots, and the files that its version names as logs and tables
  abbrev pub engine_files : Engine D g → List ℕ
  engine_files engine = kept_files (engine_version engine).version

  -- the files that a tend of it may change
  abbrev pub IsTendFile : Engine D g → ℕ → Type 0
  IsTendFile engine = IsTendedFile engine.store engine.merge (least_read engine)

  -- its newest log is so long that the next record may end past the greatest place of a file
  abbrev pub HasNearlyFullLog : Engine D g → Type 0
  HasNearlyFullLog engine = HasFullLog engine.store.logs

  -- so is the counting slot of its manifest
  abbrev pub HasNearlyFullSlot : Engine D g → Type 0
  HasNearlyFullSlot engine = HasFullSlot engine.store.manifest

  -- so is that log, or that slot
  abbrev pub IsNearlyFull : Engine D g → Type 0
  IsNearlyFull engine = HasNearlyFullLog engine ⊎ HasNearlyFullSlot engine

  -- so many tables of this level are open
  abbrev pub table_count : Engine D g → ℕ → ℕ
  table_count engine level = level_count engine.store.tables level

-- one batch more
abbrev pub with_one_more : LookUps → LookUps
with_one_more told = record told { count = told.count + 1 }

-- these are committed
abbrev pub with_committed : LookUps → ℕ → LookUps
with_committed told committed = record told { committed = committed }

-- one snapshot more, at this number
abbrev pub with_opened : LookUps → ℕ → LookUps
with_opened told at = record told { snapshots = at ∷ told.snapshots }

-- without the snapshot of this number that was opened last
abbrev pub with_closed : LookUps → ℕ → LookUps
with_closed told number = record told { snapshots = without number told.snapshots }

-- these facts
abbrev pub with_facts : LookUps → Facts → LookUps
with_facts told facts = record told { facts = facts }

-- an engine tells the same behind a tend, or raised facts, where it may have begun a merge
abbrev pub RaisesFactsAtMost : {D : Type 0} {g : Ghosts D} → Engine D g → Engine D g → Type 0
RaisesFactsAtMost old new =
    (look_ups new ≡ look_ups old) ⊎ (look_ups new ≡ with_facts (look_ups old) (raised_facts old))

-- floor and trimmed batches rise, and no batch above the floor is trimmed
pub record FactsRise (old new : Facts) : Type 0 where
  pub floor : old.floor ≤ new.floor
  pub kept : old.kept ≤ new.kept
  pub readable : new.kept ≤ new.floor

-- the committed number lies between the floor and the count, and the open snapshots from the floor
-- to the committed number
pub record AreOrdered (told : LookUps) : Type 0 where
  pub kept : told.facts.kept ≤ told.facts.floor
  pub floor : told.facts.floor ≤ told.committed
  pub committed : told.committed ≤ told.count
  pub few : told.count ≤ MAX_NUMBER
  pub snapshots : AreReadable told.facts.floor told.committed told.snapshots

-- an honest disk of the engine has no other file than these
abbrev pub HasOnlyFiles : {D : Type 0} (g : Ghosts D) → Engine D g → List ℕ → Type 0
HasOnlyFiles g engine files =
    g.is_honest (engine_disk engine) → AreAlone files (g.state (engine_disk engine))

-- ---- what an engine holds

-- what the engine has in memory is what its files say, and its merge is under way over them
unfoldable pub IsInMemory : {D : Type 0} (g : Ghosts D) → Engine D g → List BatchContent → Type 0
IsInMemory g engine list = HoldsWithMerge g engine.files engine.store engine.merge list

-- The engine works, and what its disk reads represents the list and what the engine tells.
pub record EngineReads {D : Type 0} (g : Ghosts D) (engine : Engine D g) (list : List BatchContent)
    : Type 0 where
  pub honest : g.is_honest (engine_disk engine)
  pub works : HasEnded engine → ⊥
  pub represents : FilesRepresent (facts_of engine) list (contents (g.state (engine_disk engine)))
  pub count : (look_ups engine).count ≡ length list
  pub inside : IsInMemory g engine list

-- And so does whatever a crash now leaves.
pub record EngineHolds {D : Type 0} (g : Ghosts D) (engine : Engine D g) (list : List BatchContent)
    : Type 0 where
  pub reads : EngineReads g engine list
  pub crash : OnlyLeaves (FilesRepresent (facts_of engine) list) (g.state (engine_disk engine))

-- ---- damaged tables

-- what the engine has in memory is what its files say, but for damaged blocks of tables, and its
-- merge is under way over them
unfoldable pub WasMeantInMemory : {D : Type 0} (g : Ghosts D) → Engine D g → List BatchContent →
    Type 0
WasMeantInMemory g engine list = WasMeantWithMerge g engine.files engine.store engine.merge list

-- The engine works, and what its disk reads was meant to represent the list and what the engine
-- tells: it would, had no table a damaged block. And so was whatever a crash now leaves.
pub record EngineWasMeant {D : Type 0} (g : Ghosts D) (engine : Engine D g)
    (list : List BatchContent) : Type 0 where
  pub honest : g.is_honest (engine_disk engine)
  pub works : HasEnded engine → ⊥
  pub represents : WereMeant (facts_of engine) list (contents (g.state (engine_disk engine)))
  pub crash : OnlyLeaves (WereMeant (facts_of engine) list) (g.state (engine_disk engine))
  pub count : (look_ups engine).count ≡ length list
  pub inside : WasMeantInMemory g engine list

-- ---- long files

-- a file of the disk is so long that one more record of the greatest length behind it would end
-- past the greatest place of a file
abbrev pub HasLongFile : State → Type 0
HasLongFile disk =
    (file : ℕ) × IsSomeAnd (seen (disk file)) (λ it. EndsOutOfRange (length it) (MAX_RECORD + 6))
