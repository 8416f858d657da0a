-- An adoption of a later configuration: a record of the manifest changes epoch and ids alone.
use Rattle.std.specs.Prelude.{◌≡◌, ℕ, ◌<◌, List, [], ◌∷◌, IsTrue, Result}
use Rattle.configurations.specs.NodeLists.{leaves_out}
use Rattle.disk.specs.declared.Disk.{Ghosts}
use Rattle.manifest.specs.{Change, HasFullSlot, HasSameSlots, IsChange, IsFit, NodeVersion}
use Rattle.manifest.specs.{StoreVersion, counting_file}
use Rattle.store_tables.specs.declared.error.EngineError.{EngineError}
use Rattle.store_files.specs.declared.store_files.StoreFiles.{StoreFiles}
use Rattle.store_files.specs.Files.{Facts}
use Rattle.store_files.specs.OpenFiles.{AreUsableFiles, FilesHold, WereMeantToHold, known_facts}
use Rattle.store_files.specs.OpenFiles.{known_version}
use Rattle.store_files.specs.TendKeeps.{OfEitherFacts, StoreKeeps}

-- ---- configurations

-- The configuration is a later one of the node than that of these facts: its epoch is greater, and
-- its ids are theirs with at least one left out.
pub record IsLaterConfig (facts : Facts) (epoch : ℕ) (ids : List ℕ) : Type 0 where
  pub later : facts.epoch < epoch
  pub fewer : IsTrue (leaves_out ids facts.ids)

-- the facts with this epoch and these ids
abbrev pub facts_with_config : Facts → ℕ → List ℕ → Facts
facts_with_config facts epoch ids = record facts { epoch = epoch; ids = ids }

-- a node's version with this epoch and these ids
abbrev pub with_config : NodeVersion → ℕ → List ℕ → NodeVersion
with_config named epoch ids =
    record { id = named.id; version = record named.version { epoch = epoch; ids = ids } }

-- the edit that changes epoch and ids, and nothing else
abbrev pub config_change : StoreVersion → ℕ → List ℕ → Change
config_change version epoch ids = record {
  next_file = version.next_file;
  floor = version.floor;
  flushed = version.flushed;
  epoch = epoch;
  ids = ids;
  logs_gone = [];
  logs_added = [];
  tables_gone = [];
  tables_added = [];
}

-- ---- the open files

-- they are usable, and the configuration is a later one than theirs
pub record MayAdopt (files : StoreFiles) (epoch : ℕ) (ids : List ℕ) : Type 0 where
  pub usable : AreUsableFiles files
  pub later : IsLaterConfig (known_facts files) epoch ids

-- the edit changes the configuration alone, and the version of the files may take it
pub record IsConfigEdit (files : StoreFiles) (epoch : ℕ) (ids : List ℕ) (edit : Change) : Type 0
  where
    pub is : edit ≡ config_change (known_version files).version epoch ids
    pub fit : IsFit (known_version files).version edit
    pub within : IsChange edit

-- the files that an adoption may change: the slot that counts
abbrev pub adopted_files : StoreFiles → List ℕ
adopted_files files = counting_file files.manifest ∷ []

-- Version and facts are the old ones with this epoch and these ids, recorded in the slot that
-- counts. Logs, tables and the first free file are the same.
pub record IsAdoptedBy (epoch : ℕ) (ids : List ℕ) (old new : StoreFiles) : Type 0 where
  pub version : known_version new ≡ with_config (known_version old) epoch ids
  pub facts : known_facts new ≡ facts_with_config (known_facts old) epoch ids
  pub slots : HasSameSlots old.manifest new.manifest
  pub logs : new.logs ≡ old.logs
  pub tables : new.tables ≡ old.tables
  pub free : new.free_file ≡ old.free_file

-- What an adoption keeps of files that hold a list, or were meant to: the list. The facts are the
-- old ones, or those with this epoch and these ids, at each moment.
abbrev pub AdoptsConfig : {D : Type 0} → Ghosts D → ℕ → List ℕ → (disk later : D) →
    (old new : StoreFiles) → Result (Unit {0}) EngineError → Type 0
AdoptsConfig g epoch ids disk later old new result =
    StoreKeeps g (λ state list. FilesHold state old list)
    (λ state list. WereMeantToHold state old list) (adopted_files old)
    (OfEitherFacts (known_facts old) (facts_with_config (known_facts old) epoch ids))
    (HasFullSlot old.manifest) (λ _. IsAdoptedBy epoch ids old new) disk later old new result
