-- A rise of the floor: which logs it gives up, and what it makes of open files.
use Rattle.std.specs.Prelude.{◌≡◌, ℕ, ◌+◌, ◌-◌, ◌≤◌, List, [], ◌∷◌, Result, if◌then◌else◌, nat_le}
use Rattle.disk.specs.declared.Disk.{Ghosts}
use Rattle.version_edits.specs.declared.line.LogLine.{LogLine}
use Rattle.manifest.specs.{Change, HasFullSlot, HasSameSlots, StoreVersion, counting_file}
use Rattle.manifest.specs.{node_version_after}
use Rattle.store_files.specs.declared.store_files.StoreFiles.{StoreFiles}
use Rattle.store_tables.specs.declared.error.EngineError.{EngineError}
use Rattle.store_files.specs.Files.{Facts}
use Rattle.store_files.specs.OpenFiles.{AreUsableFiles, FilesHold, WereMeantToHold, batch_count}
use Rattle.store_files.specs.OpenFiles.{known_facts, known_version}
use Rattle.store_files.specs.TendKeeps.{OfEitherFacts, StoreKeeps}

-- ---- which logs are given up

-- The logs that are left where each is given up that is obsolete: its last batch has at most this
-- number, and it is not the newest. A log ends where the next one begins.
abbrev pub live_logs : ℕ → List LogLine → List LogLine
live_logs floor [] = []
live_logs floor (line ∷ []) = line ∷ []
live_logs floor (line ∷ next ∷ lines) =
    if nat_le next.first (floor + 1) then live_logs floor (next ∷ lines) else line ∷ next ∷ lines

-- the files of the obsolete ones, the oldest first
abbrev pub obsolete_logs : ℕ → List LogLine → List ℕ
obsolete_logs floor [] = []
obsolete_logs floor (line ∷ []) = []
obsolete_logs floor (line ∷ next ∷ lines) =
    if nat_le next.first (floor + 1) then line.file ∷ obsolete_logs floor (next ∷ lines) else []

-- how many batches come before the oldest of these logs
abbrev pub before_oldest : List LogLine → ℕ
before_oldest [] = 0
before_oldest (line ∷ lines) = line.first - 1

-- ---- the edit

-- the edit that raises the floor to this number, and gives up the logs that are obsolete then
abbrev pub raise_change : StoreVersion → ℕ → Change
raise_change version floor = record {
  next_file = version.next_file;
  floor = floor;
  flushed = version.flushed;
  epoch = version.epoch;
  ids = version.ids;
  logs_gone = obsolete_logs floor version.logs;
  logs_added = [];
  tables_gone = [];
  tables_added = [];
}

-- ---- the open files

-- They are usable, and their floor may rise to this number: it is no less than the floor of now,
-- and no greater than the number of the last batch.
pub record MayRise (files : StoreFiles) (floor : ℕ) : Type 0 where
  pub usable : AreUsableFiles files
  pub rises : (known_facts files).floor ≤ floor
  pub counted : floor ≤ batch_count files

-- the files of the logs that are obsolete at this floor
abbrev pub obsolete_files : StoreFiles → ℕ → List ℕ
obsolete_files files floor = obsolete_logs floor (known_version files).version.logs

-- the files that a rise of their floor may change: the slot that counts, and the obsolete logs
abbrev pub raised_files : StoreFiles → ℕ → List ℕ
raised_files files floor = counting_file files.manifest ∷ obsolete_files files floor

-- the facts after it: the new floor, and as many trimmed batches as come before the logs left
abbrev pub facts_with_floor : StoreFiles → ℕ → Facts
facts_with_floor files floor = record (known_facts files) {
  floor = floor;
  kept = before_oldest (live_logs floor (known_version files).version.logs);
}

-- The version is the one after the edit, recorded in the slot that counts, and the facts are those
-- with the new floor. The open tables and the first free file are the same.
pub record IsRaisedBy (floor : ℕ) (old new : StoreFiles) : Type 0 where
  pub version : known_version new ≡ node_version_after (known_version old)
      (raise_change (known_version old).version floor)
  pub facts : known_facts new ≡ facts_with_floor old floor
  pub slots : HasSameSlots old.manifest new.manifest
  pub tables : new.tables ≡ old.tables
  pub free : new.free_file ≡ old.free_file

-- What a rise of the floor keeps of files that hold a list, or were meant to: the list. The facts
-- are the old ones or the new ones at each moment.
abbrev pub RaisesFloor : {D : Type 0} → Ghosts D → ℕ → (disk later : D) → (old new : StoreFiles) →
    Result (Unit {0}) EngineError → Type 0
RaisesFloor g floor disk later old new result =
    StoreKeeps g (λ state list. FilesHold state old list)
    (λ state list. WereMeantToHold state old list) (raised_files old floor)
    (OfEitherFacts (known_facts old) (facts_with_floor old floor)) (HasFullSlot old.manifest)
    (λ _. IsRaisedBy floor old new) disk later old new result

-- Where the floor may rise to this number, floor and trimmed batches rise, and no batch above the
-- floor is trimmed.
abbrev pub RaisedFactsRise : Type 0
RaisedFactsRise = (files : StoreFiles) (floor : ℕ) → MayRise files floor →
    ((known_facts files).kept ≤ (facts_with_floor files floor).kept)
    × ((facts_with_floor files floor).kept ≤ floor)
