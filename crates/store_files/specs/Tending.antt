-- A tend of a store's open files: what is due, and what the answers of a tend say.
use Rattle.std.specs.Prelude.{◌≡◌, ◌⊎◌, ℕ, ◌+◌, ◌<◌, ◌≤◌, List, [], ◌∷◌, length, Contains}
use Rattle.std.specs.Prelude.{MatchOption, Option, Result}
use Rattle.kv_types.specs.declared.bounds.TheConstants.{MAX_NUMBER}
use Rattle.kv_types.specs.{BatchContent}
use Rattle.disk.specs.declared.Disk.{Ghosts}
use Rattle.disk.specs.{Contents, IsSameBut, State}
use Rattle.version_edits.specs.declared.line.TheConstants.{MAX_LINES, MAX_NEXT}
use Rattle.manifest.specs.declared.TableLine.{TableLine}
use Rattle.manifest.specs.{HasFullSlot, HasLongSlot, HasSameSlots, StoreVersion, counting_file}
use Rattle.manifest.specs.{generation_of, node_version_after, spare_file}
use Rattle.batch_logs.specs.BatchLogs.{newest_length}
use Rattle.store_files.specs.declared.flushing.Flushed.{Flushed}
use Rattle.store_files.specs.declared.store_files.StoreFiles.{StoreFiles}
use Rattle.store_files.specs.declared.tended.Tended.{Tended}
use Rattle.store_files.specs.declared.tended.Tended.TheVariants as tended
use Rattle.store_tables.specs.LevelTables.{IsServed}
use Rattle.store_files.specs.OpenFiles.{FilesHold}
use Rattle.store_tables.specs.TableWriting.{HasEntry, IsTooLarge, IsWrittenTable}
use Rattle.store_files.specs.OpenFiles.{batch_count, known_facts}
use Rattle.store_files.specs.OpenFiles.{WereMeantToHold, known_version}
use Rattle.store_files.specs.Files.{Facts}
use Rattle.batch_logs.specs.Lists.{ListFollowsOn}
use Rattle.store_tables.specs.declared.error.EngineError.{EngineError}
use Rattle.store_files.specs.StoreFiles.{flush_change}
use Rattle.store_tables.specs.TableWriting.{IsNewLine}

-- ---- what is due

-- the slot that counts is so long that the manifest is to be rewritten
abbrev pub RewriteIsDue : StoreFiles → Type 0
RewriteIsDue files = HasLongSlot files.manifest

-- the newest log is longer than the limit, and there are entries that no table has
abbrev pub FlushIsDue : ℕ → StoreFiles → Type 0
FlushIsDue limit files = (limit < newest_length files.logs) × HasEntry files.memtable

-- A flush lacks a place in the version: there are as many tables or logs as there may be, or fewer
-- than two numbers are left for its files, of which this is the first.
abbrev pub LacksPlace : StoreVersion → ℕ → Type 0
LacksPlace version free =
    ((MAX_LINES ≤ length version.tables) ⊎ (MAX_LINES ≤ length version.logs))
    ⊎ (MAX_NEXT < free + 2)

-- the files that a tend may change: the slots of the manifest, the first free file, and the one
-- behind it
abbrev pub tended_files : StoreFiles → List ℕ
tended_files files =
    counting_file files.manifest ∷ spare_file files.manifest ∷ files.free_file
    ∷ (files.free_file + 1) ∷ []

-- the files but these are as they were
abbrev pub IsSameBeside : List ℕ → State → State → Type 0
IsSameBeside files old new = (file : ℕ) → (Contains files file → ⊥) → new file ≡ old file

-- ---- a flush

-- the line is that of a table of level 0 in the first free file
abbrev pub IsNextTable : StoreFiles → TableLine → Type 0
IsNextTable files = IsNewLine files.free_file

-- a new table of level 0 in the first free file, open by its line
pub record IsNewTable (files : StoreFiles) (it : Flushed) : Type 0 where
  pub next : IsNextTable files it.line
  pub opened : it.table.line ≡ it.line

-- The version is the one after the edit of a flush with this table, recorded in the slot that
-- counts. The first free file is the one behind the new table and the new log.
pub record IsFlushedBy (line : TableLine) (old new : StoreFiles) : Type 0 where
  pub version : known_version new ≡ node_version_after (known_version old)
      (flush_change (known_version old).version old.free_file (batch_count old) line)
  pub slots : HasSameSlots old.manifest new.manifest
  pub free : new.free_file ≡ old.free_file + 2

-- The entries in memory are durably in a table of level 0, in the first free file, which is open.
-- No other file changed.
pub record HasSpilled (old new : State) (files : StoreFiles) (it : Flushed) : Type 0 where
  pub spares : IsSameBut files.free_file old new
  pub written : IsWrittenTable new files.memtable files.free_file it.line
  pub served : IsServed new it.table written.table

-- the disk had such files before, and then their entries were spilled
pub record HeldAndSpilled (disk : State) (files : StoreFiles) (list : List BatchContent)
    (it : Flushed) : Type 0 where
  pub before : State
  pub held : FilesHold before files list
  pub spilled : HasSpilled before disk files it

-- the disk was meant to have such files before, and then their entries were spilled
pub record MeantAndSpilled (disk : State) (files : StoreFiles) (list : List BatchContent)
    (it : Flushed) : Type 0 where
  pub before : State
  pub meant : WereMeantToHold before files list
  pub spilled : HasSpilled before disk files it

-- A spill of files that hold a list in this sense: they still hold it where there is no table, and
-- their entries are in the table where there is one, or the refusal is external. A crash at any
-- moment leaves files that represent the list.
abbrev pub ListIsSpilled : {D : Type 0} → (State → StoreFiles → List BatchContent → Type 0) →
    (Facts → List BatchContent → Contents → Type 0) → Ghosts D → StoreFiles → (disk later : D) →
    Result (Option Flushed) EngineError → Type 0
ListIsSpilled Hold Represent g files disk later result =
    (list : List BatchContent) → g.is_honest disk → Hold (g.state disk) files list →
    ListFollowsOn g (λ made state. MatchOption made (Hold state files list)
    (HasSpilled (g.state disk) state files)) (Represent (known_facts files) list) disk later
    result

-- ---- the answers of a tend

-- A rewrite that is due: the manifest was rewritten, so none is due now, or its generation cannot
-- rise. The first free file is the same.
abbrev pub IsRewriteAnswer : StoreFiles → StoreFiles → Tended → Type 0
IsRewriteAnswer old new tended.Idle = ⊥
IsRewriteAnswer old new tended.Worked =
    (generation_of new.manifest ≡ generation_of old.manifest + 1)
    × (known_version new ≡ known_version old) × (RewriteIsDue new → ⊥)
    × (new.free_file ≡ old.free_file)
IsRewriteAnswer old new tended.Full = (MAX_NUMBER ≤ generation_of old.manifest) × (new ≡ old)

-- a flush that is due: the version has one table of level 0 more, a log for the next batches, and
-- all batches so far in tables; or it had no place
abbrev pub IsFlushAnswer : StoreFiles → StoreFiles → Tended → Type 0
IsFlushAnswer old new tended.Idle = ⊥
IsFlushAnswer old new tended.Worked =
    (line : TableLine) × IsNextTable old line × IsFlushedBy line old new
IsFlushAnswer old new tended.Full =
    (LacksPlace (known_version old).version old.free_file ⊎ IsTooLarge old.memtable)
    × (new ≡ old)

-- What a tend of any disk did: a rewrite, a flush of entries in memory, or nothing. So it is full
-- only where the generation cannot rise, the version lacks a place, or the entries pass the limit
-- of a table's data.
pub data IsTend (old new : StoreFiles) (answer : Tended) : Type 0 where
  WasRewrite : IsRewriteAnswer old new answer → IsTend old new answer
  WasFlush : HasEntry old.memtable → IsFlushAnswer old new answer → IsTend old new answer
  WasRest : new ≡ old → answer ≡ tended.Idle → IsTend old new answer

-- a tend does the first that is due
pub data IsWorkAnswer (limit : ℕ) (old new : StoreFiles) (answer : Tended) : Type 0 where
  Rewrites : RewriteIsDue old → IsRewriteAnswer old new answer → IsWorkAnswer limit old new answer
  Flushes : (RewriteIsDue old → ⊥) → FlushIsDue limit old → IsFlushAnswer old new answer →
      IsWorkAnswer limit old new answer
  Rests : (RewriteIsDue old → ⊥) → (FlushIsDue limit old → ⊥) → new ≡ old →
      answer ≡ tended.Idle → IsWorkAnswer limit old new answer

-- ---- why a device that works may fail in a tend

-- its files are not those that the open files hold, or the slot that counts is full
abbrev pub TendMayFail : {D : Type 0} → Ghosts D → D → StoreFiles → Type 0
TendMayFail g disk files = HasFullSlot files.manifest
    ⊎ ((list : List BatchContent) → g.is_honest disk → FilesHold (g.state disk) files list → ⊥)
