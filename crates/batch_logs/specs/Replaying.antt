-- What is read of the logs that lines name: their batches, and the entries that a memtable takes.
use Rattle.std.specs.Global.{Vec}
use Rattle.std.specs.Prelude.{◌≡◌, ◌≢◌, ◌↔◌, ◌⊎◌, ℕ, suc, ◌+◌, ◌-◌, ◌<◌, ◌≤◌, List, ◌∷◌, ◌++◌}
use Rattle.std.specs.Prelude.{map, All, Bool, IfErr, IfOk, IsTrue, MatchResult, OnOk, Result}
use Rattle.std.specs.Prelude.{length}
use Rattle.std.specs.declared.alloc.AllocError.{AllocError}
use Rattle.kv_types.specs.declared.bounds.TheConstants.{MAX_NUMBER}
use Rattle.kv_types.specs.{BatchContent, Entry, IsBatch, entries_of}
use Rattle.disk.specs.declared.Disk.{Ghosts}
use Rattle.disk.specs.{AddsNoOutcome, Contents, IsEnvironmental, State, contents, seen}
use Rattle.memtable.specs.declared.Memtable.{Memtable}
use Rattle.memtable.specs.{TableHolds}
use Rattle.record_log.specs.declared.OpenedLog.{OpenedLog}
use Rattle.record_log.specs.{HasRead, count_of, file_of}
use Rattle.store_model.specs.{replayed_entries}
use Rattle.store_tables.specs.declared.error.EngineError.TheVariants as engine
use Rattle.store_tables.specs.declared.error.EngineError.{EngineError}
use Rattle.version_edits.specs.declared.line.LogLine.{LogLine}
use Rattle.batch_logs.specs.declared.batch_logs.BatchLog.{BatchLog}
use Rattle.batch_logs.specs.declared.batch_logs.BatchLogs.{BatchLogs}
use Rattle.batch_logs.specs.BatchLogs.{AreJoined, AreParted, HaveBatches, HoldsPart, IsWorking}
use Rattle.batch_logs.specs.BatchLogs.{AreUsable, LogsHold, first_number, line_of, lines_of}
use Rattle.batch_logs.specs.BatchLogs.{next_number}
use Rattle.batch_logs.specs.Layout.{IsLog}
use Rattle.batch_logs.specs.Layout.{batch_record, records_from}
use Rattle.batch_logs.specs.Reads.{OnlyReads}
use Rattle.batch_logs.specs.Syncs.{AddsNothing, LogsSettle, SlotSettles, SparesAllBut}
use Rattle.batch_logs.specs.Memtables.{IsNumberedTo}

-- ---- one record, and the records of one log

-- the memtable has more: the entries of a batch, if its number is greater than those in tables
abbrev pub AddsBatch : Memtable → Memtable → ℕ → ℕ → BatchContent → Type 0
AddsBatch old new number flushed batch = (entry : Entry) → TableHolds new entry
    ↔ (TableHolds old entry ⊎ (entries_of number batch entry × (flushed < entry.number)))

-- .. of the batches that are numbered behind this number
abbrev pub AddsBatches : Memtable → Memtable → ℕ → ℕ → List BatchContent → Type 0
AddsBatches old new before flushed batches = (entry : Entry) → TableHolds new entry
    ↔ (TableHolds old entry ⊎ replayed_entries before flushed batches entry)

-- the bytes are the record of a batch with this number, and the memtable took it
pub record IsBatchAdded (bytes : List ℕ) (number flushed : ℕ) (old new : Memtable) : Type 0 where
  pub batch : BatchContent
  pub spelled : bytes ≡ batch_record number batch
  pub is_batch : IsBatch batch
  pub entries : AddsBatch old new number flushed batch

-- the records are those of batches behind this number, and the memtable took them
pub record AreBatchesAdded (records : List (List ℕ)) (before flushed : ℕ)
    (old new : Memtable) : Type 0
  where
    pub batches : List BatchContent
    pub spelled : records ≡ records_from (suc before) batches
    pub each : All IsBatch batches
    pub entries : AddsBatches old new before flushed batches

-- the file had batches behind this number and settles, its log holds them, and the memtable took
-- them
pub record IsReadLog (old new : State) (file before flushed : ℕ) (one : BatchLog)
    (was now : Memtable) : Type 0 where
  pub here : List BatchContent
  pub had : IsLog (seen (old file)) (records_from (suc before) here)
  pub settles : SlotSettles old new file
  pub each : All IsBatch here
  pub holds : HoldsPart new (suc before) one here
  pub entries : AddsBatches was now before flushed here

-- the log is that of the file, begins behind this number, and the memtable can take the next batch
pub record IsOpenedBehind (file before : ℕ) (one : BatchLog) (memtable : Memtable) : Type 0 where
  pub in_file : file_of one.log ≡ file
  pub first : one.first ≡ suc before
  pub works : IsWorking one
  pub numbered : IsNumberedTo memtable (before + count_of one.log)
  pub few : before + count_of one.log ≤ MAX_NUMBER

-- ---- several logs

-- no file is named twice
abbrev pub AreOfDifferentFiles : List LogLine → Type 0
AreOfDifferentFiles lines = (before behind : List LogLine) (line : LogLine) →
    lines ≡ before ++ line ∷ behind → All (λ other. other.file ≢ line.file) before

-- the files of the lines had batches behind this number, the logs hold them, and the memtable has
-- their entries; each file settles
pub record AreReadLogs (old new : State) (lines : List LogLine) (before flushed count : ℕ)
    (logs : List BatchLog) (memtable : Memtable) : Type 0 where
  pub batches : List BatchContent
  pub had : HaveBatches (contents old) (suc before) lines batches
  pub settles : (file : ℕ) → SlotSettles old new file
  pub each : All IsBatch batches
  pub holds : AreParted (HoldsPart new) (suc before) logs batches
  pub counted : count ≡ before + length batches
  pub entries : (entry : Entry) →
      TableHolds memtable entry ↔ replayed_entries before flushed batches entry

-- the logs are those of the lines and follow one another, up to this number
pub record AreInLine (lines : List LogLine) (before count : ℕ) (logs : List BatchLog)
    (memtable : Memtable) : Type 0 where
  pub named : map line_of logs ≡ lines
  pub working : All IsWorking logs
  pub joined : AreJoined (suc before) logs (suc count)
  pub numbered : IsNumberedTo memtable count
  pub few : count ≤ MAX_NUMBER

-- ---- the logs of a version

-- the memtable has the entries of these batches, numbered from this one on, that have a greater
-- number than those in tables
abbrev pub HasReplayed : Memtable → ℕ → ℕ → List BatchContent → Type 0
HasReplayed memtable first flushed batches =
    (entry : Entry) → TableHolds memtable entry ↔ replayed_entries (first - 1) flushed batches entry

-- the lines name these batches, each of which has a number
pub record AreBatchesOf (left : Contents) (lines : List LogLine) (first : ℕ)
    (batches : List BatchContent) : Type 0 where
  pub positive : 1 ≤ first
  pub have : HaveBatches left first lines batches
  pub each : All IsBatch batches
  pub few : first - 1 + length batches ≤ MAX_NUMBER

-- what was read of the logs that lines name: all their batches, and the entries above those in
-- tables
pub record AreReplayed (left : Contents) (lines : List LogLine) (flushed : ℕ) (logs : BatchLogs)
    (memtable : Memtable) : Type 0 where
  pub batches : List BatchContent
  pub had : AreBatchesOf left lines (first_number logs) batches
  pub count : next_number logs ≡ first_number logs + length batches
  pub entries : HasReplayed memtable (first_number logs) flushed batches

-- the logs are those of the lines and can take another batch, and the memtable has not failed
pub record AreOpenLogs (lines : List LogLine) (logs : BatchLogs) (memtable : Memtable) : Type 0
  where
    pub named : lines_of logs ≡ lines
    pub usable : AreUsable logs
    pub numbered : IsNumberedTo memtable (next_number logs - 1)
    pub few : next_number logs ≤ suc MAX_NUMBER

-- ---- what the calls promise

-- what the replay of one record promises
pub record ReplaysRecord (bytes : List ℕ) (number flushed : ℕ) (old new : Memtable)
    (result : Result Bool AllocError) : Type 0 where
  -- of a batch with this number, the memtable took it, and can take the next one
  pub taken : IfOk result (λ is. IsTrue is → IsBatchAdded bytes number flushed old new
      × IsNumberedTo new number)
  -- no record of such a batch is passed over
  pub found : (batch : BatchContent) → IsBatch batch → bytes ≡ batch_record number batch →
      IfOk result IsTrue

-- what the replay of an opened log promises
pub record ReplaysLog (opened : OpenedLog) (before flushed : ℕ) (old new : Memtable)
    (result : Result Bool AllocError) : Type 0 where
  -- its records are those of batches behind this number, and the memtable took them
  pub taken : (records : List (List ℕ)) → HasRead opened records →
      IfOk result (λ are. IsTrue are → AreBatchesAdded records before flushed old new)
  -- then the memtable can take the next batch
  pub numbered : IfOk result (λ are. IsTrue are →
      IsNumberedTo new (before + count_of opened.log)
      × (before + count_of opened.log ≤ MAX_NUMBER))
  -- no records of such batches are passed over
  pub found : (batches : List BatchContent) → HasRead opened (records_from (suc before) batches) →
      All IsBatch batches → before + length batches ≤ MAX_NUMBER → IfOk result IsTrue

-- what the opening of one log promises, with the replay of its batches
pub record OpensLog {D : Type 0} (g : Ghosts D) (file before flushed : ℕ) (old : D)
    (was : Memtable) (new : D) (now : Memtable) (result : Result BatchLog EngineError) : Type 0
  where
    -- it syncs that file at most
    pub reads : OnlyReads g old new (AddsNoOutcome file) result
    -- a log of batches behind this number is refused only for the environment
    pub opened : (batches : List BatchContent) → g.is_honest old →
        IsLog (seen (g.state old file)) (records_from (suc before) batches) →
        All IsBatch batches → before + length batches ≤ MAX_NUMBER →
        IfErr result (IsEnvironmental engine.Disk engine.Memory)
    -- of any honest disk, what was read is what the file had
    pub read : g.is_honest old → IfOk result
        (λ one. IsReadLog (g.state old) (g.state new) file before flushed one was now)
    -- the log is that of the file, behind this number
    pub told : IfOk result (λ one. IsOpenedBehind file before one now)

-- what the opening of the logs of these lines promises
pub record ReadsLogs {D : Type 0} (g : Ghosts D) (lines : List LogLine) (before flushed : ℕ)
    (old new : D) (result : Result (Vec BatchLog × Memtable) EngineError) : Type 0 where
  -- it syncs files at most
  pub reads : OnlyReads g old new AddsNothing result
  -- logs of batches behind this number are refused only for the environment
  pub opened : (batches : List BatchContent) → g.is_honest old →
      HaveBatches (contents (g.state old)) (suc before) lines batches → All IsBatch batches →
      before + length batches ≤ MAX_NUMBER →
      IfErr result (IsEnvironmental engine.Disk engine.Memory)
  -- of any honest disk, what was read is what the files had, and the other files are as they were
  pub read : g.is_honest old → IfOk result (λ it. SparesAllBut lines (g.state old) (g.state new)
      × (count : ℕ) × AreReadLogs (g.state old) (g.state new) lines before flushed count it.0.items
      it.1)
  -- the logs are those of the lines, and follow one another
  pub told : IfOk result (λ it. (count : ℕ) × AreInLine lines before count it.0.items it.1)

-- what the opening of the logs of a version promises
pub record OpensLogs {D : Type 0} (g : Ghosts D) (lines : List LogLine) (flushed : ℕ) (old new : D)
    (result : Result (BatchLogs × Memtable) EngineError) : Type 0 where
  -- it syncs files at most
  pub reads : OnlyReads g old new AddsNothing result
  -- files that have batches by the lines are opened as logs that hold them, with a memtable of
  -- those that no table has
  pub opened : (first : ℕ) (batches : List BatchContent) → g.is_honest old →
      AreBatchesOf (contents (g.state old)) lines first batches →
      MatchResult result (λ it. LogsHold (g.state new) it.0 first batches
      × HasReplayed it.1 first flushed batches) (IsEnvironmental engine.Disk engine.Memory)
  -- of any honest disk, what was read is what the files had
  pub told : g.is_honest old →
      IfOk result (λ it. AreReplayed (contents (g.state old)) lines flushed it.0 it.1)
  -- the logs are those of the lines, and can take another batch
  pub usable : IfOk result (λ it. AreOpenLogs lines it.0 it.1)
  -- each log's file is as it was, or durably has the bytes that it had; the others are as they were
  pub settled : g.is_honest old → OnOk result (LogsSettle lines (g.state old) (g.state new))
