-- The logs of a store's batches: which batches their files have, and what open logs hold.
use Rattle.std.specs.Prelude.{◌≡◌, ◌≢◌, ◌⊎◌, ℕ, ◌+◌, ◌-◌, ◌<◌, ◌≤◌, List, [], ◌∷◌, ◌++◌, length}
use Rattle.std.specs.Prelude.{map, All, Contains, IsErrOf, MatchResult, Result, Some, slice_get}
use Rattle.kv_types.specs.declared.bounds.TheConstants.{MAX_NUMBER}
use Rattle.kv_types.specs.{BatchContent, IsBatch}
use Rattle.disk.specs.declared.Disk.{Ghosts}
use Rattle.disk.specs.{AlwaysLeaves, Contents, EndsOutOfRange, IsEnvironmental, IsFileOutcome}
use Rattle.disk.specs.{IsLeftAt, IsSame, IsSameBut, KeepsDisk, State, seen}
use Rattle.record_log.specs.declared.log.TheConstants.{MAX_RECORD}
use Rattle.disk.specs.{MakesCalls}
use Rattle.record_log.specs.{EndsInRange, HasFailed, LogHolds, count_of, file_of}
use Rattle.record_log.specs.{gate_of, start_of}
use Rattle.version_edits.specs.declared.line.LogLine.{LogLine}
use Rattle.batch_logs.specs.declared.batch_logs.BatchLog.{BatchLog}
use Rattle.batch_logs.specs.declared.batch_logs.BatchLogs.{BatchLogs}
use Rattle.batch_logs.specs.Layout.{IsLog}
use Rattle.batch_logs.specs.Layout.{records_from}
use Rattle.batch_logs.specs.Lists.{ListFollowsOn}
use Rattle.batch_logs.specs.Reads.{OnlyReads}
use Rattle.store_tables.specs.declared.error.EngineError.TheVariants as engine
use Rattle.store_tables.specs.declared.error.EngineError.{EngineError}
use Rattle.store_tables.specs.Errors.{IsEnd}

-- ---- the batches of files

-- The batches, numbered from this one on, are parted among logs: each has its part, and the next
-- one's part begins where it ends.
abbrev pub AreParted : {L : Type 0} → (ℕ → L → List BatchContent → Type 0) → ℕ → List L →
    List BatchContent → Type 0
AreParted Has number [] batches = batches ≡ []
AreParted Has number (log ∷ logs) batches =
    (here : List BatchContent) × (later : List BatchContent) × (batches ≡ here ++ later)
    × Has number log here × AreParted Has (number + length here) logs later

-- the line's log begins with this number, and its file has these batches
abbrev pub HasPart : Contents → ℕ → LogLine → List BatchContent → Type 0
HasPart left number line here =
    (line.first ≡ number) × IsLog (left line.file) (records_from number here)

-- the files of these lines have the batches, numbered from this one on
abbrev pub HaveBatches : Contents → ℕ → List LogLine → List BatchContent → Type 0
HaveBatches left = AreParted (HasPart left)

-- ---- open logs

-- the number behind the last of a log's batches
abbrev pub end_of_log : BatchLog → ℕ
end_of_log one = one.first + count_of one.log

-- the number of the next batch
abbrev pub next_number : BatchLogs → ℕ
next_number logs = end_of_log logs.newest

-- the number of the oldest batch that logs have, or of the next one
abbrev pub oldest_first : List BatchLog → BatchLog → ℕ
oldest_first [] newest = newest.first
oldest_first (one ∷ others) newest = one.first

-- the number of the first batch that the logs have, or will have
abbrev pub first_number : BatchLogs → ℕ
first_number logs = oldest_first logs.older.items logs.newest

-- the line that names an open log
abbrev pub line_of : BatchLog → LogLine
line_of one = record { file = file_of one.log; first = one.first }

-- the logs in order, the newest last
abbrev pub lines_of : BatchLogs → List LogLine
lines_of logs = map line_of logs.older.items ++ line_of logs.newest ∷ []

-- the file that takes appends
abbrev pub newest_file : BatchLogs → ℕ
newest_file logs = file_of logs.newest.log

-- the length of that file, up to its closed gate
abbrev pub newest_length : BatchLogs → ℕ
newest_length logs = gate_of logs.newest.log + 1

-- the lines with a new log's behind them
abbrev pub with_line : BatchLogs → ℕ → List LogLine
with_line logs file = lines_of logs ++ record { file = file; first = next_number logs } ∷ []

-- one more record of the greatest length would end past the greatest place of a file
abbrev pub HasFullLog : BatchLogs → Type 0
HasFullLog logs = EndsOutOfRange (gate_of logs.newest.log) (MAX_RECORD + 6)

-- The first log begins with this number, each later one where the one before it ends, and the last
-- ends before that number: this number and those behind each log are the first ones and that one.
abbrev pub AreJoined : ℕ → List BatchLog → ℕ → Type 0
AreJoined number logs next =
    number ∷ map end_of_log logs ≡ map (λ one. one.first) logs ++ next ∷ []

-- the log has met no failure
abbrev pub IsWorking : BatchLog → Type 0
IsWorking one = HasFailed one.log → ⊥

-- the file is none of these logs'
abbrev pub AreBeside : ℕ → List BatchLog → Type 0
AreBeside file logs = All (λ one. file_of one.log ≢ file) logs

-- The logs follow one another without a gap, none has failed, and the newest has a file of its own.
pub record AreUsable (logs : BatchLogs) : Type 0 where
  pub joined : AreJoined (first_number logs) logs.older.items logs.newest.first
  pub older : All IsWorking logs.older.items
  pub newest : IsWorking logs.newest
  pub apart : AreBeside (newest_file logs) logs.older.items

-- the log begins with this number, and durably holds these batches
pub record HoldsPart (disk : State) (number : ℕ) (one : BatchLog) (here : List BatchContent)
    : Type 0 where
  pub first : one.first ≡ number
  pub from : start_of one.log ≡ 0
  pub log : LogHolds disk one.log (records_from number here)

-- open logs durably hold these batches, numbered from this one on
pub record LogsHold (disk : State) (logs : BatchLogs) (first : ℕ) (batches : List BatchContent)
    : Type 0 where
  pub before : List BatchContent
  pub here : List BatchContent
  pub parted : batches ≡ before ++ here
  pub older : AreParted (HoldsPart disk) first logs.older.items before
  pub newest : HoldsPart disk (first + length before) logs.newest here

-- A crash left the batches with or without this one, and of the files but the newest log's what it
-- might have left when the disk had this state.
pub record AreLeftWith (disk : State) (logs : BatchLogs) (first : ℕ) (batches : List BatchContent)
    (one : BatchContent) (left : Contents) : Type 0 where
  pub either : HaveBatches left first (lines_of logs) batches
      ⊎ HaveBatches left first (lines_of logs) (batches ++ one ∷ [])
  pub others : (other : ℕ) → other ≢ newest_file logs → IsFileOutcome (disk other) (left other)

-- if the logs of an honest disk hold batches, numbered from a first one on, this is said of both
abbrev pub IfLogsHold : {D : Type 0} → Ghosts D → D → BatchLogs →
    (ℕ → List BatchContent → Type 0) → Type 0
IfLogsHold g disk logs IsSaid = (first : ℕ) (batches : List BatchContent) → g.is_honest disk →
    LogsHold (g.state disk) logs first batches → IsSaid first batches

-- the answer is the batch of this number, of batches that are numbered from the first one on; a
-- refusal is external
abbrev pub IsBatchAnswer : ℕ → List BatchContent → ℕ → Result BatchContent EngineError → Type 0
IsBatchAnswer first batches number result =
    MatchResult result (λ batch. slice_get batches (number - first) ≡ Some batch)
    (IsEnvironmental engine.Disk engine.Memory)

-- ---- what the calls promise

-- if the log of an honest disk holds batches from its number on, this is said of both
abbrev pub IfLogHolds : {D : Type 0} → Ghosts D → D → BatchLog →
    (ℕ → List BatchContent → Type 0) → Type 0
IfLogHolds g disk one IsSaid = (here : List BatchContent) → g.is_honest disk →
    LogHolds (g.state disk) one.log (records_from one.first here) → IsSaid one.first here

-- the log has a batch of this number
abbrev pub HasBatch : BatchLog → ℕ → Type 0
HasBatch one number = (one.first ≤ number) × (number < end_of_log one)

-- the log is one of these, and has the batch of this number
pub record IsLogOf (older : List BatchLog) (newest : BatchLog) (number : ℕ) (one : BatchLog)
    : Type 0 where
  pub among : Contains older one ⊎ (newest ≡ one)
  pub has : HasBatch one number

-- what a read of the batch of this number promises, of the batches that one log or all hold
pub record ReadsBatch {D : Type 0} (g : Ghosts D)
    (IfHeld : (ℕ → List BatchContent → Type 0) → Type 0) (old new : D) (number : ℕ)
    (result : Result BatchContent EngineError) : Type 0 where
  -- the files stay as they are
  pub reads : OnlyReads g old new IsSame result
  -- the answer is the batch of that number, and a refusal is external
  pub found : IfHeld (λ first batches. All IsBatch batches → IsBatchAnswer first batches number
      result)

-- what the append of a batch to usable logs promises
pub record AppendsBatch {D : Type 0} (g : Ghosts D) (was : BatchLogs) (batch : BatchContent)
    (old : D) (now : BatchLogs) (new : D) (result : Result (Unit {0}) EngineError) : Type 0 where
  -- a device that works fails only where the newest log is full, and no other file changes
  pub kept : KeepsDisk g old new (IsErrOf result engine.Disk) (HasFullLog was)
      (IsSameBut (newest_file was))
  -- after `Ok` the logs hold the batches with this one behind them, and a crash at any moment
  -- leaves them with or without it
  pub appended : IfLogsHold g old was (λ first batches. ListFollowsOn g
      (λ _ state. LogsHold state now first (batches ++ batch ∷ []))
      (AreLeftWith (g.state old) was first batches batch) old new result)
  -- the lines of the logs stay
  pub lines : lines_of now ≡ lines_of was
  -- the batch's number is one that a batch may have
  pub room : next_number was ≤ MAX_NUMBER
  -- after `Ok` they can take another batch, with the number behind; a refusal leaves the number
  pub counts : MatchResult result
      (λ _. AreUsable now × (next_number now ≡ next_number was + 1))
      (λ e. (next_number now ≡ next_number was) × IsEnd e)
  -- it calls the disk four times
  pub calls : MakesCalls g 4 old new result

-- what the beginning of a log in a new file promises
pub record BeginsLog {D : Type 0} (g : Ghosts D) (file : ℕ) (was : BatchLogs) (old : D)
    (now : BatchLogs) (new : D) (result : Result (Unit {0}) EngineError) : Type 0 where
  -- a device that works never fails, and no other file changes
  pub kept : KeepsDisk g old new (IsErrOf result engine.Disk) ⊥ (IsSameBut file)
  -- after `Ok` the logs hold what they held, and a refusal is external
  pub begun : (first : ℕ) (batches : List BatchContent) → g.is_honest old →
      EndsInRange (seen (g.state old file)) → LogsHold (g.state old) was first batches →
      MatchResult result (λ _. LogsHold (g.state new) now first batches)
      (IsEnvironmental engine.Disk engine.Memory)
  -- after `Ok` the new log is behind the others, and they can take another batch; a refusal leaves
  -- the lines and the next number
  pub told : MatchResult result
      (λ _. AreUsable now × (next_number now ≡ next_number was)
      × (lines_of now ≡ with_line was file))
      (λ e. (next_number now ≡ next_number was) × (lines_of now ≡ lines_of was) × IsEnd e)
  -- a crash at any moment since the call began leaves each other file as it was
  pub any_moment : g.is_honest old → AlwaysLeaves g old new
      (IsLeftAt (g.state old) file (λ left. Unit {0}))
  -- it calls the disk twice
  pub calls : MakesCalls g 2 old new result
