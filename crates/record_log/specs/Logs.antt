-- An open log, and the file that it represents.
use Rattle.std.specs.Prelude.{◌≡◌, ◌⊎◌, ℕ, ◌+◌, ◌<◌, ◌≤◌, ◌^◌, List, [], ◌∷◌, ◌++◌, length, take}
use Rattle.std.specs.Prelude.{drop, Result, Ok, Err, IfErr, Option, Some, None, IsNone, IfSome}
use Rattle.std.specs.Prelude.{IsSomeAnd, IsTrue, slice_index_or, ◌-◌}
use Rattle.disk.specs.declared.DiskError.TheVariants as disk
use Rattle.disk.specs.{IsEnvironmental, State, seen, EndsOutOfRange}
use Rattle.record_log.specs.declared.error.LogError.{LogError}
use Rattle.record_log.specs.declared.error.LogError.TheVariants as log
use Rattle.record_log.specs.declared.log.Log.{Log}
use Rattle.record_log.specs.declared.log.OpenedLog.{OpenedLog}
use Rattle.record_log.specs.declared.log.TheConstants.{MAX_RECORD}
use Rattle.record_log.specs.Grammar.{Represents, ends_from, end_of}
use Rattle.record_log.specs.Gate.{IsDurableAs}

-- the file of a log
abbrev pub file_of : Log → ℕ
file_of log = log.file

-- the place of the file where the log begins
abbrev pub start_of : Log → ℕ
start_of log = log.start

-- the place of its closed gate
abbrev pub gate_of : Log → ℕ
gate_of log = log.start + log.end

-- The record with its gate and length, and the closed gate behind it, would end past the greatest
-- place of a file.
abbrev pub HasNoRoom : Log → List ℕ → Type 0
HasNoRoom log one = EndsOutOfRange (gate_of log) (length one + 6)

-- the number of records of the log
abbrev pub count_of : Log → ℕ
count_of log = length log.ends.items

-- the length of its first record in bytes, or 0 where it has none
abbrev pub first_length : Log → ℕ
first_length log = slice_index_or log.ends.items 0 0 - 5

-- an append has failed, so the log has to be opened again
abbrev pub HasFailed : Log → Type 0
HasFailed log = IsTrue log.has_failed

-- The file durably holds these records from the log's first place on, and the log knows where each
-- record ends.
pub record LogHolds (disk : State) (log : Log) (records : List (List ℕ)) : Type 0 where
  pub bytes : List ℕ
  pub sure : IsDurableAs disk log.file bytes
  pub start : log.start ≤ length bytes
  pub fits : length bytes < 2 ^ 63
  pub stands : Represents (drop log.start bytes) records
  pub ends : log.ends.items ≡ ends_from 0 records
  pub end : log.end ≡ end_of 0 records

-- the file durably represents these records from a place on
pub record IsDurableLog (disk : State) (file start : ℕ) (records : List (List ℕ)) : Type 0 where
  pub bytes : List ℕ
  pub sure : IsDurableAs disk file bytes
  pub within : start ≤ length bytes
  pub fits : length bytes < 2 ^ 63
  pub stands : Represents (drop start bytes) records

-- the bytes that were read with the log represent these records, and it knows where each ends
pub record HasRead (opened : OpenedLog) (records : List (List ℕ)) : Type 0 where
  pub stands : Represents opened.bytes.items records
  pub ends : opened.log.ends.items ≡ ends_from 0 records

-- the bytes that a read returns from this place on represent the records
abbrev pub HasRecords : State → ℕ → ℕ → List (List ℕ) → Type 0
HasRecords disk file start records =
    IsSomeAnd (seen (disk file)) (λ bytes. Represents (drop start bytes) records)

-- from its first place on, the file represents the records, with or without the new one
abbrev pub IsOldOrNew : ℕ → List (List ℕ) → List ℕ → List ℕ → Type 0
IsOldOrNew start records one bytes =
    Represents (drop start bytes) records ⊎ Represents (drop start bytes)
    (records ++ one ∷ [])

-- It does, and the bytes before its first place are those that were there.
pub record IsOldOrNewFrom (was : List ℕ) (start : ℕ) (records : List (List ℕ)) (one : List ℕ)
    (bytes : List ℕ) : Type 0 where
  pub head : take start bytes ≡ take start was
  pub is : IsOldOrNew start records one bytes

-- the log stays at the same place of the same file
pub record IsInPlace (old new : Log) : Type 0 where
  pub file : file_of new ≡ file_of old
  pub start : start_of new ≡ start_of old

-- the file ends below place 2^63, as `length` says of each file; absent files do
abbrev pub EndsInRange : Option (List ℕ) → Type 0
EndsInRange bytes = IfSome bytes (λ it. length it < 2 ^ 63)

-- the bytes of a file after `create`: a closed gate, and the former bytes behind the first
abbrev pub begun : Option (List ℕ) → List ℕ
begun None = 0 ∷ []
begun (Some bytes) = 0 ∷ drop 1 bytes

-- the bytes of this length from a place of the file on
abbrev pub IsPart : State → ℕ → ℕ → ℕ → List ℕ → Type 0
IsPart disk file at len part =
    IsSomeAnd (seen (disk file)) (λ it. (at + len ≤ length it) × (part ≡ take len (drop at it)))

-- the bytes from a place on of a file that is durable after the call
pub record IsRest (old : State) (file start : ℕ) (new : State) (rest : List ℕ) : Type 0 where
  pub whole : List ℕ
  pub was : seen (old file) ≡ Some whole
  pub sure : IsDurableAs new file whole
  pub within : start ≤ length whole
  pub fits : length whole < 2 ^ 63
  pub is : rest ≡ drop start whole

-- a log that has not failed, in this file from this place on
pub record IsAt (file start : ℕ) (log : Log) : Type 0 where
  pub in_file : file_of log ≡ file
  pub from : start_of log ≡ start
  pub works : HasFailed log → ⊥

-- an open log of the file, which holds the records that the file represents and that were read; the
-- file durably has the bytes that it had
pub record IsOpenedLog (old : State) (file start : ℕ) (new : State) (opened : OpenedLog)
    : Type 0 where
  pub bytes : List ℕ
  pub was : seen (old file) ≡ Some bytes
  pub sure : IsDurableAs new file bytes
  pub records : List (List ℕ)
  pub stood : HasRecords old file start records
  pub holds : LogHolds new opened.log records
  pub read : HasRead opened records

-- why a file is not opened as a log: it is absent, or represents no records
abbrev pub OpenRefusal : LogError → Option (List ℕ) → ℕ → Type 0
OpenRefusal (log.Disk disk.Failed) bytes start = Unit {0}
OpenRefusal (log.Disk disk.NoFile) bytes start = IsNone bytes
OpenRefusal (log.Disk disk.Short) bytes start =
    IsSomeAnd bytes (λ it. (records : List (List ℕ)) → Represents (drop start it) records →
    ⊥)
OpenRefusal (log.Disk disk.Memory) bytes start = ⊥
OpenRefusal log.Memory bytes start = Unit {0}
OpenRefusal log.TooLong bytes start = ⊥
OpenRefusal log.Failed bytes start = ⊥

-- the answers of opening, and the state where it answers a log
abbrev pub OpenOutcome : State → ℕ → ℕ → Result OpenedLog LogError → State → Type 0
OpenOutcome old file start (Ok opened) new = IsOpenedLog old file start new opened
OpenOutcome old file start (Err e) new = OpenRefusal e (seen (old file)) start

-- The answers of an append, by the log alone; the number of records after it, and whether the log
-- still works.
abbrev pub AppendOutcome : {T : Type 0} → ℕ → Result T LogError → Log → Log → List ℕ → Type 0
AppendOutcome limit (Ok _) old new one =
    (HasFailed old → ⊥) × (length one ≤ limit) × (HasFailed new → ⊥)
    × (count_of new ≡ count_of old + 1)
AppendOutcome limit (Err (log.Disk e)) old new one =
    (HasFailed old → ⊥) × (length one ≤ limit) × HasFailed new × (count_of new ≡ count_of old)
AppendOutcome limit (Err log.Memory) old new one =
    (HasFailed old → ⊥) × (length one ≤ limit) × HasFailed new × (count_of new ≡ count_of old)
AppendOutcome limit (Err log.TooLong) old new one =
    (HasFailed old → ⊥) × (limit < length one) × (new ≡ old)
AppendOutcome limit (Err log.Failed) old new one = HasFailed old × (new ≡ old)

-- the refusals of a log whose file holds the log's records
abbrev pub IsExpected : LogError → Type 0
IsExpected e = IsEnvironmental (log.Disk disk.Failed) log.Memory e
    ⊎ ((e ≡ log.TooLong) ⊎ (e ≡ log.Failed))

-- the refusals of the log itself, without a call of the disk
abbrev pub IsArgumentError : LogError → Type 0
IsArgumentError e = (e ≡ log.TooLong) ⊎ (e ≡ log.Failed)

-- An append keeps the log's place, and its answer depends on the log alone. A refusal of the log
-- itself leaves the disk unchanged.
abbrev pub Appended : {T : Type 0} → ℕ → Result T LogError → Log → Log → List ℕ → Type 0 → Type
    0
Appended limit result old new one untouched =
    IsInPlace old new × AppendOutcome limit result old new one × IfErr result
    (λ e. IsArgumentError e → untouched)

-- the limit of a record as a number
abbrev pub RecordBoundIs : Type 0
RecordBoundIs = MAX_RECORD ≡ 16777216

-- it is that of the first record that the log holds
abbrev pub FirstLengthIs : Type 0
FirstLengthIs = (disk : State) (log : Log) (one : List ℕ) (others : List (List ℕ)) →
    LogHolds disk log (one ∷ others) → first_length log ≡ length one

-- the closed gate of a log is within its file
abbrev pub GatesAreInFiles : Type 0
GatesAreInFiles = (disk : State) (log : Log) (records : List (List ℕ)) →
    LogHolds disk log records →
    IsSomeAnd (seen (disk (file_of log))) (λ bytes. gate_of log < length bytes)
