-- Batches that are parted among logs, and what a crash leaves of open logs.
use Rattle.std.proofs.Common.{◌≡◌, ◌≢◌, ◌∙◌, ℕ, ◌+◌, List, [], ◌∷◌, ◌++◌, Option, Some, ap, arith}
use Rattle.std.proofs.Common.{drop, length, length-append, map, refl, subst, sym}
use Rattle.std.specs.Prelude.{All}
use Rattle.std.proofs.lemmas.List.{append-nil, append_assoc}
use Rattle.std.proofs.lemmas.List.Elements.{All-cons, All-head, All-nil, All-tail}
use Rattle.kv_types.specs.{BatchContent, IsBatch, SpellingsDiffer}
use Rattle.disk.specs.{Contents, DurableFileIsLeft, IsDurable, IsFileOutcome, Kept, Slot, State}
use Rattle.disk.specs.{seen}
use Rattle.record_log.specs.declared.Log.{Log}
use Rattle.record_log.specs.{LogHolds, RecordsAreUnique, Represents, file_of}
use Rattle.version_edits.specs.declared.line.LogLine.{LogLine}
use Rattle.batch_logs.specs.declared.batch_logs.BatchLog.{BatchLog}
use Rattle.batch_logs.specs.declared.batch_logs.BatchLogs.{BatchLogs}
use Rattle.batch_logs.specs.BatchLogs.{AreBeside, AreParted, HasPart, HaveBatches, HoldsPart}
use Rattle.batch_logs.specs.BatchLogs.{LogsHold, end_of_log, line_of, lines_of, newest_file}
use Rattle.batch_logs.specs.BatchLogs.{next_number}
use Rattle.batch_logs.specs.Layout.{IsLog, records_from}
use Rattle.batch_logs.specs.LayoutLemmas.{length-ends, length-records, same_batches, stands_once}

-- ---- one file

-- a log holds what it held where its file is the same
pub holds_in : (old new : State) (log : Log) (records : List (List ℕ)) →
    new log.file ≡ old log.file → LogHolds old log records → LogHolds new log records
holds_in old new log records same h = record {
  bytes = h.bytes;
  sure = same ∙ h.sure;
  start = h.start;
  fits = h.fits;
  stands = h.stands;
  ends = h.ends;
  end = h.end;
}

-- a crash leaves the records of a file that is durable
pub stands_beside : DurableFileIsLeft → (disk : State) (file : ℕ) (bytes : List ℕ)
    (records : List (List ℕ)) → disk file ≡ Kept bytes bytes [] → Represents bytes records →
    (left : Option (List ℕ)) → IsFileOutcome (disk file) left → IsLog left records
stands_beside law disk file bytes records sure stands left leaves =
    let is_sure = subst (λ (slot : Slot). IsDurable slot) (sym sure) (refl, refl) in
    let same : left ≡ Some bytes = law (disk file) left is_sure leaves ∙ ap seen sure in
    subst (λ (it : Option (List ℕ)). IsLog it records) (sym same) stands

-- ---- a part more behind the others

-- with one log more behind the others, and its part
pub parted_push : {L : Type 0} (Has : ℕ → L → List BatchContent → Type 0) (number : ℕ)
    (logs : List L) (one : L) (before here : List BatchContent) →
    AreParted Has number logs before → Has (number + length before) one here →
    AreParted Has number (logs ++ one ∷ []) (before ++ here)
parted_push Has number [] one before here none has =
    let all : before ++ here ≡ here ++ [] =
    ap (λ (b : List BatchContent). b ++ here) none ∙ sym (append-nil here) in
    let at : number + length before ≡ number = omega (arith, ap length none) in
    (here, [], all, subst (λ (n : ℕ). Has n one here) at has, refl)
parted_push Has number (log ∷ logs) one before here (mine, later, is, has, others) new =
    let all : before ++ here ≡ mine ++ (later ++ here) =
    ap (λ (b : List BatchContent). b ++ here) is ∙ append_assoc mine later here in
    let at : number + length before ≡ number + length mine + length later =
    omega (arith, ap length is, length-append mine later) in (
      mine,
      later ++ here,
      all,
      has,
      parted_push Has (number + length mine) logs one later here others
          (subst (λ (n : ℕ). Has n one here) at new),
    )

-- ---- logs on a disk where another file changed

-- an open log holds its part where its file is the same
pub part_in : (old new : State) (number : ℕ) (one : BatchLog) (here : List BatchContent) →
    new (file_of one.log) ≡ old (file_of one.log) → HoldsPart old number one here →
    HoldsPart new number one here
part_in old new number one here same h = record {
  first = h.first;
  from = h.from;
  log = holds_in old new one.log (records_from number here) same h.log;
}

-- each log's file is the same
abbrev pub AreKept : State → State → List BatchLog → Type 0
AreKept old new logs = All (λ (one : BatchLog). new (file_of one.log) ≡ old (file_of one.log)) logs

-- open logs hold their parts where their files are the same
pub parted_in : (old new : State) (number : ℕ) (logs : List BatchLog)
    (batches : List BatchContent) → AreKept old new logs →
    AreParted (HoldsPart old) number logs batches → AreParted (HoldsPart new) number logs batches
parted_in old new number [] batches kept none = none
parted_in old new number (one ∷ logs) batches kept (here, later, is, has, others) =
    let P : BatchLog → Type 0 = λ other. new (file_of other.log) ≡ old (file_of other.log) in (
      here,
      later,
      is,
      part_in old new number one here (All-head P one logs kept) has,
      parted_in old new (number + length here) logs later (All-tail P one logs kept) others,
    )

-- where all files are the same, those of logs are
pub all_kept : (old new : State) (logs : List BatchLog) → ((file : ℕ) → new file ≡ old file) →
    AreKept old new logs
all_kept old new [] same = All-nil
    (λ (one : BatchLog). new (file_of one.log) ≡ old (file_of one.log))
all_kept old new (one ∷ logs) same =
    All-cons (λ (other : BatchLog). new (file_of other.log) ≡ old (file_of other.log)) one logs
    (same (file_of one.log)) (all_kept old new logs same)

-- logs hold their batches on a disk with the same files
pub logs_in : (old new : State) (logs : BatchLogs) (first : ℕ) (batches : List BatchContent) →
    ((file : ℕ) → new file ≡ old file) → LogsHold old logs first batches →
    LogsHold new logs first batches
logs_in old new logs first batches same h = record {
  before = h.before;
  here = h.here;
  parted = h.parted;
  older = parted_in old new first logs.older.items h.before
      (all_kept old new logs.older.items same) h.older;
  newest = part_in old new (first + length h.before) logs.newest h.here (same (newest_file logs))
      h.newest;
}

-- ---- what a crash leaves

-- a crash leaves the part of an open log
pub part_left : DurableFileIsLeft → (disk : State) (left : Contents) (number : ℕ) (one : BatchLog)
    (here : List BatchContent) → IsFileOutcome (disk (file_of one.log)) (left (file_of one.log)) →
    HoldsPart disk number one here → HasPart left number (line_of one) here
part_left law disk left number one here leaves h =
    let records : List (List ℕ) = records_from number here in
    let stands : Represents h.log.bytes records =
    subst (λ (k : ℕ). Represents (drop k h.log.bytes) records) h.from h.log.stands in (
      h.first,
      stands_beside law disk (file_of one.log) h.log.bytes records h.log.sure stands
          (left (file_of one.log)) leaves,
    )

-- a crash leaves the parts of open logs beside one file
pub parted_left : DurableFileIsLeft → (disk : State) (left : Contents) (file number : ℕ)
    (logs : List BatchLog) (batches : List BatchContent) →
    ((other : ℕ) → other ≢ file → IsFileOutcome (disk other) (left other)) →
    AreBeside file logs → AreParted (HoldsPart disk) number logs batches →
    AreParted (HasPart left) number (map line_of logs) batches
parted_left law disk left file number [] batches leaves apart none = none
parted_left law disk left file number (one ∷ logs) batches leaves apart
    (here, later, is, has, others) =
    let P : BatchLog → Type 0 = λ other. file_of other.log ≢ file in (
      here,
      later,
      is,
      part_left law disk left number one here
          (leaves (file_of one.log) (All-head P one logs apart)) has,
      parted_left law disk left file (number + length here) logs later leaves
          (All-tail P one logs apart) others,
    )

-- the newest log's part, and those of the older ones
pub all_left : DurableFileIsLeft → (disk : State) (left : Contents) (logs : BatchLogs) (first : ℕ)
    (batches here : List BatchContent) (h : LogsHold disk logs first batches) →
    ((other : ℕ) → other ≢ newest_file logs → IsFileOutcome (disk other) (left other)) →
    AreBeside (newest_file logs) logs.older.items →
    HasPart left (first + length h.before) (line_of logs.newest) here →
    HaveBatches left first (lines_of logs) (h.before ++ here)
all_left law disk left logs first batches here h leaves apart newest =
    parted_push (HasPart left) first (map line_of logs.older.items) (line_of logs.newest) h.before
    here (parted_left law disk left (newest_file logs) first logs.older.items h.before leaves apart
    h.older) newest

-- a crash leaves the batches that open logs hold
pub batches_left : DurableFileIsLeft → (disk : State) (left : Contents) (logs : BatchLogs)
    (first : ℕ) (batches : List BatchContent) → LogsHold disk logs first batches →
    AreBeside (newest_file logs) logs.older.items →
    ((file : ℕ) → IsFileOutcome (disk file) (left file)) →
    HaveBatches left first (lines_of logs) batches
batches_left law disk left logs first batches h apart leaves =
    subst (HaveBatches left first (lines_of logs)) (sym h.parted)
    (all_left law disk left logs first batches h.here h (λ other not. leaves other) apart
    (part_left law disk left (first + length h.before) logs.newest h.here
    (leaves (newest_file logs)) h.newest))

-- a log's number behind the last is that of its part
pub part_ends : (disk : State) (number : ℕ) (one : BatchLog) (here : List BatchContent) →
    HoldsPart disk number one here → end_of_log one ≡ number + length here
part_ends disk number one here h =
    omega (
      arith,
      h.first,
      ap length h.log.ends,
      length-ends 0 (records_from number here),
      length-records number here,
    )

-- how many batches logs hold
pub held_count : (disk : State) (logs : BatchLogs) (first : ℕ) (batches : List BatchContent) →
    LogsHold disk logs first batches → next_number logs ≡ first + length batches
held_count disk logs first batches h =
    omega (
      arith,
      part_ends disk (first + length h.before) logs.newest h.here h.newest,
      ap length h.parted,
      length-append h.before h.here,
    )

-- ---- one list of batches

-- batches behind some are batches where all are
pub all_behind : (before behind : List BatchContent) → All IsBatch (before ++ behind) →
    All IsBatch behind
all_behind [] behind each = each
all_behind (x ∷ before) behind each =
    all_behind before behind (All-tail IsBatch x (before ++ behind) each)

-- batches before some are batches where all are
pub all_before : (before behind : List BatchContent) → All IsBatch (before ++ behind) →
    All IsBatch before
all_before [] behind each = All-nil IsBatch
all_before (x ∷ before) behind each =
    All-cons IsBatch x before (All-head IsBatch x (before ++ behind) each)
    (all_before before behind (All-tail IsBatch x (before ++ behind) each))

-- files have one list of batches at most
pub same_parts : RecordsAreUnique → SpellingsDiffer → (left : Contents) (number : ℕ)
    (lines : List LogLine) (a b : List BatchContent) → All IsBatch a → All IsBatch b →
    HaveBatches left number lines a → HaveBatches left number lines b → a ≡ b
same_parts law spell left number [] a b each_a each_b none_a none_b = none_a ∙ sym none_b
same_parts law spell left number (line ∷ lines) a b each_a each_b (here, later, is, has, others)
    (here', later', is', has', others') =
    let all = subst (All IsBatch) is each_a in
    let all' = subst (All IsBatch) is' each_b in
    let records = stands_once law (left line.file) (records_from number here)
    (records_from number here') has.1 has'.1 in
    let same : here ≡ here' = same_batches spell number here here' (all_before here later all)
    (all_before here' later' all') records in
    let rest : later ≡ later' = same_parts law spell left (number + length here) lines later later'
    (all_behind here later all) (all_behind here' later' all') others
    (subst (λ (l : List BatchContent). HaveBatches left (number + length l) lines later') (sym same)
    others') in
    is ∙ ap (λ (l : List BatchContent). l ++ later) same
    ∙ ap (λ (l : List BatchContent). here' ++ l) rest ∙ sym is'
