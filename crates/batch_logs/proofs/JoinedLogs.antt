-- The batch of a number in logs that follow one another.
use Rattle.std.proofs.Common.{◌≡◌, ◌⊎◌, ℕ, zero, suc, ◌+◌, ◌-◌, ◌≤◌, List, [], ◌∷◌, ◌++◌}
use Rattle.std.proofs.Common.{length, drop, inl, inr, refl, sym, ap, subst, ◌∙◌, arith}
use Rattle.std.proofs.Common.{length-append, Option, None, Some, Ok, Err, Result}
use Rattle.std.specs.Prelude.{All, Contains, MatchOption, MatchResult, ok_or, slice_get}
use Rattle.std.proofs.lemmas.List.{append-nil, append_assoc}
use Rattle.std.proofs.lemmas.List.Elements.{All-contains, All-cons, All-head, All-nil}
use Rattle.std.proofs.lemmas.List.Elements.{Contains-append_left, Contains-push}
use Rattle.std.proofs.lemmas.List.Elements.{All-tail, All-weaker}
use Rattle.kv_types.specs.{BatchContent, IsBatch, SpellingsDiffer, batch_bytes}
use Rattle.disk.specs.{IsEnvironmental, State}
use Rattle.record_log.specs.{LogHolds}
use Rattle.batch_logs.specs.declared.batch_logs.BatchLog.{BatchLog}
use Rattle.batch_logs.specs.declared.batch_logs.BatchLogs.{BatchLogs}
use Rattle.store_tables.specs.declared.error.EngineError.{EngineError}
use Rattle.store_tables.specs.declared.error.EngineError.TheVariants as engine
use Rattle.batch_logs.specs.BatchLogs.{AreJoined, AreParted}
use Rattle.batch_logs.specs.BatchLogs.{HoldsPart, LogsHold, oldest_first}
use Rattle.batch_logs.specs.BatchLogs.{end_of_log}
use Rattle.batch_logs.specs.Layout.{batch_record, records_from}
use Rattle.batch_logs.proofs.Records.{numbered_at}
use Rattle.batch_logs.specs.BatchLogsLemmas.{AreInTurn, joined_in_turn, joined_of}
use Rattle.batch_logs.specs.PartsLemmas.{all_before, all_behind}

-- ---- the batch of a number

-- the batch of a record is the one in its place of the list
batch_placed : SpellingsDiffer → (number : ℕ) (list : List BatchContent) (i : ℕ)
    (batch : BatchContent) → All IsBatch list → IsBatch batch →
    slice_get (records_from number list) i ≡ Some (batch_record (number + i) batch) →
    slice_get list i ≡ Some batch
batch_placed law number [] i batch each is got = absurd cc
batch_placed law number (x ∷ list) zero batch each is got =
    let record_is : batch_record number x ≡ batch_record (number + zero) batch = cc in
    let same : batch_record number x ≡ batch_record number batch =
    record_is ∙ ap (λ (n : ℕ). batch_record n batch) (omega arith) in
    let texts : batch_bytes x ≡ batch_bytes batch = ap (drop 8) same in
    let is_x = All-head IsBatch x list each in
    ap (λ (b : BatchContent). Some b)
    (law x batch [] is_x is (append-nil (batch_bytes x) ∙ texts)).0
batch_placed law number (x ∷ list) (suc i) batch each is got =
    let next : number + suc i ≡ suc number + i = omega arith in
    batch_placed law (suc number) list i batch (All-tail IsBatch x list each) is
    (got ∙ ap (λ (n : ℕ). Some (batch_record n batch)) next)

-- the record of a number is that of its batch
pub batch_of_part : SpellingsDiffer → (first number i : ℕ) (here : List BatchContent)
    (bytes : List ℕ) (found : Option BatchContent) (result : Result BatchContent EngineError) →
    number ≡ first + i → All IsBatch here → slice_get (records_from first here) i ≡ Some bytes →
    MatchOption found
    ((b : BatchContent) → IsBatch b → bytes ≡ batch_record number b → ⊥)
    (λ b. (bytes ≡ batch_record number b) × IsBatch b) →
    result ≡ ok_or found engine.Damaged →
    MatchResult result (λ b. slice_get here i ≡ Some b) (IsEnvironmental engine.Disk engine.Memory)
batch_of_part law first number i here bytes None result at each got none answer =
    let it = numbered_at first here i bytes each got in
    absurd (none it.batch it.is_batch
    (it.spelled ∙ ap (λ (n : ℕ). batch_record n it.batch) (sym at)))
batch_of_part law first number i here bytes (Some b) result at each got is answer =
    let placed = batch_placed law first here i b each is.1
    (got ∙ ap (λ (r : List ℕ). Some r) (is.0 ∙ ap (λ (n : ℕ). batch_record n b) at)) in
    subst (λ (r : Result BatchContent EngineError). MatchResult r (λ x. slice_get here i ≡ Some x)
    (IsEnvironmental engine.Disk engine.Memory)) (sym answer) placed

-- the log holds some of the batches, and the first of them is numbered from that number on
pub record PartOf (disk : State) (number : ℕ) (batches : List BatchContent) (one : BatchLog)
    : Type 0 where
  pub before : List BatchContent
  pub here : List BatchContent
  pub behind : List BatchContent
  pub parted : batches ≡ before ++ (here ++ behind)
  pub first : one.first ≡ number + length before
  pub log : LogHolds disk one.log (records_from one.first here)

log_from : (disk : State) (number : ℕ) (one : BatchLog) (here : List BatchContent) →
    HoldsPart disk number one here → LogHolds disk one.log (records_from one.first here)
log_from disk number one here h =
    subst (λ (n : ℕ). LogHolds disk one.log (records_from n here)) (sym h.first) h.log

all_parts : (disk : State) (number : ℕ) (logs : List BatchLog) (batches : List BatchContent) →
    AreParted (HoldsPart disk) number logs batches → All (PartOf disk number batches) logs
all_parts disk number [] batches none = All-nil (PartOf disk number batches)
all_parts disk number (one ∷ logs) batches (here, later, is, has, others) =
    All-cons (PartOf disk number batches) one logs (record {
      before = [];
      here = here;
      behind = later;
      parted = is;
      first = has.first ∙ omega arith;
      log = log_from disk number one here has;
    })
    (All-weaker (PartOf disk (number + length here) later) (PartOf disk number batches)
    (λ other part. record {
      before = here ++ part.before;
      here = part.here;
      behind = part.behind;
      parted = is ∙ ap (λ (b : List BatchContent). here ++ b) part.parted
          ∙ sym (append_assoc here part.before (part.here ++ part.behind));
      first = part.first ∙ omega (arith, length-append here part.before);
      log = part.log;
    }) logs (all_parts disk (number + length here) logs later others))

-- a log that holds a part of batches that are more
older_part : (disk : State) (number : ℕ) (batches before more : List BatchContent)
    (one : BatchLog) → batches ≡ before ++ more → PartOf disk number before one →
    PartOf disk number batches one
older_part disk number batches before more one is part = record {
  before = part.before;
  here = part.here;
  behind = part.behind ++ more;
  parted = is ∙ ap (λ (b : List BatchContent). b ++ more) part.parted
      ∙ append_assoc part.before (part.here ++ part.behind) more
      ∙ ap (λ (b : List BatchContent). part.before ++ b)
      (append_assoc part.here part.behind more);
  first = part.first;
  log = part.log;
}

-- each of the logs holds a part
pub part_of : (disk : State) (logs : BatchLogs) (first : ℕ) (batches : List BatchContent)
    (one : BatchLog) → LogsHold disk logs first batches →
    Contains logs.older.items one ⊎ (logs.newest ≡ one) → PartOf disk first batches one
part_of disk logs first batches one h (inl older) =
    older_part disk first batches h.before h.here one h.parted
    (All-contains (PartOf disk first h.before) logs.older.items one
    (all_parts disk first logs.older.items h.before h.older) older)
part_of disk logs first batches one h (inr newest) =
    subst (PartOf disk first batches) newest (record {
      before = h.before;
      here = h.here;
      behind = [];
      parted = h.parted
          ∙ ap (λ (b : List BatchContent). h.before ++ b) (sym (append-nil h.here));
      first = h.newest.first;
      log = log_from disk (first + length h.before) logs.newest h.here h.newest;
    })

pub each_here : (disk : State) (number : ℕ) (batches : List BatchContent) (one : BatchLog)
    (part : PartOf disk number batches one) → All IsBatch batches → All IsBatch part.here
each_here disk number batches one part each =
    all_before part.here part.behind (all_behind part.before (part.here ++ part.behind)
    (subst (All IsBatch) part.parted each))

-- a batch of a part has its place among all
placed_before : (here behind : List BatchContent) (i : ℕ) (b : BatchContent) →
    slice_get here i ≡ Some b → slice_get (here ++ behind) i ≡ Some b
placed_before [] behind i b got = absurd cc
placed_before (x ∷ here) behind zero b got = got
placed_before (x ∷ here) behind (suc i) b got = placed_before here behind i b got

placed_behind : (before here : List BatchContent) (i : ℕ) (b : BatchContent) →
    slice_get here i ≡ Some b → slice_get (before ++ here) (length before + i) ≡ Some b
placed_behind [] here i b got =
    let at : length {A = BatchContent} [] + i ≡ i = omega arith in
    ap (slice_get here) at ∙ got
placed_behind (x ∷ before) here i b got =
    let at : length (x ∷ before) + i ≡ suc (length before + i) = omega arith in
    ap (slice_get (x ∷ before ++ here)) at ∙ placed_behind before here i b got

pub batch_among : (disk : State) (first number : ℕ) (batches : List BatchContent) (one : BatchLog)
    (part : PartOf disk first batches one) (result : Result BatchContent EngineError) →
    one.first ≤ number →
    MatchResult result (λ b. slice_get part.here (number - one.first) ≡ Some b)
    (IsEnvironmental engine.Disk engine.Memory) →
    MatchResult result (λ b. slice_get batches (number - first) ≡ Some b)
    (IsEnvironmental engine.Disk engine.Memory)
batch_among disk first number batches one part (Ok b) behind got =
    let at : number - first ≡ length part.before + (number - one.first) =
    omega (arith, part.first, behind) in
    ap (slice_get batches) at
    ∙ ap (λ (l : List BatchContent). slice_get l (length part.before + (number - one.first)))
    part.parted
    ∙ placed_behind part.before (part.here ++ part.behind) (number - one.first) b
    (placed_before part.here part.behind (number - one.first) b got)
batch_among disk first number batches one part (Err e) behind machine = machine

-- ---- logs that follow one another

-- the last of some joined logs ends where the next one begins
pub last_in_turn : (number next : ℕ) (logs : List BatchLog) (last : BatchLog) →
    AreInTurn number (logs ++ last ∷ []) next →
    AreInTurn number logs last.first × (end_of_log last ≡ next)
last_in_turn number next [] last (first, ends) = (sym first, ends)
last_in_turn number next (one ∷ logs) last (first, others) =
    let joined = last_in_turn (end_of_log one) next logs last others in
    ((first, joined.0), joined.1)

in_turn_push : (number next : ℕ) (logs : List BatchLog) (last : BatchLog) →
    AreInTurn number logs last.first → end_of_log last ≡ next →
    AreInTurn number (logs ++ last ∷ []) next
in_turn_push number next [] last same ends = (sym same, ends)
in_turn_push number next (one ∷ logs) last (first, others) ends =
    (first, in_turn_push (end_of_log one) next logs last others ends)

pub joined_push : (number next : ℕ) (logs : List BatchLog) (last : BatchLog) →
    AreJoined number logs last.first → end_of_log last ≡ next →
    AreJoined number (logs ++ last ∷ []) next
joined_push number next logs last joined ends =
    joined_of number next (logs ++ last ∷ [])
    (in_turn_push number next logs last (joined_in_turn number last.first logs joined) ends)

pub first_kept : (logs : List BatchLog) (last newest : BatchLog) →
    oldest_first (logs ++ last ∷ []) newest ≡ oldest_first logs last
first_kept [] last newest = refl
first_kept (one ∷ logs) last newest = refl

-- the logs before the last one, of joined logs
pub walk_back : (older rest : List BatchLog) (last newest : BatchLog) →
    older ≡ rest ++ last ∷ [] → AreJoined (oldest_first older newest) older newest.first →
    (oldest_first older newest ≡ oldest_first rest last)
    × AreJoined (oldest_first rest last) rest last.first × (end_of_log last ≡ newest.first)
walk_back older rest last newest is joined =
    let same : oldest_first older newest ≡ oldest_first rest last =
    ap (λ (l : List BatchLog). oldest_first l newest) is ∙ first_kept rest last newest in
    let at : AreJoined (oldest_first rest last) (rest ++ last ∷ []) newest.first =
    subst (λ (n : ℕ). AreJoined n (rest ++ last ∷ []) newest.first) same
    (subst (λ (l : List BatchLog). AreJoined (oldest_first older newest) l newest.first) is joined)
    in
    let both = last_in_turn (oldest_first rest last) newest.first rest last
    (joined_in_turn (oldest_first rest last) newest.first (rest ++ last ∷ []) at) in
    (same, joined_of (oldest_first rest last) last.first rest both.0, both.1)

pub still_among : (older rest : List BatchLog) (last newest one : BatchLog) →
    older ≡ rest ++ last ∷ [] → Contains rest one ⊎ (last ≡ one) →
    Contains older one ⊎ (newest ≡ one)
still_among older rest last newest one is (inl among) =
    inl (subst (λ (l : List BatchLog). Contains l one) (sym is)
    (Contains-append_left rest (last ∷ []) one among))
still_among older rest last newest one is (inr same) =
    inl (subst (λ (l : List BatchLog). Contains l one) (sym is)
    (subst (λ (x : BatchLog). Contains (rest ++ last ∷ []) x) same (Contains-push rest last)))
