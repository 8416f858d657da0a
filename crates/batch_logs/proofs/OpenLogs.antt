-- The logs of a version, opened: the last of them is the newest.
use Rattle.std.proofs.Common.{◌≡◌, ◌≢◌, ◌↔◌, false, ◌-◌, ℕ, suc, ◌+◌, ◌<◌, ◌≤◌, List, [], ◌∷◌, ◌++◌}
use Rattle.std.proofs.Common.{length}
use Rattle.std.proofs.Common.{refl, sym, ap, subst, ◌∙◌, arith, length-append, map}
use Rattle.std.specs.Prelude.{All, IsTrue, slice_index_or, not, ◌==◌}
use Rattle.std.specs.List.{list_any}
use Rattle.std.proofs.lemmas.Bool.{and_parts, eqb-false, not-true, or_parts}
use Rattle.std.proofs.lemmas.List.{append-nil, append_assoc, map-append}
use Rattle.std.proofs.lemmas.List.Elements.{All-cons, All-head, All-nil, All-tail}
use Rattle.kv_types.specs.declared.bounds.TheConstants.{MAX_NUMBER}
use Rattle.kv_types.specs.{BatchContent, Entry, SpellingsDiffer}
use Rattle.disk.specs.{Contents, State, contents}
use Rattle.memtable.specs.declared.Memtable.{Memtable}
use Rattle.memtable.specs.{TableHolds}
use Rattle.store_model.specs.{replayed_entries}
use Rattle.record_log.specs.{RecordsAreUnique}
use Rattle.version_edits.specs.declared.line.LogLine.{LogLine}
use Rattle.version_edits.specs.declared.line.TableLine.{TableLine}
use Rattle.version_edits.specs.Versions.{are_once, files_of}
use Rattle.batch_logs.specs.declared.batch_logs.BatchLog.{BatchLog}
use Rattle.batch_logs.specs.declared.batch_logs.BatchLogs.{BatchLogs}
use Rattle.batch_logs.specs.BatchLogs.{AreJoined, AreParted, HaveBatches, HoldsPart}
use Rattle.batch_logs.specs.BatchLogs.{IsWorking, LogsHold, end_of_log, first_number, line_of}
use Rattle.batch_logs.specs.BatchLogs.{lines_of}
use Rattle.batch_logs.specs.BatchLogs.{newest_file, next_number, oldest_first}
use Rattle.batch_logs.specs.Replaying.{AreBatchesOf, AreOpenLogs, AreReplayed, HasReplayed}
use Rattle.batch_logs.specs.Replaying.{AreInLine, AreOfDifferentFiles, AreReadLogs}
use Rattle.batch_logs.specs.Memtables.{IsNumberedTo}
use Rattle.batch_logs.specs.PartsLemmas.{held_count}
use Rattle.batch_logs.specs.BatchLogsLemmas.{AreInTurn, joined_in_turn, joined_of}
use Rattle.batch_logs.proofs.JoinedLogs.{last_in_turn}
use Rattle.batch_logs.proofs.ReadLogs.{beside_of}
use Rattle.batch_logs.specs.PartsLemmas.{same_parts}

-- ---- files that are named once

not_among : (file : ℕ) (before behind : List LogLine) (line : LogLine) (others : List ℕ) →
    list_any (λ n. n == file) (map (λ (l : LogLine). l.file) (before ++ line ∷ behind) ++ others)
    ≡ false → line.file ≢ file
not_among file [] behind line others none same =
    let rest = list_any (λ n. n == file) (map (λ (l : LogLine). l.file) behind ++ others) in
    eqb-false line.file file (or_parts (line.file == file) rest none).0 same
not_among file (first ∷ before) behind line others none same =
    let rest = list_any (λ n. n == file)
    (map (λ (l : LogLine). l.file) (before ++ line ∷ behind) ++ others) in
    not_among file before behind line others (or_parts (first.file == file) rest none).1 same

apart_once : (before behind : List LogLine) (line : LogLine) (others : List ℕ) →
    IsTrue (are_once (map (λ (l : LogLine). l.file) (before ++ line ∷ behind) ++ others)) →
    All (λ (other : LogLine). other.file ≢ line.file) before
apart_once [] behind line others once = All-nil (λ (other : LogLine). other.file ≢ line.file)
apart_once (first ∷ before) behind line others once =
    let rest : List ℕ = map (λ (l : LogLine). l.file) (before ++ line ∷ behind) ++ others in
    let among = list_any (λ other. other == first.file) rest in
    let both = and_parts (not among) (are_once rest) once in
    All-cons (λ (other : LogLine). other.file ≢ line.file) first before
    (λ same. not_among first.file before behind line others (not-true among both.0) (sym same))
    (apart_once before behind line others both.1)

pub different_files : (logs : List LogLine) (tables : List TableLine) →
    IsTrue (are_once (files_of logs tables)) → AreOfDifferentFiles logs
different_files logs tables once before behind line is =
    apart_once before behind line (map (λ (l : TableLine). l.file) tables)
    (subst (λ (l : List LogLine). IsTrue (are_once (files_of l tables))) is once)

-- ---- the first line

pub begins : (left : Contents) (number : ℕ) (lines : List LogLine) (line : LogLine)
    (batches : List BatchContent) → line ≡ slice_index_or lines 0 line → 0 < length lines →
    HaveBatches left number lines batches → line.first ≡ number
begins left number [] line batches is some have = absurd (omega (arith, some))
begins left number (first ∷ lines) line batches is some (here, later, parted, has, others) =
    ap (λ (l : LogLine). l.first) is ∙ has.0

-- ---- the last log

record LastOf {L : Type 0} (Has : ℕ → L → List BatchContent → Type 0) (number : ℕ) (front : List L)
    (one : L) (batches : List BatchContent) : Type 0 where
  before : List BatchContent
  here : List BatchContent
  parted : batches ≡ before ++ here
  others : AreParted Has number front before
  last : Has (number + length before) one here

last_of : {L : Type 0} (Has : ℕ → L → List BatchContent → Type 0) (number : ℕ) (front : List L)
    (one : L) (batches : List BatchContent) → AreParted Has number (front ++ one ∷ []) batches →
    LastOf Has number front one batches
last_of Has number [] one batches (here, later, is, has, none) = record {
  before = [];
  here = here;
  parted = is ∙ ap (λ (l : List BatchContent). here ++ l) none ∙ append-nil here;
  others = refl;
  last = subst (λ (n : ℕ). Has n one here) (omega arith) has;
}
last_of Has number (log ∷ front) one batches (mine, later, is, has, others) =
    let it = last_of Has (number + length mine) front one later others in
    let at : number + length mine + length it.before ≡ number + length (mine ++ it.before) =
    omega (arith, length-append mine it.before) in
    record {
      before = mine ++ it.before;
      here = it.here;
      parted = is ∙ ap (λ (l : List BatchContent). mine ++ l) it.parted
          ∙ sym (append_assoc mine it.before it.here);
      others = (mine, it.before, refl, has, it.others);
      last = subst (λ (n : ℕ). Has n one it.here) at it.last;
    }

all_front : {L : Type 0} (P : L → Type 0) (front : List L) (one : L) → All P (front ++ one ∷ []) →
    All P front × P one
all_front P [] one each = (All-nil P, All-head P one [] each)
all_front P (first ∷ front) one each =
    let rest = all_front P front one (All-tail P first (front ++ one ∷ []) each) in
    (All-cons P first front (All-head P first (front ++ one ∷ []) each) rest.0, rest.1)

oldest_in_turn : (number : ℕ) (older : List BatchLog) (newest : BatchLog) →
    AreInTurn number older newest.first → oldest_first older newest ≡ number
oldest_in_turn number [] newest same = sym same
oldest_in_turn number (one ∷ older) newest (first, others) = first

-- The logs of the lines, of which the last is the newest.
module _ (lines : List LogLine) (before count : ℕ) (items : List BatchLog) (memtable : Memtable)
    (line : AreInLine lines before count items memtable) (logs : BatchLogs)
    (split : items ≡ logs.older.items ++ logs.newest ∷ []) where
  in_order : AreInTurn (suc before) logs.older.items logs.newest.first
      × (end_of_log logs.newest ≡ suc count)
  in_order =
      last_in_turn (suc before) (suc count) logs.older.items logs.newest
      (joined_in_turn (suc before) (suc count) (logs.older.items ++ logs.newest ∷ [])
      (subst (λ (l : List BatchLog). AreJoined (suc before) l (suc count)) split line.joined))

  pub begins_behind : first_number logs ≡ suc before
  begins_behind = oldest_in_turn (suc before) logs.older.items logs.newest in_order.0

  pub named : lines_of logs ≡ lines
  named = sym (map-append line_of logs.older.items (logs.newest ∷ []))
      ∙ ap (map line_of) (sym split) ∙ line.named

  pub open_logs_are : AreOfDifferentFiles lines → AreOpenLogs lines logs memtable
  open_logs_are different =
      let working = all_front IsWorking logs.older.items logs.newest
      (subst (All IsWorking) split line.working) in
      let next : count ≡ next_number logs - 1 = omega (arith, in_order.1) in
      record {
        named = named;
        usable = record {
          joined = subst (λ (n : ℕ). AreJoined n logs.older.items logs.newest.first)
              (sym begins_behind)
              (joined_of (suc before) logs.newest.first logs.older.items in_order.0);
          older = working.0;
          newest = working.1;
          apart = beside_of (newest_file logs) logs.older.items
              (different (map line_of logs.older.items) [] (line_of logs.newest) (sym named));
        };
        numbered = subst (λ (n : ℕ). IsNumberedTo memtable n) next line.numbered;
        few = omega (arith, in_order.1, line.few);
      }

  module _ (old new : State) (flushed size : ℕ)
      (read : AreReadLogs old new lines before flushed size items memtable) where
    pub logs_hold : LogsHold new logs (suc before) read.batches
    logs_hold =
        let it = last_of (HoldsPart new) (suc before) logs.older.items logs.newest read.batches
        (subst (λ (l : List BatchLog). AreParted (HoldsPart new) (suc before) l read.batches) split
        read.holds) in
        record {
          before = it.before;
          here = it.here;
          parted = it.parted;
          older = it.others;
          newest = it.last;
        }

    has_replayed : HasReplayed memtable (suc before) flushed read.batches
    has_replayed =
        let at : before ≡ suc before - 1 = omega arith in
        subst (λ (n : ℕ). (entry : Entry) →
        TableHolds memtable entry ↔ replayed_entries n flushed read.batches entry) at read.entries

    few_read : suc before - 1 + length read.batches ≤ MAX_NUMBER
    few_read =
        omega (
          arith,
          held_count new logs (suc before) read.batches logs_hold,
          in_order.1,
          line.few,
        )

    had_read : AreBatchesOf (contents old) lines (suc before) read.batches
    had_read = record {
      positive = omega arith;
      have = read.had;
      each = read.each;
      few = few_read;
    }

    pub are_replayed : AreReplayed (contents old) lines flushed logs memtable
    are_replayed =
        let first : suc before ≡ first_number logs = sym begins_behind in
        record {
          batches = read.batches;
          had = subst (λ (n : ℕ). AreBatchesOf (contents old) lines n read.batches) first had_read;
          count = held_count new logs (suc before) read.batches logs_hold
              ∙ ap (λ (n : ℕ). n + length read.batches) first;
          entries = subst (λ (n : ℕ). HasReplayed memtable n flushed read.batches) first
              has_replayed;
        }

    -- the batches that the files had are those that were read
    pub were_read : RecordsAreUnique → SpellingsDiffer → (first : ℕ) (batches : List BatchContent) →
        AreBatchesOf (contents old) lines first batches → first ≡ suc before →
        LogsHold new logs first batches × HasReplayed memtable first flushed batches
    were_read law spell first batches had is =
        let have : HaveBatches (contents old) (suc before) lines batches =
        subst (λ (n : ℕ). HaveBatches (contents old) n lines batches) is had.have in
        let same : read.batches ≡ batches =
        same_parts law spell (contents old)
        (suc before) lines read.batches batches read.each had.each
        read.had have in
        subst (λ (n : ℕ). LogsHold new logs n batches × HasReplayed memtable n flushed batches)
        (sym is) (subst (λ (l : List BatchContent).
        LogsHold new logs (suc before) l × HasReplayed memtable (suc before) flushed l) same
        (logs_hold, has_replayed))
