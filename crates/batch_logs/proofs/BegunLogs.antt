-- A new log behind the others.
use Rattle.std.proofs.Common.{◌≡◌, ◌≢◌, ℕ, ◌+◌, List, [], ◌∷◌, ◌++◌}
use Rattle.std.proofs.Common.{length, map, refl, sym, ap, subst, ◌∙◌, arith}
use Rattle.std.proofs.lemmas.List.{append-nil}
use Rattle.std.proofs.lemmas.List.Elements.{All-push, All-same, All-weaker}
use Rattle.kv_types.specs.{BatchContent}
use Rattle.disk.specs.{State}
use Rattle.record_log.specs.{IsAt, LogHolds, count_of, file_of}
use Rattle.record_log.specs.{start_of}
use Rattle.version_edits.specs.declared.line.LogLine.{LogLine}
use Rattle.batch_logs.specs.declared.batch_logs.BatchLog.{BatchLog}
use Rattle.batch_logs.specs.declared.batch_logs.BatchLogs.{BatchLogs}
use Rattle.batch_logs.specs.BatchLogs.{AreBeside, AreJoined, AreParted, AreUsable}
use Rattle.batch_logs.specs.BatchLogs.{HoldsPart, IsWorking, LogsHold, oldest_first, line_of}
use Rattle.batch_logs.specs.BatchLogs.{lines_of}
use Rattle.batch_logs.specs.BatchLogs.{newest_file, next_number, with_line}
use Rattle.batch_logs.specs.PartsLemmas.{held_count, part_in}
use Rattle.batch_logs.proofs.LongerLogs.{kept_beside}
use Rattle.batch_logs.proofs.JoinedLogs.{first_kept, joined_push}
use Rattle.batch_logs.specs.PartsLemmas.{parted_in, parted_push}

-- ---- a new log behind the others

-- the logs after it was begun: the newest is one of the older ones, and a new one is the newest
pub record AreBegun (logs after : BatchLogs) (file : ℕ) : Type 0 where
  pub older : after.older.items ≡ logs.older.items ++ logs.newest ∷ []
  pub first : after.newest.first ≡ next_number logs
  pub in_file : newest_file after ≡ file
  pub from : start_of after.newest.log ≡ 0
  pub works : IsWorking after.newest
  pub empty : count_of after.newest.log ≡ 0

pub begun : (logs after : BatchLogs) (file : ℕ) (new : BatchLog) → after.newest ≡ new →
    after.older.items ≡ logs.older.items ++ logs.newest ∷ [] → new.first ≡ next_number logs →
    IsAt file 0 new.log → count_of new.log ≡ 0 → AreBegun logs after file
begun logs after file new is older first at empty = record {
  older = older;
  first = ap (λ (one : BatchLog). one.first) is ∙ first;
  in_file = ap (λ (one : BatchLog). file_of one.log) is ∙ at.in_file;
  from = ap (λ (one : BatchLog). start_of one.log) is ∙ at.from;
  works = subst IsWorking (sym is) at.works;
  empty = ap (λ (one : BatchLog). count_of one.log) is ∙ empty;
}

module _ (logs after : BatchLogs) (file : ℕ) (b : AreBegun logs after file) where
  pub begun_number : next_number after ≡ next_number logs
  begun_number = omega (arith, b.first, b.empty)

  begun_joined : AreUsable logs →
      AreJoined (oldest_first after.older.items after.newest) after.older.items after.newest.first
  begun_joined usable =
      let all : List BatchLog = logs.older.items ++ logs.newest ∷ [] in
      let joined : AreJoined (oldest_first all after.newest) all after.newest.first =
      subst (λ (n : ℕ). AreJoined n all after.newest.first)
      (sym (first_kept logs.older.items logs.newest after.newest))
      (joined_push (oldest_first logs.older.items logs.newest) after.newest.first logs.older.items
      logs.newest usable.joined (sym b.first)) in
      subst (λ (l : List BatchLog). AreJoined (oldest_first l after.newest) l after.newest.first)
      (sym b.older) joined

  pub begun_usable : AreUsable logs → AreBeside file logs.older.items → newest_file logs ≢ file →
      AreUsable after
  begun_usable usable beside apart =
      let P : BatchLog → Type 0 = λ one. file_of one.log ≢ newest_file after in
      record {
        joined = begun_joined usable;
        older = All-same IsWorking after.older.items (logs.older.items ++ logs.newest ∷ []) b.older
            (All-push IsWorking logs.older.items logs.newest usable.older usable.newest);
        newest = b.works;
        apart = All-same P after.older.items (logs.older.items ++ logs.newest ∷ []) b.older
            (All-push P logs.older.items logs.newest
            (All-weaker (λ (one : BatchLog). file_of one.log ≢ file) P
            (λ one not same. not (same ∙ b.in_file)) logs.older.items beside)
            (λ same. apart (same ∙ b.in_file)));
      }

  lines_push : (older : List BatchLog) → map line_of (older ++ logs.newest ∷ [])
      ≡ map line_of older ++ line_of logs.newest ∷ []
  lines_push [] = refl
  lines_push (one ∷ older) = ap (λ (l : List LogLine). line_of one ∷ l) (lines_push older)

  line_so : (f n : ℕ) → f ≡ file → n ≡ next_number logs →
      ◌≡◌ {A = LogLine} (record { file = f; first = n })
      (record { file = file; first = next_number logs })
  line_so f n is_file is_first = rw (is_file, is_first) refl

  pub begun_lines : lines_of after ≡ with_line logs file
  begun_lines =
      ap (λ (l : List BatchLog). map line_of l ++ line_of after.newest ∷ []) b.older
      ∙ ap (λ (l : List LogLine). l ++ line_of after.newest ∷ []) (lines_push logs.older.items)
      ∙ ap (λ (line : LogLine). lines_of logs ++ line ∷ [])
      (line_so (newest_file after) after.newest.first b.in_file b.first)

  pub begun_holds : (old new : State) (first : ℕ) (batches : List BatchContent) →
      LogsHold old logs first batches → ((other : ℕ) → other ≢ file → new other ≡ old other) →
      AreBeside file logs.older.items → newest_file logs ≢ file → LogHolds new after.newest.log [] →
      LogsHold new after first batches
  begun_holds old new first batches h others beside apart holds =
      let at : ℕ = first + length h.before in
      let last : HoldsPart new at logs.newest h.here =
      part_in old new at logs.newest h.here (others (newest_file logs) apart) h.newest in
      let older : AreParted (HoldsPart new) first logs.older.items h.before =
      parted_in old new first logs.older.items h.before
      (kept_beside old new file logs.older.items others beside) h.older in
      let number : next_number logs ≡ first + length batches =
      held_count old logs first batches h in
      record {
        before = batches;
        here = [];
        parted = sym (append-nil batches);
        older = subst (λ (l : List BatchLog). AreParted (HoldsPart new) first l batches)
            (sym b.older) (subst (λ (l : List BatchContent).
            AreParted (HoldsPart new) first (logs.older.items ++ logs.newest ∷ []) l) (sym h.parted)
            (parted_push (HoldsPart new) first logs.older.items logs.newest h.before h.here older
            last));
        newest = record { first = b.first ∙ number; from = b.from; log = holds };
      }
