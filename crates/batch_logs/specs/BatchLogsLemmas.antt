-- Logs that follow one another, and the only log of a store.
use Rattle.std.proofs.Common.{◌≡◌, ◌≢◌, ◌∙◌, ℕ, ◌+◌, List, [], ◌∷◌, ◌++◌, ap, arith, length, map}
use Rattle.std.proofs.Common.{refl, subst, sym}
use Rattle.std.proofs.lemmas.List.Elements.{All-nil, All-same}
use Rattle.kv_types.specs.{BatchContent}
use Rattle.disk.specs.{State}
use Rattle.record_log.specs.{file_of}
use Rattle.batch_logs.specs.declared.batch_logs.BatchLog.{BatchLog}
use Rattle.batch_logs.specs.declared.batch_logs.BatchLogs.{BatchLogs}
use Rattle.batch_logs.specs.BatchLogs.{AreJoined, AreParted, AreUsable, HoldsPart, IsWorking}
use Rattle.batch_logs.specs.BatchLogs.{LogsHold, end_of_log, newest_file, next_number, oldest_first}

-- ---- logs that follow one another

-- logs that follow one another, log by log
abbrev pub AreInTurn : ℕ → List BatchLog → ℕ → Type 0
AreInTurn number [] next = number ≡ next
AreInTurn number (one ∷ others) next =
    (one.first ≡ number) × AreInTurn (end_of_log one) others next

-- joined logs follow one another log by log
pub joined_in_turn : (number next : ℕ) (logs : List BatchLog) → AreJoined number logs next →
    AreInTurn number logs next
joined_in_turn number next [] joined = cc
joined_in_turn number next (one ∷ logs) joined =
    let first : number ≡ one.first = cc in
    let others : end_of_log one ∷ map end_of_log logs ≡ map (λ one. one.first) logs ++ next ∷ [] =
    cc in
    (sym first, joined_in_turn (end_of_log one) next logs others)

-- logs that follow one another log by log are joined
pub joined_of : (number next : ℕ) (logs : List BatchLog) → AreInTurn number logs next →
    AreJoined number logs next
joined_of number next [] same = ap (λ (n : ℕ). n ∷ []) same
joined_of number next (one ∷ logs) (first, others) =
    let rest : end_of_log one ∷ map end_of_log logs ≡ map (λ one. one.first) logs ++ next ∷ [] =
    joined_of (end_of_log one) next logs others in
    ap (λ (n : ℕ). n ∷ end_of_log one ∷ map end_of_log logs) (sym first)
    ∙ ap (λ (l : List ℕ). one.first ∷ l) rest

-- ---- one log

-- the log is the only one
pub record IsAlone (logs : BatchLogs) (one : BatchLog) : Type 0 where
  pub older : logs.older.items ≡ []
  pub newest : logs.newest ≡ one

module _ (logs : BatchLogs) (one : BatchLog) (alone : IsAlone logs one) where
  -- the only log of a store is usable where it works
  pub alone_usable : IsWorking one → AreUsable logs
  alone_usable works =
      let P : BatchLog → Type 0 = λ other. file_of other.log ≢ newest_file logs in
      record {
        joined = subst (λ (l : List BatchLog).
            AreJoined (oldest_first l logs.newest) l logs.newest.first) (sym alone.older) refl;
        older = All-same IsWorking logs.older.items [] alone.older (All-nil IsWorking);
        newest = subst IsWorking (sym alone.newest) works;
        apart = All-same P logs.older.items [] alone.older (All-nil P);
      }

  -- the next number is where it ends
  pub alone_next : next_number logs ≡ end_of_log one
  alone_next = ap end_of_log alone.newest

  -- the logs hold what it holds
  pub alone_holds : (disk : State) (first : ℕ) (batches : List BatchContent) →
      HoldsPart disk first one batches → LogsHold disk logs first batches
  alone_holds disk first batches holds =
      let at : first ≡ first + length {A = BatchContent} [] = omega arith in
      record {
        before = [];
        here = batches;
        parted = refl;
        older = subst (λ (l : List BatchLog). AreParted (HoldsPart disk) first l [])
            (sym alone.older) refl;
        newest = subst (λ (l : BatchLog). HoldsPart disk (first + length {A = BatchContent} []) l
            batches) (sym alone.newest)
            (subst (λ (n : ℕ). HoldsPart disk n one batches) at holds);
      }
