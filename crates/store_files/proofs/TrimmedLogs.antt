-- Logs of which the oldest are forgotten, and what the others hold.
use Rattle.std.proofs.Common.{◌≡◌, ◌≢◌, ◌≤◌, ◌+◌, ◌-◌, ◌∙◌, ℕ, zero, suc, List, [], ◌∷◌, ◌++◌}
use Rattle.std.proofs.Common.{map, drop, length, ap, arith, refl, subst, sym, append_assoc}
use Rattle.std.specs.Prelude.{All}
use Rattle.std.proofs.lemmas.List.{drop_all, drop-append-le, drop-map, length-append, length-map}
use Rattle.std.proofs.lemmas.List.Elements.{All-drop}
use Rattle.std.proofs.Math.Seq.{drop-append_seam}
use Rattle.kv_types.specs.{BatchContent}
use Rattle.disk.specs.{Contents, State}
use Rattle.record_log.specs.{file_of}
use Rattle.version_edits.specs.declared.line.LogLine.{LogLine}
use Rattle.batch_logs.specs.declared.batch_logs.BatchLog.{BatchLog}
use Rattle.batch_logs.specs.declared.batch_logs.BatchLogs.{BatchLogs}
use Rattle.batch_logs.specs.BatchLogs.{AreJoined, AreParted, AreUsable, HasPart, HaveBatches}
use Rattle.batch_logs.specs.BatchLogs.{HoldsPart, IsWorking, LogsHold, end_of_log, first_number}
use Rattle.batch_logs.specs.BatchLogs.{line_of, lines_of, newest_file, oldest_first}
use Rattle.store_files.specs.Raising.{before_oldest}
use Rattle.batch_logs.specs.BatchLogsLemmas.{AreInTurn, joined_in_turn as in_turn, joined_of}

-- ---- batches without the first ones

pub drop_twice : {A : Type 0} (n m : ℕ) (xs : List A) → drop m (drop n xs) ≡ drop (n + m) xs
drop_twice zero m xs =
    let same : zero + m ≡ m = omega arith in
    ap (λ (k : ℕ). drop k xs) (sym same)
drop_twice {A} (suc n) m [] =
    drop_all {X = A} m [] (omega arith) ∙ sym (drop_all {X = A} (suc n + m) [] (omega arith))
drop_twice (suc n) m (x ∷ xs) =
    let same : suc n + m ≡ suc (n + m) = omega arith in
    drop_twice n m xs ∙ ap (λ (k : ℕ). drop k (x ∷ xs)) (sym same)

-- batches that are parted among logs, without the first of these logs
pub record AreParts {L : Type 0} (Has : ℕ → L → List BatchContent → Type 0) (number : ℕ)
    (left : List L) (batches : List BatchContent) : Type 0 where
  pub gone : List BatchContent
  pub rest : List BatchContent
  pub parted : batches ≡ gone ++ rest
  pub have : AreParted Has (number + length gone) left rest

pub parted_drop : {L : Type 0} (Has : ℕ → L → List BatchContent → Type 0) (count number : ℕ)
    (logs : List L) (batches : List BatchContent) → AreParted Has number logs batches
    → AreParts Has number (drop count logs) batches
parted_drop Has zero number logs batches have =
    let same : number + length {A = BatchContent} [] ≡ number = omega arith in
    record {
      gone = [];
      rest = batches;
      parted = refl;
      have = subst (λ (n : ℕ). AreParted Has n logs batches) (sym same) have;
    }
parted_drop Has (suc count) number [] batches none = record {
  gone = [];
  rest = batches;
  parted = refl;
  have = none;
}
parted_drop Has (suc count) number (log ∷ logs) batches (here, later, is, has, others) =
    let more = parted_drop Has count (number + length here) logs later others in
    let at : number + length here + length more.gone ≡ number + length (here ++ more.gone) =
    let long = length-append here more.gone in omega (arith, long) in
    record {
      gone = here ++ more.gone;
      rest = more.rest;
      parted = is ∙ ap (λ (l : List BatchContent). here ++ l) more.parted
          ∙ sym (append_assoc here more.gone more.rest);
      have = subst (λ (n : ℕ). AreParted Has n (drop count logs) more.rest) at more.have;
    }

-- ---- lines of logs

-- the first of the lines tells how many batches come before it
first_of_lines : (left : Contents) (number : ℕ) (lines : List LogLine)
    (batches : List BatchContent) → 0 ≢ length lines → HaveBatches left number lines batches
    → before_oldest lines ≡ number - 1
first_of_lines left number [] batches some have = absurd (some refl)
first_of_lines left number (line ∷ lines) batches some (here, later, is, has, others) =
    ap (λ (n : ℕ). n - 1) has.0

-- the files of the logs that are left have the batches behind those of the others
pub left_have : (left : Contents) (trimmed count : ℕ) (lines kept : List LogLine)
    (list : List BatchContent) → kept ≡ drop count lines → 0 ≢ length kept
    → HaveBatches left (suc trimmed) lines (drop trimmed list)
    → HaveBatches left (suc (before_oldest kept)) kept (drop (before_oldest kept) list)
left_have left trimmed count lines kept list is some have =
    let parts = parted_drop (HasPart left) count (suc trimmed) lines (drop trimmed list) have in
    let here = subst (λ (l : List LogLine).
    HaveBatches left (suc trimmed + length parts.gone) l parts.rest) (sym is) parts.have in
    let first = first_of_lines left (suc trimmed + length parts.gone) kept parts.rest some here in
    let before : trimmed + length parts.gone ≡ before_oldest kept = omega (arith, first) in
    let number : suc trimmed + length parts.gone ≡ suc (trimmed + length parts.gone) = omega arith
    in
    let rest : parts.rest ≡ drop (trimmed + length parts.gone) list =
    sym (drop-append_seam parts.gone parts.rest)
    ∙ ap (drop (length parts.gone)) (sym parts.parted)
    ∙ drop_twice trimmed (length parts.gone) list in
    subst (λ (k : ℕ). HaveBatches left (suc k) kept (drop k list)) before
    (subst (λ (n : ℕ). HaveBatches left n kept (drop (trimmed + length parts.gone) list)) number
    (subst (λ (l : List BatchContent).
    HaveBatches left (suc trimmed + length parts.gone) kept l) rest here))

-- ---- open logs

-- the oldest log's line tells how many batches come before it
before_by_lines : (older : List BatchLog) (newest : BatchLog)
    → before_oldest (map line_of older ++ line_of newest ∷ []) ≡ oldest_first older newest - 1
before_by_lines [] newest = refl
before_by_lines (one ∷ older) newest = refl

pub trimmed_by_lines : (logs : BatchLogs)
    → before_oldest (lines_of logs) ≡ first_number logs - 1
trimmed_by_lines logs = before_by_lines logs.older.items logs.newest

-- joined logs stay so without the first ones
drop_in_turn : (count : ℕ) (older : List BatchLog) (newest : BatchLog) (number : ℕ)
    → AreInTurn number older newest.first
    → AreInTurn (oldest_first (drop count older) newest) (drop count older) newest.first
drop_in_turn zero [] newest number same = refl
drop_in_turn zero (one ∷ older) newest number (first, others) = (refl, others)
drop_in_turn (suc count) [] newest number same = refl
drop_in_turn (suc count) (one ∷ older) newest number (first, others) =
    drop_in_turn count older newest (end_of_log one) others

-- parts of logs begin with the number of the oldest
first_of_parts : (disk : State) (number : ℕ) (older : List BatchLog) (newest : BatchLog)
    (before here : List BatchContent) → AreParted (HoldsPart disk) number older before
    → HoldsPart disk (number + length before) newest here → oldest_first older newest ≡ number
first_of_parts disk number [] newest before here none last =
    let first = last.first in
    let long = ap length none in
    omega (arith, first, long)
first_of_parts disk number (one ∷ older) newest before here (mine, later, is, has, others) last =
    has.first

-- logs of which so many of the oldest were forgotten
pub record AreTrimmed (logs after : BatchLogs) (count : ℕ) : Type 0 where
  pub older : after.older.items ≡ drop count logs.older.items
  pub newest : after.newest ≡ logs.newest

module _ (logs after : BatchLogs) (count : ℕ) (t : AreTrimmed logs after count) where
  abbrev left : List BatchLog
  left = drop count logs.older.items

  pub trimmed_lines : count ≤ length logs.older.items
      → lines_of after ≡ drop count (lines_of logs)
  trimmed_lines few =
      let long = length-map logs.older.items line_of in
      ap (λ (l : List BatchLog). map line_of l ++ line_of after.newest ∷ []) t.older
      ∙ ap (λ (one : BatchLog). map line_of left ++ line_of one ∷ []) t.newest
      ∙ ap (λ (l : List LogLine). l ++ line_of logs.newest ∷ [])
      (sym (drop-map line_of count logs.older.items))
      ∙ sym (drop-append-le count (map line_of logs.older.items) (line_of logs.newest ∷ [])
      (omega (arith, long, few)))

  pub trimmed_usable : AreUsable logs → AreUsable after
  trimmed_usable usable =
      let P : BatchLog → Type 0 = λ one. file_of one.log ≡ newest_file after → ⊥ in
      let same : newest_file logs ≡ newest_file after =
      ap (λ (one : BatchLog). file_of one.log) (sym t.newest) in
      record {
        joined = subst (λ (one : BatchLog).
            AreJoined (oldest_first after.older.items one) after.older.items one.first)
            (sym t.newest)
            (subst (λ (l : List BatchLog). AreJoined (oldest_first l logs.newest) l
            logs.newest.first) (sym t.older)
            (joined_of (oldest_first left logs.newest) logs.newest.first left
            (drop_in_turn count logs.older.items logs.newest (first_number logs)
            (in_turn (first_number logs) logs.newest.first logs.older.items usable.joined))));
        older = subst (All IsWorking) (sym t.older)
            (All-drop IsWorking count logs.older.items usable.older);
        newest = subst IsWorking (sym t.newest) usable.newest;
        apart = subst (All P) (sym t.older) (subst (λ (f : ℕ).
            All (λ (one : BatchLog). file_of one.log ≡ f → ⊥) left) same
            (All-drop (λ (one : BatchLog). file_of one.log ≡ newest_file logs → ⊥) count
            logs.older.items usable.apart));
      }

  -- they hold the batches behind those of the forgotten ones
  pub trimmed_hold : (disk : State) (trimmed : ℕ) (list : List BatchContent)
      → LogsHold disk logs (suc trimmed) (drop trimmed list)
      → LogsHold disk after (suc (first_number after - 1)) (drop (first_number after - 1) list)
  trimmed_hold disk trimmed list h =
      let parts = parted_drop (HoldsPart disk) count (suc trimmed) logs.older.items h.before
      h.older in
      let number : ℕ = suc trimmed + length parts.gone in
      let long = ap length h.parted ∙ length-append h.before h.here in
      let cut = ap length parts.parted ∙ length-append parts.gone parts.rest in
      let at : suc trimmed + length h.before ≡ number + length parts.rest = omega (arith, cut) in
      let last = subst (λ (n : ℕ). HoldsPart disk n logs.newest h.here) at h.newest in
      let first : first_number after ≡ number =
      ap (λ (l : List BatchLog). oldest_first l after.newest) t.older
      ∙ ap (oldest_first left) t.newest
      ∙ first_of_parts disk number left logs.newest parts.rest h.here parts.have last in
      let before : trimmed + length parts.gone ≡ first_number after - 1 = omega (arith, first) in
      let whole : drop trimmed list ≡ parts.gone ++ (parts.rest ++ h.here) =
      h.parted ∙ ap (λ (l : List BatchContent). l ++ h.here) parts.parted
      ∙ append_assoc parts.gone parts.rest h.here in
      let rest : drop (trimmed + length parts.gone) list ≡ parts.rest ++ h.here =
      sym (drop_twice trimmed (length parts.gone) list)
      ∙ ap (drop (length parts.gone)) whole
      ∙ drop-append_seam parts.gone (parts.rest ++ h.here) in
      let same : number ≡ suc (trimmed + length parts.gone) = omega arith in
      subst (λ (k : ℕ). LogsHold disk after (suc k) (drop k list)) before
      (subst (λ (n : ℕ). LogsHold disk after n (drop (trimmed + length parts.gone) list)) same
      (record {
        before = parts.rest;
        here = h.here;
        parted = rest;
        older = subst (λ (l : List BatchLog). AreParted (HoldsPart disk) number l parts.rest)
            (sym t.older) parts.have;
        newest = subst (λ (one : BatchLog).
            HoldsPart disk (number + length parts.rest) one h.here) (sym t.newest) last;
      }))
