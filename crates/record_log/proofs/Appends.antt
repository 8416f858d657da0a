-- What a log holds after a record is appended, and what a crash leaves.
use Rattle.std.proofs.Common.{◌≡◌, refl, ℕ, ◌+◌, ◌^◌, ◌<◌, List, [], ◌∷◌, ◌++◌, length, take, drop}
use Rattle.std.proofs.Common.{Option, Some, None, sym, ap, subst, ◌∙◌, inl, inr, length-append}
use Rattle.std.proofs.Common.{◌-◌, ◌≤◌, zero, suc, min, arith}
use Rattle.std.specs.Prelude.{IsSomeAnd, ◌⊎◌}
use Rattle.std.proofs.lemmas.List.{length-take, length-drop, take-append-le}
use Rattle.disk.specs.declared.DiskError.{DiskError}
use Rattle.disk.specs.declared.DiskError.TheVariants as disk
use Rattle.disk.specs.{IsLeftAt, Kept, LeavesSince, Slot, State, overwritten}
use Rattle.disk.specs.BesideLemmas.{at_start, at_weaker}
use Rattle.disk.specs.StepsLemmas.{Only, sure_only}
use Rattle.record_log.specs.declared.log.Log.{Log}
use Rattle.record_log.specs.Error.{log_error}
use Rattle.record_log.specs.Grammar.{Represents, ends_from}
use Rattle.record_log.specs.Gate.{IsGatedWrite, IsPartlyOpened, IsDurableAs, behind_of, pushed}
use Rattle.record_log.specs.Logs.{LogHolds, IsExpected, IsOldOrNewFrom}
use Rattle.record_log.proofs.Fronts.{ends_push, end_push}
use Rattle.record_log.proofs.Pushes.{IsPartlyPushed, gated as pushes_gated, pushed_is, way_of}
use Rattle.record_log.proofs.Ways.{Gate, gate_at, way_stands, pushed_stands}

-- before its first call an append leaves the old records
pub unchanged : (disk : State) (past : List State) (log : Log) (records : List (List ℕ))
    (one : List ℕ) (h : LogHolds disk log records) → LeavesSince disk past disk past
    (IsLeftAt disk log.file (λ left. IsSomeAnd left
    (IsOldOrNewFrom h.bytes log.start records one)))
unchanged disk past log records one h =
    let P : Option (List ℕ) → Type 0 =
    λ left. IsSomeAnd left (IsOldOrNewFrom h.bytes log.start records one) in
    at_start P log.file disk past
    (subst (λ (slot : Slot). Only P slot) (sym h.sure)
    (sure_only P h.bytes (record { head = refl; is = inl h.stands })))

-- the front of a front
take_front : (n m : ℕ) (l : List ℕ) → n ≤ m → take n (take m l) ≡ take n l
take_front zero m l le = refl
take_front (suc n) zero l le = absurd (omega (arith, le))
take_front (suc n) (suc m) [] le = refl
take_front (suc n) (suc m) (x ∷ l) le = ap (λ (t : List ℕ). x ∷ t) (take_front n m l (omega arith))

-- an outcome on the way has the bytes before the gate
way_head : (bytes : List ℕ) (start gate : ℕ) (behind c : List ℕ) → start ≤ gate →
    gate < length bytes → IsPartlyPushed bytes gate behind c → take start c ≡ take start bytes
way_head bytes start gate behind c le within (inl same) =
    sym (take_front start (gate + 1) c (omega arith)) ∙ ap (take start) same
    ∙ take_front start (gate + 1) bytes (omega arith)
way_head bytes start gate behind c le within (inr way) =
    let front = take gate bytes in
    ap (take start) way.2
    ∙ take-append-le start front (way.0 ∷ (behind ++ way.1))
    (omega (arith, length-take gate bytes))
    ∙ take_front start gate bytes le

-- the log reports the device's failure and want of memory as expected refusals
pub is_met : (e : DiskError) → (e ≡ disk.Failed) ⊎ (e ≡ disk.Memory) → IsExpected (log_error e)
is_met e (inl failed) = rw failed (inl (inl refl))
is_met e (inr memory) = rw memory (inl (inr refl))

-- A log that holds records, one more record, and the place of its gate as the code computes it.
module _ (old : State) (log : Log) (records : List (List ℕ)) (one : List ℕ) (gate : ℕ)
    (h : LogHolds old log records) (short : length one < 2 ^ 32)
    (counts : log.start + log.end + 1 < 2 ^ 64 → gate ≡ log.start + log.end) where
  the_gate : Gate h.bytes log.start (log.start + log.end) records
  the_gate =
      gate_at h.bytes log.start (log.start + log.end) records h.start h.stands
      (omega (arith, h.end))

  -- the code computes the right place
  pub gate_is : gate ≡ log.start + log.end
  gate_is = let within = the_gate.within in counts (omega (arith, within, h.fits))

  -- which is in the file
  pub gate_within : gate < length h.bytes
  gate_within = let within = the_gate.within in omega (arith, gate_is, within)

  -- a crash outcome on the way represents the records, with or without the new one, behind the
  -- bytes that were before them
  on_the_way : (left : Option (List ℕ)) →
      IsSomeAnd left (IsPartlyPushed h.bytes (log.start + log.end) (behind_of one)) →
      IsSomeAnd left (IsOldOrNewFrom h.bytes log.start records one)
  on_the_way None way = way
  on_the_way (Some c) way = record {
    head = way_head h.bytes log.start (log.start + log.end) (behind_of one) c (omega arith)
        the_gate.within way;
    is = way_stands h.bytes log.start (log.start + log.end) records one short the_gate c way;
  }

  -- the record's write is one behind the file's gate
  pub gated : (behind : List ℕ) → behind ≡ behind_of one →
      IsGatedWrite (old log.file) gate (gate + 1) behind (overwritten h.bytes (gate + 1) behind)
  gated behind is =
      pushes_gated h.bytes gate behind gate_within (old log.file) h.sure
      (omega (arith, ap length is))

  -- the crash outcomes at each moment while the record is written behind the gate
  pub crashed : (new : State) (past since : List State) (behind : List ℕ) →
      behind ≡ behind_of one →
      ((all : List ℕ) → IsGatedWrite (old log.file) gate (gate + 1) behind all →
      LeavesSince old past new since
      (IsLeftAt old log.file (IsPartlyOpened (old log.file) gate (gate + 1) behind all))) →
      LeavesSince old past new since (IsLeftAt old log.file
      (λ left. IsSomeAnd left (IsOldOrNewFrom h.bytes log.start records one)))
  crashed new past since behind is leaves =
      let first = overwritten h.bytes (gate + 1) behind in
      at_weaker (IsPartlyOpened (old log.file) gate (gate + 1) behind first)
      (λ left. IsSomeAnd left (IsOldOrNewFrom h.bytes log.start records one))
      log.file old past new since
      (λ left way.
      let P : ℕ → List ℕ → Type 0 = λ g b. IsSomeAnd left (IsPartlyPushed h.bytes g b) in
      on_the_way left
      (subst (P (log.start + log.end)) is (subst (λ (g : ℕ). P g behind) gate_is
      (way_of h.bytes gate behind gate_within (old log.file) h.sure left way))))
      (leaves first (gated behind is))

  -- the file's bytes with the record behind an open gate
  pub spelled : (new : State) (behind : List ℕ) → behind ≡ behind_of one →
      IsDurableAs new log.file (pushed h.bytes gate behind) →
      IsDurableAs new log.file (pushed h.bytes (log.start + log.end) (behind_of one))
  spelled new behind is done =
      let place = log.start + log.end in
      done
      ∙ ap (λ (k : ℕ). Kept (pushed h.bytes k behind) (pushed h.bytes k behind) []) gate_is
      ∙ ap (λ (b : List ℕ). Kept (pushed h.bytes place b) (pushed h.bytes place b) []) is

  -- the records of the log with the new one behind an open gate
  pub appended : (new : State) (after : Log) (behind : List ℕ) (header : ℕ) → behind ≡ behind_of one
      → IsDurableAs new log.file (pushed h.bytes gate behind) × (gate + 1 + length behind < 2 ^ 63)
      → after.file ≡ log.file → after.start ≡ log.start → header ≡ min (log.end + 5) (2 ^ 64 - 1)
      → after.end ≡ min (header + length one) (2 ^ 64 - 1)
      → after.ends.items ≡ log.ends.items ++ after.end ∷ [] → LogHolds new after
      (records ++ one ∷ [])
  appended new after behind header behind_is done file_is start_is header_is end_is ends_is =
      let g = the_gate in
      let place = log.start + log.end in
      let text = behind_of one in
      let all = pushed h.bytes place text in
      let tail = drop (place + 1 + length text) h.bytes in
      let front = take place h.bytes in
      let within = g.within in
      let text_len : length behind ≡ length text = ap length behind_is in
      let same : pushed h.bytes gate behind ≡ all =
      ap (λ (k : ℕ). pushed h.bytes k behind) gate_is ∙ ap (pushed h.bytes place) behind_is in
      let size : length all ≡ length front + (1 + (length text + length tail)) =
      ap length (pushed_is h.bytes place text within) ∙ length-append front (1 ∷ (text ++ tail))
      ∙ ap (λ (k : ℕ). length front + k) (omega (arith, length-append text tail)) in
      let front_len : length front ≡ place = omega (arith, length-take place h.bytes, within) in
      let tail_len = length-drop (place + 1 + length text) h.bytes in
      let end : after.end ≡ log.end + 5 + length one =
      omega (arith, header_is, end_is, done.1, gate_is, text_len) in
      let stands : Represents (drop log.start all) (records ++ one ∷ []) =
      pushed_stands h.bytes log.start place records one short g in
      record {
        bytes = all;
        sure = ap new file_is ∙ done.0 ∙ ap (λ (b : List ℕ). Kept b b []) same;
        start = omega (arith, start_is, size, front_len);
        fits = omega (arith, size, front_len, tail_len, h.fits, done.1, gate_is, text_len);
        stands = subst (λ (s : ℕ). Represents (drop s all) (records ++ one ∷ []))
            (sym start_is) stands;
        ends = ends_is ∙ ap (λ (e : ℕ). log.ends.items ++ e ∷ []) end
            ∙ ap (λ (l : List ℕ). l ++ (log.end + 5 + length one) ∷ []) h.ends
            ∙ ap (λ (e : ℕ). ends_from 0 records ++ (e + 5 + length one) ∷ []) h.end
            ∙ sym (ends_push 0 records one);
        end = end ∙ ap (λ (e : ℕ). e + 5 + length one) h.end ∙ sym (end_push 0 records one);
      }
