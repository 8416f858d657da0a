-- A call that fails, for the moments of a disk and for its fault.
use Rattle.std.proofs.Common.{◌≡◌, ℕ, suc, List, ◌∷◌, length, map, Result, Ok, Err}
use Rattle.std.proofs.Common.{refl, ap, inr, sym, subst, ◌∙◌, []}
use Rattle.disk.specs.declared.error.DiskError.{DiskError}
use Rattle.disk.specs.declared.error.DiskError.TheVariants.{Failed, NoFile, Short, Memory}
use Rattle.disk.specs.States.{IsSame, Slot, State}
use Rattle.disk.specs.Moments.{IsLastLeft}
use Rattle.disk.specs.Faults.{CallPasses, Counts, WasMade, fault_of}
use Rattle.disk.specs.Memory.{state_of}
use Rattle.disk.specs.Devices.{AnswerEnds, Answers, DeviceFails, DeviceState, Fails, IsCounted}
use Rattle.disk.specs.Devices.{IsStruck, Wants}

-- an answer of a call that was made
pub was_refused : (T : Type 0) (answer : Result T DiskError) → answer ≡ Err NoFile → WasMade answer
was_refused T (Ok x) is = absurd cc
was_refused T (Err Failed) is = absurd cc
was_refused T (Err NoFile) is = record { works = λ e. absurd cc; has_memory = λ e. absurd cc }
was_refused T (Err Short) is = absurd cc
was_refused T (Err Memory) is = absurd cc

-- it counts
failed_counts : {T : Type 0} (result : Result T DiskError) (before now : ℕ) → result ≡ Err Failed →
    now ≡ suc before → Counts result before now
failed_counts (Ok x) before now failed is = is
failed_counts (Err Failed) before now failed is = is
failed_counts (Err NoFile) before now failed is = is
failed_counts (Err Short) before now failed is = is
failed_counts (Err Memory) before now failed is = absurd cc

-- A call that fails, and leaves the slots as they were. `Effect` relates what a begun call would
-- have answered with what it leaves.
pub fail_passes : (T : Type 0) (slots : List (ℕ × Slot)) (old new : DeviceState)
    (result : Result T DiskError) (R : Type 0) (Effect : Result T DiskError → State → Type 0) →
    DeviceFails slots old new result → Effect (Err NoFile) (state_of slots) →
    CallPasses (map state_of old.past) (map state_of new.past) (fault_of old.incidents) R result
    (state_of slots) (state_of slots) Effect
fail_passes T slots old new result R Effect fails begun =
    let since : map state_of new.past ≡ state_of slots ∷ map state_of old.past =
    ap (map state_of) fails.counted.past in
    record {
      moment = inr (state_of slots, (λ file. refl), since);
      counts = failed_counts result _ _ fails.is (ap length since);
      fault = λ reliable. record {
        begun = λ next. inr (fails.is, (Err NoFile, was_refused T (Err NoFile) refl, begun));
        later = λ struck. (fails.is, λ file. refl);
      };
    }

-- the latest of these states is another one, if that is the same
same_last : (past : List State) (was now : State) → IsSame was now → IsLastLeft past was →
    IsLastLeft past now
same_last [] was now same last = last
same_last (left ∷ before) was now same last = λ file. same file ∙ last file

-- a call that was counted left the latest state of the past
counted_last : (slots : List (ℕ × Slot)) (old new : DeviceState) → IsCounted slots old new →
    IsLastLeft (map state_of new.past) (state_of slots)
counted_last slots old new counted =
    subst (λ (past : List (List (ℕ × Slot))). IsLastLeft (map state_of past) (state_of slots))
    (sym counted.past) (λ file. refl)

-- behind a call the latest state of the past is the one that the disk has, if it was so before
pub ends_past : {T : Type 0} (was : State) (slots : List (ℕ × Slot)) (old new : DeviceState)
    (answer result : Result T DiskError) → AnswerEnds slots old new answer result →
    (answer ≡ Err Memory → IsSame was (state_of slots)) → IsLastLeft (map state_of old.past) was →
    IsLastLeft (map state_of new.past) (state_of slots)
ends_past was slots old new answer result (Wants is same stays) keeps last =
    subst (λ (it : DeviceState). IsLastLeft (map state_of it.past) (state_of slots)) (sym stays)
    (same_last (map state_of old.past) was (state_of slots) (keeps is) last)
ends_past was slots old new answer result (Fails is fails) keeps last =
    counted_last slots old new fails.counted
ends_past was slots old new answer result (IsStruck made next fails) keeps last =
    counted_last slots old new fails.counted
ends_past was slots old new answer result (Answers made not_next is counted rises) keeps last =
    counted_last slots old new counted
