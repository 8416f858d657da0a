-- The device behind a disk in memory: its failures, the states that the disk has had, and its
-- incidents.
use Rattle.std.specs.Prelude.{◌≡◌, ℕ, suc, ◌-◌, List, ◌∷◌, length}
use Rattle.std.specs.Prelude.{Option, Some, Result, Err}
use Rattle.std.specs.Option.{option_map}
use Rattle.disk.specs.declared.error.DiskError.{DiskError}
use Rattle.disk.specs.declared.error.DiskError.TheVariants.{Failed, Memory}
use Rattle.disk.specs.States.{Slot}
use Rattle.disk.specs.Calls.{RisesByOne}
use Rattle.disk.specs.Faults.{Incidents, WasMade, fault_of}

-- how often it failed, the slots at first and after each call and crash, the latest first, and its
-- incidents
pub record DeviceState : Type 0 where
  pub failures : ℕ
  pub past : List (List (ℕ × Slot))
  pub incidents : Incidents

-- how many calls are left, where the past is so long, to a fault that strikes where it becomes so
-- long: none once it has struck
abbrev pub calls_left : Option ℕ → ℕ → Option ℕ
calls_left at len = option_map (λ it. it - len) at

-- the fault strikes the next call
abbrev pub IsNext : DeviceState → Type 0
IsNext device = fault_of device.incidents ≡ Some (suc (length device.past))

-- a call was counted that left these slots
pub record IsCounted (slots : List (ℕ × Slot)) (old new : DeviceState) : Type 0 where
  pub past : new.past ≡ slots ∷ old.past
  pub incidents : new.incidents ≡ old.incidents

-- a call failed, and left these slots
pub record DeviceFails {T : Type 0} (slots : List (ℕ × Slot)) (old new : DeviceState)
    (result : Result T DiskError) : Type 0 where
  pub counted : IsCounted slots old new
  pub rises : RisesByOne old.failures new.failures
  pub is : result ≡ Err Failed

-- how a call with this answer ends
pub data AnswerEnds {T : Type 0} (slots : List (ℕ × Slot)) (old new : DeviceState)
    (answer result : Result T DiskError) : Type 0 where
  -- it wants memory, and was not made
  Wants : answer ≡ Err Memory → result ≡ Err Memory → new ≡ old →
      AnswerEnds slots old new answer result
  -- the device fails
  Fails : answer ≡ Err Failed → DeviceFails slots old new result →
      AnswerEnds slots old new answer result
  -- the fault strikes it
  IsStruck : WasMade answer → IsNext old → DeviceFails slots old new result →
      AnswerEnds slots old new answer result
  -- it is answered
  Answers : WasMade answer → (IsNext old → ⊥) → result ≡ answer → IsCounted slots old new →
      new.failures ≡ old.failures → AnswerEnds slots old new answer result
