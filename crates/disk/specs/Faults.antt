-- The faults that a disk may be armed with, and what they make of its calls.
use Rattle.std.specs.Prelude.{◌≡◌, ◌⊎◌, ℕ, zero, suc, ◌+◌, ◌≤◌, List, [], ◌∷◌, length}
use Rattle.std.specs.Prelude.{Option, Some, None, IsSomeAnd, Result, Ok, Err, IsErrOf}
use Rattle.std.specs.Option.{option_map}
use Rattle.disk.specs.declared.error.DiskError.{DiskError}
use Rattle.disk.specs.declared.error.DiskError.TheVariants.{Failed, NoFile, Short, Memory}
use Rattle.disk.specs.declared.fault.Fault.{Fault}
use Rattle.disk.specs.declared.fault.Fault.TheVariants as fault
use Rattle.disk.specs.declared.incident.Incident.{Incident}
use Rattle.disk.specs.declared.incident.Incident.TheVariants.{Armed, Crashed}
use Rattle.disk.specs.States.{State, IsSame}
use Rattle.disk.specs.Moments.{Passes}

-- The call that a fault strikes, counted from 1 from the moment that it is armed. One at call 0
-- strikes none.
abbrev pub call_at : ℕ → Option ℕ
call_at zero = None
call_at (suc n) = Some (suc n)

-- the call that a fault strikes, if it strikes one
abbrev pub struck_call : Fault → Option ℕ
struck_call fault.None = None
struck_call (fault.Fail call) = call_at call
struck_call (fault.Stop call junk) = call_at call

-- how long the past is once the call is made that a fault strikes, if it was so long when the fault
-- was armed
abbrev pub armed_after : ℕ → Option ℕ → Option ℕ
armed_after len call = option_map (λ n. len + n) call

-- what came when the past was so long: a fault was armed, or the disk crashed
abbrev pub Incidents : Type 0
Incidents = List (ℕ × Incident)

-- how long the past is once the armed fault has struck, by the latest of these
abbrev pub fault_by : ℕ → Incident → Option ℕ
fault_by len (Armed call) = armed_after len call
fault_by len (Crashed junk) = None

-- how long the past is once the armed fault has struck, by the latest incident, if one is armed
abbrev pub fault_of : Incidents → Option ℕ
fault_of [] = None
fault_of (incident ∷ before) = fault_by incident.0 incident.1

-- a fault that strikes where the past becomes so long has struck: it is so long now
abbrev pub HasStruckBy : Option ℕ → ℕ → Type 0
HasStruckBy at len = IsSomeAnd at (λ n. n ≤ len)

-- A call was made. One that wants memory never reaches the device, and does not count.
abbrev pub Counts : {T : Type 0} → Result T DiskError → ℕ → ℕ → Type 0
Counts (Ok _) before now = now ≡ suc before
Counts (Err Failed) before now = now ≡ suc before
Counts (Err NoFile) before now = now ≡ suc before
Counts (Err Short) before now = now ≡ suc before
Counts (Err Memory) before now = now ≡ before

-- the call neither failed nor wanted memory
pub record WasMade {T : Type 0} (result : Result T DiskError) : Type 0 where
  pub works : IsErrOf result Failed → ⊥
  pub has_memory : IsErrOf result Memory → ⊥

-- The call was begun, and not ended: the state is that of a call which was made, with the answer
-- that it would have had.
abbrev pub IsBegun : {T : Type 0} → (Result T DiskError → State → Type 0) → State → Type 0
IsBegun {T} Effect new = (answer : Result T DiskError) × WasMade answer × Effect answer new

-- What a fault makes of a call on a disk that is reliable otherwise.
pub record Strikes {T : Type 0} (at : Option ℕ) (calls : ℕ) (result : Result T DiskError)
    (old new : State) (Effect : Result T DiskError → State → Type 0) : Type 0 where
  -- the call that it strikes fails, and was begun
  pub begun : at ≡ Some (suc calls) →
      IsErrOf result Memory ⊎ (IsErrOf result Failed × IsBegun Effect new)
  -- every later call fails, and changes nothing
  pub later : HasStruckBy at calls → IsErrOf result Failed × IsSame old new

-- The effect of a call on the moments of an honest disk, and that of an armed fault on the call.
-- `Effect` relates the answers of a call that was begun with the state that each leaves.
pub record CallPasses {T : Type 0} (past since : List State) (at : Option ℕ)
    (is_reliable : Type 0) (result : Result T DiskError) (old new : State)
    (Effect : Result T DiskError → State → Type 0) : Type 0 where
  pub moment : Passes past old since new
  pub counts : Counts result (length past) (length since)
  pub fault : is_reliable → Strikes at (length past) result old new Effect
