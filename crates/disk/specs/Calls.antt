-- The answers of a disk's calls, and their effects on its state.
use Rattle.std.specs.Prelude.{◌≡◌, ℕ, ◌+◌, ◌-◌, ◌^◌, ◌<◌, ◌≤◌, ◌↔◌, ◌⊎◌}
use Rattle.std.specs.Prelude.{List, length, take, drop, Contains}
use Rattle.std.specs.Prelude.{Option, Some, None, IsSome, IsNone, IsSomeAnd}
use Rattle.std.specs.Prelude.{Result, Ok, Err, IsErrOf}
use Rattle.std.specs.List.Sorted.{IsStrictlyIncreasing}
use Rattle.std.specs.Global.{Vec}
use Rattle.disk.specs.declared.error.DiskError.{DiskError}
use Rattle.disk.specs.declared.error.DiskError.TheVariants.{Failed, NoFile, Short, Memory}
use Rattle.disk.specs.States.{State, Slot, seen, IsSame, ChangesSlot, MayHaveChanged}
use Rattle.disk.specs.States.{written, cut_to, synced, removed}
use Rattle.disk.specs.Faults.{HasStruckBy, Incidents, fault_of}

-- a write of this length from this place on would end past the greatest place of a file
abbrev pub EndsOutOfRange : ℕ → ℕ → Type 0
EndsOutOfRange at len = 2 ^ 63 ≤ at + len

-- ---- the clause that every call keeps

-- the count is one more, or stays at its last value
pub record RisesByOne (before now : ℕ) : Type 0 where
  pub below : before < 2 ^ 64 - 1 → now ≡ before + 1
  pub last : 2 ^ 64 - 1 ≤ before → now ≡ before

-- the fault that the disk is armed with has struck
abbrev pub HasStruck : {D : Type 0} → (D → Incidents) → (D → List State) → D → Type 0
HasStruck incidents past disk = HasStruckBy (fault_of (incidents disk)) (length (past disk))

-- The effect of a call on a disk with these ghost members, honest or not. `has_failed` says that
-- the call reports a failure of the device.
pub record KeepsBy {D : Type 0} (is_honest : D → Type 0) (state : D → State) (failures : D → ℕ)
    (is_reliable : D → Type 0) (past : D → List State) (incidents : D → Incidents) (old new : D)
    (has_failed cause : Type 0) (IsKept : State → State → Type 0) : Type 0 where
  -- the disk is honest after the call exactly if it was before
  pub honest : is_honest new ↔ is_honest old
  -- a failure is reported only where the count rises
  pub failed : has_failed → RisesByOne (failures old) (failures new)
  -- otherwise the count stays the same
  pub count : (has_failed → ⊥) → failures new ≡ failures old
  -- a reliable disk whose fault has not struck fails only for this cause
  pub only : is_reliable old → (HasStruck incidents past new → ⊥) → has_failed → cause
  -- the disk stays reliable after a call that has not failed
  pub reliable : is_reliable old → (has_failed → ⊥) → is_reliable new
  -- the files of an honest disk keep this relation
  pub files : is_honest old → IsKept (state old) (state new)
  -- no fault was armed, and no crash came: a fault that is armed stays armed
  pub fault : incidents new ≡ incidents old
  -- where it strikes, the call fails
  pub spared : (HasStruck incidents past old → ⊥) → (has_failed → ⊥) →
      HasStruck incidents past new → ⊥

-- The effect of one of the disk's own calls. At the last value of the count it only fails.
pub record CallKeeps {D T : Type 0} (is_honest : D → Type 0) (state : D → State)
    (failures : D → ℕ) (is_reliable : D → Type 0) (past : D → List State)
    (incidents : D → Incidents) (old new : D) (result : Result T DiskError)
    (cause : Type 0) (IsKept : State → State → Type 0) : Type 0 where
  pub disk : KeepsBy is_honest state failures is_reliable past incidents old new
      (IsErrOf result Failed) cause IsKept
  pub last : 2 ^ 64 - 1 ≤ failures old → IsErrOf result Failed

-- ---- the calls that read

-- the refusals of a call that needs a file of at least this length
abbrev pub IsRefusalOf : DiskError → State → ℕ → ℕ → Type 0
IsRefusalOf Failed disk file len = Unit {0}
IsRefusalOf NoFile disk file len = IsNone (seen (disk file))
IsRefusalOf Short disk file len = IsSomeAnd (seen (disk file)) (λ bytes. length bytes < len)
IsRefusalOf Memory disk file len = Unit {0}

-- the list has the numbers of the existing files, in ascending order
pub record ListsFiles (disk : State) (files : List ℕ) : Type 0 where
  pub rising : IsStrictlyIncreasing files
  pub exact : (file : ℕ) → Contains files file ↔ IsSome (seen (disk file))

-- the answers of `files`
abbrev pub FilesAnswer : State → Result (Vec ℕ) DiskError → Type 0
FilesAnswer disk (Ok files) = ListsFiles disk files.items
FilesAnswer disk (Err e) = (e ≡ Failed) ⊎ (e ≡ Memory)

-- the answers of `length`; lengths are at least 0
abbrev pub LengthAnswer : State → ℕ → Result ℕ DiskError → Type 0
LengthAnswer disk file (Ok len) =
    IsSomeAnd (seen (disk file)) (λ bytes. (len ≡ length bytes) × (len < 2 ^ 63))
LengthAnswer disk file (Err e) = IsRefusalOf e disk file 0

-- the answers of `read`, and the content of its buffer of this length
abbrev pub ReadAnswer : {T : Type 0} → State → ℕ → ℕ → ℕ → Result T DiskError → List ℕ → Type 0
ReadAnswer disk file at len (Ok _) into =
    IsSomeAnd (seen (disk file))
    (λ bytes. (at + len ≤ length bytes) × (into ≡ take len (drop at bytes)))
ReadAnswer disk file at len (Err e) into = IsRefusalOf e disk file (at + len)

-- ---- the calls that change

-- the state after a call for this slot that failed or was refused
abbrev pub FailureLeaves : DiskError → State → ℕ → Slot → State → Type 0
FailureLeaves Failed old file slot new = MayHaveChanged old new file slot
FailureLeaves NoFile old file slot new = IsSame old new
FailureLeaves Short old file slot new = IsSame old new
FailureLeaves Memory old file slot new = IsSame old new

-- a place where a write of the file may begin: place 0 creates the file
abbrev pub CanBegin : Option (List ℕ) → ℕ → Type 0
CanBegin None at = at ≡ 0
CanBegin (Some bytes) at = at ≤ length bytes

-- Only a failure of the device refuses a write that ends out of range. The file's absence refuses
-- only a write that does not create it.
abbrev pub CanRefuse : DiskError → ℕ → ℕ → Type 0
CanRefuse Failed at len = Unit {0}
CanRefuse NoFile at len = (0 < at) × (at + len < 2 ^ 63)
CanRefuse Short at len = at + len < 2 ^ 63
CanRefuse Memory at len = at + len < 2 ^ 63

-- the answers of `write_at`, and the state after it
abbrev pub WriteOutcome : {T : Type 0} → State → ℕ → ℕ → List ℕ → Result T DiskError → State → Type
    0
WriteOutcome old file at bytes (Ok _) new =
    CanBegin (seen (old file)) at
    × (at + length bytes < 2 ^ 63)
    × ChangesSlot old new file (written at bytes (old file))
WriteOutcome old file at bytes (Err e) new =
    FailureLeaves e old file (written at bytes (old file)) new
    × IsRefusalOf e old file at
    × CanRefuse e at (length bytes)

-- the answers of `cut`, and the state after it
abbrev pub CutOutcome : {T : Type 0} → State → ℕ → ℕ → Result T DiskError → State → Type 0
CutOutcome old file len (Ok _) new =
    IsSomeAnd (seen (old file)) (λ bytes. len ≤ length bytes)
    × ChangesSlot old new file (cut_to len (old file))
CutOutcome old file len (Err e) new =
    FailureLeaves e old file (cut_to len (old file)) new × IsRefusalOf e old file len

-- the answers of `sync`, and the state after it; a failed sync adds no crash outcome
abbrev pub SyncOutcome : {T : Type 0} → State → ℕ → Result T DiskError → State → Type 0
SyncOutcome old file (Ok _) new = IsSome (seen (old file)) × ChangesSlot old new file
    (synced (old file))
SyncOutcome old file (Err e) new = FailureLeaves e old file (old file) new × IsRefusalOf e old file
    0

-- the answers of `remove`, and the state after it
abbrev pub RemoveOutcome : {T : Type 0} → State → ℕ → Result T DiskError → State → Type 0
RemoveOutcome old file (Ok _) new = IsSome (seen (old file)) × ChangesSlot old new file
    (removed (old file))
RemoveOutcome old file (Err e) new = FailureLeaves e old file (removed (old file)) new × IsRefusalOf
    e old file 0

-- The effect of a write that was begun. One that would end out of range has none.
abbrev pub BegunWrite : {T : Type 0} → State → ℕ → ℕ → List ℕ → Result T DiskError → State → Type 0
BegunWrite old file at bytes answer new =
    (EndsOutOfRange at (length bytes) × IsSame old new) ⊎ WriteOutcome old file at bytes answer new
