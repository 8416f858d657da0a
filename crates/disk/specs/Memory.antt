-- A disk in memory, as a state.
use Rattle.std.specs.Prelude.{ℕ, ◌-◌, ◌^◌, ◌<◌, List, length, map}
use Rattle.std.specs.Prelude.{Option, Some, None}
use Rattle.std.specs.Map.{lookup}
use Rattle.std.specs.BTreeMap.{is_at}
use Rattle.std.specs.Ordering.{nat_cmp}
use Rattle.disk.specs.Faults.{Incidents}
use Rattle.disk.specs.Moments.{IsLastLeft}
use Rattle.disk.specs.States.{Slot, Absent, Fresh, Kept, State, AgreesOutside}

-- the slots by number, the count of failed calls, the slots that it had at first and after each
-- call and crash, the latest first, and its incidents
pub record Slots : Type 0 where
  pub slots : List (ℕ × Slot)
  pub failures : ℕ
  pub past : List (List (ℕ × Slot))
  pub incidents : Incidents

-- a call with valid arguments fails only where a fault struck: the count of failures is below its
-- last value
abbrev pub IsReliable : Slots → Type 0
IsReliable disk = disk.failures < 2 ^ 64 - 1

-- the slot of a number: absent where the list has none
abbrev pub slot_found : Option Slot → Slot
slot_found None = Absent None
slot_found (Some slot) = slot

-- a disk in memory, as a state by file number
abbrev pub state_of : List (ℕ × Slot) → State
state_of slots file = slot_found (lookup (is_at (nat_cmp file)) slots)

-- the states that it has had, the latest first
abbrev pub past_states : Slots → List State
past_states disk = map state_of disk.past

-- The synced bytes agree with the bytes that a read returns, in all synced places. Every reachable
-- state has this property.
abbrev pub KeptAgrees : Slot → Type 0
KeptAgrees (Absent back) = Unit {0}
KeptAgrees (Fresh bytes back) = Unit {0}
KeptAgrees (Kept bytes kept touches) = AgreesOutside (length kept) touches kept bytes

-- this holds under every number
abbrev pub AllKeptAgree : State → Type 0
AllKeptAgree disk = (file : ℕ) → KeptAgrees (disk file)

-- the latest state of its past is the one that it has
abbrev pub EndsItsPast : Slots → Type 0
EndsItsPast disk = IsLastLeft (past_states disk) (state_of disk.slots)

-- what every disk in memory keeps
pub record IsMemory (disk : Slots) : Type 0 where
  pub agrees : AllKeptAgree (state_of disk.slots)
  pub last : EndsItsPast disk
