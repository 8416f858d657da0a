-- The state of a disk, and the outcomes of a crash.
use Rattle.std.specs.Prelude.{◌≡◌, ◌≢◌, ℕ, ◌+◌, ◌<◌, ◌≤◌, ◌⊎◌}
use Rattle.std.specs.Prelude.{List, [], ◌∷◌, ◌++◌, length, take, drop, slice_get}
use Rattle.std.specs.Prelude.{Option, Some, None, IsSomeAnd}
use Rattle.disk.specs.declared.pending_write.PendingWrite.{PendingWrite}
use Rattle.disk.specs.declared.pending_write.PendingWrite.TheVariants.{Wrote, Cut}

-- ---- places

-- A write or cut makes this place of a file unsynced, where the last sync ended the file here. A
-- write does so for the places that it wrote and those past the synced end. A cut does so for the
-- places past the cut.
abbrev pub MakesUnsynced : PendingWrite → ℕ → ℕ → Type 0
MakesUnsynced (Wrote at len) end place = ((at ≤ place) × (place < at + len)) ⊎ (end ≤ place)
MakesUnsynced (Cut len) end place = len ≤ place

-- a write or cut since the last sync has made the place unsynced
abbrev pub IsUnsynced : ℕ → List PendingWrite → ℕ → Type 0
IsUnsynced end [] place = ⊥
IsUnsynced end (touch ∷ touches) place = MakesUnsynced touch end place ⊎ IsUnsynced end touches
    place

-- two contents with the same bytes, or the same end, in all synced places
abbrev pub AgreesOutside : ℕ → List PendingWrite → List ℕ → List ℕ → Type 0
AgreesOutside end touches a b =
    (place : ℕ) → (IsUnsynced end touches place → ⊥) → slice_get a place ≡ slice_get b place

-- ---- files

-- the slot of a disk under one file number
pub data Slot : Type 0 where
  -- no file; one that was removed since the last crash may reappear
  Absent : (back : Option (List ℕ)) → Slot
  -- a file that was never synced, and the content of a removed one that may reappear
  Fresh : (bytes : List ℕ) (back : Option (List ℕ)) → Slot
  -- a file: the bytes that a read returns, the synced bytes, and the pending writes
  Kept : (bytes kept : List ℕ) (touches : List PendingWrite) → Slot

-- the content that a read returns
abbrev pub seen : Slot → Option (List ℕ)
seen (Absent back) = None
seen (Fresh bytes back) = Some bytes
seen (Kept bytes kept touches) = Some bytes

-- a possible content after a crash
abbrev pub IsFileOutcome : Slot → Option (List ℕ) → Type 0
IsFileOutcome (Absent back) left = (left ≡ None) ⊎ (left ≡ back)
IsFileOutcome (Fresh bytes back) left = Unit {0}
IsFileOutcome (Kept bytes kept touches) left =
    IsSomeAnd left (λ c. AgreesOutside (length kept) touches c bytes)

-- the slot is durable: a crash leaves exactly the content that a read returns
abbrev pub IsDurable : Slot → Type 0
IsDurable (Absent back) = back ≡ None
IsDurable (Fresh bytes back) = ⊥
IsDurable (Kept bytes kept touches) = (kept ≡ bytes) × (touches ≡ [])

-- ---- disks

-- the slots by file number
abbrev pub State : Type 0
State = ℕ → Slot

-- the content under each number, without its crash outcomes
abbrev pub Contents : Type 0
Contents = ℕ → Option (List ℕ)

-- the content that reads return
abbrev pub contents : State → Contents
contents disk file = seen (disk file)

-- a possible content of the disk after a crash
abbrev pub IsCrashOutcome : State → Contents → Type 0
IsCrashOutcome disk left = (file : ℕ) → IsFileOutcome (disk file) (left file)

-- a crash leaves durable content exactly
abbrev pub DurableIsLeft : Type 0
DurableIsLeft = (disk : State) (left : Contents) (file : ℕ) → IsDurable (disk file) →
    IsCrashOutcome disk left → left file ≡ seen (disk file)

-- a crash leaves of each durable file exactly its content, whatever it leaves of the others
abbrev pub DurableFileIsLeft : Type 0
DurableFileIsLeft = (slot : Slot) (left : Option (List ℕ)) → IsDurable slot →
    IsFileOutcome slot left → left ≡ seen slot

-- two disks that are the same, file by file
abbrev pub IsSame : State → State → Type 0
IsSame old new = (file : ℕ) → new file ≡ old file

-- two disks that are the same in all files but one
abbrev pub IsSameBut : ℕ → State → State → Type 0
IsSameBut file old new = (other : ℕ) → other ≢ file → new other ≡ old other

-- A crash leaves of this file only outcomes that were possible before, and the other files are the
-- same.
pub record AddsNoOutcome (file : ℕ) (old new : State) : Type 0 where
  pub crash : (left : Option (List ℕ)) → IsFileOutcome (new file) left → IsFileOutcome (old file)
      left
  pub others : IsSameBut file old new

-- ---- the effects of the calls on a slot

-- the bytes with these written over them from this place on, past their end if need be
abbrev pub overwritten : List ℕ → ℕ → List ℕ → List ℕ
overwritten old at bytes = take at old ++ bytes ++ drop (at + length bytes) old

-- The slot after a write. For a file that was synced this adds a pending write.
abbrev pub written : ℕ → List ℕ → Slot → Slot
written at bytes (Absent back) = Fresh bytes back
written at bytes (Fresh old back) = Fresh (overwritten old at bytes) back
written at bytes (Kept old kept touches) =
    Kept (overwritten old at bytes) kept (touches ++ Wrote at (length bytes) ∷ [])

-- the slot after a cut to this length
abbrev pub cut_to : ℕ → Slot → Slot
cut_to len (Absent back) = Absent back
cut_to len (Fresh old back) = Fresh (take len old) back
cut_to len (Kept old kept touches) = Kept (take len old) kept (touches ++ Cut len ∷ [])

-- the slot after a sync: its written content is durable
abbrev pub synced : Slot → Slot
synced (Absent back) = Absent back
synced (Fresh bytes back) = Kept bytes bytes []
synced (Kept bytes kept touches) = Kept bytes bytes []

-- The slot after a removal. The synced content may reappear after a crash.
abbrev pub removed : Slot → Slot
removed (Absent back) = Absent back
removed (Fresh bytes back) = Absent back
removed (Kept bytes kept touches) = Absent (Some kept)

-- one slot has this new value, and the others are unchanged
pub record ChangesSlot (old new : State) (file : ℕ) (slot : Slot) : Type 0 where
  pub here : new file ≡ slot
  pub others : (other : ℕ) → other ≢ file → new other ≡ old other

-- The state after a failed call for this slot. Each crash outcome is one of the state before the
-- call or of the state after its success.
pub record MayHaveChanged (old new : State) (file : ℕ) (slot : Slot) : Type 0 where
  pub leaves : (left : Option (List ℕ)) → IsFileOutcome (new file) left
      → IsFileOutcome (old file) left ⊎ IsFileOutcome slot left
  pub others : (other : ℕ) → other ≢ file → new other ≡ old other
