-- The outcome of a crash, by its junk.
use Rattle.std.specs.Prelude.{◌≡◌, ℕ, zero, suc, ◌+◌, ◌%◌, nat_le, nat_lt}
use Rattle.std.specs.Prelude.{Bool, ◌&&◌, ◌||◌, if◌then◌else◌}
use Rattle.std.specs.Prelude.{List, [], ◌∷◌, length, map, slice_index, Option, Some, None}
use Rattle.std.specs.List.{list_any, enumerate_from}
use Rattle.disk.specs.declared.pending_write.PendingWrite.{PendingWrite}
use Rattle.disk.specs.declared.pending_write.PendingWrite.TheVariants.{Wrote, Cut}
use Rattle.disk.specs.declared.junk.Junk.{Junk}
use Rattle.disk.specs.declared.junk.Junk.TheVariants.{Old, New, Bytes}
use Rattle.disk.specs.States.{Slot, Absent, Fresh, Kept, State, IsDurable, seen}

-- the decision procedure of `MakesUnsynced`
abbrev pub makes_unsynced : PendingWrite → ℕ → ℕ → Bool
makes_unsynced (Wrote at len) end place =
    (nat_le at place && nat_lt place (at + len)) || nat_le end place
makes_unsynced (Cut len) end place = nat_le len place

-- the decision procedure of `IsUnsynced`
abbrev pub is_unsynced : ℕ → List PendingWrite → ℕ → Bool
is_unsynced end touches place = list_any (λ touch. makes_unsynced touch end place) touches

-- the number of unsynced places before this one
abbrev pub unsynced_before : ℕ → List PendingWrite → ℕ → ℕ
unsynced_before end touches zero = 0
unsynced_before end touches (suc place) =
    unsynced_before end touches place + (if is_unsynced end touches place then 1 else 0)

-- the byte at a place of a torn file: the unsynced places hold the repeated junk in order
abbrev pub torn_byte : ℕ → List PendingWrite → List ℕ → ℕ × ℕ → ℕ
torn_byte end touches junk at =
    if is_unsynced end touches at.0
    then slice_index junk (unsynced_before end touches at.0 % length junk)
    else at.1

-- the bytes with junk in the unsynced places; empty junk changes nothing
abbrev pub torn : ℕ → List PendingWrite → List ℕ → List ℕ → List ℕ
torn end touches [] bytes = bytes
torn end touches (first ∷ junk) bytes =
    map (torn_byte end touches (first ∷ junk)) (enumerate_from 0 bytes)

-- The crash outcome of a slot: its synced content, its written content, or this with junk in the
-- unsynced places. Every place of a file that was never synced is unsynced, as after a cut to
-- length 0.
abbrev pub crash_outcome : Junk → Slot → Option (List ℕ)
crash_outcome Old (Absent back) = back
crash_outcome Old (Fresh bytes back) = back
crash_outcome Old (Kept bytes kept touches) = Some kept
crash_outcome New slot = seen slot
crash_outcome (Bytes junk) (Absent back) = None
crash_outcome (Bytes junk) (Fresh bytes back) = Some (torn 0 (Cut 0 ∷ []) junk bytes)
crash_outcome (Bytes junk) (Kept bytes kept touches) = Some (torn (length kept) touches junk bytes)

-- a durable slot
abbrev pub durable : Option (List ℕ) → Slot
durable None = Absent None
durable (Some bytes) = Kept bytes bytes []

-- the slot after a crash: its outcome, durable
abbrev pub crashed : Junk → Slot → Slot
crashed junk slot = durable (crash_outcome junk slot)

-- every outcome of a crash is durable
abbrev pub CrashedIsDurable : Type 0
CrashedIsDurable = (junk : Junk) (slot : Slot) → IsDurable (crashed junk slot)

-- the effect of a crash with this junk, file by file
abbrev pub CrashOutcome : Junk → State → State → Type 0
CrashOutcome junk old new = (file : ℕ) → new file ≡ crashed junk (old file)
