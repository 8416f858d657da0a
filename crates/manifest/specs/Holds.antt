-- Open slots, and the files that they are kept in.
use Rattle.std.specs.Prelude.{◌≡◌, ◌≤◌, ◌<◌, ◌+◌, ◌*◌, ℕ, List, [], ◌∷◌, ◌++◌, length}
use Rattle.std.specs.Int.{w16, w32, w64, to_be_bytes}
use Rattle.kv_types.specs.declared.bounds.TheConstants.{MAX_NUMBER}
use Rattle.disk.specs.{State}
use Rattle.record_log.specs.declared.Log.{Log}
use Rattle.record_log.specs.{IsAt, IsDurableAs, LogHolds, first_length, gate_of}
use Rattle.manifest.specs.declared.slot_pair.SlotPair.{SlotPair}
use Rattle.manifest.specs.declared.slot_pair.TheConstants.{REWRITE_SLACK}
use Rattle.manifest.specs.Slots.{HasHeadIn, IsSlotFile, IsSuperseded, log_start, other_slot}
use Rattle.byte_fields.specs.declared.format.Format.{Format}
use Rattle.byte_fields.specs.declared.format.Format.TheVariants as formats
use Rattle.manifest.specs.Replace.{HasGate}
use Rattle.version_edits.specs.{first_version}
use Rattle.version_edits.specs.{change_text}
use Rattle.version_edits.specs.{full_change}

-- what stands behind the gate of a slot with one record: the generation, 0 in the place of format
-- 1's id, the id, the record behind an open gate, and a closed gate
abbrev pub slot_behind : ℕ → ℕ → List ℕ → List ℕ
slot_behind generation id one =
    to_be_bytes w64 generation ++ (to_be_bytes w16 0 ++ (to_be_bytes w16 id
    ++ (1 ∷ (to_be_bytes w32 (length one) ++ (one ++ 0 ∷ [])))))

-- The files are those of the slots: the counting one, of this format, holds the records behind its
-- head, and a crash leaves both as they are.
pub record SlotsHoldIn (format : Format) (disk : State) (slots : SlotPair) (id : ℕ)
    (records : List (List ℕ)) : Type 0 where
  pub one : IsSlotFile slots.slot
  pub is_id : slots.id ≡ id
  pub limit : slots.generation ≤ MAX_NUMBER
  pub at : IsAt slots.slot (log_start format) slots.log
  pub log : LogHolds disk slots.log records
  pub head : HasHeadIn format slots.generation id log.bytes
  pub other_bytes : List ℕ
  pub other_sure : IsDurableAs disk (other_slot slots.slot) other_bytes
  pub other : IsSuperseded slots.generation other_bytes
  pub gate : HasGate slots.other_is_open other_bytes

-- the counting one is of format 2
abbrev pub SlotsHold : State → SlotPair → ℕ → List (List ℕ) → Type 0
SlotsHold disk slots id records = SlotsHoldIn formats.Two disk slots id records

-- A rewrite of the slot with this log is due. Up to its closed gate, the slot is longer than twice
-- its first record and the slack.
abbrev pub IsLongLog : Log → Type 0
IsLongLog log = 2 * first_length log + REWRITE_SLACK < gate_of log + 1

-- the bytes of a new slot with one record, whose gate is closed
abbrev pub closed_slot : ℕ → ℕ → List ℕ → List ℕ
closed_slot generation id one = 0 ∷ slot_behind generation id one

-- new slots hold one record: the first one is of generation 1, and of the second there is only a
-- closed gate
pub record AreNewSlots (disk : State) (id : ℕ) (one : List ℕ) (slots : SlotPair) : Type 0 where
  pub holds : SlotsHold disk slots id (one ∷ [])
  pub first : IsDurableAs disk 1 (1 ∷ slot_behind 1 id one)
  pub second : IsDurableAs disk 2 (0 ∷ [])

-- the bytes of the slot of a new node: generation 1, and one edit that gives the first version
abbrev pub first_slot : ℕ → List ℕ → List ℕ
first_slot id ids = 1 ∷ slot_behind 1 id (change_text (full_change (first_version id ids).version))

-- the files that are no slots are the same
abbrev pub SparesOthers : State → State → Type 0
SparesOthers old new = (other : ℕ) → (IsSlotFile other → ⊥) → new other ≡ old other
