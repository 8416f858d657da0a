-- The heads of the slots, and which slot counts.
use Rattle.std.specs.Prelude.{◌≡◌, ◌⊎◌, ℕ, ◌<◌, ◌≤◌, ◌^◌, List, [], ◌∷◌, length, drop, take, Bool}
use Rattle.std.specs.Prelude.{true, false, Option, IfSome, IsSomeAnd}
use Rattle.std.specs.Int.{w16, to_be_bytes}
use Rattle.kv_types.specs.declared.bounds.TheConstants.{MAX_NUMBER}
use Rattle.disk.specs.{Contents}
use Rattle.record_log.specs.{IsClosed}
use Rattle.manifest.specs.declared.head.Head.{Head}
use Rattle.manifest.specs.declared.head.Head.TheVariants as head
use Rattle.manifest.specs.declared.head.OpenHead.{OpenHead}
use Rattle.manifest.specs.declared.head.CountingSlot.{CountingSlot}
use Rattle.manifest.specs.declared.error.ManifestError.{ManifestError}
use Rattle.manifest.specs.declared.error.ManifestError.TheVariants as manifest
use Rattle.manifest.specs.Replace.{HasGate}
use Rattle.manifest.specs.Slots.{HasHeadIn, IsNotCreated, IsSlotFile, IsSuperseded}
use Rattle.manifest.specs.Slots.{head_length, old_head_length, other_slot}

-- ---- heads

-- a read of a buffer's length from the first place on filled it, or the file ends before
abbrev pub IsFilled : Bool → Option (List ℕ) → List ℕ → Type 0
IsFilled true file into =
    IsSomeAnd file (λ it. (length into ≤ length it) × (into ≡ take (length into) it))
IsFilled false file into = IfSome file (λ it. length it < length into)

-- the bytes begin with this head
abbrev pub HasHead : OpenHead → List ℕ → Type 0
HasHead it bytes = HasHeadIn it.format it.generation it.id bytes

-- An open slot ends before its log: it is shorter than a head of format 1, or has 0 in the place of
-- that format's id and is shorter than a head of format 2.
abbrev pub EndsBeforeLog : List ℕ → Type 0
EndsBeforeLog bytes = (length bytes < old_head_length)
    ⊎ ((drop 9 (take old_head_length bytes) ≡ to_be_bytes w16 0) × (length bytes < head_length))

-- the slot has this head
abbrev pub HeadIs : Head → Option (List ℕ) → Type 0
HeadIs head.Missing file = IfSome file (λ it. it ≡ [])
HeadIs head.Closed file = IsSomeAnd file IsClosed
HeadIs head.Short file =
    IsSomeAnd file (λ it. (rest : List ℕ) × (it ≡ 1 ∷ rest) × EndsBeforeLog it)
HeadIs (head.Open it) file = IsSomeAnd file (HasHead it) × (it.generation < 2 ^ 64)

-- ---- which slot counts, by the heads of both

-- the head is of a slot whose gate is closed or absent
abbrev pub IsBlank : Head → Type 0
IsBlank head.Missing = Unit {0}
IsBlank head.Closed = Unit {0}
IsBlank head.Short = ⊥
IsBlank (head.Open it) = ⊥

-- a slot with this head is superseded by one of this generation, and its gate is as is said
abbrev pub HeadYields : ℕ → Bool → Head → Type 0
HeadYields generation is_open head.Missing = ⊥
HeadYields generation is_open head.Closed = is_open ≡ false
HeadYields generation is_open head.Short = ⊥
HeadYields generation is_open (head.Open it) = (is_open ≡ true) × (it.generation < generation)

-- the slot with the first of these heads counts, and the other is superseded
pub record CountsOver (one two : Head) (it : CountingSlot) : Type 0 where
  pub is : one ≡ head.Open it.head
  pub limit : it.head.generation ≤ MAX_NUMBER
  pub yields : HeadYields it.head.generation it.other_is_open two

-- one slot counts
abbrev pub HeadsCount : Head → Head → CountingSlot → Type 0
HeadsCount first second it = ((it.slot ≡ 1) × CountsOver first second it)
    ⊎ ((it.slot ≡ 2) × CountsOver second first it)

-- Why no slot counts: neither gate is open, or an open one is no good.
abbrev pub HeadsRefuse : Head → Head → ManifestError → Type 0
HeadsRefuse first second manifest.NotCreated = IsBlank first × IsBlank second
HeadsRefuse first second manifest.Damaged = ((IsBlank first × IsBlank second) → ⊥)
    × ((it : CountingSlot) → HeadsCount first second it → ⊥)
HeadsRefuse first second manifest.Disk = ⊥
HeadsRefuse first second manifest.Memory = ⊥
HeadsRefuse first second manifest.Failed = ⊥
HeadsRefuse first second manifest.OldFormat = ⊥

-- ---- which slot counts, by the files

-- one slot counts, of either format, if its log has records, and the other is superseded
pub record SlotCounts (it : CountingSlot) (left : Contents) : Type 0 where
  pub one : IsSlotFile it.slot
  pub limit : it.head.generation ≤ MAX_NUMBER
  pub head : IsSomeAnd (left it.slot) (HasHead it.head)
  pub other : IsSomeAnd (left (other_slot it.slot))
      (λ bytes. IsSuperseded it.head.generation bytes × HasGate it.other_is_open bytes)

-- why no slot counts: none is open, or one is, and none counts in either format
abbrev pub NoneCounts : ManifestError → Contents → Type 0
NoneCounts manifest.NotCreated left = IsNotCreated left
NoneCounts manifest.Damaged left =
    (IsNotCreated left → ⊥) × ((it : CountingSlot) → SlotCounts it left → ⊥)
NoneCounts manifest.Disk left = ⊥
NoneCounts manifest.Memory left = ⊥
NoneCounts manifest.Failed left = ⊥
NoneCounts manifest.OldFormat left = ⊥
