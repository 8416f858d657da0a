-- What the calls promise that change slots, and the manifest that they represent.
use Rattle.std.specs.Prelude.{◌≡◌, ◌≢◌, ◌⊎◌, ◌+◌, ℕ, List, [], ◌∷◌, IsErrOf, IsNone}
use Rattle.std.specs.Prelude.{MatchResult, OnOk, Result}
use Rattle.disk.specs.declared.Disk.{Ghosts}
use Rattle.disk.specs.{AlwaysLeaves, Contents, IsEnvironmental, IsFileOutcome, IsSameBut}
use Rattle.disk.specs.{KeepsDisk, State, seen}
use Rattle.record_log.specs.{IsDurableAs}
use Rattle.record_log.specs.declared.LogError.{LogError}
use Rattle.manifest.specs.declared.error.ManifestError.{ManifestError}
use Rattle.manifest.specs.declared.error.ManifestError.TheVariants as manifest
use Rattle.manifest.specs.declared.manifest.Manifest.{Manifest}
use Rattle.manifest.specs.declared.slot_pair.SlotPair.{SlotPair}
use Rattle.version_edits.specs.{Change, NodeVersion, node_version_after}
use Rattle.byte_fields.specs.declared.format.Format.{Format}
use Rattle.byte_fields.specs.declared.format.Format.TheVariants as formats
use Rattle.manifest.specs.Holds.{SlotsHold, SlotsHoldIn, slot_behind}
use Rattle.manifest.specs.Manifests.{ManifestHasFailed, ManifestHolds}
use Rattle.manifest.specs.Slots.{ManifestRepresents, SlotsAreLeft, SlotsRepresent}
use Rattle.manifest.specs.Slots.{SlotsRepresentIn, other_slot}

-- ---- slots

-- if an honest disk has no slot, this is said
abbrev pub IfNoSlots : {D : Type 0} → Ghosts D → D → Type 0 → Type 0
IfNoSlots g disk IsSaid =
    g.is_honest disk → IsNone (seen (g.state disk 1)) → IsNone (seen (g.state disk 2)) → IsSaid

-- if the slots of an honest disk hold records of a node in this format, this is said of both
abbrev pub IfSlotsHoldIn : {D : Type 0} → Format → Ghosts D → D → SlotPair →
    (ℕ → List (List ℕ) → Type 0) → Type 0
IfSlotsHoldIn format g disk slots IsSaid = (id : ℕ) (records : List (List ℕ)) →
    g.is_honest disk → SlotsHoldIn format (g.state disk) slots id records → IsSaid id records

-- likewise of format 2
abbrev pub IfSlotsHold : {D : Type 0} → Ghosts D → D → SlotPair →
    (ℕ → List (List ℕ) → Type 0) → Type 0
IfSlotsHold g disk slots IsSaid = IfSlotsHoldIn formats.Two g disk slots IsSaid

-- what a call promises that makes of the records of slots in a format these ones in format 2
pub record ChangesSlots {D : Type 0} (g : Ghosts D) (disk later : D) (old new : SlotPair)
    (format : Format) (after : List (List ℕ) → List (List ℕ)) (IsRefusal : LogError → Type 0)
    (result : Result (Unit {0}) LogError) : Type 0 where
  -- the slots hold the new records then, or the refusal is this one
  pub done : IfSlotsHoldIn format g disk old (λ id records. MatchResult result
      (λ _. SlotsHold (g.state later) new id (after records)) IsRefusal)
  -- a crash at any moment leaves the old records or the new ones, and of other files what it might
  -- have left before
  pub any_moment : IfSlotsHoldIn format g disk old (λ id records. AlwaysLeaves g disk later
      (SlotsAreLeft (g.state disk) (λ left. SlotsRepresentIn format id records left
      ⊎ SlotsRepresent id (after records) left)))

-- What a crash leaves of slots while the other one is written with a record: the slot that counts
-- has its records and counts still, or the other one does, with the record alone and in the next
-- generation. Each file but that one is what a crash might have left before.
pub record IsLeftByRewrite (format : Format) (disk : State) (slots : SlotPair) (id : ℕ)
    (records : List (List ℕ)) (one : List ℕ) (left : Contents) : Type 0 where
  pub here : ((old : SlotsRepresentIn format id records left) × (old.slot ≡ slots.slot))
      ⊎ ((new : SlotsRepresent id (one ∷ []) left) × (new.slot ≡ other_slot slots.slot)
      × (new.generation ≡ slots.generation + 1))
  pub others : (file : ℕ) → file ≢ other_slot slots.slot → IsFileOutcome (disk file) (left file)

-- what a rewrite promises of the slot that it writes, and of each moment
pub record RewritesSlots {D : Type 0} (g : Ghosts D) (disk later : D) (old : SlotPair)
    (format : Format) (one : List ℕ) (result : Result (Unit {0}) LogError) : Type 0 where
  -- the other slot has the record alone then, in format 2 and the next generation
  pub written : IfSlotsHoldIn format g disk old (λ id records. OnOk result
      (IsDurableAs (g.state later) (other_slot old.slot)
      (1 ∷ slot_behind (old.generation + 1) id one)))
  -- a crash at any moment leaves that, or what there was
  pub any_moment : IfSlotsHoldIn format g disk old (λ id records. AlwaysLeaves g disk later
      (IsLeftByRewrite format (g.state disk) old id records one))

-- ---- the version

-- the slots represent the version, or the one after the edit
abbrev pub IsBeforeOrAfter : Change → NodeVersion → Contents → Type 0
IsBeforeOrAfter edit named left =
    ManifestRepresents named left ⊎ ManifestRepresents (node_version_after named edit) left

-- if the open manifest of an honest disk holds a version, this is said of it
abbrev pub IfVersionHeld : {D : Type 0} → Ghosts D → D → Manifest → (NodeVersion → Type 0) → Type 0
IfVersionHeld g disk manifest IsSaid = (named : NodeVersion) → g.is_honest disk →
    ManifestHolds (g.state disk) manifest named → IsSaid named

-- what a call promises that changes an open manifest
pub record ChangesManifest {D : Type 0} (g : Ghosts D) (disk later : D) (before : Manifest)
    (cause : Type 0) (slot : ℕ) (End : NodeVersion → State → Type 0)
    (Represent : NodeVersion → Contents → Type 0) (result : Result (Unit {0}) ManifestError)
    : Type 0 where
  -- a device that works fails only for this cause, and no file but this slot changes
  pub kept : KeepsDisk g disk later (IsErrOf result manifest.Disk) cause (IsSameBut slot)
  -- a manifest that has failed refuses the call
  pub failed : ManifestHasFailed before → IsErrOf result manifest.Failed
  -- from the version that was held it ends so, or the refusal is external
  pub changed : IfVersionHeld g disk before (λ named.
      MatchResult result (λ _. End named (g.state later))
      (IsEnvironmental manifest.Disk manifest.Memory))
  -- a crash at any moment leaves slots that represent this, and of other files what it might have
  -- left before
  pub any_moment : IfVersionHeld g disk before (λ named.
      AlwaysLeaves g disk later (SlotsAreLeft (g.state disk) (Represent named)))
