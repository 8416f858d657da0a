-- What an upgrade makes of slots of format 1.
use Rattle.std.specs.Prelude.{◌≡◌, ◌⊎◌, ◌≤◌, ◌+◌, ℕ, List, ◌∷◌, Some}
use Rattle.kv_types.specs.declared.bounds.TheConstants.{MAX_NUMBER}
use Rattle.disk.specs.{Contents, IsCrashOutcome, IsFileOutcome, OnlyLeaves, State}
use Rattle.record_log.specs.{IsDurableAs}
use Rattle.version_edits.specs.{NodeVersion, change_text, full_change}
use Rattle.byte_fields.specs.declared.format.Format.TheVariants as formats
use Rattle.manifest.specs.declared.error.ManifestError.{ManifestError}
use Rattle.manifest.specs.declared.error.ManifestError.TheVariants as manifest
use Rattle.manifest.specs.declared.upgrade.Upgrade.{Upgrade}
use Rattle.manifest.specs.declared.upgrade.Upgrade.TheVariants as upgrade
use Rattle.manifest.specs.Holds.{slot_behind}
use Rattle.manifest.specs.Slots.{IsNotCreated, IsSlotFile, ManifestRepresents}
use Rattle.manifest.specs.Slots.{ManifestRepresentsIn, ManifestRepresentsInEither, SlotsRead}
use Rattle.manifest.specs.Slots.{other_slot}

-- why files are not upgraded: the machine refused, no store was created, or they represent no
-- version in either format
abbrev pub UpgradeRefusal : ManifestError → Contents → Type 0
UpgradeRefusal manifest.Disk left = Unit {0}
UpgradeRefusal manifest.Damaged left =
    (IsNotCreated left → ⊥) × ((named : NodeVersion) → ManifestRepresentsInEither named left → ⊥)
UpgradeRefusal manifest.NotCreated left = IsNotCreated left
UpgradeRefusal manifest.Memory left = Unit {0}
UpgradeRefusal manifest.Failed left = ⊥
UpgradeRefusal manifest.OldFormat left = ⊥

-- The slots represented the version in format 1. The slot that counted is as it was, and the other
-- one has one edit that gives the version, in format 2 and the next generation.
pub record IsUpgraded (left : Contents) (new : State) (named : NodeVersion) : Type 0 where
  pub had : ManifestRepresentsIn formats.One named left
  pub stays : (bytes : List ℕ) → left had.records.slot ≡ Some bytes →
      IsDurableAs new had.records.slot bytes
  pub written : IsDurableAs new (other_slot had.records.slot)
      (1 ∷ slot_behind (had.records.generation + 1) named.id
      (change_text (full_change named.version)))
  pub leaves : OnlyLeaves (ManifestRepresents named) new

-- the slots represented the version in format 2, and are as they were
pub record IsOfFormatTwo (left : Contents) (new : State) (named : NodeVersion) : Type 0 where
  pub had : ManifestRepresents named left
  pub read : SlotsRead new left
  pub leaves : OnlyLeaves (ManifestRepresents named) new

-- the slots represented the version in format 1, no generation follows that of the slot that
-- counts, and they are as they were
pub record LacksGeneration (left : Contents) (new : State) (named : NodeVersion) : Type 0 where
  pub had : ManifestRepresentsIn formats.One named left
  pub last : MAX_NUMBER ≤ had.records.generation
  pub read : SlotsRead new left

-- what an upgrade did
abbrev pub IsUpgradeOf : Contents → State → NodeVersion → Upgrade → Type 0
IsUpgradeOf left new named upgrade.Done = IsUpgraded left new named
IsUpgradeOf left new named upgrade.Already = IsOfFormatTwo left new named
IsUpgradeOf left new named upgrade.Exhausted = LacksGeneration left new named

-- The slots represented the version in format 1, and do so still. The slot that counted is as it
-- was. It counts still, or the other one does, in format 2 and the next generation. Of each other
-- file a crash left what it might have left before.
pub record IsLeftUpgrading (disk : State) (was : Contents) (named : NodeVersion) (left : Contents)
    : Type 0 where
  pub had : ManifestRepresentsIn formats.One named was
  pub stays : left had.records.slot ≡ was had.records.slot
  pub here : ((old : ManifestRepresentsIn formats.One named left)
      × (old.records.slot ≡ had.records.slot))
      ⊎ ((new : ManifestRepresents named left)
      × (new.records.slot ≡ other_slot had.records.slot)
      × (new.records.generation ≡ had.records.generation + 1))
  pub others : (file : ℕ) → (IsSlotFile file → ⊥) → IsFileOutcome (disk file) (left file)

-- what a crash leaves of an upgrade: what it might have left before, or slots on the way
abbrev pub IsLeftOfUpgrade : State → Contents → Contents → Type 0
IsLeftOfUpgrade disk was left = IsCrashOutcome disk left
    ⊎ ((named : NodeVersion) × IsLeftUpgrading disk was named left)
