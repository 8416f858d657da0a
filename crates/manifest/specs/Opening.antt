-- Slots that are opened.
use Rattle.std.specs.Prelude.{◌≡◌, ℕ, List, MatchResult, Result, Some, map}
use Rattle.configurations.specs.{IsId}
use Rattle.disk.specs.{State, Contents}
use Rattle.record_log.specs.{IsDurableAs}
use Rattle.manifest.specs.declared.error.ManifestError.{ManifestError}
use Rattle.manifest.specs.declared.head.CountingSlot.{CountingSlot}
use Rattle.manifest.specs.declared.slot_pair.SlotPair.{SlotPair}
use Rattle.record_log.specs.declared.Log.{Log}
use Rattle.version_edits.specs.{NodeVersion, Change, empty, after_all}
use Rattle.version_edits.specs.{change_text_in}
use Rattle.byte_fields.specs.declared.format.Format.{Format}
use Rattle.byte_fields.specs.declared.format.Format.TheVariants as formats
use Rattle.manifest.specs.Slots.{IsSlotFile, SlotsRead, SlotsRepresentIn}
use Rattle.manifest.specs.Holds.{SlotsHoldIn}
use Rattle.manifest.specs.Manifests.{ManifestRefusal}
use Rattle.manifest.specs.Upgrades.{UpgradeRefusal}
use Rattle.version_edits.specs.{IsEditHistory}

-- both slots read as these contents, and a crash leaves them so
pub record SlotsAreKept (disk : State) (left : Contents) : Type 0 where
  pub read : SlotsRead disk left
  pub durable : (slot : ℕ) → IsSlotFile slot → (bytes : List ℕ) → left slot ≡ Some bytes →
      IsDurableAs disk slot bytes

-- the files represented the version in this format, and the slots hold it and read as before
pub record AreOpened (format : Format) (left : Contents) (new : State) (slots : SlotPair)
    (named : NodeVersion) : Type 0 where
  pub id : IsId named.id
  pub changes : List Change
  pub history : IsEditHistory format changes
  pub is : named.version ≡ after_all empty changes
  pub had : SlotsRepresentIn format named.id (map (change_text_in format) changes) left
  pub slot : had.slot ≡ slots.slot
  pub generation : had.generation ≡ slots.generation
  pub holds : SlotsHoldIn format new slots named.id (map (change_text_in format) changes)
  pub read : SlotsRead new left

-- the slots of which this one counts, with its log
abbrev pub slots_of : CountingSlot → Log → SlotPair
slots_of it log = record {
  slot = it.slot;
  generation = it.head.generation;
  id = it.head.id;
  other_is_open = it.other_is_open;
  log = log;
}

-- the slots of these contents, of format 2, are opened, or the refusal has its reason in them
abbrev pub OpensSlots : Contents → State → Result (SlotPair × NodeVersion) ManifestError → Type 0
OpensSlots left new result =
    MatchResult result (λ it. AreOpened formats.Two left new it.0 it.1)
    (λ e. ManifestRefusal e left)

-- the slots of these contents, of which this one counts, are opened in its format
abbrev pub ReadsSlots : Format → Contents → State →
    Result (SlotPair × NodeVersion) ManifestError → Type 0
ReadsSlots format left new result =
    MatchResult result (λ it. AreOpened format left new it.0 it.1) (λ e. UpgradeRefusal e left)
