pub mod Errors
pub mod Reads
pub mod Replace
pub mod Slots
pub mod Holds
pub mod Manifests
pub mod Upgrades
pub mod Changes
pub mod Heads
pub mod Opening
pub mod Laws
pub mod Examples
pub mod Creations
-- What crates above name.
pub use Rattle.version_edits.specs.Edits
pub use Rattle.version_edits.specs.Lawful
pub use Rattle.version_edits.specs.Versions
pub use Rattle.version_edits.specs.VersionsLemmas
pub use Rattle.version_edits.specs.{Change, EditsKeepVersions, IsChange, IsFit, IsLogLine}
pub use Rattle.version_edits.specs.{IsTableLine, IsVersion, NodeVersion, StoreVersion}
pub use Rattle.version_edits.specs.{change_text, changed, first_version, node_version_after}
pub use Rattle.manifest.specs.Changes.{IsBeforeOrAfter}
pub use Rattle.manifest.specs.Creations.{FindsWhether, HasOnlyCreationFiles, OnlyLooks, WasCutShort}
pub use Rattle.manifest.specs.Laws.{FormatsAreApart, HeldVersionIsLeft, HeldVersionStays}
pub use Rattle.manifest.specs.Laws.{VersionIsOne, VersionsAreLawfulIn}
pub use Rattle.manifest.specs.Laws.{OldStoresAreApart, VersionsAreLawful}
pub use Rattle.manifest.specs.Holds.{first_slot}
pub use Rattle.manifest.specs.Manifests.{HasFirstSlots, HasFullSlot, HasLongSlot, HasSameSlots}
pub use Rattle.manifest.specs.Manifests.{IsNewManifest, IsOpenedManifest, IsRewritten}
pub use Rattle.manifest.specs.Manifests.{ManifestHasFailed}
pub use Rattle.manifest.specs.Manifests.{ManifestHasNoRoom, ManifestHolds, NoRoomIsFull}
pub use Rattle.manifest.specs.Manifests.{SlotsReachGates, counting_file, first_edit_length}
pub use Rattle.manifest.specs.Manifests.{generation_of, slot_length, spare_file, version_of}
pub use Rattle.manifest.specs.Slots.{IsNotCreated, IsOldStore, IsSlot, IsSlotFile, IsSuperseded}
pub use Rattle.manifest.specs.Slots.{IsSlotIn, ManifestRepresents, ManifestRepresentsIn}
pub use Rattle.manifest.specs.Slots.{ManifestRepresentsInEither, SlotsAreLeft, SlotsRead}
pub use Rattle.manifest.specs.Slots.{SlotsRepresent, SlotsRepresentIn, other_slot}
pub use Rattle.manifest.specs.Errors.{IsUpgradeError}
pub use Rattle.manifest.specs.Upgrades.{IsLeftOfUpgrade, IsLeftUpgrading, IsOfFormatTwo, IsUpgraded}
pub use Rattle.manifest.specs.Upgrades.{IsUpgradeOf, LacksGeneration, UpgradeRefusal}
