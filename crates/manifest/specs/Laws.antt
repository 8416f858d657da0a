-- The laws of the definitions that contracts use.
use Rattle.std.specs.Prelude.{◌≡◌, ℕ}
use Rattle.disk.specs.{Contents, IsFileOutcome, State}
use Rattle.version_edits.specs.{NodeVersion}
use Rattle.version_edits.specs.{IsVersion}
use Rattle.manifest.specs.declared.manifest.Manifest.{Manifest}
use Rattle.manifest.specs.Manifests.{ManifestHolds}
use Rattle.byte_fields.specs.declared.format.Format.{Format}
use Rattle.byte_fields.specs.declared.format.Format.TheVariants as formats
use Rattle.manifest.specs.Slots.{IsNotCreated, IsOldStore, IsSlotFile, ManifestRepresents}
use Rattle.manifest.specs.Slots.{ManifestRepresentsIn}

-- files represent one version at most
abbrev pub VersionIsOne : Type 0
VersionIsOne = (a b : NodeVersion) (left : Contents) → ManifestRepresents a left →
    ManifestRepresents b left → a ≡ b

-- in one format or the other
abbrev pub FormatsAreApart : Type 0
FormatsAreApart = (format other : Format) (a b : NodeVersion) (left : Contents) →
    ManifestRepresentsIn format a left → ManifestRepresentsIn other b left →
    (format ≡ other) × (a ≡ b)

-- where they represent one in format 1, they are of an old store
abbrev pub FormatOneIsOld : Type 0
FormatOneIsOld = (named : NodeVersion) (left : Contents) →
    ManifestRepresentsIn formats.One named left → IsOldStore left

-- and a lawful one
abbrev pub VersionsAreLawful : Type 0
VersionsAreLawful = (named : NodeVersion) (left : Contents) → ManifestRepresents named left →
    IsVersion named.version

-- in each format
abbrev pub VersionsAreLawfulIn : Type 0
VersionsAreLawfulIn = (format : Format) (named : NodeVersion) (left : Contents) →
    ManifestRepresentsIn format named left → IsVersion named.version

-- of a store that was created
abbrev pub VersionsAreCreated : Type 0
VersionsAreCreated = (named : NodeVersion) (left : Contents) → ManifestRepresents named left →
    IsNotCreated left → ⊥

-- files whose slot that counts is of format 1 are of a created store, and represent no version
abbrev pub OldStoresAreApart : Type 0
OldStoresAreApart = (left : Contents) → IsOldStore left →
    (IsNotCreated left → ⊥) × ((named : NodeVersion) → ManifestRepresents named left → ⊥)

-- ---- of an open manifest

-- whatever a crash leaves of its slots represents its version
abbrev pub HeldVersionIsLeft : Type 0
HeldVersionIsLeft = (disk : State) (manifest : Manifest) (named : NodeVersion) (left : Contents) →
    ManifestHolds disk manifest named →
    ((slot : ℕ) → IsSlotFile slot → IsFileOutcome (disk slot) (left slot)) →
    ManifestRepresents named left

-- with the same slots it holds the same version
abbrev pub HeldVersionStays : Type 0
HeldVersionStays = (disk other : State) (manifest : Manifest) (named : NodeVersion) →
    ManifestHolds disk manifest named →
    ((slot : ℕ) → IsSlotFile slot → other slot ≡ disk slot) → ManifestHolds other manifest named
