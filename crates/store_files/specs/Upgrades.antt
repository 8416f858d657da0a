-- What files represent whose slots were of format 1, once these are taken over.
use Rattle.std.specs.Prelude.{◌≡◌, ℕ, List}
use Rattle.kv_types.specs.{BatchContent}
use Rattle.disk.specs.{Contents, OnlyLeaves, State, contents}
use Rattle.byte_fields.specs.declared.format.Format.{Format}
use Rattle.manifest.specs.{IsSlotFile, ManifestRepresentsIn, ManifestRepresentsInEither}
use Rattle.manifest.specs.{NodeVersion, SlotsAreLeft}
use Rattle.store_files.specs.Files.{Facts}
use Rattle.store_files.specs.StoreFiles.{FilesRepresentIn, FilesRepresentInEither}

-- with the same version in slots of another format, and each other file as it was, files represent
-- the same
abbrev pub FormatsRepresentAlike : Type 0
FormatsRepresentAlike = (facts : Facts) (list : List BatchContent) (named : NodeVersion)
    (format : Format) (left other : Contents) → FilesRepresentInEither facts list left →
    ManifestRepresentsInEither named left → ManifestRepresentsIn format named other →
    ((file : ℕ) → (IsSlotFile file → ⊥) → other file ≡ left file) →
    FilesRepresentIn format facts list other

-- Where a crash leaves only files that represent a list in either format, files represent it in
-- this one whose slots represent in it the version that the slots read as, and whose other files a
-- crash may leave.
abbrev pub FormatsOutlastCrashes : Type 0
FormatsOutlastCrashes = (facts : Facts) (list : List BatchContent) (disk : State)
    (named : NodeVersion) (format : Format) (left : Contents) →
    OnlyLeaves (FilesRepresentInEither facts list) disk →
    ManifestRepresentsInEither named (contents disk) →
    SlotsAreLeft disk (ManifestRepresentsIn format named) left →
    FilesRepresentIn format facts list left
