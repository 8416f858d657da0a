-- What an upgrade of a store promises.
use Rattle.std.specs.Prelude.{◌≡◌, ◌⊎◌, ◌≤◌, List, MatchResult, OnOk, Result, Ok, Err}
use Rattle.kv_types.specs.{BatchContent}
use Rattle.kv_types.specs.declared.bounds.TheConstants.{MAX_NUMBER}
use Rattle.disk.specs.declared.Disk.{Ghosts}
use Rattle.disk.specs.{AlwaysLeaves, Contents, IsEnvironmental, OnlyLeaves, State, contents}
use Rattle.byte_fields.specs.declared.format.Format.TheVariants as formats
use Rattle.manifest.specs.declared.error.ManifestError.{ManifestError}
use Rattle.manifest.specs.declared.upgrade.Upgrade.{Upgrade}
use Rattle.manifest.specs.declared.upgrade.Upgrade.TheVariants as upgrade
use Rattle.manifest.specs.{IsNotCreated, IsOfFormatTwo, IsUpgraded, ManifestRepresentsIn}
use Rattle.manifest.specs.{ManifestRepresentsInEither, NodeVersion}
use Rattle.store_tables.specs.Errors.{IsEnd, error_of_manifest}
use Rattle.store_tables.specs.declared.error.EngineError.{EngineError}
use Rattle.store_tables.specs.declared.error.EngineError.TheVariants as engine
use Rattle.store_files.specs.Files.{Facts}
use Rattle.store_files.specs.StoreFiles.{FilesRepresent, FilesRepresentInEither}
use Rattle.engine.specs.declared.upgrading.Upgraded.{Upgraded}
use Rattle.engine.specs.declared.upgrading.Upgraded.TheVariants as upgraded

-- what a store answers for its manifest
abbrev pub answer_of : Result Upgrade ManifestError → Result Upgraded EngineError
answer_of (Ok upgrade.Done) = Ok upgraded.Done
answer_of (Ok upgrade.Already) = Ok upgraded.Already
answer_of (Ok upgrade.Exhausted) = Err engine.Exhausted
answer_of (Err e) = Err (error_of_manifest e)

-- why a store is not upgraded, whatever the disk: for the device, for damage or for memory, since
-- none was created, or since no generation is left
abbrev pub IsUpgradeRefusal : EngineError → Type 0
IsUpgradeRefusal e = IsEnd e ⊎ (e ≡ engine.NotCreated) ⊎ (e ≡ engine.Exhausted)

-- the slots represent a version in format 1, and no generation follows that of the one that counts
abbrev pub HasLastGeneration : Contents → Type 0
HasLastGeneration left = (named : NodeVersion)
    × (had : ManifestRepresentsIn formats.One named left) × (MAX_NUMBER ≤ had.records.generation)

-- why a store is not upgraded, by its slots; of `Damaged`, they represent no version in either
-- format
abbrev pub ExplainsUpgrade : EngineError → Contents → Type 0
ExplainsUpgrade engine.Disk left = Unit {0}
ExplainsUpgrade engine.Damaged left =
    (IsNotCreated left → ⊥) × ((named : NodeVersion) → ManifestRepresentsInEither named left → ⊥)
ExplainsUpgrade engine.Memory left = Unit {0}
ExplainsUpgrade engine.NotCreated left = IsNotCreated left
ExplainsUpgrade engine.Failed left = ⊥
ExplainsUpgrade engine.TooOld left = ⊥
ExplainsUpgrade engine.NotCommitted left = ⊥
ExplainsUpgrade engine.NoSuchSnapshot left = ⊥
ExplainsUpgrade engine.TooManySnapshots left = ⊥
ExplainsUpgrade engine.Exhausted left = HasLastGeneration left
ExplainsUpgrade engine.OldFormat left = ⊥

-- what the slots were, and are: of some version taken over from format 1, or as they were, of
-- format 2
abbrev pub IsFoundAs : Contents → State → Upgraded → Type 0
IsFoundAs left new upgraded.Done = (named : NodeVersion) × IsUpgraded left new named
IsFoundAs left new upgraded.Already = (named : NodeVersion) × IsOfFormatTwo left new named

-- why an upgrade of a store that files represent is refused: for the device or memory, or since no
-- generation is left
abbrev pub IsUpgradeEnd : Contents → EngineError → Type 0
IsUpgradeEnd left e = IsEnvironmental engine.Disk engine.Memory e
    ⊎ ((e ≡ engine.Exhausted) × HasLastGeneration left)

-- what an upgrade promises of a store with these facts and this list
pub record UpgradesStore {D : Type 0} (g : Ghosts D) (old new : D) (facts : Facts)
    (list : List BatchContent) (result : Result Upgraded EngineError) : Type 0 where
  -- files that represent them in either format do so in format 2 then
  pub reads : FilesRepresentInEither facts list (contents (g.state old)) →
      MatchResult result (λ _. FilesRepresent facts list (contents (g.state new)))
      (IsUpgradeEnd (contents (g.state old)))
  -- where a crash before it leaves only files of format 2, so does one at each moment since
  pub stays : OnlyLeaves (FilesRepresent facts list) (g.state old) →
      AlwaysLeaves g old new (FilesRepresent facts list)
  -- where it leaves only files of either, so does one at each moment since
  pub any_moment : OnlyLeaves (FilesRepresentInEither facts list) (g.state old) →
      AlwaysLeaves g old new (FilesRepresentInEither facts list)
  -- and behind an answer only files that represent them in format 2
  pub durable : OnlyLeaves (FilesRepresentInEither facts list) (g.state old) →
      OnOk result (OnlyLeaves (FilesRepresent facts list) (g.state new))
