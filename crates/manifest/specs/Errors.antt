-- What the refusals of a manifest say.
use Rattle.disk.specs.declared.DiskError.{DiskError}
use Rattle.disk.specs.declared.DiskError.TheVariants as disk
use Rattle.record_log.specs.declared.LogError.{LogError}
use Rattle.record_log.specs.declared.LogError.TheVariants as log
use Rattle.version_edits.specs.declared.EditError.{EditError}
use Rattle.version_edits.specs.declared.EditError.TheVariants as edit_error
use Rattle.manifest.specs.declared.error.ManifestError.{ManifestError}
use Rattle.manifest.specs.declared.error.ManifestError.TheVariants as manifest

-- a slot that is absent or too short is damage
abbrev pub error_by_disk : DiskError → ManifestError
error_by_disk disk.Failed = manifest.Disk
error_by_disk disk.NoFile = manifest.Damaged
error_by_disk disk.Short = manifest.Damaged
error_by_disk disk.Memory = manifest.Memory

-- the manifest never asks a log for what it cannot do
abbrev pub error_by_log : LogError → ManifestError
error_by_log (log.Disk e) = error_by_disk e
error_by_log log.Memory = manifest.Memory
error_by_log log.TooLong = manifest.Failed
error_by_log log.Failed = manifest.Failed

-- records that give no version are damage
abbrev pub error_by_edit : EditError → ManifestError
error_by_edit edit_error.Damaged = manifest.Damaged
error_by_edit edit_error.Memory = manifest.Memory

-- refused for the device, for damage or for want of memory
abbrev pub IsOfFiles : ManifestError → Type 0
IsOfFiles manifest.Disk = Unit {0}
IsOfFiles manifest.Damaged = Unit {0}
IsOfFiles manifest.NotCreated = ⊥
IsOfFiles manifest.Memory = Unit {0}
IsOfFiles manifest.Failed = ⊥
IsOfFiles manifest.OldFormat = ⊥

-- refused likewise, or since no store was created
abbrev pub IsUpgradeError : ManifestError → Type 0
IsUpgradeError manifest.Disk = Unit {0}
IsUpgradeError manifest.Damaged = Unit {0}
IsUpgradeError manifest.NotCreated = Unit {0}
IsUpgradeError manifest.Memory = Unit {0}
IsUpgradeError manifest.Failed = ⊥
IsUpgradeError manifest.OldFormat = ⊥
