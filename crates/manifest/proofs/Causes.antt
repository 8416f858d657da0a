-- Why slots are not read, whatever the disk.
use Rattle.std.proofs.Common.{inl, inr, refl, subst, sym, Result, Ok, Err}
use Rattle.std.specs.Prelude.{IfErr, MatchResult}
use Rattle.disk.specs.{IsEnvironmental}
use Rattle.disk.specs.declared.DiskError.{DiskError}
use Rattle.disk.specs.declared.DiskError.TheVariants as disk
use Rattle.record_log.specs.{IsArgumentError}
use Rattle.record_log.specs.declared.LogError.{LogError}
use Rattle.record_log.specs.declared.LogError.TheVariants as log
use Rattle.version_edits.specs.declared.EditError.{EditError}
use Rattle.version_edits.specs.declared.EditError.TheVariants as edit_error
use Rattle.manifest.specs.declared.error.ManifestError.{ManifestError}
use Rattle.manifest.specs.declared.error.ManifestError.TheVariants as manifest
use Rattle.manifest.specs.declared.head.CountingSlot.{CountingSlot}
use Rattle.manifest.specs.declared.head.Head.{Head}
use Rattle.manifest.specs.Errors.{IsUpgradeError, error_by_disk, error_by_edit, error_by_log}
use Rattle.manifest.specs.Heads.{HeadsCount, HeadsRefuse}

-- the refusals of a disk, as a manifest reports them
pub disk_causes : (e : DiskError) → IsUpgradeError (error_by_disk e)
disk_causes disk.Failed = tt
disk_causes disk.NoFile = tt
disk_causes disk.Short = tt
disk_causes disk.Memory = tt

-- those of a log, but for its own
pub log_causes : (e : LogError) → (IsArgumentError e → ⊥) → IsUpgradeError (error_by_log e)
log_causes (log.Disk e) works = disk_causes e
log_causes log.Memory works = tt
log_causes log.TooLong works = absurd (works (inl refl))
log_causes log.Failed works = absurd (works (inr refl))

-- those of edits
pub edit_causes : (e : EditError) → IsUpgradeError (error_by_edit e)
edit_causes edit_error.Damaged = tt
edit_causes edit_error.Memory = tt

-- those of the environment
pub environment_causes : (e : ManifestError) → IsEnvironmental manifest.Disk manifest.Memory e →
    IsUpgradeError e
environment_causes e (inl failed) = subst IsUpgradeError (sym failed) tt
environment_causes e (inr memory) = subst IsUpgradeError (sym memory) tt

-- those of heads
pub heads_cause : (first second : Head) (result : Result CountingSlot ManifestError)
    → MatchResult result (HeadsCount first second) (HeadsRefuse first second)
    → IfErr result IsUpgradeError
heads_cause first second (Ok it) is = tt
heads_cause first second (Err manifest.Disk) is = tt
heads_cause first second (Err manifest.Damaged) is = tt
heads_cause first second (Err manifest.NotCreated) is = tt
heads_cause first second (Err manifest.Memory) is = tt
heads_cause first second (Err manifest.Failed) is = is
heads_cause first second (Err manifest.OldFormat) is = is
