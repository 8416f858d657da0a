-- What calls promise of the disk whose slots they read.
use Rattle.std.specs.Prelude.{◌≡◌, IfErr, IsErrOf, Result}
use Rattle.disk.specs.declared.Disk.{Ghosts}
use Rattle.disk.specs.{IsStill, KeepsDisk, State}
use Rattle.manifest.specs.declared.error.ManifestError.TheVariants as manifest
use Rattle.manifest.specs.declared.error.ManifestError.{ManifestError}

-- what a call promises that reads slots, and at most syncs them
pub record SlotsAreRead {D T : Type 0} (g : Ghosts D) (old new : D)
    (IsKept : State → State → Type 0) (result : Result T ManifestError) : Type 0 where
  -- a device that works never fails, and its files change only so
  pub kept : KeepsDisk g old new (IsErrOf result manifest.Disk) ⊥ IsKept
  -- it is never refused as a manifest is that has failed
  pub causes : IfErr result (λ e. e ≡ manifest.Failed → ⊥)
  -- a crash at any moment leaves what it might have left before
  pub still : IsStill g old new
