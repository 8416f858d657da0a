-- How a removal that failed is told.
use Rattle.std.proofs.Common.{◌≡◌, ◌↔◌, Result, Ok, Err, ap}
use Rattle.std.specs.Prelude.{IsErrOf}
use Rattle.disk.specs.declared.DiskError.{DiskError}
use Rattle.disk.specs.declared.DiskError.TheVariants as disk
use Rattle.store_tables.specs.declared.error.EngineError.TheVariants as engine
use Rattle.store_tables.specs.declared.error.EngineError.{EngineError}
use Rattle.store_tables.specs.Errors.{error_of_disk}

-- a removal that failed is told so
pub removal_failed : {T U : Type 0} (called : Result T DiskError) (e : DiskError) (s : EngineError)
    → called ≡ Err e → s ≡ error_of_disk e
    → IsErrOf called disk.Failed ↔ IsErrOf {T = U} (Err s) engine.Disk
removal_failed (Ok x) e s is told = absurd cc
removal_failed (Err d) disk.Failed s is told = (λ f. ap (λ x. Err x) told, λ f. is)
removal_failed (Err d) disk.NoFile s is told = (λ f. absurd cc, λ f. absurd cc)
removal_failed (Err d) disk.Short s is told = (λ f. absurd cc, λ f. absurd cc)
removal_failed (Err d) disk.Memory s is told = (λ f. absurd cc, λ f. absurd cc)
