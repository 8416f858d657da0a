-- How an upgrade of the store of a folder ends.
use Rattle.std.proofs.Common.{◌≡◌, ◌↔◌, Result, Ok, Err, ap}
use Rattle.std.specs.Prelude.{IsErrAnd, IsErrOf}
use Rattle.engine.specs.EngineError.{EngineError}
use Rattle.engine.specs.EngineError.TheVariants as engine
use Rattle.lab.specs.Stop.TheVariants as stop
use Rattle.program.specs.declared.folder_failure.UpgradeFailure.{UpgradeFailure}
use Rattle.program.specs.declared.folder_failure.UpgradeFailure.TheVariants.{Store}
use Rattle.program.specs.FolderFailures.{upgrade_failure_of}

-- a failure of the disk is told as one, and nothing else is
pub told_so : {T U : Type 0} (called : Result T EngineError) (e : EngineError)
    (result : Result U UpgradeFailure) → called ≡ Err e
    → IsErrAnd result (λ s. s ≡ upgrade_failure_of e)
    → IsErrOf called engine.Disk ↔ IsErrOf result (Store stop.Disk)
told_so called e (Ok x) is told = absurd told
told_so called engine.Disk (Err s) is told = (λ f. ap (λ d. Err d) told, λ f. is)
told_so called engine.Damaged (Err s) is told = (λ f. cc, λ f. cc)
told_so called engine.Memory (Err s) is told = (λ f. cc, λ f. cc)
told_so called engine.NotCreated (Err s) is told = (λ f. cc, λ f. cc)
told_so called engine.Failed (Err s) is told = (λ f. cc, λ f. cc)
told_so called engine.TooOld (Err s) is told = (λ f. cc, λ f. cc)
told_so called engine.NotCommitted (Err s) is told = (λ f. cc, λ f. cc)
told_so called engine.NoSuchSnapshot (Err s) is told = (λ f. cc, λ f. cc)
told_so called engine.TooManySnapshots (Err s) is told = (λ f. cc, λ f. cc)
told_so called engine.Exhausted (Err s) is told = (λ f. cc, λ f. cc)
told_so called engine.OldFormat (Err s) is told = (λ f. cc, λ f. cc)
