-- What a refusal says of the call before.
use Rattle.std.proofs.Common.{◌≡◌, ◌↔◌, Result, Ok, Err, ap}
use Rattle.std.specs.Prelude.{IsErrAnd, IsErrOf}
use Rattle.disk.specs.declared.DiskError.TheVariants as disk
use Rattle.record_log.specs.declared.LogError.{LogError}
use Rattle.record_log.specs.declared.LogError.TheVariants as log
use Rattle.store_tables.specs.declared.error.EngineError.{EngineError}
use Rattle.store_tables.specs.declared.error.EngineError.TheVariants as engine
use Rattle.store_tables.specs.Errors.{error_of_log}

-- a failure of the device under a log is told as one of the disk
pub log_failed : {T U : Type 0} (called : Result T LogError) (e : LogError)
    (result : Result U EngineError) → called ≡ Err e → IsErrAnd result (λ s. s ≡ error_of_log e) →
    (called ≡ Err (log.Disk disk.Failed)) ↔ IsErrOf result engine.Disk
log_failed called e (Ok x) is told = absurd told
log_failed called (log.Disk disk.Failed) (Err s) is told = (λ _. ap (λ d. Err d) told, λ _. is)
log_failed called (log.Disk disk.NoFile) (Err s) is told = (λ f. cc, λ f. cc)
log_failed called (log.Disk disk.Short) (Err s) is told = (λ f. cc, λ f. cc)
log_failed called (log.Disk disk.Memory) (Err s) is told = (λ f. cc, λ f. cc)
log_failed called log.Memory (Err s) is told = (λ f. cc, λ f. cc)
log_failed called log.TooLong (Err s) is told = (λ f. cc, λ f. cc)
log_failed called log.Failed (Err s) is told = (λ f. cc, λ f. cc)
