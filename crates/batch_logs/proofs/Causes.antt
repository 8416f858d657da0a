-- Causes of a refusal, by the errors of the layers below.
use Rattle.std.proofs.Common.{◌≡◌, ◌⊎◌, ℕ, ◌≤◌, List, length, Err, inl, inr, ap, arith}
use Rattle.disk.specs.{IsEnvironmental}
use Rattle.disk.specs.declared.DiskError.TheVariants as disk
use Rattle.record_log.specs.declared.LogError.{LogError}
use Rattle.record_log.specs.declared.LogError.TheVariants as log
use Rattle.record_log.specs.declared.Log.{Log}
use Rattle.record_log.specs as log_stands
use Rattle.store_tables.specs.declared.error.EngineError.TheVariants as engine
use Rattle.store_tables.specs.Errors.{IsEnd, error_of_log}

-- an external error of a log is one of the engine
pub log_is_external : (e : LogError) → IsEnvironmental (log.Disk disk.Failed) log.Memory e →
    IsEnvironmental engine.Disk engine.Memory (error_of_log e)
log_is_external e (inl failed) = inl (ap error_of_log failed)
log_is_external e (inr memory) = inr (ap error_of_log memory)

pub working_log : (e : LogError) →
    IsEnvironmental (log.Disk disk.Failed) log.Memory e ⊎ (e ≡ log.Failed) →
    (e ≡ log.Failed → ⊥) → IsEnvironmental engine.Disk engine.Memory (error_of_log e)
working_log e (inl external) works = log_is_external e external
working_log e (inr failed) works = absurd (works failed)

-- each refusal of a log ends the files
pub log_ends : (e : LogError) → IsEnd (error_of_log e)
log_ends (log.Disk disk.Failed) = tt
log_ends (log.Disk disk.NoFile) = tt
log_ends (log.Disk disk.Short) = tt
log_ends (log.Disk disk.Memory) = tt
log_ends log.Memory = tt
log_ends log.TooLong = tt
log_ends log.Failed = tt

-- and a log that refused has as many records as before
pub none_counted : (limit : ℕ) (e : LogError) (old new : Log) (one : List ℕ) →
    log_stands.AppendOutcome {T = Unit {0}} limit (Err e) old new one →
    log_stands.count_of new ≡ log_stands.count_of old
none_counted limit (log.Disk e) old new one tells = tells.3
none_counted limit log.Memory old new one tells = tells.3
none_counted limit log.TooLong old new one tells = ap log_stands.count_of tells.2
none_counted limit log.Failed old new one tells = ap log_stands.count_of tells.1

-- a log that works, with a record that fits, reports external errors alone
pub met : (limit : ℕ) (e : LogError) (old new : Log) (one : List ℕ) →
    log_stands.AppendOutcome {T = Unit {0}} limit (Err e) old new one → length one ≤ limit →
    (log_stands.HasFailed old → ⊥) → log_stands.IsExpected e →
    IsEnvironmental engine.Disk engine.Memory (error_of_log e)
met limit e old new one tells fits works (inl external) = log_is_external e external
met limit (log.Disk e) old new one tells fits works (inr own) =
    elim own [ inl long ↦ absurd cc | inr failed ↦ absurd cc ]
met limit log.Memory old new one tells fits works (inr own) =
    elim own [ inl long ↦ absurd cc | inr failed ↦ absurd cc ]
met limit log.TooLong old new one tells fits works (inr own) =
    let long = tells.1 in
    absurd (omega (arith, long, fits))
met limit log.Failed old new one tells fits works (inr own) = absurd (works tells.0)
