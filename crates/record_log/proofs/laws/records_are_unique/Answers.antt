use Rattle.record_log.proofs.Fronts.{one_reading}
use Rattle.record_log.proofs.laws.records_are_unique.Goals as goal

-- bytes represent at most one list
pub returns : goal.returns
returns c = one_reading
