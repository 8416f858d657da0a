use Rattle.lab.proofs.FaultIncidents.{stops_told}
use Rattle.lab.proofs.laws.stops_are_determined.Goals as goal

pub returns : goal.returns
returns c = stops_told
