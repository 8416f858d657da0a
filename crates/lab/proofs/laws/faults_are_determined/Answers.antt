use Rattle.lab.proofs.FaultIncidents.{faults_told}
use Rattle.lab.proofs.laws.faults_are_determined.Goals as goal

pub returns : goal.returns
returns c = faults_told
