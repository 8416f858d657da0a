use Rattle.scripts.proofs.RefusedFaults.{faults_refused}
use Rattle.scripts.proofs.laws.faults_are_refused.Goals as goal

pub returns : goal.returns
returns c = faults_refused
