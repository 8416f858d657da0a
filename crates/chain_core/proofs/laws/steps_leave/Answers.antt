use Rattle.chain_core.proofs.Steps as steps
use Rattle.chain_core.proofs.laws.steps_leave.Goals as goal

pub returns : goal.returns
returns c = steps.steps_leave
