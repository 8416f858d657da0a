use Rattle.chain_core.proofs.Steps as steps
use Rattle.chain_core.proofs.laws.stands_last.Goals as goal

pub returns : goal.returns
returns c = steps.stands_last
