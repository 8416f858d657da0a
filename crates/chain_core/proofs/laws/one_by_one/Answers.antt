use Rattle.chain_core.proofs.Steps as steps
use Rattle.chain_core.proofs.laws.one_by_one.Goals as goal

pub returns : goal.returns
returns c = steps.one_by_one
