use Rattle.chain_model.proofs.WorldGrowth.{only_grows}
use Rattle.chain_model.proofs.only_grows.Goals as goal

pub returns : goal.returns
returns c = λ cs events later. only_grows cs events later
