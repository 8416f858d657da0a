use Rattle.chain_model.proofs.Configuration.{chain_of}
use Rattle.chain_model.proofs.Consequences.{in_order}
use Rattle.chain_model.proofs.in_order.Goals as goal

pub returns : goal.returns
returns c = λ cs events lawful. in_order cs (chain_of cs lawful) events
