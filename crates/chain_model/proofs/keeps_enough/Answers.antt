use Rattle.chain_model.proofs.Configuration.{chain_of}
use Rattle.chain_model.proofs.Consequences.{keeps_enough}
use Rattle.chain_model.proofs.keeps_enough.Goals as goal

pub returns : goal.returns
returns c = λ cs events lawful. keeps_enough cs (chain_of cs lawful) events
