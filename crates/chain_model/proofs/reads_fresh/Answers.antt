use Rattle.chain_model.proofs.Configuration.{chain_of}
use Rattle.chain_model.proofs.Consequences.{reads_fresh}
use Rattle.chain_model.proofs.reads_fresh.Goals as goal

pub returns : goal.returns
returns c = λ cs events lawful. reads_fresh cs (chain_of cs lawful) events
