use Rattle.chain_model.proofs.Configuration.{chain_of}
use Rattle.chain_model.proofs.Once.{exactly_once}
use Rattle.chain_model.proofs.exactly_once.Goals as goal

pub returns : goal.returns
returns c = λ cs events lawful one. exactly_once cs events (chain_of cs lawful) one
