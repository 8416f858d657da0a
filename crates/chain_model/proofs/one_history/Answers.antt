use Rattle.chain_model.proofs.Configuration.{chain_of}
use Rattle.chain_model.proofs.Places.{one_list}
use Rattle.chain_model.proofs.one_history.Goals as goal

pub returns : goal.returns
returns c = λ cs events lawful. one_list cs events (chain_of cs lawful)
