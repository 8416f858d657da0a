use Rattle.chain_model.proofs.Outcomes.{run_is_outcomes}
use Rattle.chain_model.proofs.run_is_outcomes.Goals as goal

pub returns : goal.returns
returns c = λ cs events. run_is_outcomes cs events
