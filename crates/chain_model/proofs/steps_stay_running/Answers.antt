use Rattle.chain_model.proofs.Growth.{steps_stay_running}
use Rattle.chain_model.proofs.steps_stay_running.Goals as goal

pub returns : goal.returns
returns c = steps_stay_running
