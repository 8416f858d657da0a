use Rattle.store_model.proofs.Reached as runs
use Rattle.store_model.proofs.empty_represents.Goals as goal

pub returns : goal.returns
returns c = runs.empty_represents
