use Rattle.store_model.proofs.Grows.{raise_keeps}
use Rattle.store_model.proofs.Reached.{raised_way}
use Rattle.store_model.proofs.raises_keep.Goals as goal

pub returns-clause-list : goal.returns-clause-list
returns-clause-list c = λ l store floor kept ok rise. raise_keeps l store floor kept ok rise

pub returns-clause-merge : goal.returns-clause-merge
returns-clause-merge c = λ store floor kept plan way. raised_way store floor kept plan way
