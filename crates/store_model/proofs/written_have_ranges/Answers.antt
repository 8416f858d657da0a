use Rattle.store_model.proofs.Written.{own_ranges}
use Rattle.store_model.proofs.written_have_ranges.Goals as goal

pub returns : goal.returns
returns c = λ tables ok. own_ranges tables ok
