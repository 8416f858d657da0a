use Rattle.disk.specs.StepsLemmas.{sure_left}
use Rattle.disk.proofs.laws.durable_is_left.Goals as goal

-- by the slot
pub returns : goal.returns
returns c = λ disk left file sure now. sure_left (disk file) (left file) sure (now file)
