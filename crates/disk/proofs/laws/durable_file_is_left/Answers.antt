use Rattle.disk.specs.StepsLemmas.{sure_left}
use Rattle.disk.proofs.laws.durable_file_is_left.Goals as goal

pub returns : goal.returns
returns c = λ slot left durable leaves. sure_left slot left durable leaves
