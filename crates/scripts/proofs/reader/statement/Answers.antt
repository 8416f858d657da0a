use Rattle.std.proofs.Common.{arith}
use Rattle.std.proofs.lemmas.Grind.{common_steps}
use Rattle.scripts.proofs.reader.statement.Goals as goal

pub returns-else-eq-8 : goal.returns-else-eq-8
returns-else-eq-8 c = grind (arith, common_steps)
