use Rattle.std.proofs.Common.{arith}
use Rattle.std.proofs.lemmas.Grind.{common_steps}
use Rattle.scripts.proofs.statements.stop.Goals as goal

pub returns-in_default : goal.returns-in_default
returns-in_default c = grind (arith, common_steps)

pub returns-in_default-number : goal.returns-in_default-number
returns-in_default-number c = grind (arith, common_steps)

pub returns-in-None-2 : goal.returns-in-None-2
returns-in-None-2 c = grind (arith, common_steps)

pub returns : goal.returns
returns c = grind (arith, common_steps)
