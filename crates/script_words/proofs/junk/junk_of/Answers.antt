use Rattle.std.proofs.Common.{arith}
use Rattle.std.proofs.lemmas.Grind.{common_steps}
use Rattle.script_words.proofs.junk.junk_of.Goals as goal

pub returns-in-old : goal.returns-in-old
returns-in-old c = grind (arith, common_steps)

pub returns-in-new : goal.returns-in-new
returns-in-new c = grind (arith, common_steps)

pub returns-in-Some : goal.returns-in-Some
returns-in-Some c = grind (arith, common_steps)
