use Rattle.std.proofs.Common.{arith}
use Rattle.std.proofs.lemmas.Grind.{common_steps}
use Rattle.merge_iter.proofs.merged.MergedCursor.valid.Goals as goal

pub returns-in-Off : goal.returns-in-Off
returns-in-Off g c = grind (arith, common_steps)

pub returns-in-Broken : goal.returns-in-Broken
returns-in-Broken g c = grind (arith, common_steps)
