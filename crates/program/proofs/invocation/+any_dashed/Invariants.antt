use Rattle.std.proofs.Common.{length}
use Rattle.program.proofs.invocation.+any_dashed.Given as goal

abbrev pub decreases-any_dashed : goal.decreases-any_dashed
decreases-any_dashed l = length l.words.now
