use Rattle.std.proofs.Common.{length}
use Rattle.configurations.proofs.config.+before_in.Given as goal

-- the list gets shorter
abbrev pub decreases-before_in : goal.decreases-before_in
decreases-before_in l = length l.ids.now
