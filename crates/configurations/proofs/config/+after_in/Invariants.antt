use Rattle.std.proofs.Common.{length}
use Rattle.configurations.proofs.config.+after_in.Given as goal

-- the list gets shorter
abbrev pub decreases-after_in : goal.decreases-after_in
decreases-after_in l = length l.ids.now
