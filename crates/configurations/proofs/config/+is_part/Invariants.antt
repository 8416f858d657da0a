use Rattle.std.proofs.Common.{length}
use Rattle.configurations.proofs.config.+is_part.Given as goal

-- the other ids get fewer
abbrev pub decreases-is_part : goal.decreases-is_part
decreases-is_part l = length l.others.now
