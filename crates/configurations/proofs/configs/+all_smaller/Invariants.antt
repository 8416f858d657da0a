use Rattle.std.proofs.Common.{length}
use Rattle.configurations.proofs.configs.+all_smaller.Given as goal

-- the list gets shorter
abbrev pub decreases-all_smaller : goal.decreases-all_smaller
decreases-all_smaller l = length l.configs.now
