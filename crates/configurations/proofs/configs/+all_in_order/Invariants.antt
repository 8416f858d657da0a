use Rattle.std.proofs.Common.{length}
use Rattle.configurations.proofs.configs.+all_in_order.Given as goal

-- the list gets shorter
abbrev pub decreases-all_in_order : goal.decreases-all_in_order
decreases-all_in_order l = length l.configs.now
