use Rattle.std.proofs.Common.{length}
use Rattle.configurations.proofs.config.+has_repeated.Given as goal

-- the list gets shorter
abbrev pub decreases-has_repeated : goal.decreases-has_repeated
decreases-has_repeated l = length l.ids.now
