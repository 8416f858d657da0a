use Rattle.std.proofs.Common.{length}
use Rattle.scripts.proofs.statement.+id_in.Given as goal

abbrev pub decreases-id_in : goal.decreases-id_in
decreases-id_in p = length p.ids.now
