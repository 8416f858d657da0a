use Rattle.std.proofs.Common.{length}
use Rattle.table_format.proofs.IndexLoops.{LinesRead}
use Rattle.table_format.proofs.index.lines_of.Given as goal

abbrev pub invariant-loop-rest : goal.invariant-loop-rest
invariant-loop-rest l = LinesRead l.format l.text l.rest l.lines.items l.place l.end

abbrev pub decreases-loop-rest : goal.decreases-loop-rest
decreases-loop-rest l = length l.rest
