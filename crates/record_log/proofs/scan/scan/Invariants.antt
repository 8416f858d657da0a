use Rattle.std.proofs.Common.{length}
use Rattle.record_log.proofs.Fronts.{Passed}
use Rattle.record_log.proofs.scan.scan.Given as goal

-- the records that the loop has passed, and where they end
abbrev pub invariant-loop-ends : goal.invariant-loop-ends
invariant-loop-ends l = Passed l.bytes l.rest l.ends.items l.end

abbrev pub decreases-loop-ends : goal.decreases-loop-ends
decreases-loop-ends l = length l.rest
