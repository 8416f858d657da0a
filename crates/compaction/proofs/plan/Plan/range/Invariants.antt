use Rattle.std.proofs.Common.{◌≡◌, length, option_map}
use Rattle.std.specs.List.{fold}
use Rattle.compaction.specs.Inputs.{lent_range}
use Rattle.compaction.specs.Plans.{range_of, with_range}
use Rattle.compaction.proofs.plan.Plan.range.Given as goal

-- the tables that are left decide, with the joint range of those before
abbrev pub invariant-loop-rest : goal.invariant-loop-rest
invariant-loop-rest l =
    fold (with_range l.self) (option_map lent_range l.range) l.rest ≡ range_of l.self l.tables

abbrev pub decreases-loop-rest : goal.decreases-loop-rest
decreases-loop-rest l = length l.rest
