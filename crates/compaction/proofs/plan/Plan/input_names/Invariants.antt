use Rattle.std.proofs.Common.{◌≡◌, ◌++◌, length, map, filter}
use Rattle.compaction.specs.Inputs.{lent_range, line_name}
use Rattle.compaction.specs.Plans.{is_line_input}
use Rattle.compaction.proofs.plan.Plan.input_names.Given as goal

-- the names so far, and those among the tables that are left
abbrev pub invariant-loop-rest : goal.invariant-loop-rest
invariant-loop-rest l =
    let chosen = is_line_input l.self (lent_range l.range) in
    l.names.items ++ map line_name (filter chosen l.rest)
    ≡ map line_name (filter chosen l.tables)

abbrev pub decreases-loop-rest : goal.decreases-loop-rest
decreases-loop-rest l = length l.rest
