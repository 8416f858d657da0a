use Rattle.std.proofs.Common.{◌≡◌, take}
use Rattle.benchmarks.specs.Counts.{with_rows}
use Rattle.benchmarks.proofs.count.Count.add_rows.Given as goal

-- the rows so far were counted
abbrev pub invariant-loop-row : goal.invariant-loop-row
invariant-loop-row l = l.self ≡ with_rows l.fn.self (take l.row-index l.rows)
