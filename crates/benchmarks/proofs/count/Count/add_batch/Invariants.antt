use Rattle.std.proofs.Common.{◌≡◌, take}
use Rattle.std.specs.List.{fold}
use Rattle.benchmarks.specs.Counts.{with_edit}
use Rattle.benchmarks.proofs.count.Count.add_batch.Given as goal

-- the edits so far were counted
abbrev pub invariant-loop-edit : goal.invariant-loop-edit
invariant-loop-edit l = l.self ≡ fold with_edit l.fn.self (take l.edit-index l.edit-items)
