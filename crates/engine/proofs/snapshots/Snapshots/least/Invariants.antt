use Rattle.std.proofs.Common.{◌≡◌}
use Rattle.std.specs.VecDeque.Iter.{deque_iter_rest}
use Rattle.kv_types.specs.Snapshots.{least}
use Rattle.engine.proofs.snapshots.Snapshots.least.Given as goal

-- the least of those passed, and the snapshots that are left, decide
abbrev pub invariant-loop-open : goal.invariant-loop-open
invariant-loop-open l =
    least l.fn.number l.fn.self ≡ least l.least (deque_iter_rest l.open-iterator)
