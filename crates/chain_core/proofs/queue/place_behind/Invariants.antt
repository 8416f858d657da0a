use Rattle.std.proofs.Common.{◌≡◌, ◌+◌, ◌-◌, length, drop}
use Rattle.chain_core.specs.Queues.{place_behind}
use Rattle.chain_core.proofs.queue.place_behind.Given as goal

-- those passed go before
abbrev pub invariant-loop-other : goal.invariant-loop-other
invariant-loop-other l =
    l.count + place_behind l.it (drop l.count l.pending.items) ≡ place_behind l.it l.pending.items

abbrev pub decreases-loop-other : goal.decreases-loop-other
decreases-loop-other l = length l.pending.items - l.count
