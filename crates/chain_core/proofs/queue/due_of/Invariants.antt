use Rattle.std.proofs.Common.{◌≡◌, ◌-◌, ◌++◌, length, drop}
use Rattle.chain_core.specs.Queues.{front}
use Rattle.chain_core.proofs.queue.due_of.Given as goal

-- those passed are due
abbrev pub invariant-loop-it : goal.invariant-loop-it
invariant-loop-it l =
    l.due ++ front l.upto (drop l.count l.pending.items) ≡ front l.upto l.pending.items

abbrev pub decreases-loop-it : goal.decreases-loop-it
decreases-loop-it l = length l.pending.items - l.count
