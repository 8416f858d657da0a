use Rattle.std.proofs.Common.{◌≡◌, length}
use Rattle.chain_core.specs.Queues.{behind}
use Rattle.chain_core.proofs.queue.forget_due.Given as goal

-- those passed are not behind
abbrev pub invariant-loop-first : goal.invariant-loop-first
invariant-loop-first l = behind l.upto l.pending.items ≡ behind l.upto l.initial.pending.items

abbrev pub decreases-loop-first : goal.decreases-loop-first
decreases-loop-first l = length l.pending.items
