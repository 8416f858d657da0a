use Rattle.std.proofs.Common.{◌≡◌, ◌++◌}
use Rattle.disk.proofs.memory.clone_slots.Given as goal

-- those that were cloned, and those that are left
abbrev pub invariant-loop-number : goal.invariant-loop-number
invariant-loop-number l = l.copy.entries ++ l.number-iterator ≡ l.slots.entries
