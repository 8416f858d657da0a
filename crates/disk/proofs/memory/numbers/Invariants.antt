use Rattle.std.proofs.Common.{◌≡◌, ◌++◌}
use Rattle.disk.proofs.Numbers.{numbers_of}
use Rattle.disk.proofs.memory.numbers.Given as goal

-- the numbers of the files passed, and of those that are left, are those of all
abbrev pub invariant-loop-number : goal.invariant-loop-number
invariant-loop-number l =
    l.numbers.items ++ numbers_of l.number-iterator ≡ numbers_of l.slots.entries
