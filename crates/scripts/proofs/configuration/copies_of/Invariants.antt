use Rattle.std.proofs.Common.{◌≡◌, take}
use Rattle.scripts.proofs.configuration.copies_of.Given as goal

-- the first of them are copied
abbrev pub invariant-loop-number : goal.invariant-loop-number
invariant-loop-number l = l.copies.items ≡ take l.number l.configs
