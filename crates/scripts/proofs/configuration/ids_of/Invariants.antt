use Rattle.std.proofs.Common.{◌≡◌, take}
use Rattle.scripts.proofs.configuration.ids_of.Given as goal

abbrev pub invariant-loop-number : goal.invariant-loop-number
invariant-loop-number l = l.ids.items ≡ take l.number-index l.numbers
