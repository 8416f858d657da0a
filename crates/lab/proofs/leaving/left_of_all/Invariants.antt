use Rattle.lab.specs.Worlds.{AreLeft}
use Rattle.lab.proofs.leaving.left_of_all.Given as goal

-- what is left of the nodes that were passed
abbrev pub invariant-loop-node : goal.invariant-loop-node
invariant-loop-node l = AreLeft l.yielded l.reports.items
