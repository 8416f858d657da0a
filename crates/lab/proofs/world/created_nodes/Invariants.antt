use Rattle.std.proofs.Common.{take}
use Rattle.lab.specs.Worlds.{AreCreated}
use Rattle.lab.proofs.world.created_nodes.Given as goal

-- so many nodes are created
abbrev pub invariant-loop-id : goal.invariant-loop-id
invariant-loop-id l = AreCreated l.config (take l.id-index l.id-items) l.limits l.nodes.items
