use Rattle.std.proofs.Common.{◌≡◌, take}
use Rattle.folder_nodes.specs.Finding.{sim_ids}
use Rattle.folder_nodes.specs.Searches.{AreFound}
use Rattle.folder_nodes.proofs.search.nodes_over.Given as goal

-- so many nodes are found, in order
abbrev pub invariant-loop-id : goal.invariant-loop-id
invariant-loop-id g l = record {
  ids : sim_ids l.nodes.items ≡ take l.id-index l.id-items;
  found : AreFound g.D.Disk g.S.NodeDisks.makes l.configs l.limits l.nodes.items l.fn.disks
      l.disks;
}
