use Rattle.std.proofs.Common.{◌∙◌, ap, inl, refl}
use Rattle.std.specs.Prelude.{Ok}
use Rattle.node.specs.{disk_of}
use Rattle.folder_nodes.proofs.FoundNodesLemmas.{found_more}
use Rattle.folder_nodes.proofs.search.add_found.Goals as goal

-- the node is one more
pub returns-in-Ok-add_node-clause-found : goal.returns-in-Ok-add_node-clause-found
returns-in-Ok-add_node-clause-found g c = λ first found.
    found_more g.S.NodeDisks.makes c.args.configs.now c.args.limits.now c.args.id c.in-Ok.disk
    c.in-Ok-node_with_id.node c.args.nodes.now.items c.add_node.new.nodes.items first
    c.args.disks.now c.disk_for.new.self c.in-Ok.ensures c.in-Ok-add_node.ensures.added
    c.in-Ok-node_with_id.ensures.own c.in-Ok-node_with_id.ensures.found found

-- there is no memory to keep it
pub returns-in-Err-add_node-clause-fault : goal.returns-in-Err-add_node-clause-fault
returns-in-Err-add_node-clause-fault g c = (
  c.in-Ok.disk,
  c.in-Ok.ensures,
  record {
    result = Ok c.in-Ok-node_with_id.node;
    ends = c.in-Ok-node_with_id.ensures.found;
    why = inl refl;
    is_left = c.into_disk.ensures.disk ∙ ap disk_of c.in-Err-add_node.ensures.returned;
  },
)
