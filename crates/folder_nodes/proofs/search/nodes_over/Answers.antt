use Rattle.std.proofs.Common.{ap, arith, drop, suc}
use Rattle.std.proofs.lemmas.Grind.{common_steps}
use Rattle.folder_nodes.specs.Finding.{sim_ids}
use Rattle.folder_nodes.proofs.FoundNodesLemmas.{found_still, parts_at}
use Rattle.folder_nodes.proofs.search.nodes_over.Goals as goal

-- the search ends at the next node
pub returns-in-Err-clause-fault : goal.returns-in-Err-clause-fault
returns-in-Err-clause-fault g c =
    let ids = c.ids-id-items.result.now in
    let at = c.loop-id.id-index in
    let same = c.in-Err.ensures.same in
    let nodes = ap sim_ids same in
    let parts = parts_at ids at c.id-item.result c.loop-id-test.true in
    record {
      rest = drop (suc at) ids;
      order = cc;
      mid = c.loop-id.disks;
      found = found_still g.S.NodeDisks.makes c.args.configs.now c.args.limits.now
          c.loop-id.nodes.items c.add_found.new.nodes.items c.args.disks.now c.loop-id.disks same
          c.loop-id.invariant.found;
      leaves = c.in-Err.ensures.fault;
    }

-- one node more is found
pub loop-id-preserved : goal.loop-id-preserved
loop-id-preserved g c = record {
  ids = grind (arith, common_steps);
  found = c.in_default.ensures.found c.args.disks.now c.loop-id.invariant.found;
}
