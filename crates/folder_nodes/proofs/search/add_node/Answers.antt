use Rattle.std.proofs.Common.{arith}
use Rattle.std.proofs.lemmas.Grind.{common_steps}
use Rattle.folder_nodes.proofs.search.add_node.Goals as goal

-- there is room for the node
pub returns-in-Ok-new-clause-added : goal.returns-in-Ok-new-clause-added
returns-in-Ok-new-clause-added g c = record {
  sim = c.up.result;
  more = grind (arith, common_steps);
  named = c.up.ensures.id;
  up = (c.in-Ok-new.node, c.up.ensures.state, c.in-Ok-new.ensures.ok);
}
