use Rattle.lab.proofs.Nodes.{created_next}
use Rattle.lab.proofs.world.created_nodes.Goals as goal

pub loop-id-preserved : goal.loop-id-preserved
loop-id-preserved c =
    created_next c.args.config.now c.ids-id-items.result.now c.args.limits.now c.loop-id.id-index
    c.id-item.result
    c.loop-id.nodes.items c.push.new.self.items c.in_ok-created_node.field-0 c.loop-id-test.true
    c.id-item.is c.in_ok-created_node.ensures.id c.in_ok-created_node.ensures.created
    c.in_ok-created_node.ensures.limits
    c.in_ok-push.ensures.items c.loop-id.invariant
