use Rattle.lab.proofs.Nodes.{left_next}
use Rattle.lab.proofs.leaving.left_of_all.Goals as goal

pub loop-node-preserved : goal.loop-node-preserved
loop-node-preserved c =
    left_next c.loop-node.yielded c.loop-node.reports.items c.push.new.self.items c.in-Some.node
    c.left_of.result c.left_of.ensures.own c.left_of.ensures.left c.in_ok-push.ensures.items
    c.loop-node.invariant
