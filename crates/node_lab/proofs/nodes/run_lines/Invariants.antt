use Rattle.node.specs.{IsReady}
use Rattle.node_lab.proofs.nodes.run_lines.Given as goal

-- the node may take another step
abbrev pub invariant-loop : goal.invariant-loop
invariant-loop l = IsReady l.node
