use Rattle.std.proofs.Common.{◌≡◌, take, All}
use Rattle.configurations.specs.NodeLists.{IsId}
use Rattle.configurations.proofs.config.Config.new.Given as goal

-- the ids so far are ids of nodes
abbrev pub invariant-loop-id : goal.invariant-loop-id
invariant-loop-id l =
    let passed = take l.id-index l.id-items in
    (l.nodes.items ≡ passed) × All IsId passed
