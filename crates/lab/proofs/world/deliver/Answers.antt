use Rattle.std.proofs.Common.{refl, subst}
use Rattle.disk.specs.declared.Fault.{Fault}
use Rattle.lab.specs.Dispatches.{HasDispatched}
use Rattle.lab.proofs.Moves.{moved}
use Rattle.lab.proofs.world.deliver.Goals as goal

-- the node took the input with the event's fault, and stands at its place again
pub returns-clause-moved : goal.returns-clause-moved
returns-clause-moved g c =
    let it = c.args.delivery in
    let state = c.in_ok-state.state in
    let did = c.in_ok-state.outcome in
    let limits = c.args.limits.now in
    let fault = c.args.event.now.fault in
    moved c.args.nodes.now.items c.remove-node.new.self.items c.insert.new.self.items
    c.args.index it.0 c.remove-node.result (record { id = it.0; state = state; ready = _ }) it.1
    fault limits did c.requires c.remove-node.ensures.value c.remove-node.ensures.items
    c.in_ok-insert.ensures.items refl
    (subst (λ (f : Fault). HasDispatched g.D.Disk limits f it.1 c.remove-node.result.state state
    did)
    c.in-Ok.ensures c.in_ok-state.ensures)
