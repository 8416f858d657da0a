use Rattle.std.proofs.Common.{inr, refl}
use Rattle.chain_model.specs.declared.DropReason.TheVariants as reason
use Rattle.carriers.specs.declared.NodeInput.TheVariants as to_node
use Rattle.lab.specs.declared.node_state.NodeState.TheVariants.{Up}
use Rattle.lab.specs.Outcomes.{RunsOn}
use Rattle.lab.proofs.Dispatching.{answered_only, ready_up, some_drop}
use Rattle.lab.proofs.node_state.drop_start.Goals as goal

pub returns : goal.returns
returns g c = λ limits.
    let output = c.dropped-output in
    let node = c.args.boxed in
    answered_only g.D.Disk limits c.args.fault to_node.Start (Up node) output.result
    (ready_up node c.requires) output.ensures
    (inr (some_drop reason.Running output.result output.ensures)) tt
    (λ x n r. RunsOn r.core.running r (output.result, refl, output.ensures)) refl
