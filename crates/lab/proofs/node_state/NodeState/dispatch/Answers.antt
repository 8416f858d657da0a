use Rattle.std.proofs.Common.{◌≡◌, ◌∙◌, sym, subst}
use Rattle.std.specs.Prelude.{IfOk}
use Rattle.lab.specs.declared.node_state.NodeState.{NodeState}
use Rattle.lab.specs.Dispatches.{HasDispatched}
use Rattle.lab.proofs.Dispatching.{dispatched_as, each_answer}
use Rattle.lab.proofs.node_state.NodeState.dispatch.Goals as goal
use Rattle.lab.proofs.node_state.NodeState.dispatch.Goals.{in-BadFrame, in-Start, in-Stop, in-Tend}

-- a node that is down takes it
pub returns-in-Down : goal.returns-in-Down
returns-in-Down g c =
    subst (λ (m : NodeState _ _). IfOk c.dispatch_down.result
    (λ it. HasDispatched g.D.Disk c.args.limits.now c.args.fault c.args.input m it.0 it.1))
    (sym c.in-Down.is)
    c.dispatch_down.ensures

-- .. or one that is up does
pub returns-in-Step : goal.returns-in-Step
returns-in-Step g c = each_answer c.step.result (λ did took.
    dispatched_as c.args.limits.now c.args.fault c.in-Step.is c.in-Up.is took)
    (c.step.ensures c.args.limits.now)

-- the other inputs, which are passed on as they are
pub returns : goal.returns
returns g c =
    let same : c.args.input ≡ c.match-input-5.rare = elim c.match-input-5.branch [
      | in-Tend w ↦ w.in-Tend.is ∙ sym w.rare-is
      | in-BadFrame w ↦ w.in-BadFrame.is ∙ sym w.rare-is
      | in-Start w ↦ w.in-Start.is ∙ sym w.rare-is
      | in-Stop w ↦ w.in-Stop.is ∙ sym w.rare-is
    ] in
    each_answer c.dispatch_up.result (λ did took.
    dispatched_as c.args.limits.now c.args.fault same c.in-Up.is took)
    (c.dispatch_up.ensures c.args.limits.now)
