use Rattle.std.proofs.Common.{sym, subst}
use Rattle.std.specs.Prelude.{IfOk}
use Rattle.carriers.specs.declared.NodeInput.{NodeInput}
use Rattle.lab.specs.declared.node_state.NodeState.TheVariants.{Down}
use Rattle.lab.specs.Dispatches.{HasDispatched}
use Rattle.lab.proofs.Dispatching.{answered_at_rest}
use Rattle.lab.proofs.node_state.dispatch_down.Goals as goal

pub returns-in-Start : goal.returns-in-Start
returns-in-Start g c =
    subst (λ (k : NodeInput). IfOk c.start.result
    (λ it. HasDispatched g.D.Disk c.args.limits.now c.args.fault k (Down c.args.boxed) it.0 it.1))
    (sym c.in-Start.is) c.start.ensures

pub returns : goal.returns
returns g c =
    answered_at_rest g.D.Disk c.args.limits.now c.args.fault c.args.input.now c.args.boxed
    c.output_at_rest-output.result c.in_default.not-Start c.output_at_rest-output.ensures
