use Rattle.std.proofs.Common.{subst}
use Rattle.std.specs.Prelude.{IfOk}
use Rattle.lab.specs.Stops.{StopsWithDisk}
use Rattle.lab.proofs.node_state.stop_node.Goals as goal

pub returns : goal.returns
returns g c =
    subst (λ (d : _). IfOk c.stop_by_itself.result
    (λ it. StopsWithDisk g.D.Disk d c.args.stop c.args.fault it.0 it.1)) c.disk_in_box.ensures.disk
    c.stop_by_itself.ensures
