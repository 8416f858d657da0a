use Rattle.disk.specs.KeepingLemmas.{kept_as}
use Rattle.folder_nodes.proofs.FindingLemmas.{device_stopped}
use Rattle.folder_nodes.proofs.finding.created.Goals as goal

pub returns-in-Err-clause-kept : goal.returns-in-Err-clause-kept
returns-in-Err-clause-kept g c =
    kept_as g.D.Disk (device_stopped c.in-Err.stop c.from.result c.from.ensures) (λ a b owned. tt)
    c.in-Err.ensures.kept
