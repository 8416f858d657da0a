use Rattle.std.proofs.Common.{subst, sym}
use Rattle.node.specs.Steps.{DiskAlwaysRefines}
use Rattle.node.proofs.Running as running
use Rattle.node.proofs.node.Node.into_disk.Goals as goal

-- the disk of a running node represents the machine that the node refines
pub returns-clause-rests : goal.returns-clause-rests
returns-clause-rests g c = λ x n r.
    subst (λ d. DiskAlwaysRefines (g.D.Disk.state d) x n) (sym c.into_disk.ensures)
    (running.rests g.D.Disk c.args.self x n r)
