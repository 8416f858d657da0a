use Rattle.node.proofs.Running as running
use Rattle.node.proofs.laws.disks_represent.Goals as goal

pub returns : goal.returns
returns g c = λ node x n r. running.rests g.D.Disk node x n r
