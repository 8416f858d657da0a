use Rattle.dir_disk.proofs.Looks.{looked_once}
use Rattle.dir_disk.proofs.read_only.ReadOnly.read.Goals as goal

-- it is one call
pub returns-clause-once : goal.returns-clause-once
returns-clause-once g c =
    looked_once g.D.Disk _ _ _ c.read.ensures.kept.disk c.read.ensures.passes
