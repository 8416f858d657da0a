use Rattle.dir_disk.proofs.Looks.{looked_once}
use Rattle.dir_disk.proofs.read_only.ReadOnly.files.Goals as goal

-- it is one call
pub returns-clause-once : goal.returns-clause-once
returns-clause-once g c =
    looked_once g.D.Disk _ _ _ c.files.ensures.kept.disk c.files.ensures.passes
