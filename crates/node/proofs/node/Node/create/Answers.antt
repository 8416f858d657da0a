use Rattle.std.proofs.Common.{subst, sym}
use Rattle.disk.specs.KeepingLemmas.{kept_as}
use Rattle.node.specs.Stops.{EndsCreated}
use Rattle.node.proofs.Causes.{device_told, end_ends}
use Rattle.node.proofs.node.Node.create.Goals as goal

-- what the engine keeps of its disk, a refusal does
pub returns-in-Err-clause-kept : goal.returns-in-Err-clause-kept
returns-in-Err-clause-kept g c =
    kept_as g.D.Disk (device_told c.in-Err.e c.from.result c.from.ensures) (λ a b kept. kept)
    c.in-Err.ensures.kept

-- an end of the engine is no want of a creation, and no old format
pub returns-in-Err-clause-causes : goal.returns-in-Err-clause-causes
returns-in-Err-clause-causes g c =
    subst EndsCreated (sym c.from.ensures) (end_ends c.in-Err.e c.in-Err.ensures.begun)
