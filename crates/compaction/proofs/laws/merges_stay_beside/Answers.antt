use Rattle.compaction.proofs.Lasting.{merges_beside}
use Rattle.compaction.proofs.laws.merges_stay_beside.Goals as goal

pub returns : goal.returns
returns g c = merges_beside _ _
