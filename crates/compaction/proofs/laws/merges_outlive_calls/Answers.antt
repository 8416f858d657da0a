use Rattle.compaction.proofs.Lasting.{merge_left}
use Rattle.compaction.proofs.laws.merges_outlive_calls.Goals as goal

pub returns : goal.returns
returns g c = merge_left _ _ c.are_lawful.ensures
