use Rattle.compaction.proofs.OutputOrder as order
use Rattle.compaction.proofs.laws.written_are_merged.Goals as goal

pub returns : goal.returns
returns c =
    order.written_are_merged c.survivors_are_left.ensures c.written_have_ranges.ensures
