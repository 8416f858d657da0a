use Rattle.compaction.proofs.Fits as edits
use Rattle.compaction.proofs.laws.merge_edits_fit.Goals as goal

pub returns : goal.returns
returns c = edits.merge_edits_fit c.merges_keep.ensures.views
