use Rattle.kv_types.proofs.MarkLaws as laws
use Rattle.kv_types.proofs.laws.views_are_marks.Goals as goal

pub returns : goal.returns
returns c = laws.views_are_marks
