use Rattle.version_edits.proofs.EditLengths.{fit_is_short}
use Rattle.version_edits.proofs.laws.fit_edits_are_short.Goals as goal

pub returns : goal.returns
returns c = fit_is_short
