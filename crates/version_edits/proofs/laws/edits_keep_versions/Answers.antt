use Rattle.version_edits.proofs.Lawful.{version_fit}
use Rattle.version_edits.proofs.laws.edits_keep_versions.Goals as goal

pub returns : goal.returns
returns c = λ version change is fit may. version_fit version change is.lines fit may
