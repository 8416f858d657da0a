use Rattle.version_edits.proofs.EditLaws.{one_spelling}
use Rattle.version_edits.proofs.laws.changes_differ.Goals as goal

pub returns : goal.returns
returns c = one_spelling c.test_decides_config.ensures
