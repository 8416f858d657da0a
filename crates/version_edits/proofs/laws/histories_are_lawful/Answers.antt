use Rattle.version_edits.specs.Versions.{empty}
use Rattle.version_edits.proofs.EditLaws.{all_changes}
use Rattle.version_edits.proofs.Lawful.{after_version, empty_lines}
use Rattle.version_edits.proofs.laws.histories_are_lawful.Goals as goal

pub returns : goal.returns
returns c = λ format changes h.
    after_version empty changes empty_lines h.some (all_changes format changes h.each) h.fit
