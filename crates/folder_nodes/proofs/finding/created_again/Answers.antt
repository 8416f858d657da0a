-- The files are looked at; then the node is created, or refused.
use Rattle.disk.specs.KeepingLemmas.{kept_as, neither}
use Rattle.folder_nodes.proofs.FindingLemmas.{answers, device_listed, kept_on, not_device}
use Rattle.folder_nodes.proofs.finding.created_again.Goals as goal

pub returns-in-Ok-true-clause-kept : goal.returns-in-Ok-true-clause-kept
returns-in-Ok-true-clause-kept g c =
    kept_on g.D.Disk c.created.result c.in-Ok-true.ensures.looks.kept answers
    c.created.ensures.kept

pub returns-in-Ok-false-clause-kept : goal.returns-in-Ok-false-clause-kept
returns-in-Ok-false-clause-kept g c =
    kept_as g.D.Disk (neither answers not_device) (λ a b same. tt)
    c.in-Ok-false.ensures.looks.kept

pub returns-in-Err-clause-kept : goal.returns-in-Err-clause-kept
returns-in-Err-clause-kept g c =
    kept_as g.D.Disk (device_listed c.in-Err.e c.from.result c.from.ensures) (λ a b same. tt)
    c.in-Err.ensures.looks.kept

-- where more is there, the files are only looked at
pub returns-in-Ok-true-clause-more : goal.returns-in-Ok-true-clause-more
returns-in-Ok-true-clause-more g c = λ more honest.
    absurd (more ((c.in-Ok-true.ensures.found honest).0 c.in-Ok-true.field-0-test))

pub returns-in-Ok-false-clause-more : goal.returns-in-Ok-false-clause-more
returns-in-Ok-false-clause-more g c = λ more. c.in-Ok-false.ensures.looks.still

pub returns-in-Err-clause-more : goal.returns-in-Err-clause-more
returns-in-Err-clause-more g c = λ more. c.in-Err.ensures.looks.still
