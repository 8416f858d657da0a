use Rattle.disk.specs.declared.error.DiskError.TheVariants.{Failed, Memory}
use Rattle.disk.specs.{IsEnvironmental}
use Rattle.manifest.proofs.Looks.{found_more, looks_as, looks_behind, looks_once}
use Rattle.manifest.proofs.Looks.{neither, refuses, same_error}
use Rattle.manifest.proofs.creations.has_only_creation_files.Goals as goal

-- the files were not listed
pub returns-in_err-files-clause-looks : goal.returns-in_err-files-clause-looks
returns-in_err-files-clause-looks g c =
    looks_as g.D.Disk _ _ (same_error c.files.result c.in_err-files.field-0.0 Failed
    c.from_residual.result c.in_err-files.was c.from_residual.ensures.1)
    (looks_once g.D.Disk c.args.disk.now c.files.new.self c.files.ensures.kept.disk
    (λ honest. (c.files.ensures.passes honest).moment))

pub returns-in_err-files-clause-found : goal.returns-in_err-files-clause-found
returns-in_err-files-clause-found g c = λ honest.
    refuses c.from_residual.result _ (IsEnvironmental Failed Memory) c.from_residual.ensures.1
    (c.in_err-files.ensures.files honest)

-- they are all of a creation
pub returns-clause-looks : goal.returns-clause-looks
returns-clause-looks g c =
    looks_behind g.D.Disk c.args.disk.now c.files.new.self c.has_no_record.new.disk
    (looks_once g.D.Disk c.args.disk.now c.files.new.self c.in_ok-files.ensures.kept.disk
    (λ honest. (c.in_ok-files.ensures.passes honest).moment)) (λ fails. cc)
    c.has_no_record.ensures.looks

-- there are others
pub returns-then-not-are_creation_files-clause-looks :
    goal.returns-then-not-are_creation_files-clause-looks
returns-then-not-are_creation_files-clause-looks g c =
    looks_as g.D.Disk _ _ (neither (λ fails. cc) (λ fails. cc))
    (looks_once g.D.Disk c.args.disk.now c.files.new.self c.in_ok-files.ensures.kept.disk
    (λ honest. (c.in_ok-files.ensures.passes honest).moment))

pub returns-then-not-are_creation_files-clause-found :
    goal.returns-then-not-are_creation_files-clause-found
returns-then-not-are_creation_files-clause-found g c = λ honest.
    found_more (g.D.Disk.state c.args.disk.now) c.in_ok-files.files.items c.deref.result.now
    (c.in_ok-files.ensures.files honest) c.deref.ensures.value
    c.if-not-are_creation_files.ensures
