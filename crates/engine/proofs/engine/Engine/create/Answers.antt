use Rattle.std.proofs.Common.{arith}
use Rattle.std.proofs.lemmas.Grind.{common_steps}
use Rattle.std.proofs.Common.{◌∙◌, [], Err, ap, refl, subst, sym}
use Rattle.disk.specs.KeepingLemmas.{answered, neither}
use Rattle.engine.proofs.Engines.{holds_of, reads_of, told_of}
use Rattle.engine.proofs.Results.{not_true}
use Rattle.engine.proofs.Unchanged.{owned_keeps}
use Rattle.engine.proofs.engine.Engine.create.Goals as goal

-- the store has no batch
pub returns-in-Ok-clause-created : goal.returns-in-Ok-clause-created
returns-in-Ok-clause-created g c = λ honest.
    let laws = c.held_files_are_left.ensures in
    let honest' = subst g.D.Disk.is_honest (sym c.in_ok-files.ensures.files) honest in
    holds_of g.D.Disk laws _ []
    (reads_of g.D.Disk laws _ [] (c.create.ensures.kept.honest.1 honest') not_true
    (record { held = c.in-Ok.ensures.created honest'; merges = tt }))

-- nor does it tell any
pub returns-in-Ok-clause-begun : goal.returns-in-Ok-clause-begun
returns-in-Ok-clause-begun g c = record {
  works = not_true;
  told = told_of c.in-Ok.ensures.begun.facts c.in-Ok.ensures.begun.none c.new.ensures;
  files = λ honest. c.in-Ok.ensures.first (c.create.ensures.kept.honest.0 honest);
  rests = record { none = refl; turns = c.in_ok-files.ensures.turns };
}

-- the disk is the device that it was
pub returns-in-Ok-clause-kept : goal.returns-in-Ok-clause-kept
returns-in-Ok-clause-kept g c =
    owned_keeps g.D.Disk c.args.disk _ _ c.create.new.disk c.in_ok-files.ensures.files refl
    (neither (answered c.create.result c.in-Ok.is) (λ no. no)) c.create.ensures.kept

pub returns-in-Err-clause-kept : goal.returns-in-Err-clause-kept
returns-in-Err-clause-kept g c =
    owned_keeps g.D.Disk c.args.disk _ _ c.create.new.disk c.in_ok-files.ensures.files
    c.into_disk.ensures (
      λ fails. let is = sym c.in-Err.is ∙ fails in cc,
      λ is. c.in-Err.is ∙ ap (λ e. Err e) is,
    ) c.create.ensures.kept

pub returns-in_err-files-clause-created : goal.returns-in_err-files-clause-created
returns-in_err-files-clause-created g c = grind (arith, common_steps)

pub returns-in_err-files-clause-begun : goal.returns-in_err-files-clause-begun
returns-in_err-files-clause-begun g c = grind (arith, common_steps)

pub returns-in-Err-clause-created : goal.returns-in-Err-clause-created
returns-in-Err-clause-created g c = grind (arith, common_steps)

pub returns-in-Err-clause-begun : goal.returns-in-Err-clause-begun
returns-in-Err-clause-begun g c = grind (arith, common_steps)
