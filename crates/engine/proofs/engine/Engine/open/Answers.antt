use Rattle.std.proofs.Common.{arith}
use Rattle.std.proofs.lemmas.Grind.{common_steps}
use Rattle.std.proofs.Common.{◌∙◌, Err, ap, refl, subst, sym}
use Rattle.std.proofs.lemmas.Result.{err_from_is_err_and}
use Rattle.disk.specs.{contents, seen}
use Rattle.manifest.specs.{ManifestRepresents}
use Rattle.store_files.specs.OpenFiles.{OpeningRefusal, known_version}
use Rattle.store_files.specs.StoreFiles.{FilesRepresent, IsOneOf, StillLeavesOneOf, WereMeant}
use Rattle.store_files.specs.StoreFiles.{WereOneOf}
use Rattle.disk.specs.KeepingLemmas.{answered, neither}
use Rattle.engine.proofs.Engines.{explains, holds_of, leaves_since_same, meant_of, reads_of}
use Rattle.engine.proofs.Engines.{still_refused}
use Rattle.engine.proofs.Openings.{leaves_refused, leaves_same}
use Rattle.engine.proofs.Results.{not_true}
use Rattle.engine.proofs.Unchanged.{owned_keeps}
use Rattle.engine.proofs.engine.Engine.open.Goals as goal

-- there was no memory for the cache
pub returns-in_err-files-clause-any_moment : goal.returns-in_err-files-clause-any_moment
returns-in_err-files-clause-any_moment g c = λ facts list facts' list' honest.
    let p = err_from_is_err_and c.from_residual.result c.from_residual.ensures.1 in
    record {
      whole = still_refused g.D.Disk (IsOneOf facts list facts' list') c.args.disk
          c.from_residual.result p.0 c.in_err-files.field-0.0 p.1 p.2
          c.in_err-files.ensures.refused.1;
      meant = still_refused g.D.Disk (WereOneOf facts list facts' list') c.args.disk
          c.from_residual.result p.0 c.in_err-files.field-0.0 p.1 p.2
          c.in_err-files.ensures.refused.1;
    }

-- what the files represent is held, and what they were meant to represent
pub returns-in-Ok-clause-opened : goal.returns-in-Ok-clause-opened
returns-in-Ok-clause-opened g c = λ facts list honest.
    let laws = c.held_files_are_left.ensures in
    let same = sym c.in_ok-files.ensures.files in
    let honest' = subst g.D.Disk.is_honest same honest in
    let opens = c.in-Ok.ensures.opens.opened facts list honest' in
    let now = c.open.ensures.opens.kept.honest.1 honest' in
    record {
      whole = λ represents.
          let opened = opens.whole (subst
          (λ d. FilesRepresent facts list (contents (g.D.Disk.state d))) same represents) in
          record {
            facts = opened.0;
            holds = holds_of g.D.Disk laws _ list (reads_of g.D.Disk laws _ list now not_true
                (record { held = opened.1; merges = tt }));
          };
      meant = λ were.
          let opened = opens.meant (subst
          (λ d. WereMeant facts list (contents (g.D.Disk.state d))) same were) in
          record {
            facts = opened.0;
            meant = meant_of g.D.Disk laws _ list now not_true
                (record { was = opened.1; merges = tt });
          };
    }

-- it knows the floor, and no file is left that its version does not name
pub returns-in-Ok-clause-fresh : goal.returns-in-Ok-clause-fresh
returns-in-Ok-clause-fresh g c = record {
  works = not_true;
  committed = c.floor-committed.ensures;
  limits = refl;
  snapshots = c.new.ensures;
  swept = λ honest. (c.in-Ok.ensures.swept (c.open.ensures.opens.kept.honest.0 honest)).alone;
  rests = record { none = refl; turns = c.in_ok-files.ensures.turns };
}

-- that is the version of the slots, and the files that it names read as before
pub returns-in-Ok-clause-alike : goal.returns-in-Ok-clause-alike
returns-in-Ok-clause-alike g c = λ honest.
    let same = c.in_ok-files.ensures.files in
    let honest' = subst g.D.Disk.is_honest (sym same) honest in
    record {
      version = subst (λ d. ManifestRepresents (known_version c.in-Ok.store)
          (contents (g.D.Disk.state d))) same (c.in-Ok.ensures.opens.told honest').version;
      alike = λ file has.
          (c.in-Ok.ensures.swept honest').alike file has
          ∙ ap (λ d. seen (g.D.Disk.state d file)) same;
    }

-- each moment leaves files of the store
pub returns-in-Ok-clause-any_moment : goal.returns-in-Ok-clause-any_moment
returns-in-Ok-clause-any_moment g c = λ facts list facts' list' honest.
    let is = c.in_ok-files.ensures.files in
    let honest' = subst g.D.Disk.is_honest (sym is) honest in
    let leaves = c.open.ensures.any_moment facts list facts' list' honest' in
    leaves_since_same g.D.Disk facts list facts' list' is leaves.whole leaves.meant

-- also of a refused opening
pub returns-in-Err-clause-any_moment : goal.returns-in-Err-clause-any_moment
returns-in-Err-clause-any_moment g c = λ facts list facts' list' honest.
    let is = c.in_ok-files.ensures.files in
    let honest' = subst g.D.Disk.is_honest (sym is) honest in
    let leaves = c.in-Err.ensures.any_moment facts list facts' list' honest' in
    subst (λ d. StillLeavesOneOf g.D.Disk c.args.disk d facts list facts' list')
    (sym c.into_disk.ensures)
    (leaves_since_same g.D.Disk facts list facts' list' is leaves.whole leaves.meant)

-- what the store's files leave, the engine does
pub returns-in_err-files-clause-still : goal.returns-in_err-files-clause-still
returns-in_err-files-clause-still g c =
    let p = err_from_is_err_and c.from_residual.result c.from_residual.ensures.1 in
    leaves_refused g.D.Disk c.args.disk c.from_residual.result p.0 c.in_err-files.field-0.0 p.1 p.2
    c.in_err-files.ensures.refused.1

pub returns-in-Ok-clause-still : goal.returns-in-Ok-clause-still
returns-in-Ok-clause-still g c =
    leaves_same g.D.Disk c.in_ok-files.ensures.files refl (λ no. absurd no)
    c.in-Ok.ensures.still.shut c.in-Ok.ensures.still.named

pub returns-in-Err-clause-still : goal.returns-in-Err-clause-still
returns-in-Err-clause-still g c =
    leaves_same g.D.Disk c.in_ok-files.ensures.files (sym c.into_disk.ensures)
    (λ other. other) c.in-Err.ensures.still.shut c.in-Err.ensures.still.named

-- a refusal says what is wrong
pub returns-in-Err-clause-opened : goal.returns-in-Err-clause-opened
returns-in-Err-clause-opened g c = λ facts list honest.
    let same = sym c.in_ok-files.ensures.files in
    record {
      whole = λ represents.
          (c.in-Err.ensures.opens.opened facts list (subst g.D.Disk.is_honest same honest)).whole
          (subst (λ d. FilesRepresent facts list (contents (g.D.Disk.state d))) same represents);
      meant = λ were. tt;
    }

pub returns-in-Err-clause-told : goal.returns-in-Err-clause-told
returns-in-Err-clause-told g c = λ honest.
    let is = c.in_ok-files.ensures.files in
    let honest' = subst g.D.Disk.is_honest (sym is) honest in
    explains c.in-Err.e (contents (g.D.Disk.state c.args.disk))
    (subst (λ d. OpeningRefusal c.in-Err.e (contents (g.D.Disk.state d))) is
    (c.in-Err.ensures.opens.told honest'))
    (λ facts list represents. (c.in-Err.ensures.opens.opened facts list honest').whole
    (subst (λ d. FilesRepresent facts list (contents (g.D.Disk.state d))) (sym is) represents))

-- the disk is the device that it was
pub returns-in-Ok-clause-kept : goal.returns-in-Ok-clause-kept
returns-in-Ok-clause-kept g c =
    owned_keeps g.D.Disk c.args.disk _ _ c.open.new.disk c.in_ok-files.ensures.files refl
    (neither (answered c.open.result c.in-Ok.is) (λ no. no)) c.open.ensures.opens.kept

pub returns-in-Err-clause-kept : goal.returns-in-Err-clause-kept
returns-in-Err-clause-kept g c =
    owned_keeps g.D.Disk c.args.disk _ _ c.open.new.disk c.in_ok-files.ensures.files
    c.into_disk.ensures (
      λ fails. let is = sym c.in-Err.is ∙ fails in cc,
      λ is. c.in-Err.is ∙ ap (λ e. Err e) is,
    ) c.open.ensures.opens.kept

pub returns-in_err-files-clause-opened : goal.returns-in_err-files-clause-opened
returns-in_err-files-clause-opened g c = grind (arith, common_steps)

pub returns-in_err-files-clause-told : goal.returns-in_err-files-clause-told
returns-in_err-files-clause-told g c = grind (arith, common_steps)

pub returns-in_err-files-clause-fresh : goal.returns-in_err-files-clause-fresh
returns-in_err-files-clause-fresh g c = grind (arith, common_steps)

pub returns-in_err-files-clause-alike : goal.returns-in_err-files-clause-alike
returns-in_err-files-clause-alike g c = grind (arith, common_steps)

pub returns-in-Err-clause-fresh : goal.returns-in-Err-clause-fresh
returns-in-Err-clause-fresh g c = grind (arith, common_steps)

pub returns-in-Err-clause-alike : goal.returns-in-Err-clause-alike
returns-in-Err-clause-alike g c = grind (arith, common_steps)
