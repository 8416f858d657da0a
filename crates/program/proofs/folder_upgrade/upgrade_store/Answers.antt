use Rattle.std.proofs.Common.{inl, inr, refl}
use Rattle.std.proofs.lemmas.Result.{err_from_is_err_and}
use Rattle.disk.specs.KeepingLemmas.{answered, kept_as, neither}
use Rattle.program.proofs.FolderUpgrades.{told_so}
use Rattle.program.proofs.folder_upgrade.upgrade_store.Goals as goal

-- the store was not upgraded
pub returns-in_err-found-clause-kept : goal.returns-in_err-found-clause-kept
returns-in_err-found-clause-kept g c =
    kept_as g.D.Disk (told_so c.upgrade.result c.in_err-found.field-0.0 c.from_residual.result
    c.in_err-found.was c.from_residual.ensures.1) (λ a b same. same) c.upgrade.ensures.kept

pub returns-in_err-found-clause-said : goal.returns-in_err-found-clause-said
returns-in_err-found-clause-said g c =
    let p = err_from_is_err_and c.from_residual.result c.from_residual.ensures.1 in
    rw (p.1, p.2) (inl (
      c.in_err-found.field-0.0,
      refl,
      (c.in_err-found.ensures.causes, c.in_err-found.ensures.told),
      refl,
    ))

-- it was told what it was
pub returns-in-Ok-clause-kept : goal.returns-in-Ok-clause-kept
returns-in-Ok-clause-kept g c =
    kept_as g.D.Disk (neither (answered c.upgrade.result c.in_ok-found.was) (λ fails. absurd cc))
    (λ a b same. same) c.upgrade.ensures.kept

pub returns-in-Ok-clause-said : goal.returns-in-Ok-clause-said
returns-in-Ok-clause-said g c = (
  c.in_ok-found.found,
  c.in_ok-found.ensures.told,
  rw (c.as_bytes.ensures.value, c.found_line.ensures) at c.in-Ok.ensures.whole,
)

-- or a beginning of that
pub returns-in-Err-clause-kept : goal.returns-in-Err-clause-kept
returns-in-Err-clause-kept g c =
    kept_as g.D.Disk (neither (answered c.upgrade.result c.in_ok-found.was) (λ fails. absurd cc))
    (λ a b same. same) c.upgrade.ensures.kept

pub returns-in-Err-clause-said : goal.returns-in-Err-clause-said
returns-in-Err-clause-said g c = inr (
  refl,
  (
    c.in_ok-found.found,
    c.in_ok-found.ensures.told,
    rw (c.as_bytes.ensures.value, c.found_line.ensures) at c.in-Err.ensures.part,
  ),
)
