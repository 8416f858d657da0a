use Rattle.std.proofs.Common.{◌≡◌, Err, ap}
use Rattle.disk.specs.declared.error.DiskError.TheVariants.{Failed}
use Rattle.disk.specs.KeepingLemmas.{kept_as, kept_behind}
use Rattle.embedded_store.proofs.Looks.{look_free, look_keeps, look_leaves_all, look_opens}
use Rattle.embedded_store.proofs.Looks.{look_refused}
use Rattle.embedded_store.proofs.Refusals.{look_external, look_refuses, look_told}
use Rattle.embedded_store.proofs.store.EmbeddedStore.over.Goals as goal

-- what the look found is so behind it
pub opened_or_created-requires : goal.opened_or_created-requires
opened_or_created-requires g c = λ honest.
    let looks = c.in-Ok.ensures.looks in
    let before = looks.kept.honest.0 honest in
    look_free g.D.Disk c.args.disk c.has_only_creation_files.new.disk c.in-Ok.is_free looks before
    (c.in-Ok.ensures.found before)

pub returns-in-Ok-clause-kept : goal.returns-in-Ok-clause-kept
returns-in-Ok-clause-kept g c =
    kept_behind g.D.Disk (λ a b c same owned. tt) c.in-Ok.ensures.looks.kept (λ fails. cc)
    c.opened_or_created.ensures.kept

pub returns-in-Ok-clause-opens : goal.returns-in-Ok-clause-opens
returns-in-Ok-clause-opens g c = λ honest.
    let looks = c.in-Ok.ensures.looks in
    look_opens g.D.Disk c.args.disk c.has_only_creation_files.new.disk c.opened_or_created.result
    looks honest (c.opened_or_created.ensures.opens (looks.kept.honest.1 honest))

pub returns-in-Ok-clause-still : goal.returns-in-Ok-clause-still
returns-in-Ok-clause-still g c =
    look_keeps g.D.Disk c.args.disk c.has_only_creation_files.new.disk c.opened_or_created.result
    c.in-Ok.ensures.looks c.opened_or_created.ensures.still

-- the look was refused
pub returns-in-Err-clause-kept : goal.returns-in-Err-clause-kept
returns-in-Err-clause-kept g c =
    let told = look_told c.in-Err.e c.from.result c.from.ensures in
    kept_as g.D.Disk (
      λ fails. told.0 (let same : c.in-Err.e ≡ Failed = cc in same),
      λ fails. ap (λ d. Err d)
          (told.1 fails),
    ) (λ a b same. tt) c.in-Err.ensures.looks.kept

pub returns-in-Err-clause-opens : goal.returns-in-Err-clause-opens
returns-in-Err-clause-opens g c = λ honest.
    look_refused g.D.Disk c.args.disk c.has_only_creation_files.new.disk c.from.result
    c.in-Err.ensures.looks honest
    (look_external c.in-Err.e c.from.result c.from.ensures (c.in-Err.ensures.found honest))

pub returns-in-Err-clause-still : goal.returns-in-Err-clause-still
returns-in-Err-clause-still g c =
    look_leaves_all g.D.Disk c.args.disk c.has_only_creation_files.new.disk c.from.result
    c.in-Err.ensures.looks

pub returns-in-Err-clause-fresh : goal.returns-in-Err-clause-fresh
returns-in-Err-clause-fresh g c = look_refuses c.in-Err.e c.from.result c.from.ensures
