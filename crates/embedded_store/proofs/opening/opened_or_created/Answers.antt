use Rattle.std.proofs.Common.{inl, inr, subst}
use Rattle.disk.specs.{contents}
use Rattle.engine.specs.EngineError.{EngineError}
use Rattle.disk.specs.KeepingLemmas.{kept_as, kept_behind}
use Rattle.engine.specs.{ExplainsRefusal}
use Rattle.embedded_store.proofs.Openings.{free_opens, free_still, own_fresh, own_kept, own_opens}
use Rattle.embedded_store.proofs.Openings.{own_still, refused_opens, refused_still}
use Rattle.embedded_store.proofs.Refusals.{not_external, opening_refuses, store_told}
use Rattle.embedded_store.proofs.opening.opened_or_created.Goals as goal

-- the store of the engine that was opened
pub returns-in-Ok-clause-kept : goal.returns-in-Ok-clause-kept
returns-in-Ok-clause-kept g c =
    own_kept g.D.Disk c.args.disk c.in-Ok.engine c.own.result c.in-Ok.ensures.kept
    (λ fails. absurd fails) c.own.ensures

pub returns-in-Ok-clause-opens : goal.returns-in-Ok-clause-opens
returns-in-Ok-clause-opens g c = λ honest.
    let opens = c.in-Ok.ensures.told honest in
    own_opens g.D.Disk c.version_is_one.ensures.one c.args.disk c.in-Ok.engine c.own.result
    (λ facts list files. (c.in-Ok.ensures.opened facts list honest).whole files)
    (λ facts list files. (c.in-Ok.ensures.opened facts list honest).meant files)
    opens (c.in-Ok.ensures.alike honest) c.in-Ok.ensures.fresh.swept
    (c.in-Ok.ensures.kept.honest.1 honest) (c.version_is_one.ensures.created _ _ opens.manifest)
    (λ facts list facts' list'. c.in-Ok.ensures.any_moment facts list facts' list' honest)
    c.own.ensures

pub returns-in-Ok-clause-fresh : goal.returns-in-Ok-clause-fresh
returns-in-Ok-clause-fresh g c =
    own_fresh g.D.Disk c.args.limits.now c.in-Ok.engine c.own.result c.in-Ok.ensures.fresh
    c.own.ensures

pub returns-in-Ok-clause-still : goal.returns-in-Ok-clause-still
returns-in-Ok-clause-still g c =
    own_still g.D.Disk c.args.disk c.in-Ok.engine c.own.result c.in-Ok.ensures.told
    c.in-Ok.ensures.still c.own.ensures

-- a creation, if the disk is free
pub returns-in-NotCreated-clause-kept : goal.returns-in-NotCreated-clause-kept
returns-in-NotCreated-clause-kept g c =
    kept_behind g.D.Disk (λ a b d same owned. tt) c.in-Err.ensures.kept
    (λ fails. not_external c.in-Err.e c.in-NotCreated.is (inl fails))
    c.created_if_free.ensures.kept

pub returns-in-NotCreated-clause-still : goal.returns-in-NotCreated-clause-still
returns-in-NotCreated-clause-still g c =
    free_still g.D.Disk c.version_is_one.ensures.created c.args.disk c.in-Err.disk c.args.is_free
    c.created_if_free.result c.requires
    (λ honest. subst
    (λ (e : EngineError). ExplainsRefusal e (contents (g.D.Disk.state c.args.disk)))
    c.in-NotCreated.is (c.in-Err.ensures.told honest))
    c.in-Err.ensures.kept.honest.1
    (c.in-Err.ensures.still.shut (inr (λ why. not_external c.in-Err.e c.in-NotCreated.is why)))
    c.in-Err.ensures.still c.created_if_free.ensures.created c.created_if_free.ensures.refused

pub returns-in-NotCreated-clause-opens : goal.returns-in-NotCreated-clause-opens
returns-in-NotCreated-clause-opens g c = λ honest.
    let left = contents (g.D.Disk.state c.args.disk) in
    let none = subst (λ (e : EngineError). ExplainsRefusal e left) c.in-NotCreated.is
    (c.in-Err.ensures.told honest) in
    free_opens g.D.Disk c.args.disk c.in-Err.disk c.args.is_free c.in-Err.e
    c.created_if_free.result c.in-NotCreated.is (c.requires honest)
    (λ facts list files. (c.in-Err.ensures.opened facts list honest).whole files)
    none c.version_is_one.ensures.lawful c.version_is_one.ensures.created
    c.version_is_one.ensures.old c.reads_are_outcomes.ensures
    (λ facts list facts' list'. c.in-Err.ensures.any_moment facts list facts' list' honest)
    (c.created_if_free.ensures.created (c.in-Err.ensures.kept.honest.1 honest))
    c.created_if_free.ensures.refused

-- the engine's refusal
pub returns-in_default : goal.returns-in_default
returns-in_default g c = record {
  kept = kept_as g.D.Disk (store_told c.in-Err.e c.from.result c.from.ensures) (λ a b owned. tt)
      c.in-Err.ensures.kept;
  opens = λ honest.
      refused_opens g.D.Disk c.version_is_one.ensures.old c.args.disk c.in-Err.disk
      (contents (g.D.Disk.state c.args.disk)) c.in-Err.e c.from.result c.from.ensures
      (λ facts list files. (c.in-Err.ensures.opened facts list honest).whole files)
      (c.in-Err.ensures.told honest) (λ same only. c.in_default.not-NotCreated same)
      (λ facts list facts' list'. c.in-Err.ensures.any_moment facts list facts' list' honest);
  still = refused_still g.D.Disk c.args.disk c.in-Err.disk c.in-Err.e c.from.result c.from.ensures
      c.in-Err.ensures.still;
  fresh = opening_refuses c.in-Err.e c.from.result c.from.ensures c.in-Err.ensures.fresh;
}
