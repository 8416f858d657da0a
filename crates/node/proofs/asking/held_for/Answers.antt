use Rattle.std.proofs.Common.{◌≡◌, ◌∙◌, ap, subst, sym}
use Rattle.std.specs.Prelude.{Err, IfSome}
use Rattle.std.proofs.lemmas.Result.{err_from_is_err_and}
use Rattle.kv_types.specs.{held_as, mark_held}
use Rattle.disk.specs.{IsEnvironmental}
use Rattle.disk.specs.KeepingLemmas.{answered, neither}
use Rattle.node.specs.declared.stop.Stop.TheVariants as stop
use Rattle.node.proofs.Causes.{done_told, env_of, later_ends, mark_env, passed_ends, refuses}
use Rattle.node.proofs.Causes.{still_works, stop_passed}
use Rattle.node.proofs.Running.{read_more, unread}
use Rattle.node.proofs.asking.held_for.Goals as goal

-- the store was not asked
pub returns-in_default-clause-read : goal.returns-in_default-clause-read
returns-in_default-clause-read g c = unread g.D.Disk c.args.engine.now _ c.requires

-- the store was only read
pub returns-in_err-mark-clause-read : goal.returns-in_err-mark-clause-read
returns-in_err-mark-clause-read g c =
    let result = c.from_residual.result in
    let engine = c.args.engine.now in
    read_more g.D.Disk engine engine c.mark.new.self c.mark.result result
    (unread g.D.Disk engine c.mark.result c.requires) c.mark.ensures.reads.keeps
    c.mark.ensures.reads.told c.mark.ensures.reads.still
    (stop_passed c.mark.result c.in_err-mark.field-0.0 result c.in_err-mark.was
    c.from_residual.ensures.1) (rw (err_from_is_err_and result c.from_residual.ensures.1).1 tt)

pub returns-clause-read : goal.returns-clause-read
returns-clause-read g c =
    let engine = c.args.engine.now in
    read_more g.D.Disk engine engine c.mark.new.self c.mark.result _
    (unread g.D.Disk engine c.mark.result c.requires) c.mark.ensures.reads.keeps
    c.mark.ensures.reads.told c.mark.ensures.reads.still
    (neither (answered c.mark.result c.in_ok-mark.was) done_told)
    (λ ended. still_works c.in_ok-mark.ensures.reads.keeps.ends c.requires ended)

-- a mark that could not be had is wanted for the engine's cause
pub returns-in_err-mark-clause-held : goal.returns-in_err-mark-clause-held
returns-in_err-mark-clause-held g c = λ list holds.
    let known = c.in_err-mark.ensures in
    let e = c.in_err-mark.field-0.0 in
    refuses c.from_residual.result _ (IsEnvironmental stop.Disk stop.Memory)
    c.from_residual.ensures.1
    (env_of e (mark_env e known.told
    (λ is. known.intact list holds.reads (ap (λ d. Err d) is))
    (λ is. c.requires (known.reads.keeps.closed.0 (ap (λ d. Err d) is)))))

-- the mark is the one that the list holds for the client
pub returns-clause-held : goal.returns-clause-held
returns-clause-held g c = λ list holds.
    let known = c.in_ok-mark.ensures in (
      (known.reads.kept list).holds holds,
      subst (λ o. IfSome o (λ client. mark_held list client ≡ held_as c.in_ok-mark.field-0))
          (sym c.in-Some.is ∙ c.client.ensures) (known.found.reads list holds.reads),
    )

-- no cause is that of a disk without a node
pub returns-in_err-mark-clause-causes : goal.returns-in_err-mark-clause-causes
returns-in_err-mark-clause-causes g c =
    passed_ends c.from_residual.result c.from_residual.ensures.1
    (later_ends c.in_err-mark.field-0.0 c.in_err-mark.ensures.told)
