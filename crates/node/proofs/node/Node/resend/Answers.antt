use Rattle.std.proofs.Common.{ℕ, ap, refl, sym, subst}
use Rattle.disk.specs.{IsEnvironmental}
use Rattle.std.specs.Prelude.{IfOk}
use Rattle.std.proofs.lemmas.Result.{err_from_is_err_and}
use Rattle.chain_model.specs.{resend}
use Rattle.engine.specs.{LookUps, engine_disk}
use Rattle.node.specs.declared.stop.Stop.TheVariants as stop
use Rattle.node.specs.Outputs.{OutputRefines}
use Rattle.node.proofs.Ends.{ends, ends_stopped}
use Rattle.disk.specs.KeepingLemmas.{answered, neither}
use Rattle.node.proofs.Causes.{on_ok, only_memory, only_memory_ends, passed_ends, same_stop}
use Rattle.node.proofs.Running.{kept_read, still_refines, still_runs}
use Rattle.node.proofs.node.Node.resend.Goals as goal

-- a batch could not be had
pub returns-in_err-sent : goal.returns-in_err-sent
returns-in_err-sent g c =
    let old = c.args.self.now in
    let read = c.in_err-sent.ensures.read in
    let result = c.from_residual.result in
    let p = err_from_is_err_and result c.from_residual.ensures.1 in
    record {
      kept = kept_read g.D.Disk old _ c.resent.result result c.requires c.resent.ensures.read refl
          (same_stop c.resent.result c.in_err-sent.field-0.0 result c.in_err-sent.was
          c.from_residual.ensures.1) (rw p.1 tt)
          (passed_ends result c.from_residual.ensures.1 c.in_err-sent.ensures.causes);
      ends = λ x n input any r.
          let a = resend x n in
          ends_stopped g.D.Disk old _ x n a _ result p.0 p.1
          (subst (IsEnvironmental stop.Disk stop.Memory) (sym p.2)
          (c.in_err-sent.ensures.sent n r.core r.store))
          (read.keeps.honest.1 r.honest)
          (still_refines g.D.Disk old (engine_disk c.resent.new.engine) x n a.node r
          (read.still r.honest));
    }

-- the batches and what the node has are sent
pub returns : goal.returns
returns g c =
    let old = c.args.self.now in
    let read = c.in_ok-sent.ensures.read in
    let made = c.output_of.result in
    let result = c.map_err.result in
    let stops = c.map_err.ensures.cases in
    record {
      kept = kept_read g.D.Disk old _ c.resent.result result c.requires c.resent.ensures.read refl
          (neither (answered c.resent.result c.in_ok-sent.was)
          (only_memory made result stops)) (on_ok result read.works)
          (only_memory_ends made result stops);
      ends = λ x n input any r.
          let sent = c.in_ok-sent.ensures.sent n r.core r.store in
          let runs = still_runs g.D.Disk old _ x n r sent.0
          (ap (λ (l : LookUps). l.facts) read.told) refl in
          let tells = subst (λ (y : ℕ). IfOk made (OutputRefines input (resend y n))) r.id
          (c.output_of.ensures n _ r.core sent.1) in
          ends g.D.Disk old _ x n input (resend x n) made result
          (still_refines g.D.Disk old (engine_disk c.resent.new.engine) x n n r
          (read.still r.honest)) runs tells stops;
    }
