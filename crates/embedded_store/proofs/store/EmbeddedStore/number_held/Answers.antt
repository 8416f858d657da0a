use Rattle.std.proofs.Common.{Result, subst, sym}
use Rattle.std.specs.Prelude.{IsErrOf}
use Rattle.engine.specs.EngineError.{EngineError}
use Rattle.engine.specs.EngineError.TheVariants.{Damaged}
use Rattle.engine.specs.{ReadsEngine}
use Rattle.embedded_store.specs.Once.{LacksLastMark}
use Rattle.embedded_store.specs.Stores.{store_engine}
use Rattle.embedded_store.proofs.Endings.{ends_with, reads_err, reads_ok}
use Rattle.embedded_store.proofs.StoreReads.{shown_said}
use Rattle.embedded_store.proofs.store.EmbeddedStore.number_held.Goals as goal

-- the refusal is that of the engine
pub returns-in_err-held-clause-reads : goal.returns-in_err-held-clause-reads
returns-in_err-held-clause-reads g c =
    let e = c.in_err-held.field-0.0 in
    let ends = ends_with c.from_residual.result e c.from_residual.ensures.1
    c.in_err-held.ensures.told in
    subst (λ (r : Result (Unit {0}) EngineError). ReadsEngine g.D.Disk
    (store_engine c.args.self.now) c.mark.new.self r) (sym ends)
    (reads_err e c.in_err-held.ensures.reads)

pub returns-in_err-held-clause-damaged : goal.returns-in_err-held-clause-damaged
returns-in_err-held-clause-damaged g c = λ list shown damaged.
    let e = c.in_err-held.field-0.0 in
    let ends = ends_with c.from_residual.result e c.from_residual.ensures.1
    c.in_err-held.ensures.told in
    let is : IsErrOf c.mark.result Damaged = cc in
    shown_said c.args.self.now list (λ _. IsErrOf c.mark.result Damaged →
    LacksLastMark g.D.Disk c.args.self.now c.args.mark) c.mark.ensures.damaged shown is

-- the engine was read
pub returns-in-Some-clause-reads : goal.returns-in-Some-clause-reads
returns-in-Some-clause-reads g c = reads_ok c.in_ok-held.ensures.reads

pub returns-in-Some-2-clause-reads : goal.returns-in-Some-2-clause-reads
returns-in-Some-2-clause-reads g c = reads_ok c.in_ok-held.ensures.reads

pub returns-in_default-clause-reads : goal.returns-in_default-clause-reads
returns-in_default-clause-reads g c = reads_ok c.in_ok-held.ensures.reads
