use Rattle.std.proofs.Common.{ℕ, Ok, ap, refl, subst, sym}
use Rattle.std.proofs.lemmas.Result.{err_from_is_err_and}
use Rattle.disk.specs.{IsEnvironmental}
use Rattle.kv_types.specs.{Edits}
use Rattle.chain_model.specs.{Answer}
use Rattle.chain_core.specs.{Decides, answer_to}
use Rattle.engine.specs.{LookUps, engine_disk}
use Rattle.node.specs.declared.node.Node.{Node}
use Rattle.node.specs.declared.stop.Stop.TheVariants as stop
use Rattle.node.specs.Outputs.{StepEnds}
use Rattle.node.proofs.Causes.{passed_ends, same_stop}
use Rattle.node.proofs.Counts.{within_count}
use Rattle.node.proofs.Ends.{ends_stopped}
use Rattle.node.proofs.Running.{ends_after_read, kept_after_read, kept_read, ready_after}
use Rattle.node.proofs.Running.{still_refines, still_runs}
use Rattle.node.proofs.node.Node.step.Goals as goal

-- the mark could not be had
pub returns-in_err-held-clause-kept : goal.returns-in_err-held-clause-kept
returns-in_err-held-clause-kept g c =
    let result = c.from_residual.result in
    kept_read g.D.Disk c.args.self.now _ c.held_for.result result c.requires
    c.held_for.ensures.read refl
    (same_stop c.held_for.result c.in_err-held.field-0.0 result c.in_err-held.was
    c.from_residual.ensures.1)
    (rw (err_from_is_err_and result c.from_residual.ensures.1).1 tt)
    (passed_ends result c.from_residual.ensures.1 c.in_err-held.ensures.causes)

pub returns-in_err-held-clause-ends : goal.returns-in_err-held-clause-ends
returns-in_err-held-clause-ends g c = λ x n r.
    let old = c.args.self.now in
    let read = c.in_err-held.ensures.read in
    let a = answer_to x n c.args.input in
    let p = err_from_is_err_and c.from_residual.result c.from_residual.ensures.1 in
    ends_stopped g.D.Disk old _ x n a _ c.from_residual.result p.0 p.1
    (subst (IsEnvironmental stop.Disk stop.Memory) (sym p.2)
    (c.in_err-held.ensures.held n.list r.store))
    (read.keeps.honest.1 r.honest)
    (still_refines g.D.Disk old (engine_disk c.held_for.new.engine) x n a.node r
    (read.still r.honest))

-- the node is ready behind the read
pub perform-requires-clause-may : goal.perform-requires-clause-may
perform-requires-clause-may g c =
    ready_after g.D.Disk c.args.self.now _ (Ok c.in_ok-held.held) c.requires
    c.in_ok-held.ensures.read.told refl c.in_ok-held.ensures.read.works

-- the mark is of a batch that the node has, so the decision can be executed
pub perform-requires-clause-room : goal.perform-requires-clause-room
perform-requires-clause-room g c =
    c.decide-decision.ensures.room
    (within_count c.in_ok-held.held c.requires.count c.in_ok-held.ensures.within)

-- and it is kept
pub returns-clause-kept : goal.returns-clause-kept
returns-clause-kept g c =
    let mid : Node g.row.D.Denot g.D.Disk =
    record c.args.self.now { engine = c.held_for.new.engine } in
    kept_after_read g.D.Disk c.args.self.now mid c.perform.new.self c.perform.result
    c.in_ok-held.ensures.read c.held_for.ensures.full.0 c.perform.ensures.kept

-- the rule that was decided is the machine's answer
pub returns-clause-ends : goal.returns-clause-ends
returns-clause-ends g c = λ x n r.
    let old = c.args.self.now in
    let mid : Node g.row.D.Denot g.D.Disk = record old { engine = c.held_for.new.engine } in
    let node = c.perform.new.self in
    let read = c.in_ok-held.ensures.read in
    let held = c.in_ok-held.ensures.held n.list r.store in
    let runs = still_runs g.D.Disk old mid x n r held.0
    (ap (λ (l : LookUps). l.facts) read.told) refl in
    let decides = subst (λ (y : ℕ). Decides y n c.args.input c.decide-decision.result) r.id
    (c.decide-decision.ensures.decides n r.core held.1) in
    let ends = subst (λ (a : Answer Edits). StepEnds g.D.Disk mid node c.perform.result x n
    c.args.input a)
    (sym decides.rule) (c.perform.ensures.ends x n c.args.input decides.read) in
    ends_after_read g.D.Disk old mid node x n (answer_to x n c.args.input) _ c.perform.result r
    read.still (ends runs)
