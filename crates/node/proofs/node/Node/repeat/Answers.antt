use Rattle.std.proofs.Common.{ℕ, List, [], refl}
use Rattle.chain_model.specs.Rules.{repeat}
use Rattle.chain_core.specs.declared.Done.TheVariants as done
use Rattle.chain_core.specs.{AreFrames, committed_responses}
use Rattle.node.proofs.Counts.{empty_batch, repeat_commits}
use Rattle.node.proofs.Outputs.{tells_rule}
use Rattle.node.proofs.SnapshotSteps.{snapshots_changed, stopped_for_memory}
use Rattle.node.proofs.node.Node.repeat.Goals as goal

-- memory ran out, and nothing has changed
pub returns-in_err-due-clause-followed : goal.returns-in_err-due-clause-followed
returns-in_err-due-clause-followed g c =
    stopped_for_memory g.D.Disk c.args.self.now _ refl _ c.from_residual.result
    (λ x n. repeat n c.args.request c.args.number) refl c.from_residual.ensures.1

-- the request is answered, or is pending in the state; in the store nothing has changed
pub returns-clause-followed : goal.returns-clause-followed
returns-clause-followed g c =
    let may = c.requires.may in
    let d = done.Repeated c.args.request c.args.number in
    let due = c.in_ok-due.due in
    let none : AreFrames c.new.result [] = rw c.new.ensures refl in
    snapshots_changed g.D.Disk c.args.self.now _ refl _ c.map_err.result c.steps_leave.ensures d
    (λ (l : List ℕ). l) (committed_responses due) may
    (record {
      list = λ n. refl;
      snapshots = λ n. refl;
      committed = λ x n. repeat_commits n c.args.request c.args.number;
      config = record { epoch = λ n. refl; ids = λ n. refl };
    })
    c.in_ok-due.ensures.after c.in_ok-due.ensures.same may.works refl (λ list holds. holds)
    c.output_of.result
    (λ x n input is replied.
    tells_rule x n input empty_batch d (repeat n c.args.request c.args.number) due []
    c.output_of.result (c.steps_leave.ensures x n empty_batch d) replied refl
    (rw (← c.deref.ensures) (c.output_of.ensures (repeat n c.args.request c.args.number).node [] is
    none)))
    c.map_err.ensures.cases
