use Rattle.std.proofs.Common.{◌≡◌, ℕ, List, [], arith, refl}
use Rattle.std.proofs.Common.{Bool, nat_lt, if◌then◌else◌, ap, subst, sym, ◌∙◌, inr}
use Rattle.std.proofs.lemmas.Result.{err_from_is_err_and}
use Rattle.kv_types.specs.{Edits}
use Rattle.chain_model.specs.{Message, ack, on_ack}
use Rattle.chain_core.specs.declared.Done.TheVariants as done
use Rattle.chain_core.specs as core
use Rattle.chain_core.specs.{AreFrames, committed_responses, done_of}
use Rattle.engine.specs.{LookUps}
use Rattle.node.specs.Outputs.{AlwaysRefines}
use Rattle.node.specs.Steps.{disk_of}
use Rattle.node.proofs.Outputs.{greater}
use Rattle.node.proofs.Causes.{memory_ends, memory_told, on_ok, only_memory, only_memory_ends}
use Rattle.node.proofs.Counts.{counts_same, epoch_left, ids_left, keeps_floor, keeps_kept}
use Rattle.node.proofs.Counts.{empty_batch}
use Rattle.node.proofs.Counts.{same_facts, snapshots_left}
use Rattle.node.proofs.Ends.{ends_rule, ends_stopped}
use Rattle.node.proofs.Running.{at_rest, goes_on, keeps_same}
use Rattle.node.proofs.node.Node.on_ack.Goals as goal

-- no fewer batches are committed, and no more than there are
pub set_committed-requires : goal.set_committed-requires
set_committed-requires g c =
    let may = c.requires.may in
    let old = c.args.self.now.core in
    let count = counts_same c.steps_leave.ensures old c.after.new.self
    (done.Acked c.args.committed c.args.have) (committed_responses c.in_ok-due.due)
    (λ n. refl) c.in_ok-due.ensures.after in
    let ordered = c.committed-2.ensures.ordered.committed in (
      omega (arith, may.committed, c.in_ok-due.ensures.rises, c.committed-2.ensures.same),
      omega (arith, ordered, c.committed-2.ensures.same, count, may.count),
    )

-- nothing has changed
pub returns-in_err-due-clause-followed : goal.returns-in_err-due-clause-followed
returns-in_err-due-clause-followed g c =
    let result = c.from_residual.result in
    let err = c.from_residual.ensures.1 in
    record {
      kept = record {
        disk = keeps_same g.D.Disk _ _ result refl (memory_told result err);
        works = rw (err_from_is_err_and result err).1 tt;
        limits = refl;
        causes = memory_ends result err;
      };
      ends = λ x n input any r.
          let a = on_ack x n c.args.committed c.args.have in
          let p = err_from_is_err_and c.from_residual.result c.from_residual.ensures.1 in
          let old = c.args.self.now in
          ends_stopped g.D.Disk old _ x n a _ c.from_residual.result p.0 p.1 (inr p.2) r.honest
          (at_rest g.D.Disk old x n a.node r);
    }

-- the successor's report is passed on where more is committed
pub returns-clause-followed : goal.returns-clause-followed
returns-clause-followed g c = record {
  kept = record {
    disk = keeps_same g.D.Disk _ _ c.map_err.result c.set_committed.ensures.disk
        (only_memory c.output_of.result c.map_err.result c.map_err.ensures.cases);
    works =
        let may = c.requires.may in
        let old = c.args.self.now.core in
        let d = done.Acked c.args.committed c.args.have in
        let replies = committed_responses c.in_ok-due.due in
        let law = c.steps_leave.ensures in
        let new = c.after.new.self in
        let after = c.in_ok-due.ensures.after in
        let count = counts_same law old new d replies (λ n. refl) after in
        let floor = keeps_floor law old new d replies after in
        let kept = keeps_kept law old new d replies after in
        let snapshots = snapshots_left law old new d replies after in
        let told = c.set_committed.ensures.told in
        on_ok c.map_err.result (record {
          works = λ ended. may.works (c.set_committed.ensures.stays.ended.0 ended);
          id = c.in_ok-due.ensures.same ∙ may.id ∙ sym (ap (λ (l : LookUps). l.facts.id) told);
          epoch = epoch_left law old new d replies after ∙ may.epoch
              ∙ sym (ap (λ (l : LookUps). l.facts.epoch) told);
          ids = ids_left law old new d replies after ∙ may.ids
              ∙ sym (ap (λ (l : LookUps). l.facts.ids) told);
          count = count ∙ may.count ∙ sym (ap (λ (l : LookUps). l.count) told);
          floor = floor ∙ may.floor ∙ sym (ap (λ (l : LookUps). l.facts.floor) told);
          kept = kept ∙ may.kept ∙ sym (ap (λ (l : LookUps). l.facts.kept) told);
          committed = sym c.committed-2.ensures.same ∙ sym (ap (λ (l : LookUps). l.committed) told);
          snapshots = snapshots ∙ may.snapshots ∙ sym (ap (λ (l : LookUps). l.snapshots) told);
        });
    limits = ap (λ (l : LookUps). l.limits) c.set_committed.ensures.told;
    causes = only_memory_ends c.output_of.result c.map_err.result c.map_err.ensures.cases;
  };
  ends = λ x n input any r.
      let old = c.args.self.now in
      let d = done.Acked c.args.committed c.args.have in
      let a = on_ack x n c.args.committed c.args.have in
      let leaves = c.steps_leave.ensures x n empty_batch d in
      let due = c.in_ok-due.due in
      let follows = subst (λ (y : ℕ).
      core.CoreFollows c.after.new.self (done_of y n empty_batch d) (committed_responses due)) r.id
      (c.in_ok-due.ensures.after n empty_batch r.core) in
      let runs = goes_on g.D.Disk old _ x n empty_batch d a leaves r
      (c.set_committed.ensures.stays.holds n.list r.store)
      (ap (λ (l : LookUps). l.facts) c.set_committed.ensures.told ∙ r.facts
      ∙ sym (same_facts x n empty_batch d a (record { epoch = λ m. refl; ids = λ m. refl }) leaves))
      follows.is
      (c.in_ok-due.ensures.same ∙ r.id) in
      let told : Bool → List (Message Edits) = λ acks. if acks then ack x a.node else [] in
      let sent : ℕ → List (Message Edits) =
      λ y. if c.gt-grows.result then ack y a.node else [] in
      let none : AreFrames c.new.result [] = rw c.new.ensures refl in
      let grows : c.gt-grows.result ≡ nat_lt n.committed c.args.committed =
      c.gt-grows.ensures ∙ greater c.args.committed c.committed.result
      ∙ ap (λ k. nat_lt k c.args.committed) (c.committed.ensures.same ∙ sym r.core.committed) in
      let moments = subst (λ disk. AlwaysRefines g.D.Disk (disk_of old) disk x n a.node)
      (sym c.set_committed.ensures.disk) (at_rest g.D.Disk old x n a.node r) in
      ends_rule g.D.Disk old _ x n input empty_batch d a due c.deref.result.now sent
      c.output_of.result
      c.map_err.result moments leaves runs follows.replied c.deref.ensures (ap told grows)
      (c.output_of.ensures a.node [] runs.core none) c.map_err.ensures.cases;
}
