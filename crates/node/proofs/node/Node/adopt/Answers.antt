use Rattle.std.proofs.Common.{ℕ, List, [], ap, arith, refl, sym, subst, ◌∙◌, inr}
use Rattle.std.proofs.lemmas.Result.{err_from_is_err_and}
use Rattle.disk.specs.{IsEnvironmental}
use Rattle.kv_types.specs.{Edits}
use Rattle.chain_model.specs.{Message, ack}
use Rattle.chain_core.specs.declared.Done.TheVariants as done
use Rattle.chain_core.specs as core
use Rattle.chain_core.specs.{AreFrames, committed_responses, done_of}
use Rattle.disk.specs.KeepingLemmas.{answered, kept_as, kept_but, neither}
use Rattle.engine.specs.{LookUps, engine_disk}
use Rattle.node.specs.declared.stop.Stop.TheVariants as stop
use Rattle.node.specs.Outputs.{AlwaysRefines}
use Rattle.node.specs.Steps.{disk_of}
use Rattle.node.proofs.Adoptions.{adopted_facts, adopts, recordable}
use Rattle.node.proofs.Causes.{env_of, later_ends, memory_ends, memory_told, on_ok, only_memory}
use Rattle.node.proofs.Causes.{only_memory_ends, passed_ends, still_works, stop_passed}
use Rattle.node.proofs.Counts.{counts_same, epoch_left, ids_left, keeps_floor, keeps_kept}
use Rattle.node.proofs.Counts.{empty_batch}
use Rattle.node.proofs.Counts.{snapshots_left}
use Rattle.node.proofs.Ends.{ends_rule, ends_stopped}
use Rattle.node.proofs.Running.{goes_on, kept_on}
use Rattle.node.proofs.node.Node.adopt.Goals as goal

-- what the state may adopt, the store may record
pub adopt-requires : goal.adopt-requires
adopt-requires g c =
    recordable g.D.Disk c.args.self.now c.args.epoch c.args.config c.requires.may
    c.requires.adoptable

-- the store stopped, and a crash leaves its configuration or the new one
pub returns-in_err-adopt : goal.returns-in_err-adopt
returns-in_err-adopt g c =
    let old = c.args.self.now in
    let result = c.from_residual.result in
    let e = c.in_err-adopt.field-0.0 in
    let err = c.from_residual.ensures.1 in
    record {
      kept = record {
        disk = kept_but g.D.Disk (λ full. inr full)
            (kept_as g.D.Disk (stop_passed c.adopt.result e result c.in_err-adopt.was err)
            (λ a b kept. tt) c.adopt.ensures.changes.keeps.disk);
        works = rw (err_from_is_err_and result err).1 tt;
        limits = ap (λ (l : LookUps). l.limits) c.in_err-adopt.ensures.told;
        causes = passed_ends result err
            (later_ends e c.in_err-adopt.ensures.causes);
      };
      ends = λ x n input any r.
          let a = done_of x n empty_batch (done.Adopted c.args.epoch c.args.config) in
          let p = err_from_is_err_and result err in
          let why = c.in_err-adopt.ensures.met.reads n.list r.store.reads in
          ends_stopped g.D.Disk old _ x n a _ result p.0 p.1
          (subst (IsEnvironmental stop.Disk stop.Memory) (sym p.2) (env_of e why))
          (c.adopt.ensures.changes.keeps.disk.honest.1 r.honest)
          (adopts g.D.Disk old c.args.epoch c.args.config c.steps_leave.ensures x n r
          (engine_disk c.adopt.new.self) (c.adopt.ensures.changes.any_moment n.list r.store));
    }

-- the configuration is recorded, and memory ran out
pub returns-in_err-due : goal.returns-in_err-due
returns-in_err-due g c =
    let old = c.args.self.now in
    let result = c.from_residual-in_err-due.result in
    let err = c.from_residual-in_err-due.ensures.1 in
    record {
      kept = record {
        disk = kept_but g.D.Disk (λ full. inr full)
            (kept_as g.D.Disk (neither (answered c.adopt.result c.in_ok-adopt.was)
            (memory_told result err)) (λ a b kept. tt) c.adopt.ensures.changes.keeps.disk);
        works = rw (err_from_is_err_and result err).1 tt;
        limits = ap (λ (l : LookUps). l.limits) c.in_ok-adopt.ensures.told;
        causes = memory_ends result err;
      };
      ends = λ x n input any r.
          let a = done_of x n empty_batch (done.Adopted c.args.epoch c.args.config) in
          let p = err_from_is_err_and result err in
          ends_stopped g.D.Disk old _ x n a _ result p.0 p.1 (inr p.2)
          (c.adopt.ensures.changes.keeps.disk.honest.1 r.honest)
          (adopts g.D.Disk old c.args.epoch c.args.config c.steps_leave.ensures x n r
          (engine_disk c.adopt.new.self) (c.adopt.ensures.changes.any_moment n.list r.store));
    }

-- no fewer batches are committed, and no more than there are
pub set_committed-requires : goal.set_committed-requires
set_committed-requires g c =
    let may = c.requires.may in
    let old = c.args.self.now.core in
    let told = c.in_ok-adopt.ensures.told in
    let known = ap (λ (l : LookUps). l.committed) told in
    let more = ap (λ (l : LookUps). l.count) told in
    let count = counts_same c.steps_leave.ensures old c.after.new.self
    (done.Adopted c.args.epoch c.args.config) (committed_responses c.in_ok-due.due)
    (λ n. refl) c.in_ok-due.ensures.after in
    let ordered = c.committed.ensures.ordered.committed in (
      omega (arith, known, may.committed, c.in_ok-due.ensures.rises, c.committed.ensures.same),
      omega (arith, more, ordered, c.committed.ensures.same, count, may.count),
    )

-- the configuration is adopted, and acknowledged to the predecessor
pub returns : goal.returns
returns g c =
    let may = c.requires.may in
    let old = c.args.self.now in
    let d = done.Adopted c.args.epoch c.args.config in
    let due = c.in_ok-due.due in
    let told = c.in_ok-adopt.ensures.told in
    let known = c.set_committed.ensures.told in
    let made = c.output_of.result in
    let result = c.map_err.result in
    let stops = c.map_err.ensures.cases in
    let replies = committed_responses due in
    let law = c.steps_leave.ensures in
    let new = c.after.new.self in
    let after = c.in_ok-due.ensures.after in
    record {
      kept = record {
        disk = kept_on g.D.Disk (sym c.set_committed.ensures.disk)
            (kept_but g.D.Disk (λ full. inr full)
            (kept_as g.D.Disk (neither (answered c.adopt.result c.in_ok-adopt.was)
            (only_memory made result stops)) (λ a b kept. tt)
            c.adopt.ensures.changes.keeps.disk));
        works = on_ok result (record {
          works = λ ended. still_works c.in_ok-adopt.ensures.changes.keeps.ends may.works
              (c.set_committed.ensures.stays.ended.0 ended);
          id = c.in_ok-due.ensures.same ∙ may.id
              ∙ sym (ap (λ (l : LookUps). l.facts.id) told)
              ∙ sym (ap (λ (l : LookUps). l.facts.id) known);
          epoch = epoch_left law old.core new d replies after
              ∙ sym (ap (λ (l : LookUps). l.facts.epoch) told)
              ∙ sym (ap (λ (l : LookUps). l.facts.epoch) known);
          ids = ids_left law old.core new d replies after
              ∙ sym (ap (λ (l : LookUps). l.facts.ids) told)
              ∙ sym (ap (λ (l : LookUps). l.facts.ids) known);
          count = counts_same law old.core new d replies (λ n. refl) after ∙ may.count
              ∙ sym (ap (λ (l : LookUps). l.count) told)
              ∙ sym (ap (λ (l : LookUps). l.count) known);
          floor = keeps_floor law old.core new d replies after ∙ may.floor
              ∙ sym (ap (λ (l : LookUps). l.facts.floor) told)
              ∙ sym (ap (λ (l : LookUps). l.facts.floor) known);
          kept = keeps_kept law old.core new d replies after ∙ may.kept
              ∙ sym (ap (λ (l : LookUps). l.facts.kept) told)
              ∙ sym (ap (λ (l : LookUps). l.facts.kept) known);
          committed = sym c.committed.ensures.same
              ∙ sym (ap (λ (l : LookUps). l.committed) known);
          snapshots = snapshots_left law old.core new d replies after ∙ may.snapshots
              ∙ sym (ap (λ (l : LookUps). l.snapshots) told)
              ∙ sym (ap (λ (l : LookUps). l.snapshots) known);
        });
        limits = ap (λ (l : LookUps). l.limits) known ∙ ap (λ (l : LookUps). l.limits) told;
        causes = only_memory_ends made result stops;
      };
      ends = λ x n input any r.
          let a = done_of x n empty_batch d in
          let leaves = law x n empty_batch d in
          let follows = subst
          (λ (y : ℕ). core.CoreFollows new (done_of y n empty_batch d) replies) r.id
          (after n empty_batch r.core) in
          let holds = (c.in_ok-adopt.ensures.changes.list n.list).holds r.store in
          let facts = ap (λ (l : LookUps). l.facts) known ∙ ap (λ (l : LookUps). l.facts) told
          ∙ adopted_facts g.D.Disk old c.args.epoch c.args.config law x n r in
          let runs = goes_on g.D.Disk old _ x n empty_batch d a leaves r
          (c.set_committed.ensures.stays.holds n.list holds) facts follows.is
          (c.in_ok-due.ensures.same ∙ r.id) in
          let none : AreFrames c.new.result [] = rw c.new.ensures refl in
          let moments = subst (λ disk. AlwaysRefines g.D.Disk (disk_of old) disk x n a.node)
          (sym c.set_committed.ensures.disk)
          (adopts g.D.Disk old c.args.epoch c.args.config law x n r
          (engine_disk c.adopt.new.self) (c.adopt.ensures.changes.any_moment n.list r.store)) in
          let sent : ℕ → List (Message Edits) = λ y. ack y a.node in
          ends_rule g.D.Disk old _ x n input empty_batch d a due c.deref.result.now sent made result
          moments
          leaves runs follows.replied c.deref.ensures refl
          (c.output_of.ensures a.node [] runs.core none) stops;
    }
