use Rattle.std.proofs.Common.{◌≡◌, ◌+◌, ◌++◌, ◌∷◌, [], ap, arith, length, suc, sym, subst, ℕ, inl}
use Rattle.disk.specs.{IsEnvironmental}
use Rattle.std.proofs.Common.{inr, ◌∙◌, List, if◌then◌else◌}
use Rattle.std.proofs.lemmas.Result.{err_from_is_err_and}
use Rattle.kv_types.specs.{Edits}
use Rattle.configurations.specs.{is_tail}
use Rattle.chain_model.specs.{Message, ack, forward}
use Rattle.chain_core.specs as core
use Rattle.chain_core.specs.{done_of, responses_after}
use Rattle.disk.specs.KeepingLemmas.{answered, kept_as, kept_but, neither}
use Rattle.engine.specs.{LookUps, engine_disk, look_ups}
use Rattle.node.specs.declared.stop.Stop.TheVariants as stop
use Rattle.node.specs.Outputs.{AlwaysRefines, acks_after}
use Rattle.node.specs.Steps.{disk_of}
use Rattle.node.proofs.Causes.{append_ends, append_env, env_of, memory_ends, memory_told, on_ok}
use Rattle.node.proofs.Causes.{only_memory, only_memory_ends, passed_ends, still_works}
use Rattle.node.proofs.Causes.{stop_passed}
use Rattle.node.proofs.Counts.{appended_config, appended_snapshots, counts_appended, epoch_left}
use Rattle.node.proofs.Counts.{frames_of, ids_left, keeps_floor, keeps_kept, machine_with}
use Rattle.node.proofs.Counts.{number_taken, responses_due, same_facts, snapshots_left}
use Rattle.node.proofs.Counts.{taken_stands}
use Rattle.node.proofs.Ends.{ends_rule, ends_stopped}
use Rattle.node.proofs.Running.{appends, goes_on, kept_on, list_after_is}
use Rattle.node.proofs.node.Node.append.Goals as goal

-- the store stopped, and a crash leaves its batches with or without the new one
pub returns-in_err-append : goal.returns-in_err-append
returns-in_err-append g c =
    let old = c.args.self.now in
    let batch = c.args.batch in
    let result = c.from_residual.result in
    let e = c.in_err-append.field-0.0 in
    record {
      kept = record {
        disk = kept_but g.D.Disk (λ full. inl full)
            (kept_as g.D.Disk (stop_passed c.append.result e result c.in_err-append.was
            c.from_residual.ensures.1) (λ a b kept. tt) c.append.ensures.changes.keeps.disk);
        works = rw (err_from_is_err_and result c.from_residual.ensures.1).1 tt;
        limits = ap (λ (l : LookUps). l.limits) c.in_err-append.ensures.told;
        causes = passed_ends result c.from_residual.ensures.1
            (append_ends _ e c.in_err-append.ensures.causes);
      };
      ends = λ x n input any r.
          let a = done_of x n batch c.args.done in
          let leaves = c.steps_leave.ensures x n batch c.args.done in
          let p = err_from_is_err_and result c.from_residual.ensures.1 in
          let why = append_env e (look_ups old.engine).count
          (c.in_err-append.ensures.met.reads n.list r.store.reads)
          (omega (arith, c.requires.room, c.requires.may.count)) in
          ends_stopped g.D.Disk old _ x n a _ result p.0 p.1
          (subst (IsEnvironmental stop.Disk stop.Memory) (sym p.2) (env_of e why))
          (c.append.ensures.changes.keeps.disk.honest.1 r.honest)
          (appends g.D.Disk old (engine_disk c.append.new.self) x n batch c.args.done a leaves
          c.requires.done r (c.append.ensures.changes.any_moment n.list r.store));
    }

-- the batch is durable, and memory ran out
pub returns-in_err-due : goal.returns-in_err-due
returns-in_err-due g c =
    let old = c.args.self.now in
    let batch = c.args.batch in
    let result = c.from_residual-in_err-due.result in
    let err = c.from_residual-in_err-due.ensures.1 in
    record {
      kept = record {
        disk = kept_but g.D.Disk (λ full. inl full)
            (kept_as g.D.Disk (neither (answered c.append.result c.in_ok-append.was)
            (memory_told result err)) (λ a b kept. tt) c.append.ensures.changes.keeps.disk);
        works = rw (err_from_is_err_and result err).1 tt;
        limits = ap (λ (l : LookUps). l.limits) c.in_ok-append.ensures.told.0;
        causes = memory_ends result err;
      };
      ends = λ x n input any r.
          let a = done_of x n batch c.args.done in
          let leaves = c.steps_leave.ensures x n batch c.args.done in
          let p = err_from_is_err_and result err in
          ends_stopped g.D.Disk old _ x n a _ result p.0 p.1 (inr p.2)
          (c.append.ensures.changes.keeps.disk.honest.1 r.honest)
          (appends g.D.Disk old (engine_disk c.append.new.self) x n batch c.args.done a leaves
          c.requires.done r (c.append.ensures.changes.any_moment n.list r.store));
    }

-- no fewer batches are committed, and no more than there are
pub set_committed-requires : goal.set_committed-requires
set_committed-requires g c =
    let may = c.requires.may in
    let old = c.args.self.now.core in
    let told = c.in_ok-append.ensures.told.0 in
    let known = ap (λ (l : LookUps). l.committed) told in
    let more = ap (λ (l : LookUps). l.count) told in
    let count = counts_appended c.steps_leave.ensures old c.after.new.self c.args.done
    (responses_after c.args.done c.in_ok-due.due) c.requires.done c.in_ok-due.ensures.after in
    let ordered = c.committed.ensures.ordered.committed in (
      omega (arith, known, may.committed, c.in_ok-due.ensures.rises, c.committed.ensures.same),
      omega (arith, more, ordered, c.committed.ensures.same, count, may.count),
    )

-- the batch is appended, and sent
pub returns : goal.returns
returns g c =
    let may = c.requires.may in
    let old = c.args.self.now in
    let batch = c.args.batch in
    let d = c.args.done in
    let due = c.in_ok-due.due in
    let told = c.in_ok-append.ensures.told.0 in
    let known = c.set_committed.ensures.told in
    let made = c.output_of_append.result in
    let result = c.map_err.result in
    let stops = c.map_err.ensures.cases in
    let replies = responses_after d due in
    let law = c.steps_leave.ensures in
    let new = c.after.new.self in
    let after = c.in_ok-due.ensures.after in
    let config = appended_config d c.requires.done in
    record {
      kept = record {
        disk = kept_on g.D.Disk (sym c.set_committed.ensures.disk)
            (kept_but g.D.Disk (λ full. inl full)
            (kept_as g.D.Disk (neither (answered c.append.result c.in_ok-append.was)
            (only_memory made result stops)) (λ a b kept. tt)
            c.append.ensures.changes.keeps.disk));
        works = on_ok result (record {
          works = λ ended. still_works c.in_ok-append.ensures.changes.keeps.ends may.works
              (c.set_committed.ensures.stays.ended.0 ended);
          id = c.in_ok-due.ensures.same ∙ may.id
              ∙ sym (ap (λ (l : LookUps). l.facts.id) told)
              ∙ sym (ap (λ (l : LookUps). l.facts.id) known);
          epoch = epoch_left law old.core new d replies after
              ∙ config.epoch (machine_with old.core) ∙ may.epoch
              ∙ sym (ap (λ (l : LookUps). l.facts.epoch) told)
              ∙ sym (ap (λ (l : LookUps). l.facts.epoch) known);
          ids = ids_left law old.core new d replies after
              ∙ config.ids (machine_with old.core) ∙ may.ids
              ∙ sym (ap (λ (l : LookUps). l.facts.ids) told)
              ∙ sym (ap (λ (l : LookUps). l.facts.ids) known);
          count = counts_appended law old.core new d replies c.requires.done after
              ∙ ap (λ (k : ℕ). k + 1) may.count ∙ sym (ap (λ (l : LookUps). l.count) told)
              ∙ sym (ap (λ (l : LookUps). l.count) known);
          floor = keeps_floor law old.core new d replies after
              ∙ may.floor ∙ sym (ap (λ (l : LookUps). l.facts.floor) told)
              ∙ sym (ap (λ (l : LookUps). l.facts.floor) known);
          kept = keeps_kept law old.core new d replies after
              ∙ may.kept ∙ sym (ap (λ (l : LookUps). l.facts.kept) told)
              ∙ sym (ap (λ (l : LookUps). l.facts.kept) known);
          committed = sym c.committed.ensures.same
              ∙ sym (ap (λ (l : LookUps). l.committed) known);
          snapshots = snapshots_left law old.core new d replies after
              ∙ appended_snapshots (machine_with old.core) d c.requires.done ∙ may.snapshots
              ∙ sym (ap (λ (l : LookUps). l.snapshots) told)
              ∙ sym (ap (λ (l : LookUps). l.snapshots) known);
        });
        limits = ap (λ (l : LookUps). l.limits) known ∙ ap (λ (l : LookUps). l.limits) told;
        causes = only_memory_ends made result stops;
      };
      ends = λ x n input any r.
          let a = done_of x n batch d in
          let has = c.requires.done in
          let leaves = c.steps_leave.ensures x n batch d in
          let follows = subst (λ (y : ℕ). core.CoreFollows new (done_of y n batch d) replies) r.id
          (after n batch r.core) in
          let holds = (c.in_ok-append.ensures.changes.list n.list).holds r.store in
          let facts = ap (λ (l : LookUps). l.facts) known ∙ ap (λ (l : LookUps). l.facts) told in
          let runs = goes_on g.D.Disk old _ x n batch d a leaves r
          (list_after_is g.D.Disk c.set_committed.new.self n batch d has
          (c.set_committed.ensures.stays.holds (n.list ++ batch ∷ []) holds))
          (facts ∙ r.facts ∙ sym (same_facts x n batch d a config leaves)) follows.is
          (c.in_ok-due.ensures.same ∙ r.id) in
          let moments = subst (λ disk. AlwaysRefines g.D.Disk (disk_of old) disk x n a.node)
          (sym c.set_committed.ensures.disk)
          (appends g.D.Disk old (engine_disk c.append.new.self) x n batch d a leaves has r
          (c.append.ensures.changes.any_moment n.list r.store)) in
          let number : new.count ≡ suc (length n.list) =
          sym follows.is.count ∙ number_taken x n batch d a leaves has in
          let there = taken_stands c.stands_last.ensures x n batch d a new.count leaves has number
          in
          let acks = c.acks_after-acks.result in
          let ids = sym r.core.ids ∙ sym (leaves.ids ∙ config.ids n) in
          let tail : acks ≡ acks_after d (is_tail a.node.ids x) = c.acks_after-acks.ensures
          ∙ ap (λ l. acks_after d (is_tail l old.core.id)) ids
          ∙ ap (λ y. acks_after d (is_tail a.node.ids y)) r.id in
          let sent : ℕ → List (Message Edits) = λ y.
          forward y a.node new.count ++ (if acks then ack y a.node else []) in
          let frames = ap (λ k. forward x a.node k ++ (if acks then ack x a.node else [])) number
          ∙ frames_of x n a.node d acks has tail in
          ends_rule g.D.Disk old _ x n input batch d a due c.deref.result.now sent made result
          moments leaves runs (follows.replied ∙ responses_due d due has) c.deref.ensures
          frames (c.output_of_append.ensures a.node follows.is there) stops;
    }
