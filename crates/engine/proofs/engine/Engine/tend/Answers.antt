use Rattle.std.proofs.Common.{ℕ, Err, ap, inl, inr, refl, subst}
use Rattle.std.specs.Prelude.{IfOk}
use Rattle.store_tables.specs.declared.error.EngineError.TheVariants as error
use Rattle.table_files.specs.{inner_disk}
use Rattle.engine.specs.Calls.{tended_of}
use Rattle.engine.specs.Engines.{FactsRise, facts_of, least_read, raised_facts}
use Rattle.engine.specs.Tends.{KeepsTended, TendsByPlan, tended_store}
use Rattle.engine.proofs.Engines.{goes_to, may_fail, meant_as_held, meant_merge_as_held}
use Rattle.engine.proofs.Engines.{meant_with_merge, merged_of, told_alike, were_meant}
use Rattle.engine.proofs.Floors.{counted_after, floor_after, least_below, may_rise, readable_after}
use Rattle.engine.proofs.Results.{closed_by, ends_by, ends_or_after, if_ok, match_of, no_refusal}
use Rattle.engine.proofs.Results.{of_refusal}
use Rattle.engine.proofs.Results.{on_answer, refused_then, unless_refused, works_on_ok}
use Rattle.engine.proofs.Unchanged.{changes_none, none_keeps}
use Rattle.engine.proofs.engine.Engine.tend.Goals as goal

-- the floor may rise
pub tend_store-answer-requires : goal.tend_store-answer-requires
tend_store-answer-requires g c =
    let old = c.args.self.now in
    may_rise old.store old.committed c.least-floor.result old.snapshots
    (old.usable c.if-self.false) old.counted old.readable c.least-floor.ensures

-- floor, committed number and open snapshots stay in order
pub invariant_of-self : goal.invariant_of-self
invariant_of-self g c =
    let old = c.args.self.now in
    let new = c.tend_store-answer.new.store in
    let answer = c.tend_store-answer.result in
    let later = tended_store new c.tend_store-answer.new.merge c.tend_store-answer.new.turn in
    let part = subst (λ (n : ℕ). KeepsTended g.D.Disk old.limits n old.files
    c.tend_store-answer.new.files (tended_of old) later answer) c.least-floor.ensures
    c.tend_store-answer.ensures.kept in
    let may = may_rise old.store old.committed (least_read old) old.snapshots
    (old.usable c.if-self.false) old.counted old.readable refl in
    record {
      readable = readable_after old.committed (facts_of old).floor _ old.snapshots
          old.counted.floor old.readable
          (floor_after old.store new (least_read old) part.numbers.1);
      counted = counted_after old.store new old.committed (least_read old)
          c.raised_facts_rise.ensures may (least_below old.committed old.snapshots) old.counted
          part.numbers.0 part.numbers.1;
      usable = unless_refused _ answer c.is_err-self.result c.is_err-self.ensures.value part.usable;
    }

-- one that has ended does nothing
pub returns-then-self-clause-changes : goal.returns-then-self-clause-changes
returns-then-self-clause-changes g c =
    let it = c.args.self.now in
    changes_none g.D.Disk it error.Failed (Err error.Failed) refl c.held_files_are_left.ensures
    (none_keeps g.D.Disk it error.Failed (Err error.Failed) refl (λ end. end)
    (λ _. c.if-self.true, λ _. refl) (λ s file other. refl)) _ (λ list. list)

-- A device that works fails where the files are full or are none of the engine. The list stays, at
-- each moment, and also where blocks of tables are damaged.
pub returns-clause-changes : goal.returns-clause-changes
returns-clause-changes g c =
    let d = g.D.Disk in
    let old = c.args.self.now in
    let answer = c.tend_store-answer.result in
    let later = tended_store c.tend_store-answer.new.store c.tend_store-answer.new.merge
    c.tend_store-answer.new.turn in
    let part = subst (λ (n : ℕ). KeepsTended d old.limits n old.files c.tend_store-answer.new.files
    (tended_of old) later answer) c.least-floor.ensures c.tend_store-answer.ensures.kept in
    let kept = part.kept in
    record {
      keeps = record {
        disk = record {
          honest = kept.honest;
          failed = kept.failed;
          count = kept.count;
          only = λ reliable spared fails. may_fail d old (kept.only reliable spared fails);
          reliable = kept.reliable;
          files = part.touches;
          fault = kept.fault;
          spared = kept.spared;
        };
        closed = closed_by answer old.has_ended c.if-self.false part.refused;
        ends = ends_by answer old.has_ended c.is_err-self.result c.if-self.false
            c.is_err-self.ensures.value part.refused;
        refusal = λ told. absurd (no_refusal answer part.refused told);
      };
      list = λ list.
          goes_to d c.held_files_are_left.ensures old _ list list answer kept.honest.1
          (works_on_ok answer c.is_err-self.result c.is_err-self.ensures.value)
          (λ honest h. on_answer answer _ _ (part.held list honest h))
          (λ honest w. on_answer answer _ _ (part.meant list honest w));
      any_moment = λ list h. part.any_moment list h.reads.honest (merged_of d old list h.reads);
      meant = λ list m. part.meant_moment list m.honest (meant_with_merge d old list m);
    }

pub returns-clause-told : goal.returns-clause-told
returns-clause-told g c =
    let later = tended_store c.tend_store-answer.new.store c.tend_store-answer.new.merge
    c.tend_store-answer.new.turn in
    let part = subst (λ (n : ℕ). KeepsTended g.D.Disk c.args.self.now.limits n c.args.self.now.files
    c.tend_store-answer.new.files (tended_of c.args.self.now) later c.tend_store-answer.result)
    c.least-floor.ensures c.tend_store-answer.ensures.kept in
    elim part.numbers.1 [
      | inl same ↦ inl (told_alike same part.numbers.0)
      | inr raised ↦ inr (told_alike raised part.numbers.0)
    ]

-- so the facts of a raised floor rise
pub returns-clause-raised : goal.returns-clause-raised
returns-clause-raised g c =
    let old = c.args.self.now in
    let may = may_rise old.store old.committed (least_read old) old.snapshots
    (old.usable c.if-self.false) old.counted old.readable refl in
    let rises = c.raised_facts_rise.ensures old.store (least_read old) may in
    let rise : FactsRise (facts_of old) (raised_facts old) =
    record { floor = may.rises; kept = rises.0; readable = rises.1 } in
    record { reads = λ list r. rise; meant = λ list m. rise }

-- what was due was done
pub returns-clause-work : goal.returns-clause-work
returns-clause-work g c =
    let d = g.D.Disk in
    let old = c.args.self.now in
    let answer = c.tend_store-answer.result in
    let laws = c.held_files_are_left.ensures in
    let later = tended_store c.tend_store-answer.new.store c.tend_store-answer.new.merge
    c.tend_store-answer.new.turn in
    let did = subst (λ (n : ℕ). IfOk answer (TendsByPlan d old.limits n old.files
    c.tend_store-answer.new.files (tended_of old) later)) c.least-floor.ensures
    c.tend_store-answer.ensures.did in
    record {
      reads = λ list r.
          match_of answer _ _ (if_ok answer (λ told by.
          (by.did, by.in_order list r.honest (meant_as_held d laws old list r))) did)
          (of_refusal answer _ _
          (c.tend_store-answer.ensures.kept.held list r.honest (merged_of d old list r)));
      meant = λ list m.
          match_of answer _ _ (if_ok answer
          (λ told by. (by.did, by.in_order list m.honest (were_meant d old list m))) did)
          (refused_then _ _ answer _
          (c.tend_store-answer.ensures.kept.meant list m.honest (meant_with_merge d old list m))
          (c.tend_store-answer.ensures.refused list m.honest (were_meant d old list m)));
      planned = record {
        reads = λ list r. if_ok answer (λ told by.
            (by.did, by.planned list r.honest (meant_merge_as_held d laws old list r))) did;
        meant = λ list m. if_ok answer
            (λ told by. (by.did, by.planned list m.honest (meant_with_merge d old list m))) did;
      };
    }

pub returns-clause-did : goal.returns-clause-did
returns-clause-did g c =
    let old = c.args.self.now in
    let answer = c.tend_store-answer.result in
    let later = tended_store c.tend_store-answer.new.store c.tend_store-answer.new.merge
    c.tend_store-answer.new.turn in
    match_of answer _ _
    (if_ok answer (λ told by. by.did) (subst (λ (n : ℕ). IfOk answer (TendsByPlan g.D.Disk
    old.limits n old.files c.tend_store-answer.new.files (tended_of old) later))
    c.least-floor.ensures c.tend_store-answer.ensures.did))
    (ends_or_after answer c.tend_store-answer.ensures.kept.refused)

-- at rest no call of the disk is made
pub returns-clause-rests : goal.returns-clause-rests
returns-clause-rests g c =
    if_ok c.tend_store-answer.result (λ told same idle. ap (λ f. inner_disk f) (same idle))
    c.tend_store-answer.ensures.rests
