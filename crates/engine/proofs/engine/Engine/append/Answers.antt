use Rattle.std.proofs.Common.{arith}
use Rattle.std.proofs.lemmas.Grind.{common_steps}
use Rattle.std.proofs.Common.{◌∷◌, [], ◌++◌, Err, List, Ok, inl, refl, rules}
use Rattle.kv_types.specs.{BatchContent}
use Rattle.store_tables.specs.declared.error.EngineError.TheVariants as error
use Rattle.store_tables.specs.RefusalLemmas.{if_refuses, refuses}
use Rattle.table_files.specs.{inner_disk}
use Rattle.engine.proofs.Merges.{goes_with_merge, log_leaves, meant_with_merge}
use Rattle.engine.specs.Calls.{IsAppendRefusal}
use Rattle.engine.specs.Engines.{engine_disk, facts_of, look_ups}
use Rattle.engine.proofs.Engines.{answered_keeps, goes_to, held_of}
use Rattle.engine.proofs.Engines.{refused_keeps, were_meant}
use Rattle.engine.proofs.Results.{not_true}
use Rattle.engine.proofs.Unchanged.{changes_none, follows_none, none_keeps}
use Rattle.engine.proofs.engine.Engine.append.Goals as goal

-- the number is the next one
pub append-requires : goal.append-requires
append-requires g c =
    record { usable = c.args.self.now.usable c.if-self.false; next = search rules }

-- one that has ended does nothing
pub returns-then-self-clause-changes : goal.returns-then-self-clause-changes
returns-then-self-clause-changes g c =
    let it = c.args.self.now in
    changes_none g.D.Disk it error.Failed (Err error.Failed) refl c.held_files_are_left.ensures
    (none_keeps g.D.Disk it error.Failed (Err error.Failed) refl (λ end. end)
    (λ _. c.if-self.true, λ _. refl) (λ s file other. refl)) (facts_of it)
    (λ list. list ++ c.args.batch.now ∷ [])

-- nor does one that has no next number
pub returns-in_default-clause-changes : goal.returns-in_default-clause-changes
returns-in_default-clause-changes g c =
    let it = c.args.self.now in
    let e = error.Exhausted in
    changes_none g.D.Disk it e (Err e) refl c.held_files_are_left.ensures
    (none_keeps g.D.Disk it e (Err e) refl (λ end. end)
    (λ is. cc, λ h. let off = c.if-self.false in absurd cc) (λ s file other. refl)) (facts_of it)
    (λ list. list ++ c.args.batch.now ∷ [])

-- a device that works refuses none
pub returns-in_err-append-clause-met : goal.returns-in_err-append-clause-met
returns-in_err-append-clause-met g c = record {
  reads = λ list r.
      refuses c.from_residual.result _ _ c.from_residual.ensures.1
      (inl (c.in_err-append.ensures.appended list r.honest
      (held_of g.D.Disk c.args.self.now list r)).list);
  meant = λ list m.
      refuses c.from_residual.result _ _ c.from_residual.ensures.1
      (inl (c.in_err-append.ensures.meant list m.honest
      (were_meant g.D.Disk c.args.self.now list m)).list);
}

-- and of any device it ends the engine
pub returns-in_err-append-clause-causes : goal.returns-in_err-append-clause-causes
returns-in_err-append-clause-causes g c =
    if_refuses c.from_residual.result (IsAppendRefusal (look_ups c.args.self.now).count)
    c.from_residual.ensures.1 (inl (inl c.in_err-append.ensures.counts.1))

-- what the files were left as, also where blocks of tables are damaged
pub returns-in_err-append-clause-changes : goal.returns-in_err-append-clause-changes
returns-in_err-append-clause-changes g c = record {
  keeps = refused_keeps g.D.Disk c.args.self.now _ c.append.result c.in_err-append.field-0.0
      c.from_residual.result c.in_err-append.was
      c.from_residual.ensures.1 c.in_err-append.ensures.counts.1
      (λ h. let off = c.if-self.false in absurd cc) refl
      c.append.ensures.kept;
  list = λ list. follows_none g.D.Disk c.args.self.now c.in_err-append.field-0.0
      c.from_residual.result c.from_residual.ensures.1 _ _ list _;
  any_moment = λ list h.
      (c.append.ensures.appended list h.reads.honest
      (held_of g.D.Disk c.args.self.now list h.reads)).any_moment;
  meant = λ list m.
      (c.append.ensures.meant list m.honest
      (were_meant g.D.Disk c.args.self.now list m)).any_moment;
}

-- one batch more
pub returns-clause-changes : goal.returns-clause-changes
returns-clause-changes g c =
    let d = g.D.Disk in
    let lasts = c.merges_outlive_calls.ensures in
    let apart = c.open_files_are_apart.ensures in
    let old = c.args.self.now in
    let a = old.files in
    let b = c.append.new.disk in
    let store = old.store in
    let later = c.append.new.self in
    let more : List BatchContent → List BatchContent = λ list. list ++ c.args.batch.now ∷ [] in
    let plans = c.in_ok-append.ensures.plans in
    record {
      keeps = answered_keeps d old _ c.append.result tt _ c.in_ok-append.was
          (λ h. let off = c.if-self.false in absurd cc) not_true
          c.append.ensures.kept;
      list = λ list.
          goes_to d c.held_files_are_left.ensures old _ list (more list) _
          c.append.ensures.kept.honest.1 not_true
          (λ honest h.
          let held = (c.in_ok-append.ensures.appended list honest h.held).list in
          goes_with_merge d lasts a b store later old.merge list more (Ok tt) honest plans held h
          (λ m plan is it. log_leaves d lasts apart a b store later h.held.known.tables m plan it
          h.held.known.usable
          (apart.tables (d.state (engine_disk old)) store list h.held.known)
          (c.append.ensures.kept.honest.1 honest) (c.append.ensures.kept.files honest)
          c.append.ensures.facts.0.version plans.free held.unused))
          (λ honest w.
          let held = (c.in_ok-append.ensures.meant list honest w.was).list in
          let meant = w.was.hold.known in
          meant_with_merge d lasts a b store later old.merge list more (Ok tt) honest plans held w
          (λ m plan is it. log_leaves d lasts apart a b store later meant.tables m plan it
          meant.usable (apart.tables w.was.meant store list meant)
          (c.append.ensures.kept.honest.1 honest) (c.append.ensures.kept.files honest)
          c.append.ensures.facts.0.version plans.free
          (apart.unused (d.state (inner_disk b)) later (more list) held)));
      any_moment = λ list h.
          (c.append.ensures.appended list h.reads.honest
          (held_of g.D.Disk c.args.self.now list h.reads)).any_moment;
      meant = λ list m.
          (c.append.ensures.meant list m.honest
          (were_meant g.D.Disk c.args.self.now list m)).any_moment;
    }

pub returns-then-self-clause-told : goal.returns-then-self-clause-told
returns-then-self-clause-told g c = grind (arith, common_steps)

pub returns-then-self-clause-merging : goal.returns-then-self-clause-merging
returns-then-self-clause-merging g c = grind (arith, common_steps)

pub returns-then-self-clause-causes : goal.returns-then-self-clause-causes
returns-then-self-clause-causes g c = grind (arith, common_steps)

pub returns-then-self-clause-calls : goal.returns-then-self-clause-calls
returns-then-self-clause-calls g c = grind (arith, common_steps)

pub returns-in_default-clause-told : goal.returns-in_default-clause-told
returns-in_default-clause-told g c = grind (arith, common_steps)

pub returns-in_default-clause-merging : goal.returns-in_default-clause-merging
returns-in_default-clause-merging g c = grind (arith, common_steps)

pub returns-in_default-clause-causes : goal.returns-in_default-clause-causes
returns-in_default-clause-causes g c = grind (arith, common_steps)

pub returns-in_default-clause-met : goal.returns-in_default-clause-met
returns-in_default-clause-met g c = grind (arith, common_steps)

pub returns-in_default-clause-calls : goal.returns-in_default-clause-calls
returns-in_default-clause-calls g c = grind (arith, common_steps)

pub returns-in_err-append-clause-told : goal.returns-in_err-append-clause-told
returns-in_err-append-clause-told g c = grind (arith, common_steps)

pub returns-in_err-append-clause-merging : goal.returns-in_err-append-clause-merging
returns-in_err-append-clause-merging g c = grind (arith, common_steps)

pub returns-in_err-append-clause-calls : goal.returns-in_err-append-clause-calls
returns-in_err-append-clause-calls g c = grind (arith, common_steps)

pub returns-clause-told : goal.returns-clause-told
returns-clause-told g c = grind (arith, common_steps)

pub returns-clause-merging : goal.returns-clause-merging
returns-clause-merging g c = grind (arith, common_steps)

pub returns-clause-causes : goal.returns-clause-causes
returns-clause-causes g c = grind (arith, common_steps)

pub returns-clause-met : goal.returns-clause-met
returns-clause-met g c = grind (arith, common_steps)

pub returns-clause-calls : goal.returns-clause-calls
returns-clause-calls g c = grind (arith, common_steps)
