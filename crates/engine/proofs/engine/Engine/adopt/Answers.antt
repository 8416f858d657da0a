use Rattle.std.proofs.Common.{arith}
use Rattle.std.proofs.lemmas.Grind.{common_steps}
use Rattle.std.proofs.Common.{Err, List, Ok, inl, refl}
use Rattle.kv_types.specs.{BatchContent}
use Rattle.store_tables.specs.declared.error.EngineError.TheVariants as error
use Rattle.store_tables.specs.RefusalLemmas.{if_refuses, refuses}
use Rattle.table_files.specs.{inner_disk}
use Rattle.engine.specs.Calls.{IsEndOrAfter}
use Rattle.engine.specs.Engines.{engine_disk}
use Rattle.engine.proofs.Adoptions.{adoption_leaves, slot_changes}
use Rattle.engine.proofs.Engines.{answered_keeps, goes_to, held_of, refused_keeps, told_alike}
use Rattle.engine.proofs.Engines.{were_meant}
use Rattle.engine.proofs.Merges.{goes_with_merge, meant_with_merge}
use Rattle.engine.proofs.Results.{not_true}
use Rattle.engine.proofs.Unchanged.{changes_none, follows_none, none_keeps}
use Rattle.engine.proofs.engine.Engine.adopt.Goals as goal

-- the store is usable
pub adopt-requires : goal.adopt-requires
adopt-requires g c =
    record { usable = c.args.self.now.usable c.if-self.false; later = c.requires }

-- one that has ended does nothing
pub returns-then-self-clause-changes : goal.returns-then-self-clause-changes
returns-then-self-clause-changes g c =
    let it = c.args.self.now in
    changes_none g.D.Disk it error.Failed (Err error.Failed) refl c.held_files_are_left.ensures
    (none_keeps g.D.Disk it error.Failed (Err error.Failed) refl (λ end. end)
    (λ _. c.if-self.true, λ _. refl) (λ s file other. refl)) _ (λ list. list)

-- a device that works refuses none
pub returns-in_err-adopt-clause-met : goal.returns-in_err-adopt-clause-met
returns-in_err-adopt-clause-met g c = record {
  reads = λ list r.
      refuses c.from_residual.result _ _ c.from_residual.ensures.1
      (c.in_err-adopt.ensures.adopts.tended list r.honest
      (held_of g.D.Disk c.args.self.now list r)).list;
  meant = λ list m.
      refuses c.from_residual.result _ _ c.from_residual.ensures.1
      (c.in_err-adopt.ensures.adopts.meant list m.honest
      (were_meant g.D.Disk c.args.self.now list m)).list;
}

-- and of any device it ends the engine
pub returns-in_err-adopt-clause-causes : goal.returns-in_err-adopt-clause-causes
returns-in_err-adopt-clause-causes g c =
    if_refuses c.from_residual.result IsEndOrAfter c.from_residual.ensures.1
    (inl c.in_err-adopt.ensures.adopts.did)

-- what the files were left as, also where blocks of tables are damaged
pub returns-in_err-adopt-clause-changes : goal.returns-in_err-adopt-clause-changes
returns-in_err-adopt-clause-changes g c =
    let d = g.D.Disk in
    let old = c.args.self.now in
    let adopts = c.adopt.ensures.adopts in
    record {
      keeps = refused_keeps d old _ c.adopt.result c.in_err-adopt.field-0.0 c.from_residual.result
          c.in_err-adopt.was c.from_residual.ensures.1 c.in_err-adopt.ensures.adopts.did
          (λ h. let off = c.if-self.false in absurd cc) refl
          (slot_changes d old.files c.adopt.new.disk old.store adopts.kept adopts.touches);
      list = λ list. follows_none d old c.in_err-adopt.field-0.0 c.from_residual.result
          c.from_residual.ensures.1 old _ list list;
      any_moment = λ list h.
          (adopts.tended list h.reads.honest (held_of d old list h.reads)).any_moment;
      meant = λ list m. (adopts.meant list m.honest (were_meant d old list m)).any_moment;
    }

-- the list stays, with the new configuration
pub returns-clause-changes : goal.returns-clause-changes
returns-clause-changes g c =
    let d = g.D.Disk in
    let lasts = c.merges_outlive_calls.ensures in
    let apart = c.open_files_are_apart.ensures in
    let old = c.args.self.now in
    let a = old.files in
    let b = c.adopt.new.disk in
    let store = old.store in
    let later = c.adopt.new.self in
    let adopts = c.adopt.ensures.adopts in
    let did = c.in_ok-adopt.ensures.adopts.did in
    let plans = c.in_ok-adopt.ensures.plans in
    let same : List BatchContent → List BatchContent = λ list. list in
    record {
      keeps = answered_keeps d old _ c.adopt.result tt _ c.in_ok-adopt.was
          (λ h. let off = c.if-self.false in absurd cc) not_true
          (slot_changes d a b store adopts.kept adopts.touches);
      list = λ list.
          goes_to d c.held_files_are_left.ensures old _ list list _ adopts.kept.honest.1 not_true
          (λ honest h.
          let held = (c.in_ok-adopt.ensures.adopts.tended list honest h.held).list in
          let known = h.held.known in
          goes_with_merge d lasts a b store later old.merge list same (Ok tt) honest plans held h
          (λ m plan is it. adoption_leaves d a b lasts apart store later known.tables m plan it
          c.args.epoch c.args.config.now did
          (apart.tended (d.state (engine_disk old)) store list known)
          (apart.tables (d.state (engine_disk old)) store list known)
          (adopts.kept.honest.1 honest) (adopts.touches honest) held.unused))
          (λ honest w.
          let held = (c.in_ok-adopt.ensures.adopts.meant list honest w.was).list in
          let known = w.was.hold.known in
          meant_with_merge d lasts a b store later old.merge list same (Ok tt) honest plans held w
          (λ m plan is it. adoption_leaves d a b lasts apart store later known.tables m plan it
          c.args.epoch c.args.config.now did (apart.tended w.was.meant store list known)
          (apart.tables w.was.meant store list known) (adopts.kept.honest.1 honest)
          (adopts.touches honest)
          (apart.unused (d.state (inner_disk b)) later list held)));
      any_moment = λ list h.
          (adopts.tended list h.reads.honest (held_of d old list h.reads)).any_moment;
      meant = λ list m. (adopts.meant list m.honest (were_meant d old list m)).any_moment;
    }

-- what the engine tells
pub returns-clause-told : goal.returns-clause-told
returns-clause-told g c =
    told_alike c.in_ok-adopt.ensures.adopts.did.facts c.adopt.ensures.adopts.numbers.0

pub returns-then-self-clause-told : goal.returns-then-self-clause-told
returns-then-self-clause-told g c = grind (arith, common_steps)

pub returns-then-self-clause-merging : goal.returns-then-self-clause-merging
returns-then-self-clause-merging g c = grind (arith, common_steps)

pub returns-then-self-clause-causes : goal.returns-then-self-clause-causes
returns-then-self-clause-causes g c = grind (arith, common_steps)

pub returns-then-self-clause-calls : goal.returns-then-self-clause-calls
returns-then-self-clause-calls g c = grind (arith, common_steps)

pub returns-in_err-adopt-clause-told : goal.returns-in_err-adopt-clause-told
returns-in_err-adopt-clause-told g c = grind (arith, common_steps)

pub returns-in_err-adopt-clause-merging : goal.returns-in_err-adopt-clause-merging
returns-in_err-adopt-clause-merging g c = grind (arith, common_steps)

pub returns-in_err-adopt-clause-calls : goal.returns-in_err-adopt-clause-calls
returns-in_err-adopt-clause-calls g c = grind (arith, common_steps)

pub returns-clause-merging : goal.returns-clause-merging
returns-clause-merging g c = grind (arith, common_steps)

pub returns-clause-causes : goal.returns-clause-causes
returns-clause-causes g c = grind (arith, common_steps)

pub returns-clause-met : goal.returns-clause-met
returns-clause-met g c = grind (arith, common_steps)

pub returns-clause-calls : goal.returns-clause-calls
returns-clause-calls g c = grind (arith, common_steps)
