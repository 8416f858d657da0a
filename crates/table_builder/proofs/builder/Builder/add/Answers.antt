use Rattle.std.proofs.Common.{◌++◌, ◌∷◌, [], ℕ, List, rules, sym, subst, arith, false, refl}
use Rattle.std.proofs.lemmas.Result.{err_from_is_err_and}
use Rattle.std.specs.Prelude.{IsErrOf}
use Rattle.disk.specs.{WritesInto}
use Rattle.disk.specs.WritesLemmas.{writes_as}
use Rattle.kv_types.specs.{Entry}
use Rattle.table_format.specs.declared.FileError.TheVariants as reading
use Rattle.table_format.specs.declared.TableError.TheVariants as table
use Rattle.table_format.specs.{data_bytes, lent_entry, table_error}
use Rattle.byte_fields.specs.declared.format.Format.TheVariants.{Two}
use Rattle.table_builder.specs.declared.builder.Builder.{Builder}
use Rattle.table_builder.specs.Builders.{BuildsNothing, HoldsDivision, HoldsEntries}
use Rattle.table_builder.specs.Closing.{CanClose}
use Rattle.table_builder.specs.Divisions.{division, with_entry}
use Rattle.table_builder.specs.Fresh.{IsFresh}
use Rattle.table_builder.specs.Keys.{KnowsKeys}
use Rattle.table_builder.proofs.BuildersLemmas.{answers_held_refusal, answers_refusal, bounds}
use Rattle.table_builder.proofs.BuildersLemmas.{can_close, checked_quietly, held_more, held_refused}
use Rattle.table_builder.proofs.BuildersLemmas.{needs_memory, refused}
use Rattle.table_builder.proofs.DeviceLemmas.{not_refused, passed_up}
use Rattle.table_builder.proofs.DivisionsLemmas.{division_push}
use Rattle.table_builder.proofs.FreshLemmas.{spared}
use Rattle.table_builder.proofs.builder.Builder.add.Goals as goal

-- ---- before any call

pub returns-in_err-check : goal.returns-in_err-check
returns-in_err-check g c = record {
  kept = search rules;
  status = search rules;
  added = search rules;
  held = search rules;
  quiet = λ entries h part. (
    refl,
    checked_quietly c.check.result c.args.self.now c.in_err-check.field-0.0
        c.from_residual.result c.check.ensures.status c.in_err-check.was
        c.from_residual.ensures.1,
  );
  any_moment = λ honest.
      spared g.D.Disk.state g.D.Disk.past c.args.self.now.file c.args.disk.now;
}

pub returns-in_err-hold : goal.returns-in_err-hold
returns-in_err-hold g c = record {
  kept = search rules;
  status = search rules;
  added = λ entries honest b. answers_refusal entries (lent_entry c.args.entry)
      c.from_residual-in_err-hold.result _ _ table.Memory c.from_residual-in_err-hold.ensures.1
      (c.in_ok-check.ensures.checked entries b.holds);
  held = λ entries h. answers_held_refusal entries (lent_entry c.args.entry)
      c.from_residual-in_err-hold.result _ table.Memory c.from_residual-in_err-hold.ensures.1
      (c.in_ok-check.ensures.checked entries h);
  quiet = λ entries h part. (
    refl,
    needs_memory c.from_residual-in_err-hold.result c.from_residual-in_err-hold.ensures.1,
  );
  any_moment = λ honest.
      spared g.D.Disk.state g.D.Disk.past c.args.self.now.file c.args.disk.now;
}

-- ---- the entry is held, and its block may be full

pub returns-in_err-close_full : goal.returns-in_err-close_full
returns-in_err-close_full g c =
    let old = c.args.self.now in
    let mid = c.hold.new.self in
    let entry = lent_entry c.args.entry in
    let same = c.hold.ensures.same in
    let called = c.close_full.result in
    let e = c.in_err-close_full.field-0.0 in
    let result = c.from_residual-in_err-close_full.result in
    let reported = c.from_residual-in_err-close_full.ensures.1 in
    let device = subst
    (λ (f : ℕ). WritesInto g.D.Disk f c.args.disk.now c.close_full.new.disk
    (IsErrOf called reading.Disk) ((blocks : List _) (one : _) → CanClose mid blocks one
    → ⊥)) same.0 c.close_full.ensures.device in
    let wrote : WritesInto g.D.Disk old.file c.args.disk.now c.close_full.new.disk
    (IsErrOf result table.Disk) (BuildsNothing old) = writes_as g.D.Disk old.file
    (passed_up called e result c.in_err-close_full.was reported)
    (λ none slot entries b.
    let m = bounds old entries b.holds in
    let has = c.in_ok-hold.ensures.block (division entries).opened b.holds.parts.block
    (omega (arith, m.opened_few)) in
    let knows = c.in_ok-hold.ensures.keys entries b.holds.keys (omega (arith, m.entries_few)) in
    none (division entries).closed (record { front = (division entries).opened; last = entry })
    (can_close old mid entries entry b.holds c.requires knows has same.1 same.2))
    device in
    record {
      kept = wrote.kept;
      status = search rules;
      added = λ entries honest b.
          let old = c.args.self.now in
          let mid = c.hold.new.self in
          let entry = lent_entry c.args.entry in
          let same = c.hold.ensures.same in
          let m = bounds old entries b.holds in
          let has = c.in_ok-hold.ensures.block (division entries).opened b.holds.parts.block
          (omega (arith, m.opened_few)) in
          let knows = c.in_ok-hold.ensures.keys entries b.holds.keys (omega
          (arith, m.entries_few)) in
          let can = can_close old mid entries entry b.holds c.requires knows has same.1 same.2 in
          let fresh = subst
          (λ (f : ℕ). IsFresh (g.D.Disk.state c.args.disk.now f) (data_bytes Two
          (division entries).closed))
          (sym same.0) b.file in
          let why = c.in_err-close_full.ensures.written (division entries) entry can honest fresh in
          let p = err_from_is_err_and c.from_residual-in_err-close_full.result
          c.from_residual-in_err-close_full.ensures.1 in
          rw (p.1, p.2) (refused c.in_err-close_full.field-0.0 entries entry
          (c.in_ok-check.ensures.checked entries b.holds) why);
      held = λ entries h. answers_held_refusal entries entry result _ (table_error e) reported
          (held_refused e entries entry (c.in_ok-check.ensures.checked entries h));
      quiet = λ entries h part.
          let m = bounds old entries h in
          let has = c.in_ok-hold.ensures.block (division entries).opened h.parts.block
          (omega (arith, m.opened_few)) in
          let done = (c.close_full.ensures.quiet ((division entries).opened ++ entry ∷ []) has
          part).1 in
          absurd (not_refused called e c.in_err-close_full.was done);
      any_moment = wrote.any_moment;
    }

-- whatever the disk did, the entry is in memory or in a block that is counted
pub returns : goal.returns
returns g c =
    let last = c.close_full.new.self in
    let new : Builder = record {
      file = last.file;
      written = last.written;
      block = last.block;
      index = last.index;
      keys = last.keys;
      has_failed = false;
    } in
    let held : (entries : List Entry) → HoldsEntries c.args.self.now entries →
    HoldsEntries new (entries ++ lent_entry c.args.entry ∷ []) = λ entries h.
    let old = c.args.self.now in
    let mid = c.hold.new.self in
    let entry = lent_entry c.args.entry in
    let same = c.hold.ensures.same in
    let m = bounds old entries h in
    let has = c.in_ok-hold.ensures.block (division entries).opened h.parts.block
    (omega (arith, m.opened_few)) in
    let knows = c.in_ok-hold.ensures.keys entries h.keys (omega (arith, m.entries_few)) in
    let can = can_close old mid entries entry h c.requires knows has same.1 same.2 in
    let parts = c.in_ok-close_full.ensures.closed (division entries) entry can in
    let there : HoldsDivision new (with_entry (division entries) entry) = record {
      closed = record { written = parts.closed.written; index = parts.closed.index };
      block = parts.block;
    } in
    let known : KnowsKeys new.keys (entries ++ entry ∷ []) =
    subst (λ k. KnowsKeys k (entries ++ entry ∷ []))
    (sym c.close_full.ensures.keys.keys) knows in
    held_more old new entries entry h c.requires (c.in_ok-check.ensures.checked entries h) known
    there (λ h. absurd cc) in
    record {
      kept = search rules;
      status = search rules;
      added = λ entries honest b.
          let old = c.args.self.now in
          let mid = c.hold.new.self in
          let state = g.D.Disk.state in
          let entry = lent_entry c.args.entry in
          let same = c.hold.ensures.same in
          let m = bounds old entries b.holds in
          let has = c.in_ok-hold.ensures.block (division entries).opened b.holds.parts.block
          (omega (arith, m.opened_few)) in
          let knows = c.in_ok-hold.ensures.keys entries b.holds.keys (omega
          (arith, m.entries_few)) in
          let can = can_close old mid entries entry b.holds c.requires knows has same.1 same.2 in
          let fresh = subst
          (λ (f : ℕ). IsFresh (state c.args.disk.now f) (data_bytes Two (division entries).closed))
          (sym same.0) b.file in
          let written = c.in_ok-close_full.ensures.written
          (division entries) entry can honest fresh in
          record {
            holds = held entries b.holds;
            file = subst (λ it. IsFresh (state c.close_full.new.disk old.file)
                (data_bytes Two it.closed))
                (sym (division_push entries entry))
                (subst (λ (f : ℕ). IsFresh (state c.close_full.new.disk f)
                (data_bytes Two (with_entry (division entries) entry).closed)) same.0 written);
          };
      held = held;
      quiet = λ entries h part.
          let m = bounds c.args.self.now entries h in
          let entry = lent_entry c.args.entry in
          let has = c.in_ok-hold.ensures.block (division entries).opened h.parts.block
          (omega (arith, m.opened_few)) in (
            (c.close_full.ensures.quiet ((division entries).opened ++ entry ∷ []) has part).0,
            tt,
          );
      any_moment = search rules;
    }
