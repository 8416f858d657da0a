use Rattle.std.specs.Prelude.{IsErrOf}
use Rattle.std.proofs.Common.{ℕ, [], ◌∷◌, ◌++◌, ◌∙◌, refl, rules, subst, sym}
use Rattle.disk.specs.{IsEnvironmental, WritesInto}
use Rattle.store_tables.specs.declared.error.EngineError.TheVariants as engine
use Rattle.disk.specs.KeepingLemmas.{answered}
use Rattle.memtable.specs.CursorLaws.{MemCursorHolds, cursor_fits, cursor_laws, mem_position}
use Rattle.merge_iter.specs.{IsOn, IsTableEntry}
use Rattle.table_format.specs.{lent_entry}
use Rattle.table_builder.specs.{Builds, BuildsNothing, builder_file}
use Rattle.store_tables.specs.TableWriting.{HasAddedAll, HasAddedOne, HoldsOneMore}
use Rattle.store_tables.specs.RefusalLemmas.{done, passed_on}
use Rattle.store_tables.specs.RefusalLemmas.{refuses}
use Rattle.disk.specs.WritesLemmas.{writes_as, writes_behind, writes_done, writes_nothing}
use Rattle.compaction.specs.WalksLemmas.{alike_through, walk_begins, walk_ends, walk_advances}
use Rattle.store_tables.proofs.TableWalks.{added_here, for_memory, is_answer, memory_answer}
use Rattle.store_tables.proofs.TableWalks.{true_here, walk_limit}
use Rattle.store_tables.proofs.table_writing.add_all.Goals as goal

-- ---- the first entry

pub returns-in_err-first : goal.returns-in_err-first
returns-in_err-first g c = record {
  writes =
      let memory = for_memory _ _ c.first.result c.in_err-first.field-0.0 c.in_err-first.was
      (tt, tt, tt) (λ never. never) c.first.ensures.causes in
      writes_nothing g.D.Disk (builder_file c.args.builder.now) c.args.disk.now
      (memory_answer c.from_residual.result c.in_err-first.field-0.0 memory
      c.from_residual.ensures.1);
  file = search rules;
  added = search rules;
  room = search rules;
  causes = search rules;
}

pub loop-alloc-init : goal.loop-alloc-init
loop-alloc-init g c =
    let has = MemCursorHolds c.args.cursor.now in
    record {
      file = refl;
      writes = writes_nothing g.D.Disk (builder_file c.args.builder.now) c.args.disk.now
          (λ fails. fails);
      holds = (c.first.ensures.moves.stays tt tt).1;
      unbroken = λ broken. is_answer tt c.first.result c.in_ok-first.was
          (c.first.ensures.broken.1 broken);
      added = record {
        entries = [];
        walked = walk_begins has has (λ e. ((λ p. p), (λ p. p))) tt c.first.result
            (mem_position c.first.new.self) c.in_ok-first.was (c.first.ensures.finds tt tt);
        built = λ begun. begun.1;
        held = λ empty. empty;
      };
    }

-- ---- an entry

pub add_one-requires : goal.add_one-requires
add_one-requires g c =
    true_here (mem_position c.loop-alloc.cursor) IsTableEntry (lent_entry c.entry_at.result)
    (c.valid.ensures.0 c.loop-alloc-test.true) c.entry_at.ensures (cursor_fits c.loop-alloc.cursor)

pub returns-in_err-add_one : goal.returns-in_err-add_one
returns-in_err-add_one g c = record {
  writes =
      let i = c.loop-alloc.invariant in
      let file = builder_file c.args.builder.now in
      let called = subst (λ (f : ℕ). WritesInto g.D.Disk f c.loop-alloc.disk c.add_one.new.disk
      (IsErrOf c.add_one.result engine.Disk) (BuildsNothing c.loop-alloc.builder)) i.file
      c.add_one.ensures.writes in
      let result = c.from_residual-in_err-add_one.result in
      let same = passed_on c.add_one.result c.in_err-add_one.field-0.0 result c.in_err-add_one.was
      c.from_residual-in_err-add_one.ensures.1 in
      writes_behind g.D.Disk file (λ fails. fails) (λ cause. cause) i.writes
      (writes_as g.D.Disk file same
      (λ nothing begun. nothing (g.D.Disk.state c.loop-alloc.disk file) i.added.entries
      (i.added.built begun)) called);
  file = search rules;
  added = λ honest begun.
      let i = c.loop-alloc.invariant in
      let entry = lent_entry c.entry_at.result in
      let on = c.valid.ensures.0 c.loop-alloc-test.true in
      let here = added_here (MemCursorHolds c.args.cursor.now) (mem_position c.loop-alloc.cursor)
      _ _ _ _ entry on c.entry_at.ensures i.added in
      let builds = subst
      (λ (f : ℕ). Builds (g.D.Disk.state c.loop-alloc.disk f) c.loop-alloc.builder i.added.entries)
      (sym i.file) (i.added.built (honest, begun)) in
      let why = c.in_err-add_one.ensures.added i.added.entries
      (i.writes.kept.honest.1 honest) builds here.1 in
      refuses c.from_residual-in_err-add_one.result
      (HasAddedAll (MemCursorHolds c.args.cursor.now)
      (g.D.Disk.state c.add_one.new.disk (builder_file c.args.builder.now)) c.add_one.new.builder)
      (IsEnvironmental engine.Disk engine.Memory)
      c.from_residual-in_err-add_one.ensures.1 why;
  room = search rules;
  causes = search rules;
}

-- ---- there is no room for it

pub returns-then-not-branch : goal.returns-then-not-branch
returns-then-not-branch g c = record {
  writes =
      let i = c.loop-alloc.invariant in
      let file = builder_file c.args.builder.now in
      let called = subst (λ (f : ℕ). WritesInto g.D.Disk f c.loop-alloc.disk c.add_one.new.disk
      (IsErrOf c.add_one.result engine.Disk) (BuildsNothing c.loop-alloc.builder)) i.file
      c.add_one.ensures.writes in
      writes_behind g.D.Disk file (λ fails. fails) (λ cause. cause) i.writes
      (writes_done g.D.Disk file (answered c.add_one.result c.in_ok-add_one.was) done called);
  file = c.in_ok-add_one.ensures.file ∙ c.loop-alloc.invariant.file;
  added = λ honest begun.
      let i = c.loop-alloc.invariant in
      let has = MemCursorHolds c.args.cursor.now in
      let at = mem_position c.loop-alloc.cursor in
      let entries = i.added.entries in
      let entry = lent_entry c.entry_at.result in
      let on = c.valid.ensures.0 c.loop-alloc-test.true in
      let here = added_here has at _ _ _ _ entry on c.entry_at.ensures i.added in
      let builds = subst
      (λ (f : ℕ). Builds (g.D.Disk.state c.loop-alloc.disk f) c.loop-alloc.builder entries)
      (sym i.file) (i.added.built (honest, begun)) in
      let large = subst
      (λ b. HasAddedOne entries entry
      (g.D.Disk.state c.add_one.new.disk (builder_file c.loop-alloc.builder)) c.add_one.new.builder
      b) c.if-not-branch.true
      (c.in_ok-add_one.ensures.added entries (i.writes.kept.honest.1 honest) builds here.1) in
      walk_limit has entries at entry on c.entry_at.ensures i.added.walked builds.holds.rising
      large;
  room = λ empty.
      let i = c.loop-alloc.invariant in
      let has = MemCursorHolds c.args.cursor.now in
      let at = mem_position c.loop-alloc.cursor in
      let entries = i.added.entries in
      let entry = lent_entry c.entry_at.result in
      let on = c.valid.ensures.0 c.loop-alloc-test.true in
      let here = added_here has at _ _ _ _ entry on c.entry_at.ensures i.added in
      let held = i.added.held empty in
      let large = subst (λ b. HoldsOneMore entries entry c.add_one.new.builder b)
      c.if-not-branch.true (c.in_ok-add_one.ensures.held entries held here.1) in
      walk_limit has entries at entry on c.entry_at.ensures i.added.walked held.rising large;
  causes = search rules;
}

-- ---- it was added, and the cursor moves on

pub loop-alloc-smaller : goal.loop-alloc-smaller
loop-alloc-smaller g c = c.in_ok-next.ensures.ends

pub loop-alloc-preserved : goal.loop-alloc-preserved
loop-alloc-preserved g c =
    let i = c.loop-alloc.invariant in
    let file = builder_file c.args.builder.now in
    let has = MemCursorHolds c.args.cursor.now in
    let at = mem_position c.loop-alloc.cursor in
    let entries = i.added.entries in
    let entry = lent_entry c.entry_at.result in
    let on = c.valid.ensures.0 c.loop-alloc-test.true in
    let here = added_here has at _ _ _ _ entry on c.entry_at.ensures i.added in
    let called = subst (λ (f : ℕ). WritesInto g.D.Disk f c.loop-alloc.disk c.add_one.new.disk
    (IsErrOf c.add_one.result engine.Disk) (BuildsNothing c.loop-alloc.builder)) i.file
    c.add_one.ensures.writes in
    record {
      file = c.in_ok-add_one.ensures.file ∙ i.file;
      writes = writes_behind g.D.Disk file (λ fails. fails) (λ cause. cause) i.writes
          (writes_done g.D.Disk file (answered c.add_one.result c.in_ok-add_one.was)
          (λ fails. fails) called);
      holds = alike_through _ _ _ (c.next.ensures.moves.stays tt tt).1 i.holds;
      unbroken = λ broken. is_answer tt c.next.result c.in_ok-next.was
          (c.next.ensures.broken.1 broken);
      added = record {
        entries = entries ++ entry ∷ [];
        walked = walk_advances has (cursor_laws.apart tt c.args.cursor.now tt tt) entries
            (MemCursorHolds c.loop-alloc.cursor) i.holds tt c.next.result at
            (mem_position c.next.new.self) entry on c.entry_at.ensures i.added.walked
            c.in_ok-next.was (c.next.ensures.finds tt tt);
        built = λ begun.
            let builds = subst (λ (f : ℕ). Builds (g.D.Disk.state c.loop-alloc.disk f)
            c.loop-alloc.builder entries) (sym i.file) (i.added.built begun) in
            let more = c.in_ok-add_one.ensures.added entries
            (i.writes.kept.honest.1 begun.0) builds here.1 in
            let one = subst (λ b. HasAddedOne entries entry
            (g.D.Disk.state c.add_one.new.disk (builder_file c.loop-alloc.builder))
            c.add_one.new.builder b) c.if-not-branch.false more in
            subst (λ (f : ℕ). Builds (g.D.Disk.state c.add_one.new.disk f)
            c.add_one.new.builder (entries ++ entry ∷ [])) i.file one;
        held = λ empty.
            let more = c.in_ok-add_one.ensures.held entries (i.added.held empty) here.1 in
            subst (λ b. HoldsOneMore entries entry c.add_one.new.builder b) c.if-not-branch.false
            more;
      };
    }

pub returns-in_err-next : goal.returns-in_err-next
returns-in_err-next g c = record {
  writes =
      let i = c.loop-alloc.invariant in
      let file = builder_file c.args.builder.now in
      let called = subst (λ (f : ℕ). WritesInto g.D.Disk f c.loop-alloc.disk c.add_one.new.disk
      (IsErrOf c.add_one.result engine.Disk) (BuildsNothing c.loop-alloc.builder)) i.file
      c.add_one.ensures.writes in
      let memory = for_memory _ _ c.next.result c.in_err-next.field-0.0 c.in_err-next.was
      (tt, tt, tt) i.unbroken c.next.ensures.causes in
      writes_behind g.D.Disk file (λ fails. fails) (λ cause. cause) i.writes
      (writes_done g.D.Disk file (answered c.add_one.result c.in_ok-add_one.was)
      (memory_answer c.from_residual-in_err-next.result c.in_err-next.field-0.0 memory
      c.from_residual-in_err-next.ensures.1) called);
  file = search rules;
  added = search rules;
  room = search rules;
  causes = search rules;
}

-- ---- all entries were added

pub returns : goal.returns
returns g c = record {
  writes = writes_done g.D.Disk (builder_file c.args.builder.now) (λ fails. fails) done
      c.loop-alloc.invariant.writes;
  file = c.loop-alloc.invariant.file;
  added = λ honest begun.
      let i = c.loop-alloc.invariant in
      let off : IsOn (mem_position c.loop-alloc.cursor) → ⊥ = λ on. let z = c.valid.ensures.1 on in
      let f = c.loop-alloc-test.false in cc in
      record {
        entries = i.added.entries;
        builds = i.added.built (honest, begun);
        alike = walk_ends (MemCursorHolds c.args.cursor.now) i.added.entries
            (mem_position c.loop-alloc.cursor) off i.added.walked;
      };
  room = search rules;
  causes = search rules;
}
