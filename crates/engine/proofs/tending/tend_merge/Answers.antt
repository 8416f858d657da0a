use Rattle.std.proofs.Common.{arith}
use Rattle.std.proofs.lemmas.Grind.{common_steps}
use Rattle.std.proofs.Common.{◌≡◌, ◌∙◌, None, Ok, Some, inl, inr, refl, rules, subst, sym}
use Rattle.compaction.specs.{picked, turn_key}
use Rattle.disk.specs.{IsEnvironmental}
use Rattle.store_tables.specs.declared.error.EngineError.TheVariants as engine
use Rattle.store_tables.specs.Errors.{IsEnd}
use Rattle.store_tables.specs.RefusalLemmas.{done, if_refuses, lacks_memory, on_ok}
use Rattle.store_tables.specs.RefusalLemmas.{refuses}
use Rattle.store_files.specs.declared.tended.Tended.TheVariants as tended
use Rattle.store_files.specs.OpenFiles.{known_version}
use Rattle.table_files.specs.{inner_disk}
use Rattle.engine.specs.DamagedInputs.{AnInputIsDamaged}
use Rattle.engine.specs.MergeParts.{HasDamagedInput, IsPartRefusal, IsTendedFile as file}
use Rattle.engine.specs.MergeParts.{KeepsMerge}
use Rattle.engine.specs.UnderWay.{HoldsWithMerge, WasMeantWithMerge}
use Rattle.engine.proofs.PartBegins.{begins, goes_on, inputs_due, inputs_under_way, never_idle}
use Rattle.engine.proofs.PartBegins.{rests, turn_over}
use Rattle.engine.proofs.PartFiles.{raised_within}
use Rattle.engine.proofs.Parts.{part_answers, part_none, part_refused, part_wider}
use Rattle.engine.proofs.tending.tend_merge.Goals as goal

-- ---- a merge goes on

pub returns-in-Some-clause-kept : goal.returns-in-Some-clause-kept
returns-in-Some-clause-kept g c =
    let some = sym c.take.ensures.value ∙ c.in-Some.is in
    part_wider g.D.Disk c.args.files.now c.continue_merge.new.files c.args.store.now
    c.continue_merge.new.store c.continue_merge.result
    (subst (λ m. KeepsMerge g.D.Disk
    (HasDamagedInput g.D.Disk c.args.files.now c.in-Some.it) (λ _. c.continue_merge.new.place) m
    c.args.files.now c.continue_merge.new.files c.args.store.now c.continue_merge.new.store
    c.continue_merge.result) (sym some) c.continue_merge.ensures.kept)
    (λ it one. file.IsOfMerge one) (λ P p. inl p) (λ cause. cause)
    (λ damage. subst (AnInputIsDamaged (g.D.Disk.state (inner_disk c.args.files.now)))
    (sym (inputs_under_way c.args.limits.now c.args.store.now c.args.merge.now c.args.turn.now
    c.in-Some.it some)) damage) (λ list h. h) (λ list m. m)

pub returns-in-Some-clause-did : goal.returns-in-Some-clause-did
returns-in-Some-clause-did g c =
    goes_on g.D.Disk c.args.limits.now c.args.floor c.args.files.now c.continue_merge.new.files
    c.args.store.now c.continue_merge.new.store c.args.merge.now c.continue_merge.new.place
    c.args.turn.now c.in-Some.it (sym c.take.ensures.value ∙ c.in-Some.is)
    c.continue_merge.result c.continue_merge.ensures.did

pub returns-in-Some-clause-rests : goal.returns-in-Some-clause-rests
returns-in-Some-clause-rests g c =
    never_idle g.D.Disk c.args.files.now c.continue_merge.new.files c.args.store.now
    c.continue_merge.new.store c.in-Some.it c.continue_merge.new.place
    (c.continue_merge.new.files ≡ c.args.files.now) c.continue_merge.result
    c.continue_merge.ensures.did

-- ---- none is due

pub returns-in_default-pick-clause-kept : goal.returns-in_default-pick-clause-kept
returns-in_default-pick-clause-kept g c =
    let disk = g.D.Disk.state (inner_disk c.args.files.now) in
    let store = c.args.store.now in
    let laws = c.held_files_are_left.ensures in
    let none : c.args.merge.now ≡ None = search rules in
    let same = none ∙ sym c.take.ensures.after in
    part_none g.D.Disk c.args.files.now store (Ok tended.Idle) done (λ P p. inl p)
    c.requires.usable tt
    (λ list h. subst (λ m. HoldsWithMerge g.D.Disk c.args.files.now store m list) same h)
    (λ list h. laws.held.crash disk store list h.held)
    (λ list m. subst (λ m. WasMeantWithMerge g.D.Disk c.args.files.now store m list) same m)
    (λ list m. laws.meant.crash disk store list m.was)

pub returns-in_default-pick-clause-did : goal.returns-in_default-pick-clause-did
returns-in_default-pick-clause-did g c =
    let none : c.args.merge.now ≡ None = search rules in
    rests g.D.Disk c.args.limits.now c.args.floor c.args.files.now c.args.store.now
    c.args.merge.now c.take.new.self c.args.turn.now none c.take.ensures.after
    (subst (λ v. picked c.args.limits.now.l0 c.args.limits.now.level (turn_key c.args.turn.now)
    v.version ≡ None) c.state.ensures (sym c.pick.ensures.due ∙ c.in_default-pick.is))

pub returns-in_err-key-clause-kept : goal.returns-in_err-key-clause-kept
returns-in_err-key-clause-kept g c =
    let disk = g.D.Disk.state (inner_disk c.args.files.now) in
    let store = c.args.store.now in
    let laws = c.held_files_are_left.ensures in
    let result = c.from_residual.result in
    let told = c.from_residual.ensures.1 in
    part_none g.D.Disk c.args.files.now store result (lacks_memory result told) (λ P p. inl p)
    (on_ok result c.requires.usable) (if_refuses result IsEnd told tt)
    (λ list h. refuses result _ (IsEnvironmental engine.Disk engine.Memory) told (inr refl))
    (λ list h. laws.held.crash disk store list h.held)
    (λ list m. refuses result _ (IsPartRefusal _) told (inl (inr refl)))
    (λ list m. laws.meant.crash disk store list m.was)

-- ---- a merge begins

pub begin-requires-clause-picked : goal.begin-requires-clause-picked
begin-requires-clause-picked g c = record {
  most = c.args.limits.now.l0;
  base = c.args.limits.now.level;
  turn = turn_key c.args.turn.now;
  is = subst (λ v. picked c.args.limits.now.l0 c.args.limits.now.level (turn_key c.args.turn.now)
      v.version ≡ Some c.in-Some-pick.plan) c.state.ensures
      (sym c.pick.ensures.due ∙ c.in-Some-pick.is);
}

pub returns-in_err-begun-clause-kept : goal.returns-in_err-begun-clause-kept
returns-in_err-begun-clause-kept g c =
    let none : c.args.merge.now ≡ None = search rules in
    let due = subst (λ v. picked c.args.limits.now.l0 c.args.limits.now.level
    (turn_key c.args.turn.now) v.version ≡ Some c.in-Some-pick.plan) c.state.ensures
    (sym c.pick.ensures.due ∙ c.in-Some-pick.is) in
    part_wider g.D.Disk c.args.files.now c.begin.new.files c.args.store.now
    c.begin.new.store c.from_residual-in_err-begun.result
    (part_refused g.D.Disk c.args.files.now c.begin.new.files c.args.store.now
    c.begin.new.store c.begin.result c.in_err-begun.field-0.0
    c.from_residual-in_err-begun.result c.in_err-begun.was
    c.from_residual-in_err-begun.ensures.1 c.begin.ensures.kept)
    (raised_within c.args.store.now c.args.merge.now c.args.floor) (λ P p. p) (λ full. inl full)
    (λ damage. subst (AnInputIsDamaged (g.D.Disk.state (inner_disk c.args.files.now)))
    (sym (inputs_due c.args.limits.now c.args.store.now c.args.merge.now c.args.turn.now
    c.in-Some-pick.plan none due)) damage)
    (λ list h. h.held) (λ list m. m.was)

pub returns-clause-kept : goal.returns-clause-kept
returns-clause-kept g c =
    let none : c.args.merge.now ≡ None = search rules in
    let due = subst (λ v. picked c.args.limits.now.l0 c.args.limits.now.level
    (turn_key c.args.turn.now) v.version ≡ Some c.in-Some-pick.plan) c.state.ensures
    (sym c.pick.ensures.due ∙ c.in-Some-pick.is) in
    let after = sym c.replace.ensures.after in
    part_wider g.D.Disk c.args.files.now c.begin.new.files c.args.store.now
    c.begin.new.store (Ok tended.Worked)
    (part_answers g.D.Disk c.args.files.now c.begin.new.files c.args.store.now
    c.begin.new.store c.begin.result c.in_ok-begun.begun tended.Worked
    c.in_ok-begun.was c.begin.ensures.kept
    (λ list h. subst (λ m. HoldsWithMerge g.D.Disk c.begin.new.files c.begin.new.store
    m list) after h)
    (λ list m. subst (λ m. WasMeantWithMerge g.D.Disk c.begin.new.files
    c.begin.new.store m list) after m))
    (raised_within c.args.store.now c.args.merge.now c.args.floor) (λ P p. p) (λ full. inl full)
    (λ damage. subst (AnInputIsDamaged (g.D.Disk.state (inner_disk c.args.files.now)))
    (sym (inputs_due c.args.limits.now c.args.store.now c.args.merge.now c.args.turn.now
    c.in-Some-pick.plan none due)) damage)
    (λ list h. h.held) (λ list m. m.was)

pub returns-clause-did : goal.returns-clause-did
returns-clause-did g c =
    let none : c.args.merge.now ≡ None = search rules in
    let due = subst (λ v. picked c.args.limits.now.l0 c.args.limits.now.level
    (turn_key c.args.turn.now) v.version ≡ Some c.in-Some-pick.plan) c.state.ensures
    (sym c.pick.ensures.due ∙ c.in-Some-pick.is) in
    let lines : c.deref.result.now ≡ (known_version c.args.store.now).version.tables =
    search rules in
    begins g.D.Disk c.args.limits.now c.args.floor c.args.files.now c.begin.new.files
    c.args.store.now c.begin.new.store c.args.merge.now c.replace.new.self c.args.turn.now
    c.end_turn.new.turn c.in-Some-pick.plan c.begin.result c.in_ok-begun.begun
    c.in_ok-begun.was c.begin.ensures.did c.begin.ensures.aims none c.replace.ensures.after due
    (turn_over c.in-Some-pick.plan c.deref.result.now _ lines c.args.turn.now c.end_turn.new.turn
    c.in_ok-key.key c.in_ok-key.ensures c.end_turn.ensures)

pub returns-in_default-pick-clause-rests : goal.returns-in_default-pick-clause-rests
returns-in_default-pick-clause-rests g c = grind (arith, common_steps)

pub returns-in_err-key-clause-did : goal.returns-in_err-key-clause-did
returns-in_err-key-clause-did g c = grind (arith, common_steps)

pub returns-in_err-key-clause-rests : goal.returns-in_err-key-clause-rests
returns-in_err-key-clause-rests g c = grind (arith, common_steps)

pub returns-in_err-begun-clause-did : goal.returns-in_err-begun-clause-did
returns-in_err-begun-clause-did g c = grind (arith, common_steps)

pub returns-in_err-begun-clause-rests : goal.returns-in_err-begun-clause-rests
returns-in_err-begun-clause-rests g c = grind (arith, common_steps)

pub returns-clause-rests : goal.returns-clause-rests
returns-clause-rests g c = grind (arith, common_steps)
