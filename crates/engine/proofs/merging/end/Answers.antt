use Rattle.std.proofs.Common.{arith}
use Rattle.std.proofs.lemmas.Grind.{common_steps}
use Rattle.std.proofs.Common.{◌≡◌, Err, None, Ok, Some, inl, refl, rules, subst, sym}
use Rattle.std.specs.Prelude.{IfOk, IfSome}
use Rattle.store_files.specs.declared.tended.Tended.TheVariants as tended
use Rattle.store_files.specs.Merging.{MayMerge}
use Rattle.engine.specs.MergeParts.{KeepsMerge, MergeHasEnded}
use Rattle.engine.proofs.PartDid.{given_up_here, merged_here}
use Rattle.engine.proofs.PartFiles.{began_late, leftover_within, meant_late, merged_within}
use Rattle.engine.proofs.Parts.{part_and, part_installed, part_refused, part_then}
use Rattle.engine.proofs.merging.end.Goals as goal

-- ---- its edit is recorded

pub returns-in-Ok-Some-clause-kept : goal.returns-in-Ok-Some-clause-kept
returns-in-Ok-Some-clause-kept g c =
    let is : c.complete.result ≡ Ok (Some c.in-Ok-Some.edit) = search rules in
    let fit = subst (λ r. IfOk r (λ made. IfSome made (λ edit. MayMerge c.args.store.now edit
    × (edit.tables_gone ≡ c.args.merge.gone.items)))) is c.complete.ensures.fit in
    subst (λ r. KeepsMerge g.D.Disk ⊥ (λ _. None) (Some c.args.merge) c.args.files.now
    c.install_merge-installed.new.disk c.args.store.now c.install_merge-installed.new.self r)
    (sym c.and.ensures)
    (part_then g.D.Disk c.args.files.now c.complete.new.files c.install_merge-installed.new.disk
    c.args.store.now c.args.store.now c.install_merge-installed.new.self c.complete.result
    (Some c.in-Ok-Some.edit) _ is c.complete.ensures.kept
    (part_installed g.D.Disk c.complete.new.files c.install_merge-installed.new.disk
    c.args.store.now c.install_merge-installed.new.self c.in-Ok-Some.edit
    c.install_merge-installed.result tended.Worked c.install_merge-installed.ensures.merges)
    (merged_within c.args.store.now c.args.merge c.in-Ok-Some.edit fit.1) (λ full. inl full)
    (λ none. none)
    (λ list was h. h) (λ list was m. m))

pub returns-in-Ok-Some-clause-did : goal.returns-in-Ok-Some-clause-did
returns-in-Ok-Some-clause-did g c =
    let is : c.complete.result ≡ Ok (Some c.in-Ok-Some.edit) = search rules in
    subst (λ r. IfOk r (MergeHasEnded g.D.Disk c.args.files.now c.install_merge-installed.new.disk
    c.args.store.now c.install_merge-installed.new.self c.args.merge)) (sym c.and.ensures)
    (merged_here g.D.Disk c.args.files.now c.install_merge-installed.new.disk c.args.store.now
    c.install_merge-installed.new.self c.args.merge c.complete.result c.complete.ensures.ends
    c.in-Ok-Some.edit is c.install_merge-installed.result
    c.install_merge-installed.ensures.merges.did
    (λ honest. c.install_merge-installed.ensures.gone
    (c.complete.ensures.kept.kept.honest.1 honest)))

-- ---- it is given up

pub returns-in-Ok-None-clause-kept : goal.returns-in-Ok-None-clause-kept
returns-in-Ok-None-clause-kept g c =
    let is : c.complete.result ≡ Ok None = search rules in
    subst (λ r. KeepsMerge g.D.Disk ⊥ (λ _. None) (Some c.args.merge) c.args.files.now
    c.abandon.new.files c.args.store.now c.abandon.new.store r) (sym c.and-in-Ok-None.ensures)
    (part_then g.D.Disk c.args.files.now c.complete.new.files c.abandon.new.files
    c.args.store.now c.args.store.now c.abandon.new.store c.complete.result None _ is
    c.complete.ensures.kept
    (part_and g.D.Disk c.complete.new.files c.abandon.new.files c.args.store.now
    c.abandon.new.store c.abandon.result tended.Full c.abandon.ensures.kept (λ _ list h. h)
    (λ _ list m. m))
    (leftover_within c.args.store.now c.args.merge c.complete.new.merge c.complete.ensures.first)
    (λ none. absurd none) (λ none. none) (λ list was h. (
      began_late g.D.Disk c.args.files.now c.args.store.now c.args.merge c.complete.new.merge list
          c.complete.ensures.first was,
      record { held = h; merges = tt },
    )) (λ list was m. (
      meant_late g.D.Disk c.args.files.now c.args.store.now c.args.merge c.complete.new.merge list
          c.complete.ensures.first was,
      record { was = m; merges = tt },
    )))

pub returns-in-Ok-None-clause-did : goal.returns-in-Ok-None-clause-did
returns-in-Ok-None-clause-did g c =
    let is : c.complete.result ≡ Ok None = search rules in
    subst (λ r. IfOk r (MergeHasEnded g.D.Disk c.args.files.now c.abandon.new.files
    c.args.store.now c.abandon.new.store c.args.merge)) (sym c.and-in-Ok-None.ensures)
    (given_up_here g.D.Disk c.args.files.now c.abandon.new.files c.args.store.now
    c.abandon.new.store c.args.merge c.complete.result c.complete.ensures.ends
    c.complete.new.files c.complete.new.merge c.complete.ensures.first
    c.complete.ensures.kept.kept.honest.1 is c.abandon.result c.abandon.ensures.freed
    c.abandon.ensures.removed)

-- ---- it is refused

pub returns-in-Err-clause-kept : goal.returns-in-Err-clause-kept
returns-in-Err-clause-kept g c =
    part_refused g.D.Disk c.args.files.now c.complete.new.files c.args.store.now c.args.store.now
    c.complete.result c.in-Err.e (Err c.in-Err.e) c.in-Err.is refl c.complete.ensures.kept

pub returns-in-Err-clause-did : goal.returns-in-Err-clause-did
returns-in-Err-clause-did g c = grind (arith, common_steps)
