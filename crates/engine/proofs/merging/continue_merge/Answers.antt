use Rattle.std.proofs.Common.{◌≡◌, Err, None, Ok, Some, refl, rules, subst, sym}
use Rattle.std.specs.Prelude.{IfOk}
use Rattle.compaction.specs.Merges.{HasEntriesLeft}
use Rattle.store_files.specs.declared.tended.Tended.TheVariants as tended
use Rattle.engine.specs.LentFiles.{files_ghosts, union_ghosts}
use Rattle.engine.specs.declared.merging.Progress.TheVariants as progress
use Rattle.engine.specs.MergeParts.{HasDamagedInput, KeepsMerge}
use Rattle.engine.specs.Tends.{ContinuesAsPlanned}
use Rattle.engine.specs.UnderWay.{HoldsWithMerge, WasMeantWithMerge}
use Rattle.engine.proofs.PartDid.{ended, had_no_room, stepped}
use Rattle.engine.proofs.PartFiles.{began_late, may_fail_behind, meant_late, same_manifest}
use Rattle.engine.proofs.PartFiles.{went_leftover, went_within}
use Rattle.engine.proofs.Parts.{part_and, part_answers, part_refused, part_then}
use Rattle.engine.proofs.merging.continue_merge.Goals as goal

-- ---- entries are left

pub returns-in-Ok-More-clause-kept : goal.returns-in-Ok-More-clause-kept
returns-in-Ok-More-clause-kept g c =
    let is : c.advance.result ≡ Ok progress.More = search rules in
    let after = sym c.replace.ensures.after in
    part_answers g.D.Disk c.args.files.now c.advance.new.files c.args.store.now
    c.advance.new.store c.advance.result progress.More tended.Worked is c.advance.ensures.kept
    (λ list h. subst (λ m. HoldsWithMerge g.D.Disk c.advance.new.files c.advance.new.store m list)
    after h)
    (λ list m. subst (λ m. WasMeantWithMerge g.D.Disk c.advance.new.files c.advance.new.store m
    list) after m)

pub returns-in-Ok-More-clause-did : goal.returns-in-Ok-More-clause-did
returns-in-Ok-More-clause-did g c =
    let is : c.advance.result ≡ Ok progress.More = search rules in
    stepped g.D.Disk c.args.files.now c.advance.new.files c.advance.new.files c.args.store.now
    c.advance.new.store c.advance.new.store c.args.merge c.advance.new.merge
    c.advance.ensures.goes_on c.advance.result c.advance.ensures.advances is c.replace.new.self
    c.replace.ensures.after

-- ---- it ends

pub end-requires-clause-done : goal.end-requires-clause-done
end-requires-clause-done g c =
    let is : c.advance.result ≡ Ok progress.Done = search rules in
    subst (λ r. IfOk r (λ p. p ≡ progress.Done →
    HasEntriesLeft (union_ghosts g.D.Disk) (files_ghosts g.D.Disk) c.advance.new.merge → ⊥)) is
    c.advance.ensures.done refl

pub returns-in-Ok-Done-clause-kept : goal.returns-in-Ok-Done-clause-kept
returns-in-Ok-Done-clause-kept g c =
    let is : c.advance.result ≡ Ok progress.Done = search rules in
    let on = c.advance.ensures.goes_on in
    subst (λ m. KeepsMerge g.D.Disk (HasDamagedInput g.D.Disk c.args.files.now c.args.merge)
    (λ _. m) (Some c.args.merge) c.args.files.now c.end.new.files
    c.args.store.now c.end.new.store c.end.result) (sym c.requires.none)
    (part_then g.D.Disk c.args.files.now c.advance.new.files c.end.new.files c.args.store.now
    c.advance.new.store c.end.new.store c.advance.result progress.Done c.end.result is
    c.advance.ensures.kept c.end.ensures.kept
    (went_within c.args.store.now c.advance.new.store c.args.merge c.advance.new.merge on)
    (may_fail_behind g.D.Disk c.args.files.now c.advance.new.files c.args.store.now
    c.advance.new.store (Some c.args.merge) (Some c.advance.new.merge) _ c.advance.result
    progress.Done is c.advance.ensures.kept refl
    (same_manifest c.args.store.now c.advance.new.store c.args.merge c.advance.new.merge on))
    (λ none. absurd none) (λ list was h. h) (λ list was m. m))

pub returns-in-Ok-Done-clause-did : goal.returns-in-Ok-Done-clause-did
returns-in-Ok-Done-clause-did g c =
    let is : c.advance.result ≡ Ok progress.Done = search rules in
    ended g.D.Disk c.args.files.now c.advance.new.files c.end.new.files c.args.store.now
    c.advance.new.store c.end.new.store c.args.merge c.advance.new.merge
    c.advance.ensures.goes_on c.advance.result c.advance.ensures.advances c.args.place.now
    c.requires.none c.advance.ensures.kept.kept.honest.1 is c.end.result c.end.ensures.did

-- ---- it has no room

pub returns-in-Ok-Full-clause-kept : goal.returns-in-Ok-Full-clause-kept
returns-in-Ok-Full-clause-kept g c =
    let is : c.advance.result ≡ Ok progress.Full = search rules in
    let on = c.advance.ensures.goes_on in
    let damage = HasDamagedInput g.D.Disk c.args.files.now c.args.merge in
    subst (λ m. KeepsMerge g.D.Disk damage (λ _. m) (Some c.args.merge) c.args.files.now
    c.abandon.new.files c.args.store.now c.abandon.new.store c.and.result) (sym c.requires.none)
    (subst (λ r. KeepsMerge g.D.Disk damage (λ _. None) (Some c.args.merge) c.args.files.now
    c.abandon.new.files c.args.store.now c.abandon.new.store r) (sym c.and.ensures)
    (part_then g.D.Disk c.args.files.now c.advance.new.files c.abandon.new.files c.args.store.now
    c.advance.new.store c.abandon.new.store c.advance.result progress.Full _ is
    c.advance.ensures.kept
    (part_and g.D.Disk c.advance.new.files c.abandon.new.files c.advance.new.store
    c.abandon.new.store c.abandon.result tended.Full c.abandon.ensures.kept (λ _ list h. h)
    (λ _ list m. m))
    (went_leftover c.args.store.now c.advance.new.store c.args.merge c.advance.new.merge on)
    (λ none. absurd none) (λ none. absurd none) (λ list was h. (
      began_late g.D.Disk c.args.files.now c.args.store.now c.args.merge c.advance.new.merge list
          on.first was,
      h,
    )) (λ list was m. (
      meant_late g.D.Disk c.args.files.now c.args.store.now c.args.merge c.advance.new.merge list
          on.first was,
      m,
    ))))

pub returns-in-Ok-Full-clause-did : goal.returns-in-Ok-Full-clause-did
returns-in-Ok-Full-clause-did g c =
    let is : c.advance.result ≡ Ok progress.Full = search rules in
    subst (λ r. IfOk r (ContinuesAsPlanned g.D.Disk c.args.files.now c.abandon.new.files
    c.args.store.now c.abandon.new.store c.args.merge c.args.place.now)) (sym c.and.ensures)
    (had_no_room g.D.Disk c.args.files.now c.advance.new.files c.abandon.new.files
    c.args.store.now c.advance.new.store c.abandon.new.store c.args.merge c.advance.new.merge
    c.advance.ensures.goes_on c.advance.result c.advance.ensures.advances c.args.place.now
    c.requires.none c.advance.ensures.kept.kept.honest.1 is c.abandon.result
    c.abandon.ensures.freed c.abandon.ensures.removed)

-- ---- it is refused

pub returns-in-Err-clause-kept : goal.returns-in-Err-clause-kept
returns-in-Err-clause-kept g c =
    part_refused g.D.Disk c.args.files.now c.advance.new.files c.args.store.now
    c.advance.new.store c.advance.result c.in-Err.e (Err c.in-Err.e) c.in-Err.is refl
    c.advance.ensures.kept
