use Rattle.std.proofs.Common.{ℕ, List, subst, sym}
use Rattle.disk.specs.{IsEnvironmental}
use Rattle.disk.specs.Calls.{ListsFiles}
use Rattle.store_model.specs.PlacesLemmas.{contains_head}
use Rattle.store_tables.specs.declared.error.EngineError.TheVariants as engine
use Rattle.disk.specs.KeepingLemmas.{kept_as, neither}
use Rattle.store_tables.specs.RefusalLemmas.{refuses}
use Rattle.store_tables.specs.RefusalLemmas.{done}
use Rattle.store_files.proofs.Removals.{AreLeft, alone_left, is_kept, listed, listing_moments}
use Rattle.store_files.proofs.Removals.{no_items, not_kept, passed_left}
use Rattle.store_files.proofs.Removals.{removal_moments, removal_then, removals_end, removed_left}
use Rattle.store_files.proofs.Settles.{disk_failed, disk_works, there_machine}
use Rattle.store_files.proofs.settling.remove_others.Goals as goal

-- the files are listed
pub returns-in_err-file-items-clause-any_moment : goal.returns-in_err-file-items-clause-any_moment
returns-in_err-file-items-clause-any_moment g c =
    listing_moments g.D.Disk c.args.kept.now c.args.disk.now c.files.new.self
    (λ honest. (c.files.ensures.passes honest).moment) c.files.ensures.kept.disk.files

pub loop-file-init : goal.loop-file-init
loop-file-init g c = record {
  done = listed g.D.Disk c.args.kept.now c.args.disk.now c.files.new.self
      c.into_iter-file-iterator.result.rest.items c.files.ensures.kept.disk
      (disk_works c.in_ok-file-items.was) (λ honest. (c.files.ensures.passes honest).moment)
      (λ honest. subst (λ (l : List ℕ). ListsFiles (g.D.Disk.state c.args.disk.now) l)
      (sym c.into_iter-file-iterator.ensures.into_iter_gives.0)
      (c.in_ok-file-items.ensures.files honest));
}

-- one file more is removed
pub loop-file-preserved-in-Continue-branch-2 : goal.loop-file-preserved-in-Continue-branch-2
loop-file-preserved-in-Continue-branch-2 g c =
    let before = c.loop-file.invariant.done in
    let file = c.in-Some.file in
    let unkept = not_kept c.args.kept.now file c.contains.result c.contains.ensures.cases
    c.if-not-contains.true in
    record {
      done = record {
        calls = removal_then g.D.Disk c.args.kept.now c.args.disk.now c.loop-file.disk before file
            unkept (kept_as g.D.Disk (neither (disk_works c.in_ok-remove.was) (λ fails. fails))
            (λ a b same. same) c.remove.ensures.kept.disk);
        moments = removal_moments g.D.Disk c.args.kept.now c.args.disk.now c.loop-file.disk before
            file unkept c.remove.ensures.kept.disk
            (λ honest. (c.remove.ensures.passes honest).moment);
        rest = λ honest. removed_left (g.D.Disk.state c.loop-file.disk)
            (g.D.Disk.state c.remove.new.self) c.args.kept.now file c.next.new.self.rest.items
            (c.in_ok-remove.ensures.removes (before.calls.honest.1 honest)).1
            (subst (λ (l : List ℕ). AreLeft (g.D.Disk.state c.loop-file.disk) c.args.kept.now l)
            c.in-Some.ensures.steps.0 (before.rest honest));
      };
    }

-- the removal was refused
pub returns-in_err-remove-clause-kept : goal.returns-in_err-remove-clause-kept
returns-in_err-remove-clause-kept g c =
    let file = c.in-Some.file in
    removal_then g.D.Disk c.args.kept.now c.args.disk.now c.loop-file.disk
    c.loop-file.invariant.done file
    (not_kept c.args.kept.now file c.contains.result c.contains.ensures.cases
    c.if-not-contains.true)
    (kept_as g.D.Disk (disk_failed c.remove.result c.in_err-remove.field-0.0
    c.from_residual-in_err-remove.result c.in_err-remove.was
    c.from_residual-in_err-remove.ensures.1) (λ a b same. same) c.remove.ensures.kept.disk)

pub returns-in_err-remove-clause-alone : goal.returns-in_err-remove-clause-alone
returns-in_err-remove-clause-alone g c = λ honest.
    let s1 = g.D.Disk.state c.loop-file.disk in
    let file = c.in-Some.file in
    let before = c.loop-file.invariant.done in
    let left = subst (λ (l : List ℕ). AreLeft s1 c.args.kept.now l) c.in-Some.ensures.steps.0
    (before.rest honest) in
    refuses c.from_residual-in_err-remove.result _ (IsEnvironmental engine.Disk engine.Memory)
    c.from_residual-in_err-remove.ensures.1
    (there_machine c.in_err-remove.field-0.0 s1 file
    (left.there file (contains_head file c.next.new.self.rest.items))
    (c.in_err-remove.ensures.removes (before.calls.honest.1 honest)).1)

pub returns-in_err-remove-clause-any_moment : goal.returns-in_err-remove-clause-any_moment
returns-in_err-remove-clause-any_moment g c =
    let file = c.in-Some.file in
    removal_moments g.D.Disk c.args.kept.now c.args.disk.now c.loop-file.disk
    c.loop-file.invariant.done file
    (not_kept c.args.kept.now file c.contains.result c.contains.ensures.cases
    c.if-not-contains.true) c.remove.ensures.kept.disk
    (λ honest. (c.remove.ensures.passes honest).moment)

-- a file that is kept is passed over
pub loop-file-preserved : goal.loop-file-preserved
loop-file-preserved g c =
    let before = c.loop-file.invariant.done in
    let file = c.in-Some.file in
    record {
      done = record {
        calls = before.calls;
        moments = before.moments;
        rest = λ honest. passed_left (g.D.Disk.state c.loop-file.disk) c.args.kept.now file
            c.next.new.self.rest.items (is_kept c.args.kept.now file c.contains.result
            c.contains.ensures.cases c.if-not-contains.false)
            (subst (λ (l : List ℕ). AreLeft (g.D.Disk.state c.loop-file.disk) c.args.kept.now l)
            c.in-Some.ensures.steps.0 (before.rest honest));
      };
    }

-- all files were passed
pub returns-clause-kept : goal.returns-clause-kept
returns-clause-kept g c =
    removals_end g.D.Disk c.args.kept.now c.args.disk.now c.loop-file.disk
    c.loop-file.invariant.done done

pub returns-clause-alone : goal.returns-clause-alone
returns-clause-alone g c = λ honest.
    let left = c.loop-file.file-iterator.rest in
    alone_left (g.D.Disk.state c.loop-file.disk) c.args.kept.now left.items
    (no_items left.items left.len left.ok.0 c.in-None.ensures.steps.0)
    (c.loop-file.invariant.done.rest honest)

pub returns-clause-any_moment : goal.returns-clause-any_moment
returns-clause-any_moment g c = c.loop-file.invariant.done.moments
