use Rattle.std.proofs.Common.{arith}
use Rattle.std.proofs.lemmas.Grind.{common_steps}
use Rattle.std.proofs.Common.{◌≡◌, ap, refl, subst, sym}
use Rattle.disk.specs.MomentsLemmas.{none_yet}
use Rattle.manifest.specs.{NodeVersion}
use Rattle.compaction.specs.Outputs.{IsLeftBeyond}
use Rattle.disk.specs.KeepingLemmas.{kept_as, neither, unchanged}
use Rattle.store_tables.specs.RefusalLemmas.{lacks_memory}
use Rattle.store_files.specs.OpenFiles.{known_version}
use Rattle.engine.specs.BeginParts.{BeginsMerge}
use Rattle.engine.specs.LentFiles.{files_ghosts}
use Rattle.engine.proofs.Begins.{begins_merge}
use Rattle.engine.proofs.merging.begin_raised.Goals as goal

-- no call was made
pub returns-in_err-cursors-clause-writes : goal.returns-in_err-cursors-clause-writes
returns-in_err-cursors-clause-writes g c =
    let files = files_ghosts g.D.Disk in
    let a = c.args.files.now in
    record {
      kept = kept_as files
          (neither (λ no. no) (lacks_memory c.from_residual.result c.from_residual.ensures.1))
          (λ old new same. same) (unchanged files (λ disk file apart. refl));
      any_moment = λ honest. none_yet (IsLeftBeyond (λ _. ⊥) (files.state a)) (files.state a)
          (files.past a) (λ left at file apart. at file);
    }

-- the cursors are over the inputs of the plan, and the answer is passed on
pub returns-clause-begins : goal.returns-clause-begins
returns-clause-begins g c =
    let version = ap (λ (v : NodeVersion). v.version.tables) c.state-version.ensures in
    let lines : c.deref.result.now ≡ (known_version c.args.store.now).version.tables =
    cc (
      c.deref.ensures.value,
      ap (λ (v : NodeVersion). v.version.tables) c.version.view_is,
      version,
    ) in
    subst (BeginsMerge g.D.Disk c.args.plan c.args.files.now c.begin-begun.new.files
    c.args.store.now) (sym c.answer_of.ensures)
    (begins_merge g.D.Disk c.args.store.now c.args.plan c.picks_are_planned.ensures
    c.plans_fit.ensures c.versions_name_own_files.ensures c.requires.picked c.args.files.now
    c.begin-begun.new.files c.in_ok-cursors.cursors.items c.state-version.result.now
    c.free_file-next.result c.deref.result.now c.state-version.ensures c.free_file-next.ensures
    lines c.in_ok-cursors.ensures.over
    (λ honest file. c.begin-begun.ensures.reads.kept.files honest file (λ no. no))
    c.begin-begun.result c.begin-begun.ensures.begun c.begin-begun.ensures.first)

pub returns-in_err-cursors-clause-refused : goal.returns-in_err-cursors-clause-refused
returns-in_err-cursors-clause-refused g c = grind (arith, common_steps)

pub returns-in_err-cursors-clause-first : goal.returns-in_err-cursors-clause-first
returns-in_err-cursors-clause-first g c = grind (arith, common_steps)

pub returns-in_err-cursors-clause-aims : goal.returns-in_err-cursors-clause-aims
returns-in_err-cursors-clause-aims g c = grind (arith, common_steps)

pub returns-in_err-cursors-clause-begins : goal.returns-in_err-cursors-clause-begins
returns-in_err-cursors-clause-begins g c = grind (arith, common_steps)

pub returns-clause-refused : goal.returns-clause-refused
returns-clause-refused g c = grind (arith, common_steps)

pub returns-clause-first : goal.returns-clause-first
returns-clause-first g c = grind (arith, common_steps)

pub returns-clause-aims : goal.returns-clause-aims
returns-clause-aims g c = grind (arith, common_steps)
