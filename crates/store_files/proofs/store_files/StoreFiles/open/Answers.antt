use Rattle.std.proofs.Common.{◌∙◌, ℕ, List, ap, inl, inr, refl, subst, sym, rules}
use Rattle.manifest.specs.{NodeVersion}
use Rattle.store_tables.specs.declared.error.EngineError.TheVariants as engine
use Rattle.disk.specs.KeepingLemmas.{answered, kept_as, kept_behind, neither}
use Rattle.store_tables.specs.declared.error.EngineError.{EngineError}
use Rattle.store_files.specs.OpenFiles.{AreUsableFiles, FilesOpenAs, IsOpeningError}
use Rattle.store_files.specs.OpenFiles.{OpeningRefusal}
use Rattle.store_files.specs.Openings.{kept_files}
use Rattle.disk.specs.{Contents, IsEnvironmental, contents, seen}
use Rattle.store_files.specs.Settling.{AreSwept, IsReadAlike}
use Rattle.store_files.specs.StoreFiles.{IsOneOf, WereOneOf}
use Rattle.store_tables.specs.RefusalLemmas.{answers_nothing, done, lacks_memory}
use Rattle.store_tables.specs.RefusalLemmas.{if_refuses, passed_on, refuses}
use Rattle.store_files.proofs.StillFiles.{settled_as, still_keeps}
use Rattle.store_files.proofs.MeantOpenings.{settled_as_meant}
use Rattle.store_files.proofs.OpenMoments.{settling_keeps_each}
use Rattle.store_files.proofs.SparedFiles.{for_cause, only_read, then_removed}
use Rattle.store_files.proofs.store_files.StoreFiles.open.Goals as goal

-- the files that are read are those that the disk represents
pub returns-in_err-files-clause-opens : goal.returns-in_err-files-clause-opens
returns-in_err-files-clause-opens g c = record {
  kept = search rules;
  causes = if_refuses c.from_residual.result IsOpeningError c.from_residual.ensures.1
      c.in_err-files.ensures.opens.causes;
  opened = λ facts list honest. record {
    whole = λ represents. refuses c.from_residual.result _
        (IsEnvironmental engine.Disk engine.Memory)
        c.from_residual.ensures.1
        ((c.in_err-files.ensures.opens.opened facts list honest).whole represents);
    meant = λ were. answers_nothing c.from_residual.result _ _ c.from_residual.ensures.1;
  };
  told = search rules;
  usable = search rules;
}

-- an external refusal says nothing of the files
external : (e : EngineError) (left : Contents) → IsEnvironmental engine.Disk engine.Memory e →
    OpeningRefusal e left
external e left (inl is) = subst (λ (s : EngineError). OpeningRefusal s left) (sym is) tt
external e left (inr is) = subst (λ (s : EngineError). OpeningRefusal s left) (sym is) tt

-- memory was out
pub returns-in_err-kept-clause-opens : goal.returns-in_err-kept-clause-opens
returns-in_err-kept-clause-opens g c =
    let result = c.from_residual-in_err-kept.result in
    let refused = c.from_residual-in_err-kept.ensures.1 in
    let left = contents (g.D.Disk.state c.args.disk.now) in
    record {
      kept = kept_as g.D.Disk (neither (answered c.read_files.result c.in_ok-files.was)
          (lacks_memory result refused)) (λ a b same. tt) c.read_files.ensures.opens.kept;
      causes = if_refuses result IsOpeningError refused (inl tt);
      opened = λ facts list honest. record {
        whole = λ represents. refuses result _
            (IsEnvironmental engine.Disk engine.Memory) refused (inr refl);
        meant = λ were. answers_nothing result _ _ refused;
      };
      told = λ honest. refuses result (FilesOpenAs left) (λ e. OpeningRefusal e left) refused tt;
      usable = answers_nothing result _ AreUsableFiles refused;
    }

-- the other files were not removed
pub returns-in_err-remove_others-clause-opens : goal.returns-in_err-remove_others-clause-opens
returns-in_err-remove_others-clause-opens g c =
    let result = c.from_residual-in_err-remove_others.result in
    let refused = c.from_residual-in_err-remove_others.ensures.1 in
    let e = c.in_err-remove_others.field-0.0 in
    let left = contents (g.D.Disk.state c.args.disk.now) in
    let before = c.read_files.ensures.opens.kept in
    record {
      kept = kept_behind g.D.Disk (λ a b d before after. tt) before
          (answered c.read_files.result c.in_ok-files.was) (kept_as g.D.Disk
          (passed_on c.remove_others.result e result c.in_err-remove_others.was refused)
          (λ a b spares. spares) c.remove_others.ensures.kept);
      causes = if_refuses result IsOpeningError refused
          (inl c.in_err-remove_others.ensures.causes);
      opened = λ facts list honest. record {
        whole = λ represents. refuses result _ (IsEnvironmental engine.Disk engine.Memory) refused
            (c.in_err-remove_others.ensures.alone (before.honest.1 honest));
        meant = λ were. answers_nothing result _ _ refused;
      };
      told = λ honest. refuses result (FilesOpenAs left) (λ s. OpeningRefusal s left) refused
          (external e left (c.in_err-remove_others.ensures.alone (before.honest.1 honest)));
      usable = answers_nothing result _ AreUsableFiles refused;
    }

pub returns-clause-opens : goal.returns-clause-opens
returns-clause-opens g c = record {
  kept = kept_behind g.D.Disk (λ a b d before after. tt) c.read_files.ensures.opens.kept
      (answered c.read_files.result c.in_ok-files.was) (kept_as g.D.Disk
      (neither (answered c.remove_others.result c.in_ok-remove_others.was) done)
      (λ a b spares. spares) c.remove_others.ensures.kept);
  causes = tt;
  opened = λ facts list honest.
      let s1 = g.D.Disk.state c.read_files.new.disk in
      let s2 = g.D.Disk.state c.remove_others.new.disk in
      let honest1 = c.read_files.ensures.opens.kept.honest.1 honest in
      let files = c.in_ok-files.files in
      let is = c.deref.ensures.value ∙ c.in_ok-kept.ensures
      ∙ ap (λ (n : NodeVersion). kept_files n.version) c.state.ensures in
      record {
        whole = λ represents.
            let found = (c.in_ok-files.ensures.opens.opened facts list honest).whole represents in (
              found.0,
              settled_as c.held_versions_are_left.ensures.same list files c.deref.result.now s1 s2
                  found.1 is (c.remove_others.ensures.kept.files honest1)
                  (c.in_ok-remove_others.ensures.alone honest1),
            );
        meant = λ were.
            let found = (c.in_ok-files.ensures.opens.opened facts list honest).meant were in (
              found.0,
              settled_as_meant c.held_versions_are_left.ensures.same list files c.deref.result.now
                  s1 s2 found.1 is (c.remove_others.ensures.kept.files honest1)
                  (c.in_ok-remove_others.ensures.alone honest1),
            );
      };
  told = c.in_ok-files.ensures.opens.told;
  usable = c.in_ok-files.ensures.opens.usable;
}

-- no file is left that the version does not name, and those that it names read as before
pub returns-clause-swept : goal.returns-clause-swept
returns-clause-swept g c = λ honest.
    let s0 = g.D.Disk.state c.args.disk.now in
    let s1 = g.D.Disk.state c.read_files.new.disk in
    let s2 = g.D.Disk.state c.remove_others.new.disk in
    let honest1 = c.read_files.ensures.opens.kept.honest.1 honest in
    let alike : IsReadAlike s0 s1 = c.in_ok-files.ensures.alike honest in
    let spares = c.remove_others.ensures.kept.files honest1 in
    subst (λ (l : List ℕ). AreSwept l s0 s2)
    (c.deref.ensures.value ∙ c.in_ok-kept.ensures
    ∙ ap (λ (n : NodeVersion). kept_files n.version) c.state.ensures)
    (record {
      alike = λ file has. ap seen (spares file has) ∙ alike file;
      alone = c.in_ok-remove_others.ensures.alone honest1;
    })

-- at each moment the disk leaves only files of these stores
pub returns-in_err-files-clause-any_moment : goal.returns-in_err-files-clause-any_moment
returns-in_err-files-clause-any_moment g c = λ facts list facts' list' honest. record {
  whole = λ only. still_keeps (IsOneOf facts list facts' list') (g.D.Disk.state c.args.disk.now)
      (g.D.Disk.past c.args.disk.now) (g.D.Disk.state c.read_files.new.disk)
      (g.D.Disk.past c.read_files.new.disk) only (c.read_files.ensures.still honest);
  meant = λ only. still_keeps (WereOneOf facts list facts' list')
      (g.D.Disk.state c.args.disk.now) (g.D.Disk.past c.args.disk.now)
      (g.D.Disk.state c.read_files.new.disk) (g.D.Disk.past c.read_files.new.disk) only
      (c.read_files.ensures.still honest);
}

pub returns-in_err-kept-clause-any_moment : goal.returns-in_err-kept-clause-any_moment
returns-in_err-kept-clause-any_moment g c = λ facts list facts' list' honest. record {
  whole = λ only. still_keeps (IsOneOf facts list facts' list') (g.D.Disk.state c.args.disk.now)
      (g.D.Disk.past c.args.disk.now) (g.D.Disk.state c.read_files.new.disk)
      (g.D.Disk.past c.read_files.new.disk) only (c.read_files.ensures.still honest);
  meant = λ only. still_keeps (WereOneOf facts list facts' list')
      (g.D.Disk.state c.args.disk.now) (g.D.Disk.past c.args.disk.now)
      (g.D.Disk.state c.read_files.new.disk) (g.D.Disk.past c.read_files.new.disk) only
      (c.read_files.ensures.still honest);
}

pub returns-in_err-remove_others-clause-any_moment :
    goal.returns-in_err-remove_others-clause-any_moment
returns-in_err-remove_others-clause-any_moment g c = λ facts list facts' list' honest.
    let honest1 = c.read_files.ensures.opens.kept.honest.1 honest in
    let is = c.deref.ensures.value ∙ c.in_ok-kept.ensures
    ∙ ap (λ (n : NodeVersion). kept_files n.version) c.state.ensures in
    let each = settling_keeps_each facts list facts' list'
    c.held_versions_are_left.ensures.left c.version_is_one.ensures.one
    c.version_is_one.ensures.lawful c.in_ok-files.files c.deref.result.now
    (g.D.Disk.state c.args.disk.now) (g.D.Disk.state c.read_files.new.disk)
    (g.D.Disk.state c.remove_others.new.disk) (g.D.Disk.past c.args.disk.now)
    (g.D.Disk.past c.read_files.new.disk) (g.D.Disk.past c.remove_others.new.disk)
    (c.in_ok-files.ensures.held honest) is (c.read_files.ensures.still honest)
    (c.remove_others.ensures.any_moment honest1) in
    record { whole = each.0; meant = each.1 }

pub returns-clause-any_moment : goal.returns-clause-any_moment
returns-clause-any_moment g c = λ facts list facts' list' honest.
    let honest1 = c.read_files.ensures.opens.kept.honest.1 honest in
    let is = c.deref.ensures.value ∙ c.in_ok-kept.ensures
    ∙ ap (λ (n : NodeVersion). kept_files n.version) c.state.ensures in
    let each = settling_keeps_each facts list facts' list'
    c.held_versions_are_left.ensures.left c.version_is_one.ensures.one
    c.version_is_one.ensures.lawful c.in_ok-files.files c.deref.result.now
    (g.D.Disk.state c.args.disk.now) (g.D.Disk.state c.read_files.new.disk)
    (g.D.Disk.state c.remove_others.new.disk) (g.D.Disk.past c.args.disk.now)
    (g.D.Disk.past c.read_files.new.disk) (g.D.Disk.past c.remove_others.new.disk)
    (c.in_ok-files.ensures.held honest) is (c.read_files.ensures.still honest)
    (c.remove_others.ensures.any_moment honest1) in
    record { whole = each.0; meant = each.1 }

-- the reading leaves what there was, and the removals the files of the version
pub returns-in_err-files-clause-still : goal.returns-in_err-files-clause-still
returns-in_err-files-clause-still g c =
    only_read g.D.Disk c.args.disk.now c.read_files.new.disk c.read_files.ensures.still

pub returns-in_err-kept-clause-still : goal.returns-in_err-kept-clause-still
returns-in_err-kept-clause-still g c =
    only_read g.D.Disk c.args.disk.now c.read_files.new.disk c.read_files.ensures.still

pub returns-in_err-remove_others-clause-still : goal.returns-in_err-remove_others-clause-still
returns-in_err-remove_others-clause-still g c =
    let honest1 = c.read_files.ensures.opens.kept.honest.1 in
    then_removed g.D.Disk c.version_is_one.ensures.one c.args.disk.now c.read_files.new.disk
    c.remove_others.new.disk c.in_ok-files.files c.deref.result.now
    (c.deref.ensures.value ∙ c.in_ok-kept.ensures
    ∙ ap (λ (n : NodeVersion). kept_files n.version) c.state.ensures)
    c.in_ok-files.ensures.opens.told c.in_ok-files.ensures.opens.usable
    c.read_files.ensures.still (λ honest. c.remove_others.ensures.any_moment (honest1 honest))
    (λ honest for_files. for_cause c.from_residual-in_err-remove_others.result
    (λ e. IsEnvironmental engine.Disk engine.Memory e → ⊥)
    c.from_residual-in_err-remove_others.ensures.1 for_files
    (c.in_err-remove_others.ensures.alone (honest1 honest)))

pub returns-clause-still : goal.returns-clause-still
returns-clause-still g c =
    let honest1 = c.read_files.ensures.opens.kept.honest.1 in
    then_removed g.D.Disk c.version_is_one.ensures.one c.args.disk.now c.read_files.new.disk
    c.remove_others.new.disk c.in_ok-files.files c.deref.result.now
    (c.deref.ensures.value ∙ c.in_ok-kept.ensures
    ∙ ap (λ (n : NodeVersion). kept_files n.version) c.state.ensures)
    c.in_ok-files.ensures.opens.told c.in_ok-files.ensures.opens.usable
    c.read_files.ensures.still (λ honest. c.remove_others.ensures.any_moment (honest1 honest))
    (λ honest for_files. for_files)
