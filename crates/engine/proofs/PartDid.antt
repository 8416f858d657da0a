-- What a merge did that went on, and ended or was given up behind that.
use Rattle.std.proofs.Common.{◌≡◌, ◌∙◌, ◌≤◌, ℕ, List, Option, Some, None, Result, Ok, Err, ap, inl}
use Rattle.std.proofs.Common.{inr, refl, subst, sym}
use Rattle.std.specs.Prelude.{IfOk, IfSome, MatchResult, OnOk}
use Rattle.std.specs.Result.{result_and}
use Rattle.disk.specs.declared.Disk.{Ghosts}
use Rattle.manifest.specs.{Change, NodeVersion}
use Rattle.store_model.specs.{LevelTable, MergePlan}
use Rattle.compaction.specs.declared.Merge.{Merge}
use Rattle.compaction.specs.Leftovers.{IsBesideVersion, IsLeftover}
use Rattle.compaction.specs.Merges.{begun_number, target_of}
use Rattle.store_tables.specs.declared.error.EngineError.{EngineError}
use Rattle.store_tables.specs.Errors.{IsEnd}
use Rattle.store_files.specs.declared.store_files.StoreFiles.{StoreFiles}
use Rattle.store_files.specs.declared.tended.Tended.{Tended}
use Rattle.store_files.specs.declared.tended.Tended.TheVariants as tended
use Rattle.store_files.specs.BesideFiles.{with_free}
use Rattle.store_files.specs.Merging.{IsMergedBy, replaced_files}
use Rattle.store_files.specs.OpenFiles.{known_version}
use Rattle.store_files.specs.Removing.{AreAbsent}
use Rattle.table_files.specs.{inner_disk}
use Rattle.table_files.specs.declared.cached_disk.CachedDisk.{CachedDisk}
use Rattle.engine.specs.declared.merging.Progress.{Progress}
use Rattle.engine.specs.declared.merging.Progress.TheVariants as progress
use Rattle.engine.specs.MergeParts.{AdvancesPlanned, HasNoLeftovers, HasProgress, IsAdvanced}
use Rattle.engine.specs.MergeParts.{IsEditOf, IsEndedBy, MergeHasEnded, ended_answer, free_behind}
use Rattle.engine.specs.Tends.{ContinuesMerge as continues, ContinuesAsPlanned}
use Rattle.engine.specs.UnderWay.{IsMergeOf}
use Rattle.engine.proofs.PartFiles.{same_version}

module _ {D : Type 0} (old mid : StoreFiles) (was now : Merge D) (on : IsAdvanced old mid was now)
  where
    -- the files of a merge that went on and is given up
    abandoned_store : (new : StoreFiles) →
        new ≡ with_free mid (free_behind (begun_number now) mid) →
        new ≡ with_free old (free_behind (begun_number was) (with_free old mid.free_file))
    abandoned_store new freed =
        freed ∙ ap (λ (s : StoreFiles). with_free s (free_behind (begun_number now) s)) on.store
        ∙ ap (λ (n : ℕ). with_free (with_free old mid.free_file)
        (free_behind n (with_free old mid.free_file))) on.first

    -- what a merge has written, it has where numbers of files were used
    leftover_on : (file : ℕ) →
        IsLeftover (begun_number was) mid.free_file (known_version old).version file →
        IsLeftover (begun_number now) mid.free_file (known_version mid).version file
    leftover_on file left = record {
      begun = subst (λ (n : ℕ). n ≤ file) (sym on.first) left.begun;
      early = left.early;
      beside = subst (λ (n : NodeVersion). IsBesideVersion n.version file)
          (sym (same_version old mid was now on)) left.beside;
    }

module _ {D : Type 0} (g : Ghosts D) (a b c : CachedDisk D g) (old mid new : StoreFiles)
    (was now : Merge D) (on : IsAdvanced old mid was now) (called : Result Progress EngineError)
    (advances : AdvancesPlanned g a b old mid was now called) where
  -- how it went on that answered so
  ahead : (told : Progress) → called ≡ Ok told → (tables : List LevelTable) (plan : MergePlan)
      (before : IsMergeOf g a old tables was plan) →
      HasProgress g a b old mid was now tables plan before told
  ahead told is tables plan before =
      subst (λ r. IfOk r (HasProgress g a b old mid was now tables plan before)) is
      (advances tables plan before)

  -- others are left
  pub stepped : called ≡ Ok progress.More → (left : Option (Merge D)) → left ≡ Some now →
      ContinuesAsPlanned g a b old mid was left tended.Worked
  stepped is left some = record {
    did = continues.HasStepped now on some refl;
    planned = ahead progress.More is;
  }

  module _ (left : Option (Merge D)) (none : left ≡ None)
      (honest : g.is_honest (inner_disk a) → g.is_honest (inner_disk b)) where
    -- the edit, told of the files and the merge as they were before
    edit_on : (made : Option Change) →
        ((tables : List LevelTable) (plan : MergePlan) → IsMergeOf g b mid tables now plan →
        IsEditOf mid plan (target_of now) made) → (tables : List LevelTable) (plan : MergePlan) →
        IsMergeOf g b mid tables now plan →
        IsEditOf (with_free old mid.free_file) plan (target_of was) made
    edit_on made edit tables plan m =
        subst (λ (n : ℕ). IsEditOf (with_free old mid.free_file) plan n made) on.target
        (subst (λ (s : StoreFiles). IsEditOf s plan (target_of now) made) on.store
        (edit tables plan m))

    -- it ended by this edit, or was given up where there is none
    of_made : called ≡ Ok progress.Done → (answer : Tended) (made : Option Change) →
        answer ≡ ended_answer made → IsEndedBy (begun_number now) mid new made →
        ((tables : List LevelTable) (plan : MergePlan) → IsMergeOf g b mid tables now plan →
        IsEditOf mid plan (target_of now) made) →
        (g.is_honest (inner_disk b) → made ≡ None → HasNoLeftovers g (begun_number now) mid c) →
        (g.is_honest (inner_disk b) →
        IfSome made (λ it. AreAbsent (replaced_files it) (g.state (inner_disk c)))) →
        ContinuesAsPlanned g a c old new was left answer
    of_made is answer None told ended edit gone inputs = record {
      did = continues.IsGivenUp mid.free_file (on.numbers.rises, on.numbers.within)
          (abandoned_store old mid was now on new ended) none told;
      planned = λ tables plan before.
          let done = ahead progress.Done is tables plan before in record {
            why = inr (done.2, edit_on None edit tables plan done.0);
            removed = λ file it. gone (honest before.merging.walk.honest) refl file
                (leftover_on old mid was now on file it);
          };
    }
    of_made is answer (Some made) told ended edit gone inputs = record {
      did = continues.EndsByEdit made mid.free_file (on.numbers.rises, on.numbers.within)
          (subst (λ (s : StoreFiles). IsMergedBy made s new) on.store ended) none told;
      planned = λ tables plan before.
          let done = ahead progress.Done is tables plan before in (
            edit_on (Some made) edit tables plan done.0,
            done.2,
            inputs (honest before.merging.walk.honest),
          );
    }

    pub ended : called ≡ Ok progress.Done → (result : Result Tended EngineError) →
        IfOk result (MergeHasEnded g b c mid new now) →
        IfOk result (ContinuesAsPlanned g a c old new was left)
    ended is (Ok answer) it =
        of_made is answer it.made it.told it.ended it.edit it.removed it.inputs_gone
    ended is (Err e) it = tt

    -- it had no room, and was given up
    pub had_no_room : called ≡ Ok progress.Full → (result : Result (Unit {0}) EngineError) →
        new ≡ with_free mid (free_behind (begun_number now) mid) →
        (g.is_honest (inner_disk b) → OnOk result (HasNoLeftovers g (begun_number now) mid c)) →
        IfOk (result_and result (Ok tended.Full)) (ContinuesAsPlanned g a c old new was left)
    had_no_room is (Ok x) freed gone = record {
      did = continues.IsGivenUp mid.free_file (on.numbers.rises, on.numbers.within)
          (abandoned_store old mid was now on new freed) none refl;
      planned = λ tables plan before. record {
        why = inl (ahead progress.Full is tables plan before);
        removed = λ file it. gone (honest before.merging.walk.honest) file
            (leftover_on old mid was now on file it);
      };
    }
    had_no_room is (Err e) freed gone = tt

-- ---- what its end did

module _ {D : Type 0} (g : Ghosts D) (a c : CachedDisk D g) (old new : StoreFiles) (was : Merge D)
    (called : Result (Option Change) EngineError)
    (edit : (tables : List LevelTable) (plan : MergePlan) → IsMergeOf g a old tables was plan →
    IfOk called (IsEditOf old plan (target_of was))) where
  -- the edit is that of the plan
  edit_is : (made : Option Change) → called ≡ Ok made → (tables : List LevelTable)
      (plan : MergePlan) → IsMergeOf g a old tables was plan →
      IsEditOf old plan (target_of was) made
  edit_is made is tables plan m = subst (λ r. IfOk r (IsEditOf old plan (target_of was))) is
      (edit tables plan m)

  -- it was recorded
  pub merged_here : (made : Change) → called ≡ Ok (Some made) →
      (result : Result (Unit {0}) EngineError) →
      MatchResult result (λ _. IsMergedBy made old new) IsEnd →
      (g.is_honest (inner_disk a) →
      OnOk result (AreAbsent (replaced_files made) (g.state (inner_disk c)))) →
      IfOk (result_and result (Ok tended.Worked)) (MergeHasEnded g a c old new was)
  merged_here made is (Ok x) did gone = record {
    made = Some made;
    told = refl;
    ended = did;
    edit = edit_is (Some made) is;
    removed = λ honest none. absurd cc;
    inputs_gone = gone;
  }
  merged_here made is (Err e) did gone = tt

  -- there was none, and the merge was given up
  pub given_up_here : (b : CachedDisk D g) (now : Merge D) → begun_number now ≡ begun_number was →
      (g.is_honest (inner_disk a) → g.is_honest (inner_disk b)) → called ≡ Ok None →
      (result : Result (Unit {0}) EngineError) →
      new ≡ with_free old (free_behind (begun_number now) old) →
      (g.is_honest (inner_disk b) → OnOk result (HasNoLeftovers g (begun_number now) old c)) →
      IfOk (result_and result (Ok tended.Full)) (MergeHasEnded g a c old new was)
  given_up_here b now first honest is (Ok x) freed gone = record {
    made = None;
    told = refl;
    ended = subst (λ (n : ℕ). new ≡ with_free old (free_behind n old)) first freed;
    edit = edit_is None is;
    removed = λ kept none. subst (λ (n : ℕ). HasNoLeftovers g n old c) first (gone (honest kept));
    inputs_gone = λ kept. tt;
  }
  given_up_here b now first honest is (Err e) freed gone = tt
