-- A merge that goes on leaves the list, and is under way then or has no room.
use Rattle.std.proofs.Common.{◌≡◌, ◌⊎◌, ◌↔◌, ℕ, Bool, true, false, List, Some}
use Rattle.std.proofs.Common.{Result, Ok, Err, ap, arith, inl, inr, length, refl, subst, sym}
use Rattle.std.specs.Prelude.{Contains, IfErr, IfOk, IsErrOf, MatchResult, OnOk}
use Rattle.kv_types.specs.{BatchContent}
use Rattle.disk.specs.{IsEnvironmental}
use Rattle.disk.specs.declared.Disk.{Ghosts}
use Rattle.version_edits.specs.{StoreVersion}
use Rattle.compaction.specs.declared.Merge.{Merge}
use Rattle.compaction.specs.declared.error.MergeError.{MergeError}
use Rattle.compaction.specs.declared.error.MergeError.TheVariants as merging
use Rattle.compaction.specs.Merges.{HasEntriesLeft, IsIntactMerge, IsMerging, StepsMerge}
use Rattle.compaction.specs.Outputs.{IsOwnFile}
use Rattle.compaction.specs.Walks.{FindsNoRoom, StepRefusal}
use Rattle.store_model.specs.{LevelTable, MergePlan}
use Rattle.store_tables.specs.declared.error.EngineError.{EngineError}
use Rattle.store_tables.specs.declared.error.EngineError.TheVariants as engine
use Rattle.store_tables.specs.Errors.{IsEnd}
use Rattle.disk.specs.KeepingLemmas.{kept_as, kept_but}
use Rattle.store_files.specs.declared.store_files.StoreFiles.{StoreFiles}
use Rattle.store_files.specs.BesideFiles.{HasSameNamed, IsNamedFile, OtherFilesAreFree, with_free}
use Rattle.store_files.specs.OpenFiles.{AreUsableFiles, known_facts, known_version}
use Rattle.table_files.specs.{inner_disk}
use Rattle.table_files.specs.declared.cached_disk.CachedDisk.{CachedDisk}
use Rattle.engine.specs.declared.merging.Progress.{Progress}
use Rattle.engine.specs.declared.merging.Progress.TheVariants as progress
use Rattle.engine.specs.LentFiles.{files_ghosts, union_ghosts}
use Rattle.engine.specs.MergeParts.{AdvancesPlanned, HasDamagedInput, IsMergeFile}
use Rattle.engine.specs.MergeParts.{IsPartRefusal, KeepsMerge}
use Rattle.engine.specs.MergeParts.{IsMergeFile as file_of, error_of_merge, merge_after}
use Rattle.engine.specs.MergeParts.{progress_after, step_length}
use Rattle.engine.specs.UnderWay.{HoldsWithMerge, IsMergeOf, WasMeantWithMerge}
use Rattle.engine.proofs.Abandons.{environment}
use Rattle.engine.proofs.Beside.{beside_named, free_named, meant_beside, represent_beside}
use Rattle.engine.proofs.Beside.{usable_with}
use Rattle.engine.proofs.InputFiles.{read_before, same_files_of, were_on}

-- the device failed where the merge says so
alike : (answer : Result Bool MergeError) →
    IsErrOf answer merging.Disk ↔ IsErrOf (progress_after answer) engine.Disk
alike (Ok true) = (λ f. cc, λ f. cc)
alike (Ok false) = (λ f. cc, λ f. cc)
alike (Err merging.Disk) = (λ _. refl, λ _. refl)
alike (Err merging.Damaged) = (λ f. cc, λ f. cc)
alike (Err merging.Memory) = (λ f. cc, λ f. cc)
alike (Err merging.Failed) = (λ f. cc, λ f. cc)
alike (Err merging.Full) = (λ f. cc, λ f. cc)

-- a refusal but for want of room is one of the store
pub refusal_is : (e : MergeError) → (e ≡ merging.Full → ⊥) →
    Err (error_of_merge e) ≡ progress_after (Err e)
refusal_is merging.Disk room = refl
refusal_is merging.Damaged room = refl
refusal_is merging.Memory room = refl
refusal_is merging.Failed room = refl
refusal_is merging.Full room = absurd (room refl)

-- each refusal ends an engine
refused : (answer : Result Bool MergeError) → IfErr (progress_after answer) IsEnd
refused (Ok true) = tt
refused (Ok false) = tt
refused (Err merging.Disk) = tt
refused (Err merging.Damaged) = tt
refused (Err merging.Memory) = tt
refused (Err merging.Failed) = tt
refused (Err merging.Full) = tt

-- a merge over intact inputs that has room is refused by the environment alone
only_environment : (e : MergeError) (intact no_room : Type 0) → (e ≡ merging.Full → ⊥) → intact →
    IsEnvironmental merging.Disk merging.Memory e ⊎ (((e ≡ merging.Damaged) × (intact → ⊥))
    ⊎ ((e ≡ merging.Full) × no_room)) → IsEnvironmental merging.Disk merging.Memory e
only_environment e intact no_room room is (inl outside) = outside
only_environment e intact no_room room is (inr (inl damaged)) = absurd (damaged.1 is)
only_environment e intact no_room room is (inr (inr full)) = absurd (room full.0)

-- one that has room is refused by the environment, or for damage of its inputs
damage_of : (e : MergeError) (intact no_room damage : Type 0) → (e ≡ merging.Full → ⊥) →
    ((intact → ⊥) → damage) →
    IsEnvironmental merging.Disk merging.Memory e ⊎ (((e ≡ merging.Damaged) × (intact → ⊥))
    ⊎ ((e ≡ merging.Full) × no_room)) → IsPartRefusal damage (error_of_merge e)
damage_of e intact no_room damage room so (inl outside) = inl (environment e outside)
damage_of e intact no_room damage room so (inr (inl damaged)) =
    inr (ap error_of_merge damaged.0, so damaged.1)
damage_of e intact no_room damage room so (inr (inr full)) = absurd (room full.0)

module _ {D : Type 0} (g : Ghosts D) (old : StoreFiles) (u : AreUsableFiles old)
    (a : CachedDisk D g) (was : Merge D) where
  abbrev version : StoreVersion
  version = (known_version old).version

  abbrev own : ℕ → Type 0
  own = IsOwnFile was.writer old.free_file

  -- the files that a merge under way writes to are not named
  pub own_named : (tables : List LevelTable) (plan : MergePlan) →
      IsMergeOf g a old tables was plan → (file : ℕ) → own file → IsNamedFile old file → ⊥
  own_named tables plan m file (inl opened) named =
      let late = m.merging.numbers.late in
      let from = (m.merging.numbers.outputs file (inl opened)).0 in
      beside_named old u file (omega (arith, late, from)) (m.beside file (inl opened)) named
  own_named tables plan m file (inr free) named = free_named old u file free named

  -- they are files of the merge
  pub own_file : (file : ℕ) → own file → IsMergeFile old (Some was) file
  own_file file (inl opened) = file_of.IsOpened opened
  own_file file (inr free) = file_of.IsFree free

  module _ (free : OtherFilesAreFree) (count : ℕ) (b : CachedDisk D g) (now : Merge D)
      (next : ℕ) where
    -- the merge went on and answered so
    abbrev Did : Result Bool MergeError → Type 0
    Did answer = StepsMerge (union_ghosts g) (files_ghosts g) count step_length a old.free_file was
        b next now answer

    abbrev later : StoreFiles
    later = with_free old next

    -- the named files are as they were
    same : (answer : Result Bool MergeError) → Did answer → (tables : List LevelTable)
        (plan : MergePlan) → IsMergeOf g a old tables was plan →
        HasSameNamed old next (g.state (inner_disk a)) (g.state (inner_disk b))
    same answer did tables plan m =
        let above = u.free in
        let rises = did.numbers.rises in
        record {
          named = λ file named. did.writes.kept.files m.merging.walk.honest file
              (λ is. own_named tables plan m file is named);
          unused = did.unused m.meant plan (known_facts old).floor m.merging;
          above = omega (arith, above, rises);
          few = did.numbers.few u.free_few;
        }

    -- the files of the inputs are as they were
    same_inputs : (answer : Result Bool MergeError) → Did answer → (tables : List LevelTable)
        (plan : MergePlan) (m : IsMergeOf g a old tables was plan) → (t : LevelTable) →
        Contains plan.inputs t → g.state (inner_disk b) t.file ≡ g.state (inner_disk a) t.file
    same_inputs answer did tables plan m =
        same_files_of (g.state (inner_disk a)) (g.state (inner_disk b)) plan.inputs
        (λ file has. did.writes.kept.files m.merging.walk.honest file
        (λ is. m.merging.walk.apart file has is))

    -- the merge is under way
    after_of : (answer : Result Bool MergeError) → Did answer → (tables : List LevelTable)
        (plan : MergePlan) (m : IsMergeOf g a old tables was plan) →
        IsMerging (union_ghosts g) (files_ghosts g) m.meant b next now plan
        (known_facts old).floor →
        (IsIntactMerge (union_ghosts g) (files_ghosts g) a was plan →
        IsIntactMerge (union_ghosts g) (files_ghosts g) b now plan) →
        IsMergeOf g b later tables now plan
    after_of answer did tables plan m after intact =
        let same = same_inputs answer did tables plan m in
        record {
          meant = m.meant;
          merging = after;
          can_end = m.can_end;
          beside = did.beside version u.version u.free m.beside;
          were = were_on (g.state (inner_disk a)) (g.state (inner_disk b)) m.meant plan.inputs same
              m.were;
          undamaged = λ reads. intact (m.undamaged (read_before (g.state (inner_disk a))
              (g.state (inner_disk b)) m.meant plan.inputs same reads));
        }

    -- after an answer the files hold the list, with the merge
    holds : (more : Bool) → Did (Ok more) → (list : List BatchContent) →
        HoldsWithMerge g a old (Some was) list → HoldsWithMerge g b later (Some now) list
    holds more did list h =
        let plan = h.merges.plan in
        let tables = h.held.known.tables in
        let m = h.merges.under_way in
        let step = did.steps m.meant plan (known_facts old).floor m.merging in
        let both = free.held (g.state (inner_disk a)) (g.state (inner_disk b)) old next list h.held
        (same (Ok more) did tables plan m) in
        record {
          held = both.0;
          merges = record {
            plan = plan;
            under_way = subst (λ (t : List LevelTable). IsMergeOf g b later t now plan)
                (sym both.1) (after_of (Ok more) did tables plan m step.0 step.2);
            intact = step.2 h.merges.intact;
          };
        }

    was_meant : (more : Bool) → Did (Ok more) → (list : List BatchContent) →
        WasMeantWithMerge g a old (Some was) list → WasMeantWithMerge g b later (Some now) list
    was_meant more did list w =
        let plan = w.merges.plan in
        let tables = w.was.hold.known.tables in
        let m = w.merges.under_way in
        let step = did.steps m.meant plan (known_facts old).floor m.merging in
        let both = free.meant (g.state (inner_disk a)) (g.state (inner_disk b)) old next list w.was
        (same (Ok more) did tables plan m) in
        record {
          was = both.0;
          merges = record {
            plan = plan;
            under_way = subst (λ (t : List LevelTable). IsMergeOf g b later t now plan)
                (sym both.1) (after_of (Ok more) did tables plan m step.0 step.2);
          };
        }

    -- a refusal is the environment's
    outside : (e : MergeError) → (e ≡ merging.Full → ⊥) → Did (Err e) →
        (list : List BatchContent) → HoldsWithMerge g a old (Some was) list →
        IsEnvironmental engine.Disk engine.Memory (error_of_merge e)
    outside e room did list h =
        let m = h.merges.under_way in
        environment e (only_environment e _ _ room h.merges.intact
        (did.steps m.meant h.merges.plan (known_facts old).floor m.merging))

    held : (answer : Result Bool MergeError) → Did answer →
        (list : List BatchContent) → HoldsWithMerge g a old (Some was) list →
        MatchResult (progress_after answer)
        (λ told. HoldsWithMerge g b later (merge_after now told) list)
        (IsEnvironmental engine.Disk engine.Memory)
    held (Ok true) did list h = holds true did list h
    held (Ok false) did list h = holds false did list h
    held (Err merging.Disk) did list h = inl refl
    held (Err merging.Damaged) did list h = outside merging.Damaged (λ is. cc) did list h
    held (Err merging.Memory) did list h = inr refl
    held (Err merging.Failed) did list h = outside merging.Failed (λ is. cc) did list h
    held (Err merging.Full) did list h =
        let m = h.merges.under_way in
        record {
          held = (free.held (g.state (inner_disk a)) (g.state (inner_disk b)) old next list h.held
              (same (Err merging.Full) did h.held.known.tables h.merges.plan m)).0;
          merges = tt;
        }

    -- where files were meant to hold the list, it may be that of an input too
    inside : (e : MergeError) → (e ≡ merging.Full → ⊥) → Did (Err e) →
        (list : List BatchContent) → WasMeantWithMerge g a old (Some was) list →
        IsPartRefusal (HasDamagedInput g a was) (error_of_merge e)
    inside e room did list w =
        let m = w.merges.under_way in
        damage_of e _ _ _ room (λ no. record {
          meant = m.meant;
          inputs = w.merges.plan.inputs;
          named = m.merging.gone;
          were = m.were;
          damaged = λ reads. no (m.undamaged reads);
        }) (did.steps m.meant w.merges.plan (known_facts old).floor m.merging)

    meant : (answer : Result Bool MergeError) → Did answer →
        (list : List BatchContent) → WasMeantWithMerge g a old (Some was) list →
        MatchResult (progress_after answer)
        (λ told. WasMeantWithMerge g b later (merge_after now told) list)
        (IsPartRefusal (HasDamagedInput g a was))
    meant (Ok true) did list w = was_meant true did list w
    meant (Ok false) did list w = was_meant false did list w
    meant (Err merging.Disk) did list w = inl (inl refl)
    meant (Err merging.Damaged) did list w = inside merging.Damaged (λ is. cc) did list w
    meant (Err merging.Memory) did list w = inl (inr refl)
    meant (Err merging.Failed) did list w = inside merging.Failed (λ is. cc) did list w
    meant (Err merging.Full) did list w =
        let m = w.merges.under_way in
        record {
          was = (free.meant (g.state (inner_disk a)) (g.state (inner_disk b)) old next list w.was
              (same (Err merging.Full) did w.was.hold.known.tables w.merges.plan m)).0;
          merges = tt;
        }

    usable : (answer : Result Bool MergeError) → Did answer →
        OnOk (progress_after answer) (AreUsableFiles later)
    usable answer did = each (progress_after answer)
      where
        each : (result : Result Progress EngineError) → OnOk result (AreUsableFiles later)
        each (Ok told) =
            let above = u.free in
            let rises = did.numbers.rises in
            usable_with old u next (omega (arith, above, rises)) (did.numbers.few u.free_few)
        each (Err e) = tt

    -- what going on keeps
    pub advances : (answer : Result Bool MergeError) → Did answer →
        KeepsMerge g (HasDamagedInput g a was) (merge_after now) (Some was) a b old later
        (progress_after answer)
    advances answer did = record {
      kept = kept_but (files_ghosts g)
          (λ no. inr (λ list honest h. let m = h.merges.under_way in
          no m.meant h.merges.plan (known_facts old).floor m.merging))
          (kept_as (files_ghosts g) (alike answer) (λ s t is. tt) did.writes.kept);
      touches = λ honest file no.
          did.writes.kept.files honest file (λ is. no (own_file file is));
      numbers = (refl, refl);
      usable = usable answer did;
      refused = refused answer;
      held = λ list honest h. held answer did list h;
      any_moment = λ list honest h. represent_beside (files_ghosts g) free old list own
          (own_named h.held.known.tables h.merges.plan h.merges.under_way) a b
          (did.writes.any_moment honest) h.held;
      meant = λ list honest w. meant answer did list w;
      meant_moment = λ list honest w. meant_beside (files_ghosts g) free old list own
          (own_named w.was.hold.known.tables w.merges.plan w.merges.under_way) a b
          (did.writes.any_moment honest) w.was;
    }

    -- none is left where all are merged
    none_left : (answer : Result Bool MergeError) → Did answer → IfOk (progress_after answer)
        (λ told. told ≡ progress.Done →
        HasEntriesLeft (union_ghosts g) (files_ghosts g) now → ⊥)
    none_left (Ok true) did = λ is. absurd cc
    none_left (Ok false) did = λ is left. let so = did.status.2.1 left in cc
    none_left (Err merging.Disk) did = tt
    none_left (Err merging.Damaged) did = tt
    none_left (Err merging.Memory) did = tt
    none_left (Err merging.Failed) did = tt
    none_left (Err merging.Full) did = λ is. absurd cc

    -- ---- by any plan

    -- so many entries were met where others are left
    so_many : {x y : ℕ} {left : Type 0} → (x ≡ y) ⊎ (left → ⊥) → left → x ≡ y
    so_many (inl is) there = is
    so_many (inr none) there = absurd (none there)

    -- there was no room
    no_room : (e : MergeError) (intact : Type 0) (before : ℕ) (inputs : List LevelTable) →
        e ≡ merging.Full → StepRefusal intact count next before step_length was.writer inputs e →
        FindsNoRoom count next before step_length was.writer inputs
    no_room e intact before inputs is (inl (inl disk)) = absurd cc
    no_room e intact before inputs is (inl (inr memory)) = absurd cc
    no_room e intact before inputs is (inr (inl damaged)) = let so = damaged.0 in absurd cc
    no_room e intact before inputs is (inr (inr full)) = full.1

    pub planned : (answer : Result Bool MergeError) → Did answer →
        count ≡ length version.tables →
        AdvancesPlanned g a b old later was now (progress_after answer)
    unfolding after_of
    planned (Ok true) did counted tables plan m =
        let step = did.steps m.meant plan (known_facts old).floor m.merging in
        let left = did.status.2.0 refl in
        record {
          after = after_of (Ok true) did tables plan m step.0 step.2;
          met = so_many step.1.all left;
          left = left;
        }
    planned (Ok false) did counted tables plan m =
        let step = did.steps m.meant plan (known_facts old).floor m.merging in
        let none : HasEntriesLeft (union_ghosts g) (files_ghosts g) now → ⊥ =
        λ left. let is = did.status.2.1 left in cc in (
          after_of (Ok false) did tables plan m step.0 step.2,
          none,
          record {
            entries = step.0.walk.met;
            all = step.1.union none;
            few = step.1.most;
          },
        )
    planned (Err merging.Disk) did counted tables plan m = tt
    planned (Err merging.Damaged) did counted tables plan m = tt
    planned (Err merging.Memory) did counted tables plan m = tt
    planned (Err merging.Failed) did counted tables plan m = tt
    planned (Err merging.Full) did counted tables plan m =
        subst (λ (n : ℕ). FindsNoRoom n next (length m.merging.walk.met) step_length was.writer
        plan.inputs) counted (no_room merging.Full _ (length m.merging.walk.met) plan.inputs refl
        (did.steps m.meant plan (known_facts old).floor m.merging))

  -- ---- as the call was told

  module _ (free : OtherFilesAreFree) (count : ℕ) (b : CachedDisk D g) (now : Merge D) (start : ℕ)
      (start_is : start ≡ old.free_file) (next : ℕ) (answer : Result Bool MergeError)
      (did : StepsMerge (union_ghosts g) (files_ghosts g) count step_length a start was b next now
      answer) (after : StoreFiles) (after_is : after ≡ with_free old next)
      (result : Result Progress EngineError) (result_is : result ≡ progress_after answer) where
    did_so : Did free count b now next answer
    did_so = subst (λ (n : ℕ).
        StepsMerge (union_ghosts g) (files_ghosts g) count step_length a n was b next now answer)
        start_is did

    abbrev Keeps : StoreFiles → Result Progress EngineError → Type 0
    Keeps s r = KeepsMerge g (HasDamagedInput g a was) (merge_after now) (Some was) a b old s r

    pub keeps_told : KeepsMerge g (HasDamagedInput g a was) (merge_after now) (Some was) a b old
        after result
    keeps_told =
        let told = subst (λ (r : Result Progress EngineError). Keeps (with_free old next) r)
        (sym result_is) (advances free count b now next answer did_so) in
        subst (λ (s : StoreFiles). Keeps s result) (sym after_is) told

    pub planned_told : count ≡ length version.tables →
        AdvancesPlanned g a b old after was now result
    planned_told counted =
        let told = subst (λ (r : Result Progress EngineError).
        AdvancesPlanned g a b old (with_free old next) was now r) (sym result_is)
        (planned free count b now next answer did_so counted) in
        subst (λ (s : StoreFiles). AdvancesPlanned g a b old s was now result) (sym after_is) told

    pub none_told : IfOk result (λ told. told ≡ progress.Done →
        HasEntriesLeft (union_ghosts g) (files_ghosts g) now → ⊥)
    none_told = subst (λ (r : Result Progress EngineError). IfOk r (λ told. told ≡ progress.Done →
        HasEntriesLeft (union_ghosts g) (files_ghosts g) now → ⊥)) (sym result_is)
        (none_left free count b now next answer did_so)
