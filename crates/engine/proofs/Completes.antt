-- A merge of which no entry is left: its edit, and what the files hold beside its outputs.
use Rattle.std.proofs.Common.{◌≡◌, ◌⊎◌, ◌↔◌, ℕ, List, Option}
use Rattle.std.proofs.Common.{None, Some, Result, Ok, Err, ap, arith, inl, inr, refl}
use Rattle.std.proofs.Common.{subst, suc, sym}
use Rattle.std.specs.Prelude.{IfErr, IfOk, IfSome, IsErrOf, IsNone}
use Rattle.std.specs.Prelude.{MatchResult}
use Rattle.std.specs.List.{AllZip}
use Rattle.kv_types.specs.{BatchContent}
use Rattle.disk.specs.{IsDurable, IsEnvironmental, Slot, State, contents, seen}
use Rattle.disk.specs.declared.Disk.{Ghosts}
use Rattle.version_edits.specs.declared.TableLine.{TableLine}
use Rattle.version_edits.specs.declared.TableName.{TableName}
use Rattle.version_edits.specs.{IsFit, StoreVersion}
use Rattle.manifest.specs.{Change}
use Rattle.compaction.specs.declared.Merge.{Merge}
use Rattle.compaction.specs.declared.error.MergeError.{MergeError}
use Rattle.compaction.specs.declared.error.MergeError.TheVariants as merging
use Rattle.compaction.specs.{AcceptsMerge, IsFitMergeEdit, IsLineOf, IsMergeEdit, MergeEditsKeep}
use Rattle.compaction.specs.EditsLemmas.{zip_weaker}
use Rattle.compaction.specs.Merges.{EndsMerge, HasEntriesLeft, HasTooManyTables, IsOutputTable}
use Rattle.compaction.specs.Merges.{begun_number, merge_change, target_of}
use Rattle.compaction.specs.Outputs.{IsOpenFile}
use Rattle.store_model.specs.{LevelTable, MergePlan}
use Rattle.store_tables.specs.declared.error.EngineError.{EngineError}
use Rattle.store_tables.specs.declared.error.EngineError.TheVariants as engine
use Rattle.store_tables.specs.Errors.{IsEnd}
use Rattle.disk.specs.KeepingLemmas.{kept_as, kept_but}
use Rattle.store_tables.specs.LevelTables.{IsTableOf}
use Rattle.store_tables.specs.RefusalLemmas.{on_ok}
use Rattle.store_files.specs.declared.store_files.StoreFiles.{StoreFiles}
use Rattle.store_files.specs.BesideFiles.{HasSameNamed, OtherFilesAreFree}
use Rattle.store_files.specs.Merging.{HasOutputs, MayMerge}
use Rattle.store_files.specs.OpenFiles.{AreUsableFiles, FilesAreRead}
use Rattle.store_files.specs.OpenFiles.{known_facts, known_store, known_version}
use Rattle.table_files.specs.{inner_disk}
use Rattle.table_files.specs.declared.cached_disk.CachedDisk.{CachedDisk}
use Rattle.engine.specs.LentFiles.{files_ghosts, union_ghosts}
use Rattle.engine.specs.MergeParts.{HoldEdit, IsEditOf, KeepsCompleted}
use Rattle.engine.specs.MergeParts.{IsCheckedEdit, IsPartRefusal, WereMeantEdit, error_of_merge}
use Rattle.engine.specs.UnderWay.{HoldsWithMerge, IsMergeOf, WasMeantWithMerge}
use Rattle.engine.proofs.Abandons.{ends, environment, fails_alike}
use Rattle.engine.proofs.Advances.{own_file, own_named}
use Rattle.engine.proofs.Beside.{meant_beside, represent_beside}
use Rattle.engine.proofs.OutputTables.{output_durable, output_read, zip_each}

-- what holds where an answer is `Full`
of_full : (e : MergeError) (P : Type 0) → e ≡ merging.Full →
    IsEnvironmental merging.Disk merging.Memory e ⊎ ((e ≡ merging.Full) × P) → P
of_full e P is (inl (inl disk)) = absurd cc
of_full e P is (inl (inr memory)) = absurd cc
of_full e P is (inr full) = full.1

module _ {D : Type 0} (g : Ghosts D) (old : StoreFiles) (u : AreUsableFiles old)
    (a : CachedDisk D g) (was : Merge D) where
  abbrev version : StoreVersion
  version = (known_version old).version

  abbrev floor : ℕ
  floor = (known_facts old).floor

  -- the lines of the version are those of the tables that its files give
  lines_of_read : (disk : State) (list : List BatchContent) (read : FilesAreRead disk old list) →
      AllZip IsLineOf version.tables read.tables
  lines_of_read disk list read = zip_weaker (IsTableOf (contents disk)) IsLineOf
      (λ line table it. record { level = it.level; file = it.file; range = it.range })
      version.tables read.tables read.read

  -- the version may take the edit of the merge
  accepts : (disk : State) (list : List BatchContent) (read : FilesAreRead disk old list)
      (plan : MergePlan) → IsMergeOf g a old read.tables was plan →
      AcceptsMerge version old.free_file plan was.writer
  accepts disk list read plan m = record {
    store = known_store old read.tables;
    can_end = record {
      lines = lines_of_read disk list read;
      leveled = read.store.tables;
      under_way = m.can_end;
    };
    beside = m.beside;
    next = u.free;
    few = u.free_few;
  }

  -- with the outputs in the places of the inputs the store represents the list
  has_outputs : MergeEditsKeep → (disk : State) (list : List BatchContent)
      (read : FilesAreRead disk old list) (plan : MergePlan) →
      IsMergeOf g a old read.tables was plan → (new : State) (edit : Change) →
      IsMergeEdit new version (begun_number was) old.free_file was.writer plan floor edit →
      HasOutputs new (known_store old read.tables) list edit
  has_outputs keep disk list read plan m new edit it = record {
    outputs = it.outputs;
    read = zip_weaker (IsOutputTable new (suc plan.level)) (IsTableOf (contents new))
        (output_read new (suc plan.level)) edit.tables_added it.outputs it.holds;
    durable = zip_each (IsOutputTable new (suc plan.level))
        (λ (line : TableLine). IsDurable (new line.file)) (output_durable new (suc plan.level))
        edit.tables_added it.outputs it.holds;
    represents = (keep new version (begun_number was) old.free_file was.writer plan floor edit list
        (known_store old read.tables) u.version it (lines_of_read disk list read) read.store
        m.can_end (omega arith)).2;
  }

  module _ (free : OtherFilesAreFree) (keep : MergeEditsKeep)
      (done : HasEntriesLeft (union_ghosts g) (files_ghosts g) was → ⊥) (b : CachedDisk D g)
      (now : Merge D) where
    abbrev Did : Result Change MergeError → Type 0
    Did answer =
        EndsMerge (union_ghosts g) (files_ghosts g) version old.free_file a was b now answer

    -- the named files are as they were, and no file is from the first free one on
    same : (answer : Result Change MergeError) → Did answer → (tables : List LevelTable)
        (plan : MergePlan) → IsMergeOf g a old tables was plan →
        HasSameNamed old old.free_file (g.state (inner_disk a)) (g.state (inner_disk b))
    same answer did tables plan m = record {
      named = λ file named. did.writes.kept.files m.merging.walk.honest file
          (λ is. own_named g old u a was tables plan m file (inl is) named);
      unused = λ file from. subst (λ (s : Slot). IsNone (seen s))
          (sym (did.writes.kept.files m.merging.walk.honest file
          (λ is. let early = (m.merging.numbers.outputs file (inl is)).1 in
          omega (arith, early, from))))
          (m.merging.walk.unused file from);
      above = u.free;
      few = u.free_few;
    }

    -- the edit that is made
    fit_of : (edit : Change) → Did (Ok edit) → (tables : List LevelTable) (plan : MergePlan) →
        IsMergeOf g a old tables was plan →
        IsFitMergeEdit (g.state (inner_disk b)) version (begun_number was) old.free_file was.writer
        plan floor edit
    fit_of edit did tables plan m = did.ends m.meant plan floor m.merging done

    edit_of : (edit : Change) → Did (Ok edit) → (tables : List LevelTable) (plan : MergePlan) →
        IsMergeOf g a old tables was plan → IsEditOf old plan (target_of was) (Some edit)
    edit_of edit did tables plan m =
        let it = (fit_of edit did tables plan m).merges in (
          it.outputs,
          it.written,
          it.merged,
          zip_weaker (IsOutputTable (g.state (inner_disk b)) (suc plan.level)) IsLineOf
              (λ line table o. o.line_of) edit.tables_added it.outputs it.holds,
          it.is,
        )

    too_many : Did (Err merging.Full) → (tables : List LevelTable) (plan : MergePlan) →
        IsMergeOf g a old tables was plan → IsEditOf old plan (target_of was) None
    too_many did tables plan m = of_full merging.Full
        (HasTooManyTables version plan floor (target_of was)) refl
        (did.ends m.meant plan floor m.merging done)

    -- what is kept where this is the answer
    completes : (answer : Result Change MergeError) → Did answer →
        (result : Result (Option Change) EngineError) →
        (IsErrOf answer merging.Disk ↔ IsErrOf result engine.Disk) → IfErr result IsEnd →
        ((list : List BatchContent) → HoldsWithMerge g a old (Some was) list →
        MatchResult result (λ made. HoldEdit g b old made list)
        (IsEnvironmental engine.Disk engine.Memory)) →
        ((list : List BatchContent) → WasMeantWithMerge g a old (Some was) list →
        MatchResult result (λ made. WereMeantEdit g b old made list) (IsPartRefusal ⊥)) →
        KeepsCompleted g a b old was result
    completes answer did result alike refused held meant = record {
      kept = kept_but (files_ghosts g)
          (λ no. inr (λ list honest h. let m = h.merges.under_way in
          no m.meant h.merges.plan floor m.merging))
          (kept_as (files_ghosts g) alike (λ s t is. tt) did.writes.kept);
      touches = λ honest file no.
          did.writes.kept.files honest file (λ is. no (own_file g old u a was file (inl is)));
      numbers = (refl, refl);
      usable = on_ok result u;
      refused = refused;
      held = λ list honest h. held list h;
      any_moment = λ list honest h. represent_beside (files_ghosts g) free old list
          (IsOpenFile was.writer) (λ file is. own_named g old u a was h.held.known.tables
          h.merges.plan h.merges.under_way file (inl is)) a b (did.writes.any_moment honest) h.held;
      meant = λ list honest w. meant list w;
      meant_moment = λ list honest w. meant_beside (files_ghosts g) free old list
          (IsOpenFile was.writer) (λ file is. own_named g old u a was w.was.hold.known.tables
          w.merges.plan w.merges.under_way file (inl is)) a b (did.writes.any_moment honest) w.was;
    }

    abbrev Keeps : Result (Option Change) EngineError → Type 0
    Keeps result = KeepsCompleted g a b old was result

    -- the version would have too many tables
    keeps_full : Did (Err merging.Full) → Keeps (Ok None)
    keeps_full did = completes (Err merging.Full) did (Ok None) (λ f. cc, λ f. cc) tt
        (λ list h. (free.held (g.state (inner_disk a)) (g.state (inner_disk b)) old old.free_file
        list h.held (same (Err merging.Full) did h.held.known.tables h.merges.plan
        h.merges.under_way)).0)
        (λ list w. (free.meant (g.state (inner_disk a)) (g.state (inner_disk b)) old old.free_file
        list w.was (same (Err merging.Full) did w.was.hold.known.tables w.merges.plan
        w.merges.under_way)).0)

    -- another refusal is the environment's
    outside : (e : MergeError) → (e ≡ merging.Full → ⊥) → Did (Err e) → (tables : List LevelTable)
        (plan : MergePlan) → IsMergeOf g a old tables was plan →
        IsEnvironmental engine.Disk engine.Memory (error_of_merge e)
    outside e room did tables plan m = elim (did.ends m.meant plan floor m.merging done) [
      | inl is ↦ environment e is
      | inr full ↦ absurd (room full.0)
    ]

    keeps_refusal : (e : MergeError) → (e ≡ merging.Full → ⊥) → Did (Err e) →
        (told : EngineError) → told ≡ error_of_merge e → Keeps (Err told)
    keeps_refusal e room did told is = subst (λ (s : EngineError). Keeps (Err s)) (sym is)
        (completes (Err e) did (Err (error_of_merge e)) (fails_alike e) (ends e)
        (λ list h. outside e room did h.held.known.tables h.merges.plan h.merges.under_way)
        (λ list w. inl (outside e room did w.was.hold.known.tables w.merges.plan
        w.merges.under_way)))

    -- memory was wanting
    keeps_memory : (edit : Change) → Did (Ok edit) → Keeps (Err engine.Memory)
    keeps_memory edit did = completes (Ok edit) did (Err engine.Memory) (λ f. cc, λ f. cc) tt
        (λ list h. inr refl) (λ list w. inl (inr refl))

    -- the store may record the edit, which gives up what the merge began with
    may_merge : (edit : Change) → Did (Ok edit) → IsFit version edit →
        MayMerge old edit × (edit.tables_gone ≡ was.gone.items)
    may_merge edit did fit =
        let gone : edit.tables_gone ≡ was.gone.items =
        ap (λ (e : Change). e.tables_gone) did.shape.0 in (
          record {
            usable = u;
            fit = fit;
            within = did.shape.1 u.free_few;
            is = subst (λ (names : List TableName). edit
                ≡ merge_change version old.free_file names edit.tables_added) (sym gone)
                did.shape.0;
          },
          gone,
        )

    -- the edit is fit
    keeps_edit : (edit : Change) → Did (Ok edit) → Keeps (Ok (Some edit))
    keeps_edit edit did = completes (Ok edit) did (Ok (Some edit)) (λ f. cc, λ f. cc) tt
        (λ list h.
        let m = h.merges.under_way in
        let both = free.held (g.state (inner_disk a)) (g.state (inner_disk b)) old old.free_file
        list h.held (same (Ok edit) did h.held.known.tables h.merges.plan m) in
        record {
          held = both.0;
          merged = subst (λ (t : List LevelTable).
              HasOutputs (g.state (inner_disk b)) (known_store old t) list edit) (sym both.1)
              (has_outputs keep (g.state (inner_disk a)) list h.held.known h.merges.plan m
              (g.state (inner_disk b)) edit
              (fit_of edit did h.held.known.tables h.merges.plan m).merges);
        })
        (λ list w.
        let m = w.merges.under_way in
        let both = free.meant (g.state (inner_disk a)) (g.state (inner_disk b)) old old.free_file
        list w.was (same (Ok edit) did w.was.hold.known.tables w.merges.plan m) in
        record {
          was = both.0;
          merged = subst (λ (t : List LevelTable).
              HasOutputs (g.state (inner_disk b)) (known_store old t) list edit) (sym both.1)
              (has_outputs keep w.was.meant list w.was.hold.known w.merges.plan m
              (g.state (inner_disk b)) edit
              (fit_of edit did w.was.hold.known.tables w.merges.plan m).merges);
        })

    -- no edit of a merge that is under way is unfit
    keeps_unfit : (edit : Change) → Did (Ok edit) → (IsFit version edit → ⊥) →
        Keeps (Err engine.Damaged)
    keeps_unfit edit did unfit = completes (Ok edit) did (Err engine.Damaged) (λ f. cc, λ f. cc) tt
        (λ list h.
        let m = h.merges.under_way in
        let fit = fit_of edit did h.held.known.tables h.merges.plan m in
        absurd (unfit (fit.fit
        (accepts (g.state (inner_disk a)) list h.held.known h.merges.plan m)).0))
        (λ list w.
        let m = w.merges.under_way in
        let fit = fit_of edit did w.was.hold.known.tables w.merges.plan m in
        absurd (unfit (fit.fit
        (accepts w.was.meant list w.was.hold.known w.merges.plan m)).0))

    -- ---- as the edit was checked

    -- what is kept where the edit is the answer, if the version may take it
    keeps : (answer : Result Change MergeError) → Did answer →
        (result : Result (Option Change) EngineError) → IsCheckedEdit version answer result →
        Keeps result
    keeps (Ok edit) did (Ok made) checked =
        subst (λ (m : Option Change). Keeps (Ok m)) (sym checked.0) (keeps_edit edit did)
    keeps (Ok edit) did (Err e) (inl memory) =
        subst (λ (s : EngineError). Keeps (Err s)) (sym memory) (keeps_memory edit did)
    keeps (Ok edit) did (Err e) (inr damaged) =
        subst (λ (s : EngineError). Keeps (Err s)) (sym damaged.0)
        (keeps_unfit edit did damaged.1)
    keeps (Err why) did (Ok made) checked =
        subst (λ (m : Option Change). Keeps (Ok m)) (sym checked.0)
        (keeps_full (subst (λ (e : MergeError). Did (Err e)) checked.1 did))
    keeps (Err why) did (Err e) checked = keeps_refusal why checked.1 did e checked.0

    -- the store may record it
    fits : (answer : Result Change MergeError) → Did answer →
        (result : Result (Option Change) EngineError) → IsCheckedEdit version answer result →
        IfOk result (λ made. IfSome made (λ edit. MayMerge old edit
        × (edit.tables_gone ≡ was.gone.items)))
    fits (Ok edit) did (Ok made) checked =
        subst (λ (m : Option Change). IfSome m (λ edit. MayMerge old edit
        × (edit.tables_gone ≡ was.gone.items))) (sym checked.0) (may_merge edit did checked.1)
    fits (Ok edit) did (Err e) checked = tt
    fits (Err why) did (Ok made) checked =
        subst (λ (m : Option Change). IfSome m (λ edit. MayMerge old edit
        × (edit.tables_gone ≡ was.gone.items))) (sym checked.0) tt
    fits (Err why) did (Err e) checked = tt

    -- and it is that of the plan
    edits : (answer : Result Change MergeError) → Did answer →
        (result : Result (Option Change) EngineError) → IsCheckedEdit version answer result →
        (tables : List LevelTable) (plan : MergePlan) → IsMergeOf g a old tables was plan →
        IfOk result (IsEditOf old plan (target_of was))
    edits (Ok edit) did (Ok made) checked tables plan m =
        subst (IsEditOf old plan (target_of was)) (sym checked.0) (edit_of edit did tables plan m)
    edits (Ok edit) did (Err e) checked tables plan m = tt
    edits (Err why) did (Ok made) checked tables plan m =
        subst (IsEditOf old plan (target_of was)) (sym checked.0)
        (too_many (subst (λ (e : MergeError). Did (Err e)) checked.1 did) tables plan m)
    edits (Err why) did (Err e) checked tables plan m = tt

    -- as the calls were told
    module _ (named : StoreVersion) (named_is : named ≡ version) (start : ℕ)
        (start_is : start ≡ old.free_file) (answer : Result Change MergeError)
        (did : EndsMerge (union_ghosts g) (files_ghosts g) named start a was b now answer)
        (result : Result (Option Change) EngineError)
        (checked : IsCheckedEdit named answer result) where
      did_so : Did answer
      did_so = subst (λ (n : ℕ).
          EndsMerge (union_ghosts g) (files_ghosts g) version n a was b now answer) start_is
          (subst (λ (v : StoreVersion).
          EndsMerge (union_ghosts g) (files_ghosts g) v start a was b now answer) named_is did)

      checked_so : IsCheckedEdit version answer result
      checked_so = subst (λ (v : StoreVersion). IsCheckedEdit v answer result) named_is checked

      pub kept_told : Keeps result
      kept_told = keeps answer did_so result checked_so

      pub fit_told : IfOk result (λ made. IfSome made (λ edit. MayMerge old edit
          × (edit.tables_gone ≡ was.gone.items)))
      fit_told = fits answer did_so result checked_so

      pub edit_told : (tables : List LevelTable) (plan : MergePlan) →
          IsMergeOf g a old tables was plan → IfOk result (IsEditOf old plan (target_of was))
      edit_told = edits answer did_so result checked_so
