-- What a merge that begins keeps of open files: the floor rises, and then no file changes.
use Rattle.std.proofs.Common.{◌≡◌, ◌∙◌, List, Some, Result, Ok, Err, inl, inr, refl}
use Rattle.std.proofs.Common.{ap, subst, sym}
use Rattle.std.proofs.Math.Path.{fun_ext}
use Rattle.std.specs.Prelude.{Contains, IfErr, IfOk, IsErrAnd, IsErrOf, MatchResult, ℕ}
use Rattle.kv_types.specs.{BatchContent}
use Rattle.disk.specs.{AlwaysLeaves, Contents, IsEnvironmental, State}
use Rattle.disk.specs.MomentsLemmas.{join, weaker}
use Rattle.disk.specs.declared.Disk.{Ghosts}
use Rattle.version_edits.specs.declared.TableLine.{TableLine}
use Rattle.compaction.specs.declared.Merge.{Merge}
use Rattle.compaction.specs.declared.Plan.{Plan}
use Rattle.compaction.specs.{model_plan}
use Rattle.compaction.specs.Merges.{begun_number}
use Rattle.compaction.specs.Outputs.{IsLeftBeyond, WritesOnly}
use Rattle.store_model.specs.{LevelTable}
use Rattle.store_tables.specs.declared.error.EngineError.{EngineError}
use Rattle.store_tables.specs.declared.error.EngineError.TheVariants as engine
use Rattle.store_tables.specs.Errors.{IsEnd}
use Rattle.disk.specs.KeepingLemmas.{kept_as, kept_behind, kept_but}
use Rattle.store_tables.specs.RefusalLemmas.{answers_nothing, done, if_refuses, on_ok, passed_on}
use Rattle.store_tables.specs.RefusalLemmas.{refuses}
use Rattle.store_files.specs.declared.store_files.StoreFiles.{StoreFiles}
use Rattle.store_files.specs.Apart.{OpenFilesAreApart}
use Rattle.store_files.specs.OpenFiles.{AreUsableFiles, FilesAreRead, FilesHold, WereMeantToHold}
use Rattle.store_files.specs.OpenFiles.{known_version}
use Rattle.store_files.specs.Raising.{RaisesFloor, obsolete_files}
use Rattle.store_files.specs.Removing.{AreAbsent}
use Rattle.table_files.specs.{inner_disk}
use Rattle.table_files.specs.declared.cached_disk.CachedDisk.{CachedDisk}
use Rattle.engine.specs.BeginParts.{BeginsMerge, BeginsOver, MeetsDamage}
use Rattle.engine.specs.DamagedInputs.{AnInputIsDamaged, names_of_inputs}
use Rattle.engine.specs.LentFiles.{files_ghosts}
use Rattle.engine.specs.MergeParts.{IsBegunBy, IsNewMerge, IsPartRefusal, KeepsBegun}
use Rattle.engine.specs.UnderWay.{HoldsWithMerge, IsIntactMergeOf, IsSomeMergeOf}
use Rattle.engine.specs.UnderWay.{WasMeantWithMerge}
use Rattle.engine.proofs.Begins.{are_served, lines_of_tables, lines_raised, were_served}
use Rattle.engine.proofs.InputFiles.{inputs_among, names_are, read_before, were_inputs, were_on}
use Rattle.engine.proofs.RaisedFiles.{raised_no_table}

module _ {D : Type 0} (g : Ghosts D) where
  -- a rise that is refused is all that was done
  pub not_raised : (plan : Plan) (floor : ℕ) (a m : CachedDisk D g) (old new : StoreFiles)
      (e : EngineError) (result : Result (Merge D) EngineError) →
      RaisesFloor (files_ghosts g) floor a m old new (Err e) → IsErrAnd result (λ s. s ≡ e) →
      KeepsBegun g plan floor a m old new result
  not_raised plan floor a m old new e result raises told = record {
    kept = kept_as (files_ghosts g) (passed_on (Err e) e result refl told) (λ s t same. same)
        raises.kept;
    touches = raises.touches;
    numbers = raises.numbers;
    usable = answers_nothing result _ (λ _. AreUsableFiles new) told;
    refused = if_refuses result IsEnd told raises.did;
    held = λ list honest h. refuses result (λ it. HoldsWithMerge g m new (Some it) list)
        (IsEnvironmental engine.Disk engine.Memory) told (raises.tended list honest h).list;
    any_moment = λ list honest h. (raises.tended list honest h).any_moment;
    meant = λ list honest w. refuses result (λ it. WasMeantWithMerge g m new (Some it) list)
        (IsPartRefusal (AnInputIsDamaged (g.state (inner_disk a))
        (names_of_inputs plan (known_version old).version.tables))) told
        (inl (raises.meant list honest w).list);
    meant_moment = λ list honest w. (raises.meant list honest w).any_moment;
  }

  module _ (plan : Plan) (m b : CachedDisk D g) (store : StoreFiles)
      (list : List BatchContent) where
    -- the disk of the files before the merge began, and after it
    abbrev mid : State
    mid = g.state (inner_disk m)

    abbrev now : State
    now = g.state (inner_disk b)

    -- how a merge began over these tables, whose files were meant to be as in this disk
    abbrev HasBegun : State → List LevelTable → Result (Merge D) EngineError → Type 0
    HasBegun meant tables result = MatchResult result (BeginsOver g plan m b meant store tables)
        (IsPartRefusal (MeetsDamage g plan m meant store tables))

    -- files that hold a list hold it with the merge, and no block of theirs is damaged
    held_begun : (h : FilesHold mid store list) (result : Result (Merge D) EngineError) →
        HasBegun mid h.known.tables result → mid ≡ now →
        MatchResult result (λ it. HoldsWithMerge g b store (Some it) list)
        (IsEnvironmental engine.Disk engine.Memory)
    held_begun h (Ok it) over same =
        let both = subst (λ (s : State). (held : FilesHold s store list)
        × IsIntactMergeOf g b store held.known.tables it) same (
          h,
          record {
            plan = model_plan plan over.range h.known.tables;
            under_way = over.under_way;
            intact = over.intact (λ k d lt. refl);
          },
        ) in
        record { held = both.0; merges = both.1 }
    held_begun h (Err e) (inl external) same = external
    held_begun h (Err e) (inr told) same = absurd (told.1.damaged (λ k d lt. refl))

    -- so were they meant to hold it, or an input is damaged, by a disk with the same tables' files
    meant_begun : (before : State) (lines : List TableLine)
        (w : WereMeantToHold mid store list) (result : Result (Merge D) EngineError) →
        HasBegun w.meant w.hold.known.tables result → mid ≡ now →
        lines ≡ (known_version store).version.tables →
        ((t : LevelTable) → Contains w.hold.known.tables t → mid t.file ≡ before t.file) →
        MatchResult result (λ it. WasMeantWithMerge g b store (Some it) list)
        (IsPartRefusal (AnInputIsDamaged before (names_of_inputs plan lines)))
    meant_begun before lines w (Ok it) over same named kept =
        let both = subst (λ (s : State). (was : WereMeantToHold s store list)
        × IsSomeMergeOf g b store was.hold.known.tables it) same (
          w,
          record {
            plan = model_plan plan over.range w.hold.known.tables;
            under_way = over.under_way;
          },
        ) in
        record { was = both.0; merges = both.1 }
    meant_begun before lines w (Err e) (inl external) same named kept = inl external
    meant_begun before lines w (Err e) (inr told) same named kept =
        let known = w.hold.known in
        let it = told.1 in
        let inputs = (model_plan plan it.range known.tables).inputs in
        let as_before = λ (t : LevelTable) (has : Contains inputs t).
        kept t (inputs_among plan it.range known.tables t has) in inr (
          told.0,
          record {
            meant = w.meant;
            inputs = inputs;
            named = ap (names_of_inputs plan) named
                ∙ names_are plan it.range (known_version store).version.tables known.tables it.joint
                (lines_of_tables _ (known_version store).version.tables known.tables known.read);
            were = were_on mid before w.meant inputs (λ t has. sym (as_before t has))
                (were_inputs mid w.meant plan it.range (known_version store).version.tables
                known.tables known.read w.disk_is.tables);
            damaged = λ reads. it.damaged
                (read_before mid before w.meant inputs (λ t has. sym (as_before t has)) reads);
          },
        )

    -- and none of the inputs' entries is merged yet
    is_begun : (meant : State) (read : FilesAreRead meant store list)
        (result : Result (Merge D) EngineError) → HasBegun meant read.tables result →
        IfOk result (IsNewMerge g plan b store)
    is_begun meant read (Ok it) over = record {
      tables = read.tables;
      lines = lines_of_tables _ (known_version store).version.tables read.tables read.read;
      range = over.range;
      joint = over.joint;
      under_way = over.under_way;
      none = over.none;
    }
    is_begun meant read (Err e) over = tt

  -- a merge began behind a rise of the floor
  module _ (apart : OpenFilesAreApart) (floor : ℕ) (plan : Plan) (a m b : CachedDisk D g)
      (old new : StoreFiles) (unit : Unit {0})
      (raises : RaisesFloor (files_ghosts g) floor a m old new (Ok unit))
      (result : Result (Merge D) EngineError)
      (writes : WritesOnly (files_ghosts g) (λ _. ⊥) m b (IsErrOf result engine.Disk) ⊥)
      (begins : BeginsMerge g plan m b new result) where
    -- files that hold a list behind the rise
    begins_held : (list : List BatchContent) → g.is_honest (inner_disk a) →
        (h : FilesHold (g.state (inner_disk m)) new list) →
        HasBegun plan m b new list (g.state (inner_disk m)) h.known.tables result
    begins_held list honest h =
        begins list (g.state (inner_disk m)) h.known (raises.kept.honest.1 honest)
        (are_served (g.state (inner_disk m)) new.tables.tables.items h.known.tables h.known.served)
        (λ k d lt. inl refl) h.unused

    -- and files that were meant to
    begins_meant : (list : List BatchContent) → g.is_honest (inner_disk a) →
        (w : WereMeantToHold (g.state (inner_disk m)) new list) →
        HasBegun plan m b new list w.meant w.hold.known.tables result
    begins_meant list honest w =
        begins list w.meant w.hold.known (raises.kept.honest.1 honest)
        (were_served (g.state (inner_disk m)) w.meant new.tables.tables.items w.hold.known.tables
        w.hold.known.served w.disk_is.blocks) w.disk_is.tables
        (apart.unused (g.state (inner_disk m)) new list w)

    -- no file changed
    same_state : g.is_honest (inner_disk a) → g.state (inner_disk m) ≡ g.state (inner_disk b)
    same_state honest =
        fun_ext (λ file. sym (writes.kept.files (raises.kept.honest.1 honest) file (λ no. no)))

    -- so a crash leaves what it might have left behind the rise
    moments : (P : Contents → Type 0) → g.is_honest (inner_disk a) →
        AlwaysLeaves (files_ghosts g) a m P → AlwaysLeaves g (inner_disk a) (inner_disk b) P
    moments P honest before =
        let s = g.state (inner_disk m) in
        let past = g.past (inner_disk m) in
        let later = g.state (inner_disk b) in
        let since = g.past (inner_disk b) in
        join P (g.state (inner_disk a)) s later (g.past (inner_disk a)) past since before
        (weaker (IsLeftBeyond (λ _. ⊥) s) P s past later since
        (λ left at. before.now left (λ file. at file (λ no. no)))
        (writes.any_moment (raises.kept.honest.1 honest)))

    -- the rise leaves the files of tables
    tables_stay : (list : List BatchContent) → g.is_honest (inner_disk a) →
        WereMeantToHold (g.state (inner_disk a)) old list →
        (was : WereMeantToHold (g.state (inner_disk m)) new list) → (t : LevelTable) →
        Contains was.hold.known.tables t →
        g.state (inner_disk m) t.file ≡ g.state (inner_disk a) t.file
    tables_stay list honest w was t has = raises.touches honest t.file (raised_no_table floor old
        new raises.did w.hold.known.usable.version (lines_raised floor old new raises.did)
        (λ file there. apart.tended w.meant old list w.hold.known file there) was.meant
        was.hold.known.tables was.hold.known.read t has
        (apart.tables was.meant new list was.hold.known t has))

    pub keeps_begun : IfErr result IsEnd → KeepsBegun g plan floor a b old new result
    keeps_begun ends = record {
      kept = kept_behind (files_ghosts g) (λ s t u before after. tt) raises.kept done
          (kept_but (files_ghosts g) (λ no. absurd no) writes.kept);
      touches = λ honest file spares.
          writes.kept.files (raises.kept.honest.1 honest) file (λ no. no)
          ∙ raises.touches honest file spares;
      numbers = raises.numbers;
      usable = on_ok result raises.usable;
      refused = ends;
      held = λ list honest h.
          let held = (raises.tended list honest h).list in
          held_begun plan m b new list held result (begins_held list honest held)
          (same_state honest);
      any_moment = λ list honest h. moments _ honest (raises.tended list honest h).any_moment;
      meant = λ list honest w.
          let was = (raises.meant list honest w).list in
          meant_begun plan m b new list (g.state (inner_disk a)) _ was result
          (begins_meant list honest was) (same_state honest)
          (sym (lines_raised floor old new raises.did)) (tables_stay list honest w was);
      meant_moment = λ list honest w. moments _ honest (raises.meant list honest w).any_moment;
    }

    begun_behind : (list : List BatchContent) → g.is_honest (inner_disk a) →
        WereMeantToHold (g.state (inner_disk a)) old list → IfOk result (IsNewMerge g plan b new)
    begun_behind list honest w =
        let was = (raises.meant list honest w).list in
        is_begun plan m b new list was.meant was.hold.known result (begins_meant list honest was)

    pub begun_did : (g.is_honest (inner_disk a) →
        AreAbsent (obsolete_files old floor) (g.state (inner_disk m))) →
        IfOk result (λ it. begun_number it ≡ new.free_file) →
        IfOk result (IsBegunBy g plan floor a b old new)
    begun_did absent first = each result first begun_behind
      where
        each : (r : Result (Merge D) EngineError) → IfOk r (λ it. begun_number it ≡ new.free_file) →
            ((list : List BatchContent) → g.is_honest (inner_disk a) →
            WereMeantToHold (g.state (inner_disk a)) old list → IfOk r (IsNewMerge g plan b new)) →
            IfOk r (IsBegunBy g plan floor a b old new)
        each (Ok it) first begun = record {
          raised = raises.did;
          first = first;
          begun = begun;
          gone = λ honest. subst (λ (s : State). AreAbsent (obsolete_files old floor) s)
              (same_state honest) (absent honest);
        }
        each (Err e) first begun = tt
