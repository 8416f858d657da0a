-- A merge under way in an engine, and calls that leave it so.
use Rattle.std.proofs.Common.{◌≡◌, ◌≤◌, ◌<◌, ℕ, List, [], ◌∷◌, Option, Some, None, Result, Ok, Err}
use Rattle.std.proofs.Common.{Bool, true, false, ap, arith, inl, inr, map, refl, subst, sym, ◌∙◌}
use Rattle.std.proofs.Math.Path.{fun_ext}
use Rattle.std.proofs.lemmas.List.Elements.{All-cons, All-contains_itself, All-nil, All-weaker}
use Rattle.std.specs.Prelude.{All, Contains, IsNone, MatchResult, OnOk}
use Rattle.kv_types.specs.{BatchContent}
use Rattle.disk.specs.{IsSame, IsSameBut, Slot, State, seen}
use Rattle.disk.specs.declared.Disk.{Ghosts}
use Rattle.version_edits.specs.declared.LogLine.{LogLine}
use Rattle.version_edits.specs.declared.TableLine.{TableLine}
use Rattle.version_edits.specs.Versions.{names_log}
use Rattle.manifest.specs.{Change, NodeVersion, changed}
use Rattle.compaction.specs.declared.Merge.{Merge}
use Rattle.compaction.specs.declared.writer.OutputWriter.{OutputWriter}
use Rattle.compaction.specs.Edits.{OutputsAreBeside}
use Rattle.compaction.specs.Merges.{IsIntactMerge, IsMerging}
use Rattle.compaction.specs.Outputs.{AreUnused, IsOutputFile}
use Rattle.compaction.specs.Walks.{LeavesWalk, table_files}
use Rattle.store_model.specs.{IsUnderWay, LevelTable, MergePlan}
use Rattle.store_model.specs.PlacesLemmas.{contains_cases, contains_head, contains_next}
use Rattle.store_tables.specs.declared.error.EngineError.{EngineError}
use Rattle.store_tables.specs.Errors.{IsEnd}
use Rattle.store_files.specs.declared.store_files.StoreFiles.{StoreFiles}
use Rattle.store_files.specs.declared.tended.Tended.{Tended}
use Rattle.store_files.specs.declared.tended.Tended.TheVariants as tended
use Rattle.store_files.specs.Apart.{IsSlotOrFree, IsTableApart, OpenFilesAreApart}
use Rattle.batch_logs.specs.BatchLogs.{newest_file}
use Rattle.store_files.specs.Files.{Facts}
use Rattle.store_files.specs.OpenFiles.{AreUsableFiles, FilesHold, WereMeantToHold, batch_count}
use Rattle.store_files.specs.OpenFiles.{known_facts, known_store, known_version}
use Rattle.store_files.specs.Plans.{KeepsPlans}
use Rattle.store_files.specs.StoreFiles.{flush_change}
use Rattle.store_files.specs.Tending.{IsSameBeside, IsTend as tend, tended_files}
use Rattle.store_files.specs.Tending.{IsTend}
use Rattle.table_files.specs.{inner_disk}
use Rattle.table_files.specs.declared.cached_disk.CachedDisk.{CachedDisk}
use Rattle.engine.specs.LentFiles.{files_ghosts, union_ghosts}
use Rattle.engine.specs.UnderWay.{HoldsWithMerge, IsMergeOf}
use Rattle.engine.specs.UnderWay.{MergesOfEngineLast, MergesOfEngineStayBeside}
use Rattle.engine.specs.UnderWay.{WasMeantWithMerge}
use Rattle.engine.proofs.InputFiles.{read_before, same_files_of, were_on}

-- a list that a map makes has of each value one that it came from
contains_mapped : {A B : Type 0} (f : A → B) (xs : List A) (y : B) → Contains (map f xs) y →
    (x : A) × Contains xs x × (f x ≡ y)
contains_mapped f [] y has = let lt = has.1 in absurd (omega (arith, lt))
contains_mapped f (x ∷ xs) y has = elim (contains_cases (f x) (map f xs) y has) [
  | inl is ↦ (x, contains_head x xs, is)
  | inr later ↦
      let one = contains_mapped f xs y later in
      (one.0, contains_next x xs one.0 one.1, one.2)
]

-- and it has what it makes of each
contains_map : {A B : Type 0} (f : A → B) (xs : List A) (x : A) → Contains xs x →
    Contains (map f xs) (f x)
contains_map f [] x has = let lt = has.1 in absurd (omega (arith, lt))
contains_map f (y ∷ ys) x has = elim (contains_cases y ys x has) [
  | inl is ↦ subst (λ z. Contains (f y ∷ map f ys) (f z)) is (contains_head (f y) (map f ys))
  | inr later ↦ contains_next (f y) (map f ys) (f x) (contains_map f ys x later)
]

-- what is not named is not
pub not_named : {named : Bool} → named ≡ false → named ≡ true → ⊥
not_named off is = let both = sym off ∙ is in cc

-- after a tend of a store its version names no output, where it named none before
beside_tended : (was now : StoreFiles) (writer : OutputWriter) (answer : Tended) →
    ((change : Change) → All (λ line. was.free_file ≤ line.file) change.logs_added →
    All (λ line. was.free_file ≤ line.file) change.tables_added →
    OutputsAreBeside writer (changed (known_version was).version change)) →
    OutputsAreBeside writer (known_version was).version →
    IsTend was now answer → OutputsAreBeside writer (known_version now).version
beside_tended was now writer tended.Idle edits beside (tend.WasRewrite did) = absurd did
beside_tended was now writer tended.Worked edits beside (tend.WasRewrite did) =
    subst (λ (n : NodeVersion). OutputsAreBeside writer n.version) (sym did.1) beside
beside_tended was now writer tended.Full edits beside (tend.WasRewrite did) =
    subst (λ (s : StoreFiles). OutputsAreBeside writer (known_version s).version) (sym did.1) beside
beside_tended was now writer tended.Idle edits beside (tend.WasFlush some did) = absurd did
beside_tended was now writer tended.Worked edits beside (tend.WasFlush some did) =
    let version = (known_version was).version in
    let change = flush_change version was.free_file (batch_count was) did.0 in
    let next = did.1.file in
    subst (λ (n : NodeVersion). OutputsAreBeside writer n.version) (sym did.2.version)
    (edits change
    (All-cons (λ (line : LogLine). was.free_file ≤ line.file) _ [] (omega arith)
    (All-nil (λ (line : LogLine). was.free_file ≤ line.file)))
    (All-cons (λ (line : TableLine). was.free_file ≤ line.file) did.0 [] (omega (arith, next))
    (All-nil (λ (line : TableLine). was.free_file ≤ line.file))))
beside_tended was now writer tended.Full edits beside (tend.WasFlush some did) =
    subst (λ (s : StoreFiles). OutputsAreBeside writer (known_version s).version) (sym did.1) beside
beside_tended was now writer answer edits beside (tend.WasRest same idle) =
    subst (λ (s : StoreFiles). OutputsAreBeside writer (known_version s).version) (sym same) beside

module _ {D : Type 0} (g : Ghosts D) (lasts : MergesOfEngineLast g) where
  -- calls that left the inputs and the outputs of a merge as they were leave it under way
  pub under_way_on : (a b : CachedDisk D g) (was now : StoreFiles) (tables after : List LevelTable)
      (merge : Merge D) (plan : MergePlan) → IsMergeOf g a was tables merge plan →
      LeavesWalk (files_ghosts g) a b was.free_file now.free_file merge.writer plan.inputs →
      (known_facts now).floor ≡ (known_facts was).floor → IsUnderWay (known_store now after) plan →
      OutputsAreBeside merge.writer (known_version now).version →
      IsMergeOf g b now after merge plan
  under_way_on a b was now tables after merge plan m leaves floor can_end beside =
      let s = g.state (inner_disk a) in
      let t = g.state (inner_disk b) in
      let same = same_files_of s t plan.inputs leaves.sources.1 in
      let last = lasts m.meant a b was.free_file now.free_file merge plan (known_facts was).floor
      m.merging leaves in
      record {
        meant = m.meant;
        merging = subst (λ (f : ℕ). IsMerging (union_ghosts g) (files_ghosts g) m.meant b
            now.free_file merge plan f) (sym floor) last.0;
        can_end = can_end;
        beside = beside;
        were = were_on s t m.meant plan.inputs same m.were;
        undamaged = λ reads. last.1 (m.undamaged (read_before s t m.meant plan.inputs same reads));
      }

  -- and its inputs as intact
  pub intact_on : (a b : CachedDisk D g) (was now : StoreFiles) (tables : List LevelTable)
      (merge : Merge D) (plan : MergePlan) → IsMergeOf g a was tables merge plan →
      LeavesWalk (files_ghosts g) a b was.free_file now.free_file merge.writer plan.inputs →
      IsIntactMerge (union_ghosts g) (files_ghosts g) a merge plan →
      IsIntactMerge (union_ghosts g) (files_ghosts g) b merge plan
  intact_on a b was now tables merge plan m leaves =
      (lasts m.meant a b was.free_file now.free_file merge plan (known_facts was).floor m.merging
      leaves).1

  -- ---- calls that change no file

  module _ (a b : CachedDisk D g) (honest : g.is_honest (inner_disk b))
      (same : IsSame (g.state (inner_disk a)) (g.state (inner_disk b))) where
    -- no file of the merge is another
    all_left : (store : StoreFiles) (tables : List LevelTable) (merge : Merge D) (plan : MergePlan)
        → IsMergeOf g a store tables merge plan →
        LeavesWalk (files_ghosts g) a b store.free_file store.free_file merge.writer plan.inputs
    all_left store tables merge plan m = record {
      sources = (honest, λ file has. same file);
      closed = All-weaker (Contains merge.writer.closed.items)
          (λ (line : TableLine). g.state (inner_disk b) line.file
          ≡ g.state (inner_disk a) line.file) (λ line has. same line.file)
          merge.writer.closed.items (All-contains_itself merge.writer.closed.items);
      current = λ file is. same file;
      number = omega arith;
      unused = λ file le. subst (λ (s : Slot). IsNone (seen s)) (sym (same file))
          (m.merging.walk.unused file le);
    }

    states : g.state (inner_disk a) ≡ g.state (inner_disk b)
    states = fun_ext (λ file. sym (same file))

    -- the open files hold what they held, and the merge is under way over them
    pub held_same : (store : StoreFiles) (merge : Option (Merge D)) (list : List BatchContent) →
        HoldsWithMerge g a store merge list → HoldsWithMerge g b store merge list
    held_same store None list h = record {
      held = subst (λ (s : State). FilesHold s store list) states h.held;
      merges = tt;
    }
    held_same store (Some merge) list h =
        let plan = h.merges.plan in
        let m = h.merges.under_way in
        let both = subst (λ (s : State). (held : FilesHold s store list)
        × IsUnderWay (known_store store held.known.tables) plan) states (h.held, m.can_end) in
        let left = all_left store h.held.known.tables merge plan m in
        record {
          held = both.0;
          merges = record {
            plan = plan;
            under_way = under_way_on a b store store h.held.known.tables both.0.known.tables merge
                plan m left refl both.1 m.beside;
            intact = intact_on a b store store h.held.known.tables merge plan m left
                h.merges.intact;
          };
        }

    -- and so where they were meant to hold it
    pub meant_same : (store : StoreFiles) (merge : Option (Merge D)) (list : List BatchContent) →
        WasMeantWithMerge g a store merge list → WasMeantWithMerge g b store merge list
    meant_same store None list w = record {
      was = subst (λ (s : State). WereMeantToHold s store list) states w.was;
      merges = tt;
    }
    meant_same store (Some merge) list w =
        let plan = w.merges.plan in
        let m = w.merges.under_way in
        let both = subst (λ (s : State). (was : WereMeantToHold s store list)
        × IsUnderWay (known_store store was.hold.known.tables) plan) states
        (w.was, m.can_end) in
        record {
          was = both.0;
          merges = record {
            plan = plan;
            under_way = under_way_on a b store store w.was.hold.known.tables
                both.0.hold.known.tables merge plan m
                (all_left store w.was.hold.known.tables merge plan m) refl both.1 m.beside;
          };
        }

  -- ---- calls that change files of a store

  -- what is to be shown of a call that leaves a merge of the store under way
  pub record LeavesMergeOf (a b : CachedDisk D g) (was now : StoreFiles) (merge : Merge D)
      (plan : MergePlan) : Type 0 where
    pub leaves : LeavesWalk (files_ghosts g) a b was.free_file now.free_file merge.writer
        plan.inputs
    pub floor : (known_facts now).floor ≡ (known_facts was).floor
    pub beside : OutputsAreBeside merge.writer (known_version now).version

  -- files that hold a list go on to hold another, and the merge is under way over them, where the
  -- call keeps plans and leaves merges
  pub goes_with_merge : {T : Type 0} (a b : CachedDisk D g) (was now : StoreFiles)
      (merge : Option (Merge D)) (list : List BatchContent)
      (after : List BatchContent → List BatchContent) (result : Result T EngineError) →
      g.is_honest (inner_disk a) →
      KeepsPlans (files_ghosts g) after a b was now result →
      OnOk result (FilesHold (g.state (inner_disk b)) now (after list)) →
      (h : HoldsWithMerge g a was merge list) →
      ((m : Merge D) (plan : MergePlan) → merge ≡ Some m →
      IsMergeOf g a was h.held.known.tables m plan →
      OnOk result (LeavesMergeOf a b was now m plan)) →
      OnOk result (HoldsWithMerge g b now merge (after list))
  goes_with_merge a b was now None list after (Ok x) honest plans held h leaves =
      record { held = held; merges = tt }
  goes_with_merge a b was now (Some merge) list after (Ok x) honest plans held h leaves =
      let plan = h.merges.plan in
      let m = h.merges.under_way in
      let both = plans.held list plan honest (record { held = h.held; can_end = m.can_end }) in
      let left = leaves merge plan refl m in
      record {
        held = both.held;
        merges = record {
          plan = plan;
          under_way = under_way_on a b was now h.held.known.tables both.held.known.tables merge plan
              m left.leaves left.floor both.can_end left.beside;
          intact = intact_on a b was now h.held.known.tables merge plan m left.leaves
              h.merges.intact;
        };
      }
  goes_with_merge a b was now None list after (Err e) honest plans held h leaves = tt
  goes_with_merge a b was now (Some merge) list after (Err e) honest plans held h leaves = tt

  -- so it is with files that were meant to hold it
  pub meant_with_merge : {T : Type 0} (a b : CachedDisk D g) (was now : StoreFiles)
      (merge : Option (Merge D)) (list : List BatchContent)
      (after : List BatchContent → List BatchContent) (result : Result T EngineError) →
      g.is_honest (inner_disk a) →
      KeepsPlans (files_ghosts g) after a b was now result →
      OnOk result (WereMeantToHold (g.state (inner_disk b)) now (after list)) →
      (w : WasMeantWithMerge g a was merge list) →
      ((m : Merge D) (plan : MergePlan) → merge ≡ Some m →
      IsMergeOf g a was w.was.hold.known.tables m plan →
      OnOk result (LeavesMergeOf a b was now m plan)) →
      OnOk result (WasMeantWithMerge g b now merge (after list))
  meant_with_merge a b was now None list after (Ok x) honest plans held w leaves =
      record { was = held; merges = tt }
  meant_with_merge a b was now (Some merge) list after (Ok x) honest plans held w leaves =
      let plan = w.merges.plan in
      let m = w.merges.under_way in
      let both = plans.meant list plan honest (record { was = w.was; can_end = m.can_end }) in
      let left = leaves merge plan refl m in
      record {
        was = both.was;
        merges = record {
          plan = plan;
          under_way = under_way_on a b was now w.was.hold.known.tables both.was.hold.known.tables
              merge plan m left.leaves left.floor both.can_end left.beside;
        };
      }
  meant_with_merge a b was now None list after (Err e) honest plans held w leaves = tt
  meant_with_merge a b was now (Some merge) list after (Err e) honest plans held w leaves = tt

  -- ---- files that a call left as they were

  module _ (apart : OpenFilesAreApart) (a b : CachedDisk D g) (was now : StoreFiles)
      (tables : List LevelTable) (merge : Merge D) (plan : MergePlan)
      (m : IsMergeOf g a was tables merge plan) where
    -- the disk of the files before the call, and after it
    abbrev old : State
    old = g.state (inner_disk a)

    abbrev new : State
    new = g.state (inner_disk b)

    -- an input is one of the tables
    input_file : (P : ℕ → Type 0) →
        ((table : LevelTable) → Contains tables table → P table.file) → (file : ℕ) →
        Contains (table_files plan.inputs) file → P file
    input_file P each file has =
        let one = contains_mapped (λ (t : LevelTable). t.file) plan.inputs file has in
        subst P one.2 (each one.0 (m.can_end.fits.there one.0 one.1))

    -- a call that leaves the files of tables and of outputs leaves the merge
    left_so : g.is_honest (inner_disk b) → was.free_file ≤ now.free_file →
        AreUnused new now.free_file →
        ((table : LevelTable) → Contains tables table → new table.file ≡ old table.file) →
        ((file : ℕ) → IsOutputFile merge.writer file → new file ≡ old file) →
        LeavesWalk (files_ghosts g) a b was.free_file now.free_file merge.writer plan.inputs
    left_so honest free unused same_tables same_outputs = record {
      sources = (honest, input_file (λ file. new file ≡ old file) same_tables);
      closed = All-weaker (Contains merge.writer.closed.items)
          (λ (line : TableLine). new line.file ≡ old line.file)
          (λ line has. same_outputs line.file (inr (contains_map (λ (l : TableLine). l.file)
          merge.writer.closed.items line has)))
          merge.writer.closed.items (All-contains_itself merge.writer.closed.items);
      current = λ file is. same_outputs file (inl is);
      number = free;
      unused = unused;
    }

    -- an output's file is from 3 on, below the first free one
    output_given : (file : ℕ) → IsOutputFile merge.writer file →
        (3 ≤ file) × (file < was.free_file)
    output_given file is =
        let between = m.merging.numbers.outputs file is in
        let late = m.merging.numbers.late in
        let first = between.0 in
        (omega (arith, late, first), between.1)

    -- a call that writes to the newest log alone leaves it
    pub log_leaves : AreUsableFiles was → ((table : LevelTable) → Contains tables table →
        IsTableApart was table.file) → g.is_honest (inner_disk b) →
        IsSameBut (newest_file was.logs) old new → known_version now ≡ known_version was →
        was.free_file ≤ now.free_file → AreUnused new now.free_file →
        LeavesMergeOf a b was now merge plan
    log_leaves usable each honest spares version free unused =
        let named = apart.log was usable in
        record {
          leaves = left_so honest free unused
              (λ table has. spares table.file (each table has).no_log)
              (λ file is. spares file (λ here.
              let no_log = (m.beside file is).0 in
              not_named (subst (λ (f : ℕ). names_log (known_version was).version.logs f ≡ false)
              here no_log) named.named));
          floor = ap (λ (n : NodeVersion). n.version.floor) version;
          beside = subst (λ (n : NodeVersion). OutputsAreBeside merge.writer n.version)
              (sym version) m.beside;
        }

    -- a call that writes to slots and free files alone leaves it
    pub slots_leave : (touched : List ℕ) → ((file : ℕ) → Contains touched file →
        IsSlotOrFree was file) → ((table : LevelTable) → Contains tables table →
        IsTableApart was table.file) → g.is_honest (inner_disk b) →
        IsSameBeside touched old new → was.free_file ≤ now.free_file →
        AreUnused new now.free_file →
        LeavesWalk (files_ghosts g) a b was.free_file now.free_file merge.writer plan.inputs
    slots_leave touched slots each honest same free unused =
        left_so honest free unused
        (λ table has. same table.file (λ there.
        let one = each table has in
        no_slot table.file (slots table.file there) one.late one.early))
        (λ file is. same file (λ there.
        let given = output_given file is in
        no_slot file (slots file there) given.0 given.1))
      where
        no_slot : (file : ℕ) → IsSlotOrFree was file → 3 ≤ file → file < was.free_file → ⊥
        no_slot file (inl slot) late early = omega (arith, slot, late)
        no_slot file (inr free) late early = omega (arith, free, early)

    -- a tend of the store leaves it
    pub tend_leaves : MergesOfEngineStayBeside g → (answer : Tended) → IsTend was now answer →
        ((file : ℕ) → Contains (tended_files was) file → IsSlotOrFree was file) →
        ((table : LevelTable) → Contains tables table → IsTableApart was table.file) →
        g.is_honest (inner_disk b) → IsSameBeside (tended_files was) old new →
        known_facts now ≡ known_facts was → was.free_file ≤ now.free_file →
        AreUnused new now.free_file → LeavesMergeOf a b was now merge plan
    tend_leaves edits answer did slots each honest same facts free unused = record {
      leaves = slots_leave (tended_files was) slots each honest same free unused;
      floor = ap (λ (f : Facts). f.floor) facts;
      beside = beside_tended was now merge.writer answer
          (λ change logs added. edits m.meant a was.free_file merge plan (known_facts was).floor
          (known_version was).version change m.merging logs added m.beside) m.beside did;
    }

    -- where it answers
    pub tend_leaves_ok : MergesOfEngineStayBeside g → (result : Result Tended EngineError) →
        MatchResult result (IsTend was now) IsEnd →
        ((file : ℕ) → Contains (tended_files was) file → IsSlotOrFree was file) →
        ((table : LevelTable) → Contains tables table → IsTableApart was table.file) →
        g.is_honest (inner_disk b) → IsSameBeside (tended_files was) old new →
        known_facts now ≡ known_facts was → was.free_file ≤ now.free_file →
        OnOk result (AreUnused new now.free_file) →
        OnOk result (LeavesMergeOf a b was now merge plan)
    tend_leaves_ok edits (Ok answer) did slots each honest same facts free unused =
        tend_leaves edits answer did slots each honest same facts free unused
    tend_leaves_ok edits (Err e) did slots each honest same facts free unused = tt

-- files that hold a list have no file from the first free one on
pub unused_held : {T : Type 0} (disk : State) (files : StoreFiles) (list : List BatchContent)
    (result : Result T EngineError) → OnOk result (FilesHold disk files list) →
    OnOk result (AreUnused disk files.free_file)
unused_held disk files list (Ok x) held = held.unused
unused_held disk files list (Err e) held = tt

-- nor have files that were meant to
pub unused_meant : {T : Type 0} → OpenFilesAreApart → (disk : State) (files : StoreFiles)
    (list : List BatchContent) (result : Result T EngineError) →
    OnOk result (WereMeantToHold disk files list) → OnOk result (AreUnused disk files.free_file)
unused_meant apart disk files list (Ok x) held = apart.unused disk files list held
unused_meant apart disk files list (Err e) held = tt
