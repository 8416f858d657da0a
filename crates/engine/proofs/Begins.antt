-- A merge that begins: its inputs among the tables of open files, and what is known of it then.
use Rattle.std.proofs.Common.{◌≡◌, ◌⊎◌, ◌∙◌, ◌≤◌, ℕ, zero, suc, List, [], ◌∷◌, Option, Some, None}
use Rattle.std.proofs.Common.{Result, Ok, Err, ap, inl, inr, refl, subst}
use Rattle.std.proofs.lemmas.List.Elements.{All-head, All-tail}
use Rattle.std.specs.List.{AllZip}
use Rattle.std.specs.Option.{option_and_then, option_map}
use Rattle.std.specs.Prelude.{All, IfOk, MatchResult}
use Rattle.disk.specs.{Contents, IsEnvironmental, State, contents}
use Rattle.disk.specs.declared.Disk.{Ghosts}
use Rattle.byte_fields.specs.{StoredKey}
use Rattle.kv_types.specs.{BatchContent}
use Rattle.version_edits.specs.declared.TableLine.{TableLine}
use Rattle.version_edits.specs.{StoreVersion}
use Rattle.manifest.specs.{NodeVersion}
use Rattle.manifest.specs.VersionsLemmas.{all_tables_left}
use Rattle.compaction.specs.declared.Merge.{Merge}
use Rattle.compaction.specs.declared.MergeError.{MergeError}
use Rattle.compaction.specs.declared.MergeError.TheVariants as merge
use Rattle.compaction.specs.declared.Plan.{Plan}
use Rattle.compaction.specs.{IsLineOf, PicksArePlanned, model_plan, picked, range_of}
use Rattle.compaction.specs.Merges.{AreCursorsOf, AreIntactCursors, IsIntactMerge, IsJustBegun}
use Rattle.compaction.specs.Merges.{IsMergeOutput, begun_number}
use Rattle.compaction.specs.Outputs.{AreUnused}
use Rattle.compaction.specs.Picks.{due_level, plan_of_level, table_in_turn}
use Rattle.store_model.specs.{IsPlanned, KeyRange, LevelTable}
use Rattle.store_model.specs.Claims.{PlansFit}
use Rattle.sorted_table.specs.{table_file}
use Rattle.sorted_table.specs.declared.TableCursor.{TableCursor}
use Rattle.store_tables.specs.declared.levels.OpenTable.{OpenTable}
use Rattle.store_tables.specs.LevelTablesLemmas.{open_as_itself}
use Rattle.store_tables.specs.LevelTables.{AreTablesOf, HasMeantBlocks, IsServed}
use Rattle.store_tables.specs.LevelTables.{WasServed, WereServed}
use Rattle.store_tables.specs.MergeTables.{HaveInputs}
use Rattle.store_tables.specs.RangeReads.{VersionsNameOwnFiles}
use Rattle.store_files.specs.declared.store_files.StoreFiles.{StoreFiles}
use Rattle.store_files.specs.OpenFiles.{FilesAreRead, known_store, known_version}
use Rattle.store_files.specs.Raising.{IsRaisedBy}
use Rattle.table_files.specs.{inner_disk}
use Rattle.table_files.specs.declared.cached_disk.CachedDisk.{CachedDisk}
use Rattle.engine.specs.BeginParts.{BeginsMerge, BeginsOver, MeetsDamage}
use Rattle.engine.specs.DamagedInputs.{AreReadAsMeant, WasRepresented}
use Rattle.engine.specs.MergeParts.{answer_of_merge, error_of_merge}
use Rattle.engine.specs.LentFiles.{files_ghosts, table_ghosts, union_ghosts}
use Rattle.engine.specs.MergeParts.{IsPartRefusal, IsPicked}
use Rattle.engine.proofs.InputFiles.{cursors_intact, mixed, mixed_served, read_before, were_inputs}
use Rattle.engine.proofs.InputFiles.{were_on}

-- ---- the plan behind a rise of the floor

-- the plan of level 0, below this file
abbrev of_first : ℕ → Option Plan
of_first n = Some (record { level = 0; file = None; below = n })

-- that of a deeper level, which takes the table of this line
abbrev of_line : ℕ → ℕ → Option TableLine → Option Plan
of_line level n line = option_map (λ line. record {
  level = level;
  file = Some line.file;
  below = n;
}) line

-- the plan of a level is the same in a version with the same tables and the same next file
same_plan : (turn : ℕ → Option StoredKey) (v w : StoreVersion) → w.next_file ≡ v.next_file →
    w.tables ≡ v.tables → (level : ℕ) → plan_of_level turn w level ≡ plan_of_level turn v level
same_plan turn v w next tables zero = ap of_first next
same_plan turn v w next tables (suc level) =
    let named = λ (l : List TableLine). table_in_turn (suc level) (turn (suc level)) l in
    ap (λ (n : ℕ). of_line (suc level) n (named w.tables)) next
    ∙ ap (λ (l : List TableLine). of_line (suc level) v.next_file (named l)) tables

-- and so is the plan that is picked
same_pick : (most base : ℕ) (turn : ℕ → Option StoredKey) (v w : StoreVersion) →
    w.next_file ≡ v.next_file → w.tables ≡ v.tables →
    picked most base turn w ≡ picked most base turn v
same_pick most base turn v w next tables =
    ap (λ (l : List TableLine). option_and_then (plan_of_level turn w) (due_level most base l))
    tables ∙ through (due_level most base v.tables)
  where
    through : (level : Option ℕ) →
        option_and_then (plan_of_level turn w) level ≡ option_and_then (plan_of_level turn v) level
    through None = refl
    through (Some level) = same_plan turn v w next tables level

-- a rise of the floor leaves the tables of the version
pub lines_raised : (floor : ℕ) (old new : StoreFiles) → IsRaisedBy floor old new →
    (known_version new).version.tables ≡ (known_version old).version.tables
lines_raised floor old new raised =
    ap (λ (n : NodeVersion). n.version.tables) raised.version
    ∙ all_tables_left (known_version old).version.tables

-- a plan that is picked in the version of open files is so behind a rise of their floor
pub picked_behind : (floor : ℕ) (old new : StoreFiles) (plan : Plan) → IsRaisedBy floor old new →
    IsPicked old plan → IsPicked new plan
picked_behind floor old new plan raised p =
    let was = (known_version old).version in
    record {
      most = p.most;
      base = p.base;
      turn = p.turn;
      is = same_pick p.most p.base p.turn was (known_version new).version
          (ap (λ (n : NodeVersion). n.version.next_file) raised.version)
          (lines_raised floor old new raised) ∙ p.is;
    }

-- ---- the tables

-- the lines that name tables are their lines
pub lines_of_tables : (left : Contents) (lines : List TableLine) (tables : List LevelTable) →
    AreTablesOf left lines tables → AllZip IsLineOf lines tables
lines_of_tables left [] [] named = tt
lines_of_tables left [] (t ∷ tables) named = absurd named
lines_of_tables left (line ∷ lines) [] named = absurd named
lines_of_tables left (line ∷ lines) (t ∷ tables) named = (
  record { level = named.0.level; file = named.0.file; range = named.0.range },
  lines_of_tables left lines tables named.1,
)

-- tables that are served from what was meant, by what the disk has of them
pub were_served : (disk meant : State) (items : List OpenTable) (tables : List LevelTable) →
    AllZip (IsServed meant) items tables → All (HasMeantBlocks disk meant) items →
    AllZip (WasServed disk meant) items tables
were_served disk meant [] [] zip all = tt
were_served disk meant [] (t ∷ tables) zip all = absurd zip
were_served disk meant (it ∷ items) [] zip all = absurd zip
were_served disk meant (it ∷ items) (t ∷ tables) zip all = (
  record { serves = zip.0; blocks = All-head (HasMeantBlocks disk meant) it items all },
  were_served disk meant items tables zip.1 (All-tail (HasMeantBlocks disk meant) it items all),
)

-- tables that are served were meant to be as they are
pub are_served : (disk : State) (items : List OpenTable) (tables : List LevelTable) →
    AllZip (IsServed disk) items tables → AllZip (WasServed disk disk) items tables
are_served disk [] [] zip = tt
are_served disk [] (t ∷ tables) zip = absurd zip
are_served disk (it ∷ items) [] zip = absurd zip
are_served disk (it ∷ items) (t ∷ tables) zip = (
  record { serves = zip.0; blocks = open_as_itself (disk (table_file it.table)) it.table },
  are_served disk items tables zip.1,
)

-- ---- the merge

module _ {D : Type 0} (g : Ghosts D) (store : StoreFiles) (plan : Plan) where
  abbrev version : StoreVersion
  version = (known_version store).version

  -- what the cursors over the inputs are, by these lines
  abbrev AreOver : List TableLine → List (TableCursor D) → Type 0
  AreOver lines cursors =
      (meant : State) (files : CachedDisk D g) (range : KeyRange) (tables : List LevelTable) →
      g.is_honest (inner_disk files) → HaveInputs plan range lines store.tables tables →
      WereServed (g.state (inner_disk files)) meant store.tables tables →
      AreCursorsOf (table_ghosts g) (files_ghosts g) meant files cursors
      (model_plan plan range tables).inputs

  -- what a merge is that begins with them at this version, with file numbers from this one on
  abbrev IsBegunAt : (a b : CachedDisk D g) → List (TableCursor D) → NodeVersion → ℕ →
      Result (Merge D) MergeError → Type 0
  IsBegunAt a b cursors named next r =
      (meant : State) (tables : List LevelTable) (range : KeyRange) → g.is_honest (inner_disk a) →
      AllZip IsLineOf named.version.tables tables →
      range_of plan named.version.tables ≡ Some range →
      AreCursorsOf (table_ghosts g) (files_ghosts g) meant a cursors
      (model_plan plan range tables).inputs →
      named.version.next_file ≤ next → AreUnused (g.state (inner_disk a)) next → MatchResult r
      (λ it. IsJustBegun (union_ghosts g) (files_ghosts g) meant b next it
      (model_plan plan range tables) named.version.floor
      × (AreIntactCursors (table_ghosts g) (files_ghosts g) a cursors
      (model_plan plan range tables).inputs →
      IsIntactMerge (union_ghosts g) (files_ghosts g) b it (model_plan plan range tables)))
      (λ e. IsEnvironmental merge.Disk merge.Memory e ⊎ ((e ≡ merge.Damaged)
      × (AreIntactCursors (table_ghosts g) (files_ghosts g) a cursors
      (model_plan plan range tables).inputs → ⊥)))

  -- it has no output yet
  abbrev HasNoOutput : ℕ → Result (Merge D) MergeError → Type 0
  HasNoOutput next r = IfOk r (λ it. (begun_number it ≡ next)
      × ((file : ℕ) → IsMergeOutput it file → ⊥))

  module _ (list : List BatchContent) (meant : State) (read : FilesAreRead meant store list) where
    -- the plan is one of the model
    planned : PicksArePlanned → IsPicked store plan → (range : KeyRange)
        × (range_of plan version.tables ≡ Some range)
        × IsPlanned (model_plan plan range read.tables)
    planned law p =
        law p.most p.base p.turn version plan read.tables read.usable.version
        (lines_of_tables (contents meant) version.tables read.tables read.read) p.is

    -- its inputs are among the tables of the version
    have_inputs : VersionsNameOwnFiles → (range : KeyRange) →
        range_of plan version.tables ≡ Some range →
        HaveInputs plan range version.tables store.tables read.tables
    have_inputs law range joint = record {
      open_lines = read.usable.tables;
      named = lines_of_tables (contents meant) version.tables read.tables read.read;
      joint = joint;
      flushed = (known_store store read.tables).flushed;
      leveled = read.store.tables;
      own = law version read.usable.version (contents meant) read.tables read.read;
    }

    module _ (a b : CachedDisk D g) (cursors : List (TableCursor D)) (range : KeyRange)
        (joint : range_of plan version.tables ≡ Some range)
        (is : IsPlanned (model_plan plan range read.tables))
        (intact : AreReadAsMeant (g.state (inner_disk a)) meant
        (model_plan plan range read.tables).inputs →
        AreIntactCursors (table_ghosts g) (files_ghosts g) a cursors
        (model_plan plan range read.tables).inputs) (fit : PlansFit)
        (were : All (WasRepresented (g.state (inner_disk a)) meant)
        (model_plan plan range read.tables).inputs)
        (same : (file : ℕ) → g.state (inner_disk b) file ≡ g.state (inner_disk a) file) where
      abbrev inputs : List LevelTable
      inputs = (model_plan plan range read.tables).inputs

      -- what began is under way, and a refusal is external or says that an input is damaged
      begins_over : (r : Result (Merge D) MergeError) → HasNoOutput store.free_file r →
          MatchResult r
          (λ it. IsJustBegun (union_ghosts g) (files_ghosts g) meant b store.free_file it
          (model_plan plan range read.tables) version.floor
          × (AreIntactCursors (table_ghosts g) (files_ghosts g) a cursors inputs →
          IsIntactMerge (union_ghosts g) (files_ghosts g) b it
          (model_plan plan range read.tables)))
          (λ e. IsEnvironmental merge.Disk merge.Memory e ⊎ ((e ≡ merge.Damaged)
          × (AreIntactCursors (table_ghosts g) (files_ghosts g) a cursors inputs → ⊥))) →
          MatchResult (answer_of_merge r) (BeginsOver g plan a b meant store read.tables)
          (IsPartRefusal (MeetsDamage g plan a meant store read.tables))
      begins_over (Ok it) none both =
          let before = g.state (inner_disk a) in
          let after = g.state (inner_disk b) in
          record {
            range = range;
            joint = joint;
            under_way = record {
              meant = meant;
              merging = both.0.merging;
              can_end = fit list (known_store store read.tables) (model_plan plan range read.tables)
                  read.store is refl;
              beside = λ file has. absurd (none.1 file has);
              were = were_on before after meant inputs (λ t has. same t.file) were;
              undamaged = λ reads. both.1 (intact
                  (read_before before after meant inputs (λ t has. same t.file) reads));
            };
            none = both.0.none;
            intact = λ reads. both.1 (intact reads);
          }
      begins_over (Err e) none (inl (inl disk)) = inl (inl (ap error_of_merge disk))
      begins_over (Err e) none (inl (inr memory)) = inl (inr (ap error_of_merge memory))
      begins_over (Err e) none (inr damaged) = inr (
        ap error_of_merge damaged.0,
        record { range = range; joint = joint; damaged = λ reads. damaged.1 (intact reads) },
      )

  -- so a merge begins with cursors over the inputs of a plan that is picked
  pub begins_merge : PicksArePlanned → PlansFit → VersionsNameOwnFiles → IsPicked store plan →
      (a b : CachedDisk D g) (cursors : List (TableCursor D)) (named : NodeVersion) (next : ℕ)
      (lines : List TableLine) → named ≡ known_version store → next ≡ store.free_file →
      lines ≡ version.tables → AreOver lines cursors →
      (g.is_honest (inner_disk a) →
      (file : ℕ) → g.state (inner_disk b) file ≡ g.state (inner_disk a) file) →
      (r : Result (Merge D) MergeError) → IsBegunAt a b cursors named next r →
      HasNoOutput next r → BeginsMerge g plan a b store (answer_of_merge r)
  begins_merge picks fit own p a b cursors named next lines is_named is_next is_lines over same r
      begun none list meant read honest served as_meant unused =
      let disk = g.state (inner_disk a) in
      let plans = planned list meant read picks p in
      let range = plans.0 in
      let have = have_inputs list meant read own range plans.1 in
      let over' = subst (λ (l : List TableLine). AreOver l cursors) is_lines over in
      let begun' = subst (λ (n : ℕ). IsBegunAt a b cursors (known_version store) n r) is_next
      (subst (λ (n : NodeVersion). IsBegunAt a b cursors n next r) is_named begun) in
      let items = store.tables.tables.items in
      let leveled = have.leveled in
      begins_over list meant read a b cursors range plans.1 plans.2
      (λ reads. cursors_intact g plan range a meant items read.tables have.flushed leveled served
      cursors (over' (mixed g plan range a meant items read.tables have.flushed leveled served) a
      range read.tables honest have (mixed_served g plan range a meant items read.tables
      have.flushed leveled served reads)))
      fit (were_inputs disk meant plan range version.tables read.tables read.read as_meant)
      (same honest) r (subst (λ (n : ℕ). HasNoOutput n r) is_next none)
      (begun' meant read.tables range honest have.named plans.1
      (over' meant a range read.tables honest have served) read.usable.free unused)
