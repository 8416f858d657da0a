-- A merge that is installed on a disk with damaged blocks of tables.
use Rattle.std.proofs.Common.{◌≡◌, ◌≢◌, ◌≤◌, ◌∙◌, ℕ, List, ap, arith, inl, inr, refl, subst, sym}
use Rattle.std.specs.Prelude.{All, Contains, IsNone}
use Rattle.std.proofs.lemmas.List.Elements.{All-contains, All-contains_itself, All-weaker}
use Rattle.kv_types.specs.{BatchContent}
use Rattle.disk.specs.{Contents, DurableFileIsLeft, IsCrashOutcome, IsDurable, IsSame, IsSameBut}
use Rattle.disk.specs.{LeavesSince, Slot, State, contents, seen}
use Rattle.disk.specs.MomentsLemmas.{join, weaker}
use Rattle.store_model.specs.{LevelTable}
use Rattle.version_edits.specs.declared.line.LogLine.{LogLine}
use Rattle.version_edits.specs.declared.line.TableLine.{TableLine}
use Rattle.manifest.specs.Changes.{IsBeforeOrAfter}
use Rattle.manifest.specs.{Change, EditsKeepVersions, HeldVersionIsLeft, HeldVersionStays}
use Rattle.manifest.specs.{IsSlotFile, IsVersion, ManifestHasFailed, ManifestHolds}
use Rattle.manifest.specs.{ManifestRepresents, NodeVersion, SlotsAreLeft, StoreVersion}
use Rattle.manifest.specs.{counting_file}
use Rattle.store_tables.specs.declared.levels.LevelTables.{LevelTables}
use Rattle.store_tables.specs.LevelTables.{AreServed, IsTableAsMeant, WereServed}
use Rattle.store_tables.specs.MergeTables.{ReplacedLinesName}
use Rattle.store_files.specs.declared.store_files.StoreFiles.{StoreFiles}
use Rattle.store_files.specs.Merging.{HasOutputs, MayMerge, MeantWithOutputs, replaced_files}
use Rattle.store_files.specs.Merging.{merged_files}
use Rattle.store_files.specs.OpenFiles.{IsAsMeant, WereMeantToHold, known_facts, known_store}
use Rattle.store_files.specs.OpenFiles.{known_version, trimmed_count}
use Rattle.store_files.specs.Removing.{AreLeftBeside}
use Rattle.store_files.specs.StoreFiles.{WereMeant}
use Rattle.store_files.specs.Tending.{IsSameBeside}
use Rattle.store_files.proofs.KeptNames.{kept_is_given, table_is_kept}
use Rattle.store_files.proofs.KeptFiles.{served_in}
use Rattle.store_files.proofs.Meant.{blocks_stay, own_blocks, zip_was}
use Rattle.store_files.proofs.MeantFiles.{TablesAsMeant, follow_but, named_were_left}
use Rattle.store_files.proofs.MeantFiles.{still_as_meant}
use Rattle.store_files.proofs.MeantOpenings.{log_beside, mended, mended_at, mended_beside}
use Rattle.store_files.proofs.MeantOpenings.{slot_beside, zip_blocks, zip_serves}
use Rattle.store_files.proofs.MeantTends.{named_of, not_called}
use Rattle.store_files.proofs.MergeEdits.{all_merged, input_no_slot, log_no_input, new_apart}
use Rattle.store_files.proofs.MergeEdits.{table_no_input}
use Rattle.store_files.proofs.Merged.{AreMerged, after, after_is, free_stays, known, log_stays}
use Rattle.store_files.proofs.Merged.{merged_hold, named_after, slots_after, table_stays}
use Rattle.store_files.proofs.Merged.{merged_tables, usable_after}
use Rattle.store_files.proofs.NamedFiles.{tables_same}
use Rattle.store_files.proofs.NamedHolds.{NamedHold, log_no_slot, named_in, table_no_slot}
use Rattle.store_files.proofs.StillFiles.{still_keeps}

module _ {files : StoreFiles} {edit : Change} (may : MayMerge files edit)
    (names : ReplacedLinesName) (law : DurableFileIsLeft) (held : HeldVersionIsLeft)
    (stays : HeldVersionStays) (versions : EditsKeepVersions) (list : List BatchContent)
    (s1 : State) (ms : MeantWithOutputs s1 files list edit) where
  abbrev version : StoreVersion
  version = (known_version files).version

  abbrev lawful : IsVersion version
  lawful = may.usable.version

  abbrev lawful_after : IsVersion (after may)
  lawful_after = after_is may versions

  abbrev id : ℕ
  id = (known_version files).id

  abbrev m1 : State
  m1 = ms.was.meant

  abbrev tables : List LevelTable
  tables = ms.was.hold.known.tables

  -- files that were meant to be of the list
  abbrev pub WereOfStore : Contents → Type 0
  WereOfStore = WereMeant (known_facts files) list

  -- while calls leave nothing new
  pub still_were : (past since : List State) (s2 : State)
      → LeavesSince s1 past s2 since (IsCrashOutcome s1) → LeavesSince s1 past s2 since WereOfStore
  still_were past since s2 run = still_keeps WereOfStore s1 past s2 since
      (not_called s1 files list ms.was law held past).now run

  pub named : NamedHold m1 version files.logs (trimmed_count files) tables list
  named = named_of m1 files list ms.was.hold.known

  -- the file of an output is as it was meant
  pub new_same : (line : TableLine) → Contains edit.tables_added line → s1 line.file ≡ m1 line.file
  new_same line has = ms.was.disk_is.others line.file
      (All-weaker (Contains version.tables) (λ (other : TableLine). other.file ≢ line.file)
      (λ other there. new_apart version lawful edit files.free_file may.fit may.is line other has
      there) version.tables (All-contains_itself version.tables))

  -- so the outputs are there as it was meant
  abbrev pub outputs : HasOutputs m1 (known_store files tables) list edit
  outputs = record {
    outputs = ms.merged.outputs;
    read = tables_same (contents s1) (contents m1) edit.tables_added ms.merged.outputs
        (λ line has. ap seen (sym (new_same line has))) ms.merged.read;
    durable = All-weaker (Contains edit.tables_added)
        (λ (line : TableLine). IsDurable (m1 line.file))
        (λ line has. subst IsDurable (new_same line has)
        (All-contains (λ (one : TableLine). IsDurable (s1 one.file)) edit.tables_added line
        ms.merged.durable has)) edit.tables_added (All-contains_itself edit.tables_added);
    represents = ms.merged.represents;
  }

  -- the tables then
  abbrev pub tables_were : List LevelTable
  tables_were = merged_tables may m1 tables list named outputs names

  named_then : NamedHold m1 (after may) files.logs (trimmed_count files) tables_were list
  named_then = named_after may m1 tables list named outputs names

  -- a log's file is none of a table after it
  log_alone : (line : LogLine) → Contains version.logs line
      → All (λ table. table.file ≢ line.file) (after may).tables
  log_alone line has = log_beside (after may) lawful_after line has

  module _ (s2 : State) (same : IsSame s1 s2) where
    t2 : TablesAsMeant s2 m1 version.tables
    t2 = record {
      others = λ file beside. same file ∙ ms.was.disk_is.others file beside;
      tables = All-weaker (λ (line : TableLine). IsTableAsMeant (s1 line.file) (m1 line.file))
          (λ (line : TableLine). IsTableAsMeant (s2 line.file) (m1 line.file))
          (λ line it. subst (λ (s : Slot). IsTableAsMeant s (m1 line.file)) (sym (same line.file))
          it) version.tables ms.was.disk_is.tables;
      durable = All-weaker (λ (line : TableLine). IsDurable (s1 line.file))
          (λ (line : TableLine). IsDurable (s2 line.file))
          (λ line sure. subst IsDurable (sym (same line.file)) sure) version.tables
          ms.was.disk_is.durable;
    }

    -- the open tables were meant to be served still
    pub still_were_served : WereServed s2 m1 files.tables tables
    still_were_served =
        let read = ms.was.hold.known.read in
        let served = ms.was.hold.known.served in
        zip_was s2 m1 files.tables.tables.items tables served
        (blocks_stay s1 s2 m1 m1 version.tables files.tables.tables.items tables
        (λ line has. same line.file) (λ line has. refl) read served ms.was.disk_is.blocks)

    -- and so were the outputs, where they are
    pub outputs_were_served : (opened : LevelTables) → AreServed s2 opened ms.merged.outputs
        → WereServed s2 m1 opened ms.merged.outputs
    outputs_were_served opened served =
        let added = edit.tables_added in
        let items = opened.tables.items in
        let read = tables_same (contents s1) (contents s2) added ms.merged.outputs
        (λ line has. ap seen (same line.file)) ms.merged.read in
        let still : (line : TableLine) → Contains added line → m1 line.file ≡ s2 line.file =
        λ line has. sym (same line.file ∙ new_same line has) in
        zip_was s2 m1 items ms.merged.outputs
        (served_in s2 m1 added items ms.merged.outputs still read served)
        (blocks_stay s2 s2 s2 m1 added items ms.merged.outputs (λ line has. refl) still read served
        (own_blocks s2 items))

    -- the disk with the tables after it as they were meant
    abbrev pub m2 : State
    m2 = mended (after may).tables m1 s2

    t_after : TablesAsMeant s2 m2 (after may).tables
    t_after =
        let as_they_were = all_merged version lawful edit files.free_file may.fit may.is
        (λ (line : TableLine). IsTableAsMeant (s2 line.file) (m1 line.file)) t2.tables
        (All-weaker (Contains edit.tables_added)
        (λ (line : TableLine). IsTableAsMeant (s2 line.file) (m1 line.file))
        (λ line has. inl (same line.file ∙ new_same line has)) edit.tables_added
        (All-contains_itself edit.tables_added)) in
        record {
          others = λ file beside. sym (mended_beside (after may).tables m1 s2 file beside);
          tables = All-weaker (Contains (after may).tables)
              (λ (line : TableLine). IsTableAsMeant (s2 line.file) (m2 line.file))
              (λ line has. subst (λ (s : Slot). IsTableAsMeant (s2 line.file) s)
              (sym (mended_at (after may).tables m1 s2 line has))
              (All-contains (λ (one : TableLine). IsTableAsMeant (s2 one.file) (m1 one.file))
              (after may).tables line as_they_were has)) (after may).tables
              (All-contains_itself (after may).tables);
          durable = all_merged version lawful edit files.free_file may.fit may.is
              (λ (line : TableLine). IsDurable (s2 line.file)) t2.durable
              (All-weaker (λ (line : TableLine). IsDurable (s1 line.file))
              (λ (line : TableLine). IsDurable (s2 line.file))
              (λ line sure. subst IsDurable (sym (same line.file)) sure) edit.tables_added
              ms.merged.durable);
        }

    -- a log's file is as it was meant
    log_same : (line : LogLine) → Contains version.logs line → m2 line.file ≡ m1 line.file
    log_same line has = mended_beside (after may).tables m1 s2 line.file (log_alone line has)
        ∙ t2.others line.file (log_beside version lawful line has)

    named_mended : NamedHold m2 (after may) files.logs (trimmed_count files) tables_were list
    named_mended = named_in m1 (after may) files.logs (trimmed_count files) tables_were list
        named_then m2 log_same (λ line has. mended_at (after may).tables m1 s2 line has)

    -- while the edit is recorded behind such calls
    pub merge_was_recorded : (past so_far since : List State) (s3 : State)
        → LeavesSince s1 past s2 so_far (IsCrashOutcome s1) → LeavesSince s2 so_far s3 since
        (SlotsAreLeft s2 (IsBeforeOrAfter edit (known_version files)))
        → LeavesSince s1 past s3 since WereOfStore
    merge_was_recorded past so_far since s3 still run =
        join WereOfStore s1 s2 s3 past so_far since (still_were past so_far s2 still)
        (weaker (SlotsAreLeft s2 (IsBeforeOrAfter edit (known_version files))) WereOfStore s2 so_far
        s3 since (λ left at. elim at.here as (λ _. WereOfStore left) [
          | inl old ↦ named_were_left s2 m1 version lawful files.logs (trimmed_count files) tables
              list named t2 law id left old
              (λ line has. at.others line.file (log_no_slot version lawful line has))
              (λ line has. at.others line.file (table_no_slot version lawful line has))
          | inr new ↦ named_were_left s2 m2 (after may) lawful_after files.logs
              (trimmed_count files) tables_were list named_mended t_after law id left
              (slots_after may left new)
              (λ line has. at.others line.file (log_no_slot version lawful line has))
              (λ line has. at.others line.file (table_no_slot (after may) lawful_after line has))
        ]) run)

    module _ (new : StoreFiles) (r : AreMerged edit files new)
        (slot : IsSlotFile (counting_file files.manifest)) where
      -- while the inputs are removed
      pub inputs_were_removed : (s3 : State) → IsSameBut (counting_file files.manifest) s2 s3
          → ManifestHolds s3 new.manifest (known_version new) → (past since : List State)
          (s4 : State) → LeavesSince s3 past s4 since (AreLeftBeside (replaced_files edit) s3)
          → LeavesSince s3 past s4 since WereOfStore
      inputs_were_removed s3 spares holds past since s4 run =
          let free = files.free_file in
          let lines = (after may).tables in
          let m3 = mended lines m2 s3 in
          let table_no : (line : TableLine) → Contains lines line
          → line.file ≢ counting_file files.manifest = λ line has is.
          table_no_slot (after may) lawful_after line has (subst IsSlotFile (sym is) slot) in
          let t3 = still_as_meant s2 m2 lines t_after s3
          (λ line has. spares line.file (table_no line has)) in
          let followed = follow_but s2 m2 lines t_after s3 (counting_file files.manifest) spares in
          let later = named_in m2 (after may) files.logs (trimmed_count files) tables_were list
          named_mended m3
          (λ line has. followed line.file (λ is. log_no_slot version lawful line has
          (subst IsSlotFile (sym is) slot)))
          (λ line has. followed line.file (table_no line has)) in
          weaker (AreLeftBeside (replaced_files edit) s3) WereOfStore s3 past s4 since
          (λ left at. named_were_left s3 m3 (after may) lawful_after files.logs
          (trimmed_count files) tables_were list later t3 law id left
          (subst (λ (n : NodeVersion). ManifestRepresents n left)
          (known may new r) (held s3 new.manifest (known_version new) left holds
          (λ one is. at one (λ input.
          input_no_slot version lawful edit free may.fit may.is one input is))))
          (λ line has. at line.file (log_no_input version lawful edit free may.fit may.is line has))
          (λ line has. at line.file
          (table_no_input version lawful edit free may.fit may.is line has))) run

      -- the open files were meant to hold the list then
      pub meant_after : (s4 : State) → IsSameBeside (merged_files files edit) s2 s4
          → (ManifestHasFailed new.manifest → ⊥)
          → ManifestHolds s4 new.manifest (known_version new)
          → WereServed s2 m1 new.tables tables_were → WereMeantToHold s4 new list
      meant_after s4 touched works holds served =
          let lines = (after may).tables in
          let m4 = mended lines m1 s4 in
          let logs_stay = log_stays may slot s2 s4 touched versions in
          let tables_stay = table_stays may slot s2 s4 touched versions in
          let at : (line : TableLine) → Contains lines line → m4 line.file ≡ m1 line.file =
          λ line has. mended_at lines m1 s4 line has in
          let beside : (file : ℕ) → files.free_file ≤ file
          → All (λ (line : TableLine). line.file ≢ file) lines = λ file above.
          All-weaker (Contains lines) (λ (line : TableLine). line.file ≢ file)
          (λ line has is.
          let below = kept_is_given (after may) lawful_after line.file
          (table_is_kept (after may) line has) in omega (arith, above, below, is)) lines
          (All-contains_itself lines) in
          let was_beside : (file : ℕ) → files.free_file ≤ file
          → All (λ (line : TableLine). line.file ≢ file) version.tables = λ file above.
          All-weaker (Contains version.tables) (λ (line : TableLine). line.file ≢ file)
          (λ line has is.
          let below = kept_is_given version lawful line.file (table_is_kept version line has) in
          let least = may.usable.free in
          omega (arith, above, below, is, least)) version.tables
          (All-contains_itself version.tables) in
          let mended_served = served_in m1 m4 lines new.tables.tables.items tables_were at
          named_then.read (zip_serves s2 m1 new.tables.tables.items tables_were served) in
          record {
            meant = m4;
            hold = merged_hold may new r m4 tables_were tables list
                (named_in m1 (after may) files.logs (trimmed_count files) tables_were list
                named_then m4
                (λ line has. mended_beside lines m1 s4 line.file (log_alone line has)
                ∙ logs_stay line has ∙ t2.others line.file (log_beside version lawful line has)) at)
                (usable_after may new r versions works)
                (stays s4 m4 new.manifest (known_version new) holds (λ one is.
                mended_beside lines m1 s4 one (slot_beside (after may) lawful_after one is)))
                mended_served ms.was.hold.known.entries ms.was.hold.known.count
                (λ file above. subst (λ (s : Slot). IsNone (seen s))
                (sym (mended_beside lines m1 s4 file (beside file above)
                ∙ free_stays may slot s2 s4 touched versions file above
                ∙ t2.others file (was_beside file above)))
                (ms.was.hold.unused file above));
            disk_is = subst (λ (n : NodeVersion). IsAsMeant s4 m4 n.version new.tables)
                (sym (known may new r)) (record {
                  others = λ file apart. sym (mended_beside lines m1 s4 file apart);
                  tables = All-weaker (Contains lines)
                      (λ (line : TableLine). IsTableAsMeant (s4 line.file) (m4 line.file))
                      (λ line has. subst (λ (s : Slot). IsTableAsMeant (s4 line.file) s)
                      (mended_at lines m1 s2 line has ∙ sym (at line has))
                      (subst (λ (s : Slot). IsTableAsMeant s (m2 line.file))
                      (sym (tables_stay line has))
                      (All-contains (λ (one : TableLine).
                      IsTableAsMeant (s2 one.file) (m2 one.file)) lines line t_after.tables has)))
                      lines (All-contains_itself lines);
                  blocks = blocks_stay s2 s4 m1 m4 lines new.tables.tables.items tables_were
                      tables_stay at named_then.read
                      (zip_serves s2 m1 new.tables.tables.items tables_were served)
                      (zip_blocks s2 m1 new.tables.tables.items tables_were served);
                  durable = All-weaker (Contains lines)
                      (λ (line : TableLine). IsDurable (s4 line.file))
                      (λ line has. subst IsDurable (sym (tables_stay line has))
                      (All-contains (λ (one : TableLine). IsDurable (s2 one.file)) lines line
                      t_after.durable has)) lines (All-contains_itself lines);
                });
          }
