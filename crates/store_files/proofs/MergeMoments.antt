-- What a crash leaves while a merge is installed, and what the open files hold then.
use Rattle.std.proofs.Common.{◌∙◌, ℕ, List, inl, inr, subst, sym}
use Rattle.std.specs.Prelude.{IsNone}
use Rattle.kv_types.specs.{BatchContent}
use Rattle.disk.specs.{Contents, DurableFileIsLeft, IsCrashOutcome, IsSame, IsSameBut, LeavesSince}
use Rattle.disk.specs.{Slot, State, seen}
use Rattle.disk.specs.MomentsLemmas.{join, weaker}
use Rattle.store_model.specs.{LevelTable}
use Rattle.manifest.specs.Changes.{IsBeforeOrAfter}
use Rattle.manifest.specs.{Change, EditsKeepVersions, HeldVersionIsLeft}
use Rattle.manifest.specs.{IsSlotFile, IsVersion, ManifestHasFailed, ManifestHolds}
use Rattle.manifest.specs.{ManifestRepresents, NodeVersion, SlotsAreLeft, StoreVersion}
use Rattle.manifest.specs.{counting_file}
use Rattle.store_tables.specs.LevelTables.{AreServed, WereServed}
use Rattle.store_tables.specs.MergeTables.{ReplacedLinesName}
use Rattle.store_files.specs.declared.store_files.StoreFiles.{StoreFiles}
use Rattle.store_files.specs.Merging.{HasOutputs, HeldWithOutputs, MayMerge, replaced_files}
use Rattle.store_files.specs.Merging.{merged_files}
use Rattle.store_files.specs.OpenFiles.{FilesHold, known_facts, known_store, known_version}
use Rattle.store_files.specs.OpenFiles.{trimmed_count}
use Rattle.store_files.specs.Removing.{AreLeftBeside}
use Rattle.store_files.specs.StoreFiles.{FilesRepresent}
use Rattle.store_files.specs.Tending.{IsSameBeside}
use Rattle.store_files.proofs.Appended.{left_now}
use Rattle.store_files.proofs.KeptFiles.{served_in}
use Rattle.store_files.proofs.Meant.{own_blocks, zip_was}
use Rattle.store_files.proofs.MeantTends.{named_of}
use Rattle.store_files.proofs.MergeEdits.{input_no_slot, log_no_input, table_no_input}
use Rattle.store_files.proofs.Merged.{AreMerged, after, after_is, free_stays, known, log_stays}
use Rattle.store_files.proofs.Merged.{merged_hold, named_after, outputs_stay, slots_after}
use Rattle.store_files.proofs.Merged.{table_stays, merged_tables, usable_after}
use Rattle.store_files.proofs.NamedHolds.{NamedHold, log_no_slot, named_in, named_left}
use Rattle.store_files.proofs.NamedHolds.{table_no_slot}
use Rattle.store_files.proofs.StillFiles.{still_keeps}

module _ {files : StoreFiles} {edit : Change} (may : MayMerge files edit)
    (names : ReplacedLinesName) (law : DurableFileIsLeft) (held : HeldVersionIsLeft)
    (versions : EditsKeepVersions) (list : List BatchContent) (s1 : State)
    (hs : HeldWithOutputs s1 files list edit) where
  abbrev version : StoreVersion
  version = (known_version files).version

  abbrev lawful : IsVersion version
  lawful = may.usable.version

  abbrev id : ℕ
  id = (known_version files).id

  abbrev tables : List LevelTable
  tables = hs.held.known.tables

  -- files of the list
  abbrev pub OfStore : Contents → Type 0
  OfStore = FilesRepresent (known_facts files) list

  -- while calls leave nothing new
  pub still_of_store : (past since : List State) (s2 : State)
      → LeavesSince s1 past s2 since (IsCrashOutcome s1) → LeavesSince s1 past s2 since OfStore
  still_of_store past since s2 run = still_keeps OfStore s1 past s2 since
      (λ left leaves. left_now s1 files list hs.held law held left leaves) run

  module _ (s2 : State) (same : IsSame s1 s2) where
    pub named : NamedHold s2 version files.logs (trimmed_count files) tables list
    named = named_in s1 version files.logs (trimmed_count files) tables list
        (named_of s1 files list hs.held.known) s2 (λ line has. same line.file)
        (λ line has. same line.file)

    abbrev pub outputs : HasOutputs s2 (known_store files tables) list edit
    outputs = outputs_stay s1 s2 files list edit tables same hs.merged

    -- the open tables are served still
    pub still_served : WereServed s2 s2 files.tables tables
    still_served = zip_was s2 s2 files.tables.tables.items tables
        (served_in s1 s2 version.tables files.tables.tables.items tables
        (λ line has. same line.file) hs.held.known.read hs.held.known.served)
        (own_blocks s2 files.tables.tables.items)

    -- the tables then
    abbrev pub tables_then : List LevelTable
    tables_then = merged_tables may s2 tables list named outputs names

    named_then : NamedHold s2 (after may) files.logs (trimmed_count files) tables_then list
    named_then = named_after may s2 tables list named outputs names

    -- while the edit is recorded behind such calls
    pub merge_is_recorded : (past so_far since : List State) (s3 : State)
        → LeavesSince s1 past s2 so_far (IsCrashOutcome s1) → LeavesSince s2 so_far s3 since
        (SlotsAreLeft s2 (IsBeforeOrAfter edit (known_version files)))
        → LeavesSince s1 past s3 since OfStore
    merge_is_recorded past so_far since s3 still run =
        let lawful_after = after_is may versions in
        join OfStore s1 s2 s3 past so_far since (still_of_store past so_far s2 still)
        (weaker (SlotsAreLeft s2 (IsBeforeOrAfter edit (known_version files))) OfStore s2 so_far s3
        since (λ left at. elim at.here as (λ _. OfStore left) [
          | inl old ↦ named_left s2 version files.logs (trimmed_count files) tables list named law
              id left old
              (λ line has. at.others line.file (log_no_slot version lawful line has))
              (λ line has. at.others line.file (table_no_slot version lawful line has))
          | inr new ↦ named_left s2 (after may) files.logs (trimmed_count files) tables_then list
              named_then law id left (slots_after may left new)
              (λ line has. at.others line.file (log_no_slot version lawful line has))
              (λ line has. at.others line.file (table_no_slot (after may) lawful_after line has))
        ]) run)

    module _ (new : StoreFiles) (r : AreMerged edit files new)
        (slot : IsSlotFile (counting_file files.manifest)) where
      -- while the inputs are removed
      pub inputs_are_removed : (s3 : State) → IsSameBut (counting_file files.manifest) s2 s3
          → ManifestHolds s3 new.manifest (known_version new) → (past since : List State)
          (s4 : State) → LeavesSince s3 past s4 since (AreLeftBeside (replaced_files edit) s3)
          → LeavesSince s3 past s4 since OfStore
      inputs_are_removed s3 same holds past since s4 run =
          let lawful_after = after_is may versions in
          let free = files.free_file in
          let later = named_in s2 (after may) files.logs (trimmed_count files) tables_then list
          named_then s3
          (λ line has. same line.file (λ is. log_no_slot version lawful line has
          (subst IsSlotFile (sym is) slot)))
          (λ line has. same line.file (λ is. table_no_slot (after may) lawful_after line has
          (subst IsSlotFile (sym is) slot))) in
          weaker (AreLeftBeside (replaced_files edit) s3) OfStore s3 past s4 since
          (λ left at. named_left s3 (after may) files.logs (trimmed_count files) tables_then list
          later law id left (subst (λ (n : NodeVersion). ManifestRepresents n left)
          (known may new r) (held s3 new.manifest (known_version new) left holds
          (λ one is. at one (λ input.
          input_no_slot version lawful edit free may.fit may.is one input is))))
          (λ line has. at line.file (log_no_input version lawful edit free may.fit may.is line has))
          (λ line has. at line.file
          (table_no_input version lawful edit free may.fit may.is line has))) run

      -- the open files hold the list then
      pub held_after : (s4 : State) → IsSameBeside (merged_files files edit) s2 s4
          → (ManifestHasFailed new.manifest → ⊥)
          → ManifestHolds s4 new.manifest (known_version new)
          → AreServed s2 new.tables tables_then → FilesHold s4 new list
      held_after s4 touched works holds served =
          let logs_stay = log_stays may slot s2 s4 touched versions in
          let tables_stay = table_stays may slot s2 s4 touched versions in
          merged_hold may new r s4 tables_then tables list
          (named_in s2 (after may) files.logs (trimmed_count files) tables_then list named_then s4
          logs_stay tables_stay) (usable_after may new r versions works) holds
          (served_in s2 s4 (after may).tables new.tables.tables.items tables_then tables_stay
          named_then.read served) hs.held.known.entries hs.held.known.count
          (λ file above. subst (λ (s : Slot). IsNone (seen s))
          (sym (free_stays may slot s2 s4 touched versions file above ∙ same file))
          (hs.held.unused file above))
