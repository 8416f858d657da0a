-- A merge that is installed: a record names its outputs in the places of its inputs.
use Rattle.std.specs.Prelude.{◌≡◌, ℕ, List, ◌∷◌, map, All, Result}
use Rattle.kv_types.specs.{BatchContent}
use Rattle.disk.specs.declared.Disk.{Ghosts}
use Rattle.disk.specs.{IsDurable, State, contents}
use Rattle.store_model.specs.{LevelTable, StoreRepresents, StoreState, with_tables}
use Rattle.manifest.specs.{Change, HasFullSlot, HasSameSlots, IsChange, IsFit, counting_file}
use Rattle.manifest.specs.{node_version_after}
use Rattle.compaction.specs.Merges.{merge_change}
use Rattle.compaction.specs.{tables_after}
use Rattle.store_tables.specs.declared.error.EngineError.{EngineError}
use Rattle.store_tables.specs.LevelTables.{AreTablesOf}
use Rattle.store_files.specs.declared.store_files.StoreFiles.{StoreFiles}
use Rattle.store_files.specs.OpenFiles.{AreUsableFiles, FilesHold, WereMeantToHold, known_facts}
use Rattle.store_files.specs.OpenFiles.{known_store, known_version}
use Rattle.store_files.specs.TendKeeps.{StoreKeeps}

-- ---- before the record

-- The files can record the edit of a merge: they are usable, their version may take it, and it
-- changes the tables alone. Its next file is the first free one.
pub record MayMerge (files : StoreFiles) (edit : Change) : Type 0 where
  pub usable : AreUsableFiles files
  pub fit : IsFit (known_version files).version edit
  pub within : IsChange edit
  pub is : edit ≡ merge_change (known_version files).version files.free_file edit.tables_gone
      edit.tables_added

-- The disk durably has the tables that the edit adds. With them in the places of those that it
-- gives up, the store represents the same list.
pub record HasOutputs (disk : State) (store : StoreState) (list : List BatchContent) (edit : Change)
    : Type 0 where
  pub outputs : List LevelTable
  pub read : AreTablesOf (contents disk) edit.tables_added outputs
  pub durable : All (λ line. IsDurable (disk line.file)) edit.tables_added
  pub represents : StoreRepresents list
      (with_tables store (tables_after edit.tables_gone outputs store.tables))

-- the files hold a list, and the disk has the outputs of a merge
pub record HeldWithOutputs (disk : State) (files : StoreFiles) (list : List BatchContent)
    (edit : Change) : Type 0 where
  pub held : FilesHold disk files list
  pub merged : HasOutputs disk (known_store files held.known.tables) list edit

-- the files were meant to hold a list, and the disk has the outputs of a merge
pub record MeantWithOutputs (disk : State) (files : StoreFiles) (list : List BatchContent)
    (edit : Change) : Type 0 where
  pub was : WereMeantToHold disk files list
  pub merged : HasOutputs disk (known_store files was.hold.known.tables) list edit

-- ---- the record

-- the files of the tables that an edit gives up
abbrev pub replaced_files : Change → List ℕ
replaced_files edit = map (λ one. one.file) edit.tables_gone

-- the files that the record of a merge may change: the slot that counts, and the inputs
abbrev pub merged_files : StoreFiles → Change → List ℕ
merged_files files edit = counting_file files.manifest ∷ replaced_files edit

-- the version is the one after the edit, recorded in the slot that counts; the logs and the first
-- free file are the same
pub record IsMergedBy (edit : Change) (old new : StoreFiles) : Type 0 where
  pub version : known_version new ≡ node_version_after (known_version old) edit
  pub slots : HasSameSlots old.manifest new.manifest
  pub logs : new.logs ≡ old.logs
  pub free : new.free_file ≡ old.free_file

-- What an installed merge keeps of files that hold a list, or were meant to: the list and the
-- facts.
abbrev pub InstallsMerge : {D : Type 0} → Ghosts D → Change → (disk later : D) →
    (old new : StoreFiles) → Result (Unit {0}) EngineError → Type 0
InstallsMerge g edit disk later old new result =
    StoreKeeps g (λ state list. HeldWithOutputs state old list edit)
    (λ state list. MeantWithOutputs state old list edit) (merged_files old edit)
    (λ IsSaid. IsSaid (known_facts old)) (HasFullSlot old.manifest)
    (λ _. IsMergedBy edit old new) disk later old new result
