-- A merge as it begins over open files whose floor has risen.
use Rattle.std.specs.Prelude.{◌≡◌, All, List, [], MatchResult, Result, Some}
use Rattle.disk.specs.declared.Disk.{Ghosts}
use Rattle.disk.specs.{State}
use Rattle.kv_types.specs.{BatchContent}
use Rattle.store_model.specs.{LevelTable}
use Rattle.compaction.specs.declared.Merge.{Merge}
use Rattle.compaction.specs.declared.Plan.{Plan}
use Rattle.compaction.specs.{model_plan, range_of}
use Rattle.compaction.specs.Merges.{IsIntactMerge}
use Rattle.compaction.specs.Outputs.{AreUnused}
use Rattle.store_tables.specs.declared.error.EngineError.{EngineError}
use Rattle.store_tables.specs.LevelTables.{IsTableAsMeant, WereServed}
use Rattle.store_files.specs.declared.store_files.StoreFiles.{StoreFiles}
use Rattle.store_files.specs.OpenFiles.{FilesAreRead, known_version}
use Rattle.table_files.specs.{inner_disk}
use Rattle.table_files.specs.declared.cached_disk.CachedDisk.{CachedDisk}
use Rattle.engine.specs.DamagedInputs.{AreReadAsMeant}
use Rattle.engine.specs.LentFiles.{files_ghosts, union_ghosts}
use Rattle.engine.specs.MergeParts.{IsPartRefusal}
use Rattle.engine.specs.UnderWay.{IsMergeOf}

module _ {D : Type 0} (g : Ghosts D) where
  -- The merge of the plan's inputs among these tables is under way over the second files, and none
  -- of their entries is merged yet. Where each of their files in the first reads as it was meant
  -- to, its inputs are intact.
  pub record BeginsOver (plan : Plan) (a b : CachedDisk D g) (meant : State) (store : StoreFiles)
      (tables : List LevelTable) (merge : Merge D) : Type 0 where
    pub range : _
    pub joint : range_of plan (known_version store).version.tables ≡ Some range
    pub under_way : IsMergeOf g b store tables merge (model_plan plan range tables)
    pub none : under_way.merging.walk.met ≡ []
    pub intact :
        AreReadAsMeant (g.state (inner_disk a)) meant (model_plan plan range tables).inputs →
        IsIntactMerge (union_ghosts g) (files_ghosts g) b merge (model_plan plan range tables)

  -- of the files of the plan's inputs among these tables, not each reads as it was meant to
  pub record MeetsDamage (plan : Plan) (a : CachedDisk D g) (meant : State) (store : StoreFiles)
      (tables : List LevelTable) : Type 0 where
    pub range : _
    pub joint : range_of plan (known_version store).version.tables ≡ Some range
    pub damaged :
        AreReadAsMeant (g.state (inner_disk a)) meant (model_plan plan range tables).inputs → ⊥

  -- Over files that were meant to serve the tables of the store, the merge begins, or the refusal
  -- is external, or a file of an input does not read as it was meant to.
  abbrev pub BeginsMerge : Plan → (a b : CachedDisk D g) → StoreFiles →
      Result (Merge D) EngineError → Type 0
  BeginsMerge plan a b store result =
      (list : List BatchContent) (meant : State) (read : FilesAreRead meant store list) →
      g.is_honest (inner_disk a) →
      WereServed (g.state (inner_disk a)) meant store.tables read.tables →
      All (λ line. IsTableAsMeant (g.state (inner_disk a) line.file) (meant line.file))
      (known_version store).version.tables → AreUnused (g.state (inner_disk a)) store.free_file →
      MatchResult result (BeginsOver plan a b meant store read.tables)
      (IsPartRefusal (MeetsDamage plan a meant store read.tables))
