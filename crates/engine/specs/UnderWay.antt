-- A merge under way in an engine.
use Rattle.std.specs.Prelude.{All, List, Option, IfSome}
use Rattle.disk.specs.{State}
use Rattle.disk.specs.declared.Disk.{Ghosts}
use Rattle.kv_types.specs.{BatchContent}
use Rattle.compaction.specs.declared.Merge.{Merge}
use Rattle.compaction.specs.Merges.{IsIntactMerge, IsMerging, MergeIsBeside, MergesOutliveCalls}
use Rattle.compaction.specs.Merges.{MergesStayBeside}
use Rattle.store_model.specs.{IsUnderWay, LevelTable, MergePlan}
use Rattle.store_files.specs.declared.store_files.StoreFiles.{StoreFiles}
use Rattle.store_files.specs.OpenFiles.{FilesHold, WereMeantToHold, known_facts, known_store}
use Rattle.store_files.specs.OpenFiles.{known_version}
use Rattle.table_files.specs.{inner_disk}
use Rattle.table_files.specs.declared.cached_disk.CachedDisk.{CachedDisk}
use Rattle.engine.specs.DamagedInputs.{AreReadAsMeant, WasRepresented}
use Rattle.engine.specs.LentFiles.{files_ghosts, union_ghosts}

module _ {D : Type 0} (g : Ghosts D) where
  -- The merge of the plan is under way over the files of a store with these tables: it can end in
  -- the store, at the floor of its version, which names none of its outputs. The file of each input
  -- was meant to represent it, and where each reads so, the merge meets no damage.
  pub record IsMergeOf (files : CachedDisk D g) (store : StoreFiles) (tables : List LevelTable)
      (merge : Merge D) (plan : MergePlan) : Type 0 where
    pub meant : State
    pub merging : IsMerging (union_ghosts g) (files_ghosts g) meant files store.free_file merge plan
        (known_facts store).floor
    pub can_end : IsUnderWay (known_store store tables) plan
    pub beside : MergeIsBeside merge (known_version store).version
    pub were : All (WasRepresented (g.state (inner_disk files)) meant) plan.inputs
    pub undamaged : AreReadAsMeant (g.state (inner_disk files)) meant plan.inputs →
        IsIntactMerge (union_ghosts g) (files_ghosts g) files merge plan

  -- A merge is under way over these files of a store. Its inputs have no damaged block.
  pub record IsIntactMergeOf (files : CachedDisk D g) (store : StoreFiles)
      (tables : List LevelTable) (merge : Merge D) : Type 0 where
    pub plan : MergePlan
    pub under_way : IsMergeOf files store tables merge plan
    pub intact : IsIntactMerge (union_ghosts g) (files_ghosts g) files merge plan

  -- A merge is under way over these files of a store. Its inputs may have damaged blocks.
  pub record IsSomeMergeOf (files : CachedDisk D g) (store : StoreFiles) (tables : List LevelTable)
      (merge : Merge D) : Type 0 where
    pub plan : MergePlan
    pub under_way : IsMergeOf files store tables merge plan

  -- the open files hold the list, and the merge, if there is one, is under way over them
  pub record HoldsWithMerge (files : CachedDisk D g) (store : StoreFiles) (merge : Option (Merge D))
      (list : List BatchContent) : Type 0 where
    pub held : FilesHold (g.state (inner_disk files)) store list
    pub merges : IfSome merge (IsIntactMergeOf files store held.known.tables)

  -- the open files were meant to hold the list, and the merge, if there is one, is under way over
  -- them
  pub record WasMeantWithMerge (files : CachedDisk D g) (store : StoreFiles)
      (merge : Option (Merge D)) (list : List BatchContent) : Type 0 where
    pub was : WereMeantToHold (g.state (inner_disk files)) store list
    pub merges : IfSome merge (IsSomeMergeOf files store was.hold.known.tables)

  -- a merge outlives calls that leave its files as they were
  abbrev pub MergesOfEngineLast : Type 0
  MergesOfEngineLast = MergesOutliveCalls (union_ghosts g) (files_ghosts g)

  -- and its outputs stay beside a version that edits of other calls change
  abbrev pub MergesOfEngineStayBeside : Type 0
  MergesOfEngineStayBeside = MergesStayBeside (union_ghosts g) (files_ghosts g)
