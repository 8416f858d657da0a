-- A merge: what its calls promise.
use Rattle.std.specs.Prelude.{◌≡◌, ◌⊎◌, ◌↔◌, ℕ, suc, ◌+◌, ◌<◌, ◌≤◌, List, [], length, map, IsTrue}
use Rattle.std.specs.Prelude.{All, Bool, IfOk, IsErrOf, Result, Err, MatchResult}
use Rattle.std.specs.List.{AllZip}
use Rattle.disk.specs.declared.Disk.{Ghosts}
use Rattle.disk.specs.{IsEnvironmental, State}
use Rattle.merge_iter.specs.declared.Cursor.{Ghosts as CursorGhosts}
use Rattle.merge_iter.specs.declared.Merged.{Merged}
use Rattle.merge_iter.specs.{AreDisjoint, AreSound, EachChild, IsAlike, IsOn, union_of}
use Rattle.sorted_table.specs.declared.TableCursor.{TableCursor}
use Rattle.kv_types.specs.{BatchContent}
use Rattle.store_model.specs.{AreEdited, IsMerged, IsUnderWay, LevelTable, MergePlan}
use Rattle.store_model.specs.{StoreRepresents, StoreState, tables_entries, with_tables}
use Rattle.version_edits.specs.declared.TableLine.{TableLine}
use Rattle.version_edits.specs.declared.TableName.{TableName}
use Rattle.version_edits.specs.declared.line.TheConstants.{MAX_LINES, MAX_NEXT}
use Rattle.version_edits.specs.Versions.{are_once}
use Rattle.version_edits.specs.{Change, IsChange, IsFit, IsVersion, StoreVersion, changed}
use Rattle.compaction.specs.declared.error.MergeError.{MergeError}
use Rattle.compaction.specs.declared.error.MergeError.TheVariants as merge
use Rattle.compaction.specs.declared.merge.Merge.{Merge}
use Rattle.compaction.specs.declared.writer.OutputWriter.{OutputWriter}
use Rattle.compaction.specs.Edits.{AcceptsMerge, OutputsAreBeside, tables_after}
use Rattle.compaction.specs.Outputs.{IsOpenFile, IsOutput, IsOutputFile, IsOwnFile, UsesNumbers}
use Rattle.compaction.specs.Outputs.{AreUnused, WritesOnly}
use Rattle.compaction.specs.Plans.{IsLineOf}
use Rattle.compaction.specs.Survivors.{AreDeeperLines}
use Rattle.compaction.specs.Walks.{HasSameFiles, IsIntactOn, IsWalking, LeavesWalk, MeetsMore}
use Rattle.compaction.specs.Walks.{StepRefusal, table_files}
use Rattle.compaction.specs.WrittenTables.{AreWrittenTables}

-- ---- the cursors that a merge begins with

module _ {C F : Type 0} (c : CursorGhosts C F) (d : Ghosts F) where
  -- the cursors have the entries of the inputs, as the files were meant, and read these files alone
  pub record AreCursorsOf (meant : c.Meant) (files : F) (cursors : List C)
      (inputs : List LevelTable) : Type 0 where
    pub sound : AreSound c meant cursors files
    pub disjoint : AreDisjoint c meant cursors files
    pub alike : IsAlike (union_of c meant cursors files) (tables_entries inputs)
    pub reads : (a b : F) → (d.is_honest a → HasSameFiles d (table_files inputs) a b) →
        EachChild (λ one. c.suits one a b) cursors

  -- over each disk with the inputs' files as this one has, the cursors find no damage
  abbrev pub AreIntactCursors : F → List C → List LevelTable → Type 0
  AreIntactCursors files cursors inputs =
      (other : F) → HasSameFiles d (table_files inputs) files other →
      (meant : c.Meant) × AreSound c meant cursors other × AreDisjoint c meant cursors other
      × c.is_intact meant other

-- ---- what a merge gives

-- the name of a table of the model
abbrev pub table_name : LevelTable → TableName
table_name table = record { level = table.level; file = table.file }

-- the file of the line durably represents the table
pub record IsOutputTable (disk : State) (level : ℕ) (line : TableLine) (table : LevelTable)
    : Type 0 where
  pub line_of : IsLineOf line table
  pub holds : IsOutput disk level line table.entries

-- the edit of a merge: some tables are given up, and others are added
abbrev pub merge_change : StoreVersion → ℕ → List TableName → List TableLine → Change
merge_change version next_file gone added = record {
  next_file = next_file;
  floor = version.floor;
  flushed = version.flushed;
  epoch = version.epoch;
  ids = version.ids;
  logs_gone = [];
  logs_added = [];
  tables_gone = gone;
  tables_added = added;
}

-- The lines that are added are of outputs of this writer, whose files have numbers from the first
-- one on, below the next file. No two have the same.
pub record HaveNewFiles (first next_file : ℕ) (writer : OutputWriter) (added : List TableLine)
    : Type 0 where
  pub numbered : All (λ line. (first ≤ line.file) × (line.file < next_file)) added
  pub once : IsTrue (are_once (map (λ line. line.file) added))
  pub own : All (λ line. IsOutputFile writer line.file) added

-- The edit gives up the inputs of the plan, each once, and adds its outputs at this floor, which
-- are durable in files of numbers from the first one on, below its next file. The version has no
-- more tables then than it may have.
pub record IsMergeEdit (disk : State) (version : StoreVersion) (first next_file : ℕ)
    (writer : OutputWriter) (plan : MergePlan) (floor : ℕ) (edit : Change) : Type 0 where
  pub outputs : List LevelTable
  pub written : AreWrittenTables floor writer.target plan outputs
  pub merged : IsMerged floor plan outputs
  pub holds : AllZip (IsOutputTable disk (suc plan.level)) edit.tables_added outputs
  pub is : edit ≡ merge_change version next_file (map table_name plan.inputs) edit.tables_added
  pub few : length version.tables + length outputs ≤ MAX_LINES + length plan.inputs
  pub files : HaveNewFiles first next_file writer edit.tables_added
  pub late : 3 ≤ first
  pub inputs_once : IsTrue (are_once (table_files plan.inputs))

-- the edit is that of the merge, and the version may take it where the merge can end in its store
pub record IsFitMergeEdit (disk : State) (version : StoreVersion) (first next_file : ℕ)
    (writer : OutputWriter) (plan : MergePlan) (floor : ℕ) (edit : Change) : Type 0 where
  pub merges : IsMergeEdit disk version first next_file writer plan floor edit
  pub fit : AcceptsMerge version next_file plan writer →
      IsFit version edit × IsChange edit

-- with the tables that the merge writes in the place of its inputs, the version has more tables
-- than it may have
pub record HasTooManyTables (version : StoreVersion) (plan : MergePlan) (floor target : ℕ)
    : Type 0 where
  pub outputs : List LevelTable
  pub written : AreWrittenTables floor target plan outputs
  pub many : MAX_LINES + length plan.inputs < length version.tables + length outputs

-- ---- a merge under way

-- a call of the merge has failed
abbrev pub MergeHasFailed : {D : Type 0} → Merge D → Type 0
MergeHasFailed it = IsTrue it.has_failed

-- the number from which on a merge has used file numbers
abbrev pub begun_number : {D : Type 0} → Merge D → ℕ
begun_number it = it.first

-- so many bytes of data complete an output of a merge
abbrev pub target_of : {D : Type 0} → Merge D → ℕ
target_of it = it.writer.target

-- the file is that of an output of the merge, complete or open
abbrev pub IsMergeOutput : {D : Type 0} → Merge D → ℕ → Type 0
IsMergeOutput it file = IsOutputFile it.writer file

-- the version names no output of the merge
abbrev pub MergeIsBeside : {D : Type 0} → Merge D → StoreVersion → Type 0
MergeIsBeside it version = OutputsAreBeside it.writer version

-- The merge began with a file number that no slot has, and has used those from there on, below the
-- next one. No input has the file of another.
pub record IsNumberedFrom (first next_file : ℕ) (writer : OutputWriter) (inputs : List LevelTable)
    : Type 0 where
  pub late : 3 ≤ first
  pub begun : first ≤ next_file
  pub outputs : (file : ℕ) → IsOutputFile writer file → (first ≤ file) × (file < next_file)
  pub inputs_once : IsTrue (are_once (table_files inputs))

module _ {D F : Type 0} (u : CursorGhosts (Merged (TableCursor D)) F) (d : Ghosts F) where
  -- the merge of the plan is under way at this floor, with file numbers from this one on
  pub record IsMerging (meant : u.Meant) (files : F) (next_file : ℕ) (it : Merge D)
      (plan : MergePlan) (floor : ℕ) : Type 0 where
    pub works : MergeHasFailed it → ⊥
    pub walk : IsWalking u d meant files next_file it.union it.writer plan.inputs
    pub deeper : AreDeeperLines plan it.writer.deeper.items
    pub level : it.writer.level ≡ suc plan.level
    pub same_floor : it.writer.floor ≡ floor
    pub gone : it.gone.items ≡ map table_name plan.inputs
    pub numbers : IsNumberedFrom (begun_number it) next_file it.writer plan.inputs

  -- the merge of the plan is under way, and no entry of the inputs is met yet
  pub record IsJustBegun (meant : u.Meant) (files : F) (next_file : ℕ) (it : Merge D)
      (plan : MergePlan) (floor : ℕ) : Type 0 where
    pub merging : IsMerging meant files next_file it plan floor
    pub none : merging.walk.met ≡ []

  -- no merge is under way
  abbrev pub IsNoMerge : F → ℕ → Merge D → Type 0
  IsNoMerge files next_file it =
      (meant : u.Meant) (plan : MergePlan) (floor : ℕ) →
      IsMerging meant files next_file it plan floor → ⊥

  -- each disk with the inputs' files as this one has is read without damage
  abbrev pub IsIntactMerge : F → Merge D → MergePlan → Type 0
  IsIntactMerge files it plan = IsIntactOn u d (table_files plan.inputs) it.union files

  -- entries of the inputs are left
  abbrev pub HasEntriesLeft : Merge D → Type 0
  HasEntriesLeft it = IsOn (u.position it.union)

  -- the answers of `step` by the merge alone
  abbrev pub StepStatus : Result Bool MergeError → Merge D → Merge D → Type 0
  StepStatus result old new = MatchResult result
      (λ more. (MergeHasFailed old → ⊥) × (MergeHasFailed new → ⊥)
      × (IsTrue more ↔ HasEntriesLeft new))
      (λ e. MergeHasFailed new × (MergeHasFailed old → e ≡ merge.Failed))

  -- So many entries of the inputs were met, or all that were left, beside so many tables of the
  -- version.
  pub record StepsMerge (tables count : ℕ) (old : F) (next_old : ℕ) (was : Merge D) (new : F)
      (next_new : ℕ) (now : Merge D) (result : Result Bool MergeError) : Type 0 where
    -- the call writes to the file of the open output, and to files from the next number on
    pub writes : WritesOnly d (IsOwnFile was.writer next_old) old new (IsErrOf result merge.Disk)
        (IsNoMerge old next_old was)
    pub numbers : UsesNumbers count was.writer next_old now.writer next_new
    pub first : begun_number now ≡ begun_number was
    pub gone : now.gone ≡ was.gone
    pub target : target_of now ≡ target_of was
    pub beside : (version : StoreVersion) → IsVersion version → version.next_file ≤ next_old →
        MergeIsBeside was version → MergeIsBeside now version
    pub status : StepStatus result was now
    -- of a merge under way
    pub steps : (meant : u.Meant) (plan : MergePlan) (floor : ℕ)
        (before : IsMerging meant old next_old was plan floor) → MatchResult result
        (λ more. (after : IsMerging meant new next_new now plan floor)
        × MeetsMore plan.inputs before.walk.met after.walk.met count (HasEntriesLeft now)
        × (IsIntactMerge old was plan → IsIntactMerge new now plan))
        (StepRefusal (IsIntactMerge old was plan) tables next_new (length before.walk.met) count
        was.writer plan.inputs)
    -- Of a merge under way, no file exists with a number from the next one on, whatever the answer
    -- is.
    pub unused : (meant : u.Meant) (plan : MergePlan) (floor : ℕ) →
        IsMerging meant old next_old was plan floor → AreUnused (d.state new) next_new

  -- the last output is complete, and this is the edit
  pub record EndsMerge (version : StoreVersion) (next_file : ℕ) (old : F) (was : Merge D) (new : F)
      (now : Merge D) (result : Result Change MergeError) : Type 0 where
    -- the call writes to the file of the open output
    pub writes : WritesOnly d (IsOpenFile was.writer) old new (IsErrOf result merge.Disk)
        (IsNoMerge old next_file was)
    pub first : begun_number now ≡ begun_number was
    pub failed : MergeHasFailed was → result ≡ Err merge.Failed
    -- whatever the files are, the edit gives up what the merge began with, changes nothing but
    -- tables, and has fields within their limits where the next file is within its own
    pub shape : IfOk result (λ edit.
        (edit ≡ merge_change version next_file was.gone.items edit.tables_added)
        × (next_file ≤ MAX_NEXT → IsChange edit))
    -- of a merge under way, of which no entry is left
    pub ends : (meant : u.Meant) (plan : MergePlan) (floor : ℕ) →
        IsMerging meant old next_file was plan floor → (HasEntriesLeft was → ⊥) →
        MatchResult result
        (IsFitMergeEdit (d.state new) version (begun_number was) next_file was.writer plan floor)
        (λ e. IsEnvironmental merge.Disk merge.Memory e
        ⊎ ((e ≡ merge.Full) × HasTooManyTables version plan floor (target_of was)))
    -- Of a merge under way, no file exists with a number from the next one on, whatever the answer
    -- is.
    pub unused : (meant : u.Meant) (plan : MergePlan) (floor : ℕ) →
        IsMerging meant old next_file was plan floor → AreUnused (d.state new) next_file

  -- ---- what other calls keep

  -- a merge under way stays so while other calls leave its inputs and its outputs as they were, and
  -- its inputs stay as intact
  abbrev pub MergesOutliveCalls : Type 0
  MergesOutliveCalls =
      (meant : u.Meant) (old new : F) (next_file later : ℕ) (it : Merge D) (plan : MergePlan)
      (floor : ℕ) → IsMerging meant old next_file it plan floor →
      LeavesWalk d old new next_file later it.writer plan.inputs →
      IsMerging meant new later it plan floor
      × (IsIntactMerge old it plan → IsIntactMerge new it plan)

  -- a version names no output of a merge under way after an edit that adds files from the merge's
  -- next one on alone, where it named none before
  abbrev pub MergesStayBeside : Type 0
  MergesStayBeside =
      (meant : u.Meant) (files : F) (next_file : ℕ) (it : Merge D) (plan : MergePlan) (floor : ℕ)
      (version : StoreVersion) (edit : Change) → IsMerging meant files next_file it plan floor →
      All (λ line. next_file ≤ line.file) edit.logs_added →
      All (λ line. next_file ≤ line.file) edit.tables_added →
      MergeIsBeside it version → MergeIsBeside it (changed version edit)

-- ---- what the edit gives

-- a lawful version that the merge can end in may take its edit
abbrev pub MergeEditsFit : Type 0
MergeEditsFit =
    (disk : State) (version : StoreVersion) (first next_file : ℕ) (writer : OutputWriter)
    (plan : MergePlan) (floor : ℕ) (edit : Change) → IsVersion version →
    IsMergeEdit disk version first next_file writer plan floor edit →
    AcceptsMerge version next_file plan writer → IsFit version edit × IsChange edit

-- Of a store with the tables of a lawful version, the edit gives up the inputs and adds the
-- outputs, and the store represents the same list then.
abbrev pub MergeEditsKeep : Type 0
MergeEditsKeep =
    (disk : State) (version : StoreVersion) (first next_file : ℕ) (writer : OutputWriter)
    (plan : MergePlan) (floor : ℕ) (edit : Change) (batches : List BatchContent)
    (store : StoreState) → IsVersion version →
    (it : IsMergeEdit disk version first next_file writer plan floor edit) →
    AllZip IsLineOf version.tables store.tables → StoreRepresents batches store →
    IsUnderWay store plan → floor ≤ store.floor →
    AllZip IsLineOf (changed version edit).tables
    (tables_after edit.tables_gone it.outputs store.tables)
    × AreEdited plan.inputs it.outputs store.tables
    (tables_after edit.tables_gone it.outputs store.tables)
    × StoreRepresents batches
    (with_tables store (tables_after edit.tables_gone it.outputs store.tables))
