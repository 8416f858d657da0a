-- What the edit of a merge makes of tables, and what a version has to be for it to take the edit.
use Rattle.std.specs.Prelude.{ℕ, ◌≤◌, ◌==◌, ◌&&◌, not, List, filter}
use Rattle.std.specs.List.{AllZip, fold, list_any}
use Rattle.version_edits.specs.declared.TableLine.{TableLine}
use Rattle.version_edits.specs.declared.TableName.{TableName}
use Rattle.version_edits.specs.declared.line.TheConstants.{MAX_NEXT}
use Rattle.version_edits.specs.Versions.{placed, table_is_before}
use Rattle.version_edits.specs.{StoreVersion}
use Rattle.store_model.specs.{AreLeveled, IsUnderWay, LevelTable, MergePlan, StoreState}
use Rattle.compaction.specs.declared.writer.OutputWriter.{OutputWriter}
use Rattle.compaction.specs.Leftovers.{IsBesideVersion}
use Rattle.compaction.specs.Outputs.{IsOutputFile}
use Rattle.compaction.specs.Plans.{IsLineOf}

-- ---- the tables after an edit

-- what is left of items, each of which has a line, where those of these names are given up, and
-- others are added at their places
abbrev pub items_after : {A : Type 0} → (A → TableLine) → List TableName → List A → List A → List A
items_after line_of gone added items =
    fold (placed (λ a b. table_is_before (line_of a) (line_of b))) (filter (λ a. not (list_any
    (λ one. one.level == (line_of a).level && one.file == (line_of a).file) gone)) items) added

-- the line of a table of the model, but for the length of its file
abbrev pub line_of_table : LevelTable → TableLine
line_of_table table = record {
  level = table.level;
  file = table.file;
  length = 0;
  least = table.range.least;
  greatest = table.range.greatest;
}

-- the tables of the model that are left when those of these names are given up, and others are
-- added at their places
abbrev pub tables_after : List TableName → List LevelTable → List LevelTable → List LevelTable
tables_after gone added tables = items_after line_of_table gone added tables

-- ---- the version before the edit

-- the store has the tables of the version, which may stand together, and the merge of the plan can
-- end in it
pub record CanEndIn (version : StoreVersion) (store : StoreState) (plan : MergePlan) : Type 0 where
  pub lines : AllZip IsLineOf version.tables store.tables
  pub leveled : AreLeveled store.flushed store.tables
  pub under_way : IsUnderWay store plan

-- the version names no file of an output
abbrev pub OutputsAreBeside : OutputWriter → StoreVersion → Type 0
OutputsAreBeside writer version =
    (file : ℕ) → IsOutputFile writer file → IsBesideVersion version file

-- The version may take the edit of the merge: the merge can end in its store, it names no file of
-- an output, and the next file is not below its own.
pub record AcceptsMerge (version : StoreVersion) (next_file : ℕ) (plan : MergePlan)
    (writer : OutputWriter) : Type 0 where
  pub store : StoreState
  pub can_end : CanEndIn version store plan
  pub beside : OutputsAreBeside writer version
  pub next : version.next_file ≤ next_file
  pub few : next_file ≤ MAX_NEXT
