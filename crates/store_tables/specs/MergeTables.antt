-- The tables of a merge: its inputs among the open ones, and its outputs in their places.
use Rattle.std.specs.Prelude.{◌≡◌, ℕ, List, map, Contains, OnErr, OnOk, Result, Some}
use Rattle.std.specs.List.{AllZip, fold}
use Rattle.disk.specs.{Contents, State}
use Rattle.store_model.specs.{AreEdited, AreLeveled, KeyRange, LevelTable}
use Rattle.version_edits.specs.declared.TableLine.{TableLine}
use Rattle.version_edits.specs.declared.TableName.{TableName}
use Rattle.version_edits.specs.Versions.{tables_left, with_table}
use Rattle.compaction.specs.Merges.{table_name}
use Rattle.compaction.specs.{tables_after}
use Rattle.compaction.specs.Plans.{IsLineOf, range_of}
use Rattle.compaction.specs.declared.plan.Plan.{Plan}
use Rattle.std.specs.declared.alloc.AllocError.{AllocError}
use Rattle.store_tables.specs.declared.levels.OpenTable.{OpenTable}
use Rattle.store_tables.specs.declared.levels.LevelTables.{LevelTables}
use Rattle.store_tables.specs.LevelTables.{AreTablesOf, WasServed, WereServed, table_lines}
use Rattle.store_tables.specs.RangeReads.{HaveOwnFiles}

-- ---- the inputs

-- the plan has its inputs among these tables, whose lines the open ones have
pub record HaveInputs (plan : Plan) (range : KeyRange) (lines : List TableLine) (it : LevelTables)
    (tables : List LevelTable) : Type 0 where
  -- the lines are those of the open tables
  pub open_lines : table_lines it ≡ lines
  -- they are the lines of the tables
  pub named : AllZip IsLineOf lines tables
  -- the tables that the plan names have this joint range
  pub joint : range_of plan lines ≡ Some range
  -- so many batches are in tables
  pub flushed : ℕ
  -- the tables may stand together
  pub leveled : AreLeveled flushed tables
  -- no two of them have one file
  pub own : HaveOwnFiles tables

-- ---- the outputs in the places of the inputs

-- the lines of tables when those of these names are given up and others are added, as an edit of a
-- version has them
abbrev pub replaced_lines : List TableName → List TableLine → List TableLine → List TableLine
replaced_lines gone added lines = fold with_table (tables_left gone lines) added

-- the lines of open tables
abbrev pub open_lines : List OpenTable → List TableLine
open_lines opened = map (λ it. it.line) opened

-- what a call promises that replaces open tables
pub record ReplacesTables (old new : LevelTables) (gone : List TableName) (opened : List OpenTable)
    (result : Result (Unit {0}) AllocError) : Type 0 where
  -- their lines are those of the version after the edit
  pub lines : OnOk result (table_lines new ≡ replaced_lines gone (open_lines opened)
      (table_lines old))
  -- they were meant to serve the tables, and the others in the places of those that are given up
  pub served : (disk meant : State) (tables outputs : List LevelTable) →
      AllZip IsLineOf (table_lines old) tables → AllZip IsLineOf (open_lines opened) outputs →
      WereServed disk meant old tables → AllZip (WasServed disk meant) opened outputs →
      OnOk result (WereServed disk meant new (tables_after gone outputs tables))
  -- a refusal changes nothing
  pub unchanged : OnErr result (new.tables.items ≡ old.tables.items)

-- tables of which some are given up and others are added are so edited
abbrev pub ReplacedTablesAreEdited : Type 0
ReplacedTablesAreEdited =
    (inputs outputs tables : List LevelTable) → HaveOwnFiles tables
    → ((t : LevelTable) → Contains inputs t → Contains tables t)
    → AreEdited inputs outputs tables (tables_after (map table_name inputs) outputs tables)

-- the lines of an edited version name the tables that are left and those that were added
abbrev pub ReplacedLinesName : Type 0
ReplacedLinesName =
    (left : Contents) (gone : List TableName) (lines added : List TableLine)
    (tables outputs : List LevelTable) → AreTablesOf left lines tables
    → AreTablesOf left added outputs
    → AreTablesOf left (replaced_lines gone added lines) (tables_after gone outputs tables)
