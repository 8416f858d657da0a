-- The inputs of a plan, by the lines of a version, and as the model has them.
use Rattle.std.specs.Prelude.{◌≡◌, ℕ, ◌+◌, ◌==◌, ◌&&◌, ◌||◌, nat_lt, not, if◌then◌else◌, Bool}
use Rattle.std.specs.Prelude.{List, Option, Some, None, filter}
use Rattle.std.specs.List.{AllZip, fold}
use Rattle.std.specs.Ordering.{is_lt}
use Rattle.byte_fields.specs.{StoredKey, stored_cmp}
use Rattle.version_edits.specs.declared.TableLine.{TableLine}
use Rattle.version_edits.specs.{IsVersion, StoreVersion}
use Rattle.store_model.specs.{IsPlanned, KeyRange, LevelTable, MergePlan}
use Rattle.compaction.specs.declared.plan.Plan.{Plan}
use Rattle.compaction.specs.Picks.{picked}
use Rattle.compaction.specs.Survivors.{key_range}

-- ---- the tables that the plan names

-- the file is the one that a plan names, or where it names none, below the next file of its time
abbrev pub is_planned_file : Option ℕ → ℕ → ℕ → Bool
is_planned_file None below file = nat_lt file below
is_planned_file (Some named) below file = named == file

-- the plan names the table of this level and file
abbrev pub names_line : Plan → ℕ → ℕ → Bool
names_line plan level file = plan.level == level && is_planned_file plan.file plan.below file

-- ---- their joint range

-- the joint range, from the lesser of the least keys to the greater of the greatest
abbrev pub joint : KeyRange → KeyRange → KeyRange
joint a b = record {
  least = if is_lt (stored_cmp b.least a.least) then b.least else a.least;
  greatest = if is_lt (stored_cmp a.greatest b.greatest) then b.greatest else a.greatest;
}

-- the joint range with that of one line more, if the plan names its table
abbrev pub with_range : Plan → Option KeyRange → TableLine → Option KeyRange
with_range plan None line =
    if names_line plan line.level line.file then Some (key_range line) else None
with_range plan (Some range) line =
    if names_line plan line.level line.file then Some (joint range (key_range line))
    else Some range

-- the joint range of all tables that the plan names
abbrev pub range_of : Plan → List TableLine → Option KeyRange
range_of plan lines = fold (with_range plan) None lines

-- ---- all inputs

-- the ranges overlap: neither ends before the other begins
abbrev pub overlaps : KeyRange → KeyRange → Bool
overlaps a b = not (is_lt (stored_cmp a.greatest b.least)
    || is_lt (stored_cmp b.greatest a.least))

-- the plan names the table, or it is one of the next level that overlaps the plan's joint range
abbrev pub is_input : Plan → KeyRange → ℕ → ℕ → KeyRange → Bool
is_input plan range level file own =
    names_line plan level file || ((plan.level + 1) == level && overlaps range own)

-- the line is that of an input of the plan, whose joint range this is
abbrev pub is_line_input : Plan → KeyRange → TableLine → Bool
is_line_input plan range line = is_input plan range line.level line.file (key_range line)

-- ---- as the model has it

-- the line is that of the table of the model
pub record IsLineOf (line : TableLine) (table : LevelTable) : Type 0 where
  pub level : table.level ≡ line.level
  pub file : table.file ≡ line.file
  pub range : table.range ≡ key_range line

-- the plan of the model, where these are all tables and this is the joint range
abbrev pub model_plan : Plan → KeyRange → List LevelTable → MergePlan
model_plan plan range tables = record {
  level = plan.level;
  range = range;
  inputs = filter (λ t. is_input plan range t.level t.file t.range) tables;
  tables = tables;
}

-- a plan that is picked names tables of the version, and is a plan of the model
abbrev pub PicksArePlanned : Type 0
PicksArePlanned =
    (most base : ℕ) (turn : ℕ → Option StoredKey) (version : StoreVersion) (plan : Plan)
    (tables : List LevelTable) → IsVersion version → AllZip IsLineOf version.tables tables →
    picked most base turn version ≡ Some plan → (range : KeyRange)
    × (range_of plan version.tables ≡ Some range) × IsPlanned (model_plan plan range tables)
