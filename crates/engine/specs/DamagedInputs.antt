-- The inputs of a merge, where blocks of their files may be damaged.
use Rattle.std.specs.Prelude.{◌≡◌, All, List, [], map}
use Rattle.std.specs.List.{filter}
use Rattle.std.specs.Option.{option_map_or}
use Rattle.disk.specs.{State, seen}
use Rattle.version_edits.specs.declared.TableLine.{TableLine}
use Rattle.version_edits.specs.declared.TableName.{TableName}
use Rattle.compaction.specs.declared.Plan.{Plan}
use Rattle.compaction.specs.Inputs.{line_name}
use Rattle.compaction.specs.Merges.{table_name}
use Rattle.compaction.specs.Plans.{is_line_input, range_of}
use Rattle.sorted_table.specs.{FileRepresents}
use Rattle.store_model.specs.{LevelTable}
use Rattle.store_tables.specs.LevelTables.{IsTableAsMeant}

-- The table's file was meant to represent its entries. What the disk has differs from that at most
-- in damaged blocks.
pub record WasRepresented (disk meant : State) (table : LevelTable) : Type 0 where
  pub represents : FileRepresents (meant table.file) table.entries
  pub as_meant : IsTableAsMeant (disk table.file) (meant table.file)

-- each file of these tables reads as it was meant to
abbrev pub AreReadAsMeant : State → State → List LevelTable → Type 0
AreReadAsMeant disk meant tables =
    All (λ table. seen (disk table.file) ≡ seen (meant table.file)) tables

-- A merge has inputs of these names. Of their files, not each reads as it was meant to.
pub record AnInputIsDamaged (disk : State) (names : List TableName) : Type 0 where
  pub meant : State
  pub inputs : List LevelTable
  pub named : names ≡ map table_name inputs
  pub were : All (WasRepresented disk meant) inputs
  pub damaged : AreReadAsMeant disk meant inputs → ⊥

-- the names of the inputs of the plan, among these lines
abbrev pub names_of_inputs : Plan → List TableLine → List TableName
names_of_inputs plan lines = option_map_or (λ range. map line_name
    (filter (is_line_input plan range) lines)) (range_of plan lines) []
