-- The open tables of a store, level by level, and what a lookup in them finds.
use Rattle.std.specs.Prelude.{◌≡◌, ◌⊎◌, ℕ, ◌<◌, ◌≤◌, List, [], ◌∷◌, length, map, take, All}
use Rattle.std.specs.Prelude.{Contains, Bool, Option, Some, None, IsSomeAnd, ◌==◌, if◌then◌else◌}
use Rattle.std.specs.List.{AllZip, count_by}
use Rattle.std.specs.Option.{option_map, option_flatten}
use Rattle.disk.specs.{Contents, Slot, State}
use Rattle.byte_fields.specs.{StoredKey}
use Rattle.kv_types.specs.{BatchContent, Entry, IsNewest, IsUnseen, stored_map_of}
use Rattle.table_builder.specs.{first_entry}
use Rattle.table_format.specs.{TableRepresents}
use Rattle.byte_fields.specs.declared.format.Format.{Format}
use Rattle.table_format.specs.declared.IndexLine.{IndexLine}
use Rattle.table_format.specs.declared.FileError.{FileError}
use Rattle.table_format.specs.declared.FileError.TheVariants as reading
use Rattle.sorted_table.specs.{AreAsMeant, FileRepresents, HasTail, IsOpenOn, TableServes}
use Rattle.sorted_table.specs.{found_entry, greatest_key, index_lines, last_line_key, table_file}
use Rattle.sorted_table.specs.{table_format}
use Rattle.sorted_table.specs.declared.Table.{Table}
use Rattle.sorted_table.specs.declared.FoundVersion.{FoundVersion}
use Rattle.store_model.specs.{KeyRange, LevelTable, StoreFinds, StoreRepresents, StoreState}
use Rattle.store_model.specs.{TableLacks, level_entries, memory_entries}
use Rattle.manifest.specs.declared.TableLine.{TableLine}
use Rattle.manifest.specs.Versions.{AreInOrder, table_is_before}
use Rattle.store_tables.specs.declared.error.EngineError.{EngineError}
use Rattle.store_tables.specs.declared.error.EngineError.TheVariants as engine
use Rattle.store_tables.specs.declared.levels.OpenTable.{OpenTable}
use Rattle.store_tables.specs.declared.levels.LevelTables.{LevelTables}

-- the error of an engine for that of a table's file
abbrev pub error_of_table : FileError → EngineError
error_of_table reading.Disk = engine.Disk
error_of_table reading.Damaged = engine.Damaged
error_of_table reading.Memory = engine.Memory

-- ---- the tables that lines of a manifest name

-- from the least key of the line to the greatest
abbrev pub line_range : TableLine → KeyRange
line_range line = record { least = line.least; greatest = line.greatest }

-- the key of the first of these entries, if there is one
abbrev pub least_key : List Entry → Option StoredKey
least_key entries = option_map (λ entry. entry.key) (first_entry entries)

-- The line names the table: its file has the line's length, and represents the table's entries,
-- which run from the line's least key to its greatest.
pub record IsTableOf (left : Contents) (line : TableLine) (table : LevelTable) : Type 0 where
  pub level : table.level ≡ line.level
  pub file : table.file ≡ line.file
  pub range : table.range ≡ line_range line
  pub represents : IsSomeAnd (left line.file)
      (λ bytes. (length bytes ≡ line.length) × TableRepresents bytes table.entries)
  pub least : least_key table.entries ≡ Some line.least
  pub greatest : greatest_key table.entries ≡ Some line.greatest

-- line by line
abbrev pub AreTablesOf : Contents → List TableLine → List LevelTable → Type 0
AreTablesOf left = AllZip (IsTableOf left)

-- The bytes have the line's length. They end in a filter, an index and a footer of one format,
-- whatever stands before, and the last line of the index has the line's greatest key. Where they
-- represent a table, that is its greatest key.
pub record FitsLine (line : TableLine) (bytes : List ℕ) : Type 0 where
  pub len : length bytes ≡ line.length
  pub format : Format
  pub lines : List IndexLine
  pub filter : List ℕ
  pub tail : HasTail format bytes lines filter
  pub last : last_line_key lines ≡ Some line.greatest
  pub greatest : (entries : List Entry) → TableRepresents bytes entries →
      greatest_key entries ≡ Some line.greatest

-- the line's file fits the line
abbrev pub FileFits : Contents → TableLine → Type 0
FileFits left line = IsSomeAnd (left line.file) (FitsLine line)

-- no table stands behind one of a deeper level
abbrev pub LevelsRise : List LevelTable → Type 0
LevelsRise [] = Unit {0}
LevelsRise (t ∷ others) = All (λ u. t.level ≤ u.level) others × LevelsRise others

-- tables stand in order of level where their lines stand in order
abbrev pub LinesInOrderRise : Type 0
LinesInOrderRise =
    (left : Contents) (lines : List TableLine) (tables : List LevelTable)
    → AreInOrder table_is_before lines → AreTablesOf left lines tables → LevelsRise tables

-- ---- open tables

-- the lines of the open tables
abbrev pub table_lines : LevelTables → List TableLine
table_lines it = map (λ one. one.line) it.tables.items

-- so many open tables have this level
abbrev pub level_count : LevelTables → ℕ → ℕ
level_count it level = count_by (λ one. one.line.level == level) it.tables.items

-- the open table is of level 0
abbrev pub is_flushed : OpenTable → Bool
is_flushed it = it.line.level == 0

-- the open table has the table's level and range, and serves its entries from its file
pub record IsServed (disk : State) (it : OpenTable) (table : LevelTable) : Type 0 where
  pub level : table.level ≡ it.line.level
  pub file : table.file ≡ table_file it.table
  pub range : table.range ≡ line_range it.line
  pub serves : TableServes (disk (table_file it.table)) it.table table.entries

-- the open tables serve these tables, in the same order
abbrev pub AreServed : State → LevelTables → List LevelTable → Type 0
AreServed disk it tables = AllZip (IsServed disk) it.tables.items tables

-- ---- damaged tables

-- The table's file is the one that was meant, or is so but for damaged blocks: a table that is open
-- on it, by the filter and the index that it ends in, serves what was meant, and each block that is
-- not damaged is the one that was meant.
abbrev pub IsTableAsMeant : Slot → Slot → Type 0
IsTableAsMeant file meant =
    (file ≡ meant)
    ⊎ ((table : Table) (entries : List Entry) → IsOpenOn file table → FileRepresents meant entries →
    TableServes meant table entries
    × AreAsMeant (table_format table) file meant (index_lines table))

-- The table is open on the file, or the file is the one that was meant. Each block of the table
-- that the file has is the one that was meant.
pub record IsOpenAsMeant (file meant : Slot) (table : Table) : Type 0 where
  pub opened : (file ≡ meant) ⊎ IsOpenOn file table
  pub blocks : AreAsMeant (table_format table) file meant (index_lines table)

-- the open table's file is so
abbrev pub HasMeantBlocks : State → State → OpenTable → Type 0
HasMeantBlocks disk meant it =
    IsOpenAsMeant (disk (table_file it.table)) (meant (table_file it.table)) it.table

-- The open table was meant to serve the table: it would from what the disk was meant to be, and of
-- that the disk has each block of it that is not damaged.
pub record WasServed (disk meant : State) (it : OpenTable) (table : LevelTable) : Type 0 where
  pub serves : IsServed meant it table
  pub blocks : HasMeantBlocks disk meant it

-- the open tables were meant to serve these tables, in the same order
abbrev pub WereServed : State → State → LevelTables → List LevelTable → Type 0
WereServed disk meant it tables = AllZip (WasServed disk meant) it.tables.items tables

-- ---- a table more

-- a table of level 0 more, behind the others of level 0
abbrev pub with_flushed : List LevelTable → LevelTable → List LevelTable
with_flushed [] table = table ∷ []
with_flushed (t ∷ others) table =
    if t.level == 0 then t ∷ with_flushed others table else table ∷ t ∷ others

-- .. and its line
abbrev pub with_flushed_line : List TableLine → TableLine → List TableLine
with_flushed_line [] line = line ∷ []
with_flushed_line (l ∷ others) line =
    if l.level == 0 then l ∷ with_flushed_line others line else line ∷ l ∷ others

-- with a table of level 0 more, tables still stand in order of level
abbrev pub FlushedTablesRise : Type 0
FlushedTablesRise =
    (tables : List LevelTable) (table : LevelTable) → table.level ≡ 0 → LevelsRise tables
    → LevelsRise (with_flushed tables table)

-- ---- lookups

-- of these entries a lookup finds the newest of the key that is seen at the number, or none
abbrev pub EntriesFind : ℕ → (Entry → Type 0) → StoredKey → Option FoundVersion → Type 0
EntriesFind at entries key None = IsUnseen at entries key
EntriesFind at entries key (Some found) = IsNewest at entries (found_entry key found)

-- no table of a lesser level has an entry of the key that is seen at the number
abbrev pub LesserLack : ℕ → List LevelTable → StoredKey → ℕ → Type 0
LesserLack at tables key level =
    (t : LevelTable) → Contains tables t → t.level < level → TableLacks at t key

-- a lookup in tables looks in each level in turn, and stops at the first that has an entry
abbrev pub TablesFind : ℕ → List LevelTable → StoredKey → Option FoundVersion → Type 0
TablesFind at tables key None = (t : LevelTable) → Contains tables t → TableLacks at t key
TablesFind at tables key (Some found) =
    (level : ℕ) × LesserLack at tables key level
    × EntriesFind at (level_entries tables level) key (Some found)

-- what was found, as stores tell it: nothing, a value, or a deletion
abbrev pub found_value : Option FoundVersion → Option (Option (List ℕ))
found_value found = option_map (λ it. option_map (λ value. value.items) it.value) found

-- where memory has no entry of the key, what the tables have of it is what the store has
abbrev pub TablesFindForStores : Type 0
TablesFindForStores =
    (batches : List BatchContent) (store : StoreState) (at : ℕ) (key : List ℕ)
    (found : Option FoundVersion) → IsUnseen at (memory_entries batches store) key
    → TablesFind at store.tables key found → StoreFinds at batches store key (found_value found)

-- and so it is what the batches leave there
abbrev pub TableLookUpsAreMaps : Type 0
TableLookUpsAreMaps =
    (batches : List BatchContent) (store : StoreState) → StoreRepresents batches store
    → (at : ℕ) → store.floor ≤ at → at ≤ length batches → (key : List ℕ)
    (found : Option FoundVersion) → IsUnseen at (memory_entries batches store) key
    → TablesFind at store.tables key found
    → option_flatten (found_value found) ≡ stored_map_of (take at batches) key
