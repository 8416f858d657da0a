-- What the calls promise that read the files of tables: an opening, and a lookup.
use Rattle.std.specs.Prelude.{◌≡◌, ◌<◌, ℕ, IsErrOf, List, All, Contains, length, Result, IfErr}
use Rattle.std.specs.Prelude.{IfOk, IsSomeAnd, MatchResult}
use Rattle.bloom.specs.{Covers}
use Rattle.disk.specs.declared.Disk.{Ghosts}
use Rattle.disk.specs.{Contents, IsEnvironmental, IsSame, IsStill, KeepsDisk, Slot, State}
use Rattle.disk.specs.{contents, seen}
use Rattle.byte_fields.specs.{StoredKey}
use Rattle.merge_iter.specs.{spot}
use Rattle.table_format.specs.{filter_key}
use Rattle.byte_fields.specs.declared.format.Format.{Format}
use Rattle.table_format.specs.declared.IndexLine.{IndexLine}
use Rattle.sorted_table.specs.{HasTail, IsBlockAtLine}
use Rattle.sorted_table.specs.Searches.{IsLinePlace}
use Rattle.store_model.specs.{AreLeveled, KeyRange, LevelTable, RangeHolds}
use Rattle.manifest.specs.declared.TableLine.{TableLine}
use Rattle.store_tables.specs.declared.error.EngineError.TheVariants as engine
use Rattle.store_tables.specs.declared.error.EngineError.{EngineError}
use Rattle.store_tables.specs.declared.levels.OpenTable.{OpenTable}
use Rattle.store_tables.specs.declared.levels.LevelTables.{LevelTables}
use Rattle.store_tables.specs.Errors.{IsEnd}
use Rattle.store_tables.specs.LevelTables.{AreServed, AreTablesOf, FileFits, IsServed}
use Rattle.store_tables.specs.LevelTables.{LesserLack, LevelsRise}
use Rattle.store_tables.specs.LevelTables.{IsTableAsMeant, IsTableOf, WasServed, WereServed}
use Rattle.store_tables.specs.LevelTables.{line_range, table_lines}

-- what a call promises that reads the files of tables
pub record ReadsTables {D T : Type 0} (g : Ghosts D) (disk later : D)
    (result : Result T EngineError) : Type 0 where
  -- no file changes, and a device that works never fails
  pub kept : KeepsDisk g disk later (IsErrOf result engine.Disk) ⊥ IsSame
  -- it is refused for the device, for damage or for want of memory
  pub causes : IfErr result IsEnd
  -- a crash at any moment leaves what it might have left before
  pub still : IsStill g disk later

-- ---- a lookup that meets damage

-- The file lacks the block of the key, as that of a table with this range. The range has the key,
-- and so has the filter that the file ends in. Of the lines of the index there, line n is the first
-- whose block does not end before key and number. The file has no block there that is as the line
-- says.
pub record LacksBlock (file : Slot) (range : KeyRange) (key : StoredKey) (at : ℕ) : Type 0 where
  pub in_range : RangeHolds range key
  pub format : Format
  pub lines : List IndexLine
  pub filter : List ℕ
  pub tail : IsSomeAnd (seen file) (λ bytes. HasTail format bytes lines filter)
  pub in_filter : Covers filter (filter_key format key)
  pub n : ℕ
  pub place : IsLinePlace lines (spot key at) n
  pub there : n < length lines
  pub damaged : (part : List ℕ) → IsBlockAtLine format lines n file part → ⊥

-- The file of one of these tables lacks the block of the key, and the table was needed: where the
-- tables stand in order of level, none of a lesser level has an entry of the key that is seen at
-- the number.
pub record OneLacksBlock (disk : State) (tables : List LevelTable) (key : StoredKey) (at : ℕ)
    : Type 0 where
  pub table : LevelTable
  pub there : Contains tables table
  pub lacks : LacksBlock (disk table.file) table.range key at
  pub needed : (flushed : ℕ) → AreLeveled flushed tables → LevelsRise tables →
      LesserLack at tables key table.level

-- The lines were meant to name these tables: in what the files were meant to be, they do. What the
-- disk has differs from that at most in damaged blocks.
pub record WereNamed (disk meant : State) (lines : List TableLine) (tables : List LevelTable)
    : Type 0 where
  pub named : AreTablesOf (contents meant) lines tables
  pub as_meant : All (λ line. IsTableAsMeant (disk line.file) (meant line.file)) lines

-- One of these lines names a file that lacks the block of the key, and the file was needed: of the
-- tables that the lines were meant to name, none of a lesser level has an entry of the key that is
-- seen at the number.
pub record OneNamedLacksBlock (disk : State) (lines : List TableLine) (key : StoredKey) (at : ℕ)
    : Type 0 where
  pub line : TableLine
  pub there : Contains lines line
  pub lacks : LacksBlock (disk line.file) (line_range line) key at
  pub meant : State
  pub tables : List LevelTable
  pub were : WereNamed disk meant lines tables
  pub needed : LesserLack at tables key line.level

-- ---- a read that needs no table

-- The disk is as it was: no call was made of it. Of what ends an engine, only want of memory
-- refuses the read.
pub record NeedsNoDisk {D T : Type 0} (disk later : D) (result : Result T EngineError)
    : Type 0 where
  pub same : later ≡ disk
  pub causes : IfErr result (λ e. IsEnd e → e ≡ engine.Memory)

-- ---- an opening

-- what an opening by lines of a manifest is about: one table by its line, or several by theirs
pub record TableOpening (Lines Opened Tables : Type 0) : Type 1 where
  -- in these files the lines name the tables
  pub are_named : Contents → Lines → Tables → Type 0
  -- the files fit the lines
  pub fit : Contents → Lines → Type 0
  -- the files are as they were meant but for damaged blocks
  pub are_as_meant : State → State → Lines → Type 0
  -- what is opened serves the tables
  pub are_served : State → Opened → Tables → Type 0
  -- what is opened was meant to serve the tables
  pub were_served : State → State → Opened → Tables → Type 0
  -- the lines of what is opened
  pub lines_of : Opened → Lines

-- one table, by its line
abbrev pub by_one_line : TableOpening TableLine OpenTable LevelTable
by_one_line = record {
  are_named = IsTableOf;
  fit = FileFits;
  are_as_meant = λ disk meant line. IsTableAsMeant (disk line.file) (meant line.file);
  are_served = IsServed;
  were_served = WasServed;
  lines_of = λ it. it.line;
}

-- the tables of a store, by their lines
abbrev pub by_all_lines : TableOpening (List TableLine) LevelTables (List LevelTable)
by_all_lines = record {
  are_named = AreTablesOf;
  fit = λ left lines. All (FileFits left) lines;
  are_as_meant = λ disk meant lines.
      All (λ line. IsTableAsMeant (disk line.file) (meant line.file)) lines;
  are_served = AreServed;
  were_served = WereServed;
  lines_of = table_lines;
}

-- what an opening by lines promises
pub record OpensTables {Lines Opened Tables : Type 0} (how : TableOpening Lines Opened Tables)
    {D : Type 0} (g : Ghosts D) (disk later : D) (given : Lines)
    (result : Result Opened EngineError) : Type 0 where
  -- what is opened serves the tables that the lines name, or the refusal says nothing of the files
  pub opened : (tables : Tables) → g.is_honest disk →
      how.are_named (contents (g.state disk)) given tables →
      MatchResult result (λ it. how.are_served (g.state later) it tables)
      (IsEnvironmental engine.Disk engine.Memory)
  -- where the files are as they were meant but for damaged blocks, it was meant to serve them
  pub meant : (meant : State) (tables : Tables) → g.is_honest disk →
      how.are_named (contents meant) given tables → how.are_as_meant (g.state disk) meant given →
      IfOk result (λ it. how.were_served (g.state later) meant it tables)
  -- of any files, they fit where they are opened, and do not where they are refused as damaged
  pub fits : g.is_honest disk → MatchResult result
      (λ _. how.fit (contents (g.state disk)) given)
      (λ e. how.fit (contents (g.state disk)) given → IsEnvironmental engine.Disk engine.Memory e)
  -- its lines are those that were given
  pub lines : IfOk result (λ it. how.lines_of it ≡ given)
