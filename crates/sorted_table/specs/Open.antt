-- An open table, and what a lookup in it finds.
use Rattle.std.specs.Prelude.{◌≡◌, ◌<◌, ◌⊎◌, ℕ, List, [], ◌∷◌, length}
use Rattle.std.specs.Prelude.{slice_get, Option, Some, None, Result, Ok, Err}
use Rattle.std.specs.Prelude.{IsSomeAnd, Contains, IfOk, MatchOption}
use Rattle.std.specs.Option.{option_map}
use Rattle.std.specs.Rc.{rc_slice_items}
use Rattle.bloom.specs.{Covers}
use Rattle.disk.specs.{Slot, seen}
use Rattle.byte_fields.specs.{StoredKey}
use Rattle.kv_types.specs.{Entry, IsNewest, IsUnseen}
use Rattle.merge_iter.specs.{spot}
use Rattle.table_builder.specs.{HoldsTable}
use Rattle.table_format.specs.{IsBlock, TableRepresents, TableRepresentsIn, block_lines}
use Rattle.table_format.specs.{filter_key, last_entry}
use Rattle.byte_fields.specs.declared.format.Format.{Format}
use Rattle.table_format.specs.declared.IndexLine.{IndexLine}
use Rattle.table_format.specs.declared.FileError.{FileError}
use Rattle.table_format.specs.declared.FileError.TheVariants.{Damaged}
use Rattle.sorted_table.specs.Meant.{AreAsMeant, IsBlockAtLine}
use Rattle.sorted_table.specs.Searches.{IsLinePlace}
use Rattle.sorted_table.specs.Tails.{HasTail}
use Rattle.sorted_table.specs.declared.found.FoundVersion.{FoundVersion}
use Rattle.sorted_table.specs.declared.table.Table.{Table}

-- ---- open tables

-- the file that the table is open on
abbrev pub table_file : Table → ℕ
table_file table = table.file

-- the format of the table
abbrev pub table_format : Table → Format
table_format table = table.format

-- the filter that the table keeps
abbrev pub table_filter : Table → List ℕ
table_filter table = table.filter.items

-- the lines of the index that the table keeps
abbrev pub index_lines : Table → List IndexLine
index_lines table = rc_slice_items table.lines

-- the key of the last of these lines, if there is one
abbrev pub last_line_key : List IndexLine → Option StoredKey
last_line_key [] = None
last_line_key (line ∷ []) = Some line.key
last_line_key (line ∷ next ∷ lines) = last_line_key (next ∷ lines)

-- a read of the file returns bytes that represent these entries
abbrev pub FileRepresents : Slot → List Entry → Type 0
FileRepresents file entries = IsSomeAnd (seen file) (λ bytes. TableRepresents bytes entries)

-- The table serves these entries: its file represents them in the table's format, and it keeps the
-- lines of the file's index and the file's filter.
pub record TableServes (file : Slot) (table : Table) (entries : List Entry) : Type 0 where
  pub bytes : List ℕ
  pub present : seen file ≡ Some bytes
  pub represents : TableRepresentsIn (table_format table) bytes entries
  pub lines : index_lines table ≡ block_lines (table_format table) 0 represents.blocks
  pub filter : table.filter.items ≡ represents.filter

-- the table is open on this file: the bytes end in the table's filter and its lines, in its format
abbrev pub IsOpenOn : Slot → Table → Type 0
IsOpenOn file table =
    IsSomeAnd (seen file)
    (λ bytes. HasTail (table_format table) bytes (index_lines table) (table_filter table))

-- the table has the format and keeps the lines of each tail that the file has
abbrev pub HasItsLines : Slot → Table → Type 0
HasItsLines file table =
    (format : Format) (lines : List IndexLine) (filter : List ℕ)
    → IsSomeAnd (seen file) (λ bytes. HasTail format bytes lines filter)
    → (format ≡ table_format table) × (lines ≡ index_lines table)

-- a table can be open on the file: the bytes end in a tail
abbrev pub CanBeOpen : Slot → Type 0
CanBeOpen file = IsSomeAnd (seen file)
    (λ bytes. (format : Format) × (lines : List IndexLine) × (filter : List ℕ)
    × HasTail format bytes lines filter)

-- the key of the last of these entries, if there is one
abbrev pub greatest_key : List Entry → Option StoredKey
greatest_key entries = option_map (λ entry. entry.key) (last_entry entries)

-- a file that a builder has finished represents the entries that were added
abbrev pub FinishedTablesAreFiles : Type 0
FinishedTablesAreFiles = (file : Slot) (entries : List Entry) → HoldsTable file entries →
    FileRepresents file entries

-- ---- lookups

-- what was found of a key, as an entry
abbrev pub found_entry : StoredKey → FoundVersion → Entry
found_entry key found = record {
  key = key;
  number = found.number;
  value = option_map (λ value. value.items) found.value;
}

-- a lookup finds the newest entry of the key with at most that number, or that there is none
abbrev pub LookupFinds : List Entry → StoredKey → ℕ → Option FoundVersion → Type 0
LookupFinds entries key at None = IsUnseen at (Contains entries) key
LookupFinds entries key at (Some found) = IsNewest at (Contains entries) (found_entry key found)

-- ---- lookups in any open table

-- the file has a block of the format for line n, and this is found in it
pub record FindsAtLine (format : Format) (lines : List IndexLine) (n : ℕ) (file : Slot)
    (key : StoredKey) (at : ℕ) (found : Option FoundVersion) : Type 0 where
  pub part : List ℕ
  pub entries : List Entry
  pub there : IsBlockAtLine format lines n file part
  pub is_block : IsBlock format part entries
  pub finds : LookupFinds entries key at found

-- The answer by line n: what is found in its block, and `Damaged` only where the file has no block
-- for it. Without such a line nothing is found.
abbrev pub LineAnswer : Format → List IndexLine → ℕ → Slot → StoredKey → ℕ
    → Result (Option FoundVersion) FileError → Type 0
LineAnswer format lines n file key at (Ok found) =
    MatchOption (slice_get lines n) (found ≡ None)
    (λ line. ∥ FindsAtLine format lines n file key at found ∥₁)
LineAnswer format lines n file key at (Err e) =
    (n < length lines)
    × (e ≡ Damaged → (part : List ℕ) → IsBlockAtLine format lines n file part → ⊥)

-- the table's filter covers what its format holds for the key
abbrev pub HasInFilter : Table → StoredKey → Type 0
HasInFilter table key = Covers (table_filter table) (filter_key (table_format table) key)

-- The answer by filter and lines: nothing where the filter denies the key, and else the answer by
-- the first line whose block does not end before key and number.
abbrev pub LookupAnswer : Slot → Table → StoredKey → ℕ → Result (Option FoundVersion) FileError
    → Type 0
LookupAnswer file table key at result =
    ((HasInFilter table key → ⊥) × (result ≡ Ok None))
    ⊎ (HasInFilter table key × (n : ℕ)
    × IsLinePlace (index_lines table) (spot key at) n
    × LineAnswer (table_format table) (index_lines table) n file key at result)

-- ---- lookups in damaged files

-- A lookup that succeeds finds what the table has that the file was meant to be. This holds for
-- each table that it may have been meant to be, if its undamaged blocks are as they were meant.
abbrev pub AnswersAsMeant : Slot → Table → StoredKey → ℕ → Result (Option FoundVersion) FileError
    → Type 0
AnswersAsMeant file table key at result =
    (meant : Slot) (entries : List Entry) → TableServes meant table entries →
    AreAsMeant (table_format table) file meant (index_lines table) →
    IfOk result (LookupFinds entries key at)
