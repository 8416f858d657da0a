-- The tables that a read of a range asks, and the cursors over them.
use Rattle.std.specs.Prelude.{◌≡◌, ◌≢◌, ◌↔◌, ℕ, List, All, Bool, true, not, ◌&&◌, Contains}
use Rattle.std.specs.List.{AllPairs, AllZip, filter}
use Rattle.std.specs.Option.{option_map_or}
use Rattle.std.specs.Ordering.{is_lt}
use Rattle.byte_fields.specs.{stored_cmp}
use Rattle.kv_types.specs.{Entry, Span}
use Rattle.kv_types.specs.Pages.{IsWithin}
use Rattle.merge_iter.specs.{AreDisjoint, AreSound, IsAlike, union_of}
use Rattle.merge_iter.specs.declared.Cursor.{Ghosts}
use Rattle.disk.specs.{Contents, State, seen}
use Rattle.manifest.specs.declared.TableLine.{TableLine}
use Rattle.manifest.specs.{IsVersion, StoreVersion}
use Rattle.store_model.specs.{AreLeveled, KeyRange, LevelTable, tables_entries}
use Rattle.store_cursors.specs.StoreCursors.{HasEntries}
use Rattle.store_tables.specs.LevelTables.{AreTablesOf, WasServed, line_range}
use Rattle.store_tables.specs.TableReads.{WereNamed}
use Rattle.store_tables.specs.declared.levels.LevelTables.{LevelTables}
use Rattle.store_tables.specs.declared.levels.OpenTable.{OpenTable}
use Rattle.store_tables.specs.TableSeries.{EachFitsRange}

-- the keys from the least to the greatest meet the span: they end no sooner than it begins, and
-- begin before it ends
abbrev pub meets_span : KeyRange → Span → Bool
meets_span keys span =
    not (is_lt (stored_cmp keys.greatest span.from))
    && option_map_or (λ to. is_lt (stored_cmp keys.least to)) span.to true

-- the tables whose keys meet the span, in the same order
abbrev pub tables_in : Span → List LevelTable → List LevelTable
tables_in span tables = filter (λ table. meets_span table.range span) tables

-- an open table has the range of this table, and was meant to serve it if the keys meet the span
pub record WasServedIn (span : Span) (disk meant : State) (it : OpenTable) (table : LevelTable)
    : Type 0 where
  pub range : table.range ≡ line_range it.line
  pub serves : meets_span table.range span ≡ true → WasServed disk meant it table

-- each open table has the range of its table, and was meant to serve it, in the same order
abbrev pub WereServedIn : Span → State → State → LevelTables → List LevelTable → Type 0
WereServedIn span disk meant it tables =
    AllZip (WasServedIn span disk meant) it.tables.items tables

-- each file of these lines whose keys meet the span reads as it was meant to
abbrev pub AreIntactIn : Span → State → State → List TableLine → Type 0
AreIntactIn span disk meant lines = All (λ line. meets_span (line_range line) span ≡ true →
    seen (disk line.file) ≡ seen (meant line.file)) lines

-- Of the files of these lines whose keys meet the span, not each reads as it was meant to.
pub record OneIsDamagedIn (span : Span) (disk : State) (lines : List TableLine) : Type 0 where
  pub meant : State
  pub tables : List LevelTable
  pub were : WereNamed disk meant lines tables
  pub damaged : AreIntactIn span disk meant lines → ⊥

-- no two of the tables have one file
abbrev pub HaveOwnFiles : List LevelTable → Type 0
HaveOwnFiles tables = AllPairs (λ a b. a.file ≢ b.file) tables

-- the tables that the lines of a version name have files of their own
abbrev pub VersionsNameOwnFiles : Type 0
VersionsNameOwnFiles =
    (version : StoreVersion) → IsVersion version → (left : Contents) (tables : List LevelTable)
    → AreTablesOf left version.tables tables → HaveOwnFiles tables

-- the cursor is sound, and has the entries of the table
abbrev pub HasTable : {C S : Type 0} (g : Ghosts C S) → g.Meant → S → C → LevelTable → Type 0
HasTable g meant source cursor table = HasEntries g meant source cursor (Contains table.entries)

-- the cursors of a read of the span, over open tables of which those that meet it were meant to
-- serve these
pub record AreRangeCursors {C S : Type 0} (g : Ghosts C S) (meant : g.Meant) (source : S)
    (span : Span) (tables : List LevelTable) (cursors : List C) : Type 0 where
  -- where each table fits its range, each of them is sound
  pub sound : EachFitsRange tables → AreSound g meant cursors source
  -- together they have exactly the entries of the tables whose keys meet the span
  pub entries : IsAlike (union_of g meant cursors source) (tables_entries (tables_in span tables))
  -- of entries with a key in the span they have exactly those of all tables
  pub within : (flushed : ℕ) → AreLeveled flushed tables → (entry : Entry) →
      IsWithin span entry.key →
      union_of g meant cursors source entry ↔ tables_entries tables entry
  -- no two have entries of one key and number, where no two tables have one file
  pub disjoint : (flushed : ℕ) → AreLeveled flushed tables → HaveOwnFiles tables →
      AreDisjoint g meant cursors source
