-- The open tables whose keys meet a range, as the files are and as they were meant to be.
use Rattle.std.proofs.Common.{◌≡◌, ◌∙◌, ℕ, List, [], ◌∷◌, map, subst, sym, true}
use Rattle.std.specs.List.{AllZip}
use Rattle.std.proofs.lemmas.List.Elements.{All-head, All-tail}
use Rattle.disk.specs.{Slot, State, contents, seen}
use Rattle.kv_types.specs.{Entry, Span}
use Rattle.sorted_table.specs.declared.Table.{Table}
use Rattle.sorted_table.specs.{TableServes, table_file}
use Rattle.store_model.specs.{KeyRange, LevelTable}
use Rattle.manifest.specs.declared.TableLine.{TableLine}
use Rattle.store_tables.specs.declared.levels.OpenTable.{OpenTable}
use Rattle.store_tables.specs.LevelTablesLemmas.{open_as_itself}
use Rattle.store_tables.specs.LevelTables.{IsServed, IsTableOf, WasServed, line_range}
use Rattle.store_tables.specs.RangeReads.{AreIntactIn, WasServedIn, meets_span}

-- tables that were meant to be served were, whichever meet the range
pub served_in : (span : Span) (disk meant : State) (items : List OpenTable)
    (tables : List LevelTable) → AllZip (WasServed disk meant) items tables
    → AllZip (WasServedIn span disk meant) items tables
served_in span disk meant [] [] zip = tt
served_in span disk meant [] (t ∷ tables) zip = absurd zip
served_in span disk meant (it ∷ items) [] zip = absurd zip
served_in span disk meant (it ∷ items) (t ∷ tables) zip = (
  record { range = zip.0.serves.range; serves = λ meets. zip.0 },
  served_in span disk meant items tables zip.1,
)

-- a file that reads the same serves the same
serves_alike : (old new : Slot) (table : Table) (entries : List Entry) → seen new ≡ seen old
    → TableServes old table entries → TableServes new table entries
serves_alike old new table entries same serves = record {
  bytes = serves.bytes;
  present = same ∙ serves.present;
  represents = serves.represents;
  lines = serves.lines;
  filter = serves.filter;
}

-- whether the keys of a line's table meet the range
abbrev Meets : Span → TableLine → Type 0
Meets span line = meets_span (line_range line) span ≡ true

-- an open table that reads as it was meant to is served from what the disk has
intact_one : (span : Span) (disk meant : State) (it : OpenTable) (t : LevelTable)
    → IsTableOf (contents meant) it.line t → IsServed meant it t
    → (Meets span it.line → seen (disk it.line.file) ≡ seen (meant it.line.file))
    → WasServedIn span disk disk it t
intact_one span disk meant it t is served same = record {
  range = served.range;
  serves = λ meets.
      let file : it.line.file ≡ table_file it.table = sym is.file ∙ served.file in
      let own = subst (λ (f : ℕ). seen (disk f) ≡ seen (meant f)) file
      (same (subst (λ (r : KeyRange). meets_span r span ≡ true) served.range meets)) in
      record {
        serves = record {
          level = served.level;
          file = served.file;
          range = served.range;
          serves = serves_alike (meant (table_file it.table)) (disk (table_file it.table)) it.table
              t.entries own served.serves;
        };
        blocks = open_as_itself (disk (table_file it.table)) it.table;
      };
}

-- so are all of them whose keys meet the range
pub intact_in : (span : Span) (disk meant : State) (items : List OpenTable)
    (tables : List LevelTable)
    → AllZip (IsTableOf (contents meant)) (map (λ (it : OpenTable). it.line) items) tables
    → AllZip (IsServed meant) items tables
    → AreIntactIn span disk meant (map (λ (it : OpenTable). it.line) items)
    → AllZip (WasServedIn span disk disk) items tables
intact_in span disk meant [] [] read served intact = tt
intact_in span disk meant [] (t ∷ tables) read served intact = absurd served
intact_in span disk meant (it ∷ items) [] read served intact = absurd served
intact_in span disk meant (it ∷ items) (t ∷ tables) read served intact =
    let Reads = λ (line : TableLine).
    Meets span line → seen (disk line.file) ≡ seen (meant line.file) in
    let lines = map (λ (o : OpenTable). o.line) items in (
      intact_one span disk meant it t read.0 served.0 (All-head Reads it.line lines intact),
      intact_in span disk meant items tables read.1 served.1 (All-tail Reads it.line lines intact),
    )
