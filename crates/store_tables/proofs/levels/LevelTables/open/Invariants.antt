use Rattle.std.proofs.Common.{◌≡◌, All, List, map, take}
use Rattle.std.specs.List.{AllZip}
use Rattle.disk.specs.{State, contents}
use Rattle.store_model.specs.{LevelTable}
use Rattle.store_tables.specs.LevelTables.{AreTablesOf, FileFits, IsServed, IsTableAsMeant}
use Rattle.store_tables.specs.LevelTables.{WasServed}
use Rattle.store_tables.proofs.OpenTables.{HasOnlyRead}
use Rattle.store_tables.proofs.levels.LevelTables.open.Given as goal

-- the tables of the lines that the loop has passed are open
abbrev pub invariant-loop-line : goal.invariant-loop-line
invariant-loop-line g l = record {
  read : HasOnlyRead g.D.Disk l.fn.disk l.disk;
  lines : map (λ one. one.line) l.tables.items ≡ take l.line-index l.lines;
  fits : g.D.Disk.is_honest l.fn.disk
      → All (FileFits (contents (g.D.Disk.state l.fn.disk))) (take l.line-index l.lines);
  served : (tables : List LevelTable) → g.D.Disk.is_honest l.fn.disk
      → AreTablesOf (contents (g.D.Disk.state l.fn.disk)) l.lines tables
      → AllZip (IsServed (g.D.Disk.state l.fn.disk)) l.tables.items (take l.line-index tables);
  meant : (meant : State) (tables : List LevelTable) → g.D.Disk.is_honest l.fn.disk
      → AreTablesOf (contents meant) l.lines tables
      → All (λ line. IsTableAsMeant (g.D.Disk.state l.fn.disk line.file) (meant line.file)) l.lines
      → AllZip (WasServed (g.D.Disk.state l.fn.disk) meant) l.tables.items
      (take l.line-index tables);
}
