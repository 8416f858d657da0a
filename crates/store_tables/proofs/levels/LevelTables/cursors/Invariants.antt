use Rattle.std.proofs.Common.{List, take}
use Rattle.disk.specs.{State}
use Rattle.kv_types.specs.{stored_span}
use Rattle.sorted_table.specs.contracts.table_cursor.TableCursorCursor.TheImpl as table
use Rattle.table_files.specs.declared.CachedDisk.{CachedDisk}
use Rattle.store_cursors.specs.contracts.store_cursor.StoreCursorCursor.TheImpl.{ghosts, no_dict}
use Rattle.store_model.specs.{LevelTable}
use Rattle.store_tables.specs.RangeReads.{WereServedIn, tables_in}
use Rattle.store_tables.specs.TableSeries.{AreSeries}
use Rattle.store_tables.proofs.levels.LevelTables.cursors.Given as goal

-- of the tables that the loop has passed, those that meet the range were added
abbrev pub invariant-loop-open : goal.invariant-loop-open
invariant-loop-open g l = (meant : State) (files : CachedDisk g.row.D.Denot g.D.Disk)
    (tables : List LevelTable) → g.D.Disk.is_honest files.disk
    → WereServedIn (stored_span l.range) (g.D.Disk.state files.disk) meant l.self tables
    → AreSeries (ghosts g.row.D g.D.Disk no_dict no_dict)
    (table.ghosts g.row.D g.D.Disk table.no_dict table.no_dict) meant meant files
    l.series.ended.items l.series.last.items
    (tables_in (stored_span l.range) (take l.open-index tables))
