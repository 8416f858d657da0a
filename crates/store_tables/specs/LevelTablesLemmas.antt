-- Open tables that are as they were meant to be.
use Rattle.std.proofs.Common.{inl, refl}
use Rattle.disk.specs.{Slot}
use Rattle.sorted_table.specs.{as_meant_itself, index_lines, table_format}
use Rattle.sorted_table.specs.declared.Table.{Table}
use Rattle.store_tables.specs.LevelTables.{IsOpenAsMeant}

-- a table's file is as it was meant where it was meant to be as it is
pub open_as_itself : (file : Slot) (table : Table) → IsOpenAsMeant file file table
open_as_itself file table = record {
  opened = inl refl;
  blocks = as_meant_itself (table_format table) file (index_lines table);
}
