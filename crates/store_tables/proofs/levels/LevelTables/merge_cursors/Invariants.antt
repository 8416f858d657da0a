use Rattle.std.proofs.Common.{take}
use Rattle.std.specs.List.{AllZip, filter}
use Rattle.sorted_table.specs.contracts.table_cursor.TableCursorCursor.TheImpl.{ghosts, no_dict}
use Rattle.compaction.specs.Inputs.{lent_range}
use Rattle.compaction.specs.Plans.{is_line_input}
use Rattle.store_tables.proofs.MergeInputs.{IsOverTable}
use Rattle.store_tables.proofs.OpenTables.{files_ghosts}
use Rattle.store_tables.proofs.levels.LevelTables.merge_cursors.Given as goal

-- of the tables that the loop has passed, the inputs have cursors
abbrev pub invariant-loop-open : goal.invariant-loop-open
invariant-loop-open g l =
    AllZip (IsOverTable (ghosts g.row.D g.D.Disk no_dict no_dict) (files_ghosts g.D.Disk)
    (λ meant. meant)) l.inputs.items
    (filter (λ one. is_line_input l.plan (lent_range l.range) one.line)
    (take l.open-index l.self.tables.items))
