use Rattle.sorted_table.specs.contracts.table_cursor.TableCursorCursor.TheImpl as table
use Rattle.store_cursors.specs.contracts.store_cursor.StoreCursorCursor.TheImpl.{ghosts, no_dict}
use Rattle.std.proofs.Common.{ap}
use Rattle.store_tables.proofs.TableSeries.{series_ended}
use Rattle.store_tables.proofs.series.TableSeries.end_last.Goals as goal

pub returns-clause-through : goal.returns-clause-through
returns-clause-through g c = λ meant files tables before.
    let store = ghosts g.row.D g.D.Disk no_dict no_dict in
    let over = table.ghosts g.row.D g.D.Disk table.no_dict table.no_dict in
    series_ended store over meant meant files c.args.self.now.ended.items
    c.args.self.now.last.items tables before c.replace-last.result.items
    (ap (λ v. v.items) c.replace-last.ensures.value) _ c.of_tables.result
    c.in_ok-push.ensures.items (c.of_tables.ensures.sound meant files)
    (c.of_tables.ensures.entries meant files)
