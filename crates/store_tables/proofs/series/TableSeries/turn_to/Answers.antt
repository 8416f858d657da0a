use Rattle.sorted_table.specs.contracts.table_cursor.TableCursorCursor.TheImpl as table
use Rattle.store_cursors.specs.contracts.store_cursor.StoreCursorCursor.TheImpl.{ghosts, no_dict}
use Rattle.store_tables.proofs.TableSeries.{begun_series, both_ok, still_series}
use Rattle.store_tables.proofs.series.TableSeries.turn_to.Goals as goal

pub returns-then-end_before : goal.returns-then-end_before
returns-then-end_before g c = λ meant files tables before.
    let store = ghosts g.row.D g.D.Disk no_dict no_dict in
    let over = table.ghosts g.row.D g.D.Disk table.no_dict table.no_dict in
    still_series store over meant meant files c.args.self.now.ended.items
    c.args.self.now.last.items tables before c.args.key.now
    (c.end_before.ensures meant files c.if-end_before.true)

pub returns : goal.returns
returns g c = both_ok c.end_last.result _ _ _ (λ none through meant files tables before.
    let store = ghosts g.row.D g.D.Disk no_dict no_dict in
    let over = table.ghosts g.row.D g.D.Disk table.no_dict table.no_dict in
    begun_series store over meant meant files c.end_last.new.self.ended.items
    c.end_last.new.self.last.items tables c.args.key.now none
    (through meant files tables before)) c.end_last.ensures.none c.end_last.ensures.through
