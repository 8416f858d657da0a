use Rattle.sorted_table.specs.contracts.table_cursor.TableCursorCursor.TheImpl as table
use Rattle.store_cursors.specs.contracts.store_cursor.StoreCursorCursor.TheImpl.{ghosts, no_dict}
use Rattle.store_tables.proofs.TableSeries.{all_more}
use Rattle.store_tables.proofs.series.TableSeries.add.Goals as goal

pub returns : goal.returns
returns g c = λ meant files tables added before has least.
    let store = ghosts g.row.D g.D.Disk no_dict no_dict in
    let over = table.ghosts g.row.D g.D.Disk table.no_dict table.no_dict in
    all_more store over meant meant files _ _ _ tables c.args.least.now c.args.table added
    (c.in_ok-turn_to.ensures meant files tables before) has least c.in_ok-push.ensures.items
