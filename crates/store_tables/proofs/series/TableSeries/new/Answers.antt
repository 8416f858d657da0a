use Rattle.sorted_table.specs.contracts.table_cursor.TableCursorCursor.TheImpl as table
use Rattle.store_cursors.specs.contracts.store_cursor.StoreCursorCursor.TheImpl.{ghosts, no_dict}
use Rattle.std.proofs.Common.{List, [], subst, sym}
use Rattle.store_tables.specs.TableSeries.{AreSeries}
use Rattle.store_tables.proofs.TableSeries.{all_none}
use Rattle.store_tables.proofs.series.TableSeries.new.Goals as goal

pub returns : goal.returns
returns g c = λ meant files.
    let store = ghosts g.row.D g.D.Disk no_dict no_dict in
    let over = table.ghosts g.row.D g.D.Disk table.no_dict table.no_dict in
    subst (λ (l : List _). AreSeries store over meant meant files l c.new-2.result.items [])
    (sym c.new.ensures.items)
    (subst (λ (l : List _). AreSeries store over meant meant files [] l [])
    (sym c.new-2.ensures.items) (all_none store over meant meant files))
