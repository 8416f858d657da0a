use Rattle.sorted_table.specs.contracts.table_cursor.TableCursorCursor.TheImpl as table
use Rattle.byte_fields.specs.{lent_key}
use Rattle.store_tables.proofs.TableSeries.{all_precede}
use Rattle.store_tables.proofs.series.end_before.Goals as goal

pub returns-in-Some : goal.returns-in-Some
returns-in-Some g c = λ meant files ends each order.
    let over = table.ghosts g.row.D g.D.Disk table.no_dict table.no_dict in
    all_precede over meant files c.args.series.now.items c.args.key.now c.deref.result.now
    c.in-Some.last.now (lent_key c.lent.result) c.deref.ensures.value c.in-Some.ensures.value
    c.lent.ensures.key each order (c.ends_before.ensures.serves meant files ends)
