use Rattle.std.specs.Rc.{rc_slice_items}
use Rattle.byte_fields.specs.{lent_key}
use Rattle.sorted_table.proofs.CursorEnds.{file_ends, line_ends}
use Rattle.sorted_table.proofs.table_cursor.TableCursor.ends_before.Goals as goal

pub returns-in-Some-clause-line : goal.returns-in-Some-clause-line
returns-in-Some-clause-line g c =
    line_ends (rc_slice_items c.args.self.now.lines) c.deref.result.now c.in-Some.last.now
    (lent_key c.args.key) (lent_key c.lent.result) c.cmp.result c.is_lt.result
    c.deref.ensures.value c.in-Some.ensures.value c.lent.ensures.key c.cmp.ensures c.is_lt.ensures

-- the last line has the key of the last entry
pub returns-in-Some-clause-serves : goal.returns-in-Some-clause-serves
returns-in-Some-clause-serves g c = λ meant files ends sound.
    let lines = rc_slice_items c.args.self.now.lines in
    file_ends c.args.self.now.format (meant c.args.self.now.file) lines (lent_key c.args.key)
    sound.1.table
    ((line_ends lines c.deref.result.now c.in-Some.last.now (lent_key c.args.key)
    (lent_key c.lent.result) c.cmp.result c.is_lt.result c.deref.ensures.value
    c.in-Some.ensures.value c.lent.ensures.key c.cmp.ensures c.is_lt.ensures).0 ends)
