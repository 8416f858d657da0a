use Rattle.std.proofs.Common.{ap, arith, rules}
use Rattle.std.specs.Rc.{rc_slice_items}
use Rattle.sorted_table.proofs.TableFinds.{finds_last}
use Rattle.sorted_table.proofs.CursorMoves.{cursor_moves, entered_or_none}
use Rattle.sorted_table.proofs.table_cursor.TableCursorCursor.last.Goals as goal

pub returns : goal.returns
returns g c = record {
  moves =
      cursor_moves _ (λ d. d.file) (λ d. d.format) (λ d. rc_slice_items d.lines) (λ d. d.place) _ _
      c.args.files.now c.enter.new.files c.enter.ensures.moved.keeps c.enter.ensures.table.0
      (ap rc_slice_items c.enter.ensures.table.1) c.enter.ensures.table.2 (λ m honest agree t here.
      entered_or_none _ _ _ c.enter.result
      (c.enter.ensures.reads m honest agree t) c.enter.ensures.moved.refused);
  device = search rules;
  causes = search rules;
  broken = search rules;
  finds = λ m s.
      finds_last _ _ _ s.1.table c.enter.result c.saturating_sub-line.result
      c.enter.new.self.has_failed c.enter.new.self.place
      (omega (arith, c.saturating_sub-line.ensures, c.len.ensures))
      c.enter.ensures.entered (c.enter.ensures.reads (m c.args.self.now.file) s.0 s.2 s.1.table);
}
