use Rattle.std.proofs.Common.{◌+◌, ◌∙◌, ◌<◌, refl, ap, arith, length, rules}
use Rattle.std.specs.Rc.{rc_slice_items}
use Rattle.table_files.specs.{keeps_files_itself}
use Rattle.sorted_table.specs.TableCursors.{IsPlaceIn}
use Rattle.sorted_table.specs.MovedFiles.{moves_itself}
use Rattle.sorted_table.proofs.CursorMoves.{cursor_moves, entered_or_none, when_false}
use Rattle.sorted_table.proofs.CursorSteps.{ends_ahead, within_lines}
use Rattle.sorted_table.proofs.TableFinds.{finds_next_block, finds_next_in, here_of}
use Rattle.sorted_table.proofs.TablePlaces.{moved_in}
use Rattle.sorted_table.proofs.table_cursor.TableCursorCursor.next.Goals as goal

pub returns-in_default : goal.returns-in_default
returns-in_default g c = record {
  moves =
      cursor_moves _ (λ d. d.file) (λ d. d.format) (λ d. rc_slice_items d.lines) (λ d. d.place) _ _
      c.args.files.now c.args.files.now (keeps_files_itself _ c.args.files.now) refl refl refl
      (λ m honest agree t here. here);
  device = moves_itself _ c.args.files.now;
  causes = search rules;
  broken = search rules;
  ends = search rules;
  finds = search rules;
}

pub returns-then-advance : goal.returns-then-advance
returns-then-advance g c = record {
  moves =
      cursor_moves _ (λ d. d.file) (λ d. d.format) (λ d. rc_slice_items d.lines) (λ d. d.place) _ _
      c.args.files.now c.args.files.now (keeps_files_itself _ c.args.files.now) refl refl refl
      (λ m honest agree t here.
      let p = c.in-Some.place in
      moved_in t.represents.blocks p c.advance.new.self (p.at + 1) (c.if-advance.ensures.moved refl)
      (here_of (IsPlaceIn t.represents.blocks) c.args.self.now.place p
      c.in-Some.is here));
  device = moves_itself _ c.args.files.now;
  causes = search rules;
  broken = search rules;
  ends = search rules;
  finds = λ m s.
      finds_next_in _ _ _ s.1.table c.args.self.now.has_failed c.args.self.now.place c.in-Some.place
      c.advance.new.self c.in-Some.is s.1.here
      (c.if-advance.ensures.moved refl);
}

pub overflow_add-line : goal.overflow_add-line
overflow_add-line g c =
    let p = c.in-Some.place in
    let old = c.args.self.now in
    let last = when_false c.advance.result _ c.if-advance.false c.advance.ensures.last in
    let within : p.line < length (rc_slice_items old.lines) =
    within_lines (rc_slice_items old.lines) p
    (old.bounded p c.in-Some.is) in
    let small = old.lines.items.value.small in
    let full = old.lines.items.value.ok in
    omega (arith, within, small, full, c.line-line.ensures, last.0.line)

pub returns : goal.returns
returns g c = record {
  moves =
      cursor_moves _ (λ d. d.file) (λ d. d.format) (λ d. rc_slice_items d.lines) (λ d. d.place) _ _
      c.args.files.now c.enter.new.files c.enter.ensures.moved.keeps c.enter.ensures.table.0
      (ap rc_slice_items c.enter.ensures.table.1) c.enter.ensures.table.2 (λ m honest agree t here.
      entered_or_none _ _ _ c.enter.result
      (c.enter.ensures.reads m honest agree t) c.enter.ensures.moved.refused);
  device = search rules;
  causes = search rules;
  broken = search rules;
  ends =
      let last = when_false c.advance.result _ c.if-advance.false c.advance.ensures.last in
      let old = c.args.self.now in
      let new = c.enter.new.self in
      ends_ahead c.enter.result (rc_slice_items old.lines) (rc_slice_items new.lines) old.place
      c.in-Some.place (c.line-line.result + 1) new.has_failed new.place
      (ap rc_slice_items c.enter.ensures.table.1) c.in-Some.is
      (ap (λ n. n + 1) (c.line-line.ensures ∙ last.0.line)) new.bounded c.enter.ensures.entered;
  finds = λ m s.
      let last = when_false c.advance.result _ c.if-advance.false c.advance.ensures.last in
      let old = c.args.self.now in
      let new = c.enter.new.self in
      finds_next_block _ _ _ s.1.table c.enter.result old.has_failed old.place c.in-Some.place
      (c.line-line.result + 1) new.has_failed new.place c.in-Some.is
      s.1.here last.1 (ap (λ n. n + 1) (c.line-line.ensures ∙ last.0.line)) c.enter.ensures.entered
      (c.enter.ensures.reads (m c.args.self.now.file) s.0 s.2 s.1.table);
}
