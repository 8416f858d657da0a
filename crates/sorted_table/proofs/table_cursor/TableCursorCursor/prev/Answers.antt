use Rattle.std.proofs.Common.{◌-◌, ◌∙◌, None, refl, ap, sym, arith, rules}
use Rattle.std.specs.Rc.{rc_slice_items}
use Rattle.table_files.specs.{keeps_files_itself}
use Rattle.sorted_table.specs.TableCursors.{IsPlaceIn}
use Rattle.sorted_table.specs.MovedFiles.{moves_itself}
use Rattle.sorted_table.proofs.CursorMoves.{cursor_moves, entered_or_none, when_false}
use Rattle.sorted_table.proofs.CursorSteps.{ends_behind, within_lines}
use Rattle.sorted_table.proofs.TableFinds.{finds_none_before, finds_prev_block, finds_prev_in}
use Rattle.sorted_table.proofs.TableFinds.{here_of}
use Rattle.sorted_table.proofs.TablePlaces.{moved_in}
use Rattle.sorted_table.proofs.table_cursor.TableCursorCursor.prev.Goals as goal

pub returns-in_default : goal.returns-in_default
returns-in_default g c = record {
  moves =
      cursor_moves _ (λ d. d.file) (λ d. d.format) (λ d. rc_slice_items d.lines) (λ d. d.place) _ _
      c.args.files.now c.args.files.now (keeps_files_itself _ c.args.files.now) refl refl refl
      (λ m honest agree t here. here);
  device = moves_itself _ c.args.files.now;
  causes = search rules;
  broken = search rules;
  ends = search rules;
  finds = search rules;
}

pub returns-then-retreat : goal.returns-then-retreat
returns-then-retreat g c = record {
  moves =
      cursor_moves _ (λ d. d.file) (λ d. d.format) (λ d. rc_slice_items d.lines) (λ d. d.place) _ _
      c.args.files.now c.args.files.now (keeps_files_itself _ c.args.files.now) refl refl refl
      (λ m honest agree t here.
      let p = c.in-Some.place in
      moved_in t.represents.blocks p c.retreat.new.self (p.at - 1)
      (c.if-retreat.ensures.moved refl).0
      (here_of (IsPlaceIn t.represents.blocks) c.args.self.now.place p
      c.in-Some.is here));
  device = moves_itself _ c.args.files.now;
  causes = search rules;
  broken = search rules;
  ends = search rules;
  finds = λ m s.
      let moved = c.if-retreat.ensures.moved refl in
      finds_prev_in _ _ _ s.1.table c.args.self.now.has_failed c.args.self.now.place c.in-Some.place
      c.retreat.new.self c.in-Some.is s.1.here moved.0 moved.1;
}

pub returns-then-line-eq0 : goal.returns-then-line-eq0
returns-then-line-eq0 g c = record {
  moves =
      cursor_moves _ (λ d. d.file) (λ d. d.format) (λ d. rc_slice_items d.lines) (λ d. d.place) _ _
      c.args.files.now c.args.files.now (keeps_files_itself _ c.args.files.now) refl refl refl
      (λ m honest agree t here. tt);
  device = moves_itself _ c.args.files.now;
  causes = search rules;
  broken = search rules;
  ends = search rules;
  finds = λ m s.
      let first = when_false c.retreat.result _ c.if-retreat.false c.retreat.ensures.first in
      finds_none_before _ _ _ s.1.table c.args.self.now.has_failed c.args.self.now.place
      c.in-Some.place None c.in-Some.is s.1.here
      (sym first.0.line ∙ (sym c.line-line.ensures ∙ c.if-line-eq0.true)) first.1 refl;
}

pub returns : goal.returns
returns g c = record {
  moves =
      cursor_moves _ (λ d. d.file) (λ d. d.format) (λ d. rc_slice_items d.lines) (λ d. d.place) _ _
      c.args.files.now c.enter.new.files c.enter.ensures.moved.keeps c.enter.ensures.table.0
      (ap rc_slice_items c.enter.ensures.table.1) c.enter.ensures.table.2 (λ m honest agree t here.
      entered_or_none _ _ _ c.enter.result
      (c.enter.ensures.reads m honest agree t) c.enter.ensures.moved.refused);
  device = search rules;
  causes = search rules;
  broken = search rules;
  ends =
      let first = when_false c.retreat.result _ c.if-retreat.false c.retreat.ensures.first in
      let old = c.args.self.now in
      let new = c.enter.new.self in
      ends_behind c.enter.result (rc_slice_items old.lines) (rc_slice_items new.lines) old.place
      c.in-Some.place (c.line-line.result - 1) new.has_failed new.place
      (ap rc_slice_items c.enter.ensures.table.1) c.in-Some.is
      (let some = c.if-line-eq0.false in
      omega (arith, c.line-line.ensures, first.0.line, some)) new.bounded c.enter.ensures.entered;
  finds = λ m s.
      let first = when_false c.retreat.result _ c.if-retreat.false c.retreat.ensures.first in
      let old = c.args.self.now in
      let new = c.enter.new.self in
      let is = c.in-Some.is in
      finds_prev_block _ _ _ s.1.table c.enter.result old.has_failed old.place c.in-Some.place
      (c.line-line.result - 1) new.has_failed new.place is
      s.1.here (let some = c.if-line-eq0.false in
      omega (arith, c.line-line.ensures, first.0.line, some)) first.1
      (within_lines (rc_slice_items old.lines) c.in-Some.place (old.bounded c.in-Some.place is))
      c.enter.ensures.entered (c.enter.ensures.reads (m c.args.self.now.file) s.0 s.2 s.1.table);
}
