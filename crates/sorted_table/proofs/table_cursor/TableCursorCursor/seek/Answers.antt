use Rattle.std.proofs.Common.{◌≡◌, ap, sym, subst, arith, IfSome}
use Rattle.std.specs.Prelude.{is_err}
use Rattle.std.proofs.lemmas.Result.{err_from_is_err_and}
use Rattle.std.specs.Rc.{rc_slice_items}
use Rattle.byte_fields.specs.{lent_key}
use Rattle.table_format.specs.{block_entries}
use Rattle.sorted_table.specs.BlockPlaces.{place_entry}
use Rattle.sorted_table.specs.TableCursors.{HasReached, IsPlaceIn}
use Rattle.sorted_table.proofs.CursorMoves.{causes_of_ok, cursor_moves, entry_unbroken}
use Rattle.sorted_table.proofs.CursorMoves.{move_causes, off_unbroken, refused_broken}
use Rattle.sorted_table.proofs.TableFinds.{here_of}
use Rattle.sorted_table.proofs.TablePlaces.{moved_in}
use Rattle.sorted_table.proofs.TableSeeks.{finds_none_sought, finds_sought, line_place_in}
use Rattle.sorted_table.proofs.TableSeeks.{never_late, rising_at}
use Rattle.sorted_table.proofs.table_cursor.TableCursorCursor.seek.Goals as goal

pub returns-in_err-reach : goal.returns-in_err-reach
returns-in_err-reach g c = record {
  moves =
      cursor_moves _ (λ d. d.file) (λ d. d.format) (λ d. rc_slice_items d.lines) (λ d. d.place) _ _
      c.args.files.now c.reach.new.files c.reach.ensures.moved.keeps c.reach.ensures.table.0
      (ap rc_slice_items c.reach.ensures.table.1) c.reach.ensures.table.2 (λ m honest agree t here.
      subst (λ o. IfSome o (IsPlaceIn t.represents.blocks))
      (sym c.in_err-reach.ensures.moved.refused.0) tt);
  device =
      let p = err_from_is_err_and c.from_residual.result c.from_residual.ensures.1 in
      rw (p.1, p.2) c.in_err-reach.ensures.moved.device;
  causes =
      let p = err_from_is_err_and c.from_residual.result c.from_residual.ensures.1 in
      rw (p.1, p.2) (move_causes _ (λ d. d.file) (λ d. d.format) (λ d. rc_slice_items d.lines)
      (λ d. d.place)
      c.args.self.now c.args.files.now c.reach.new.files _ _ _ c.in_err-reach.ensures.moved);
  broken =
      let p = err_from_is_err_and c.from_residual.result c.from_residual.ensures.1 in
      refused_broken c.from_residual.result _ _ (ap is_err p.1)
      c.in_err-reach.ensures.moved.refused;
  finds = λ m s.
      let p = err_from_is_err_and c.from_residual.result c.from_residual.ensures.1 in
      rw p.1 tt;
}

pub returns-in_default : goal.returns-in_default
returns-in_default g c = record {
  moves =
      cursor_moves _ (λ d. d.file) (λ d. d.format) (λ d. rc_slice_items d.lines) (λ d. d.place) _ _
      c.args.files.now c.reach.new.files c.reach.ensures.moved.keeps c.reach.ensures.table.0
      (ap rc_slice_items c.reach.ensures.table.1) c.reach.ensures.table.2 (λ m honest agree t here.
      subst (λ o. IfSome o (IsPlaceIn t.represents.blocks)) (sym c.in_default.is) tt);
  device = c.in_ok-reach.ensures.moved.device;
  causes =
      causes_of_ok _ tt (move_causes _ (λ d. d.file) (λ d. d.format) (λ d. rc_slice_items d.lines)
      (λ d. d.place)
      c.args.self.now c.args.files.now c.reach.new.files _ _ _ c.in_ok-reach.ensures.moved);
  broken =
      let off = subst (HasReached (rc_slice_items c.args.self.now.lines) c.line_place-line.result
      c.reach.new.self.has_failed) c.in_default.is c.in_ok-reach.ensures.reached in
      (λ fails. absurd cc, λ is. absurd (off_unbroken _ _ off.0 c.in_default.is is));
  finds = λ m s.
      let lines = rc_slice_items c.args.self.now.lines in
      let n = c.line_place-line.result in
      let failed = c.reach.new.self.has_failed in
      let off = subst (HasReached lines n failed) c.in_default.is
      c.in_ok-reach.ensures.reached in
      finds_none_sought _ _ lines s.1.table
      (lent_key c.args.key) c.args.number n failed c.reach.new.self.place
      (omega (arith, c.line_place-line.ensures.within, c.deref.ensures.len))
      (line_place_in _ _ lines s.1.table (lent_key c.args.key) c.args.number c.deref.result.now n
      c.deref.ensures.value c.line_place-line.ensures.place) off.1 off.0 c.in_default.is;
}

pub returns : goal.returns
returns g c = record {
  moves =
      cursor_moves _ (λ d. d.file) (λ d. d.format) (λ d. rc_slice_items d.lines) (λ d. d.place) _ _
      c.args.files.now c.reach.new.files c.reach.ensures.moved.keeps c.reach.ensures.table.0
      (ap rc_slice_items c.reach.ensures.table.1) c.reach.ensures.table.2 (λ m honest agree t here.
      let p = c.in-Some.place in
      moved_in t.represents.blocks p c.seek.new.self c.seek.new.self.at c.seek.ensures.same
      (here_of (IsPlaceIn t.represents.blocks) c.reach.new.self.place p
      c.in-Some.is
      (c.in_ok-reach.ensures.reads m honest agree t here)));
  device = c.in_ok-reach.ensures.moved.device;
  causes =
      causes_of_ok _ tt (move_causes _ (λ d. d.file) (λ d. d.format) (λ d. rc_slice_items d.lines)
      (λ d. d.place)
      c.args.self.now c.args.files.now c.reach.new.files _ _ _ c.in_ok-reach.ensures.moved);
  broken = (
    λ fails. absurd cc,
    λ is. absurd (entry_unbroken (place_entry c.seek.new.self) is),
  );
  finds = λ m s.
      let lines = rc_slice_items c.args.self.now.lines in
      let n = c.line_place-line.result in
      let t = s.1.table in
      let p = c.in-Some.place in
      let on = c.in-Some.is in
      let there = here_of (IsPlaceIn t.represents.blocks) c.reach.new.self.place p on
      (c.in_ok-reach.ensures.reads (m c.args.self.now.file) s.0 s.2 t s.1.here) in
      let line : p.line ≡ n = subst (HasReached lines n c.reach.new.self.has_failed) on
      c.in_ok-reach.ensures.reached in
      finds_sought _ _ lines t (lent_key c.args.key) c.args.number n p c.seek.new.self
      (omega (arith, c.line_place-line.ensures.within, c.deref.ensures.len))
      (line_place_in _ _ lines t (lent_key c.args.key) c.args.number c.deref.result.now n
      c.deref.ensures.value c.line_place-line.ensures.place) there line c.seek.ensures.same
      (c.seek.ensures.found (block_entries there.block)
      (rising_at _ _ lines t (lent_key c.args.key) c.args.number p there) there.reads
      (never_late _ _ lines t (lent_key c.args.key) c.args.number n p
      (line_place_in _ _ lines t (lent_key c.args.key) c.args.number c.deref.result.now n
      c.deref.ensures.value c.line_place-line.ensures.place) there line));
}
