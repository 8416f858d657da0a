use Rattle.std.proofs.Common.{arith}
use Rattle.std.proofs.lemmas.Grind.{common_steps}
use Rattle.std.proofs.Common.{◌≡◌, sym, subst, ◌∙◌, true, false, IsTrue, Ok}
use Rattle.merge_iter.specs.declared.direction.Direction.TheVariants.{Forward}
use Rattle.merge_iter.specs.Order.{spot}
use Rattle.merge_iter.specs.Positions.{At, After}
use Rattle.merge_iter.specs.KeptEntries.{kept_entry}
use Rattle.merge_iter.specs.Unions.{first_kept}
use Rattle.merge_iter.proofs.ForwardSearches.{ahead_seek, ahead_after}
use Rattle.merge_iter.proofs.SeekSearches.{late_found}
use Rattle.merge_iter.specs.AlikeViews.{shown_alike, found_alike}
use Rattle.merge_iter.proofs.SeekSearches.{early_found}
use Rattle.merge_iter.specs.Moves.{one_move}
use Rattle.merge_iter.specs.LentCursors.{ShiftsCursor}
use Rattle.merge_iter.proofs.Shifts.{forward_fits, shifts_behind}
use Rattle.merge_iter.proofs.Walked.{flip, on_row}
use Rattle.merge_iter.specs.Order.{EntryPrecedes}
use Rattle.merge_iter.specs.Positions.{IsFirst, IfOn, WalkMeets}
use Rattle.byte_fields.specs.{lent_key}
use Rattle.kv_types.specs.{IsShown}
use Rattle.merge_iter.specs.ShownEntries.{view_position}
use Rattle.merge_iter.proofs.turns.seek_shown.Goals as goal

pub returns : goal.returns
returns g c = record {
  moved =
      let seek = c.seek.ensures in
      let then = c.find_forward.ensures in
      let both = shifts_behind g.C.Cursor g.met.C.Cursor.laws c.in_ok-seek.was
      (record { moves = seek.moves; device = seek.device; causes = seek.causes }) then.moved in
      let all = subst (λ r. ShiftsCursor g.C.Cursor (Unit {0}) c.args.inner.now c.args.source.now
      c.find_forward.new.inner c.find_forward.new.source r) c.in_ok-mode.was both in
      record {
        moves = all.moves;
        device = all.device;
        causes = all.causes;
        unbroken = c.in_ok-mode.ensures.unbroken _;
        fits = forward_fits (Ok c.in_ok-mode.mode) _ c.in_ok-mode.ensures.forward;
      };
  finds = λ meant s.
      let m = (one_move c.seek.ensures.moves meant).stays s in
      let f = first_kept Forward (At (spot (lent_key c.args.key) c.args.at))
      (g.C.Cursor.position c.seek.new.self)
      ((g.C.Cursor.holds meant) c.args.inner.now c.args.source.now)
      ((g.C.Cursor.holds meant) c.seek.new.self c.seek.new.source) m.1
      ((c.in_ok-seek.ensures.finds meant) s) in
      let a = ahead_seek c.args.at ((g.C.Cursor.holds meant) c.seek.new.self c.seek.new.source)
      c.args.kept.now.key (lent_key c.args.key) (g.C.Cursor.position c.seek.new.self) f in
      let found = (c.in_ok-mode.ensures.finds meant) (At (spot (lent_key c.args.key) c.args.at))
      (kept_entry c.args.kept.now) m.0 a in
      let late = c.is_early.ensures.late (λ h. let z = c.if-is_early.false in
      let y : IsTrue c.is_early.result = h in let x : false ≡ true = sym z ∙ y in cc) in
      found_alike c.args.at ((g.C.Cursor.holds meant) c.seek.new.self c.seek.new.source)
      ((g.C.Cursor.holds meant) c.args.inner.now c.args.source.now)
      (flip ((g.C.Cursor.holds meant) c.seek.new.self c.seek.new.source)
      ((g.C.Cursor.holds meant) c.args.inner.now c.args.source.now) m.1) Forward
      (At (spot (lent_key c.args.key) c.args.number)) (Ok c.in_ok-mode.mode)
      (g.C.Cursor.position c.find_forward.new.inner) _
      (late_found c.args.at ((g.C.Cursor.holds meant) c.seek.new.self c.seek.new.source) (lent_key
      c.args.key)
      c.args.number c.in_ok-mode.mode (g.C.Cursor.position c.find_forward.new.inner) _
      c.in_ok-mode.ensures.forward
      (λ e entry on. subst
      (λ v. IfOn v (λ r. EntryPrecedes Forward r (spot (lent_key c.args.key) c.args.number) → ⊥)) on
      (late e))
      ((c.in_ok-mode.ensures.finds meant) (At (spot (lent_key c.args.key) c.args.at)) _ m.0 a));
}

pub returns-then-is_early : goal.returns-then-is_early
returns-then-is_early g c = record {
  moved =
      let laws = g.met.C.Cursor.laws in
      let seek = c.seek.ensures in
      let last = c.find_forward-then-is_early.ensures in
      let all = shifts_behind g.C.Cursor laws c.in_ok-seek.was
      (record { moves = seek.moves; device = seek.device; causes = seek.causes })
      (shifts_behind g.C.Cursor laws c.in_ok-mode.was c.find_forward.ensures.moved
      (shifts_behind g.C.Cursor laws c.in_ok-leave.was c.leave.ensures.moved
      last.moved)) in
      record {
        moves = all.moves;
        device = all.device;
        causes = all.causes;
        unbroken = last.unbroken _;
        fits = forward_fits c.find_forward-then-is_early.result _ last.forward;
      };
  finds = λ meant s.
      let m = (one_move c.seek.ensures.moves meant).stays s in
      let f = first_kept Forward (At (spot (lent_key c.args.key) c.args.at))
      (g.C.Cursor.position c.seek.new.self)
      ((g.C.Cursor.holds meant) c.args.inner.now c.args.source.now)
      ((g.C.Cursor.holds meant) c.seek.new.self c.seek.new.source) m.1
      ((c.in_ok-seek.ensures.finds meant) s) in
      let a = ahead_seek c.args.at ((g.C.Cursor.holds meant) c.seek.new.self c.seek.new.source)
      c.args.kept.now.key (lent_key c.args.key) (g.C.Cursor.position c.seek.new.self) f in
      let found = (c.in_ok-mode.ensures.finds meant) (At (spot (lent_key c.args.key) c.args.at))
      (kept_entry c.args.kept.now) m.0 a in
      let early = c.is_early.ensures.early c.if-is_early.true in
      let r = on_row (g.C.Cursor.position c.find_forward.new.inner) early.1 in
      let here = subst (λ v. IsFirst Forward
      (λ p. IsShown c.args.at ((g.C.Cursor.holds meant) c.seek.new.self c.seek.new.source) p
      × WalkMeets
      Forward (At (spot (lent_key c.args.key) c.args.at)) p) v) r.1
      (subst (λ w. IsFirst Forward
      (λ p. IsShown c.args.at ((g.C.Cursor.holds meant) c.seek.new.self c.seek.new.source) p
      × WalkMeets
      Forward (At (spot (lent_key c.args.key) c.args.at)) p)
      (view_position w (g.C.Cursor.position c.find_forward.new.inner)
      (kept_entry c.args.kept.now))) early.0 found.0) in
      let soon = subst (λ v. IfOn v
      (λ q. EntryPrecedes Forward q (spot (lent_key c.args.key) c.args.number))) r.1 early.2 in
      let m2 = (one_move c.find_forward.ensures.moved.moves meant).stays m.0 in
      let m3 = (one_move c.leave.ensures.moved.moves meant).stays m2.0 in
      let gone = (c.in_ok-leave.ensures.leaves meant) r.0 m2.0 r.1 in
      let shown = shown_alike c.args.at ((g.C.Cursor.holds meant) c.find_forward.new.inner
      c.find_forward.new.source) ((g.C.Cursor.holds meant) c.leave.new.inner c.leave.new.source)
      m3.1
      r.0
      (shown_alike c.args.at ((g.C.Cursor.holds meant) c.seek.new.self c.seek.new.source)
      ((g.C.Cursor.holds meant) c.find_forward.new.inner c.find_forward.new.source) m2.1 r.0
      here.0.0)
      in
      let f3 = first_kept Forward (After r.0) (g.C.Cursor.position c.leave.new.inner)
      ((g.C.Cursor.holds meant) c.find_forward.new.inner c.find_forward.new.source)
      ((g.C.Cursor.holds meant) c.leave.new.inner c.leave.new.source) m3.1 gone.0 in
      let next = (c.find_forward-then-is_early.ensures.finds meant) (After r.0) _ m3.0
      (ahead_after c.args.at ((g.C.Cursor.holds meant) c.leave.new.inner c.leave.new.source) r.0 _
      (g.C.Cursor.position c.leave.new.inner) shown gone.1 f3) in
      found_alike c.args.at ((g.C.Cursor.holds meant) c.seek.new.self c.seek.new.source)
      ((g.C.Cursor.holds meant) c.args.inner.now c.args.source.now)
      (flip ((g.C.Cursor.holds meant) c.seek.new.self c.seek.new.source)
      ((g.C.Cursor.holds meant) c.args.inner.now c.args.source.now) m.1) Forward
      (At (spot (lent_key c.args.key) c.args.number)) _ _ _
      (early_found c.args.at ((g.C.Cursor.holds meant) c.seek.new.self c.seek.new.source) (lent_key
      c.args.key)
      c.args.number r.0 here.0.0 here.0.1 soon _ _ _
      (found_alike c.args.at ((g.C.Cursor.holds meant) c.find_forward.new.inner
      c.find_forward.new.source)
      ((g.C.Cursor.holds meant) c.seek.new.self c.seek.new.source)
      (flip ((g.C.Cursor.holds meant) c.find_forward.new.inner c.find_forward.new.source)
      ((g.C.Cursor.holds meant) c.seek.new.self c.seek.new.source) m2.1) Forward (After r.0) _ _ _
      (found_alike c.args.at ((g.C.Cursor.holds meant) c.leave.new.inner c.leave.new.source)
      ((g.C.Cursor.holds meant) c.find_forward.new.inner c.find_forward.new.source)
      (flip ((g.C.Cursor.holds meant) c.leave.new.inner c.leave.new.source)
      ((g.C.Cursor.holds meant) c.find_forward.new.inner c.find_forward.new.source) m3.1) Forward
      (After r.0) _ _ _ next)));
}

pub returns-in_err-seek : goal.returns-in_err-seek
returns-in_err-seek g c = grind (arith, common_steps)
