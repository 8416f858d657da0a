use Rattle.std.proofs.Common.{rules}
use Rattle.merge_iter.specs.declared.direction.Direction.TheVariants.{Backward}
use Rattle.merge_iter.specs.Positions.{After}
use Rattle.merge_iter.specs.AlikeViews.{before_alike, found_alike}
use Rattle.merge_iter.specs.Moves.{one_move}
use Rattle.merge_iter.proofs.Shifts.{shifts_behind, shifts_of}
use Rattle.merge_iter.proofs.Walked.{flip}
use Rattle.merge_iter.proofs.turns.prev_shown.Goals as goal

pub returns : goal.returns
returns g c = record {
  moved =
      let then = c.find_back.ensures.moved in
      let both = shifts_behind g.C.Cursor g.met.C.Cursor.laws c.in_ok-retreat.was
      c.retreat.ensures.moved (shifts_of g.C.Cursor then) in
      record {
        moves = both.moves;
        device = both.device;
        causes = both.causes;
        unbroken = then.unbroken;
        fits = then.fits;
      };
  left = search rules;
  finds = λ meant entry s settled on.
      let m = (one_move c.retreat.ensures.moved.moves meant).stays s in
      let b = before_alike c.args.at ((g.C.Cursor.holds meant) c.args.inner.now c.args.source.now)
      ((g.C.Cursor.holds meant) c.retreat.new.inner c.retreat.new.source) m.1 Backward (After entry)
      (g.C.Cursor.position c.retreat.new.inner)
      ((c.in_ok-retreat.ensures.retreats meant) c.args.at entry
      s settled on) in
      found_alike c.args.at ((g.C.Cursor.holds meant) c.retreat.new.inner c.retreat.new.source)
      ((g.C.Cursor.holds meant) c.args.inner.now c.args.source.now)
      (flip ((g.C.Cursor.holds meant) c.retreat.new.inner c.retreat.new.source)
      ((g.C.Cursor.holds meant) c.args.inner.now c.args.source.now) m.1) Backward
      (After entry) _ _ _
      ((c.find_back.ensures.finds meant) (After entry) m.0 b);
}
