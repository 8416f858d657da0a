use Rattle.merge_iter.specs.declared.direction.Direction.TheVariants.{Backward}
use Rattle.merge_iter.specs.Positions.{AtEnd}
use Rattle.merge_iter.specs.Unions.{first_kept}
use Rattle.merge_iter.proofs.ForwardSearches.{before_of}
use Rattle.merge_iter.specs.AlikeViews.{found_alike}
use Rattle.merge_iter.specs.Moves.{one_move}
use Rattle.merge_iter.proofs.Shifts.{shifts_behind, shifts_of}
use Rattle.merge_iter.proofs.Walked.{flip}
use Rattle.merge_iter.proofs.turns.last_shown.Goals as goal

pub returns : goal.returns
returns g c = record {
  moved =
      let last = c.last.ensures in
      let then = c.find_back.ensures.moved in
      let both = shifts_behind g.C.Cursor g.met.C.Cursor.laws c.in_ok-last.was
      (record { moves = last.moves; device = last.device; causes = last.causes })
      (shifts_of g.C.Cursor then) in
      record {
        moves = both.moves;
        device = both.device;
        causes = both.causes;
        unbroken = then.unbroken;
        fits = then.fits;
      };
  finds = λ meant s.
      let m = (one_move c.last.ensures.moves meant).stays s in
      let f = first_kept Backward AtEnd (g.C.Cursor.position c.last.new.self)
      ((g.C.Cursor.holds meant) c.args.inner.now c.args.source.now)
      ((g.C.Cursor.holds meant) c.last.new.self c.last.new.source) m.1
      ((c.in_ok-last.ensures.finds meant) s) in
      found_alike c.args.at ((g.C.Cursor.holds meant) c.last.new.self c.last.new.source)
      ((g.C.Cursor.holds meant) c.args.inner.now c.args.source.now)
      (flip ((g.C.Cursor.holds meant) c.last.new.self c.last.new.source)
      ((g.C.Cursor.holds meant) c.args.inner.now c.args.source.now) m.1) Backward AtEnd _ _ _
      ((c.find_back.ensures.finds meant) AtEnd m.0
      (before_of c.args.at ((g.C.Cursor.holds meant) c.last.new.self c.last.new.source) Backward
      AtEnd
      (g.C.Cursor.position c.last.new.self) f));
}
