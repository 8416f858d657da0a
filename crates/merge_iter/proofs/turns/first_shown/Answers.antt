use Rattle.merge_iter.specs.declared.direction.Direction.TheVariants.{Forward}
use Rattle.merge_iter.specs.Positions.{AtEnd}
use Rattle.merge_iter.specs.Unions.{first_kept}
use Rattle.merge_iter.proofs.ForwardSearches.{ahead_first}
use Rattle.merge_iter.specs.AlikeViews.{found_alike}
use Rattle.merge_iter.specs.Moves.{one_move}
use Rattle.merge_iter.proofs.Shifts.{forward_fits, shifts_behind}
use Rattle.merge_iter.proofs.Walked.{flip}
use Rattle.merge_iter.proofs.turns.first_shown.Goals as goal

pub returns : goal.returns
returns g c = record {
  moved =
      let first = c.first.ensures in
      let then = c.find_forward.ensures in
      let both = shifts_behind g.C.Cursor g.met.C.Cursor.laws c.in_ok-first.was
      (record { moves = first.moves; device = first.device; causes = first.causes }) then.moved in
      record {
        moves = both.moves;
        device = both.device;
        causes = both.causes;
        unbroken = then.unbroken _;
        fits = forward_fits c.find_forward.result _ then.forward;
      };
  finds = λ meant s.
      let m = (one_move c.first.ensures.moves meant).stays s in
      let f = first_kept Forward AtEnd (g.C.Cursor.position c.first.new.self)
      ((g.C.Cursor.holds meant) c.args.inner.now c.args.source.now)
      ((g.C.Cursor.holds meant) c.first.new.self
      c.first.new.source) m.1 ((c.in_ok-first.ensures.finds meant) s) in
      found_alike c.args.at ((g.C.Cursor.holds meant) c.first.new.self c.first.new.source)
      ((g.C.Cursor.holds meant) c.args.inner.now c.args.source.now)
      (flip ((g.C.Cursor.holds meant) c.first.new.self c.first.new.source)
      ((g.C.Cursor.holds meant) c.args.inner.now c.args.source.now) m.1) Forward AtEnd _ _ _
      ((c.find_forward.ensures.finds meant) AtEnd _ m.0
      (ahead_first c.args.at ((g.C.Cursor.holds meant) c.first.new.self c.first.new.source)
      c.args.kept.now.key (g.C.Cursor.position c.first.new.self) f));
}
