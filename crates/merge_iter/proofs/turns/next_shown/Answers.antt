use Rattle.std.proofs.lemmas.Grind.{common_steps}
use Rattle.std.proofs.Common.{◌<◌, inl, inr, arith}
use Rattle.merge_iter.specs.declared.direction.Direction.TheVariants.{Forward}
use Rattle.merge_iter.specs.Positions.{After}
use Rattle.merge_iter.specs.KeptEntries.{kept_entry}
use Rattle.merge_iter.specs.Unions.{first_kept}
use Rattle.merge_iter.proofs.ForwardSearches.{ahead_after}
use Rattle.merge_iter.proofs.SeekSearches.{shown_of}
use Rattle.merge_iter.specs.AlikeViews.{shown_alike, found_alike}
use Rattle.merge_iter.specs.Moves.{one_move}
use Rattle.merge_iter.proofs.Shifts.{forward_fits, shifts_behind}
use Rattle.merge_iter.proofs.Walked.{flip, below}
use Rattle.merge_iter.specs.ShownEntries.{left_in}
use Rattle.merge_iter.proofs.turns.next_shown.Goals as goal

pub returns : goal.returns
returns g c = record {
  moved =
      let then = c.find_forward.ensures in
      let laws = g.met.C.Cursor.laws in
      let all = shifts_behind g.C.Cursor laws c.in_ok-return_to.was
      c.return_to.ensures.moved (shifts_behind g.C.Cursor laws c.in_ok-leave.was
      c.leave.ensures.moved then.moved) in
      record {
        moves = all.moves;
        device = all.device;
        causes = all.causes;
        unbroken = then.unbroken _;
        fits = forward_fits c.find_forward.result _ then.forward;
      };
  left =
      let fewer = c.in_ok-leave.ensures.fewer in
      let most = c.in_ok-return_to.ensures.left in
      let less : g.C.Cursor.left c.leave.new.inner Forward < left_in
      (g.C.Cursor.left c.args.inner.now) (g.C.Cursor.most c.args.inner.now) c.args.mode Forward =
      elim c.in_ok-return_to.ensures.ready [
        | inl on ↦ let l = c.in_ok-leave.ensures.left on in omega (arith, l, most)
        | inr l ↦ omega (arith, l, fewer)
      ] in
      below c.find_forward.result (λ m. left_in (g.C.Cursor.left c.find_forward.new.inner)
      (g.C.Cursor.most c.find_forward.new.inner) m Forward) _ _ c.find_forward.ensures.left less;
  finds = λ meant entry s settled on.
      let m = (one_move c.return_to.ensures.moved.moves meant).stays s in
      let n = (one_move c.leave.ensures.moved.moves meant).stays m.0 in
      let here = (c.in_ok-return_to.ensures.returns meant) c.args.at entry s settled on in
      let gone = (c.in_ok-leave.ensures.leaves meant) entry m.0 here in
      let shown = shown_alike c.args.at ((g.C.Cursor.holds meant) c.return_to.new.inner
      c.return_to.new.source) ((g.C.Cursor.holds meant) c.leave.new.inner c.leave.new.source) n.1
      entry
      (shown_alike c.args.at ((g.C.Cursor.holds meant) c.args.inner.now c.args.source.now)
      ((g.C.Cursor.holds meant) c.return_to.new.inner c.return_to.new.source) m.1 entry
      (shown_of c.args.at ((g.C.Cursor.holds meant) c.args.inner.now c.args.source.now) c.args.mode
      (g.C.Cursor.position c.args.inner.now) (kept_entry c.args.kept.now) entry settled on)) in
      let f = first_kept Forward (After entry) (g.C.Cursor.position c.leave.new.inner)
      ((g.C.Cursor.holds meant) c.return_to.new.inner c.return_to.new.source)
      ((g.C.Cursor.holds meant) c.leave.new.inner c.leave.new.source) n.1 gone.0 in
      let found = (c.find_forward.ensures.finds meant) (After entry) _ n.0
      (ahead_after c.args.at ((g.C.Cursor.holds meant) c.leave.new.inner c.leave.new.source) entry _
      (g.C.Cursor.position c.leave.new.inner) shown gone.1 f) in
      found_alike c.args.at ((g.C.Cursor.holds meant) c.return_to.new.inner c.return_to.new.source)
      ((g.C.Cursor.holds meant) c.args.inner.now c.args.source.now)
      (flip ((g.C.Cursor.holds meant) c.return_to.new.inner c.return_to.new.source)
      ((g.C.Cursor.holds meant) c.args.inner.now c.args.source.now) m.1) Forward (After entry) _ _ _
      (found_alike c.args.at ((g.C.Cursor.holds meant) c.leave.new.inner c.leave.new.source)
      ((g.C.Cursor.holds meant) c.return_to.new.inner c.return_to.new.source)
      (flip ((g.C.Cursor.holds meant) c.leave.new.inner c.leave.new.source)
      ((g.C.Cursor.holds meant) c.return_to.new.inner c.return_to.new.source) n.1) Forward
      (After entry) _
      _ _ found);
}

pub returns-in_err-return_to : goal.returns-in_err-return_to
returns-in_err-return_to g c = grind (arith, common_steps)
