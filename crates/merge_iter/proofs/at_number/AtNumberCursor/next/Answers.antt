use Rattle.std.proofs.Common.{arith}
use Rattle.std.proofs.lemmas.Grind.{common_steps}
use Rattle.std.proofs.Common.{◌+◌, Ok, ap, rules, subst, sym}
use Rattle.merge_iter.specs.KeptEntries.{kept_entry}
use Rattle.merge_iter.specs.Positions.{After, IfOn}
use Rattle.merge_iter.specs.Moves.{MoveFinds}
use Rattle.kv_types.specs.{IsShown}
use Rattle.merge_iter.specs.ShownEntries.{view_position}
use Rattle.merge_iter.specs.AlikeViews.{all_shown_alike, settled_alike}
use Rattle.merge_iter.specs.declared.direction.Direction.TheVariants.{Forward}
use Rattle.merge_iter.proofs.Walked.{on_row}
use Rattle.merge_iter.proofs.at_number.AtNumberCursor.next.Goals as goal

pub returns : goal.returns
returns g c = record {
  moves = record {
    source = c.next_shown.ensures.moved.moves.source;
    stays = λ meant h.
        let on = on_row _ (c.valid.ensures.0 c.if-not-valid.false) in
        let found = c.in_ok-self.ensures.finds meant on.0 h.0 h.1 on.1 in
        let stays = c.next_shown.ensures.moved.moves.stays meant h.0 in (
          (
            stays.0,
            settled_alike c.args.self.now.at (g.C.Cursor.holds meant c.args.self.now.inner
                c.args.source.now) (g.C.Cursor.holds meant c.next_shown.new.inner
                c.next_shown.new.source) stays.1 _ _ _ found.1,
          ),
          all_shown_alike c.args.self.now.at (g.C.Cursor.holds meant c.args.self.now.inner
              c.args.source.now) (g.C.Cursor.holds meant c.next_shown.new.inner
              c.next_shown.new.source) stays.1,
          stays.2,
        );
    size = ap (λ n. n + 2) c.next_shown.ensures.moved.moves.size;
  };
  device = search rules;
  causes = search rules;
  broken = search rules;
  ends = search rules;
  finds = λ meant h.
      let on = on_row _ (c.valid.ensures.0 c.if-not-valid.false) in
      let found = c.in_ok-self.ensures.finds meant on.0 h.0 h.1 on.1 in
      subst (λ s. IfOn s (λ entry. MoveFinds {R = Unit {0}} Forward (After entry)
      (IsShown c.args.self.now.at (g.C.Cursor.holds meant c.args.self.now.inner c.args.source.now))
      (Ok tt) (view_position c.in_ok-self.field-0 (g.C.Cursor.position c.next_shown.new.inner)
      (kept_entry c.next_shown.new.kept)))) (sym on.1) found.0;
}

pub returns-then-not-valid : goal.returns-then-not-valid
returns-then-not-valid g c = grind (arith, common_steps)

pub returns-in_err-self : goal.returns-in_err-self
returns-in_err-self g c = grind (arith, common_steps)
