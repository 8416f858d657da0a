use Rattle.std.proofs.lemmas.Grind.{common_steps}
use Rattle.std.proofs.Common.{false, ◌≡◌, refl, ◌∙◌, subst, arith, Ok}
use Rattle.merge_iter.specs.Positions.{IsOn, IfOn}
use Rattle.merge_iter.specs.ShownEntries.{IsJudged, IsHidden}
use Rattle.merge_iter.specs.Moves.{law_at}
use Rattle.merge_iter.specs.Moves.{reports}
use Rattle.merge_iter.proofs.Walked.{all_itself, all_through, forward_on, shown_on, end_off}
use Rattle.merge_iter.proofs.shown.find_forward.Goals as goal

pub loop-inner-init : goal.loop-inner-init
loop-inner-init g c = record {
  moved = all_itself g.C.Cursor.holds g.C.Cursor.is_sound g.C.Cursor.suits g.C.Cursor.keeps
      g.C.Cursor.left
      g.C.Cursor.most g.met.C.Cursor.laws _ _;
  device = g.met.C.Cursor.laws.makes_itself _;
  count = refl;
  left = omega arith;
  ahead = λ meant start s a. a;
}

pub loop-inner-preserved : goal.loop-inner-preserved
loop-inner-preserved g c =
    let i = c.loop-inner.invariant in
    let on : IsOn (g.C.Cursor.position c.loop-inner.inner) =
    c.valid.ensures.0 c.loop-inner-test.true in
    let was : c.next.result ≡ Ok tt = c.in_ok-next.was in
    let less = c.in_ok-next.ensures.ends in
    let fewer = i.left in
    record {
      moved = all_through g.C.Cursor.holds g.C.Cursor.is_sound g.C.Cursor.suits g.C.Cursor.keeps
          g.C.Cursor.left
          g.C.Cursor.most g.met.C.Cursor.laws _ _ _ _ _ _ i.moved c.next.ensures.moves;
      device = g.met.C.Cursor.laws.makes_through false _ _ _ i.device
          (subst (λ r. g.C.Cursor.makes (reports r) c.loop-inner.source
          c.next.new.source) c.in_ok-next.was c.next.ensures.device);
      count = c.next.ensures.causes.others (λ e. cc) ∙ i.count;
      left = omega (arith, less, fewer);
      ahead = λ meant start s a. forward_on c.args.at ((g.C.Cursor.holds meant) c.args.inner.now
          c.args.source.now) ((g.C.Cursor.holds meant) c.loop-inner.inner c.loop-inner.source)
          (i.moved.stays meant s).1 ((law_at g.met.C.Cursor.laws meant).apart c.args.inner.now
          c.args.source.now s) start
          c.loop-inner.hiding c.is_shown.new.hides c.loop-inner.hidden
          c.is_shown.new.hidden (g.C.Cursor.position c.loop-inner.inner)
          (g.C.Cursor.position c.next.new.self) c.next.result on
          (subst (λ b. IfOn (g.C.Cursor.position c.loop-inner.inner)
          (λ entry. IsJudged c.args.at c.loop-inner.hiding c.loop-inner.hidden entry
          c.is_shown.new.hides c.is_shown.new.hidden b)) c.if-branch.false
          c.in_ok-is_shown.ensures)
          c.in_ok-next.was ((c.next.ensures.finds meant) (i.moved.stays meant s).0)
          ((i.ahead meant) start s a);
    }

pub returns-then-branch-clause-finds : goal.returns-then-branch-clause-finds
returns-then-branch-clause-finds g c meant start kept s a =
    let i = c.loop-inner.invariant in
    let on : IsOn (g.C.Cursor.position c.loop-inner.inner) =
    c.valid.ensures.0 c.loop-inner-test.true in
    shown_on c.args.at ((g.C.Cursor.holds meant) c.args.inner.now c.args.source.now) start
    c.loop-inner.hiding c.is_shown.new.hides c.loop-inner.hidden
    c.is_shown.new.hidden (g.C.Cursor.position c.loop-inner.inner) kept on
    (subst (λ b. IfOn (g.C.Cursor.position c.loop-inner.inner)
    (λ entry. IsJudged c.args.at c.loop-inner.hiding c.loop-inner.hidden entry
    c.is_shown.new.hides c.is_shown.new.hidden b)) c.if-branch.true
    c.in_ok-is_shown.ensures) ((i.ahead meant) start s a)

pub returns-clause-finds : goal.returns-clause-finds
returns-clause-finds g c meant start kept s a =
    let off : IsOn (g.C.Cursor.position c.loop-inner.inner) → ⊥ = λ on. let z =
    c.valid.ensures.1 on in let f = c.loop-inner-test.false in cc in (
      end_off c.args.at ((g.C.Cursor.holds meant) c.args.inner.now c.args.source.now) start
          (IsHidden c.loop-inner.hiding c.loop-inner.hidden)
          (g.C.Cursor.position c.loop-inner.inner) off
          ((c.loop-inner.invariant.ahead meant) start s a),
      tt,
    )

pub returns-in_err-is_shown-clause-moved : goal.returns-in_err-is_shown-clause-moved
returns-in_err-is_shown-clause-moved g c = grind (arith, common_steps)

pub returns-in_err-is_shown-clause-unbroken : goal.returns-in_err-is_shown-clause-unbroken
returns-in_err-is_shown-clause-unbroken g c = grind (arith, common_steps)

pub returns-in_err-is_shown-clause-forward : goal.returns-in_err-is_shown-clause-forward
returns-in_err-is_shown-clause-forward g c = grind (arith, common_steps)

pub returns-in_err-is_shown-clause-left : goal.returns-in_err-is_shown-clause-left
returns-in_err-is_shown-clause-left g c = grind (arith, common_steps)

pub returns-in_err-is_shown-clause-finds : goal.returns-in_err-is_shown-clause-finds
returns-in_err-is_shown-clause-finds g c = grind (arith, common_steps)

pub returns-then-branch-clause-moved : goal.returns-then-branch-clause-moved
returns-then-branch-clause-moved g c = grind (arith, common_steps)

pub returns-then-branch-clause-unbroken : goal.returns-then-branch-clause-unbroken
returns-then-branch-clause-unbroken g c = grind (arith, common_steps)

pub returns-then-branch-clause-forward : goal.returns-then-branch-clause-forward
returns-then-branch-clause-forward g c = grind (arith, common_steps)

pub returns-then-branch-clause-left : goal.returns-then-branch-clause-left
returns-then-branch-clause-left g c = grind (arith, common_steps)

pub returns-in_err-next-clause-unbroken : goal.returns-in_err-next-clause-unbroken
returns-in_err-next-clause-unbroken g c = grind (arith, common_steps)

pub returns-in_err-next-clause-forward : goal.returns-in_err-next-clause-forward
returns-in_err-next-clause-forward g c = grind (arith, common_steps)

pub returns-in_err-next-clause-left : goal.returns-in_err-next-clause-left
returns-in_err-next-clause-left g c = grind (arith, common_steps)

pub returns-in_err-next-clause-finds : goal.returns-in_err-next-clause-finds
returns-in_err-next-clause-finds g c = grind (arith, common_steps)

pub returns-clause-moved : goal.returns-clause-moved
returns-clause-moved g c = grind (arith, common_steps)

pub returns-clause-unbroken : goal.returns-clause-unbroken
returns-clause-unbroken g c = grind (arith, common_steps)

pub returns-clause-forward : goal.returns-clause-forward
returns-clause-forward g c = grind (arith, common_steps)

pub returns-clause-left : goal.returns-clause-left
returns-clause-left g c = grind (arith, common_steps)
