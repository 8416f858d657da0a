use Rattle.std.proofs.lemmas.Grind.{common_steps}
use Rattle.std.proofs.Common.{◌≡◌, refl, ◌∙◌, subst, arith, rules, true, false, Ok}
use Rattle.merge_iter.specs.Positions.{IsOn, IfOn}
use Rattle.merge_iter.specs.ShownEntries.{IsJudgedBack}
use Rattle.merge_iter.specs.KeptEntries.{kept_entry}
use Rattle.merge_iter.specs.Moves.{law_at}
use Rattle.merge_iter.specs.Moves.{reports}
use Rattle.merge_iter.proofs.Walked.{all_itself, all_through, back_on, left_on, back_end}
use Rattle.merge_iter.proofs.KeptLimits.{back_fits, left_fits}
use Rattle.merge_iter.proofs.shown.find_back.Goals as goal

pub loop-inner-init : goal.loop-inner-init
loop-inner-init g c = record {
  moved = all_itself g.C.Cursor.holds g.C.Cursor.is_sound g.C.Cursor.suits g.C.Cursor.keeps
      g.C.Cursor.left
      g.C.Cursor.most g.met.C.Cursor.laws _ _;
  device = g.met.C.Cursor.laws.makes_itself _;
  count = refl;
  left = omega arith;
  less = λ e. let z : false ≡ true = e in cc;
  fits = λ e. let z : false ≡ true = e in cc;
  way = λ meant start s a. a;
}

pub loop-inner-preserved : goal.loop-inner-preserved
loop-inner-preserved g c =
    let i = c.loop-inner.invariant in
    let on : IsOn (g.C.Cursor.position c.loop-inner.inner) =
    c.valid.ensures.0 c.loop-inner-test.true in
    let was : c.prev.result ≡ Ok tt = c.in_ok-prev.was in
    let less = c.in_ok-prev.ensures.ends in
    let fewer = i.left in
    record {
      moved = all_through g.C.Cursor.holds g.C.Cursor.is_sound g.C.Cursor.suits g.C.Cursor.keeps
          g.C.Cursor.left
          g.C.Cursor.most g.met.C.Cursor.laws _ _ _ _ _ _ i.moved c.prev.ensures.moves;
      device = g.met.C.Cursor.laws.makes_through false _ _ _ i.device
          (subst (λ r. g.C.Cursor.makes (reports r) c.loop-inner.source
          c.prev.new.source) c.in_ok-prev.was c.prev.ensures.device);
      count = c.prev.ensures.causes.others (λ e. cc) ∙ i.count;
      left = omega (arith, less, fewer);
      less = λ e. omega (arith, less, fewer);
      fits = back_fits c.args.at c.loop-inner.found (kept_entry c.loop-inner.kept)
          c.is_left.new.found (kept_entry c.is_left.new.kept)
          (g.C.Cursor.position c.loop-inner.inner) on (g.met.C.Cursor.fits c.loop-inner.inner)
          (subst (λ b. IfOn (g.C.Cursor.position c.loop-inner.inner)
          (λ entry. IsJudgedBack c.args.at c.loop-inner.found (kept_entry c.loop-inner.kept)
          entry c.is_left.new.found (kept_entry c.is_left.new.kept) b)) c.if-branch.false
          c.in_ok-is_left.ensures) i.fits;
      way = λ meant start s a. back_on c.args.at
          ((g.C.Cursor.holds meant) c.args.inner.now c.args.source.now)
          ((g.C.Cursor.holds meant) c.loop-inner.inner c.loop-inner.source)
          (i.moved.stays meant s).1
          ((law_at g.met.C.Cursor.laws meant).apart c.args.inner.now c.args.source.now s) start
          c.loop-inner.found
          c.is_left.new.found (kept_entry c.loop-inner.kept) (kept_entry c.is_left.new.kept)
          (g.C.Cursor.position c.loop-inner.inner) (g.C.Cursor.position c.prev.new.self)
          c.prev.result on
          (subst (λ b. IfOn (g.C.Cursor.position c.loop-inner.inner)
          (λ entry. IsJudgedBack c.args.at c.loop-inner.found (kept_entry c.loop-inner.kept)
          entry c.is_left.new.found (kept_entry c.is_left.new.kept) b)) c.if-branch.false
          c.in_ok-is_left.ensures)
          c.in_ok-prev.was ((c.prev.ensures.finds meant) (i.moved.stays meant s).0)
          ((i.way meant) start s a);
    }

pub returns-then-branch-clause-finds : goal.returns-then-branch-clause-finds
returns-then-branch-clause-finds g c meant start s a =
    let i = c.loop-inner.invariant in
    let on : IsOn (g.C.Cursor.position c.loop-inner.inner) =
    c.valid.ensures.0 c.loop-inner-test.true in
    left_on c.args.at ((g.C.Cursor.holds meant) c.args.inner.now c.args.source.now) start
    c.loop-inner.found
    c.is_left.new.found (kept_entry c.loop-inner.kept) (kept_entry c.is_left.new.kept)
    (g.C.Cursor.position c.loop-inner.inner) on
    (subst (λ b. IfOn (g.C.Cursor.position c.loop-inner.inner)
    (λ entry. IsJudgedBack c.args.at c.loop-inner.found (kept_entry c.loop-inner.kept) entry
    c.is_left.new.found (kept_entry c.is_left.new.kept) b)) c.if-branch.true
    c.in_ok-is_left.ensures) ((i.way meant) start s a)

pub returns-then-branch-clause-moved : goal.returns-then-branch-clause-moved
returns-then-branch-clause-moved g c = record {
  moves = search rules;
  device = search rules;
  causes = search rules;
  unbroken = search rules;
  fits = λ kept.
      let i = c.loop-inner.invariant in
      left_fits c.args.at c.loop-inner.found (kept_entry c.loop-inner.kept) c.is_left.new.found
      (kept_entry c.is_left.new.kept) (g.C.Cursor.position c.loop-inner.inner)
      (c.valid.ensures.0 c.loop-inner-test.true)
      (subst (λ b. IfOn (g.C.Cursor.position c.loop-inner.inner)
      (λ entry. IsJudgedBack c.args.at c.loop-inner.found (kept_entry c.loop-inner.kept) entry
      c.is_left.new.found (kept_entry c.is_left.new.kept) b)) c.if-branch.true
      c.in_ok-is_left.ensures) i.fits;
}

pub returns-then-found-clause-finds : goal.returns-then-found-clause-finds
returns-then-found-clause-finds g c meant start s a =
    let off : IsOn (g.C.Cursor.position c.loop-inner.inner) → ⊥ = λ on. let z =
    c.valid.ensures.1 on in let f = c.loop-inner-test.false in cc in
    (back_end c.args.at ((g.C.Cursor.holds meant) c.args.inner.now c.args.source.now) start
    c.loop-inner.found (kept_entry c.loop-inner.kept) (g.C.Cursor.position c.loop-inner.inner)
    off ((c.loop-inner.invariant.way meant) start s a)).0 c.if-found.true

pub returns-else-found-clause-finds : goal.returns-else-found-clause-finds
returns-else-found-clause-finds g c meant start s a =
    let off : IsOn (g.C.Cursor.position c.loop-inner.inner) → ⊥ = λ on. let z =
    c.valid.ensures.1 on in let f = c.loop-inner-test.false in cc in (
      (back_end c.args.at ((g.C.Cursor.holds meant) c.args.inner.now c.args.source.now) start
          c.loop-inner.found (kept_entry c.loop-inner.kept) (g.C.Cursor.position c.loop-inner.inner)
          off ((c.loop-inner.invariant.way meant) start s a)).1 c.if-found.false,
      tt,
    )

pub returns-in_err-is_left-clause-moved : goal.returns-in_err-is_left-clause-moved
returns-in_err-is_left-clause-moved g c = grind (arith, common_steps)

pub returns-in_err-is_left-clause-left : goal.returns-in_err-is_left-clause-left
returns-in_err-is_left-clause-left g c = grind (arith, common_steps)

pub returns-in_err-is_left-clause-finds : goal.returns-in_err-is_left-clause-finds
returns-in_err-is_left-clause-finds g c = grind (arith, common_steps)

pub returns-then-branch-clause-left : goal.returns-then-branch-clause-left
returns-then-branch-clause-left g c = grind (arith, common_steps)

pub returns-in_err-prev-clause-left : goal.returns-in_err-prev-clause-left
returns-in_err-prev-clause-left g c = grind (arith, common_steps)

pub returns-in_err-prev-clause-finds : goal.returns-in_err-prev-clause-finds
returns-in_err-prev-clause-finds g c = grind (arith, common_steps)

pub returns-then-found-clause-moved : goal.returns-then-found-clause-moved
returns-then-found-clause-moved g c = grind (arith, common_steps)

pub returns-then-found-clause-left : goal.returns-then-found-clause-left
returns-then-found-clause-left g c = grind (arith, common_steps)

pub returns-else-found-clause-moved : goal.returns-else-found-clause-moved
returns-else-found-clause-moved g c = grind (arith, common_steps)

pub returns-else-found-clause-left : goal.returns-else-found-clause-left
returns-else-found-clause-left g c = grind (arith, common_steps)
