use Rattle.std.proofs.Common.{◌<◌, subst, sym, IsTrue, arith}
use Rattle.std.specs.List.{sum_by}
use Rattle.merge_iter.specs.LentCursors.{StepsChildren}
use Rattle.merge_iter.proofs.Loops.{across, always_ok}
use Rattle.merge_iter.specs.Unions.{left_all}
use Rattle.merge_iter.proofs.children.advance.Goals as goal

pub returns-then-is_same-clause-steps : goal.returns-then-is_same-clause-steps
returns-then-is_same-clause-steps g c =
    subst (λ was. StepsChildren g.C.Cursor was c.args.way c.args.k c.args.children.now.items
    c.args.source.now c.step_at.new.children.items c.step_at.new.source c.step_at.result)
    (sym (c.is_same.ensures.same.0 c.if-is_same.true)) c.step_at.ensures.steps

pub returns-else-is_same-clause-steps : goal.returns-else-is_same-clause-steps
returns-else-is_same-clause-steps g c = record {
  moved = c.turn_all.ensures.moved;
  ends =
      let e = across g.C.Cursor.left g.C.Cursor.most c.args.was c.args.way c.args.children.now.items
      (λ h. let f = c.if-is_same.false in let t : IsTrue c.is_same.result =
      c.is_same.ensures.same.1 h in cc) in
      let l = left_all g.C.Cursor.left g.C.Cursor.most g.met.C.Cursor.laws.within c.args.way
      c.turn_all.new.children.items in
      let z = (c.turn_all.ensures.moved.moves (g.C.Cursor.as_is c.args.source.now)).size in
      always_ok c.turn_all.result
      (subst (λ n. sum_by (λ d. g.C.Cursor.left d c.args.way) c.turn_all.new.children.items < n)
      (sym e) (omega (arith, l, z)));
  ahead = λ meant x entry at on apart all first.
      c.turn_all.ensures.turns meant c.args.was entry
      (c.is_same.ensures.turned (λ h. let f = c.if-is_same.false in
      let t : IsTrue c.is_same.result = h in cc)) all first;
}

pub returns-then-is_same-clause-others : goal.returns-then-is_same-clause-others
returns-then-is_same-clause-others g c same = c.step_at.ensures.others

pub returns-else-is_same-clause-others : goal.returns-else-is_same-clause-others
returns-else-is_same-clause-others g c same =
    let f = c.if-is_same.false in
    let t : IsTrue c.is_same.result = c.is_same.ensures.same.1 same in
    cc
