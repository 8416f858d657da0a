use Rattle.std.proofs.Common.{false, ◌≡◌, ◌<◌, refl, length, arith, rules, ◌∙◌, subst, Err}
use Rattle.std.proofs.lemmas.Result.{err_from_is_err_and}
use Rattle.std.proofs.lemmas.Option.{slice_get_read, slice_get_within}
use Rattle.merge_iter.specs.Positions.{At, After}
use Rattle.merge_iter.specs.Moves.{ErrorCauses}
use Rattle.merge_iter.specs.Merging.{EachChild, ChildrenAreFirst, IsOpposite}
use Rattle.merge_iter.specs.LentCursors.{AreIntact, IsIntact}
use Rattle.merge_iter.specs.Unions.{all_sound, first_kept}
use Rattle.merge_iter.specs.Moves.{one_move}
use Rattle.merge_iter.specs.Moves.{law_at}
use Rattle.merge_iter.specs.Moves.{reports}
use Rattle.merge_iter.proofs.Loops.{begins, passes, brings, move_one, tells_from}
use Rattle.merge_iter.proofs.children.turn_all.Goals as goal

pub loop-i-init : goal.loop-i-init
loop-i-init g c = record {
  passed = λ meant. begins (g.C.Cursor.holds meant)
      (g.C.Cursor.is_sound meant) g.C.Cursor.suits g.C.Cursor.keeps g.C.Cursor.left
      g.C.Cursor.most (law_at g.met.C.Cursor.laws meant) _ _;
  device = g.met.C.Cursor.laws.makes_itself _;
  count = refl;
  brought = λ meant was entry all j d l e. absurd (omega arith);
}

pub loop-i-preserved : goal.loop-i-preserved
loop-i-preserved g c =
    let i = c.loop-i.invariant in
    let w : c.loop-i.i < length c.args.children.now.items =
    search (arith, c.loop-i-test.true, c.len-i-end.ensures) in
    let at = slice_get_read c.loop-i.children.items (length c.args.children.now.items) c.loop-i.i
    c.index_mut.result.now (search
    (arith, (i.passed (g.C.Cursor.as_is c.args.source.now)).moved.len)) w
    c.index_mut.ensures.value in
    record {
      passed = λ meant. passes (g.C.Cursor.holds meant)
          (g.C.Cursor.is_sound meant) g.C.Cursor.suits g.C.Cursor.keeps g.C.Cursor.left
          g.C.Cursor.most (law_at g.met.C.Cursor.laws meant) c.args.children.now.items
          c.loop-i.children.items
          c.args.source.now c.loop-i.source c.turn.new.source c.loop-i.i c.index_mut.result.now
          c.turn.new.child at (i.passed meant) (one_move c.turn.ensures.moved.moves meant);
      device = g.met.C.Cursor.laws.makes_through false _ _ _ i.device
          (subst (λ r. g.C.Cursor.makes (reports r) c.loop-i.source
          c.turn.new.source) c.in_ok-turn.was c.turn.ensures.moved.device);
      count = c.turn.ensures.moved.causes.others (λ e. let h = c.in_ok-turn.was in cc) ∙ i.count;
      brought = λ meant was entry given.
          brings (g.C.Cursor.holds meant)
          (g.C.Cursor.is_sound meant) g.C.Cursor.suits g.C.Cursor.keeps
          g.C.Cursor.left g.C.Cursor.most g.C.Cursor.position
          (law_at g.met.C.Cursor.laws meant) c.args.way
          (After entry) (IsOpposite was c.args.way
          × (EachChild (λ d. (g.C.Cursor.is_sound meant) d c.args.source.now)
          c.args.children.now.items
          × ChildrenAreFirst (λ d. (g.C.Cursor.holds meant) d c.args.source.now) g.C.Cursor.position
          was
          (At entry) c.args.children.now.items)) c.args.children.now.items c.loop-i.children.items
          c.args.source.now c.loop-i.source c.turn.new.source c.loop-i.i c.index_mut.result.now
          c.turn.new.child c.turn.result at (i.passed meant).moved
          (one_move c.turn.ensures.moved.moves meant) c.in_ok-turn.was
          (λ have. have.1.0)
          (λ have s. (c.turn.ensures.turns meant) was entry have.0 s
          (first_kept was (At entry) (g.C.Cursor.position c.index_mut.result.now)
          ((g.C.Cursor.holds meant) c.index_mut.result.now c.args.source.now)
          ((g.C.Cursor.holds meant) c.index_mut.result.now c.loop-i.source)
          ((i.passed meant).moved.each c.loop-i.i c.index_mut.result.now c.index_mut.result.now
          ((i.passed meant).rest c.loop-i.i c.index_mut.result.now (omega arith) at) at
          (have.1.0 c.loop-i.i c.index_mut.result.now
          ((i.passed meant).rest c.loop-i.i c.index_mut.result.now (omega arith) at))).1
          (have.1.1 c.loop-i.i c.index_mut.result.now
          ((i.passed meant).rest c.loop-i.i c.index_mut.result.now (omega arith) at))))
          ((i.brought meant) was entry) given;
    }

pub returns-in_err-turn-clause-moved : goal.returns-in_err-turn-clause-moved
returns-in_err-turn-clause-moved g c =
    let i = c.loop-i.invariant in
    let w : c.loop-i.i < length c.args.children.now.items =
    search (arith, c.loop-i-test.true, c.len-i-end.ensures) in
    let at = slice_get_read c.loop-i.children.items (length c.args.children.now.items) c.loop-i.i
    c.index_mut.result.now (search
    (arith, (i.passed (g.C.Cursor.as_is c.args.source.now)).moved.len)) w
    c.index_mut.ensures.value in
    let p = err_from_is_err_and c.from_residual.result c.from_residual.ensures.1 in
    let was : c.turn.result ≡ Err c.in_err-turn.field-0.0 = c.in_err-turn.was in
    let told : c.turn.result ≡ c.from_residual.result = cc (p.1, p.2) in
    record {
      moves = λ meant.
          move_one (g.C.Cursor.holds meant)
          (g.C.Cursor.is_sound meant) g.C.Cursor.suits g.C.Cursor.keeps g.C.Cursor.left
          g.C.Cursor.most
          (law_at g.met.C.Cursor.laws meant) c.args.children.now.items c.loop-i.children.items
          c.args.source.now
          c.loop-i.source c.turn.new.source c.loop-i.i c.index_mut.result.now c.turn.new.child at
          (i.passed meant).moved (one_move c.turn.ensures.moved.moves meant);
      device = g.met.C.Cursor.laws.makes_through _ _ _ _ i.device
          (subst (λ r. g.C.Cursor.makes (reports r) c.loop-i.source c.turn.new.source) told
          c.turn.ensures.moved.device);
      causes =
          subst (λ r. ErrorCauses (AreIntact g.C.Cursor c.args.children.now.items c.args.source.now)
          ⊥
          g.C.Cursor.steps_allocate (g.C.Cursor.failures c.args.source.now)
          (g.C.Cursor.failures c.turn.new.source) r) told
          (tells_from (IsIntact g.C.Cursor c.index_mut.result.now c.loop-i.source)
          (AreIntact g.C.Cursor c.args.children.now.items c.args.source.now) _ _ _ _ i.count
          (λ all. (
            all.0,
            all_sound (g.C.Cursor.holds all.0) (g.C.Cursor.is_sound all.0)
                g.C.Cursor.suits g.C.Cursor.keeps g.C.Cursor.most c.args.children.now.items
                c.loop-i.children.items c.args.source.now c.loop-i.source
                (i.passed all.0).moved all.1
                c.loop-i.i c.index_mut.result.now at,
            g.met.C.Cursor.laws.lasts all.0
                c.args.source.now c.loop-i.source (i.passed all.0).moved.source all.2,
          ))
          c.turn.ensures.moved.causes);
    }

pub returns-clause-turns : goal.returns-clause-turns
returns-clause-turns g c meant was entry flip all first j d e =
    let w : j < length c.loop-i.children.items = slice_get_within c.loop-i.children.items j d e in
    (c.loop-i.invariant.brought meant) was entry (flip, (all, first)) j d
    (search (
      arith,
      w,
      (c.loop-i.invariant.passed meant).moved.len,
      c.len-i-end.ensures,
      c.loop-i-test.false,
    )) e

pub returns-clause-moved : goal.returns-clause-moved
returns-clause-moved g c = record {
  moves = λ meant. (c.loop-i.invariant.passed meant).moved;
  device = search rules;
  causes = search rules;
}
