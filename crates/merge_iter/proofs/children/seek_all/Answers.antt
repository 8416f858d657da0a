use Rattle.std.proofs.Common.{false, ◌≡◌, ◌<◌, refl, length, arith, rules, ◌∙◌, subst, Err}
use Rattle.std.proofs.lemmas.Result.{err_from_is_err_and}
use Rattle.std.proofs.lemmas.Option.{slice_get_read, slice_get_within}
use Rattle.byte_fields.specs.{lent_key}
use Rattle.merge_iter.specs.declared.direction.Direction.TheVariants.{Forward}
use Rattle.merge_iter.specs.Order.{spot}
use Rattle.merge_iter.specs.Positions.{At}
use Rattle.merge_iter.specs.Moves.{ErrorCauses}
use Rattle.merge_iter.specs.Merging.{EachChild}
use Rattle.merge_iter.specs.LentCursors.{AreIntact, IsIntact}
use Rattle.merge_iter.specs.Unions.{all_sound}
use Rattle.merge_iter.specs.Moves.{one_move}
use Rattle.merge_iter.specs.Moves.{law_at}
use Rattle.merge_iter.specs.Moves.{reports}
use Rattle.merge_iter.proofs.Loops.{begins, passes, brings, move_one, tells_from}
use Rattle.merge_iter.proofs.children.seek_all.Goals as goal

pub loop-i-init : goal.loop-i-init
loop-i-init g c = record {
  passed = λ meant. begins (g.C.Cursor.holds meant)
      (g.C.Cursor.is_sound meant) g.C.Cursor.suits g.C.Cursor.keeps g.C.Cursor.left
      g.C.Cursor.most (law_at g.met.C.Cursor.laws meant) _ _;
  device = g.met.C.Cursor.laws.makes_itself _;
  count = refl;
  brought = λ meant all j d l e. absurd (omega arith);
}

pub loop-i-preserved : goal.loop-i-preserved
loop-i-preserved g c =
    let i = c.loop-i.invariant in
    let w : c.loop-i.i < length c.args.children.now.items =
    search (arith, c.loop-i-test.true, c.len-i-end.ensures) in
    let at = slice_get_read c.loop-i.children.items (length c.args.children.now.items) c.loop-i.i
    c.index_mut.result.now (search
    (arith, (i.passed (g.C.Cursor.as_is c.args.source.now)).moved.len)) w
    c.index_mut.ensures.value in
    record {
      passed = λ meant. passes (g.C.Cursor.holds meant)
          (g.C.Cursor.is_sound meant) g.C.Cursor.suits g.C.Cursor.keeps g.C.Cursor.left
          g.C.Cursor.most (law_at g.met.C.Cursor.laws meant) c.args.children.now.items
          c.loop-i.children.items
          c.args.source.now c.loop-i.source c.seek.new.source c.loop-i.i c.index_mut.result.now
          c.seek.new.self at (i.passed meant) (one_move c.seek.ensures.moves meant);
      device = g.met.C.Cursor.laws.makes_through false _ _ _ i.device
          (subst (λ r. g.C.Cursor.makes (reports r) c.loop-i.source
          c.seek.new.source) c.in_ok-seek.was c.seek.ensures.device);
      count = c.seek.ensures.causes.others (λ e. let h = c.in_ok-seek.was in cc) ∙ i.count;
      brought = λ meant given. brings (g.C.Cursor.holds meant)
          (g.C.Cursor.is_sound meant) g.C.Cursor.suits g.C.Cursor.keeps
          g.C.Cursor.left g.C.Cursor.most g.C.Cursor.position
          (law_at g.met.C.Cursor.laws meant) Forward
          (At (spot (lent_key c.args.key) c.args.number))
          (EachChild (λ d. (g.C.Cursor.is_sound meant) d c.args.source.now)
          c.args.children.now.items)
          c.args.children.now.items c.loop-i.children.items c.args.source.now c.loop-i.source
          c.seek.new.source c.loop-i.i c.index_mut.result.now c.seek.new.self c.seek.result at
          (i.passed meant).moved (one_move c.seek.ensures.moves meant) c.in_ok-seek.was (λ all. all)
          (λ all s. (c.seek.ensures.finds meant) s) ((i.brought meant)) given;
    }

pub returns-in_err-seek-clause-moved : goal.returns-in_err-seek-clause-moved
returns-in_err-seek-clause-moved g c =
    let i = c.loop-i.invariant in
    let w : c.loop-i.i < length c.args.children.now.items =
    search (arith, c.loop-i-test.true, c.len-i-end.ensures) in
    let at = slice_get_read c.loop-i.children.items (length c.args.children.now.items) c.loop-i.i
    c.index_mut.result.now (search
    (arith, (i.passed (g.C.Cursor.as_is c.args.source.now)).moved.len)) w
    c.index_mut.ensures.value in
    let p = err_from_is_err_and c.from_residual.result c.from_residual.ensures.1 in
    let was : c.seek.result ≡ Err c.in_err-seek.field-0.0 = c.in_err-seek.was in
    let told : c.seek.result ≡ c.from_residual.result = cc (p.1, p.2) in
    record {
      moves = λ meant.
          move_one (g.C.Cursor.holds meant)
          (g.C.Cursor.is_sound meant) g.C.Cursor.suits g.C.Cursor.keeps g.C.Cursor.left
          g.C.Cursor.most
          (law_at g.met.C.Cursor.laws meant) c.args.children.now.items c.loop-i.children.items
          c.args.source.now
          c.loop-i.source c.seek.new.source c.loop-i.i c.index_mut.result.now c.seek.new.self at
          (i.passed meant).moved (one_move c.seek.ensures.moves meant);
      device = g.met.C.Cursor.laws.makes_through _ _ _ _ i.device
          (subst (λ r. g.C.Cursor.makes (reports r) c.loop-i.source c.seek.new.source) told
          c.seek.ensures.device);
      causes =
          subst (λ r. ErrorCauses (AreIntact g.C.Cursor c.args.children.now.items c.args.source.now)
          ⊥
          g.C.Cursor.seeks_allocate (g.C.Cursor.failures c.args.source.now)
          (g.C.Cursor.failures c.seek.new.source) r) told
          (tells_from (IsIntact g.C.Cursor c.index_mut.result.now c.loop-i.source)
          (AreIntact g.C.Cursor c.args.children.now.items c.args.source.now) _ _ _ _ i.count
          (λ all. (
            all.0,
            all_sound (g.C.Cursor.holds all.0) (g.C.Cursor.is_sound all.0)
                g.C.Cursor.suits g.C.Cursor.keeps g.C.Cursor.most c.args.children.now.items
                c.loop-i.children.items c.args.source.now c.loop-i.source
                (i.passed all.0).moved all.1
                c.loop-i.i c.index_mut.result.now at,
            g.met.C.Cursor.laws.lasts all.0
                c.args.source.now c.loop-i.source (i.passed all.0).moved.source all.2,
          ))
          c.seek.ensures.causes);
    }

pub returns-clause-finds : goal.returns-clause-finds
returns-clause-finds g c meant all j d e =
    let w : j < length c.loop-i.children.items = slice_get_within c.loop-i.children.items j d e in
    (c.loop-i.invariant.brought meant) all j d
    (search (
      arith,
      w,
      (c.loop-i.invariant.passed meant).moved.len,
      c.len-i-end.ensures,
      c.loop-i-test.false,
    )) e

pub returns-clause-moved : goal.returns-clause-moved
returns-clause-moved g c = record {
  moves = λ meant. (c.loop-i.invariant.passed meant).moved;
  device = search rules;
  causes = search rules;
}
