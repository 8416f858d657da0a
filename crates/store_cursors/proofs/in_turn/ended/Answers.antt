use Rattle.std.proofs.Common.{◌+◌, ◌-◌, ◌/◌, arith, length, refl}
use Rattle.std.proofs.lemmas.Option.{slice_get_read}
use Rattle.byte_fields.specs.{lent_key}
use Rattle.store_cursors.proofs.ChildMoves.{ended_more, half}
use Rattle.store_cursors.proofs.in_turn.ended.Goals as goal

pub loop-low-init : goal.loop-low-init
loop-low-init g c = record {
  order = omega arith;
  within = let n = c.len-high.ensures in omega (arith, n);
  ended = λ meant source each ordered i x lt. absurd (omega (arith, lt));
}

pub index-requires : goal.index-requires
index-requires g c =
    let lt = half c.loop-low.low c.loop-low.high c.loop-low-test.true in
    let le = c.loop-low.invariant.within in
    search (arith, lt, le)

pub loop-low-preserved-then-ends_before : goal.loop-low-preserved-then-ends_before
loop-low-preserved-then-ends_before g c =
    let items = c.args.children.now.items in
    let i = c.loop-low.invariant in
    let lt = half c.loop-low.low c.loop-low.high c.loop-low-test.true in
    let le = i.within in
    let mid = c.loop-low.low + (c.loop-low.high - c.loop-low.low) / 2 in
    let at = slice_get_read items (length items) mid c.index.result.now refl
    (omega (arith, lt, le)) c.index.ensures in
    record {
      order = omega (arith, lt);
      within = le;
      ended = λ meant source each ordered. ended_more (λ x. g.C.Cursor.holds meant x source) items
          ordered (lent_key c.args.key) mid c.index.result.now at
          (c.ends_before.ensures meant source c.if-ends_before.true
          (each mid c.index.result.now at));
    }

pub loop-low-preserved : goal.loop-low-preserved
loop-low-preserved g c =
    let i = c.loop-low.invariant in
    let lt = half c.loop-low.low c.loop-low.high c.loop-low-test.true in
    let le = i.within in
    record {
      order = omega arith;
      within = omega (arith, lt, le);
      ended = i.ended;
    }

pub returns-clause-within : goal.returns-clause-within
returns-clause-within g c =
    let a = c.loop-low.invariant.within in
    let b = c.loop-low.invariant.order in
    omega (arith, a, b)

pub returns-clause-ended : goal.returns-clause-ended
returns-clause-ended g c = c.loop-low.invariant.ended
