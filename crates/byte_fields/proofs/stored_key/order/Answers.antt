use Rattle.std.proofs.Common.{ℕ, List, ◌∙◌, refl, arith}
use Rattle.std.specs.Int.{w64}
use Rattle.byte_fields.proofs.Words.{eight, fewer, rest_fits, rest_decides, words_decide}
use Rattle.byte_fields.proofs.stored_key.order.Goals as goal

pub loop-x-init : goal.loop-x-init
loop-x-init c = record {
  bytes = λ i. omega (arith, c.type_inv.a i);
  others = λ i. omega (arith, c.type_inv.b i);
  order = refl;
}

pub loop-x-smaller : goal.loop-x-smaller
loop-x-smaller c =
    let read = c.in-Some-Some in
    fewer c.loop-x.bytes.now (read.x, read.rest.now) c.loop-x.invariant.bytes read.ensures

pub returns-then-x-y : goal.returns-then-x-y
returns-then-x-y c =
    let read = c.in-Some-Some in
    let so_far = c.loop-x.invariant in
    c.cmp.ensures
    ∙ words_decide w64 c.loop-x.bytes.now c.loop-x.others.now (read.x, read.rest.now)
    (read.y, read.other_rest.now) eight so_far.bytes so_far.others read.ensures read.ensures'
    c.if-x-y.true
    ∙ so_far.order

pub loop-x-preserved : goal.loop-x-preserved
loop-x-preserved c =
    let read = c.in-Some-Some in
    let so_far = c.loop-x.invariant in
    let x : ℕ × List ℕ = (read.x, read.rest.now) in
    let y : ℕ × List ℕ = (read.y, read.other_rest.now) in
    record {
      bytes = rest_fits c.loop-x.bytes.now x so_far.bytes read.ensures;
      others = rest_fits c.loop-x.others.now y so_far.others read.ensures';
      order =
          rest_decides w64 c.loop-x.bytes.now c.loop-x.others.now x y eight so_far.bytes
          so_far.others read.ensures read.ensures' c.if-x-y.false
          ∙ so_far.order;
    }

pub returns : goal.returns
returns c = c.order_four.ensures ∙ c.loop-x.invariant.order
