use Rattle.std.proofs.Common.{◌∙◌, arith}
use Rattle.std.specs.Int.{w32}
use Rattle.byte_fields.proofs.Words.{four, rest_decides, words_decide}
use Rattle.byte_fields.proofs.stored_key.order_four.Goals as goal

pub returns-then-x-y : goal.returns-then-x-y
returns-then-x-y c =
    let read = c.in-Some-Some in
    c.cmp.ensures
    ∙ words_decide w32 c.args.a.now c.args.b.now (read.x, read.rest.now)
    (read.y, read.other_rest.now) four (λ i. omega (arith, c.type_inv.a i))
    (λ i. omega (arith, c.type_inv.b i)) read.ensures read.ensures' c.if-x-y.true

pub returns : goal.returns
returns c =
    let read = c.in-Some-Some in
    c.order_few-2.ensures
    ∙ rest_decides w32 c.args.a.now c.args.b.now (read.x, read.rest.now)
    (read.y, read.other_rest.now) four (λ i. omega (arith, c.type_inv.a i))
    (λ i. omega (arith, c.type_inv.b i)) read.ensures read.ensures' c.if-x-y.false
