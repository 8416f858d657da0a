use Rattle.std.proofs.Common.{arith}
use Rattle.kv_types.specs.Content.{BatchContent}
use Rattle.kv_types.specs.BatchesLemmas.{batch_begins}
use Rattle.kv_types.proofs.Fronts.{no_batch}
use Rattle.kv_types.proofs.batch.Batch.read_from.Goals as goal

pub returns-in_default-clause-bad : goal.returns-in_default-clause-bad
returns-in_default-clause-bad c = λ _.
    no_batch c.args.bytes.now (rw c.in_default.is at c.in_ok-mark.ensures)

pub invariant_of-result : goal.invariant_of-result
invariant_of-result c =
    let batch : BatchContent = record { mark = c.in-Some.mark; content = c.in-Some.edits.items } in
    rw c.new-edits.ensures
    (batch_begins c.args.bytes.now (batch, c.in-Some.rest.now)
    (λ i. omega (arith, c.type_inv.bytes i)) (rw c.in-Some.is at c.in_ok-mark.ensures)).1

pub returns-clause-found : goal.returns-clause-found
returns-clause-found c =
    let batch : BatchContent = record { mark = c.in-Some.mark; content = c.in-Some.edits.items } in
    let front = batch_begins c.args.bytes.now (batch, c.in-Some.rest.now)
    (λ i. omega (arith, c.type_inv.bytes i)) (rw c.in-Some.is at c.in_ok-mark.ensures) in
    rw c.new-edits.ensures (front.0.parts, front.1)
