use Rattle.std.proofs.Common.{◌≡◌, refl, inr, Some, None, ap, ◌∙◌, arith}
use Rattle.kv_types.specs.Content.{BatchContent}
use Rattle.kv_types.specs.Reading.{batch_of}
use Rattle.kv_types.specs.BatchesLemmas.{batch_is, batch_again}
use Rattle.kv_types.proofs.batch.Batch.from_bytes.Goals as goal

pub returns-in_default-clause-refused : goal.returns-in_default-clause-refused
returns-in_default-clause-refused c = inr (
  refl,
  λ batch fits spelled.
      let none : batch_of c.args.bytes.now ≡ None =
      rw c.in_default.is at c.in_ok-mark.ensures in
      let some : batch_of c.args.bytes.now ≡ Some batch =
      ap batch_of spelled ∙ batch_again batch fits in
      absurd cc,
)

pub invariant_of-result : goal.invariant_of-result
invariant_of-result c =
    let batch : BatchContent = record { mark = c.in-Some.mark; content = c.in-Some.edits.items } in
    rw c.new-edits.ensures
    (batch_is c.args.bytes.now batch (λ i. omega (arith, c.type_inv.bytes i))
    (rw c.in-Some.is at c.in_ok-mark.ensures)).0

pub returns-clause-spelled : goal.returns-clause-spelled
returns-clause-spelled c =
    let batch : BatchContent = record { mark = c.in-Some.mark; content = c.in-Some.edits.items } in
    rw c.new-edits.ensures
    (batch_is c.args.bytes.now batch (λ i. omega (arith, c.type_inv.bytes i))
    (rw c.in-Some.is at c.in_ok-mark.ensures)).1
