use Rattle.std.proofs.Common.{Ok, ◌+◌, ◌-◌, arith, inl, inr}
use Rattle.std.proofs.lemmas.Bool.{both_ways}
use Rattle.compaction.proofs.Advances.{advances_as, advances_none, advances_steps, advances_then}
use Rattle.compaction.proofs.Advances.{answers_nothing, same_refusal}
use Rattle.compaction.proofs.walking.write_some.Goals as goal

pub loop-left-init : goal.loop-left-init
loop-left-init g c = record {
  few = omega arith;
  advances = advances_steps _ _ c.args.tables 0 (c.args.count - c.args.count) (omega arith)
      (advances_none _ _ c.args.tables c.args.files.now c.args.next_file.now c.args.union.now
      c.args.writer.now);
}

pub returns-in_err-write_next : goal.returns-in_err-write_next
returns-in_err-write_next g c = (
  (c.args.count - c.loop-left.left) + 1,
  let few = c.loop-left.invariant.few in
      let some = c.loop-left-test.true in
      omega (arith, few, some),
  advances_then _ _ c.args.tables c.args.files.now c.args.next_file.now c.args.union.now
      c.args.writer.now c.loop-left.files c.loop-left.next_file c.loop-left.union
      c.loop-left.writer c.write_next.new.files c.write_next.new.next_file c.write_next.new.union
      c.write_next.new.writer (c.args.count - c.loop-left.left) 1 c.loop-left.invariant.advances
      c.from_residual.result
      (advances_as _ _ c.args.tables c.write_next.result c.from_residual.result
      (same_refusal c.write_next.result c.in_err-write_next.field-0.0 c.from_residual.result
      c.in_err-write_next.was c.from_residual.ensures.1) c.write_next.ensures),
  answers_nothing _ _ c.from_residual.result c.from_residual.ensures.1,
)

pub loop-left-preserved : goal.loop-left-preserved
loop-left-preserved g c =
    let few = c.loop-left.invariant.few in
    let some = c.loop-left-test.true in
    record {
      few = omega (arith, few);
      advances = advances_steps _ _ c.args.tables ((c.args.count - c.loop-left.left) + 1) _
          (omega (arith, few, some))
          (advances_then _ _ c.args.tables c.args.files.now c.args.next_file.now c.args.union.now
          c.args.writer.now c.loop-left.files c.loop-left.next_file c.loop-left.union
          c.loop-left.writer c.write_next.new.files c.write_next.new.next_file
          c.write_next.new.union c.write_next.new.writer (c.args.count - c.loop-left.left) 1
          c.loop-left.invariant.advances (Ok tt)
          (advances_as _ _ c.args.tables c.write_next.result (Ok tt) c.in_ok-write_next.was
          c.write_next.ensures));
    }

pub returns-else-valid : goal.returns-else-valid
returns-else-valid g c = (
  c.args.count - c.loop-left.left,
  omega arith,
  c.loop-left.invariant.advances,
  inr (λ on. both_ways _ c.if-valid.false (c.valid.ensures.1 on)),
)

pub returns-after-loop-left : goal.returns-after-loop-left
returns-after-loop-left g c =
    let last = c.loop-left-test.false in (
      c.args.count - c.loop-left.left,
      omega arith,
      c.loop-left.invariant.advances,
      inl (omega (arith, last)),
    )
