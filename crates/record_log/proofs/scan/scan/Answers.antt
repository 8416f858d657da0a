use Rattle.std.proofs.Common.{refl}
use Rattle.record_log.proofs.Fronts.{front_closed, stands_behind, passed_push}
use Rattle.record_log.proofs.scan.scan.Goals as goal

-- the bytes of records have the remaining records behind those that were passed
pub returns-in-Err : goal.returns-in-Err
returns-in-Err c = λ records s.
    let passed = c.loop-ends.invariant in
    let rest = c.loop-ends.rest.now in
    let more = stands_behind c.args.bytes.now passed.records rest records passed.front s in
    c.in-Err.ensures.malformed refl more.0 more.2

-- a closed gate ends those that were passed
pub returns-in-Ok-None : goal.returns-in-Ok-None
returns-in-Ok-None c =
    let passed = c.loop-ends.invariant in
    let closed = rw c.in-Ok-None.field-0-is at c.in-Ok-None.ensures in
    let stands = front_closed c.args.bytes.now passed.records c.loop-ends.rest.now passed.front
    closed.first in
    (passed.records, stands, passed.ends_are, passed.end_is)

-- the record at the front of the rest is one more
pub loop-ends-preserved : goal.loop-ends-preserved
loop-ends-preserved c =
    let first = rw c.in-Ok-Some.field-0-is at c.in-Ok-Some.ensures in
    let passed = passed_push c.args.bytes.now c.loop-ends.rest.now c.loop-ends.ends.items
    c.loop-ends.end c.loop-ends.invariant c.in-Ok-Some._record.now c.in-Ok-Some.after.now
    c.saturating_sub-end.result first.first.0 first.first.1 c.saturating_sub-end.ensures in
    rw c.in_ok-push-in-Ok-Some.ensures.items passed
