use Rattle.std.proofs.Common.{◌≡◌, ◌++◌, ◌∷◌, []}
use Rattle.byte_fields.specs.{many}
use Rattle.byte_fields.specs.LoopLemmas.{reads_next, is_done, none_read}
use Rattle.kv_types.specs.Reading.{edit_at}
use Rattle.kv_types.proofs.reading.edits_in.Goals as goal

pub returns-in_default : goal.returns-in_default
returns-in_default c =
    none_read edit_at c.loop.edits.items c.args.count c.loop.counter c.loop.rest.now
    (many edit_at c.args.count c.args.bytes.now) c.loop-test.true
    (rw c.in_default.is at c.in_ok-edit.ensures) c.loop.invariant

pub loop-preserved : goal.loop-preserved
loop-preserved c =
    let e : c.push.new.self.items ≡ c.loop.edits.items ++ c.in-Some.edit ∷ [] =
    c.in_ok-push.ensures.items in
    rw e (reads_next edit_at c.loop.edits.items c.args.count c.loop.counter c.loop.rest.now
    c.in-Some.edit c.in-Some.after.now
    (many edit_at c.args.count c.args.bytes.now) c.loop-test.true
    (rw c.in-Some.is at c.in_ok-edit.ensures) c.loop.invariant)

pub returns : goal.returns
returns c = is_done edit_at c.loop.edits.items c.args.count c.loop.counter c.loop.rest.now
    (many edit_at c.args.count c.args.bytes.now) c.loop-test.false c.loop.invariant
