use Rattle.std.proofs.Common.{◌≡◌, ◌++◌, ◌∷◌, []}
use Rattle.std.proofs.lemmas.Result.{err_from_is_err_and}
use Rattle.byte_fields.specs.{many}
use Rattle.link_messages.specs.Reading.{row_at}
use Rattle.byte_fields.specs.LoopLemmas.{reads_next, is_done}
use Rattle.link_messages.proofs.Loop.{ends}
use Rattle.link_messages.proofs.rows.rows_in.Goals as goal

pub returns-in_err-row_of : goal.returns-in_err-row_of
returns-in_err-row_of c =
    let p = err_from_is_err_and c.from_residual.result c.from_residual.ensures.1 in
    rw (p.1, p.2)
    (ends row_at c.in_err-row_of.field-0.0 c.loop.rows.items c.args.count c.loop.counter
    c.loop.bytes.now
    (many row_at c.args.count c.args.bytes.now.now) c.loop-test.true c.in_err-row_of.ensures
    c.loop.invariant)

pub loop-preserved : goal.loop-preserved
loop-preserved c =
    let e : c.push.new.self.items ≡ c.loop.rows.items ++ c.in_ok-row_of.field-0 ∷ [] =
    c.in_ok-push.ensures.items in
    rw e (reads_next row_at c.loop.rows.items c.args.count c.loop.counter c.loop.bytes.now
    c.in_ok-row_of.field-0 c.row_of.new.bytes.now
    (many row_at c.args.count c.args.bytes.now.now) c.loop-test.true
    c.in_ok-row_of.ensures
    c.loop.invariant)

pub returns : goal.returns
returns c = is_done row_at c.loop.rows.items c.args.count c.loop.counter c.loop.bytes.now
    (many row_at c.args.count c.args.bytes.now.now) c.loop-test.false c.loop.invariant
