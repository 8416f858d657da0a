use Rattle.std.proofs.Common.{◌≡◌, ◌++◌, ◌∷◌, []}
use Rattle.std.proofs.lemmas.Result.{err_from_is_err_and}
use Rattle.byte_fields.specs.{many}
use Rattle.version_edits.specs.Reading.{table_line_at}
use Rattle.byte_fields.specs.LoopLemmas.{reads_next, is_done}
use Rattle.version_edits.proofs.Loop.{ends}
use Rattle.version_edits.proofs.reading.tables_in.Goals as goal

pub returns-in_err-table_of : goal.returns-in_err-table_of
returns-in_err-table_of c =
    let p = err_from_is_err_and c.from_residual.result c.from_residual.ensures.1 in
    rw (p.1, p.2)
    (ends (table_line_at c.args.format) c.in_err-table_of.field-0.0 c.loop.lines.items
    c.args.count c.loop.counter c.loop.bytes.now
    (many (table_line_at c.args.format) c.args.count c.args.bytes.now.now) c.loop-test.true
    c.in_err-table_of.ensures c.loop.invariant)

pub loop-preserved : goal.loop-preserved
loop-preserved c =
    let e : c.push.new.self.items ≡ c.loop.lines.items ++ c.in_ok-table_of.field-0 ∷ [] =
    c.in_ok-push.ensures.items in
    rw e (reads_next (table_line_at c.args.format) c.loop.lines.items c.args.count c.loop.counter
    c.loop.bytes.now c.in_ok-table_of.field-0 c.table_of.new.bytes.now
    (many (table_line_at c.args.format) c.args.count c.args.bytes.now.now) c.loop-test.true
    c.in_ok-table_of.ensures c.loop.invariant)

pub returns : goal.returns
returns c = is_done (table_line_at c.args.format) c.loop.lines.items c.args.count c.loop.counter
    c.loop.bytes.now (many (table_line_at c.args.format) c.args.count c.args.bytes.now.now)
    c.loop-test.false c.loop.invariant
