use Rattle.std.proofs.Common.{ap, arith, drop, length, min, ◌∙◌}
use Rattle.record_log.proofs.Spans.{split_off}
use Rattle.record_log.proofs.log.OpenedLog.record.Goals as goal

-- the bytes that are split off are the record's
pub returns : goal.returns
returns c = λ records read.
    let opened = c.args.self.now in
    let bytes = opened.bytes.items in
    let is = c.as_slice-bytes.ensures.value in
    let behind = c.split_at.ensures.back ∙ ap (drop c.min.result) is in
    let size = ap length is in
    split_off bytes opened.log.ends.items records c.args.index c.span-begin.result.0
    c.span-begin.result.1 read.stands read.ends
    (omega (arith, size, c.as_slice-bytes.type_inv)) c.requires
    c.span-begin.ensures.begin c.span-begin.ensures.len c.split_at.result.1.now
    c.split_at-2.result.0.now c.min.result c.min-2.result
    (c.min.ensures ∙ ap (min c.span-begin.result.0) size) behind c.min-2.ensures
    c.split_at-2.ensures.front
