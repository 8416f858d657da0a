use Rattle.std.proofs.Common.{◌+◌, ◌<◌, take, arith, sym, ap, ◌∙◌}
use Rattle.std.specs.List.{sum_by}
use Rattle.std.proofs.lemmas.List.{take_all}
use Rattle.std.proofs.lemmas.List.Sums.{sum_by_more, sum_by-take-le}
use Rattle.std.proofs.lemmas.Bool.{lt-leb, le-leb}
use Rattle.kv_types.specs.declared.bounds.TheConstants.{MAX_PAGE}
use Rattle.kv_types.specs.{Row}
use Rattle.kv_types.specs.{row_size}
use Rattle.link_messages.proofs.rows.are_small.Goals as goal

pub returns-then-left-size : goal.returns-then-left-size
returns-then-left-size c =
    let rows = c.args.rows.now in
    let i = c.loop-row.row-index in
    let row = c.row-item.result in
    let more = sum_by_more row_size rows i row c.loop-row-test.true
    ∙ ap (λ (r : Row). sum_by row_size (take i rows) + row_size r) (sym c.row-item.is) in
    let part = sum_by-take-le row_size rows (i + 1) in
    let over : MAX_PAGE < sum_by row_size rows =
    omega (arith, more, part, c.loop-row.invariant, c.size-size.ensures, c.if-left-size.true) in
    sym (lt-leb _ _ over)

pub loop-row-preserved : goal.loop-row-preserved
loop-row-preserved c =
    let rows = c.args.rows.now in
    let i = c.loop-row.row-index in
    let row = c.row-item.result in
    let more = sum_by_more row_size rows i row c.loop-row-test.true
    ∙ ap (λ (r : Row). sum_by row_size (take i rows) + row_size r) (sym c.row-item.is) in
    omega (arith, more, c.loop-row.invariant, c.size-size.ensures, c.if-left-size.false)

pub returns : goal.returns
returns c =
    let rows = c.args.rows.now in
    let whole = ap (sum_by row_size) (take_all c.loop-row.row-index rows c.loop-row-test.false) in
    sym (le-leb _ _ (omega (arith, whole, c.loop-row.invariant)))
