use Rattle.std.proofs.Common.{◌∙◌, ap, refl}
use Rattle.byte_fields.specs.{lent_key, row_key}
use Rattle.kv_types.specs.{end_of_rows, stored_span}
use Rattle.row_pages.proofs.Orders.{below_test}
use Rattle.row_pages.proofs.Ranges.{by_bound, not_within}
use Rattle.row_pages.proofs.walking.is_within.Goals as goal

pub returns-then-is_lt : goal.returns-then-is_lt
returns-then-is_lt c =
    let key = lent_key c.args.key in
    let range = c.args.range.now in
    let test = below_test key (row_key range.from) (lent_key c.lent.result) c.cmp.result
    c.is_lt.result (c.lent.ensures.key ∙ ap row_key c.from.ensures) c.cmp.ensures c.is_lt.ensures in
    not_within (stored_span range) key (test.0 c.if-is_lt.true)

pub returns : goal.returns
returns c =
    let key = lent_key c.args.key in
    let range = c.args.range.now in
    let from = below_test key (row_key range.from) (lent_key c.lent.result) c.cmp.result
    c.is_lt.result (c.lent.ensures.key ∙ ap row_key c.from.ensures) c.cmp.ensures c.is_lt.ensures in
    let to = below_test key (end_of_rows range.to) (lent_key c.end_of_rows.result) c.cmp-2.result
    c.is_lt-2.result c.end_of_rows.ensures c.cmp-2.ensures c.is_lt-2.ensures in
    by_bound (stored_span range) key (end_of_rows range.to) c.is_lt-2.result
    (λ lower. let t = from.1 lower in let f = c.if-is_lt.false in cc) refl to
