use Rattle.std.proofs.Common.{◌≡◌, ◌∙◌, Some, ap, sym, false, true}
use Rattle.byte_fields.specs.{lent_key, row_key}
use Rattle.kv_types.specs.{stored_span}
use Rattle.row_pages.proofs.Starts.{begins_below, begins_forward, sought}
use Rattle.row_pages.proofs.walking.begin.Goals as goal

pub returns-then-not-is_backward-clause-begins : goal.returns-then-not-is_backward-clause-begins
returns-then-not-is_backward-clause-begins g c meant sound numbered =
    let entries = g.C.Cursor.holds meant c.args.cursor.now c.args.source.now in
    let key = lent_key c.lent.result in
    let at = g.C.Cursor.position c.seek.new.self in
    let forward : c.args.range.now.backward ≡ false =
    sym c.is_backward.ensures ∙ c.if-not-is_backward.true in
    begins_forward entries (stored_span c.args.range.now) c.seek.result at
    c.args.range.now.backward key forward (c.lent.ensures.key ∙ ap row_key c.from.ensures)
    (sought entries numbered key c.seek.result at (c.seek.ensures.finds meant sound))

pub returns-clause-begins : goal.returns-clause-begins
returns-clause-begins g c meant sound numbered =
    let entries = g.C.Cursor.holds meant c.args.cursor.now c.args.source.now in
    let key = lent_key c.end_of_rows.result in
    let at = g.C.Cursor.position c.seek_below.new.cursor in
    let back : c.args.range.now.backward ≡ true =
    sym c.is_backward.ensures ∙ c.if-not-is_backward.false in
    begins_below entries (stored_span c.args.range.now) c.seek_below.result at
    c.args.range.now.backward key back (ap Some (sym c.end_of_rows.ensures))
    (c.seek_below.ensures.begins meant sound numbered)
