use Rattle.byte_fields.specs.{lent_key}
use Rattle.row_pages.proofs.Starts.{on_ok, sought, stepped_back, last_below}
use Rattle.row_pages.proofs.walking.seek_below.Goals as goal

pub returns-then-valid-clause-begins : goal.returns-then-valid-clause-begins
returns-then-valid-clause-begins g c meant sound numbered =
    let entries = g.C.Cursor.holds meant c.args.cursor.now c.args.source.now in
    let key = lent_key c.args.key in
    let was = g.C.Cursor.position c.seek.new.self in
    let moved = c.seek.ensures.moves.stays meant sound in
    let first = on_ok c.seek.result c.in_ok-seek.field-0 c.in_ok-seek.was
    (sought entries numbered key c.seek.result was (c.seek.ensures.finds meant sound)) in
    stepped_back entries numbered key (g.C.Cursor.holds meant c.seek.new.self c.seek.new.source)
    moved.1 c.prev.result was (g.C.Cursor.position c.prev.new.self)
    (c.valid.ensures.0 c.if-valid.true) first (c.prev.ensures.finds meant moved.0)

pub returns-else-valid-clause-begins : goal.returns-else-valid-clause-begins
returns-else-valid-clause-begins g c meant sound numbered =
    let entries = g.C.Cursor.holds meant c.args.cursor.now c.args.source.now in
    let key = lent_key c.args.key in
    let was = g.C.Cursor.position c.seek.new.self in
    let moved = c.seek.ensures.moves.stays meant sound in
    let first = on_ok c.seek.result c.in_ok-seek.field-0 c.in_ok-seek.was
    (sought entries numbered key c.seek.result was (c.seek.ensures.finds meant sound)) in
    last_below entries numbered key (g.C.Cursor.holds meant c.seek.new.self c.seek.new.source)
    moved.1 c.last.result was (g.C.Cursor.position c.last.new.self)
    (λ on. let z = c.valid.ensures.1 on in let f = c.if-valid.false in cc) first
    (c.last.ensures.finds meant moved.0)
