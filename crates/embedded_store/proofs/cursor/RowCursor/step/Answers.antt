use Rattle.std.proofs.Common.{◌≡◌, Option, Some, subst, sym}
use Rattle.std.specs.Prelude.{IfSome}
use Rattle.kv_types.specs.{Span}
use Rattle.kv_types.specs.{Row}
use Rattle.embedded_store.specs.Cursors.{IsOnPage, MovesRowCursor, StepsUnread, cursor_row}
use Rattle.embedded_store.specs.Cursors.{span_beside}
use Rattle.embedded_store.specs.Stores.{MeetsDamageIn}
use Rattle.embedded_store.specs.declared.cursor.RowCursor.{RowCursor}
use Rattle.embedded_store.proofs.Cursors.{if_ok, moves_more, needs_read, steps_found}
use Rattle.embedded_store.proofs.cursor.RowCursor.step.Goals as goal

-- the row behind stands on the page beside the one on which it stood
pub returns-in-Ok-clause-finds : goal.returns-in-Ok-clause-finds
returns-in-Ok-clause-finds g c = λ list holds are.
    let row = c.in-Some.row.now in
    let place = c.place_beside.result in
    let same : c.steps.new.self ≡ c.args.self.now = c.if-steps.ensures.0 in
    if_ok c.read.result (λ on. steps_found c.args.backward list c.in-Ok.range place c.args.self.now
    c.read.new.self row (subst (λ (b : RowCursor). cursor_row b ≡ Some row) same
    (sym c.in-Some.ensures)) c.in-Ok.ensures c.place_beside.ensures are
    (subst (λ (b : RowCursor). IsOnPage list c.in-Ok.range place b c.read.new.self) same on))
    (c.read.ensures.finds list holds)

-- and was read
pub returns-in-Ok-clause-moves : goal.returns-in-Ok-clause-moves
returns-in-Ok-clause-moves g c =
    let same : c.steps.new.self ≡ c.args.self.now = c.if-steps.ensures.0 in
    let old = c.args.store.now in
    let new = c.read.new.store in
    let now = c.read.new.self in
    moves_more (StepsUnread c.args.backward c.args.self.now now) old new c.args.self.now now
    c.read.result (subst (λ (b : RowCursor). MovesRowCursor g.D.Disk old new b now ⊥ c.read.result)
    same c.read.ensures.moves)

-- it stood on a row, and the one that follows was not among those that were read
pub returns-in-Ok-clause-unread : goal.returns-in-Ok-clause-unread
returns-in-Ok-clause-unread g c = λ needs.
    let same : c.steps.new.self ≡ c.args.self.now = c.if-steps.ensures.0 in
    let row = c.in-Some.row.now in
    absurd (needs_read c.args.backward c.args.self.now row
    (subst (λ (b : RowCursor). cursor_row b ≡ Some row) same (sym c.in-Some.ensures))
    c.if-steps.ensures.1 needs)

pub returns-in-Err-clause-unread : goal.returns-in-Err-clause-unread
returns-in-Err-clause-unread g c = λ needs.
    let same : c.steps.new.self ≡ c.args.self.now = c.if-steps.ensures.0 in
    let row = c.in-Some.row.now in
    absurd (needs_read c.args.backward c.args.self.now row
    (subst (λ (b : RowCursor). cursor_row b ≡ Some row) same (sym c.in-Some.ensures))
    c.if-steps.ensures.1 needs)

-- it reads the rows beside the one on which it stood
pub returns-in-Ok-clause-damaged : goal.returns-in-Ok-clause-damaged
returns-in-Ok-clause-damaged g c =
    let same : c.steps.new.self ≡ c.args.self.now = c.if-steps.ensures.0 in
    let row = c.in-Some.row.now in
    let store = c.args.store.now in
    let at : cursor_row c.args.self.now ≡ Some row =
    subst (λ (b : RowCursor). cursor_row b ≡ Some row) same (sym c.in-Some.ensures) in
    subst (λ (a : Option Row). IfSome a (λ r. MeetsDamageIn g.D.Disk store
    (span_beside c.args.backward r) c.read.result)) (sym at)
    (subst (λ (s : Span). MeetsDamageIn g.D.Disk store s c.read.result) c.in-Ok.ensures
    c.read.ensures.damaged)
