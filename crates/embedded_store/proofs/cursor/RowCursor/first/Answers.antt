-- a key without bytes is before every row
use Rattle.std.proofs.Common.{◌∙◌, List, subst, ℕ}
use Rattle.embedded_store.specs.Cursors.{span_from}
use Rattle.embedded_store.specs.Stores.{MeetsDamageIn}
use Rattle.embedded_store.proofs.Cursors.{first_found, if_ok}
use Rattle.embedded_store.proofs.cursor.RowCursor.first.Goals as goal

-- the first row at or behind that key is the first of all
pub returns-in-Ok-clause-finds : goal.returns-in-Ok-clause-finds
returns-in-Ok-clause-finds g c = λ list shown.
    if_ok c.seek.result
    (first_found list c.args.self.now c.seek.new.self c.in-Ok.key
    (c.in-Ok.ensures.made.0 ∙ c.new.ensures.items)) (c.seek.ensures.finds list shown)

-- the rows from that key on are all rows
pub returns-in-Ok-clause-damaged : goal.returns-in-Ok-clause-damaged
returns-in-Ok-clause-damaged g c =
    subst
    (λ (k : List ℕ). MeetsDamageIn g.D.Disk c.args.store.now (span_from k) c.seek.result)
    (c.in-Ok.ensures.made.0 ∙ c.new.ensures.items) c.seek.ensures.damaged
