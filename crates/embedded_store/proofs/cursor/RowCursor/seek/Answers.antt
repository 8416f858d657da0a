use Rattle.std.proofs.Common.{◌∙◌, ap, subst}
use Rattle.kv_types.specs.{Span}
use Rattle.embedded_store.specs.Cursors.{span_from}
use Rattle.embedded_store.specs.Stores.{MeetsDamageIn}
use Rattle.embedded_store.proofs.Cursors.{from_found, if_ok}
use Rattle.embedded_store.proofs.cursor.RowCursor.seek.Goals as goal

-- the page begins at the key
pub returns-in-Ok-rows_from-clause-finds : goal.returns-in-Ok-rows_from-clause-finds
returns-in-Ok-rows_from-clause-finds g c = λ list holds.
    if_ok c.read.result
    (λ on. from_found list c.in-Ok-rows_from.range c.args.self.now c.read.new.self c.args.key.now
    (c.in-Ok-rows_from.ensures ∙ ap span_from c.in-Ok.ensures) on) (c.read.ensures.finds list holds)

-- it reads the rows from the key on
pub returns-in-Ok-rows_from-clause-damaged : goal.returns-in-Ok-rows_from-clause-damaged
returns-in-Ok-rows_from-clause-damaged g c =
    subst (λ (s : Span). MeetsDamageIn g.D.Disk c.args.store.now s c.read.result)
    (c.in-Ok-rows_from.ensures ∙ ap span_from c.in-Ok.ensures) c.read.ensures.damaged
