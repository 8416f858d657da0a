use Rattle.std.proofs.Common.{subst}
use Rattle.kv_types.specs.{Span}
use Rattle.embedded_store.specs.Stores.{MeetsDamageIn}
use Rattle.embedded_store.proofs.Cursors.{if_ok, last_found}
use Rattle.embedded_store.proofs.cursor.RowCursor.last.Goals as goal

-- the last row is the first of a page back
pub returns-in-Ok-clause-finds : goal.returns-in-Ok-clause-finds
returns-in-Ok-clause-finds g c = λ list holds.
    if_ok c.read.result
    (λ on. last_found list c.in-Ok.range c.args.self.now c.read.new.self c.in-Ok.ensures on)
    (c.read.ensures.finds list holds)

-- it reads all rows back
pub returns-in-Ok-clause-damaged : goal.returns-in-Ok-clause-damaged
returns-in-Ok-clause-damaged g c =
    subst (λ (s : Span). MeetsDamageIn g.D.Disk c.args.store.now s c.read.result) c.in-Ok.ensures
    c.read.ensures.damaged
