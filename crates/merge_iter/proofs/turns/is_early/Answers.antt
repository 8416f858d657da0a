use Rattle.merge_iter.proofs.Walked.{spot_early, spot_late}
use Rattle.byte_fields.specs.{lent_key}
use Rattle.merge_iter.proofs.turns.is_early.Goals as goal

pub returns-then-valid-clause-early : goal.returns-then-valid-clause-early
returns-then-valid-clause-early g c h = (
  c.in-Inner.is,
  c.valid.ensures.0 c.if-valid.true,
  spot_early
      (g.C.Cursor.position c.args.inner.now) (lent_key c.key.result) (lent_key c.args.key)
      c.number.result
      c.args.number c.order.result c.is_lt.result c.key.ensures c.number.ensures c.order.ensures
      c.is_lt.ensures h,
)

pub returns-then-valid-clause-late : goal.returns-then-valid-clause-late
returns-then-valid-clause-late g c else_ e = spot_late (g.C.Cursor.position c.args.inner.now)
    (lent_key c.key.result) (lent_key c.args.key) c.number.result c.args.number c.order.result
    c.is_lt.result
    c.key.ensures c.number.ensures c.order.ensures c.is_lt.ensures else_
