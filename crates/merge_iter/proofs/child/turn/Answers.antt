use Rattle.merge_iter.proofs.Merges.{turn_step}
use Rattle.merge_iter.proofs.child.turn.Goals as goal

pub returns-then-valid-clause-turns : goal.returns-then-valid-clause-turns
returns-then-valid-clause-turns g c meant was entry flip sound first =
    turn_step was c.args.way ((g.C.Cursor.holds meant) c.args.child.now c.args.source.now) entry
    (g.C.Cursor.position c.args.child.now) _ c.step.result (c.valid.ensures.0 c.if-valid.true)
    flip first ((c.step.ensures.finds meant) sound)
