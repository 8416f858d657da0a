use Rattle.store_cursors.proofs.Entering.{HasPassed}
use Rattle.store_cursors.proofs.in_turn.enter_from.Given as goal

-- a walk meets nothing of the children that it has entered
abbrev pub invariant-loop-behind : goal.invariant-loop-behind
invariant-loop-behind g l = HasPassed g.C.Cursor l.start l.skipped l.initial.children.items
    l.initial.source l.behind l.children.items l.source
