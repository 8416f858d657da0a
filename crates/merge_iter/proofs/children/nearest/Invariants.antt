use Rattle.merge_iter.specs.Merging.{IsNearest}
use Rattle.merge_iter.proofs.children.nearest.Given as goal

abbrev pub invariant-loop-i : goal.invariant-loop-i
invariant-loop-i g l = IsNearest g.C.Cursor.position l.way l.children.items l.but l.i l.found
