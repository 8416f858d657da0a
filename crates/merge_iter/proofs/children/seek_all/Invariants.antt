use Rattle.std.proofs.Common.{false, ◌≡◌}
use Rattle.byte_fields.specs.{lent_key}
use Rattle.merge_iter.specs.declared.direction.Direction.TheVariants.{Forward}
use Rattle.merge_iter.specs.Order.{spot}
use Rattle.merge_iter.specs.Positions.{At}
use Rattle.merge_iter.specs.Merging.{EachChild}
use Rattle.merge_iter.proofs.Loops.{Passed, Brought}
use Rattle.merge_iter.proofs.children.seek_all.Given as goal

abbrev pub invariant-loop-i : goal.invariant-loop-i
invariant-loop-i g l = record {
  passed : (meant : g.C.Cursor.Meant)
      → Passed (g.C.Cursor.holds meant)
      (g.C.Cursor.is_sound meant) g.C.Cursor.suits g.C.Cursor.keeps g.C.Cursor.left
      g.C.Cursor.most l.i l.initial.children.items l.initial.source l.children.items l.source;
  device : g.C.Cursor.makes false l.initial.source l.source;
  count : g.C.Cursor.failures l.source ≡ g.C.Cursor.failures l.initial.source;
  brought : (meant : g.C.Cursor.Meant)
      → Brought (g.C.Cursor.holds meant)
      (g.C.Cursor.is_sound meant) g.C.Cursor.suits g.C.Cursor.keeps g.C.Cursor.left
      g.C.Cursor.most g.C.Cursor.position Forward (At (spot (lent_key l.key) l.number))
      (EachChild (λ c. (g.C.Cursor.is_sound meant) c l.initial.source) l.initial.children.items) l.i
      l.children.items l.source;
}
