use Rattle.std.proofs.Common.{false, ◌≡◌, ◌≤◌}
use Rattle.merge_iter.specs.declared.direction.Direction.TheVariants.{Forward}
use Rattle.merge_iter.specs.Positions.{WalkStart}
use Rattle.merge_iter.specs.Moves.{Moved}
use Rattle.merge_iter.specs.ShownEntries.{IsAhead, IsHidden}
use Rattle.merge_iter.proofs.shown.find_forward.Given as goal

-- no entry that is shown was passed
abbrev pub invariant-loop-inner : goal.invariant-loop-inner
invariant-loop-inner g l = record {
  moved : Moved g.C.Cursor.holds g.C.Cursor.is_sound g.C.Cursor.suits g.C.Cursor.keeps
      g.C.Cursor.most
      l.initial.inner l.initial.source l.inner l.source;
  device : g.C.Cursor.makes false l.initial.source l.source;
  count : g.C.Cursor.failures l.source ≡ g.C.Cursor.failures l.initial.source;
  left : g.C.Cursor.left l.inner Forward ≤ g.C.Cursor.left l.initial.inner Forward;
  ahead : (meant : g.C.Cursor.Meant) (start : WalkStart)
      → (g.C.Cursor.is_sound meant) l.initial.inner l.initial.source
      → IsAhead l.at ((g.C.Cursor.holds meant) l.initial.inner l.initial.source) start
      (IsHidden l.initial.hiding l.initial.hidden) (g.C.Cursor.position l.initial.inner)
      → IsAhead l.at ((g.C.Cursor.holds meant) l.initial.inner l.initial.source) start
      (IsHidden l.hiding l.hidden) (g.C.Cursor.position l.inner);
}

abbrev pub decreases-loop-inner : goal.decreases-loop-inner
decreases-loop-inner g l = g.C.Cursor.left l.inner Forward
