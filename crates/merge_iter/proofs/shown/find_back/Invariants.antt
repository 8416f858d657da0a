use Rattle.std.proofs.Common.{false, ◌≡◌, ◌≤◌, ◌<◌, IsTrue}
use Rattle.merge_iter.specs.declared.direction.Direction.TheVariants.{Backward}
use Rattle.merge_iter.specs.Positions.{WalkStart}
use Rattle.merge_iter.specs.Moves.{Moved}
use Rattle.merge_iter.specs.TableEntries.{IsTableEntry}
use Rattle.merge_iter.specs.KeptEntries.{kept_entry}
use Rattle.merge_iter.specs.ShownEntries.{IsBefore, IsOnTheWay}
use Rattle.merge_iter.proofs.shown.find_back.Given as goal

-- of the entries passed, the one kept is the only one that may be shown
abbrev pub invariant-loop-inner : goal.invariant-loop-inner
invariant-loop-inner g l = record {
  moved : Moved g.C.Cursor.holds g.C.Cursor.is_sound g.C.Cursor.suits g.C.Cursor.keeps
      g.C.Cursor.most
      l.initial.inner l.initial.source l.inner l.source;
  device : g.C.Cursor.makes false l.initial.source l.source;
  count : g.C.Cursor.failures l.source ≡ g.C.Cursor.failures l.initial.source;
  left : g.C.Cursor.left l.inner Backward ≤ g.C.Cursor.left l.initial.inner Backward;
  less : IsTrue l.found → g.C.Cursor.left l.inner Backward < g.C.Cursor.left l.initial.inner
      Backward;
  fits : IsTrue l.found → IsTableEntry (kept_entry l.kept);
  way : (meant : g.C.Cursor.Meant) (start : WalkStart)
      → (g.C.Cursor.is_sound meant) l.initial.inner l.initial.source
      → IsBefore Backward l.at ((g.C.Cursor.holds meant) l.initial.inner l.initial.source) start
      (g.C.Cursor.position l.initial.inner)
      → IsOnTheWay l.found l.at ((g.C.Cursor.holds meant) l.initial.inner l.initial.source) start
      (kept_entry l.kept) (g.C.Cursor.position l.inner);
}

abbrev pub decreases-loop-inner : goal.decreases-loop-inner
decreases-loop-inner g l = g.C.Cursor.left l.inner Backward
