use Rattle.std.proofs.Common.{List}
use Rattle.kv_types.specs.{Row}
use Rattle.kv_types.specs.Pages.{IsWalk, Map}
use Rattle.row_pages.specs.Rows.{HasRowsOf}
use Rattle.row_pages.specs.Walking.{ReadsUpTo, way_of}
use Rattle.row_pages.proofs.Calls.{HasMoved}
use Rattle.row_pages.proofs.reading.read_page.Given as goal

-- the rows so far are the beginning of the walk, and the cursor stands on the next one
abbrev pub invariant-loop-alloc : goal.invariant-loop-alloc
invariant-loop-alloc g l = record {
  moved : HasMoved g.C.Cursor g.met.C.Cursor.laws l.fn.cursor l.fn.source l.cursor l.source;
  reads : (meant : g.C.Cursor.Meant) (map : Map) (walk : List Row)
      → g.C.Cursor.is_sound meant l.fn.cursor l.fn.source
      → HasRowsOf map l.range (g.C.Cursor.holds meant l.fn.cursor l.fn.source)
      → IsWalk map l.range walk
      → ReadsUpTo l.range (g.C.Cursor.holds meant l.fn.cursor l.fn.source) walk l.page
      (g.C.Cursor.position l.cursor);
}

abbrev pub decreases-loop-alloc : goal.decreases-loop-alloc
decreases-loop-alloc g l = g.C.Cursor.left l.cursor (way_of l.range.backward)
