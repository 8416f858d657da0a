use Rattle.std.proofs.Common.{◌≡◌, drop}
use Rattle.memtable.specs.Maps.{Adds, edits_put}
use Rattle.memtable.specs.Sizes.{edits_size, capped_sum}
use Rattle.memtable.proofs.put.put_all.Given as goal

-- the mark, and the edits from this place on, are put
abbrev pub invariant-loop-i : goal.invariant-loop-i
invariant-loop-i l = record {
  puts : Adds l.number (edits_put (drop l.i l.edits) l.fn.mark) l.fn.map l.map;
  bytes : l.bytes ≡ capped_sum l.fn.bytes (edits_size (edits_put (drop l.i l.edits) l.fn.mark));
}
