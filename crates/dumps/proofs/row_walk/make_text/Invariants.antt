use Rattle.std.proofs.Common.{◌≡◌, string_bytes, take}
use Rattle.std.specs.List.{flat_map}
use Rattle.dumps.specs.Dumped.{row_line}
use Rattle.dumps.proofs.row_walk.make_text.Given as goal

-- the lines of the rows that the loop has passed
abbrev pub invariant-loop-row : goal.invariant-loop-row
invariant-loop-row l = string_bytes l.text ≡ flat_map row_line (take l.row-index l.rows)
