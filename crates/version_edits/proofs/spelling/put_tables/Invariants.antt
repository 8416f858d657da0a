use Rattle.std.proofs.Common.{◌≡◌, ◌++◌, length, take}
use Rattle.std.specs.Int.{w16, to_be_bytes}
use Rattle.std.specs.List.{flat_map}
use Rattle.byte_fields.specs.declared.format.Format.TheVariants as formats
use Rattle.version_edits.specs.Edits.{table_line_bytes}
use Rattle.version_edits.proofs.spelling.put_tables.Given as goal

-- what the loop has passed stands behind what was there
abbrev pub invariant-loop-line : goal.invariant-loop-line
invariant-loop-line l = l.out.items ≡ l.fn.out.items ++ to_be_bytes w16
    (length l.lines) ++ flat_map (table_line_bytes formats.Two) (take l.line-index l.lines)
