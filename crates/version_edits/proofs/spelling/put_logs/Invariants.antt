use Rattle.std.proofs.Common.{◌≡◌, ◌++◌, length, take}
use Rattle.std.specs.Int.{w16, to_be_bytes}
use Rattle.std.specs.List.{flat_map}
use Rattle.version_edits.specs.Edits.{log_line_bytes}
use Rattle.version_edits.proofs.spelling.put_logs.Given as goal

-- what the loop has passed stands behind what was there
abbrev pub invariant-loop-line : goal.invariant-loop-line
invariant-loop-line l = l.out.items ≡ l.fn.out.items ++ to_be_bytes w16
    (length l.lines) ++ flat_map log_line_bytes (take l.line-index l.lines)
