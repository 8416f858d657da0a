use Rattle.std.proofs.Common.{◌≡◌, take}
use Rattle.std.specs.List.{fold}
use Rattle.version_edits.specs.Versions.{with_log}
use Rattle.version_edits.proofs.changed.add_logs.Given as goal

-- what the loop has passed
abbrev pub invariant-loop-line : goal.invariant-loop-line
invariant-loop-line l = l.logs.items ≡ fold with_log l.fn.logs.items (take l.line-index l.added)
