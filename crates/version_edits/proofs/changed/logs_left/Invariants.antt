use Rattle.std.proofs.Common.{◌≡◌, take}
use Rattle.version_edits.specs.Versions.{logs_left}
use Rattle.version_edits.proofs.changed.logs_left.Given as goal

-- what the loop has passed
abbrev pub invariant-loop-line : goal.invariant-loop-line
invariant-loop-line l = l.left.items ≡ logs_left l.gone (take l.line-index l.logs)
