use Rattle.std.proofs.Common.{◌-◌, ◌≡◌, ◌≤◌, take, length, All, false}
use Rattle.version_edits.specs.Versions.{log_is_before}
use Rattle.version_edits.proofs.changed.log_place.Given as goal

-- it comes before none that the loop has passed
abbrev pub invariant-loop-at : goal.invariant-loop-at
invariant-loop-at l =
    (l.at ≤ length l.logs) × All (λ y. log_is_before l.line y ≡ false) (take l.at l.logs)

abbrev pub decreases-loop-at : goal.decreases-loop-at
decreases-loop-at l = length l.logs - l.at
