use Rattle.std.proofs.Common.{◌-◌, ◌≡◌, ◌≤◌, take, length, All, false}
use Rattle.version_edits.specs.Versions.{table_is_before}
use Rattle.version_edits.proofs.changed.table_place.Given as goal

-- it stands before none that the loop has passed
abbrev pub invariant-loop-at : goal.invariant-loop-at
invariant-loop-at l =
    (l.at ≤ length l.tables) × All (λ y. table_is_before l.line y ≡ false) (take l.at l.tables)

abbrev pub decreases-loop-at : goal.decreases-loop-at
decreases-loop-at l = length l.tables - l.at
