use Rattle.std.proofs.Common.{◌≡◌, ℕ, List, ◌++◌, length}
use Rattle.scripts.specs.Beginnings.{HasExtent, IsWithinLimits}
use Rattle.scripts.proofs.extent.Extent.after.Given as goal

-- the extent is that of the text with the bytes before the rest, and within the limits where it
-- began so
abbrev pub invariant-loop-part : goal.invariant-loop-part
invariant-loop-part l = ((text : List ℕ) → HasExtent text l.fn.self →
    (read : List ℕ) × (text ++ l.fn.bytes ≡ read ++ l.rest) × HasExtent read l.extent)
    × (IsWithinLimits l.fn.self → IsWithinLimits l.extent)

abbrev pub decreases-loop-part : goal.decreases-loop-part
decreases-loop-part l = length l.rest
