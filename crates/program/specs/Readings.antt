-- How far a script is read.
use Rattle.std.specs.Prelude.{◌≤◌, ℕ, List, [], ◌++◌, length}
use Rattle.scripts.specs.Beginnings.{HasExtent, IsWithinLimits}
use Rattle.scripts.specs.declared.extent.Extent.{Extent}

-- Nothing was read, or one piece more, of at most so many bytes. The text before it was read so
-- too, and may be the beginning of a script, by its ended lines and the bytes behind them.
pub data EndsInTime : List ℕ → Type 0 where
  Unread : EndsInTime []
  Piece : (front last : List ℕ) (extent : Extent) → EndsInTime front → HasExtent front extent →
      IsWithinLimits extent → length last ≤ 8192 → EndsInTime (front ++ last)
