-- Which numbers can be read, and so may have a snapshot.
use Rattle.std.specs.Prelude.{ℕ, ◌≤◌, List, length, All}
use Rattle.engine.specs.declared.snapshots.TheConstants.{MAX_SNAPSHOTS}

-- the number lies from the floor to the committed number
abbrev pub IsReadable : ℕ → ℕ → ℕ → Type 0
IsReadable floor committed at = (floor ≤ at) × (at ≤ committed)

-- the open snapshots can be read, and they are not too many
pub record AreReadable (floor committed : ℕ) (snapshots : List ℕ) : Type 0 where
  pub each : All (IsReadable floor committed) snapshots
  pub few : length snapshots ≤ MAX_SNAPSHOTS
