-- The numbers that the program's words ask for.
use Rattle.std.specs.Prelude.{ℕ, ◌≤◌}

-- so many keys, and values of this length
pub record AreInRange (keys value : ℕ) : Type 0 where
  pub keys_range : keys ≤ 1000000000
  pub value_range : value ≤ 16384
