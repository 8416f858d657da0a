-- A run of bytes in a buffer.
use Rattle.std.specs.Prelude.{ℕ, List}

-- the bytes of a buffer from this place on
pub record Piece : Type 0 where
  pub at : ℕ
  pub bytes : List ℕ
