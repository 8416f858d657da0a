-- Texts behind their lengths: how they are spelled, and read from left to right.
use Rattle.std.specs.Prelude.{ℕ, List, ◌++◌, length, take, drop, nat_lt, Some, None}
use Rattle.std.specs.Prelude.{if◌then◌else◌}
use Rattle.std.specs.Int.{w16, to_be_bytes}
use Rattle.byte_fields.specs.Readers.{Reader, number_at, ◌>>=◌}

-- a length in two bytes, and that many bytes
abbrev pub text_bytes : List ℕ → List ℕ
text_bytes bytes = to_be_bytes w16 (length bytes) ++ bytes

-- the bytes behind their length, if it is at most the limit
unfoldable pub text_at : ℕ → Reader (List ℕ)
text_at limit bytes = do
  n ← number_at w16 bytes
  if nat_lt limit n.0 then None else
      (if nat_lt (length n.1) n.0 then None else Some (take n.0 n.1, drop n.0 n.1))
