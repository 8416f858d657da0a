-- A buffer, and the bytes of it that writes have overwritten.
use Rattle.std.specs.Prelude.{ℕ, ◌+◌, ◌≤◌, List, [], ◌∷◌, length, All}
use Rattle.disk.specs.Piece.{Piece}
use Rattle.disk.specs.States.{overwritten}

-- the buffer with the overwritten bytes restored, the latest first
abbrev pub uncovered : List ℕ → List Piece → List ℕ
uncovered buffer [] = buffer
uncovered buffer (one ∷ later) = overwritten (uncovered buffer later) one.at one.bytes

-- the overwritten bytes lie within this length
abbrev pub AllWithin : ℕ → List Piece → Type 0
AllWithin len covered = All (λ one. one.at + length one.bytes ≤ len) covered
