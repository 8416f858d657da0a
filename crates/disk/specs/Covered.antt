-- The bytes that a write has overwritten.
use Rattle.std.specs.Prelude.{ℕ, List}
use Rattle.disk.specs.declared.buffer.CoveredBytes.{CoveredBytes}
use Rattle.disk.specs.declared.buffer.CoveredBytes.TheVariants.{One, Many}

-- the bytes, in order
abbrev pub covered_bytes : CoveredBytes → List ℕ
covered_bytes (One byte) = byte
covered_bytes (Many bytes) = bytes.items
