-- Whose turn it is in a level.
use Rattle.std.specs.Prelude.{ℕ, Option, slice_get}
use Rattle.std.specs.Option.{option_flatten}
use Rattle.byte_fields.specs.{StoredKey}
use Rattle.compaction.specs.declared.turn.Turn.{Turn}

-- the greatest key of the table that was last merged out of the level, if one was
abbrev pub turn_key : Turn → ℕ → Option StoredKey
turn_key turn level = option_flatten (slice_get turn.last.items level)
