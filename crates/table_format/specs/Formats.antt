-- The formats of tables: the number of each in a footer, and what a filter holds.
use Rattle.std.specs.Prelude.{ℕ, zero, suc, List, map, Option, Some, None}
use Rattle.std.specs.Int.{w32}
use Rattle.byte_fields.specs.{◌>>=◌, Reader, StoredKey, bytes_of, number_at}
use Rattle.byte_fields.specs.declared.format.Format.{Format}
use Rattle.byte_fields.specs.declared.format.Format.TheVariants.{One, Two}

-- ---- the number of a format

-- the number by which a footer names the format
abbrev pub format_number : Format → ℕ
format_number One = 1
format_number Two = 2

-- the format that has this number, if there is one
abbrev pub format_numbered : ℕ → Option Format
format_numbered zero = None
format_numbered (suc zero) = Some One
format_numbered (suc (suc zero)) = Some Two
format_numbered (suc (suc (suc n))) = None

-- a format, by its number in four bytes
unfoldable pub format_at : Reader Format
format_at bytes =
    number_at w32 bytes >>= λ n. format_numbered n.0 >>= λ format. Some (format, n.1)

-- ---- filters

-- what the filter of a table of the format holds for a key: format 1 leaves out the space
abbrev pub filter_key : Format → StoredKey → List ℕ
filter_key One key = bytes_of key
filter_key Two key = key

-- what the filter of a table of the format holds for these keys
abbrev pub filter_keys : Format → List StoredKey → List (List ℕ)
filter_keys One keys = map bytes_of keys
filter_keys Two keys = keys
