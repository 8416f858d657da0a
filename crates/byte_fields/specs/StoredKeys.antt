-- Stored keys: those of entries, as tables, memtables and cursors order them.
use Rattle.std.specs.Prelude.{◌≡◌, ℕ, zero, suc, ◌≤◌, List, [], ◌∷◌, length, None}
use Rattle.std.specs.declared.cmp.Ordering.{Ordering}
use Rattle.std.specs.Int.{w64, to_be_bytes}
use Rattle.std.specs.Ordering.{nat_cmp}
use Rattle.std.specs.Cmp.Lexicographic.{slice_cmp}
use Rattle.byte_fields.specs.Readers.{Reader, mapped}
use Rattle.byte_fields.specs.Texts.{text_at, text_bytes}
use Rattle.byte_fields.specs.declared.format.Format.{Format}
use Rattle.byte_fields.specs.declared.format.Format.TheVariants.{One, Two}
use Rattle.byte_fields.specs.declared.stored_key.TheConstants.{MAX_KEY}
use Rattle.byte_fields.specs.declared.space.Space.{Space}
use Rattle.byte_fields.specs.declared.space.Space.TheVariants.{Rows, Marks}
use Rattle.byte_fields.specs.declared.stored_key.LentKey.{LentKey}

-- the number of a space
abbrev pub space_number : Space → ℕ
space_number Rows = 0
space_number Marks = 1

-- the key of an entry: the number of its space, and behind it the bytes of a key
abbrev pub StoredKey : Type 0
StoredKey = List ℕ

-- the bytes as a key of the space
abbrev pub stored_key : Space → List ℕ → StoredKey
stored_key space bytes = space_number space ∷ bytes

-- the key of a row
abbrev pub row_key : List ℕ → StoredKey
row_key key = stored_key Rows key

-- the key at which the last mark of a client stands: its number in eight bytes
abbrev pub mark_key : ℕ → StoredKey
mark_key client = stored_key Marks (to_be_bytes w64 client)

-- the bytes of a stored key behind its space
abbrev pub bytes_of : StoredKey → List ℕ
bytes_of [] = []
bytes_of (space ∷ bytes) = bytes

-- the number of the space of a stored key, or 2, which no space has
abbrev pub space_of : StoredKey → ℕ
space_of [] = 2
space_of (space ∷ bytes) = space

-- it is a key of a space, and has no more bytes than a key
abbrev pub IsStoredKey : StoredKey → Type 0
IsStoredKey key = (space_of key ≤ 1) × (length (bytes_of key) ≤ MAX_KEY)

-- the order of stored keys, which is that of bytes: rows stand before marks
abbrev pub stored_cmp : StoredKey → StoredKey → Ordering
stored_cmp = slice_cmp nat_cmp

-- a stored key that is lent
abbrev pub lent_key : LentKey → StoredKey
lent_key key = stored_key key.space key.bytes.now

-- ---- spelling

-- the number of the space in one byte, and the bytes behind their length
abbrev pub key_bytes : StoredKey → List ℕ
key_bytes [] = []
key_bytes (space ∷ bytes) = space ∷ text_bytes bytes

-- a stored key, by the number of its space
unfoldable pub key_at : Reader StoredKey
key_at [] = None
key_at (zero ∷ rest) = mapped (stored_key Rows) (text_at MAX_KEY) rest
key_at (suc zero ∷ rest) = mapped (stored_key Marks) (text_at MAX_KEY) rest
key_at (suc (suc b) ∷ rest) = None

-- ---- formats

-- a file of the format may have the key: in format 1 each key is that of a row
abbrev pub IsKeyOf : Format → StoredKey → Type 0
IsKeyOf One key = space_of key ≡ 0
IsKeyOf Two key = Unit {0}

-- a key as a file of the format spells it: format 1 leaves out the number of the space
abbrev pub key_bytes_in : Format → StoredKey → List ℕ
key_bytes_in One key = text_bytes (bytes_of key)
key_bytes_in Two key = key_bytes key

-- a key as a file of the format spells it, read
unfoldable pub key_at_in : Format → Reader StoredKey
key_at_in One bytes = mapped row_key (text_at MAX_KEY) bytes
key_at_in Two bytes = key_at bytes
