-- The rows of a map in a range, as entries that a cursor has.
use Rattle.std.specs.Prelude.{◌≡◌, ◌↔◌, ◌≤◌, ℕ, List, Some, IsSome}
use Rattle.byte_fields.specs.{row_key}
use Rattle.kv_types.specs.{Row}
use Rattle.kv_types.specs.declared.bounds.TheConstants.{MAX_NUMBER}
use Rattle.kv_types.specs.Pages.{IsWalk, IsWithin, Map}
use Rattle.kv_types.specs.{Entry, Span}

-- the row as a version of its stored key
abbrev pub row_entry : Row → ℕ → Entry
row_entry row number =
    record { key = row_key row.key; number = number; value = Some row.value }

-- the entries of rows whose keys lie in the range are the rows of the map there
pub record HasRowsOf (map : Map) (range : Span) (entries : Entry → Type 0) : Type 0 where
  -- a key in the range has a value exactly if an entry has that key and value
  pub rows : (row : Row) → IsWithin range row.key
      → (map row.key ≡ Some row.value) ↔ ((number : ℕ) × entries (row_entry row number))
  -- no two entries share a key
  pub single : (a b : Entry) → entries a → entries b → a.key ≡ b.key → a ≡ b
  -- no entry is a deletion
  pub put : (entry : Entry) → entries entry → IsSome entry.value
  -- no entry has a greater number than a batch may have
  pub numbers : (entry : Entry) → entries entry → entry.number ≤ MAX_NUMBER

-- the rows of the map in the range are the elements of a list, which is their walk
abbrev pub HasWalk : Map → Span → Type 0
HasWalk map range = (walk : List Row) × IsWalk map range walk
