-- What a memtable holds, and what a lookup finds in it.
use Rattle.std.specs.Prelude.{ℕ, ◌<◌, Some, None, IsTrue}
use Rattle.byte_fields.specs.{StoredKey}
use Rattle.kv_types.specs.{Entry, IsNewest, IsUnseen}
use Rattle.memtable.specs.declared.found.Found.{Found}
use Rattle.memtable.specs.declared.found.Found.TheVariants as lookup
use Rattle.memtable.specs.declared.memtable.Memtable.{Memtable}
use Rattle.memtable.specs.Maps.{MapHolds}

-- the entries of a memtable
unfoldable pub TableHolds : Memtable → Entry → Type 0
TableHolds table = MapHolds table.map

-- the bytes that they count
abbrev pub table_bytes : Memtable → ℕ
table_bytes table = table.bytes

-- a batch was added in part
abbrev pub HasFailedAdd : Memtable → Type 0
HasFailedAdd table = IsTrue table.has_failed

-- the number is greater than those of all entries, in a memtable that has not failed
abbrev pub IsNewNumber : Memtable → ℕ → Type 0
IsNewNumber table number = (HasFailedAdd table → ⊥) → (entry : Entry) → TableHolds table entry →
    entry.number < number

-- what a key has at a number: the value and the number of its newest entry, or a deletion, or no
-- entry
abbrev pub IsFoundAt : Memtable → StoredKey → ℕ → Found → Type 0
IsFoundAt table key at (lookup.Value value number) =
    IsNewest at (TableHolds table) (record { key = key; number = number; value = Some value.now })
IsFoundAt table key at lookup.Deleted =
    (number : ℕ) × IsNewest at (TableHolds table)
    (record { key = key; number = number; value = None })
IsFoundAt table key at lookup.None = IsUnseen at (TableHolds table) key
