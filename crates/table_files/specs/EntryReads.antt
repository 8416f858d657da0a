-- The entries that are read at places of a block.
use Rattle.std.specs.Prelude.{◌≡◌, ℕ, List, drop, map, All, Option, Some, IsSomeAnd}
use Rattle.std.specs.Option.{option_map}
use Rattle.kv_types.specs.{Entry}
use Rattle.table_format.specs.{IsBlock, IsTableEntry}
use Rattle.byte_fields.specs.declared.format.Format.{Format}
use Rattle.table_format.specs.Reading.{table_entry_at}

-- the entry that is read in the format from a place of the bytes on, if there is one
abbrev pub entry_read : Format → List ℕ → ℕ → Option Entry
entry_read format bytes start = option_map (λ x. x.0) (table_entry_at format (drop start bytes))

-- an entry is read from each of the places on, and keeps its limits
abbrev pub AreRead : Format → List ℕ → List ℕ → Type 0
AreRead format bytes starts = All (λ start. IsSomeAnd (entry_read format bytes start) IsTableEntry)
    starts

-- these entries are read from the places on
abbrev pub ReadsEntries : Format → List ℕ → List ℕ → List Entry → Type 0
ReadsEntries format bytes starts entries = map (entry_read format bytes) starts ≡ map Some entries

-- where the bytes are a block in the format, its entries are read from the places on
abbrev pub ReadsAll : Format → List ℕ → List ℕ → Type 0
ReadsAll format bytes starts =
    (entries : List Entry) → IsBlock format bytes entries → ReadsEntries format bytes starts entries
