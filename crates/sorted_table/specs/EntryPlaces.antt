-- Entries of which the key and the value are found at places of the bytes.
use Rattle.std.specs.Prelude.{◌≡◌, ℕ, ◌≤◌, List, length, slice_range, Some}
use Rattle.std.specs.Option.{ForSome, option_map}
use Rattle.byte_fields.specs.{stored_key}
use Rattle.kv_types.specs.{Entry}
use Rattle.table_files.specs.{entry_read}
use Rattle.byte_fields.specs.declared.format.Format.{Format}
use Rattle.byte_fields.specs.declared.format.Format.TheVariants.{One, Two}
use Rattle.sorted_table.specs.declared.entry_place.EntryPlace.{EntryPlace}
use Rattle.sorted_table.specs.declared.entry_place.ByteSpan.{ByteSpan}

-- the bytes of a span
abbrev pub span_bytes : List ℕ → ByteSpan → List ℕ
span_bytes bytes span = slice_range bytes span.start span.end

-- the entry that has the bytes of its key and its value at these places
abbrev pub entry_in : List ℕ → EntryPlace → Entry
entry_in bytes place = record {
  key = stored_key place.space (span_bytes bytes place.key);
  number = place.number;
  value = option_map (span_bytes bytes) place.value;
}

-- the span lies in the bytes
abbrev pub IsSpanIn : List ℕ → ByteSpan → Type 0
IsSpanIn bytes span = (span.start ≤ span.end) × (span.end ≤ length bytes)

-- the key and the value lie in the bytes
abbrev pub IsPlacedIn : List ℕ → EntryPlace → Type 0
IsPlacedIn bytes place = IsSpanIn bytes place.key × ForSome place.value (IsSpanIn bytes)

-- how many bytes of an entry stand in front of those of its key
abbrev pub key_front : Format → ℕ
key_front One = 2
key_front Two = 3

-- the entry that is read in the format from the start on has its key and its value at these places
pub record IsEntryFrom (format : Format) (bytes : List ℕ) (start : ℕ) (place : EntryPlace)
    : Type 0 where
  pub read : entry_read format bytes start ≡ Some (entry_in bytes place)
  pub within : IsPlacedIn bytes place
