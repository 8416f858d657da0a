-- How many bytes the entries of a memtable take (docs/FORMATS.md).
use Rattle.std.specs.Prelude.{◌≡◌, ℕ, ◌+◌, ◌-◌, ◌^◌, min, List, [], ◌∷◌, length, Option, Some, None}
use Rattle.std.specs.Prelude.{is_some, if◌then◌else◌}
use Rattle.byte_fields.specs.{bytes_of}
use Rattle.kv_types.specs.declared.edit.Edit.{Edit}
use Rattle.kv_types.specs.{BatchContent, stored_edits}
use Rattle.kv_types.specs.Maps.{key_of, value_put, last_edit}
use Rattle.memtable.specs.declared.bounds.TheConstants.{ENTRY_BYTES}

-- a sum that stops at the greatest number of 64 bits
abbrev pub capped_sum : ℕ → ℕ → ℕ
capped_sum a b = min (a + b) (2 ^ 64 - 1)

-- what an entry counts beside the bytes of its key and its value
abbrev pub EntryBytesAre : Type 0
EntryBytesAre = ENTRY_BYTES ≡ 64

-- the length of a value; a deletion has none
abbrev pub value_size : Option (List ℕ) → ℕ
value_size None = 0
value_size (Some value) = length value

-- the entry of a stored key's edit takes the bytes of its key behind the space, those of its value,
-- and a constant
abbrev pub edit_size : Edit → ℕ
edit_size edit = length (bytes_of (key_of edit)) + value_size (value_put edit) + ENTRY_BYTES

-- the entries of some edits: an edit that a later one of its key hides has none
abbrev pub edits_size : List Edit → ℕ
edits_size [] = 0
edits_size (edit ∷ edits) =
    edits_size edits + (if is_some (last_edit edits (key_of edit)) then 0 else edit_size edit)

-- the entries of a batch: those of its edits and that of its mark
abbrev pub batch_size : BatchContent → ℕ
batch_size batch = edits_size (stored_edits batch)
