-- What a look-up of a stored key finds.
use Rattle.std.specs.Prelude.{◌≡◌, ℕ, ◌≤◌, List, length, take, Option, Some, None, IfSome}
use Rattle.std.specs.Int.{w64, from_be_bytes}
use Rattle.std.specs.Option.{option_map}
use Rattle.byte_fields.specs.{StoredKey}
use Rattle.kv_types.specs.{BatchContent, Entry, IsNewest, IsShown, IsUnseen, all_entries}
use Rattle.kv_types.specs.{stored_map_of}
use Rattle.sorted_table.specs.declared.FoundVersion.{FoundVersion}
use Rattle.store_model.specs.{NewestHas}
use Rattle.store_files.specs.declared.finding.ShownValue.{ShownValue}

-- a value that is shown at the key, as the entry that puts it
abbrev pub shown_entry : StoredKey → ShownValue → Entry
shown_entry key it = record { key = key; number = it.number; value = Some it.value }

-- what a version that was found shows; a deletion shows nothing
abbrev pub shown_of : Option FoundVersion → Option ShownValue
shown_of None = None
shown_of (Some found) =
    option_map (λ value. record { number = found.number; value = value.items }) found.value

-- of these entries the newest of the key that is seen at the number is this one, or is a deletion,
-- or there is none
abbrev pub EntriesShow : ℕ → (Entry → Type 0) → StoredKey → Option (Option ShownValue) → Type 0
EntriesShow at entries key None = IsUnseen at entries key
EntriesShow at entries key (Some None) = NewestHas at entries key None
EntriesShow at entries key (Some (Some it)) = IsNewest at entries (shown_entry key it)

-- At the key so many first batches leave this value, or none, and the view of the list there has
-- the entry that puts it.
pub record IsShownIn (list : List BatchContent) (at : ℕ) (key : StoredKey)
    (shown : Option ShownValue) : Type 0 where
  pub left : option_map (λ it. it.value) shown ≡ stored_map_of (take at list) key
  pub entry : IfSome shown (λ it. IsShown at (all_entries list) (shown_entry key it))

-- ---- marks

-- what is shown at the key of a client, as a request and the number of its batch
abbrev pub mark_in : Option ShownValue → Option (ℕ × ℕ)
mark_in shown = option_map (λ it. (from_be_bytes w64 it.value, it.number)) shown

-- it may be a mark of one of so many first batches: it has eight bytes, and such a number
abbrev pub IsMarkEntry : ℕ → ShownValue → Type 0
IsMarkEntry at it = (length it.value ≡ 8) × (it.number ≤ at)
