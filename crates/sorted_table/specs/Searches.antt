-- Searches for a key and number in sorted entries and in the lines of an index.
use Rattle.std.specs.Prelude.{◌≡◌, ℕ, List, ◌∷◌, ◌++◌, Option, Some, None, All}
use Rattle.std.specs.Option.{option_map}
use Rattle.std.specs.List.Sorted.{IsPartitionPoint}
use Rattle.byte_fields.specs.{StoredKey}
use Rattle.kv_types.specs.{Entry}
use Rattle.merge_iter.specs.{EntryPrecedes, spot}
use Rattle.merge_iter.specs.declared.Direction.TheVariants.{Forward}
use Rattle.table_format.specs.{end_spot}
use Rattle.table_format.specs.declared.IndexLine.{IndexLine}
use Rattle.sorted_table.specs.declared.found.FoundVersion.{FoundVersion}

-- the entry comes before the spot
abbrev pub IsEarlier : Entry → Entry → Type 0
IsEarlier spot entry = EntryPrecedes Forward entry spot

-- the last entry of the line's block comes before the spot
abbrev pub EndsEarlier : Entry → IndexLine → Type 0
EndsEarlier spot line = EntryPrecedes Forward (end_spot line) spot

-- the first item without P is this one
pub record IsFirstWithout {A : Type 0} (P : A → Type 0) (items : List A) (item : A)
    : Type 0 where
  pub before : List A
  pub after : List A
  pub split : items ≡ before ++ item ∷ after
  pub with : All P before
  pub without : P item → ⊥

-- a search for the first item without P finds this one, or that all have P
abbrev pub FindsFirstWithout : {A : Type 0} → (A → Type 0) → List A → Option A → Type 0
FindsFirstWithout P items None = All P items
FindsFirstWithout P items (Some item) = IsFirstWithout P items item

-- the lines of blocks that end before the spot are those in front of this place
abbrev pub IsLinePlace : List IndexLine → Entry → ℕ → Type 0
IsLinePlace lines spot place =
    IsPartitionPoint (EndsEarlier spot) (λ line. EndsEarlier spot line → ⊥) lines place

-- the version has number and value of the entry
pub record IsVersionOf (entry : Entry) (found : FoundVersion) : Type 0 where
  pub number : found.number ≡ entry.number
  pub value : option_map (λ value. value.items) found.value ≡ entry.value

-- the set has an entry, and each of its entries comes before the key, whatever the number
pub record EndsBefore (entries : Entry → Type 0) (key : StoredKey) : Type 0 where
  pub some : Entry
  pub held : entries some
  pub each : (entry : Entry) → entries entry → (number : ℕ) →
      EntryPrecedes Forward entry (spot key number)
