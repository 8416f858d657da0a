-- Entries: the versions of keys, and what a set of them shows at a number.
use Rattle.std.specs.Prelude.{◌≡◌, ◌⊎◌, ◌↔◌, ℕ, suc, ◌^◌, ◌<◌, ◌≤◌, List, [], ◌∷◌, ◌++◌, map, take}
use Rattle.std.specs.Prelude.{slice_get, All, Option, Some, None, IsSome, option_map}
use Rattle.std.specs.Int.{w64, to_be_bytes}
use Rattle.std.specs.List.{flat_map}
use Rattle.std.specs.Option.{option_flatten}
use Rattle.byte_fields.specs.{StoredKey, mark_key, row_key}
use Rattle.kv_types.specs.declared.edit.Edit.{Edit}
use Rattle.kv_types.specs.declared.edit.Edit.TheVariants.{Put, Delete}
use Rattle.kv_types.specs.declared.mark.Mark.{Mark}
use Rattle.kv_types.specs.Marks.{HasNoMark, IsLastMark, IsMark, mark_held}
use Rattle.kv_types.specs.Content.{BatchContent, edits_of, mark_of}
use Rattle.kv_types.specs.Spelling.{IsBatch}
use Rattle.kv_types.specs.Maps.{last_edit, map_of}

-- a version of a key: the value that a batch left, or none where the batch deleted the key
pub record Entry : Type 0 where
  pub key : StoredKey
  pub number : ℕ
  pub value : Option (List ℕ)

-- ---- what a batch leaves, as edits of stored keys

-- an edit of a row, as one of its stored key
abbrev pub row_edit : Edit → Edit
row_edit (Put key value) = Put (row_key key) value
row_edit (Delete key) = Delete (row_key key)

-- a mark puts its request, in eight bytes, at the key of its client
abbrev pub mark_edits : Option Mark → List Edit
mark_edits None = []
mark_edits (Some mark) = Put (mark_key mark.client) (to_be_bytes w64 mark.request) ∷ []

-- the edits of a batch and what its mark puts, by stored keys
abbrev pub stored_edits : BatchContent → List Edit
stored_edits batch = map row_edit (edits_of batch) ++ mark_edits (mark_of batch)

-- ---- sets of entries: a set says of each entry whether it is among them

-- the entries of the batch with a number: of each of its stored keys, what the last edit left
abbrev pub entries_of : ℕ → BatchContent → Entry → Type 0
entries_of number batch entry =
    (entry.number ≡ number) × (last_edit (stored_edits batch) entry.key ≡ Some entry.value)

-- the entries of a list of batches, of which the first has number 1
abbrev pub all_entries : List BatchContent → Entry → Type 0
all_entries batches entry =
    (i : ℕ) × (batch : BatchContent) × (slice_get batches i ≡ Some batch)
    × entries_of (suc i) batch entry

-- ---- the view at a number: of each key its newest entry with at most that number

-- the set has the entry, and its number is at most `at`
abbrev pub IsSeen : ℕ → (Entry → Type 0) → Entry → Type 0
IsSeen at entries entry = entries entry × (entry.number ≤ at)

-- of the entries of its key that are seen at the number, the entry is the newest
pub record IsNewest (at : ℕ) (entries : Entry → Type 0) (entry : Entry) : Type 0 where
  pub seen : IsSeen at entries entry
  pub newest : (other : Entry) → IsSeen at entries other → other.key ≡ entry.key
      → other.number ≤ entry.number

-- no entry of the key is seen at the number
abbrev pub IsUnseen : ℕ → (Entry → Type 0) → StoredKey → Type 0
IsUnseen at entries key = (other : Entry) → IsSeen at entries other → other.key ≡ key → ⊥

-- in the view at the number the key has this value, or none
abbrev pub ViewShows : ℕ → (Entry → Type 0) → StoredKey → Option (List ℕ) → Type 0
ViewShows at entries key value =
    ((number : ℕ) × IsNewest at entries (record { key = key; number = number; value = value }))
    ⊎ (IsUnseen at entries key × (value ≡ None))

-- the view has the entry: it is the newest of its key, and no deletion
pub record IsShown (at : ℕ) (entries : Entry → Type 0) (entry : Entry) : Type 0 where
  pub newest : IsNewest at entries entry
  pub put : IsSome entry.value

-- ---- views of all entries

-- what the batches leave at each stored key
abbrev pub stored_map_of : List BatchContent → StoredKey → Option (List ℕ)
stored_map_of batches key = option_flatten (last_edit (flat_map stored_edits batches) key)

-- the view at a number of the entries of all batches is what so many first batches leave
abbrev pub ViewsAreStored : Type 0
ViewsAreStored =
    (batches : List BatchContent) (at : ℕ) (key : StoredKey) (value : Option (List ℕ)) →
    ViewShows at (all_entries batches) key value ↔ (stored_map_of (take at batches) key ≡ value)

-- the view of the rows is the map of so many first batches
abbrev pub ViewsAreMaps : Type 0
ViewsAreMaps =
    (batches : List BatchContent) (at : ℕ) (key : List ℕ) (value : Option (List ℕ)) →
    ViewShows at (all_entries batches) (row_key key) value ↔ (map_of (take at batches) key ≡ value)

-- what the batches leave at the key of a row is what their map has
abbrev pub RowsAreStored : Type 0
RowsAreStored =
    (batches : List BatchContent) (key : List ℕ) →
    stored_map_of batches (row_key key) ≡ map_of batches key

-- the entry of a batch with this number that bears this mark
abbrev pub mark_entry : (client request number : ℕ) → Entry
mark_entry client request number = record {
  key = mark_key client;
  number = number;
  value = Some (to_be_bytes w64 request);
}

-- an entry is that of a mark of the client which a batch may bear
pub record IsOfMark (client : ℕ) (entry : Entry) : Type 0 where
  pub mark : Mark
  pub fits : IsMark mark
  pub of_client : mark.client ≡ client
  pub value : entry.value ≡ Some (to_be_bytes w64 mark.request)

-- what entries and views of the batches have of a client
pub record ShowMarks (batches : List BatchContent) (client : ℕ) : Type 0 where
  -- the batches leave the request of the last mark
  pub left : stored_map_of batches (mark_key client)
      ≡ option_map (λ (held : ℕ × ℕ). to_be_bytes w64 held.0) (mark_held batches client)
  -- the view at a number has the entry of the last mark among so many first batches
  pub newest : (at request number : ℕ) → request < 2 ^ 64
      → IsNewest at (all_entries batches) (mark_entry client request number)
      ↔ IsLastMark (take at batches) client request number
  pub unseen : (at : ℕ) → IsUnseen at (all_entries batches) (mark_key client)
      ↔ HasNoMark (take at batches) client
  -- and no other entries are there
  pub each : (entry : Entry) → all_entries batches entry → entry.key ≡ mark_key client
      → IsOfMark client entry

-- the views of lawful batches show the last mark of each client
abbrev pub ViewsAreMarks : Type 0
ViewsAreMarks =
    (batches : List BatchContent) (client : ℕ) → All IsBatch batches → client < 2 ^ 64
    → ShowMarks batches client
