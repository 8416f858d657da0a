-- How a read looks a key up, and what an opening replays.
use Rattle.std.specs.Prelude.{◌≡◌, ◌⊎◌, ℕ, suc, ◌+◌, ◌<◌, List, Contains, slice_get}
use Rattle.std.specs.Prelude.{Option, Some, None}
use Rattle.byte_fields.specs.{StoredKey}
use Rattle.kv_types.specs.{BatchContent, Entry, IsNewest, IsUnseen, entries_of}
use Rattle.store_model.specs.Tables.{LevelTable, level_entries}
use Rattle.store_model.specs.Stores.{StoreState, memory_entries}

-- ---- a lookup

-- of the entries of the key that are seen at the number, the newest has this value
abbrev pub NewestHas : ℕ → (Entry → Type 0) → StoredKey → Option (List ℕ) → Type 0
NewestHas at entries key value =
    (number : ℕ) × IsNewest at entries (record { key = key; number = number; value = value })

-- the table has no entry of the key that is seen at the number
abbrev pub TableLacks : ℕ → LevelTable → StoredKey → Type 0
TableLacks at table key = IsUnseen at (λ entry. Contains table.entries entry) key

-- memory has no entry of the key that is seen at the number, nor has a table above the level
pub record AboveLacks (at : ℕ) (batches : List BatchContent) (store : StoreState) (key : StoredKey)
    (level : ℕ) : Type 0 where
  pub memory : IsUnseen at (memory_entries batches store) key
  pub tables : (t : LevelTable) → Contains store.tables t → t.level < level → TableLacks at t key

-- a lookup looks in memory and then in each level, and stops at the first that has an entry
abbrev pub StoreFinds : ℕ → List BatchContent → StoreState → StoredKey → Option (Option (List ℕ))
    → Type 0
StoreFinds at batches store key (Some value) =
    NewestHas at (memory_entries batches store) key value
    ⊎ ((level : ℕ) × AboveLacks at batches store key level
    × NewestHas at (level_entries store.tables level) key value)
StoreFinds at batches store key None =
    IsUnseen at (memory_entries batches store) key
    × ((t : LevelTable) → Contains store.tables t → TableLacks at t key)

-- of the entry's key, a lookup in memory and then in each level stops at the entry
abbrev pub StoreStopsAt : ℕ → List BatchContent → StoreState → Entry → Type 0
StoreStopsAt at batches store entry =
    IsNewest at (memory_entries batches store) entry
    ⊎ ((level : ℕ) × AboveLacks at batches store entry.key level
    × IsNewest at (level_entries store.tables level) entry)

-- ---- an opening

-- the entries of the batches that the logs give from place `kept` on, numbered above `flushed`
abbrev pub replayed_entries : ℕ → ℕ → List BatchContent → Entry → Type 0
replayed_entries kept flushed logged entry =
    (i : ℕ) × (batch : BatchContent) × (slice_get logged i ≡ Some batch)
    × entries_of (suc (kept + i)) batch entry × (flushed < entry.number)
