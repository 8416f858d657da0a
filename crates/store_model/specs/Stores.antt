-- The store of a node without bytes, and the list of batches that it represents.
use Rattle.std.specs.Prelude.{◌⊎◌, ℕ, ◌<◌, ◌≤◌, List, [], length, take}
use Rattle.byte_fields.specs.{StoredKey}
use Rattle.kv_types.specs.{BatchContent, Entry, IsShown, ViewShows, all_entries, stored_map_of}
use Rattle.store_model.specs.Tables.{LevelTable, AreLeveled, tables_entries}

-- the tables of a store, and so many first batches that four things concern
pub record StoreState : Type 0 where
  pub tables : List LevelTable
  pub flushed : ℕ  -- they are in tables
  pub floor : ℕ  -- the least number that can be read at
  pub kept : ℕ  -- they have been trimmed from the logs
  pub current : ℕ  -- they are not in the newest log

-- the entries of the batches that logs have and tables need not have
abbrev pub memory_entries : List BatchContent → StoreState → Entry → Type 0
memory_entries batches store entry =
    (store.kept < entry.number) × (store.flushed < entry.number) × all_entries batches entry

-- the entries in tables and in memory
abbrev pub store_entries : List BatchContent → StoreState → Entry → Type 0
store_entries batches store entry =
    tables_entries store.tables entry ⊎ memory_entries batches store entry

-- The store represents the list: its view at each number from the floor on is what so many first
-- batches leave, and what it shows is of the batches, with the number of its batch. The newest log
-- begins at or below `flushed + 1`, so that each batch that only an older log has is in tables, and
-- trimming logs loses nothing.
pub record StoreRepresents (batches : List BatchContent) (store : StoreState) : Type 0 where
  pub tables : AreLeveled store.flushed store.tables
  pub kept_floor : store.kept ≤ store.floor
  pub kept_current : store.kept ≤ store.current
  pub current_flushed : store.current ≤ store.flushed
  pub flushed_count : store.flushed ≤ length batches
  pub floor_count : store.floor ≤ length batches
  pub views : (at : ℕ) → store.floor ≤ at → at ≤ length batches → (key : StoredKey) →
      ViewShows at (store_entries batches store) key (stored_map_of (take at batches) key)
  pub real : (at : ℕ) → store.floor ≤ at → at ≤ length batches → (entry : Entry) →
      IsShown at (store_entries batches store) entry → IsShown at (all_entries batches) entry

-- a store without batches
abbrev pub empty_store : StoreState
empty_store = record { tables = []; flushed = 0; floor = 0; kept = 0; current = 0 }
