-- Tables of entries in levels, and which tables may stand together.
use Rattle.std.specs.Prelude.{◌≡◌, ◌⊎◌, ℕ, ◌<◌, ◌≤◌, List, Contains}
use Rattle.kv_types.specs.{Entry}
use Rattle.store_model.specs.Keys.{KeyPrecedes, KeyRange, RangeHolds, AreDisjointRanges}

-- a table as its line in the manifest gives it, with the entries that its file represents
pub record LevelTable : Type 0 where
  pub level : ℕ
  pub file : ℕ
  pub range : KeyRange
  pub entries : List Entry

-- the entries of some tables
abbrev pub tables_entries : List LevelTable → Entry → Type 0
tables_entries tables entry =
    (table : LevelTable) × Contains tables table × Contains table.entries entry

-- the entries of the tables of one level
abbrev pub level_entries : List LevelTable → ℕ → Entry → Type 0
level_entries tables level entry =
    (table : LevelTable) × Contains tables table × (table.level ≡ level)
    × Contains table.entries entry

-- the range of a table's line: its ends are in order, and it holds the keys of all entries
pub record FitsRange (table : LevelTable) : Type 0 where
  pub proper : KeyPrecedes table.range.greatest table.range.least → ⊥
  pub within : (entry : Entry) → Contains table.entries entry → RangeHolds table.range entry.key

-- the tables may stand together, where the batches up to `flushed` are in tables
pub record AreLeveled (flushed : ℕ) (tables : List LevelTable) : Type 0 where
  pub ranges : (t : LevelTable) → Contains tables t → FitsRange t
  pub numbers : (entry : Entry) → tables_entries tables entry → entry.number ≤ flushed
  -- no two entries share key and number
  pub unique : (t u : LevelTable) → Contains tables t → Contains tables u → (a b : Entry)
      → Contains t.entries a → Contains u.entries b → a.key ≡ b.key → a.number ≡ b.number
      → (t ≡ u) × (a ≡ b)
  -- of one key, a lesser level has greater numbers than a deeper one
  pub newer : (t u : LevelTable) → Contains tables t → Contains tables u → t.level < u.level
      → (a b : Entry) → Contains t.entries a → Contains u.entries b → a.key ≡ b.key
      → b.number < a.number
  -- from level 1 on, the tables of a level do not overlap
  pub disjoint : (t u : LevelTable) → Contains tables t → Contains tables u → t.level ≡ u.level
      → 0 < t.level → (t ≡ u) ⊎ AreDisjointRanges t.range u.range
