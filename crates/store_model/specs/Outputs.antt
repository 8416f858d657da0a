-- The outputs of a merge: their ranges, and how the order in which they are written gives these.
use Rattle.std.specs.Prelude.{◌≡◌, ◌⊎◌, ℕ, suc, List, length, All, AllPairs, Contains, slice_get}
use Rattle.std.specs.Prelude.{Some}
use Rattle.kv_types.specs.{Entry}
use Rattle.store_model.specs.Keys.{AreDisjointRanges, KeyPrecedes}
use Rattle.store_model.specs.Tables.{FitsRange, LevelTable}

-- the ranges hold the keys of the tables and end at such keys, and no two overlap
pub record HaveOwnRanges (tables : List LevelTable) : Type 0 where
  pub ranges : (t : LevelTable) → Contains tables t → FitsRange t
  pub least : (t : LevelTable) → Contains tables t
      → (entry : Entry) × Contains t.entries entry × (entry.key ≡ t.range.least)
  pub greatest : (t : LevelTable) → Contains tables t
      → (entry : Entry) × Contains t.entries entry × (entry.key ≡ t.range.greatest)
  pub disjoint : (t u : LevelTable) → Contains tables t → Contains tables u
      → (t ≡ u) ⊎ AreDisjointRanges t.range u.range

-- the table was written in order of keys, and its range is from the first key to the last
pub record IsInKeyOrder (table : LevelTable) : Type 0 where
  pub rise : AllPairs (λ a b. KeyPrecedes b.key a.key → ⊥) table.entries
  pub first : Entry
  pub begins : slice_get table.entries 0 ≡ Some first
  pub least : first.key ≡ table.range.least
  pub place : ℕ
  pub count : length table.entries ≡ suc place
  pub last : Entry
  pub ends : slice_get table.entries place ≡ Some last
  pub greatest : last.key ≡ table.range.greatest

-- the tables were written in order of keys, and no key is in two of them
pub record AreInKeyOrder (tables : List LevelTable) : Type 0 where
  pub each : All IsInKeyOrder tables
  pub rise : AllPairs (λ t u. KeyPrecedes t.range.greatest u.range.least) tables
