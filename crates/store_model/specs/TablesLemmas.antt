-- Tables that may stand together have the entries of a key in few places.
use Rattle.std.proofs.Common.{◌≡◌, inl, inr, ℕ, ◌<◌, List, Contains, sym, subst}
use Rattle.byte_fields.specs.{StoredKey}
use Rattle.kv_types.specs.{Entry}
use Rattle.store_model.specs.Keys.{RangeHolds}
use Rattle.store_model.specs.KeysLemmas.{disjoint_keys}
use Rattle.store_model.specs.Tables.{AreLeveled, LevelTable, level_entries}

module _ (flushed : ℕ) (tables : List LevelTable) (ok : AreLeveled flushed tables) where
  -- from level 1 on, at most one table of a level can have the key
  pub one_table : (t u : LevelTable) → Contains tables t → Contains tables u → t.level ≡ u.level
      → 0 < t.level → (key : StoredKey) → RangeHolds t.range key → RangeHolds u.range key → t ≡ u
  one_table t u in_t in_u eq pos key p q = elim (ok.disjoint t u in_t in_u eq pos) [
    | inl is ↦ is
    | inr side ↦ absurd (disjoint_keys t.range u.range key side p q)
  ]

  -- so it has all entries of the key in its level
  pub table_has_key : (t : LevelTable) → Contains tables t → 0 < t.level → (entry : Entry)
      → RangeHolds t.range entry.key → level_entries tables t.level entry
      → Contains t.entries entry
  table_has_key t in_t pos entry holds it =
      let u = it.0 in
      let within = (ok.ranges u it.1).within entry it.3 in
      let is = one_table t u in_t it.1 (sym it.2) pos entry.key holds within in
      subst (λ (z : LevelTable). Contains z.entries entry) (sym is) it.3
