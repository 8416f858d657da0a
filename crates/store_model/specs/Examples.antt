-- A small store and its merge, worked out.
use Rattle.std.specs.Prelude.{◌≡◌, ℕ, List, [], ◌∷◌, Some, None, codes}
use Rattle.byte_fields.specs.{StoredKey, row_key}
use Rattle.kv_types.specs.declared.edit.Edit.TheVariants.{Put, Delete}
use Rattle.kv_types.specs.{BatchContent, unmarked}
use Rattle.kv_types.specs.Examples.{entry_at}
use Rattle.store_model.specs.Keys.{KeyRange}
use Rattle.store_model.specs.Tables.{LevelTable}
use Rattle.store_model.specs.Stores.{StoreRepresents, StoreState}
use Rattle.store_model.specs.Steps.{IsMerged, IsPlanned, MergePlan}
use Rattle.store_model.specs.LookUps.{StoreFinds}
use Rattle.store_model.specs.Logs.{left_later, trimmed_to}

-- three batches: a=1 b=1, then a=2 -b, then c=1
abbrev pub three_batches : List BatchContent
three_batches =
    unmarked (Put (codes "a") (codes "1") ∷ Put (codes "b") (codes "1") ∷ [])
    ∷ unmarked (Put (codes "a") (codes "2") ∷ Delete (codes "b") ∷ [])
    ∷ unmarked (Put (codes "c") (codes "1") ∷ [])
    ∷ []

-- the key of the row at a
abbrev pub key_a : StoredKey
key_a = row_key (codes "a")

-- the key of the row at b
abbrev pub key_b : StoredKey
key_b = row_key (codes "b")

-- the key of the row at c
abbrev pub key_c : StoredKey
key_c = row_key (codes "c")

-- from a to b
abbrev pub both_keys : KeyRange
both_keys = record { least = key_a; greatest = key_b }

-- the key a alone
abbrev pub first_key : KeyRange
first_key = record { least = key_a; greatest = key_a }

-- in level 1, the entries of the first batch
abbrev pub deep_table : LevelTable
deep_table = record {
  level = 1;
  file = 4;
  range = both_keys;
  entries = entry_at key_a 1 (Some (codes "1")) ∷ entry_at key_b 1 (Some (codes "1"))
      ∷ [];
}

-- in level 0, those of the second
abbrev pub flushed_table : LevelTable
flushed_table = record {
  level = 0;
  file = 6;
  range = both_keys;
  entries = entry_at key_a 2 (Some (codes "2")) ∷ entry_at key_b 2 None ∷ [];
}

-- two batches are in tables, and the third is in the newest of two logs
abbrev pub two_tables : StoreState
two_tables = record {
  tables = flushed_table ∷ deep_table ∷ [];
  flushed = 2;
  floor = 1;
  kept = 1;
  current = 2;
}

-- the merge of both tables
abbrev pub both_merge : MergePlan
both_merge = record {
  level = 0;
  range = both_keys;
  inputs = flushed_table ∷ deep_table ∷ [];
  tables = flushed_table ∷ deep_table ∷ [];
}

-- what it leaves at floor 2: the older a is overwritten, and b is deleted
abbrev pub merged_table : LevelTable
merged_table = record {
  level = 1;
  file = 7;
  range = first_key;
  entries = entry_at key_a 2 (Some (codes "2")) ∷ [];
}

-- what it leaves at floor 1: everything
abbrev pub full_table : LevelTable
full_table = record {
  level = 1;
  file = 7;
  range = both_keys;
  entries =
      entry_at key_a 2 (Some (codes "2"))
      ∷ entry_at key_a 1 (Some (codes "1"))
      ∷ entry_at key_b 2 None
      ∷ entry_at key_b 1 (Some (codes "1"))
      ∷ [];
}

-- the store after the merge at floor 2
abbrev pub merged_store : StoreState
merged_store =
    record { tables = merged_table ∷ []; flushed = 2; floor = 2; kept = 2; current = 2 }

-- where a read finds the keys, at several numbers
pub record StoreExamples : Type 0 where
  pub represents : StoreRepresents three_batches two_tables
  pub in_memory : StoreFinds 3 three_batches two_tables key_c (Some (Some (codes "1")))
  pub in_level_0 : StoreFinds 3 three_batches two_tables key_a (Some (Some (codes "2")))
  pub in_level_1 : StoreFinds 1 three_batches two_tables key_a (Some (Some (codes "1")))
  pub deletion : StoreFinds 2 three_batches two_tables key_b (Some None)
  pub before_deletion : StoreFinds 1 three_batches two_tables key_b (Some (Some (codes "1")))
  pub nowhere : StoreFinds 2 three_batches two_tables key_c None

-- what the merge leaves at two floors
pub record MergeExamples : Type 0 where
  pub planned : IsPlanned both_merge
  pub at_floor_2 : IsMerged 2 both_merge (merged_table ∷ [])
  pub at_floor_1 : IsMerged 1 both_merge (full_table ∷ [])
  pub too_early : IsMerged 1 both_merge (merged_table ∷ []) → ⊥
  pub too_late : IsMerged 2 both_merge (full_table ∷ []) → ⊥
  pub represents : StoreRepresents three_batches merged_store
  pub nowhere : StoreFinds 3 three_batches merged_store key_b None

-- of logs that begin after 0, 1 and 2 batches, what is trimmed at two floors
pub record TrimExamples : Type 0 where
  pub first : trimmed_to 1 0 (1 ∷ 2 ∷ []) ≡ 1
  pub not_the_newest : trimmed_to 5 0 (1 ∷ 2 ∷ []) ≡ 2
  pub left : left_later 1 (1 ∷ 2 ∷ []) ≡ 2 ∷ []

-- the key b alone
abbrev pub second_key : KeyRange
second_key = record { least = key_b; greatest = key_b }

-- in level n, the key a alone
abbrev pub a_table : ℕ → LevelTable
a_table n = record {
  level = n;
  file = 4;
  range = first_key;
  entries = entry_at key_a 1 (Some (codes "1")) ∷ [];
}

-- in level n, the key b alone
abbrev pub b_table : ℕ → LevelTable
b_table n = record {
  level = n;
  file = 6;
  range = second_key;
  entries = entry_at key_b 1 (Some (codes "1")) ∷ [];
}

-- a merge of all these tables, which are of this level and the next, over this range
abbrev pub merge_of : ℕ → KeyRange → List LevelTable → MergePlan
merge_of level range tables =
    record { level = level; range = range; inputs = tables; tables = tables }

-- which merges are planned
pub record PlanExamples : Type 0 where
  pub level_5 : IsPlanned (merge_of 5 first_key (a_table 5 ∷ []))
  pub level_6 : IsPlanned (merge_of 6 first_key (a_table 6 ∷ [])) → ⊥
  -- the table of level 1 overlaps none of level 0
  pub too_great : IsPlanned (merge_of 0 both_keys (a_table 0 ∷ b_table 1 ∷ [])) → ⊥
  pub too_small : IsPlanned (merge_of 0 both_keys (b_table 0 ∷ a_table 1 ∷ [])) → ⊥
  -- no table of level 0
  pub no_upper : IsPlanned (merge_of 0 first_key (a_table 1 ∷ [])) → ⊥
  pub nothing : IsPlanned (merge_of 0 first_key []) → ⊥
