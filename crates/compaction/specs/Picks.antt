-- Which merge is due in a version, and of which table.
use Rattle.std.specs.Prelude.{ℕ, zero, suc, ◌*◌, ◌==◌, ◌&&◌, nat_lt, if◌then◌else◌, Bool, true}
use Rattle.std.specs.Prelude.{List, [], ◌∷◌, Option, Some, None, count_by, find, sum_by}
use Rattle.std.specs.Option.{option_and_then, option_map, option_or}
use Rattle.std.specs.Ordering.{is_lt}
use Rattle.byte_fields.specs.{StoredKey, stored_cmp}
use Rattle.version_edits.specs.declared.TableLine.{TableLine}
use Rattle.version_edits.specs.{StoreVersion}
use Rattle.compaction.specs.declared.plan.Plan.{Plan}

-- ---- which level

-- the number of tables of a level
abbrev pub count_of_level : ℕ → List TableLine → ℕ
count_of_level level tables = count_by (λ line. line.level == level) tables

-- the bytes of the files of a level
abbrev pub level_bytes : ℕ → List TableLine → ℕ
level_bytes level tables =
    sum_by (λ line. if line.level == level then line.length else 0) tables

-- the most bytes of a level from 1 on: those of level 1, and ten times as many in each next level
abbrev pub level_limit : ℕ → ℕ → ℕ
level_limit base zero = base
level_limit base (suc zero) = base
level_limit base (suc (suc level)) = 10 * level_limit base (suc level)

-- level 0 has more tables than its limit, a deeper one more bytes
abbrev pub is_over : ℕ → ℕ → List TableLine → ℕ → Bool
is_over most base tables zero = nat_lt most (count_of_level 0 tables)
is_over most base tables (suc level) =
    nat_lt (level_limit base (suc level)) (level_bytes (suc level) tables)

-- the levels that tables are merged out of
abbrev pub merged_levels : List ℕ
merged_levels = 0 ∷ 1 ∷ 2 ∷ 3 ∷ 4 ∷ 5 ∷ []

-- the least of them that is over its limit
abbrev pub due_level : ℕ → ℕ → List TableLine → Option ℕ
due_level most base tables = find (is_over most base tables) merged_levels

-- ---- which table of the level

-- the table begins behind the key, where there is one
abbrev pub begins_behind : Option StoredKey → TableLine → Bool
begins_behind None line = true
begins_behind (Some key) line = is_lt (stored_cmp key line.least)

-- the first table of the level that begins behind the key
abbrev pub first_behind : ℕ → Option StoredKey → List TableLine → Option TableLine
first_behind level after tables =
    find (λ line. line.level == level && begins_behind after line) tables

-- the table whose turn it is: the first behind the key, and if there is none, the level's first
abbrev pub table_in_turn : ℕ → Option StoredKey → List TableLine → Option TableLine
table_in_turn level after tables =
    option_or (first_behind level after tables) (first_behind level None tables)

-- ---- the plan

-- the plan of a merge of the level
abbrev pub plan_of_level : (ℕ → Option StoredKey) → StoreVersion → ℕ → Option Plan
plan_of_level turn version zero =
    Some (record { level = 0; file = None; below = version.next_file })
plan_of_level turn version (suc level) =
    option_map (λ line. record {
      level = suc level;
      file = Some line.file;
      below = version.next_file;
    }) (table_in_turn (suc level) (turn (suc level)) version.tables)

-- the plan of the merge that is due
abbrev pub picked : ℕ → ℕ → (ℕ → Option StoredKey) → StoreVersion → Option Plan
picked most base turn version =
    option_and_then (plan_of_level turn version) (due_level most base version.tables)
