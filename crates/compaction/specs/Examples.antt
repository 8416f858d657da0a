-- Small versions, and the merges that are due in them.
use Rattle.std.specs.Prelude.{◌≡◌, ℕ, List, [], ◌∷◌, Option, Some, None, filter, map}
use Rattle.store_model.specs.{KeyRange}
use Rattle.byte_fields.specs.{StoredKey}
use Rattle.kv_types.specs.{Entry}
use Rattle.version_edits.specs.declared.TableLine.{TableLine}
use Rattle.version_edits.specs.{StoreVersion}
use Rattle.compaction.specs.Picks.{picked}
use Rattle.compaction.specs.declared.plan.Plan.{Plan}
use Rattle.compaction.specs.Plans.{is_line_input, range_of}
use Rattle.compaction.specs.Survivors.{survivors}

-- a table with keys of one letter
abbrev pub letter_line : ℕ → ℕ → ℕ → ℕ → ℕ → TableLine
letter_line level file bytes least greatest = record {
  level = level;
  file = file;
  length = bytes;
  least = least ∷ [];
  greatest = greatest ∷ [];
}

-- a version with these tables
abbrev pub version_of_tables : List TableLine → StoreVersion
version_of_tables tables = record {
  next_file = 20;
  floor = 2;
  flushed = 5;
  epoch = 0;
  ids = 1 ∷ [];
  logs = record { file = 19; first = 6 } ∷ [];
  tables = tables;
}

-- two tables in level 0, and in level 1 tables from `a` to `c`, `e` to `g` and `i` to `k`
abbrev pub crowded : StoreVersion
crowded = version_of_tables (letter_line 0 17 131 98 101 ∷ letter_line 0 18 131 102 103
    ∷ letter_line 1 7 300 97 99 ∷ letter_line 1 5 300 101 103 ∷ letter_line 1 6 300 105 107 ∷ [])

-- no table was merged out of any level
abbrev pub no_turn : ℕ → Option StoredKey
no_turn level = None

-- the table that was last merged out of each level ends at this key
abbrev pub turn_behind : ℕ → ℕ → Option StoredKey
turn_behind key level = Some (key ∷ [])

-- level 0 is merged above its limit; and else level 1, of which the table's turn it is that begins
-- behind the last one taken, and behind the last table the first again; and none where none is over
pub record PickExamples : Type 0 where
  pub level_0 : picked 1 300 no_turn crowded ≡ Some (record { level = 0; file = None; below = 20 })
  pub first : picked 2 300 no_turn crowded ≡ Some (record { level = 1; file = Some 7; below = 20 })
  pub next : picked 2 300 (turn_behind 99) crowded
      ≡ Some (record { level = 1; file = Some 5; below = 20 })
  pub around : picked 2 300 (turn_behind 107) crowded
      ≡ Some (record { level = 1; file = Some 7; below = 20 })
  pub at_limit : picked 2 900 no_turn crowded ≡ None

-- the files of the inputs of a plan, whose joint range this is
abbrev pub input_files : Plan → KeyRange → List TableLine → List ℕ
input_files plan range tables = map (λ line. line.file) (filter (is_line_input plan range) tables)

-- the joint range of level 0 is from `b` to `g`, and overlaps two tables of level 1 and not the
-- third; that of one table is its own
pub record InputExamples : Type 0 where
  pub joint : range_of (record { level = 0; file = None; below = 20 }) crowded.tables
      ≡ Some (record { least = 98 ∷ []; greatest = 103 ∷ [] })
  pub one : range_of (record { level = 1; file = Some 5; below = 20 }) crowded.tables
      ≡ Some (record { least = 101 ∷ []; greatest = 103 ∷ [] })
  pub files : input_files (record { level = 0; file = None; below = 20 })
      (record { least = 98 ∷ []; greatest = 103 ∷ [] }) crowded.tables
      ≡ 17 ∷ 18 ∷ 7 ∷ 5 ∷ []

-- key `a` with numbers 4 to 2 and key `b` with 3 and 2, where 3 of `a` and 3 of `b` are deletions
abbrev pub versions : List Entry
versions =
    record { key = 97 ∷ []; number = 4; value = Some (49 ∷ []) }
    ∷ record { key = 97 ∷ []; number = 3; value = None }
    ∷ record { key = 97 ∷ []; number = 2; value = Some (50 ∷ []) }
    ∷ record { key = 98 ∷ []; number = 3; value = None }
    ∷ record { key = 98 ∷ []; number = 2; value = Some (51 ∷ []) } ∷ []

-- At floor 3, where a deeper table may have `a` and none `b`: of `a` the newest stays, and the
-- deletion that the floor sees; of `b` nothing does. At floor 0 everything stays.
pub record SurvivorExamples : Type 0 where
  pub at_floor : survivors 3 (letter_line 3 9 131 97 97 ∷ []) versions
      ≡ record { key = 97 ∷ []; number = 4; value = Some (49 ∷ []) }
      ∷ record { key = 97 ∷ []; number = 3; value = None } ∷ []
  pub at_none : survivors 0 [] versions ≡ versions
