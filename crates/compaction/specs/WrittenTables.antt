-- What a merge writes: the entries that it leaves, cut into tables.
use Rattle.std.specs.Prelude.{◌≡◌, ℕ, suc, ◌&&◌, nat_le, not, if◌then◌else◌, Bool, true, false}
use Rattle.std.specs.Prelude.{List, [], ◌∷◌, ◌++◌, Option, Some, None, IfSome, bytes_eq}
use Rattle.std.specs.List.{AllZip, flat_map, fold}
use Rattle.kv_types.specs.{Entry}
use Rattle.version_edits.specs.declared.TableLine.{TableLine}
use Rattle.table_builder.specs.{data_size, first_entry}
use Rattle.table_format.specs.{last_entry}
use Rattle.store_model.specs.{IsMerged, LevelTable, MergePlan}
use Rattle.compaction.specs.Survivors.{AreDeeperLines, IsSortedUnion, is_dropped, survivors}

-- what was written: the entry before, the entries of each complete table, and those of the one
-- that is open
pub record Written : Type 0 where
  pub before : Option Entry
  pub closed : List (List Entry)
  pub opened : List Entry

-- the entry has another key than the one before it
abbrev pub has_new_key : Option Entry → Entry → Bool
has_new_key None entry = true
has_new_key (Some before) entry = not (bytes_eq before.key entry.key)

-- the open table has its data, and so a new one begins before the entry
abbrev pub is_cut : ℕ → Option Entry → List Entry → Entry → Bool
is_cut target before [] entry = false
is_cut target before (first ∷ others) entry =
    nat_le target (data_size (first ∷ others)) && has_new_key before entry

-- what was written, with the open table complete if a new one begins before the entry
abbrev pub cut_before : ℕ → Written → Entry → Written
cut_before target it entry =
    if is_cut target it.before it.opened entry
    then record it { closed = it.closed ++ it.opened ∷ []; opened = [] }
    else it

-- what was written, with one entry more in the open table
abbrev pub with_written : Written → Entry → Written
with_written it entry = record it { opened = it.opened ++ entry ∷ [] }

-- what is written with the next entry, which is dropped or written
abbrev pub with_next : ℕ → List TableLine → ℕ → Written → Entry → Written
with_next floor deeper target it entry = record
    (if is_dropped floor deeper it.before entry
    then it
    else with_written (cut_before target it entry) entry)
    { before = Some entry }

-- what is written before the first entry
abbrev pub nothing_written : Written
nothing_written = record { before = None; closed = []; opened = [] }

-- what is written of these entries, which stand in order
abbrev pub written_of : ℕ → List TableLine → ℕ → List Entry → Written
written_of floor deeper target entries =
    fold (with_next floor deeper target) nothing_written entries

-- the open table, if it has entries
abbrev pub open_table : List Entry → List (List Entry)
open_table [] = []
open_table (first ∷ others) = (first ∷ others) ∷ []

-- the entries of each table, those of the open one last
abbrev pub tables_of : Written → List (List Entry)
tables_of it = it.closed ++ open_table it.opened

-- ---- the theorems

-- table after table, the entries that are written are the survivors
abbrev pub WrittenAreSurvivors : Type 0
WrittenAreSurvivors =
    (floor : ℕ) (deeper : List TableLine) (target : ℕ) (entries : List Entry) →
    flat_map (λ table. table) (tables_of (written_of floor deeper target entries))
    ≡ survivors floor deeper entries

-- a table of the level that has these entries, with a range from the first to the last
pub record IsTableOver (level : ℕ) (table : LevelTable) (entries : List Entry) : Type 0 where
  pub at : table.level ≡ level
  pub all : table.entries ≡ entries
  pub least : IfSome (first_entry entries) (λ entry. table.range.least ≡ entry.key)
  pub greatest : IfSome (last_entry entries) (λ entry. table.range.greatest ≡ entry.key)

-- The tables have what a merge of the plan writes at this floor of the sorted union of its inputs,
-- where so many bytes of data complete a table.
pub record AreWrittenTables (floor target : ℕ) (plan : MergePlan) (outputs : List LevelTable)
    : Type 0 where
  pub deeper : List TableLine
  pub entries : List Entry
  pub lines : AreDeeperLines plan deeper
  pub union : IsSortedUnion plan.inputs entries
  pub tables : AllZip (IsTableOver (suc plan.level)) outputs
      (tables_of (written_of floor deeper target entries))

-- the tables that a merge writes are its outputs
abbrev pub WrittenAreMerged : Type 0
WrittenAreMerged =
    (floor target : ℕ) (plan : MergePlan) (outputs : List LevelTable) →
    AreWrittenTables floor target plan outputs → IsMerged floor plan outputs
