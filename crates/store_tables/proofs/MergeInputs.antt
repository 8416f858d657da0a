-- Cursors over the inputs of a merge.
use Rattle.std.proofs.Common.{◌≡◌, ◌≢◌, ◌≤◌, ℕ, List, [], ◌∷◌, Contains, Some, inl, inr, ap}
use Rattle.std.proofs.Common.{length, refl, subst, sym, take}
use Rattle.std.specs.List.{AllZip, filter}
use Rattle.std.proofs.lemmas.List.{take_all}
use Rattle.std.proofs.lemmas.List.Kept.{AllPairs-filter}
use Rattle.disk.specs.declared.Disk.{Ghosts as DiskGhosts}
use Rattle.disk.specs.{Slot, State}
use Rattle.kv_types.specs.{Entry}
use Rattle.merge_iter.specs.declared.Cursor.{Ghosts}
use Rattle.sorted_table.specs.{TableServes, table_file}
use Rattle.store_model.specs.{AreLeveled, KeyRange, LevelTable}
use Rattle.store_model.specs.PlacesLemmas.{contains_cases, contains_head, contains_next}
use Rattle.store_model.specs.PlacesLemmas.{contains_none}
use Rattle.version_edits.specs.declared.TableLine.{TableLine}
use Rattle.compaction.specs.EditsLemmas.{zip_filter}
use Rattle.compaction.specs.Merges.{AreCursorsOf, AreIntactCursors}
use Rattle.compaction.specs.Plans.{IsLineOf, is_input, is_line_input, model_plan}
use Rattle.compaction.specs.Walks.{table_files}
use Rattle.compaction.specs.declared.plan.Plan.{Plan}
use Rattle.store_tables.specs.declared.levels.OpenTable.{OpenTable}
use Rattle.store_tables.specs.declared.levels.LevelTables.{LevelTables}
use Rattle.store_tables.specs.LevelTablesLemmas.{open_as_itself}
use Rattle.store_tables.specs.LevelTables.{IsServed, WasServed}
use Rattle.store_tables.specs.MergeTables.{HaveInputs}
use Rattle.store_tables.specs.RangeReads.{HasTable, HaveOwnFiles}
use Rattle.store_tables.proofs.RangeTables.{all_apart, all_entries_of, at_place, beside_left}
use Rattle.store_tables.proofs.RangeTables.{each_sound, kept_was}
use Rattle.store_tables.proofs.ZipLemmas.{zip_among, zip_both, zip_mapped, zip_through}

-- a table's file is one of the tables' files
file_of : (tables : List LevelTable) (t : LevelTable) → Contains tables t
    → Contains (table_files tables) t.file
file_of [] t has = absurd (contains_none t has)
file_of (u ∷ tables) t has = elim (contains_cases u tables t has) [
  | inl is ↦ subst (Contains (u.file ∷ table_files tables)) (ap (λ (x : LevelTable). x.file) is)
      (contains_head u.file (table_files tables))
  | inr later ↦ contains_next u.file (table_files tables) t.file (file_of tables t later)
]

-- the line of a table is an input where the table is
input_alike : (plan : Plan) (range : KeyRange) (line : TableLine) (t : LevelTable) → IsLineOf line t
    → is_line_input plan range line ≡ is_input plan range t.level t.file t.range
input_alike plan range line t is = rw (is.level, is.file, is.range) refl

-- no two entries of these tables share key and number, but in one table
abbrev AreUnique : List LevelTable → Type 0
AreUnique tables = (t u : LevelTable) → Contains tables t → Contains tables u → (a b : Entry)
    → Contains t.entries a → Contains u.entries b → a.key ≡ b.key → a.number ≡ b.number → t ≡ u

module _ {C F : Type 0} (c : Ghosts C F) (d : DiskGhosts F) (as_meant : State → c.Meant) where
  -- the cursor has the entries of each table that the open one serves, and reads its file alone
  pub record IsOverTable (cursor : C) (it : OpenTable) : Type 0 where
    pub serves : (meant : State) (files : F) (table : LevelTable) → d.is_honest files
        → WasServed (d.state files) meant it table
        → HasTable c (as_meant meant) files cursor table
    pub suits : (a b : F) → (d.is_honest a → d.is_honest b
        × (d.state b (table_file it.table) ≡ d.state a (table_file it.table)))
        → c.suits cursor a b

  module _ (cursors : List C) (opened : List OpenTable) (inputs : List LevelTable)
      (over : AllZip IsOverTable cursors opened) (unique : AreUnique inputs)
      (own : HaveOwnFiles inputs) where
    -- each has the entries of its input
    have_tables : (meant : State) (files : F) → d.is_honest files
        → AllZip (WasServed (d.state files) meant) opened inputs
        → AllZip (HasTable c (as_meant meant) files) cursors inputs
    have_tables meant files honest was =
        zip_through IsOverTable (WasServed (d.state files) meant)
        (HasTable c (as_meant meant) files) cursors opened inputs
        (λ cursor it t one served. one.serves meant files t honest served) over was

    -- they are those of the inputs, as the files were meant
    pub are_cursors : (meant : State) (files : F) → d.is_honest files
        → AllZip (WasServed (d.state files) meant) opened inputs
        → AreCursorsOf c d (as_meant meant) files cursors inputs
    are_cursors meant files honest was =
        let zip = have_tables meant files honest was in
        record {
          sound = each_sound c (as_meant meant) files cursors inputs zip;
          disjoint = all_apart c (as_meant meant) files cursors inputs zip unique own;
          alike = all_entries_of c (as_meant meant) files cursors inputs zip;
          reads = λ a b same i one is.
              let it = beside_left IsOverTable cursors opened over i one is in
              let t = beside_left (WasServed (d.state files) meant) opened inputs was i it.0 it.1 in
              it.2.suits a b (λ fine.
              let both = same fine in (
                both.0,
                subst (λ (f : ℕ). d.state b f ≡ d.state a f) t.2.serves.file
                    (both.1 t.0.file (file_of inputs t.0 (at_place inputs i t.0 t.1))),
              ));
        }

    -- where the open tables serve the inputs, they find no damage
    pub are_intact : ((files : F) → c.is_intact (as_meant (d.state files)) files) → (files : F)
        → AllZip (IsServed (d.state files)) opened inputs
        → AreIntactCursors c d files cursors inputs
    are_intact intact files served = λ other same.
        let s = d.state other in
        let here = zip_among (IsServed (d.state files)) (WasServed s s) opened inputs
        (λ it t there one.
        let file = subst (λ (f : ℕ). s f ≡ d.state files f) one.file
        (same.1 t.file (file_of inputs t there)) in
        record {
          serves = record {
            level = one.level;
            file = one.file;
            range = one.range;
            serves = subst (λ (slot : Slot). TableServes slot it.table t.entries) (sym file)
                one.serves;
          };
          blocks = open_as_itself (s (table_file it.table)) it.table;
        }) served in
        let zip = have_tables s other same.0 here in (
          as_meant s,
          each_sound c (as_meant s) other cursors inputs zip,
          all_apart c (as_meant s) other cursors inputs zip unique own,
          intact other,
        )

-- ---- the inputs among the open tables

-- of open tables and of those that they serve, the inputs
pub inputs_beside : (R : OpenTable → LevelTable → Type 0) (plan : Plan) (range : KeyRange)
    (lines : List TableLine) (it : LevelTables) (tables : List LevelTable)
    → HaveInputs plan range lines it tables → AllZip R it.tables.items tables
    → AllZip R (filter (λ one. is_line_input plan range one.line) it.tables.items)
    (model_plan plan range tables).inputs
inputs_beside R plan range lines it tables have zip =
    let items = it.tables.items in
    let named = zip_mapped IsLineOf (λ (one : OpenTable). one.line) items tables
    (subst (λ (l : List TableLine). AllZip IsLineOf l tables) (sym have.open_lines) have.named) in
    let both = zip_both R (λ (one : OpenTable) (t : LevelTable). IsLineOf one.line t) items tables
    zip named in
    let q = λ (t : LevelTable). is_input plan range t.level t.file t.range in
    let p = λ (one : OpenTable). is_line_input plan range one.line in
    zip_among (λ (one : OpenTable) (t : LevelTable). R one t × IsLineOf one.line t) R
    (filter p items) (filter q tables) (λ x y there r. r.0)
    (zip_filter (λ (one : OpenTable) (t : LevelTable). R one t × IsLineOf one.line t) p q
    (λ x y r. input_alike plan range x.line y r.1) items tables both)

-- the inputs share no key and number
pub inputs_unique : (plan : Plan) (range : KeyRange) (flushed : ℕ) (tables : List LevelTable)
    → AreLeveled flushed tables → AreUnique (model_plan plan range tables).inputs
inputs_unique plan range flushed tables leveled t u has_t has_u a b in_t in_u key number =
    let q = λ (t : LevelTable). is_input plan range t.level t.file t.range in
    (leveled.unique t u (kept_was q tables t has_t) (kept_was q tables u has_u) a b in_t in_u key
    number).0

-- and have files of their own
pub inputs_own : (plan : Plan) (range : KeyRange) (tables : List LevelTable) → HaveOwnFiles tables
    → HaveOwnFiles (model_plan plan range tables).inputs
inputs_own plan range tables own =
    AllPairs-filter (λ (a : LevelTable) (b : LevelTable). a.file ≢ b.file)
    (λ (t : LevelTable). is_input plan range t.level t.file t.range) tables own

-- a loop that has passed all open tables has passed all inputs
pub all_passed : {C : Type 0} (R : C → OpenTable → Type 0) (plan : Plan) (has range : KeyRange)
    (items passed : List OpenTable) (i : ℕ) (cursors : List C) → passed ≡ items
    → length passed ≤ i → Some has ≡ Some range
    → AllZip R cursors (filter (λ one. is_line_input plan has one.line) (take i items))
    → AllZip R cursors (filter (λ one. is_line_input plan range one.line) items)
all_passed R plan has range items passed i cursors same le joint so_far =
    let past = subst (λ (l : List OpenTable). length l ≤ i) same le in
    let one : has ≡ range = cc in
    subst (λ (r : KeyRange). AllZip R cursors (filter (λ one. is_line_input plan r one.line) items))
    one
    (subst (λ (l : List OpenTable). AllZip R cursors
    (filter (λ one. is_line_input plan has one.line) l)) (take_all i items past) so_far)
