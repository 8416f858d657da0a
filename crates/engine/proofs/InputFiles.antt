-- The files of the inputs of a merge: where each reads as it was meant to, no damage is met.
use Rattle.std.proofs.Common.{◌≡◌, ◌∙◌, ◌≤◌, ℕ, List, [], ◌∷◌, Option, Some, None, ap, arith, refl}
use Rattle.std.proofs.Common.{Bool, true, false, inl, inr, length, map, subst, sym, eqb-true}
use Rattle.std.proofs.Common.{eq-eqb}
use Rattle.std.proofs.lemmas.Bool.{cases_Bool}
use Rattle.std.proofs.lemmas.List.Elements.{All-cons, All-contains, All-filter, All-head, All-nil}
use Rattle.std.proofs.lemmas.List.Elements.{All-tail, filter_passes}
use Rattle.std.specs.List.{AllZip, filter, list_any}
use Rattle.std.specs.Option.{option_map_or}
use Rattle.std.specs.Prelude.{◌==◌, ◌&&◌, All, Contains, IsSomeAnd, if◌then◌else◌, not, slice_get}
use Rattle.std.specs.Rc.{rc_slice_items}
use Rattle.disk.specs.{Slot, State, contents, seen}
use Rattle.disk.specs.declared.Disk.{Ghosts}
use Rattle.kv_types.specs.{Entry}
use Rattle.version_edits.specs.declared.TableLine.{TableLine}
use Rattle.compaction.specs.declared.Plan.{Plan}
use Rattle.compaction.specs.{IsLineOf, model_plan, range_of}
use Rattle.compaction.specs.Inputs.{line_name}
use Rattle.compaction.specs.Merges.{AreCursorsOf, AreIntactCursors, table_name}
use Rattle.compaction.specs.Plans.{is_input, is_line_input}
use Rattle.compaction.specs.Walks.{table_files}
use Rattle.store_model.specs.{AreLeveled, KeyRange, LevelTable}
use Rattle.store_model.specs.PlacesLemmas.{contains_cases, contains_head, contains_next}
use Rattle.store_model.specs.PlacesLemmas.{contains_none}
use Rattle.sorted_table.specs.{FileRepresents, TableServes, as_meant_itself, table_file}
use Rattle.sorted_table.specs.TableCursorLaws.{one_list}
use Rattle.sorted_table.specs.TableCursors.{CursorServes, FileHolds}
use Rattle.sorted_table.specs.declared.TableCursor.{TableCursor}
use Rattle.store_tables.specs.declared.levels.OpenTable.{OpenTable}
use Rattle.store_tables.specs.LevelTablesLemmas.{open_as_itself}
use Rattle.store_tables.specs.LevelTables.{IsOpenAsMeant, IsTableAsMeant, IsTableOf, WasServed}
use Rattle.table_files.specs.{inner_disk}
use Rattle.table_files.specs.declared.cached_disk.CachedDisk.{CachedDisk}
use Rattle.engine.specs.DamagedInputs.{AreReadAsMeant, WasRepresented, names_of_inputs}
use Rattle.engine.specs.LentFiles.{files_ghosts, table_ghosts}
use Rattle.engine.proofs.TestedLists.{finds, found_one, is_kept, kept_was, zip_among, zip_beside}

-- the inputs of a plan are among the tables
pub inputs_among : (plan : Plan) (range : KeyRange) (tables : List LevelTable) (t : LevelTable) →
    Contains (model_plan plan range tables).inputs t → Contains tables t
inputs_among plan range =
    kept_was (λ (t : LevelTable). is_input plan range t.level t.file t.range)

-- of both that hold, each does
both_hold : (p q : Bool) → not p && q ≡ true → (p ≡ false) × (q ≡ true)
both_hold true q both = absurd cc
both_hold false q both = (cc, both)

-- of a list that has some, the first
first_of : (entries : List Entry) → 1 ≤ length entries → (e : Entry) × Contains entries e
first_of [] some = absurd (omega (arith, some))
first_of (e ∷ entries) some = (e, contains_head e entries)

-- ---- the names of the inputs

-- the line of a table is an input where the table is
input_alike : (plan : Plan) (range : KeyRange) (line : TableLine) (t : LevelTable) →
    IsLineOf line t → is_line_input plan range line ≡ is_input plan range t.level t.file t.range
input_alike plan range line t is = rw (is.level, is.file, is.range) refl

-- and has its name
name_alike : (line : TableLine) (t : LevelTable) → IsLineOf line t → line_name line ≡ table_name t
name_alike line t is = rw (is.level, is.file) refl

-- the lines of inputs have the names of the inputs
same_names : (plan : Plan) (range : KeyRange) (lines : List TableLine) (tables : List LevelTable) →
    AllZip IsLineOf lines tables → map line_name (filter (is_line_input plan range) lines)
    ≡ map table_name (model_plan plan range tables).inputs
same_names plan range [] [] zip = refl
same_names plan range [] (t ∷ tables) zip = absurd zip
same_names plan range (line ∷ lines) [] zip = absurd zip
same_names plan range (line ∷ lines) (t ∷ tables) zip =
    let rest = same_names plan range lines tables zip.1 in
    let alike = input_alike plan range line t zip.0 in
    let name = name_alike line t zip.0 in
    elim (cases_Bool (is_line_input plan range line)) [
      | inl kept ↦ rw (kept, sym alike ∙ kept) cc
      | inr out ↦ rw (out, sym alike ∙ out) rest
    ]

pub names_are : (plan : Plan) (range : KeyRange) (lines : List TableLine)
    (tables : List LevelTable) → range_of plan lines ≡ Some range → AllZip IsLineOf lines tables →
    names_of_inputs plan lines ≡ map table_name (model_plan plan range tables).inputs
names_are plan range lines tables joint zip =
    ap (λ (o : Option KeyRange). option_map_or (λ r. map line_name
    (filter (is_line_input plan r) lines)) o []) joint ∙ same_names plan range lines tables zip

-- ---- what files were meant to represent

-- the second of two that hold
second_of : (P Q : List ℕ → Type 0) (file : Option (List ℕ)) →
    IsSomeAnd file (λ bytes. P bytes × Q bytes) → IsSomeAnd file Q
second_of P Q None it = it
second_of P Q (Some bytes) it = it.1

module _ (disk meant : State) where
  -- the file of a line was meant to represent the table that the line names
  was_one : (line : TableLine) (t : LevelTable) → IsTableOf (contents meant) line t →
      IsTableAsMeant (disk line.file) (meant line.file) → WasRepresented disk meant t
  was_one line t is as_meant = record {
    represents = subst (λ (f : ℕ). FileRepresents (meant f) t.entries) (sym is.file)
        (second_of _ _ (seen (meant line.file)) is.represents);
    as_meant = subst (λ (f : ℕ). IsTableAsMeant (disk f) (meant f)) (sym is.file) as_meant;
  }

  were_all : (lines : List TableLine) (tables : List LevelTable) →
      AllZip (IsTableOf (contents meant)) lines tables →
      All (λ line. IsTableAsMeant (disk line.file) (meant line.file)) lines →
      All (WasRepresented disk meant) tables
  were_all [] [] zip all = All-nil (WasRepresented disk meant)
  were_all [] (t ∷ tables) zip all = absurd zip
  were_all (line ∷ lines) [] zip all = absurd zip
  were_all (line ∷ lines) (t ∷ tables) zip all =
      let P = λ (l : TableLine). IsTableAsMeant (disk l.file) (meant l.file) in
      All-cons (WasRepresented disk meant) t tables
      (was_one line t zip.0 (All-head P line lines all))
      (were_all lines tables zip.1 (All-tail P line lines all))

  -- so were those of the inputs
  pub were_inputs : (plan : Plan) (range : KeyRange) (lines : List TableLine)
      (tables : List LevelTable) → AllZip (IsTableOf (contents meant)) lines tables →
      All (λ line. IsTableAsMeant (disk line.file) (meant line.file)) lines →
      All (WasRepresented disk meant) (model_plan plan range tables).inputs
  were_inputs plan range lines tables zip all =
      All-filter (λ (t : LevelTable). is_input plan range t.level t.file t.range)
      (WasRepresented disk meant) tables (were_all lines tables zip all)

-- what the file of a table of a list is, is said of each file of theirs
each_file : (tables : List LevelTable) (P : ℕ → Type 0) →
    ((file : ℕ) → Contains (table_files tables) file → P file) → (t : LevelTable) →
    Contains tables t → P t.file
each_file [] P each t has = absurd (contains_none t has)
each_file (u ∷ tables) P each t has = elim (contains_cases u tables t has) [
  | inl is ↦ subst (λ (x : LevelTable). P x.file) is
      (each u.file (contains_head u.file (table_files tables)))
  | inr later ↦ each_file tables P
      (λ file there. each file (contains_next u.file (table_files tables) file there)) t later
]

module _ (old new meant : State) where
  -- files that are as they were were meant to be the same
  pub were_on : (tables : List LevelTable) →
      ((t : LevelTable) → Contains tables t → new t.file ≡ old t.file) →
      All (WasRepresented old meant) tables → All (WasRepresented new meant) tables
  were_on [] same all = All-nil (WasRepresented new meant)
  were_on (t ∷ tables) same all =
      let one = All-head (WasRepresented old meant) t tables all in
      All-cons (WasRepresented new meant) t tables (record {
        represents = one.represents;
        as_meant = subst (λ (s : Slot). IsTableAsMeant s (meant t.file))
            (sym (same t (contains_head t tables))) one.as_meant;
      })
      (were_on tables (λ u there. same u (contains_next t tables u there))
      (All-tail (WasRepresented old meant) t tables all))

  -- and where they read so now, they did
  pub read_before : (tables : List LevelTable) →
      ((t : LevelTable) → Contains tables t → new t.file ≡ old t.file) →
      AreReadAsMeant new meant tables → AreReadAsMeant old meant tables
  read_before [] same all = All-nil (λ (t : LevelTable). seen (old t.file) ≡ seen (meant t.file))
  read_before (t ∷ tables) same all =
      let N = λ (u : LevelTable). seen (new u.file) ≡ seen (meant u.file) in
      All-cons (λ (u : LevelTable). seen (old u.file) ≡ seen (meant u.file)) t tables
      (ap (λ (s : Slot). seen s) (sym (same t (contains_head t tables)))
      ∙ All-head N t tables all)
      (read_before tables (λ u there. same u (contains_next t tables u there))
      (All-tail N t tables all))

-- files that are the same by their numbers
pub same_files_of : (old new : State) (tables : List LevelTable) →
    ((file : ℕ) → Contains (table_files tables) file → new file ≡ old file) → (t : LevelTable) →
    Contains tables t → new t.file ≡ old t.file
same_files_of old new tables = each_file tables (λ file. new file ≡ old file)

-- ---- cursors over the inputs

module _ {D : Type 0} (g : Ghosts D) (plan : Plan) (range : KeyRange) (a : CachedDisk D g)
    (meant : State) (items : List OpenTable) (tables : List LevelTable) (flushed : ℕ)
    (leveled : AreLeveled flushed tables)
    (served : AllZip (WasServed (g.state (inner_disk a)) meant) items tables) where
  abbrev pub disk : State
  disk = g.state (inner_disk a)

  abbrev pub is_in : LevelTable → Bool
  is_in t = is_input plan range t.level t.file t.range

  abbrev pub inputs : List LevelTable
  inputs = filter is_in tables

  -- the table is no input, and has this file
  abbrev pub is_out : ℕ → LevelTable → Bool
  is_out file t = not (is_in t) && (t.file == file)

  -- the files of the tables that are no inputs as they were meant, and others as the disk has them
  abbrev pub mixed : State
  mixed file = if list_any (is_out file) tables then meant file else disk file

  as_disk : (file : ℕ) → list_any (is_out file) tables ≡ false → mixed file ≡ disk file
  as_disk file none = ap (λ (b : Bool). if b then meant file else disk file) none

  as_was : (file : ℕ) → list_any (is_out file) tables ≡ true → mixed file ≡ meant file
  as_was file out = ap (λ (b : Bool). if b then meant file else disk file) out

  -- the file of a table was meant to represent its entries, of which there are some
  represents : (t : LevelTable) → Contains tables t →
      FileRepresents (meant t.file) t.entries × (1 ≤ length t.entries)
  represents t has =
      let one = (zip_beside (WasServed disk meant) items tables served t has).2 in
      let it = one.serves.serves in (
        subst (λ (f : ℕ). FileRepresents (meant f) t.entries) (sym one.serves.file)
            (rw it.present (record { format = _; table = it.represents })),
        it.represents.some,
      )

  -- tables that have an entry in common are one
  one_table : (t u : LevelTable) → Contains tables t → Contains tables u → (e : Entry) →
      Contains t.entries e → Contains u.entries e → t ≡ u
  one_table t u has there e in_t in_u =
      (leveled.unique t u has there e e in_t in_u refl refl).0

  -- and so are tables with one file
  one_file : (t u : LevelTable) → Contains tables t → Contains tables u → u.file ≡ t.file → t ≡ u
  one_file t u has there same =
      let x = represents t has in
      let y = represents u there in
      let entries : t.entries ≡ u.entries = one_list (meant t.file) t.entries u.entries x.0
      (subst (λ (f : ℕ). FileRepresents (meant f) u.entries) same y.0) in
      let e = first_of t.entries x.1 in
      one_table t u has there e.0 e.1 (subst (λ l. Contains l e.0) entries e.1)

  -- the file of an input is that of no other table
  in_file : (t : LevelTable) → Contains tables t → is_in t ≡ true → mixed t.file ≡ disk t.file
  in_file t has in_it = elim (cases_Bool (list_any (is_out t.file) tables)) [
    | inl out ↦
        let one = found_one (is_out t.file) tables out in
        let u = one.0 in
        let parts = both_hold (is_in u) (u.file == t.file) one.2 in
        let same : t ≡ u = one_file t u has one.1 (eqb-true u.file t.file parts.1) in
        let passes : is_in u ≡ true = subst (λ (x : LevelTable). is_in x ≡ true) same in_it in
        let fails = parts.0 in
        absurd cc
    | inr none ↦ as_disk t.file none
  ]

  -- that of another table is as it was meant
  out_file : (t : LevelTable) → Contains tables t → is_in t ≡ false → mixed t.file ≡ meant t.file
  out_file t has out =
      let same = eq-eqb t.file t.file refl in
      as_was t.file (finds (is_out t.file) tables t has (rw (out, same) refl))

  module _ (read : AreReadAsMeant disk meant inputs) where
    -- an open table is served from its file, whether that is as it is or as it was meant
    served_from : (it : OpenTable) (t : LevelTable) → Contains tables t →
        WasServed disk meant it t → WasServed disk mixed it t
    served_from it t has was = elim (cases_Bool (is_in t)) [
      | inl in_it ↦
          let file = table_file it.table in
          let same = subst (λ (f : ℕ). mixed f ≡ disk f) was.serves.file (in_file t has in_it) in
          let reads = subst (λ (f : ℕ). seen (disk f) ≡ seen (meant f)) was.serves.file
          (All-contains (λ (u : LevelTable). seen (disk u.file) ≡ seen (meant u.file)) inputs t
          read (is_kept is_in tables t has in_it)) in
          let it_serves = was.serves.serves in
          let here : TableServes (disk file) it.table t.entries = record {
            bytes = it_serves.bytes;
            present = reads ∙ it_serves.present;
            represents = it_serves.represents;
            lines = it_serves.lines;
            filter = it_serves.filter;
          } in
          by_file it t was (disk file) same here (open_as_itself (disk file) it.table)
      | inr out ↦
          let same = subst (λ (f : ℕ). mixed f ≡ meant f) was.serves.file (out_file t has out) in
          by_file it t was (meant (table_file it.table)) same was.serves.serves was.blocks
    ]
      where
        by_file : (it : OpenTable) (t : LevelTable) → WasServed disk meant it t → (slot : Slot) →
            mixed (table_file it.table) ≡ slot → TableServes slot it.table t.entries →
            IsOpenAsMeant (disk (table_file it.table)) slot it.table → WasServed disk mixed it t
        by_file it t was slot same serves blocks = record {
          serves = record {
            level = was.serves.level;
            file = was.serves.file;
            range = was.serves.range;
            serves = subst (λ (s : Slot). TableServes s it.table t.entries) (sym same) serves;
          };
          blocks = subst (λ (s : Slot). IsOpenAsMeant (disk (table_file it.table)) s it.table)
              (sym same) blocks;
        }

    pub mixed_served : AllZip (WasServed disk mixed) items tables
    mixed_served = zip_among (WasServed disk meant) (WasServed disk mixed) items tables served_from
        served

  -- cursors over the inputs
  module _ (cursors : List (TableCursor D))
      (are : AreCursorsOf (table_ghosts g) (files_ghosts g) mixed a cursors inputs) where
    -- none reads the file of a table that is no input
    cursor_file : (i : ℕ) (c : TableCursor D) → slice_get cursors i ≡ Some c →
        mixed c.file ≡ disk c.file
    cursor_file i c at = elim (cases_Bool (list_any (is_out c.file) tables)) [
      | inl out ↦
          let one = found_one (is_out c.file) tables out in
          let u = one.0 in
          let parts = both_hold (is_in u) (u.file == c.file) one.2 in
          let x = represents u one.1 in
          let e = first_of u.entries x.1 in
          let holds : FileHolds (mixed c.file) e.0 = (
            u.entries,
            subst (λ (s : Slot). FileRepresents s u.entries) (sym (as_was c.file out))
                (subst (λ (f : ℕ). FileRepresents (meant f) u.entries)
                (eqb-true u.file c.file parts.1) x.0),
            e.1,
          ) in
          let found = (are.alike e.0).0 (i, c, at, holds) in
          let t = found.0 in
          let same : t ≡ u =
          one_table t u (kept_was is_in tables t found.1) one.1 e.0 found.2 e.1 in
          let passes : is_in t ≡ true = All-contains (λ (x : LevelTable). is_in x ≡ true) inputs t
          (filter_passes is_in tables) found.1 in
          let still : is_in u ≡ true = subst (λ (x : LevelTable). is_in x ≡ true) same passes in
          let fails = parts.0 in
          absurd cc
      | inr none ↦ as_disk c.file none
    ]

    -- so they find no damage
    pub cursors_intact : AreIntactCursors (table_ghosts g) (files_ghosts g) a cursors inputs
    cursors_intact = λ other same.
        let here = g.state (inner_disk other) in
        let suits = λ (i : ℕ) (c : TableCursor D) (at : slice_get cursors i ≡ Some c).
        are.reads a other (λ fine. same) i c at (are.sound i c at).0 in
        let file = λ (i : ℕ) (c : TableCursor D) (at : slice_get cursors i ≡ Some c).
        cursor_file i c at ∙ sym (suits i c at).1 in (
          here,
          λ i c at. (
            (suits i c at).0,
            subst (λ (s : Slot). CursorServes c.format s (rc_slice_items c.lines) c.place)
                (file i c at) (are.sound i c at).1,
            as_meant_itself c.format (here c.file) (rc_slice_items c.lines),
          ),
          λ i j c d x y at there in_c in_d equal.
              are.disjoint i j c d x y at there
              (subst (λ (s : Slot). FileHolds s x) (sym (file i c at)) in_c)
              (subst (λ (s : Slot). FileHolds s y) (sym (file j d there)) in_d) equal,
          λ fine file. refl,
        )
