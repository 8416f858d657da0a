-- A merge under way, as its calls make it.
use Rattle.std.proofs.Common.{◌≡◌, inl, inr, ℕ, suc, ◌+◌, ◌<◌, ◌≤◌, List, [], ◌∷◌, ◌++◌, length}
use Rattle.std.proofs.Common.{map}
use Rattle.std.proofs.Common.{Bool, Contains, Some, None, refl, sym, ap, subst, ◌∙◌}
use Rattle.std.proofs.Common.{Result, Ok, Err, arith, append-nil}
use Rattle.std.specs.Prelude.{IsOkAnd, MatchResult, filter, nat_lt}
use Rattle.std.specs.List.{AllZip}
use Rattle.std.proofs.lemmas.Bool.{cases_Bool, cond-false, cond-true, lt-ltb, ltb-true}
use Rattle.disk.specs.declared.Disk.{Ghosts}
use Rattle.disk.specs.{IsEnvironmental, IsSame, State}
use Rattle.kv_types.specs.{Entry}
use Rattle.kv_types.specs.OrderLemmas.{AllPairs-rises}
use Rattle.merge_iter.specs.{EntryPrecedes, IsOn, ErrorCauses}
use Rattle.kv_types.specs.OrderLemmas.{Contains-among, among_from_Contains, among_of_All}
use Rattle.merge_iter.specs.declared.Cursor.{Ghosts as CursorGhosts}
use Rattle.merge_iter.specs.declared.CursorError.{CursorError}
use Rattle.merge_iter.specs.declared.CursorError.TheVariants as cursor
use Rattle.merge_iter.specs.declared.Merged.{Merged}
use Rattle.sorted_table.specs.declared.TableCursor.{TableCursor}
use Rattle.store_model.specs.{IsMerged, MergePlan}
use Rattle.compaction.specs.declared.merge.Merge.{Merge}
use Rattle.compaction.specs.declared.error.MergeError.TheVariants as merge
use Rattle.compaction.specs.Errors.{merge_error_of_cursor}
use Rattle.compaction.specs.Merges.{IsNumberedFrom, HasTooManyTables, HaveNewFiles, IsMergeEdit}
use Rattle.compaction.specs.Merges.{IsMerging, merge_change}
use Rattle.std.proofs.lemmas.Bool.{cases_lt}
use Rattle.std.proofs.lemmas.List.{length-map}
use Rattle.version_edits.specs.declared.TableName.{TableName}
use Rattle.version_edits.specs.declared.line.TheConstants.{MAX_LINES}
use Rattle.version_edits.specs.{Change}
use Rattle.compaction.specs.Walks.{written_by}
use Rattle.compaction.specs.WrittenTables.{AreWrittenTables, WrittenAreMerged, written_of}
use Rattle.merge_iter.specs.declared.Direction.TheVariants.{Forward}
use Rattle.merge_iter.specs.{AreCursorLaws, AtEnd, IsAlike, MoveFinds, Moved, reports}
use Rattle.sorted_table.specs.MovedFiles.{MovesFiles}
use Rattle.store_model.specs.{KeyRange, LevelTable, tables_entries}
use Rattle.version_edits.specs.Lawful.{IsAllocated}
use Rattle.version_edits.specs.declared.TableLine.{TableLine}
use Rattle.version_edits.specs.{IsVersion, StoreVersion}
use Rattle.compaction.specs.declared.error.MergeError.{MergeError}
use Rattle.compaction.specs.declared.plan.Plan.{Plan}
use Rattle.compaction.specs.declared.writer.OutputWriter.{OutputWriter}
use Rattle.compaction.specs.Inputs.{line_name}
use Rattle.compaction.specs.Merges.{IsOutputTable, table_name}
use Rattle.compaction.specs.Outputs.{AreUnused, HaveOwnNumbers, IsOutput}
use Rattle.compaction.specs.Outputs.{WriterHolds, open_file}
use Rattle.compaction.specs.Plans.{IsLineOf, is_input, is_line_input, model_plan}
use Rattle.compaction.specs.Survivors.{AreDeeperLines, key_range}
use Rattle.compaction.specs.Walks.{IsIntactOn, IsWalking, ReadsOnly, table_files}
use Rattle.compaction.specs.WrittenTables.{IsTableOver, Written, nothing_written, tables_of}
use Rattle.compaction.proofs.Lists.{among_filter, filter_among, zip_back, zip_there}
use Rattle.compaction.proofs.Once.{map_among}
use Rattle.compaction.proofs.Steps.{intact_moved}
use Rattle.compaction.specs.WalksLemmas.{alike_through, walk_begins}
use Rattle.compaction.proofs.Walks.{walk_done}
use Rattle.compaction.proofs.Writing.{same_unused}
use Rattle.std.proofs.Common.{◌⊎◌}

-- ---- lines and tables

module _ (plan : Plan) (range : KeyRange) where
  -- the names of the inputs, by their lines
  pub names_zip : (lines : List TableLine) (tables : List LevelTable)
      → AllZip IsLineOf lines tables
      → map line_name (filter (is_line_input plan range) lines)
      ≡ map table_name (model_plan plan range tables).inputs
  names_zip [] [] zip = refl
  names_zip [] (t ∷ ts) zip = absurd zip
  names_zip (l ∷ ls) [] zip = absurd zip
  names_zip (l ∷ ls) (t ∷ ts) zip =
      let rest = names_zip ls ts zip.1 in
      let same : is_line_input plan range l ≡ is_input plan range t.level t.file t.range =
      let level = zip.0.level in let file = zip.0.file in let keys = zip.0.range in cc in
      let name : line_name l ≡ table_name t =
      let level = zip.0.level in let file = zip.0.file in cc in
      elim (cases_Bool (is_line_input plan range l)) [
        | inl passed ↦
            ap (map line_name) (cond-true _ _ _ passed)
            ∙ ap (λ n. n ∷ map line_name (filter (is_line_input plan range) ls)) name
            ∙ ap (λ ns. table_name t ∷ ns) rest
            ∙ sym (ap (map table_name) (cond-true _ _ _ (sym same ∙ passed)))
        | inr fails ↦
            ap (map line_name) (cond-false _ _ _ fails) ∙ rest
            ∙ sym (ap (map table_name) (cond-false _ _ _ (sym same ∙ fails)))
      ]

  -- the deeper tables, by their lines
  pub deeper_zip : (lines : List TableLine) (tables : List LevelTable)
      → AllZip IsLineOf lines tables → AreDeeperLines (model_plan plan range tables)
      (filter (λ line. nat_lt (plan.level + 1) line.level) lines)
  deeper_zip lines tables zip =
      let test : TableLine → Bool = λ line. nat_lt (plan.level + 1) line.level in
      record {
        named = λ t in_t deep.
            let it = zip_back IsLineOf lines tables t zip (among_from_Contains tables t in_t) in
            let level = it.2.level in (
              it.0,
              Contains-among (filter test lines) it.0 (among_filter test lines it.0 it.1
                  (lt-ltb (plan.level + 1) it.0.level (omega (arith, level, deep)))),
              it.2.range,
            );
        real = λ line in_lines.
            let it = filter_among test lines line
            (among_from_Contains (filter test lines) line in_lines) in
            let t = zip_there IsLineOf lines tables line zip it.0 in
            let level = t.2.level in
            let deep = ltb-true (plan.level + 1) line.level it.1 in
            (t.0, Contains-among tables t.0 t.1, omega (arith, level, deep), t.2.range);
      }

  -- the files of the inputs were given before
  pub inputs_early : (version : StoreVersion) (tables : List LevelTable) (next_file : ℕ)
      → IsVersion version → AllZip IsLineOf version.tables tables
      → version.next_file ≤ next_file → (file : ℕ)
      → Contains (table_files (model_plan plan range tables).inputs) file → file < next_file
  inputs_early version tables next_file lawful zip le file there =
      let inputs = (model_plan plan range tables).inputs in
      let t = map_among (λ (t : LevelTable). t.file) inputs file
      (among_from_Contains (table_files inputs) file there) in
      let in_t = (filter_among (λ (t : LevelTable). is_input plan range t.level t.file t.range)
      tables t.0 t.1).0 in
      let line = zip_back IsLineOf version.tables tables t.0 zip in_t in
      let below = (among_of_All (λ l. IsAllocated version l.file) version.tables line.0
      lawful.lines.table_files line.1).1 in
      let same = line.2.file in
      let is = t.2 in
      omega (arith, below, same, is, le)

-- ---- the begin

module _ {U F : Type 0} (u : CursorGhosts U F) (d : Ghosts F)
    (laws : AreCursorLaws u.as_is u.is_intact u.holds u.is_sound u.suits u.keeps u.makes u.left
    u.most) where
  -- the union was moved to its first entry, and nothing is written
  pub walk_first : (meant : u.Meant) (inputs : List LevelTable) (old new : F) (next_file : ℕ)
      (union moved : U) (writer : OutputWriter) {R : Type 0} (x : R)
      (result : Result R CursorError) → d.is_honest old → u.is_sound meant union old
      → IsAlike (u.holds meant union old) (tables_entries inputs)
      → ReadsOnly u d (table_files inputs) union
      → ((file : ℕ) → Contains (table_files inputs) file → file < next_file)
      → AreUnused (d.state old) next_file → open_file writer ≡ None
      → ((slots : State) (next : ℕ) → WriterHolds slots next writer nothing_written)
      → Moved u.holds u.is_sound u.suits u.keeps u.most union old moved new
      → MovesFiles d (reports result) old new
      → ((meant : u.Meant) → u.is_sound meant union old →
      MoveFinds Forward AtEnd (u.holds meant union old) result (u.position moved))
      → result ≡ Ok x → (walk : IsWalking u d meant new next_file moved writer inputs)
      × (walk.met ≡ []) × (IsIntactOn u d (table_files inputs) union old
      → IsIntactOn u d (table_files inputs) moved new)
  walk_first meant inputs old new next_file union moved writer x result honest sound alike reads
      early unused none holds moves kept finds ok =
      let went = moves.stays meant sound in
      let same : IsSame (d.state old) (d.state new) = kept.disk.files honest in
      let now : d.is_honest new = kept.disk.honest.1 honest in
      let reads_on : ReadsOnly u d (table_files inputs) moved =
      λ a b serves. went.2 a b (reads a b serves) in (
        record {
          honest = now;
          sound = went.0;
          alike = alike_through (u.holds meant moved new) (u.holds meant union old)
              (tables_entries inputs) went.1 alike;
          reads = reads_on;
          apart = λ file there own. elim own [
            | inl is ↦ absurd (let wrong : None ≡ Some file = sym none ∙ is in cc)
            | inr late ↦ let below = early file there in omega (arith, below, late)
          ];
          met = [];
          walked = walk_begins (u.holds meant union old) (tables_entries inputs) alike x result
              (u.position moved) ok (finds meant sound);
          rising = AllPairs-rises (EntryPrecedes Forward) [] tt;
          writes = holds (d.state new) next_file;
          unused = same_unused (d.state old) (d.state new) next_file same unused;
        },
        refl,
        intact_moved u d laws (table_files inputs) union moved old old new reads reads_on
            (honest, λ file there. refl) (now, λ file there. same file) moves,
      )

-- ---- the end

-- complete outputs, as tables of the model
pub outputs_of : (disk : State) (level : ℕ) (lines : List TableLine)
    (entries : List (List Entry)) → AllZip (IsOutput disk level) lines entries
    → (outputs : List LevelTable) × AllZip (IsOutputTable disk level) lines outputs
    × AllZip (IsTableOver level) outputs entries × (length outputs ≡ length lines)
outputs_of disk level [] [] zip = ([], tt, tt, refl)
outputs_of disk level [] (e ∷ es) zip = absurd zip
outputs_of disk level (l ∷ ls) [] zip = absurd zip
outputs_of disk level (l ∷ ls) (e ∷ es) zip =
    let rest = outputs_of disk level ls es zip.1 in
    let table : LevelTable =
    record { level = l.level; file = l.file; range = key_range l; entries = e } in
    let len = rest.3 in (
      table ∷ rest.0,
      (
        record {
          line_of = record { level = refl; file = refl; range = refl };
          holds = zip.0;
        },
        rest.1,
      ),
      (
        record { at = zip.0.at; all = refl; least = zip.0.least; greatest = zip.0.greatest },
        rest.2,
      ),
      omega (arith, len),
    )

-- once the open table is complete, all tables are
pub all_closed : (slots : State) (next_file : ℕ) (writer : OutputWriter) (it : Written)
    {R : Type 0} (result : Result R MergeError)
    → (0 < length it.opened → MatchResult result (λ _. WriterHolds slots next_file writer
    (record it { closed = it.closed ++ it.opened ∷ []; opened = [] }))
    (IsEnvironmental merge.Disk merge.Memory))
    → (it.opened ≡ [] → IsOkAnd result (λ _. WriterHolds slots next_file writer it))
    → MatchResult result
    (λ _. AllZip (IsOutput slots writer.level) writer.closed.items (tables_of it)
    × HaveOwnNumbers writer next_file) (IsEnvironmental merge.Disk merge.Memory)
all_closed slots next_file writer it {R = R} result some none = by_open it.opened refl
  where
    closes : (e : Entry) (es : List Entry) → it.opened ≡ e ∷ es → (r : Result R MergeError)
        → MatchResult r (λ _. WriterHolds slots next_file writer
        (record it { closed = it.closed ++ it.opened ∷ []; opened = [] }))
        (IsEnvironmental merge.Disk merge.Memory)
        → MatchResult r
        (λ _. AllZip (IsOutput slots writer.level) writer.closed.items (tables_of it)
        × HaveOwnNumbers writer next_file) (IsEnvironmental merge.Disk merge.Memory)
    closes e es is (Ok x) w = (
      subst (λ (opened : List Entry).
          AllZip (IsOutput slots writer.level) writer.closed.items
          (tables_of (record it { opened = opened }))) (sym is)
          (subst (λ (opened : List Entry).
          AllZip (IsOutput slots writer.level) writer.closed.items (it.closed ++ opened ∷ [])) is
          w.closed),
      w.numbered,
    )
    closes e es is (Err error) external = external

    stays : it.opened ≡ [] → (r : Result R MergeError)
        → IsOkAnd r (λ _. WriterHolds slots next_file writer it)
        → MatchResult r
        (λ _. AllZip (IsOutput slots writer.level) writer.closed.items (tables_of it)
        × HaveOwnNumbers writer next_file) (IsEnvironmental merge.Disk merge.Memory)
    stays is (Ok x) w = (
      subst (λ (opened : List Entry).
          AllZip (IsOutput slots writer.level) writer.closed.items
          (tables_of (record it { opened = opened }))) (sym is)
          (subst (λ (l : List (List Entry)).
          AllZip (IsOutput slots writer.level) writer.closed.items l) (sym (append-nil it.closed))
          w.closed),
      w.numbered,
    )
    stays is (Err error) never = absurd never

    by_open : (opened : List Entry) → it.opened ≡ opened → MatchResult result
        (λ _. AllZip (IsOutput slots writer.level) writer.closed.items (tables_of it)
        × HaveOwnNumbers writer next_file) (IsEnvironmental merge.Disk merge.Memory)
    by_open [] is = stays is result (none is)
    by_open (e ∷ es) is = closes e es is result
        (some (subst (λ (l : List Entry). 0 < length l) (sym is) (omega arith)))

-- why the union was not moved to its first entry
pub begin_stops : {R : Type 0} (intact sound allocates : Type 0) (before now : ℕ)
    (result : Result R CursorError) (e : CursorError) → (intact → sound)
    → ErrorCauses sound ⊥ allocates before now result → result ≡ Err e
    → IsEnvironmental merge.Disk merge.Memory (merge_error_of_cursor e)
    ⊎ ((merge_error_of_cursor e ≡ merge.Damaged) × (intact → ⊥))
begin_stops I S A before now result cursor.Disk so causes stops = inl (inl refl)
begin_stops I S A before now result cursor.Damaged so causes stops =
    inr (refl, λ intact. causes.damaged stops (so intact))
begin_stops I S A before now result cursor.Memory so causes stops = inl (inr refl)
begin_stops I S A before now result cursor.Failed so causes stops =
    absurd (causes.failed.0 stops)

module _ {D F : Type 0} (u : CursorGhosts (Merged (TableCursor D)) F) (d : Ghosts F) where
  -- complete outputs with what is written of all entries are the outputs of the merge
  pub merge_done : (meant : u.Meant) (files : F) (next_file : ℕ) (it : Merge D) (plan : MergePlan)
      (floor : ℕ) (m : IsMerging u d meant files next_file it plan floor)
      → (IsOn (u.position it.union) → ⊥) → (slots : State) (level : ℕ) (lines : List TableLine)
      → level ≡ it.writer.level → WrittenAreMerged
      → AllZip (IsOutput slots level) lines (tables_of (written_by it.writer m.walk.met))
      → (outputs : List LevelTable) × AreWrittenTables floor it.writer.target plan outputs
      × IsMerged floor plan outputs × AllZip (IsOutputTable slots (suc plan.level)) lines outputs
      × (length outputs ≡ length lines)
  merge_done meant files next_file it plan floor m off slots level lines same law zip =
      let level_is : level ≡ suc plan.level = same ∙ m.level in
      let all = subst (λ n. AllZip (IsOutput slots n) lines
      (tables_of (written_by it.writer m.walk.met))) level_is zip in
      let out = outputs_of slots (suc plan.level) lines
      (tables_of (written_by it.writer m.walk.met)) all in
      let union = walk_done u d meant plan.inputs files next_file it.union it.writer m.walk off in
      let tables = subst (λ f. AllZip (IsTableOver (suc plan.level)) out.0
      (tables_of (written_of f it.writer.deeper.items it.writer.target m.walk.met)))
      m.same_floor out.2 in
      let written : AreWrittenTables floor it.writer.target plan out.0 = record {
        deeper = it.writer.deeper.items;
        entries = m.walk.met;
        lines = m.deeper;
        union = union;
        tables = tables;
      } in (
        out.0,
        written,
        law floor it.writer.target plan out.0 written,
        out.1,
        out.3,
      )

not_below : (m n : ℕ) → (n < m → ⊥) → m ≤ n
not_below m n none = elim (cases_lt n m) [
  | inl lt ↦ absurd (none lt)
  | inr le ↦ le
]

-- once the writer's last table is complete, all tables are
pub closed_all : {F : Type 0} (d : Ghosts F) (old new : F) (next_file : ℕ)
    (was now : OutputWriter) (it : Written) {R : Type 0} (result : Result R MergeError)
    → WriterHolds (d.state old) next_file was it
    → (0 < length it.opened → MatchResult result (λ _. WriterHolds (d.state new) next_file now
    (record it { closed = it.closed ++ it.opened ∷ []; opened = [] }))
    (IsEnvironmental merge.Disk merge.Memory))
    → ((slots : State) (n : ℕ) (it : Written) → WriterHolds slots n was it → it.opened ≡ []
    → (new ≡ old) × IsOkAnd result (λ _. WriterHolds slots n now it))
    → MatchResult result
    (λ _. AllZip (IsOutput (d.state new) now.level) now.closed.items (tables_of it)
    × HaveOwnNumbers now next_file) (IsEnvironmental merge.Disk merge.Memory)
closed_all {F} d old new next_file was now it result w some none =
    all_closed (d.state new) next_file now it result some (λ is.
    let e = none (d.state old) next_file it w is in
    subst (λ (f : F). IsOkAnd result (λ _. WriterHolds (d.state f) next_file now it)) (sym e.0)
    e.1)

module _ (slots : State) (version : StoreVersion) (first next_file : ℕ) (writer : OutputWriter)
    (plan : MergePlan) (floor : ℕ)
    (gone : List TableName) (added : List TableLine) (outputs : List LevelTable)
    (written : AreWrittenTables floor writer.target plan outputs)
    (merged : IsMerged floor plan outputs)
    (holds : AllZip (IsOutputTable slots (suc plan.level)) added outputs)
    (many : length outputs ≡ length added) (names : gone ≡ map table_name plan.inputs) where
  inputs_many : length gone ≡ length plan.inputs
  inputs_many = ap length names ∙ length-map plan.inputs table_name

  -- the edit is that of the merge
  pub merge_edit : (edit : Change) → edit ≡ merge_change version next_file gone added
      → (MAX_LINES + length gone < length version.tables + length added → ⊥)
      → IsNumberedFrom first next_file writer plan.inputs
      → HaveNewFiles first next_file writer added
      → IsMergeEdit slots version first next_file writer plan floor edit
  merge_edit edit is few begun files =
      let added_is : edit.tables_added ≡ added = ap (λ (e : Change). e.tables_added) is in
      let room : length version.tables + length added ≤ MAX_LINES + length gone =
      not_below (length version.tables + length added) (MAX_LINES + length gone) few in
      let n = inputs_many in
      record {
        outputs = outputs;
        written = written;
        merged = merged;
        holds = subst (λ (l : List TableLine). AllZip (IsOutputTable slots (suc plan.level)) l
            outputs) (sym added_is) holds;
        is = is ∙ ap (λ (l : List TableName). merge_change version next_file l added) names
            ∙ ap (λ (l : List TableLine).
            merge_change version next_file (map table_name plan.inputs) l) (sym added_is);
        few = omega (arith, room, n, many);
        files = subst (λ (l : List TableLine). HaveNewFiles first next_file writer l)
            (sym added_is) files;
        late = begun.late;
        inputs_once = begun.inputs_once;
      }

  -- or there is no room for the outputs
  pub too_many : MAX_LINES + length gone < length version.tables + length added
      → HasTooManyTables version plan floor writer.target
  too_many lt = let n = inputs_many in record {
    outputs = outputs;
    written = written;
    many = omega (arith, lt, n, many);
  }
