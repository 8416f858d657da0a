-- A version may take the edit of a merge, which keeps the list.
use Rattle.std.proofs.Common.{◌≡◌, inl, inr, ℕ, suc, ◌+◌, ◌<◌, ◌≤◌, List, [], ◌∷◌, ◌++◌, length}
use Rattle.std.proofs.Common.{map, Bool, true, refl, sym, ◌∙◌, ap, subst}
use Rattle.std.proofs.Common.{arith}
use Rattle.std.specs.Prelude.{◌==◌, ◌&&◌}
use Rattle.std.specs.List.{AllZip, filter, list_any}
use Rattle.std.proofs.lemmas.Bool.{and_from, both_ways, eq-eqb}
use Rattle.std.proofs.lemmas.Bool.{le-leb, lt-ltb}
use Rattle.std.proofs.lemmas.List.{length-map}
use Rattle.std.proofs.lemmas.List.Elements.{All-nil}
use Rattle.disk.specs.{State}
use Rattle.kv_types.specs.declared.bounds.TheConstants.{MAX_NUMBER}
use Rattle.kv_types.specs.OrderLemmas.{All-among, Among, Contains-among, Rises}
use Rattle.kv_types.specs.OrderLemmas.{among_from_Contains, among_of_All}
use Rattle.kv_types.specs.{is_part}
use Rattle.store_model.specs.{AreEdited, IsUnderWay}
use Rattle.store_model.specs.{LevelTable, MergePlan, StoreRepresents, StoreState, with_tables}
use Rattle.store_model.specs.Claims.{MergesKeep, MergesKeepViews}
use Rattle.version_edits.specs.declared.LogLine.{LogLine}
use Rattle.version_edits.specs.declared.TableLine.{TableLine}
use Rattle.version_edits.specs.declared.TableName.{TableName}
use Rattle.version_edits.specs.Versions.{AreLawful, are_once, changed}
use Rattle.version_edits.specs.Versions.{files_of, is_new_file, keeps_ids, names_table}
use Rattle.version_edits.specs.Versions.{table_is_before, tables_left}
use Rattle.version_edits.specs.VersionsLemmas.{all_logs_left}
use Rattle.version_edits.specs.{Change, IsChange, IsFit, IsTableLine, IsVersion, StoreVersion}
use Rattle.compaction.specs.declared.writer.OutputWriter.{OutputWriter}
use Rattle.compaction.specs.Edits.{AcceptsMerge, tables_after}
use Rattle.compaction.specs.EditsLemmas.{zip_after, zip_weaker}
use Rattle.compaction.specs.Merges.{IsMergeEdit, IsOutputTable, MergeEditsFit, MergeEditsKeep}
use Rattle.compaction.specs.Merges.{merge_change, table_name}
use Rattle.compaction.specs.Outputs.{IsOutputFile}
use Rattle.compaction.specs.Plans.{IsLineOf}
use Rattle.compaction.specs.Walks.{table_files}
use Rattle.compaction.proofs.Lists.{among_filter, filter_among, zip_back, zip_there}
use Rattle.compaction.proofs.Once.{Differ, OfNumbers, all_true, among_map, any_true, differ_back}
use Rattle.compaction.proofs.Once.{fold_cases, fold_length, map_among, no_more}
use Rattle.compaction.proofs.Once.{numbers_once, once_differ, once_numbers, parts_length}
use Rattle.compaction.proofs.Once.{rises_across, rises_ahead, rises_append, rises_behind}
use Rattle.compaction.proofs.Once.{rises_filter, rises_fold, rises_map, rises_zip}
use Rattle.compaction.proofs.Writing.{zip_length}
use Rattle.compaction.proofs.EditedTables.{edited, is_name, is_named, line_file, lines_apart}
use Rattle.compaction.proofs.EditedTables.{table_file}

-- ---- ids

same_part : (ids : List ℕ) → is_part ids ids ≡ true
same_part [] = refl
same_part (x ∷ ids) = let rest = same_part ids in grind arith

same_ids : (ids : List ℕ) → keeps_ids ids ids ≡ true
same_ids [] = refl
same_ids (x ∷ ids) = same_part (x ∷ ids)

-- ---- the edit

names_files : (tables : List LevelTable)
    → map (λ (one : TableName). one.file) (map table_name tables) ≡ table_files tables
names_files [] = refl
names_files (t ∷ tables) = ap (λ (l : List ℕ). t.file ∷ l) (names_files tables)

module _ (slots : State) (version : StoreVersion) (is : IsVersion version) (first next_file : ℕ)
    (writer : OutputWriter) (plan : MergePlan) (floor : ℕ) (edit : Change)
    (it : IsMergeEdit slots version first next_file writer plan floor edit) where
  abbrev gone : List TableName
  gone = map table_name plan.inputs

  abbrev added : List TableLine
  added = edit.tables_added

  abbrev change : Change
  change = merge_change version next_file gone added

  abbrev lines : List TableLine
  lines = (changed version change).tables

  added_lined : AllZip IsLineOf added it.outputs
  added_lined = zip_weaker (IsOutputTable slots (suc plan.level)) IsLineOf (λ line t o. o.line_of)
      added it.outputs it.holds

  lines_differ : Rises (Differ line_file) version.tables
  lines_differ =
      once_differ line_file version.tables (numbers_once (map line_file version.tables)
      (rises_behind OfNumbers (map (λ (l : LogLine). l.file) version.logs)
      (map line_file version.tables)
      (once_numbers (files_of version.logs version.tables) is.lawful.files_once)))

  module _ (store : StoreState) (lined : AllZip IsLineOf version.tables store.tables)
      (under_way : IsUnderWay store plan) where
    abbrev after : List LevelTable
    after = tables_after gone it.outputs store.tables

    after_lined : AllZip IsLineOf lines after
    after_lined = zip_after (λ line. line) IsLineOf (λ line t r. r) gone version.tables
        store.tables added it.outputs lined added_lined

    after_edited : AreEdited plan.inputs it.outputs store.tables after
    after_edited = edited plan.inputs it.outputs store.tables
        (rises_zip IsLineOf (Differ line_file) (Differ table_file)
        (λ a c t u r s differ same. differ (sym r.file ∙ same ∙ s.file)) version.tables
        store.tables lined lines_differ) under_way.fits.there

    -- an input, by its line
    input_line : (t : LevelTable) → Among t plan.inputs
        → (line : TableLine) × Among line version.tables × IsLineOf line t
    input_line t in_t = zip_back IsLineOf version.tables store.tables t lined
        (among_from_Contains store.tables t
        (under_way.fits.there t (Contains-among plan.inputs t in_t)))

    abbrev is_taken : TableLine → Bool
    is_taken line = list_any (is_name line.level line.file) gone

    inputs_there : length plan.inputs ≤ length (filter is_taken version.tables)
    inputs_there =
        let taken = filter is_taken version.tables in
        let n = no_more (table_files plan.inputs) (map line_file taken)
        (once_numbers (table_files plan.inputs) it.inputs_once) (λ file there.
        let t = map_among table_file plan.inputs file there in
        let line = input_line t.0 t.1 in
        subst (λ k. Among k (map line_file taken)) (sym line.2.file ∙ t.2)
        (among_map line_file taken line.0 (among_filter is_taken version.tables line.0 line.1
        (is_named plan.inputs t.0 line.0.level line.0.file t.1 line.2.level line.2.file)))) in
        let a = length-map plan.inputs table_file in
        let b = length-map taken line_file in
        omega (arith, n, a, b)

    few_left : length (tables_left gone version.tables) + length plan.inputs
        ≤ length version.tables
    few_left =
        let all = parts_length is_taken version.tables in
        let some = inputs_there in
        omega (arith, all, some)

  module _ (views : MergesKeepViews)
      (may : AcceptsMerge version next_file plan writer) where
    abbrev store : StoreState
    store = may.store

    abbrev lined : AllZip IsLineOf version.tables store.tables
    lined = may.can_end.lines

    abbrev under_way : IsUnderWay store plan
    under_way = may.can_end.under_way

    -- an output's file is that of no log and no table of the version
    no_log : (line : TableLine) (log : LogLine) → Among line added → Among log version.logs
        → log.file ≡ line.file → ⊥
    no_log line log in_line in_log same =
        both_ways _ (may.beside line.file (among_of_All (λ (l : TableLine).
        IsOutputFile writer l.file) added line it.files.own in_line)).0
        (any_true (λ (l : LogLine). l.file == line.file) version.logs log in_log
        (eq-eqb log.file line.file same))

    no_table : (line old : TableLine) → Among line added → Among old version.tables
        → old.file ≡ line.file → ⊥
    no_table line old in_line in_old same =
        both_ways _ (may.beside line.file (among_of_All (λ (l : TableLine).
        IsOutputFile writer l.file) added line it.files.own in_line)).1
        (any_true (λ (l : TableLine). l.file == line.file) version.tables old in_old
        (eq-eqb old.file line.file same))

    was_there : (line : TableLine) → Among line (tables_left gone version.tables)
        → Among line version.tables
    was_there line a = (filter_among _ version.tables line a).0

    after_differ : Rises (Differ line_file) lines
    after_differ =
        rises_fold (Differ line_file) (differ_back line_file) table_is_before
        (tables_left gone version.tables) added
        (rises_filter (Differ line_file) _ version.tables lines_differ)
        (once_differ line_file added it.files.once)
        (λ line old in_line in_old same. no_table line old in_line (was_there old in_old)
        (sym same))

    files_once : are_once (files_of version.logs lines) ≡ true
    files_once =
        let logs = map (λ (l : LogLine). l.file) version.logs in
        let were = once_numbers (files_of version.logs version.tables) is.lawful.files_once in
        numbers_once (logs ++ map line_file lines) (rises_append OfNumbers logs
        (map line_file lines) (rises_ahead OfNumbers logs (map line_file version.tables) were)
        (rises_map line_file lines after_differ) (λ x y in_x in_y same.
        let log = map_among (λ (l : LogLine). l.file) version.logs x in_x in
        let line = map_among line_file lines y in_y in
        elim (fold_cases table_is_before (tables_left gone version.tables) added line.0 line.1) [
          | inl old ↦ rises_across OfNumbers logs (map line_file version.tables) x line.0.file were
              in_x (among_map line_file version.tables line.0 (was_there line.0 old))
              (same ∙ sym line.2)
          | inr new ↦ no_log line.0 log.0 new log.1 (log.2 ∙ same ∙ sym line.2)
        ]))

    lawful : AreLawful version.logs lines
    lawful =
        let long = fold_length table_is_before (tables_left gone version.tables) added in
        let left = few_left store lined under_way in
        let many = zip_length (IsOutputTable slots (suc plan.level)) added it.outputs it.holds in
        let few = it.few in
        let leveled = (views store.flushed under_way.base floor plan store.tables it.outputs
        (after store lined under_way) may.can_end.leveled under_way.fits under_way.alike it.merged
        (after_edited store lined under_way)).0 in
        record {
          some = is.lawful.some;
          few_logs = is.lawful.few_logs;
          few_tables = omega (arith, long, left, many, few);
          files_once = files_once;
          apart = lines_apart store.flushed lines (after store lined under_way)
              (after_lined store lined under_way) leveled after_differ;
        }

    new_file : (line : TableLine) → Among line added
        → is_new_file version change line.file ≡ true
    new_file line in_line =
        let at = among_of_All (λ (l : TableLine). (first ≤ l.file) × (l.file < next_file)) added
        line it.files.numbered in_line in
        let own = among_of_All (λ (l : TableLine). IsOutputFile writer l.file) added line
        it.files.own in_line in
        let beside = may.beside line.file own in
        let late = it.late in
        let low = at.0 in
        rw (
          le-leb 3 line.file (omega (arith, late, low)),
          lt-ltb line.file next_file at.1,
          beside.0,
          beside.1,
        ) refl

    is_there : (one : TableName) → Among one gone → names_table version.tables one ≡ true
    is_there one in_one =
        let t = map_among table_name plan.inputs one in_one in
        let line = input_line store lined under_way t.0 t.1 in
        any_true (λ (l : TableLine). l.level == one.level && l.file == one.file) version.tables
        line.0 line.1
        (and_from (line.0.level == one.level) (line.0.file == one.file)
        (eq-eqb line.0.level one.level
        (sym line.2.level ∙ ap (λ (n : TableName). n.level) t.2))
        (eq-eqb line.0.file one.file
        (sym line.2.file ∙ ap (λ (n : TableName). n.file) t.2)))

    fits : IsFit version change
    fits = record {
      numbers = record {
        next_file = may.next;
        floor = omega arith;
        flushed = omega arith;
        epoch = omega arith;
      };
      ids = same_ids version.ids;
      there = record {
        logs = refl;
        logs_once = refl;
        tables = all_true (λ one. names_table version.tables one) gone is_there;
        tables_once = subst (λ (l : List ℕ). are_once l ≡ true)
            (sym (names_files plan.inputs)) it.inputs_once;
      };
      new = record {
        logs = refl;
        tables = all_true (λ line. is_new_file version change line.file) added new_file;
      };
      lawful = subst (λ (l : List LogLine). AreLawful l lines) (sym (all_logs_left version.logs))
          lawful;
    }

    proper : IsChange change
    proper =
        let left = few_left store lined under_way in
        let were = is.lawful.few_tables in
        let many = zip_length (IsOutputTable slots (suc plan.level)) added it.outputs it.holds in
        let few = it.few in
        let names = length-map plan.inputs table_name in
        record {
          next_file = may.few;
          floor = is.floor;
          flushed = is.flushed;
          epoch = is.epoch;
          ids = is.ids;
          logs_gone = (omega arith, All-nil _);
          logs_added = (omega arith, All-nil _);
          tables_gone = (
            omega (arith, left, were, names),
            All-among (λ (one : TableName). (one.level ≤ 6) × (one.file ≤ MAX_NUMBER)) gone
                (λ one in_one.
                let t = map_among table_name plan.inputs one in_one in
                let line = input_line store lined under_way t.0 t.1 in
                let good = among_of_All IsTableLine version.tables line.0 is.lines.tables line.1
                in (
                  subst (λ n. n ≤ 6) (sym line.2.level ∙ ap (λ (n : TableName). n.level) t.2)
                      good.level,
                  subst (λ n. n ≤ MAX_NUMBER)
                      (sym line.2.file ∙ ap (λ (n : TableName). n.file) t.2) good.file,
                )),
          );
          tables_added = (
            omega (arith, left, were, many, few),
            All-among IsTableLine added (λ line in_line. (zip_there
                (IsOutputTable slots (suc plan.level)) added it.outputs line it.holds
                in_line).2.holds.proper),
          );
        }

    fit_edit : IsFit version edit × IsChange edit
    fit_edit = subst (λ (e : Change). IsFit version e × IsChange e) (sym it.is) (fits, proper)

pub merge_edits_fit : MergesKeepViews → MergeEditsFit
merge_edits_fit views slots version first next_file writer plan floor edit is it may =
    fit_edit slots version is first next_file writer plan floor edit it views may

pub merge_edits_keep : MergesKeep → MergeEditsKeep
merge_edits_keep keeps slots version first next_file writer plan floor edit batches store is it
    lined represents under_way low =
    let gone_is : map table_name plan.inputs ≡ edit.tables_gone =
    sym (ap (λ (e : Change). e.tables_gone) it.is) in
    let now = after_edited slots version is first next_file writer plan floor edit it store lined
    under_way in (
      subst (λ (l : List TableName). AllZip IsLineOf (changed version edit).tables
          (tables_after l it.outputs store.tables)) gone_is
          (subst (λ (e : Change). AllZip IsLineOf (changed version e).tables
          (tables_after (map table_name plan.inputs) it.outputs store.tables)) (sym it.is)
          (after_lined slots version is first next_file writer plan floor edit it store lined
          under_way)),
      subst (λ (l : List TableName). AreEdited plan.inputs it.outputs store.tables
          (tables_after l it.outputs store.tables)) gone_is now,
      subst (λ (l : List TableName). StoreRepresents batches (with_tables store
          (tables_after l it.outputs store.tables))) gone_is
          (keeps batches store plan floor it.outputs
          (tables_after (map table_name plan.inputs) it.outputs store.tables) represents under_way
          it.merged now low),
    )
