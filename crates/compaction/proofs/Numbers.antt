-- The file numbers of a merge.
use Rattle.std.proofs.Common.{◌≡◌, ◌≢◌, ◌⊎◌, inl, inr, ℕ, ◌<◌, ◌≤◌, List, [], ◌∷◌, ◌++◌, length}
use Rattle.std.proofs.Common.{map, All, Contains, IfSome, None, Option, true, sym, subst, ◌∙◌}
use Rattle.std.proofs.Common.{Bool, false, arith}
use Rattle.std.specs.Prelude.{◌==◌}
use Rattle.std.specs.List.{AllZip, fold, list_any}
use Rattle.std.proofs.lemmas.Bool.{both_ways, cases_Bool, eq-eqb, eqb-true}
use Rattle.std.proofs.lemmas.List.Elements.{All-head}
use Rattle.kv_types.specs.OrderLemmas.{All-among, Among, Contains-among, among_from_Contains}
use Rattle.kv_types.specs.OrderLemmas.{among_of_All}
use Rattle.store_model.specs.PlacesLemmas.{contains_none}
use Rattle.store_model.specs.{KeyRange, LevelTable}
use Rattle.version_edits.specs.declared.LogLine.{LogLine}
use Rattle.version_edits.specs.declared.TableLine.{TableLine}
use Rattle.version_edits.specs.Lawful.{IsAllocated}
use Rattle.version_edits.specs.Versions.{are_once, log_is_before, logs_left, placed}
use Rattle.version_edits.specs.Versions.{table_is_before, tables_left}
use Rattle.version_edits.specs.{Change, IsVersion, StoreVersion, changed}
use Rattle.compaction.specs.declared.plan.Plan.{Plan}
use Rattle.compaction.specs.declared.writer.OutputWriter.{OutputWriter}
use Rattle.compaction.specs.Edits.{OutputsAreBeside}
use Rattle.compaction.specs.Leftovers.{IsBesideVersion}
use Rattle.compaction.specs.Merges.{HaveNewFiles, IsNumberedFrom}
use Rattle.compaction.specs.Outputs.{HaveOwnNumbers, IsOutputFile, UsesNumbers, open_file}
use Rattle.compaction.specs.Plans.{IsLineOf, model_plan}
use Rattle.compaction.specs.Walks.{table_files}
use Rattle.compaction.proofs.Lists.{filter_among}
use Rattle.compaction.proofs.Once.{Differ, OfNumbers, among_map, any_true, differ_once}
use Rattle.compaction.proofs.Once.{fold_cases, map_among, true_any}
use Rattle.compaction.proofs.Once.{numbers_once, once_differ, once_numbers, rises_behind}
use Rattle.compaction.proofs.Once.{rises_filter, rises_zip}

-- an output's number was given out
pub output_below : (writer : OutputWriter) (next_file : ℕ) → HaveOwnNumbers writer next_file
    → (file : ℕ) → IsOutputFile writer file → file < next_file
output_below writer next_file numbered file (inl is) =
    (subst (λ (o : Option ℕ). IfSome o (λ one. (one < next_file)
    × All (λ line. line.file ≢ one) writer.closed.items)) is numbered.current).0
output_below writer next_file numbered file (inr there) =
    let line = map_among (λ (l : TableLine). l.file) writer.closed.items file
    (among_from_Contains _ file there) in
    subst (λ n. n < next_file) line.2 (among_of_All (λ (l : TableLine). l.file < next_file)
    writer.closed.items line.0 numbered.closed line.1)

-- numbers that are given out and outputs that are begun are behind those of before
pub begun_more : (first next_file later : ℕ) (was now : OutputWriter) (inputs : List LevelTable)
    → next_file ≤ later
    → ((file : ℕ) → IsOutputFile now file → IsOutputFile was file ⊎ (next_file ≤ file))
    → HaveOwnNumbers now later → IsNumberedFrom first next_file was inputs
    → IsNumberedFrom first later now inputs
begun_more first next_file later was now inputs le more numbered it =
    let begun = it.begun in
    record {
      late = it.late;
      begun = omega (arith, begun, le);
      outputs = λ file output. (
        elim (more file output) [
          | inl before ↦ (it.outputs file before).0
          | inr late ↦ omega (arith, begun, late)
        ],
        output_below now later numbered file output,
      );
      inputs_once = it.inputs_once;
    }

-- no output is begun
pub no_outputs : (writer : OutputWriter) → open_file writer ≡ None → writer.closed.items ≡ []
    → (file : ℕ) → IsOutputFile writer file → ⊥
no_outputs writer none empty file (inl is) = cc
no_outputs writer none empty file (inr there) =
    contains_none file (subst (λ (l : List TableLine). Contains (map (λ line. line.file) l) file)
    empty there)

module _ (plan : Plan) (range : KeyRange) (version : StoreVersion) (tables : List LevelTable)
    (lawful : IsVersion version) (zip : AllZip IsLineOf version.tables tables) where
  -- the inputs have different files
  inputs_once : are_once (table_files (model_plan plan range tables).inputs) ≡ true
  inputs_once =
      let files = map (λ (l : TableLine). l.file) version.tables in
      let logs = map (λ (l : LogLine). l.file) version.logs in
      let lines = once_differ (λ (l : TableLine). l.file) version.tables (numbers_once files
      (rises_behind OfNumbers logs files (once_numbers (logs ++ files) lawful.lawful.files_once)))
      in
      let file_of : LevelTable → ℕ = λ t. t.file in
      differ_once file_of (model_plan plan range tables).inputs
      (rises_filter (Differ file_of) _ tables
      (rises_zip IsLineOf (Differ (λ (l : TableLine). l.file)) (Differ file_of)
      (λ a c t u r s differ same. differ (sym r.file ∙ same ∙ s.file)) version.tables tables zip
      lines))

  -- a merge has begun behind the files of the version
  pub begins : (next_file : ℕ) (writer : OutputWriter) → version.next_file ≤ next_file
      → open_file writer ≡ None → writer.closed.items ≡ []
      → IsNumberedFrom next_file next_file writer (model_plan plan range tables).inputs
  begins next_file writer le none empty = record {
    late =
        let low = some_log version.logs lawful.lawful.some lawful.lines.log_files in
        omega (arith, low, le);
    begun = omega arith;
    outputs = λ file output. absurd (no_outputs writer none empty file output);
    inputs_once = inputs_once;
  }
    where
      some_log : (logs : List LogLine) → 0 < length logs
          → All (λ line. IsAllocated version line.file) logs → 3 < version.next_file
      some_log [] some all = absurd (omega (arith, some))
      some_log (log ∷ logs) some all =
          let given = All-head (λ (l : LogLine). IsAllocated version l.file) log logs all in
          let low = given.0 in
          let high = given.1 in
          omega (arith, low, high)

-- the files of complete outputs, whose lines are added
pub new_files : (first next_file : ℕ) (was now : OutputWriter) (inputs : List LevelTable)
    → IsNumberedFrom first next_file was inputs → HaveOwnNumbers now next_file
    → ((file : ℕ) → IsOutputFile now file → IsOutputFile was file)
    → HaveNewFiles first next_file was now.closed.items
new_files first next_file was now inputs begun numbered outputs =
    let lines = now.closed.items in
    let own : (line : TableLine) → Among line lines → IsOutputFile was line.file =
    λ line in_line. outputs line.file (inr (Contains-among (map (λ (l : TableLine). l.file) lines)
    line.file (among_map (λ (l : TableLine). l.file) lines line in_line))) in
    record {
      numbered = All-among (λ (l : TableLine). (first ≤ l.file) × (l.file < next_file)) lines
          (λ line in_line. (
            (begun.outputs line.file (own line in_line)).0,
            among_of_All (λ (l : TableLine). l.file < next_file) lines line numbered.closed
                in_line,
          ));
      once = numbered.once;
      own = All-among (λ (l : TableLine). IsOutputFile was l.file) lines own;
    }

-- ---- files that a version names

-- a test that none passes is passed by none of a longer list, where none that is added does
none_more : {A : Type 0} (file_of : A → ℕ) (before : A → A → Bool) (xs ys : List A) (file : ℕ)
    → ((x : A) → Among x xs → file_of x ≡ file → ⊥)
    → ((y : A) → Among y ys → file_of y ≡ file → ⊥)
    → list_any (λ x. file_of x == file) (fold (placed before) xs ys) ≡ false
none_more file_of before xs ys file old new =
    elim (cases_Bool (list_any (λ x. file_of x == file) (fold (placed before) xs ys))) [
      | inr none ↦ none
      | inl passed ↦
          let it = true_any (λ x. file_of x == file) (fold (placed before) xs ys) passed in
          let same = eqb-true (file_of it.0) file it.2 in
          elim (fold_cases before xs ys it.0 it.1) [
            | inl early ↦ absurd (old it.0 early same)
            | inr late ↦ absurd (new it.0 late same)
          ]
    ]

-- where a test is passed by none, no element passes it
none_is : {A : Type 0} (file_of : A → ℕ) (xs : List A) (file : ℕ)
    → list_any (λ x. file_of x == file) xs ≡ false → (x : A) → Among x xs → file_of x ≡ file → ⊥
none_is file_of xs file none x in_x same = both_ways _ none
    (any_true (λ y. file_of y == file) xs x in_x (eq-eqb (file_of x) file same))

-- a version names no file from its next one on
late_beside : (version : StoreVersion) → IsVersion version → (file : ℕ)
    → version.next_file ≤ file → IsBesideVersion version file
late_beside version is file late = (
  none_more (λ (l : LogLine). l.file) log_is_before version.logs [] file
      (λ log in_log same.
      let given = among_of_All (λ (l : LogLine). IsAllocated version l.file) version.logs log
      is.lines.log_files in_log in
      let below = given.1 in
      omega (arith, below, same, late))
      (λ log none same. none),
  none_more (λ (l : TableLine). l.file) table_is_before version.tables [] file
      (λ line in_line same.
      let given = among_of_All (λ (l : TableLine). IsAllocated version l.file) version.tables line
      is.lines.table_files in_line in
      let below = given.1 in
      omega (arith, below, same, late))
      (λ line none same. none),
)

-- a version that names no output names none of those that steps of the merge begin
pub steps_beside : (version : StoreVersion) (old new : OutputWriter) (next_old next_new : ℕ)
    {most : ℕ} → IsVersion version → version.next_file ≤ next_old
    → UsesNumbers most old next_old new next_new → OutputsAreBeside old version
    → OutputsAreBeside new version
steps_beside version old new next_old next_new is le used beside file output =
    elim (used.outputs file output) [
      | inl before ↦ beside file before
      | inr late ↦ late_beside version is file (omega (arith, le, late))
    ]

-- nor after an edit that adds files from the merge's next one on alone
pub edits_beside : (version : StoreVersion) (edit : Change) (next_file : ℕ)
    (writer : OutputWriter) → HaveOwnNumbers writer next_file
    → All (λ line. next_file ≤ line.file) edit.logs_added
    → All (λ line. next_file ≤ line.file) edit.tables_added → OutputsAreBeside writer version
    → OutputsAreBeside writer (changed version edit)
edits_beside version edit next_file writer numbered logs tables beside file output =
    let was = beside file output in
    let below = output_below writer next_file numbered file output in (
      none_more (λ (l : LogLine). l.file) log_is_before (logs_left edit.logs_gone version.logs)
          edit.logs_added file
          (λ log in_log same. none_is (λ (l : LogLine). l.file) version.logs file was.0 log
          (filter_among _ version.logs log in_log).0 same)
          (λ log in_log same.
          let late = among_of_All (λ (l : LogLine). next_file ≤ l.file) edit.logs_added log logs
          in_log in
          omega (arith, late, same, below)),
      none_more (λ (l : TableLine). l.file) table_is_before
          (tables_left edit.tables_gone version.tables) edit.tables_added file
          (λ line in_line same. none_is (λ (l : TableLine). l.file) version.tables file was.1 line
          (filter_among _ version.tables line in_line).0 same)
          (λ line in_line same.
          let late = among_of_All (λ (l : TableLine). next_file ≤ l.file) edit.tables_added line
          tables in_line in
          omega (arith, late, same, below)),
    )
