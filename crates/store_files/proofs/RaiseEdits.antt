-- A version may take the edit of a rise of the floor.
use Rattle.std.proofs.Common.{◌≡◌, ◌≤◌, ◌∙◌, ℕ, List, [], ◌∷◌, ◌++◌, length, map, Bool}
use Rattle.std.proofs.Common.{append_assoc, ap, arith, eq-eqb, false, inl, inr, ne_eqb, refl, subst}
use Rattle.std.proofs.Common.{sym, true}
use Rattle.std.specs.Prelude.{Contains, not, ◌||◌, ◌==◌}
use Rattle.std.specs.List.{filter, list_all, list_any}
use Rattle.std.proofs.lemmas.Bool.{and_from, and_parts}
use Rattle.std.proofs.lemmas.List.{length-append, map-append}
use Rattle.std.proofs.lemmas.List.Elements.{All-contains, All-contains_itself, All-nil, All-weaker}
use Rattle.std.proofs.lemmas.List.Elements.{Contains-append_left, Contains-append_right}
use Rattle.std.proofs.lemmas.List.Elements.{filter-append}
use Rattle.std.proofs.lemmas.List.Folds.{list_any-append, list_any_none}
use Rattle.kv_types.specs.declared.bounds.TheConstants.{MAX_NUMBER}
use Rattle.version_edits.specs.declared.line.LogLine.{LogLine}
use Rattle.version_edits.specs.declared.line.TableLine.{TableLine}
use Rattle.manifest.specs.Lawful.{IsAllocated, IsVersion}
use Rattle.manifest.specs.Versions.{AreLawful, are_once, files_of, logs_left, names_log}
use Rattle.manifest.specs.VersionsLemmas.{all_tables_left}
use Rattle.manifest.specs.{IsChange, IsFit, IsLogLine, IsSlotFile, StoreVersion, changed}
use Rattle.store_model.specs.PlacesLemmas.{contains_cases, contains_head, contains_next}
use Rattle.store_files.specs.Raising.{obsolete_logs, live_logs, raise_change}
use Rattle.store_files.proofs.FilesApart.{any_at, given_no_slot, once_apart}
use Rattle.store_files.proofs.FlushEdits.{same_ids}
use Rattle.store_files.proofs.KeptNames.{contains_map}
use Rattle.store_files.proofs.LeftLogs.{IsCut, file_in, gone_few, gone_named, raise_cuts, some_left}
use Rattle.store_files.proofs.Records.{either, not_true}

-- ---- numbers that stand once

neither_any : (p q : Bool) → not (p || q) ≡ true → not p ≡ true
neither_any true q none = absurd (not_true none)
neither_any false q none = refl

-- those before others stand once too
pub once_before : (xs ys : List ℕ) → are_once (xs ++ ys) ≡ true → are_once xs ≡ true
once_before [] ys once = refl
once_before (x ∷ xs) ys once =
    let parts = and_parts (not (list_any (λ m. m == x) (xs ++ ys))) (are_once (xs ++ ys)) once in
    and_from (not (list_any (λ m. m == x) xs)) (are_once xs)
    (neither_any (list_any (λ m. m == x) xs) (list_any (λ m. m == x) ys)
    (ap (λ (b : Bool). not b) (sym (list_any-append (λ m. m == x) xs ys)) ∙ parts.0))
    (once_before xs ys parts.1)

-- and those behind them
pub once_behind : (xs ys : List ℕ) → are_once (xs ++ ys) ≡ true → are_once ys ≡ true
once_behind [] ys once = once
once_behind (x ∷ xs) ys once =
    once_behind xs ys
    (and_parts (not (list_any (λ m. m == x) (xs ++ ys))) (are_once (xs ++ ys)) once).1

-- ---- what a test leaves of a list

none_pass : {A : Type 0} (p : A → Bool) (xs : List A)
    → ((x : A) → Contains xs x → p x ≡ false) → filter p xs ≡ []
none_pass p [] fails = refl
none_pass p (x ∷ xs) fails =
    rw (fails x (contains_head x xs))
    (none_pass p xs (λ y has. fails y (contains_next x xs y has)))

all_pass : {A : Type 0} (p : A → Bool) (xs : List A)
    → ((x : A) → Contains xs x → p x ≡ true) → filter p xs ≡ xs
all_pass {A} p [] passes = refl
all_pass {A} p (x ∷ xs) passes =
    rw (passes x (contains_head x xs)) (ap (λ (l : List A). x ∷ l)
    (all_pass p xs (λ y has. passes y (contains_next x xs y has))))

-- a log is named by its file
named_log : (lines : List LogLine) (line : LogLine) → Contains lines line
    → names_log lines line.file ≡ true
named_log [] line has = absurd (let lt = has.1 in omega (arith, lt))
named_log (one ∷ lines) line has = elim (contains_cases one lines line has) [
  | inl same ↦ rw (eq-eqb one.file line.file (ap file_in same)) refl
  | inr later ↦ elim (either (one.file == line.file)) [
    | inl same ↦ rw same refl
    | inr other ↦ rw other (named_log lines line later)
  ]
]

each_passes : (p : ℕ → Bool) (ns : List ℕ) → ((n : ℕ) → Contains ns n → p n ≡ true)
    → list_all p ns ≡ true
each_passes p [] passes = refl
each_passes p (n ∷ ns) passes =
    and_from (p n) (list_all p ns) (passes n (contains_head n ns))
    (each_passes p ns (λ m has. passes m (contains_next n ns m has)))

-- ---- the edit

module _ (version : StoreVersion) (is : IsVersion version) (floor : ℕ) where
  abbrev gone : List ℕ
  gone = obsolete_logs floor version.logs

  abbrev left : List LogLine
  left = live_logs floor version.logs

  cut : IsCut version.logs left gone
  cut = raise_cuts floor version.logs

  -- the files of the tables
  abbrev tables_files : List ℕ
  tables_files = map (λ (line : TableLine). line.file) version.tables

  -- the files that are given up, those that are left, and those of tables stand once together
  all_once : are_once (gone ++ (map file_in left ++ tables_files)) ≡ true
  all_once =
      let parted : files_of version.logs version.tables
      ≡ (map file_in cut.front ++ map file_in left) ++ tables_files =
      ap (λ (l : List LogLine). map file_in l ++ tables_files) cut.parted
      ∙ ap (λ (l : List ℕ). l ++ tables_files) (map-append file_in cut.front left) in
      subst (λ (l : List ℕ). are_once (l ++ (map file_in left ++ tables_files)) ≡ true)
      (sym cut.files)
      (subst (λ (l : List ℕ). are_once l ≡ true)
      (parted ∙ append_assoc (map file_in cut.front) (map file_in left) tables_files)
      is.lawful.files_once)

  -- a log that is left keeps its file
  pub left_apart : (line : LogLine) → Contains left line → Contains gone line.file → ⊥
  left_apart line has in_gone =
      once_apart gone (map file_in left ++ tables_files) line.file line.file all_once in_gone
      (Contains-append_left (map file_in left) tables_files line.file
      (contains_map file_in left line has)) refl

  -- and so does a table
  pub table_apart : (line : TableLine) → Contains version.tables line → Contains gone line.file
      → ⊥
  table_apart line has in_gone =
      once_apart gone (map file_in left ++ tables_files) line.file line.file all_once in_gone
      (Contains-append_right (map file_in left) tables_files line.file
      (contains_map (λ (one : TableLine). one.file) version.tables line has)) refl

  -- a file that is given up was given
  pub gone_given : (file : ℕ) → Contains gone file → IsAllocated version file
  gone_given file has =
      let found = gone_named floor version.logs file has in
      subst (IsAllocated version) found.2
      (All-contains (λ (line : LogLine). IsAllocated version line.file) version.logs found.0
      is.lines.log_files found.1)

  -- it is no slot
  pub gone_no_slot : (file : ℕ) → Contains gone file → IsSlotFile file → ⊥
  gone_no_slot file has slot = given_no_slot version file (gone_given file has) file slot refl

  -- without the files that are given up, the logs that are left stay
  pub logs_are_left : logs_left gone version.logs ≡ left
  logs_are_left =
      let p : LogLine → Bool = λ line. not (list_any (λ file. file == line.file) gone) in
      ap (filter p) cut.parted ∙ filter-append p cut.front left
      ∙ ap (λ (l : List LogLine). l ++ filter p left) (none_pass p cut.front (λ line has.
      ap (λ (b : Bool). not b) (any_at line.file gone
      (subst (λ (l : List ℕ). Contains l line.file) (sym cut.files)
      (contains_map file_in cut.front line has)))))
      ∙ all_pass p left (λ line has. ap (λ (b : Bool). not b)
      (list_any_none (λ file. file == line.file) gone
      (All-weaker (Contains gone) (λ file. (file == line.file) ≡ false)
      (λ file there. ne_eqb file line.file (λ same. left_apart line has
      (subst (Contains gone) same there))) gone (All-contains_itself gone))))

  -- the version with the greater floor and the logs that are left
  abbrev pub raised_version : StoreVersion
  raised_version = record version { floor = floor; logs = left }

  pub raised_is : changed version (raise_change version floor) ≡ raised_version
  raised_is =
      let all = (changed version (raise_change version floor)).tables in
      ap (λ (l : List LogLine). record version { floor = floor; logs = l; tables = all })
      logs_are_left
      ∙ ap (λ (t : List TableLine). record version { floor = floor; logs = left; tables = t })
      (all_tables_left version.tables)

  raised_lawful : AreLawful left version.tables
  raised_lawful =
      let all = ap length cut.parted ∙ length-append cut.front left in
      let few = is.lawful.few_logs in
      record {
        some = some_left floor version.logs is.lawful.some;
        few_logs = omega (arith, all, few);
        few_tables = is.lawful.few_tables;
        files_once = once_behind gone (map file_in left ++ tables_files) all_once;
        apart = is.lawful.apart;
      }

  module _ (rises : version.floor ≤ floor) where
    pub raise_fit : IsFit version (raise_change version floor)
    raise_fit = record {
      numbers = record {
        next_file = omega arith;
        floor = rises;
        flushed = omega arith;
        epoch = omega arith;
      };
      ids = same_ids version.ids;
      there = record {
        logs = each_passes (names_log version.logs) gone (λ file has.
            let found = gone_named floor version.logs file has in
            subst (λ (f : ℕ). names_log version.logs f ≡ true) found.2
            (named_log version.logs found.0 found.1));
        logs_once = once_before gone (map file_in left ++ tables_files) all_once;
        tables = refl;
        tables_once = refl;
      };
      new = record { logs = refl; tables = refl };
      lawful = subst (λ (v : StoreVersion). AreLawful v.logs v.tables) (sym raised_is)
          raised_lawful;
    }

    pub raise_change_is : floor ≤ MAX_NUMBER → IsChange (raise_change version floor)
    raise_change_is few =
        let lines = is.lawful.few_logs in
        let less = gone_few floor version.logs is.lawful.some in
        let most = is.next_file in
        record {
          next_file = is.next_file;
          floor = few;
          flushed = is.flushed;
          epoch = is.epoch;
          ids = is.ids;
          logs_gone = (
            omega (arith, less, lines),
            All-weaker (Contains gone) (λ file. file ≤ MAX_NUMBER)
                (λ file has. let given = gone_given file has in omega (arith, given.1, most)) gone
                (All-contains_itself gone),
          );
          logs_added = (omega arith, All-nil IsLogLine);
          tables_gone = (omega arith, All-nil _);
          tables_added = (omega arith, All-nil _);
        }
