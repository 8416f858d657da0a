-- The version after the edit of a merge, and which files it names.
use Rattle.std.proofs.Common.{◌≡◌, ◌⊎◌, ◌≢◌, ◌∙◌, ℕ, List, [], ◌∷◌, All, Bool, map, ap, arith}
use Rattle.std.proofs.Common.{eq-eqb, eqb-true, inl, inr, refl, subst, sym, true}
use Rattle.std.specs.Prelude.{Contains, not, ◌&&◌, ◌==◌}
use Rattle.std.specs.List.{filter, fold, list_all, list_any}
use Rattle.std.proofs.lemmas.Bool.{and_parts, or_cases}
use Rattle.std.proofs.lemmas.List.Elements.{All-cons, All-filter, All-head, All-nil, All-tail}
use Rattle.version_edits.specs.declared.line.LogLine.{LogLine}
use Rattle.version_edits.specs.declared.line.TableLine.{TableLine}
use Rattle.version_edits.specs.declared.line.TableName.{TableName}
use Rattle.manifest.specs.Lawful.{IsAllocated, IsVersion}
use Rattle.manifest.specs.Versions.{are_once, is_new_file, names_file, names_table, placed}
use Rattle.manifest.specs.Versions.{table_is_before, tables_left}
use Rattle.manifest.specs.VersionsLemmas.{all_logs_left}
use Rattle.manifest.specs.{Change, IsFit, IsSlotFile, StoreVersion, changed}
use Rattle.store_model.specs.PlacesLemmas.{contains_cases, contains_head, contains_next}
use Rattle.compaction.specs.Merges.{merge_change}
use Rattle.store_tables.specs.MergeTables.{replaced_lines}
use Rattle.store_files.specs.Merging.{replaced_files}
use Rattle.store_files.proofs.FilesApart.{any_at, given_no_slot, log_no_table}
use Rattle.store_files.proofs.KeptNames.{contains_map, map_contains}
use Rattle.store_files.proofs.NamedHolds.{table_given}
use Rattle.store_files.proofs.RaiseEdits.{once_behind}
use Rattle.store_files.proofs.Records.{either, not_true}

-- ---- what stands in lists

-- what stands in a list after one was placed stood there, or is that one
placed_from : {A : Type 0} (before : A → A → Bool) (xs : List A) (x y : A)
    → Contains (placed before xs x) y → Contains xs y ⊎ (x ≡ y)
placed_from before [] x y has = elim (contains_cases x [] y has)
    [ inl is ↦ inr is | inr none ↦ inl none ]
placed_from {A} before (z ∷ xs) x y has = elim (either (before x z)) [
  | inl first ↦
      let same : placed before (z ∷ xs) x ≡ x ∷ z ∷ xs = rw first refl in
      elim (contains_cases x (z ∷ xs) y (subst (λ (l : List A). Contains l y) same has))
      [ inl is ↦ inr is | inr later ↦ inl later ]
  | inr behind ↦
      let same : placed before (z ∷ xs) x ≡ z ∷ placed before xs x = rw behind refl in
      let there = subst (λ (l : List A). Contains l y) same has in
      elim (contains_cases z (placed before xs x) y there) [
        | inl is ↦ inl (subst (Contains (z ∷ xs)) is (contains_head z xs))
        | inr later ↦ elim (placed_from before xs x y later) [
          | inl old ↦ inl (contains_next z xs y old)
          | inr is ↦ inr is
        ]
      ]
]

-- so it is with several
folded_from : {A : Type 0} (before : A → A → Bool) (xs ys : List A) (y : A)
    → Contains (fold (placed before) xs ys) y → Contains xs y ⊎ Contains ys y
folded_from before xs [] y has = inl has
folded_from before xs (x ∷ ys) y has =
    elim (folded_from before (placed before xs x) ys y has) [
      | inl old ↦ elim (placed_from before xs x y old) [
        | inl was ↦ inl was
        | inr is ↦ inr (subst (Contains (x ∷ ys)) is (contains_head x ys))
      ]
      | inr new ↦ inr (contains_next x ys y new)
    ]

-- what is left of a list stood there, and passes the test
filtered_from : {A : Type 0} (p : A → Bool) (xs : List A) (y : A) → Contains (filter p xs) y
    → Contains xs y × (p y ≡ true)
filtered_from p [] y has = absurd (let lt = has.1 in omega (arith, lt))
filtered_from {A} p (x ∷ xs) y has = elim (either (p x)) [
  | inl passes ↦
      let same : filter p (x ∷ xs) ≡ x ∷ filter p xs = rw passes refl in
      elim (contains_cases x (filter p xs) y (subst (λ (l : List A). Contains l y) same has)) [
        | inl is ↦ (
          subst (Contains (x ∷ xs)) is (contains_head x xs),
          subst (λ (z : A). p z ≡ true) is passes,
        )
        | inr later ↦
            let more = filtered_from p xs y later in
            (contains_next x xs y more.0, more.1)
      ]
  | inr fails ↦
      let same : filter p (x ∷ xs) ≡ filter p xs = rw fails refl in
      let more = filtered_from p xs y (subst (λ (l : List A). Contains l y) same has) in
      (contains_next x xs y more.0, more.1)
]

-- what holds of each and of one more holds of all
all_placed : {A : Type 0} (P : A → Type 0) (before : A → A → Bool) (xs : List A) (x : A)
    → All P xs → P x → All P (placed before xs x)
all_placed P before [] x all is = All-cons P x [] is (All-nil P)
all_placed P before (z ∷ xs) x all is = elim (either (before x z)) [
  | inl first ↦ rw first (All-cons P x (z ∷ xs) is all)
  | inr behind ↦ rw behind (All-cons P z (placed before xs x) (All-head P z xs all)
      (all_placed P before xs x (All-tail P z xs all) is))
]

all_folded : {A : Type 0} (P : A → Type 0) (before : A → A → Bool) (xs ys : List A)
    → All P xs → All P ys → All P (fold (placed before) xs ys)
all_folded P before xs [] all more = all
all_folded P before xs (y ∷ ys) all more =
    all_folded P before (placed before xs y) ys
    (all_placed P before xs y all (All-head P y ys more)) (All-tail P y ys more)

-- an element of a list of which one passes a test
any_found : {A : Type 0} (p : A → Bool) (xs : List A) → list_any p xs ≡ true
    → (x : A) × Contains xs x × (p x ≡ true)
any_found p [] some = absurd (not_true some)
any_found {A} p (x ∷ xs) some = elim (or_cases (p x) (list_any p xs) some) [
  | inl here ↦ (x, contains_head x xs, here)
  | inr later ↦ next (any_found p xs later)
]
  where
    next : (y : A) × Contains xs y × (p y ≡ true) → (y : A) × Contains (x ∷ xs) y × (p y ≡ true)
    next (y, has, is) = (y, contains_next x xs y has, is)

any_of : {A : Type 0} (p : A → Bool) (xs : List A) (x : A) → Contains xs x → p x ≡ true
    → list_any p xs ≡ true
any_of p [] x has is = absurd (let lt = has.1 in omega (arith, lt))
any_of {A} p (z ∷ xs) x has is = elim (contains_cases z xs x has) [
  | inl same ↦ let here : p z ≡ true = subst (λ (y : A). p y ≡ true) (sym same) is in rw here refl
  | inr later ↦ elim (either (p z)) [
    | inl here ↦ rw here refl
    | inr fails ↦ rw fails (any_of p xs x later is)
  ]
]

-- each element passes a test that all pass
each_of : {A : Type 0} (p : A → Bool) (xs : List A) (x : A) → list_all p xs ≡ true
    → Contains xs x → p x ≡ true
each_of p [] x all has = absurd (let lt = has.1 in omega (arith, lt))
each_of {A} p (z ∷ xs) x all has =
    let parts = and_parts (p z) (list_all p xs) all in
    elim (contains_cases z xs x has) [
      | inl same ↦ subst (λ (y : A). p y ≡ true) same parts.0
      | inr later ↦ each_of p xs x parts.1 later
    ]

-- the file of a table's line
abbrev file_in : TableLine → ℕ
file_in line = line.file

-- of lines that name each file once, two with one file are one
one_line : (lines : List TableLine) (a b : TableLine) → are_once (map file_in lines) ≡ true
    → Contains lines a → Contains lines b → a.file ≡ b.file → a ≡ b
one_line [] a b once first second same = absurd (let lt = first.1 in omega (arith, lt))
one_line (line ∷ lines) a b once first second same =
    let parts = and_parts (not (list_any (λ other. other == line.file) (map file_in lines)))
    (are_once (map file_in lines)) once in
    let alone : (c : TableLine) → Contains lines c → c.file ≡ line.file → ⊥ = λ c has is.
    not_true (subst (λ (t : Bool). not t ≡ true)
    (any_at line.file (map file_in lines) (subst (Contains (map file_in lines)) is
    (contains_map file_in lines c has))) parts.0) in
    elim (contains_cases line lines a first) [
      | inl here ↦ elim (contains_cases line lines b second) [
        | inl too ↦ sym here ∙ too
        | inr later ↦ absurd (alone b later (sym same ∙ ap file_in (sym here)))
      ]
      | inr before ↦ elim (contains_cases line lines b second) [
        | inl too ↦ absurd (alone a before (same ∙ ap file_in (sym too)))
        | inr later ↦ one_line lines a b parts.1 before later same
      ]
    ]

-- ---- the version after the edit

module _ (version : StoreVersion) (is : IsVersion version) (edit : Change) (free : ℕ)
    (fit : IsFit version edit)
    (merges : edit ≡ merge_change version free edit.tables_gone edit.tables_added) where
  abbrev gone : List TableName
  gone = edit.tables_gone

  -- its tables are replaced
  abbrev pub merged_version : StoreVersion
  merged_version = record version {
    next_file = free;
    tables = replaced_lines gone edit.tables_added version.tables;
  }

  pub merged_is : changed version edit ≡ merged_version
  merged_is = ap (changed version) merges
      ∙ ap (λ (l : List LogLine). record version {
        next_file = free;
        logs = l;
        tables = replaced_lines gone edit.tables_added version.tables;
      }) (all_logs_left version.logs)

  -- what holds of the tables before and of those that are added holds of those after
  pub all_merged : (P : TableLine → Type 0) → All P version.tables → All P edit.tables_added
      → All P merged_version.tables
  all_merged P old new = all_folded P table_is_before (tables_left gone version.tables)
      edit.tables_added (All-filter _ P version.tables old) new

  -- a table that is added has a file that no table of the version has
  pub new_apart : (line other : TableLine) → Contains edit.tables_added line
      → Contains version.tables other → other.file ≢ line.file
  new_apart line other has there same =
      let new = each_of (λ (l : TableLine). is_new_file version edit l.file) edit.tables_added line
      fit.new.tables has in
      let named : names_file version.tables line.file ≡ true =
      any_of (λ (l : TableLine). l.file == line.file) version.tables other there
      (eq-eqb other.file line.file same) in
      not_true (sym (ap (λ (b : Bool). not b) named)
      ∙ (and_parts _ (not (names_file version.tables line.file)) new).1)

  -- a table that is given up is one of the version
  input_named : (one : TableName) → Contains gone one → (line : TableLine)
      × Contains version.tables line × ((line.level == one.level && line.file == one.file) ≡ true)
  input_named one has =
      any_found (λ (line : TableLine). line.level == one.level && line.file == one.file)
      version.tables (each_of (names_table version.tables) gone one fit.there.tables has)

  -- its file is that of a table
  pub input_given : (file : ℕ) → Contains (replaced_files edit) file
      → (line : TableLine) × Contains version.tables line × (line.file ≡ file)
  input_given file has =
      let found = map_contains (λ (one : TableName). one.file) gone file has in
      let named = input_named found.0 found.1 in
      let parts = and_parts (named.0.level == found.0.level) (named.0.file == found.0.file) named.2
      in
      (named.0, named.1, eqb-true named.0.file found.0.file parts.1 ∙ found.2)

  pub input_allocated : (file : ℕ) → Contains (replaced_files edit) file → IsAllocated version file
  input_allocated file has =
      let named = input_given file has in
      subst (IsAllocated version) named.2 (table_given version is named.0 named.1)

  pub input_no_slot : (file : ℕ) → Contains (replaced_files edit) file → IsSlotFile file → ⊥
  input_no_slot file has slot = given_no_slot version file (input_allocated file has) file slot refl

  -- a log keeps its file
  pub log_no_input : (line : LogLine) → Contains version.logs line
      → Contains (replaced_files edit) line.file → ⊥
  log_no_input line has input =
      let named = input_given line.file input in
      log_no_table version is line has named.0 named.1 named.2

  once : are_once (map file_in version.tables) ≡ true
  once = once_behind (map (λ (line : LogLine). line.file) version.logs) (map file_in version.tables)
      is.lawful.files_once

  -- and so does a table of the version after it
  pub table_no_input : (line : TableLine) → Contains merged_version.tables line
      → Contains (replaced_files edit) line.file → ⊥
  table_no_input line has input =
      let left_lines = tables_left gone version.tables in
      elim (folded_from table_is_before left_lines edit.tables_added line has) [
        | inl old ↦
            let left = filtered_from _ version.tables line old in
            let found = map_contains (λ (one : TableName). one.file) gone line.file input in
            let named = input_named found.0 found.1 in
            let parts = and_parts (named.0.level == found.0.level) (named.0.file == found.0.file)
            named.2 in
            let same = one_line version.tables named.0 line once named.1 left.0
            (eqb-true named.0.file found.0.file parts.1 ∙ found.2) in
            let level : found.0.level ≡ line.level =
            sym (eqb-true named.0.level found.0.level parts.0)
            ∙ ap (λ (l : TableLine). l.level) same in
            not_true (subst (λ (b : Bool). not b ≡ true)
            (any_of (λ (one : TableName). one.level == line.level && one.file == line.file) gone
            found.0 found.1
            (rw (
              eq-eqb found.0.level line.level level,
              eq-eqb found.0.file line.file found.2,
            ) refl))
            left.1)
        | inr new ↦
            let named = input_given line.file input in
            new_apart line named.0 new named.1 named.2
      ]
