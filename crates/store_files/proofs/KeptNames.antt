-- Which files are kept: the slots, and those that a version names.
use Rattle.std.proofs.Common.{◌≡◌, ◌<◌, ◌+◌, ℕ, List, [], ◌∷◌, ◌++◌, map, length, arith, inl, inr}
use Rattle.std.proofs.Common.{subst, sym}
use Rattle.std.specs.Prelude.{All, Contains}
use Rattle.std.proofs.lemmas.List.Elements.{All-contains, Contains-append_cases}
use Rattle.std.proofs.lemmas.List.Elements.{Contains-append_left, Contains-append_right}
use Rattle.store_model.specs.PlacesLemmas.{contains_cases, contains_head, contains_next}
use Rattle.manifest.specs.declared.LogLine.{LogLine}
use Rattle.manifest.specs.declared.TableLine.{TableLine}
use Rattle.manifest.specs.{IsSlotFile, StoreVersion, IsVersion}
use Rattle.manifest.specs.Lawful.{IsAllocated}
use Rattle.manifest.specs.Versions.{files_of}
use Rattle.store_files.specs.Openings.{kept_files}

-- ---- which files are kept

pub contains_map : {A B : Type 0} (f : A → B) (xs : List A) (x : A) → Contains xs x →
    Contains (map f xs) (f x)
contains_map f [] x has = absurd (omega (arith, has.1))
contains_map f (y ∷ ys) x has = elim (contains_cases y ys x has) [
  | inl is ↦ subst (λ z. Contains (f y ∷ map f ys) (f z)) is (contains_head (f y) (map f ys))
  | inr later ↦ contains_next (f y) (map f ys) (f x) (contains_map f ys x later)
]

-- what stands in the list of what a function gives is given by some element
pub map_contains : {A B : Type 0} (f : A → B) (xs : List A) (y : B) → Contains (map f xs) y →
    (x : A) × Contains xs x × (f x ≡ y)
map_contains f [] y has = absurd (omega (arith, has.1))
map_contains f (x ∷ xs) y has = elim (contains_cases (f x) (map f xs) y has) [
  | inl is ↦ (x, contains_head x xs, is)
  | inr later ↦ further (map_contains f xs y later)
]
  where
    further : (z : _) × Contains xs z × (f z ≡ y) → (z : _) × Contains (x ∷ xs) z × (f z ≡ y)
    further found = (found.0, contains_next x xs found.0 found.1, found.2)

module _ (version : StoreVersion) where
  -- the files of the logs and of the tables
  abbrev named : List ℕ
  named = files_of version.logs version.tables

  behind_slots : (file : ℕ) →
      Contains (map (λ (line : LogLine). line.file) version.logs
      ++ map (λ (line : TableLine). line.file) version.tables) file →
      Contains (kept_files version) file
  behind_slots file has =
      contains_next 1 (2 ∷ named) file (contains_next 2 named file has)

  pub slot_is_kept : (file : ℕ) → IsSlotFile file → Contains (kept_files version) file
  slot_is_kept file (inl one) =
      subst (Contains (kept_files version)) (sym one) (contains_head 1 (2 ∷ named))
  slot_is_kept file (inr two) =
      subst (Contains (kept_files version)) (sym two)
      (contains_next 1 (2 ∷ named) 2 (contains_head 2 named))

  pub log_is_kept : (line : LogLine) → Contains version.logs line →
      Contains (kept_files version) line.file
  log_is_kept line has =
      behind_slots line.file (Contains-append_left
      (map (λ (one : LogLine). one.file) version.logs)
      (map (λ (one : TableLine). one.file) version.tables) line.file
      (contains_map (λ (one : LogLine). one.file) version.logs line has))

  pub table_is_kept : (line : TableLine) → Contains version.tables line →
      Contains (kept_files version) line.file
  table_is_kept line has =
      behind_slots line.file (Contains-append_right
      (map (λ (one : LogLine). one.file) version.logs)
      (map (λ (one : TableLine). one.file) version.tables) line.file
      (contains_map (λ (one : TableLine). one.file) version.tables line has))

  -- a file that is named has a number that was given
  module _ (is : IsVersion version) where
    log_is_given : (file : ℕ) →
        Contains (map (λ (one : LogLine). one.file) version.logs) file → IsAllocated version file
    log_is_given file has =
        let found = map_contains (λ (one : LogLine). one.file) version.logs file has in
        subst (IsAllocated version) found.2
        (All-contains (λ (one : LogLine). IsAllocated version one.file) version.logs found.0
        is.lines.log_files found.1)

    table_is_given : (file : ℕ) →
        Contains (map (λ (one : TableLine). one.file) version.tables) file
        → IsAllocated version file
    table_is_given file has =
        let found = map_contains (λ (one : TableLine). one.file) version.tables file has in
        subst (IsAllocated version) found.2
        (All-contains (λ (one : TableLine). IsAllocated version one.file) version.tables found.0
        is.lines.table_files found.1)

    pub some_is_given : (logs : List LogLine) → 0 < length logs →
        All (λ (one : LogLine). IsAllocated version one.file) logs → 3 < version.next_file
    some_is_given [] some all = absurd (omega (arith, some))
    some_is_given (one ∷ logs) some all =
        let given = All-contains (λ (line : LogLine). IsAllocated version line.file)
        (one ∷ logs) one
        all (contains_head one logs) in
        omega (arith, given.0, given.1)

    pub kept_is_given : (file : ℕ) → Contains (kept_files version) file → file < version.next_file
    kept_is_given file has =
        let least = some_is_given version.logs is.lawful.some is.lines.log_files in
        elim (contains_cases 1 (2 ∷ named) file has) [
          | inl one ↦ omega (arith, one, least)
          | inr other ↦ elim (contains_cases 2 named file other) [
            | inl two ↦ omega (arith, two, least)
            | inr behind ↦ elim (Contains-append_cases
                (map (λ (one : LogLine). one.file) version.logs)
                (map (λ (one : TableLine). one.file) version.tables) file behind) [
                  | inl log ↦ (log_is_given file log).1
                  | inr table ↦ (table_is_given file table).1
                ]
          ]
        ]
