-- Calls that change no file that a version names: what open files hold behind them.
use Rattle.std.proofs.Common.{◌≡◌, ◌≤◌, ◌<◌, ℕ, List, [], ◌∷◌}
use Rattle.std.proofs.Common.{Bool, true, false, arith, inl, inr, length, map, refl}
use Rattle.std.proofs.Common.{eq-eqb}
use Rattle.std.specs.Prelude.{All, Contains}
use Rattle.std.specs.Prelude.{◌||◌, ◌==◌}
use Rattle.std.specs.List.{list_any}
use Rattle.std.proofs.lemmas.Bool.{ne_eqb}
use Rattle.std.proofs.lemmas.List.Elements.{All-head, All-weaker, Contains-append_cases}
use Rattle.std.proofs.lemmas.List.Folds.{list_any_none}
use Rattle.kv_types.specs.{BatchContent}
use Rattle.disk.specs.{AlwaysLeaves}
use Rattle.disk.specs.MomentsLemmas.{weaker}
use Rattle.disk.specs.declared.Disk.{Ghosts}
use Rattle.version_edits.specs.declared.LogLine.{LogLine}
use Rattle.version_edits.specs.declared.TableLine.{TableLine}
use Rattle.version_edits.specs.declared.line.TheConstants.{MAX_NEXT}
use Rattle.version_edits.specs.Lawful.{IsAllocated}
use Rattle.version_edits.specs.Versions.{files_of}
use Rattle.version_edits.specs.{StoreVersion}
use Rattle.compaction.specs.Leftovers.{IsBesideVersion}
use Rattle.compaction.specs.Outputs.{IsLeftBeyond}
use Rattle.store_model.specs.PlacesLemmas.{contains_cases}
use Rattle.store_files.specs.declared.store_files.StoreFiles.{StoreFiles}
use Rattle.store_files.specs.BesideFiles.{IsNamedFile, OtherFilesAreFree, with_free}
use Rattle.store_files.specs.OpenFiles.{AreUsableFiles, FilesHold, WereMeantToHold, known_facts}
use Rattle.store_files.specs.OpenFiles.{known_version}
use Rattle.store_files.specs.StoreFiles.{FilesRepresent, WereMeant}
use Rattle.engine.proofs.Merges.{not_named}

-- ---- the files that a version names

or_right : (a b : Bool) → b ≡ true → (a || b) ≡ true
or_right true b is = refl
or_right false b is = is

-- a test finds a file that is among those of the list
has_file : {A : Type 0} (file_of : A → ℕ) (xs : List A) (file : ℕ) →
    Contains (map file_of xs) file → list_any (λ x. file_of x == file) xs ≡ true
has_file file_of [] file has = let lt = has.1 in absurd (omega (arith, lt))
has_file file_of (x ∷ xs) file has = elim (contains_cases (file_of x) (map file_of xs) file has) [
  | inl is ↦ rw (eq-eqb (file_of x) file is) refl
  | inr later ↦ or_right (file_of x == file) (list_any (λ y. file_of y == file) xs)
      (has_file file_of xs file later)
]

-- a version with a log has given a number, and so one that no slot has
given_late : (version : StoreVersion) (logs : List LogLine) → 0 < length logs →
    All (λ line. IsAllocated version line.file) logs → 3 ≤ version.next_file
given_late version [] some given = absurd (omega (arith, some))
given_late version (log ∷ logs) some given =
    let one = All-head (λ (line : LogLine). IsAllocated version line.file) log logs given in
    let late = one.0 in
    let early = one.1 in
    omega (arith, late, early)

module _ (files : StoreFiles) (u : AreUsableFiles files) where
  abbrev version : StoreVersion
  version = (known_version files).version

  -- a file that neither a log nor a table has is named only where it is a slot
  pub beside_named : (file : ℕ) → 3 ≤ file → IsBesideVersion version file →
      IsNamedFile files file → ⊥
  beside_named file late beside named =
      elim (contains_cases 1 (2 ∷ files_of version.logs version.tables) file named) as (λ _. ⊥) [
        | inl one ↦ omega (arith, late, one)
        | inr more ↦ elim (contains_cases 2 (files_of version.logs version.tables) file more) as
            (λ _. ⊥) [
              | inl two ↦ omega (arith, late, two)
              | inr lines ↦ elim (Contains-append_cases
                  (map (λ (line : LogLine). line.file) version.logs)
                  (map (λ (line : TableLine). line.file) version.tables) file lines) as (λ _. ⊥) [
                    | inl log ↦ not_named beside.0
                        (has_file (λ (line : LogLine). line.file) version.logs file log)
                    | inr table ↦ not_named beside.1
                        (has_file (λ (line : TableLine). line.file) version.tables file table)
                  ]
            ]
      ]

  -- a file from the version's next one on is none that it names
  pub beside_from : (file : ℕ) → version.next_file ≤ file → IsBesideVersion version file
  beside_from file from = (
    list_any_none (λ (line : LogLine). line.file == file) version.logs
        (All-weaker (λ (line : LogLine). IsAllocated version line.file)
        (λ (line : LogLine). (line.file == file) ≡ false)
        (λ line given. let early = given.1 in
        ne_eqb line.file file (λ same. omega (arith, same, early, from)))
        version.logs u.version.lines.log_files),
    list_any_none (λ (line : TableLine). line.file == file) version.tables
        (All-weaker (λ (line : TableLine). IsAllocated version line.file)
        (λ (line : TableLine). (line.file == file) ≡ false)
        (λ line given. let early = given.1 in
        ne_eqb line.file file (λ same. omega (arith, same, early, from)))
        version.tables u.version.lines.table_files),
  )

  -- nor is a free one
  pub free_named : (file : ℕ) → files.free_file ≤ file → IsNamedFile files file → ⊥
  free_named file free named =
      let least = given_late version version.logs u.version.lawful.some
      u.version.lines.log_files in
      let above = u.free in
      beside_named file (omega (arith, free, above, least))
      (beside_from file (omega (arith, free, above))) named

  -- with another first free file they are usable
  pub usable_with : (free : ℕ) → version.next_file ≤ free → free ≤ MAX_NEXT →
      AreUsableFiles (with_free files free)
  usable_with free above few = record {
    works = u.works;
    version = u.version;
    logs = u.logs;
    lines = u.lines;
    tables = u.tables;
    memtable = u.memtable;
    numbers = u.numbers;
    free = above;
    free_few = few;
  }

-- ---- moments

module _ {F : Type 0} (d : Ghosts F) (free : OtherFilesAreFree) (files : StoreFiles)
    (list : List BatchContent) (own : ℕ → Type 0)
    (none : (file : ℕ) → own file → IsNamedFile files file → ⊥) (a b : F)
    (moments : AlwaysLeaves d a b (IsLeftBeyond own (d.state a))) where
  -- calls that write to no named file leave at each moment files that represent the list
  pub represent_beside : FilesHold (d.state a) files list →
      AlwaysLeaves d a b (FilesRepresent (known_facts files) list)
  represent_beside held = weaker (IsLeftBeyond own (d.state a))
      (FilesRepresent (known_facts files) list) (d.state a) (d.past a) (d.state b) (d.past b)
      (λ left beyond. free.left (d.state a) files list left held
      (λ file named. beyond file (λ is. none file is named))) moments

  -- or were meant to
  pub meant_beside : WereMeantToHold (d.state a) files list →
      AlwaysLeaves d a b (WereMeant (known_facts files) list)
  meant_beside held = weaker (IsLeftBeyond own (d.state a))
      (WereMeant (known_facts files) list) (d.state a) (d.past a) (d.state b) (d.past b)
      (λ left beyond. free.meant_left (d.state a) files list left held
      (λ file named. beyond file (λ is. none file is named))) moments
