-- The files that a rise of the floor may change: none is a table's.
use Rattle.std.proofs.Common.{◌≡◌, ℕ, ◌+◌, List, [], ◌∷◌, ◌++◌, Bool, true, false, arith}
use Rattle.std.proofs.Common.{eq-eqb, inl, inr, map, refl, subst, sym}
use Rattle.std.proofs.lemmas.Bool.{cases_Bool}
use Rattle.std.proofs.lemmas.List.Elements.{Contains-append_right}
use Rattle.std.specs.List.{list_any}
use Rattle.std.specs.Prelude.{◌==◌, ◌&&◌, Contains, nat_le, not}
use Rattle.disk.specs.{State, contents}
use Rattle.version_edits.specs.declared.LogLine.{LogLine}
use Rattle.version_edits.specs.declared.TableLine.{TableLine}
use Rattle.version_edits.specs.Versions.{are_once}
use Rattle.manifest.specs.{IsVersion, counting_file, spare_file}
use Rattle.store_model.specs.{LevelTable}
use Rattle.store_model.specs.PlacesLemmas.{contains_cases, contains_head, contains_next}
use Rattle.store_model.specs.PlacesLemmas.{contains_none}
use Rattle.store_tables.specs.LevelTables.{AreTablesOf, IsTableOf}
use Rattle.store_files.specs.declared.store_files.StoreFiles.{StoreFiles}
use Rattle.store_files.specs.Apart.{IsSlotOrFree, IsTableApart}
use Rattle.store_files.specs.OpenFiles.{known_version}
use Rattle.store_files.specs.Raising.{IsRaisedBy, obsolete_files, obsolete_logs, raised_files}
use Rattle.store_files.specs.Tending.{tended_files}
use Rattle.engine.proofs.TestedLists.{zip_beside}

-- a number of a list is found in it
any_at : (n : ℕ) (ns : List ℕ) → Contains ns n → list_any (λ other. other == n) ns ≡ true
any_at n [] has = absurd (contains_none n has)
any_at n (m ∷ ns) has = elim (contains_cases m ns n has) [
  | inl same ↦ rw (eq-eqb m n same) refl
  | inr later ↦ elim (cases_Bool (m == n)) [
    | inl same ↦ rw same refl
    | inr other ↦ rw other (any_at n ns later)
  ]
]

and_right : (p q : Bool) → p && q ≡ true → q ≡ true
and_right true q both = both
and_right false q both = absurd cc

never : false ≡ true → ⊥
never is = cc

-- of numbers that stand once, none stands in two parts
once_apart : (xs ys : List ℕ) (n : ℕ) → are_once (xs ++ ys) ≡ true → Contains xs n →
    Contains ys n → ⊥
once_apart [] ys n once first second = contains_none n first
once_apart (x ∷ xs) ys n once first second =
    elim (contains_cases x xs n first) as (λ _. ⊥) [
      | inl is ↦
          let there : Contains (xs ++ ys) x = subst (Contains (xs ++ ys)) (sym is)
          (Contains-append_right xs ys n second) in
          never (subst (λ (t : Bool). not t && are_once (xs ++ ys) ≡ true)
          (any_at x (xs ++ ys) there) once)
      | inr later ↦ once_apart xs ys n
          (and_right (not (list_any (λ other. other == x) (xs ++ ys))) (are_once (xs ++ ys)) once)
          later second
    ]

-- the file of a line is one of the lines' files
file_among : {A : Type 0} (file_of : A → ℕ) (lines : List A) (line : A) → Contains lines line →
    Contains (map file_of lines) (file_of line)
file_among file_of [] line has = absurd (contains_none line has)
file_among file_of (l ∷ lines) line has = elim (contains_cases l lines line has) [
  | inl is ↦ subst (λ x. Contains (file_of l ∷ map file_of lines) (file_of x)) is
      (contains_head (file_of l) (map file_of lines))
  | inr later ↦ contains_next (file_of l) (map file_of lines) (file_of line)
      (file_among file_of lines line later)
]

-- a log that is given up is one of the logs
obsolete_among : (floor : ℕ) (lines : List LogLine) (file : ℕ) →
    Contains (obsolete_logs floor lines) file → Contains (map (λ line. line.file) lines) file
obsolete_among floor [] file has = absurd (contains_none file has)
obsolete_among floor (line ∷ []) file has = absurd (contains_none file has)
obsolete_among floor (line ∷ next ∷ lines) file has =
    let files = map (λ (l : LogLine). l.file) (next ∷ lines) in
    elim (cases_Bool (nat_le next.first (floor + 1))) [
      | inl gone ↦
          let there : Contains (line.file ∷ obsolete_logs floor (next ∷ lines)) file =
          rw gone at has in
          elim (contains_cases line.file (obsolete_logs floor (next ∷ lines)) file there) [
            | inl is ↦ subst (Contains (line.file ∷ files)) is (contains_head line.file files)
            | inr later ↦ contains_next line.file files file
                (obsolete_among floor (next ∷ lines) file later)
          ]
      | inr stays ↦
          let there : Contains [] file = rw stays at has in
          absurd (contains_none file there)
    ]

-- no table has a file that a rise of the floor may change
pub raised_no_table : (floor : ℕ) (old new : StoreFiles) → IsRaisedBy floor old new →
    IsVersion (known_version old).version →
    (known_version new).version.tables ≡ (known_version old).version.tables →
    ((file : ℕ) → Contains (tended_files old) file → IsSlotOrFree old file) → (meant : State)
    (tables : List LevelTable) →
    AreTablesOf (contents meant) (known_version new).version.tables tables → (t : LevelTable) →
    Contains tables t → IsTableApart new t.file → Contains (raised_files old floor) t.file → ⊥
raised_no_table floor old new raised is lines slots meant tables read t has apart there =
    let version = (known_version old).version in
    let counting = counting_file old.manifest in
    elim (contains_cases counting (obsolete_files old floor) t.file there) as (λ _. ⊥) [
      | inl slot ↦
          let late = apart.late in
          let early = apart.early in
          let free = raised.free in
          elim (slots counting (contains_head counting
          (spare_file old.manifest ∷ old.free_file ∷ (old.free_file + 1) ∷ []))) as (λ _. ⊥) [
            | inl low ↦ omega (arith, slot, late, low)
            | inr high ↦ omega (arith, slot, early, high, free)
          ]
      | inr log ↦
          let one = zip_beside (IsTableOf (contents meant)) version.tables tables
          (subst (λ (l : List TableLine). AreTablesOf (contents meant) l tables) lines read) t has
          in
          once_apart (map (λ (l : LogLine). l.file) version.logs)
          (map (λ (l : TableLine). l.file) version.tables) t.file is.lawful.files_once
          (obsolete_among floor version.logs t.file log)
          (subst (Contains (map (λ (l : TableLine). l.file) version.tables)) (sym one.2.file)
          (file_among (λ (l : TableLine). l.file) version.tables one.0 one.1))
    ]
