-- The file of the newest log is no slot and no table's.
use Rattle.std.proofs.Common.{◌≡◌, ◌≢◌, ℕ, ◌≤◌, List, [], ◌∷◌, ◌++◌, map, Contains, Bool, true}
use Rattle.std.proofs.Common.{false, arith, eq-eqb, inl, inr, refl, subst, sym, ◌∙◌}
use Rattle.std.specs.Prelude.{IsTrue, not, ◌&&◌, ◌==◌}
use Rattle.std.specs.List.{list_any}
use Rattle.std.proofs.lemmas.List.Elements.{All-contains, Contains-append_right}
use Rattle.store_model.specs.PlacesLemmas.{contains_cases, contains_head}
use Rattle.manifest.specs.declared.LogLine.{LogLine}
use Rattle.manifest.specs.declared.TableLine.{TableLine}
use Rattle.manifest.specs.Lawful.{IsAllocated, IsVersion}
use Rattle.manifest.specs.Versions.{are_once}
use Rattle.manifest.specs.{IsLogLine, IsSlotFile, StoreVersion}
use Rattle.store_files.specs.declared.store_files.StoreFiles.{StoreFiles}
use Rattle.batch_logs.specs.BatchLogs.{line_of, newest_file}
use Rattle.store_files.specs.OpenFiles.{AreUsableFiles, known_version}
use Rattle.store_files.proofs.KeptNames.{contains_map}
use Rattle.store_files.proofs.Records.{either, not_true}

-- a number of the list passes the test
pub any_at : (n : ℕ) (ns : List ℕ) → Contains ns n → list_any (λ other. other == n) ns ≡ true
any_at n [] has = let lt = has.1 in absurd (omega (arith, lt))
any_at n (m ∷ ns) has = elim (contains_cases m ns n has) [
  | inl same ↦ rw (eq-eqb m n same) refl
  | inr later ↦ elim (either (m == n)) [
    | inl same ↦ rw same refl
    | inr other ↦ rw other (any_at n ns later)
  ]
]

and_right : (p q : Bool) → p && q ≡ true → q ≡ true
and_right true q both = both
and_right false q both = absurd (not_true both)

-- of numbers that stand once, none stands in two parts
pub once_apart : (xs ys : List ℕ) (a b : ℕ) → IsTrue (are_once (xs ++ ys)) → Contains xs a
    → Contains ys b → a ≡ b → ⊥
once_apart [] ys a b once in_first in_second same =
    let lt = in_first.1 in omega (arith, lt)
once_apart (x ∷ xs) ys a b once in_first in_second same =
    elim (contains_cases x xs a in_first) as (λ _. ⊥) [
      | inl is ↦
          let there : Contains (xs ++ ys) x = subst (Contains (xs ++ ys)) (sym (is ∙ same))
          (Contains-append_right xs ys b in_second) in
          not_true (subst (λ (t : Bool). not t && are_once (xs ++ ys) ≡ true)
          (any_at x (xs ++ ys) there) once)
      | inr later ↦ once_apart xs ys a b
          (and_right (not (list_any (λ other. other == x) (xs ++ ys))) (are_once (xs ++ ys)) once)
          later in_second same
    ]

-- no log of a version has the file of a table
pub log_no_table : (version : StoreVersion) → IsVersion version → (log : LogLine)
    → Contains version.logs log → (table : TableLine) → Contains version.tables table
    → table.file ≢ log.file
log_no_table version is log has table there same =
    once_apart (map (λ line. line.file) version.logs) (map (λ line. line.file) version.tables)
    log.file table.file is.lawful.files_once
    (contains_map (λ line. line.file) version.logs log has)
    (contains_map (λ line. line.file) version.tables table there) (sym same)

-- a file that was given is no slot
pub given_no_slot : (version : StoreVersion) (file : ℕ) → IsAllocated version file → (slot : ℕ)
    → IsSlotFile slot → slot ≢ file
given_no_slot version file given slot (inl one) same =
    let least = given.0 in omega (arith, one, same, least)
given_no_slot version file given slot (inr two) same =
    let least = given.0 in omega (arith, two, same, least)

module _ (files : StoreFiles) (u : AreUsableFiles files) where
  abbrev version : StoreVersion
  version = (known_version files).version

  pub newest_named : Contains version.logs (line_of files.logs.newest)
  newest_named = subst (λ (l : List LogLine). Contains l (line_of files.logs.newest)) u.lines
      (Contains-append_right (map line_of files.logs.older.items)
      (line_of files.logs.newest ∷ []) (line_of files.logs.newest)
      (contains_head (line_of files.logs.newest) []))

  pub newest_given : IsAllocated version (newest_file files.logs)
  newest_given = All-contains (λ (line : LogLine). IsAllocated version line.file) version.logs
      (line_of files.logs.newest) u.version.lines.log_files newest_named

  pub newest_positive : 1 ≤ files.logs.newest.first
  newest_positive = (All-contains IsLogLine version.logs (line_of files.logs.newest)
      u.version.lines.logs newest_named).1.0

  pub newest_no_slot : (slot : ℕ) → IsSlotFile slot → slot ≢ newest_file files.logs
  newest_no_slot = given_no_slot version (newest_file files.logs) newest_given

  pub newest_no_table : (table : TableLine) → Contains version.tables table
      → table.file ≢ newest_file files.logs
  newest_no_table = log_no_table version u.version (line_of files.logs.newest) newest_named
