-- Which files of an open store are apart from each other.
use Rattle.std.proofs.Common.{◌≡◌, ℕ, ◌<◌, ◌≤◌, List, [], ◌∷◌, ◌+◌, ◌∙◌}
use Rattle.std.proofs.Common.{ap, arith, eq-eqb, inl, inr, refl, subst, sym, true}
use Rattle.std.specs.Prelude.{Contains, IsNone, ◌==◌}
use Rattle.std.specs.List.{AllZip}
use Rattle.disk.specs.{Contents, Slot, State, contents, seen}
use Rattle.kv_types.specs.{BatchContent}
use Rattle.store_model.specs.{LevelTable}
use Rattle.store_model.specs.PlacesLemmas.{contains_cases, contains_head, contains_next}
use Rattle.manifest.specs.declared.LogLine.{LogLine}
use Rattle.manifest.specs.declared.TableLine.{TableLine}
use Rattle.version_edits.specs.Versions.{names_log}
use Rattle.manifest.specs.Manifests.{ManifestHasSlots}
use Rattle.manifest.specs.{IsSlotFile, counting_file, spare_file}
use Rattle.store_tables.specs.LevelTables.{IsTableOf}
use Rattle.store_files.specs.declared.store_files.StoreFiles.{StoreFiles}
use Rattle.store_files.specs.Apart.{IsLogNamed, IsSlotOrFree, IsTableApart}
use Rattle.batch_logs.specs.BatchLogs.{line_of}
use Rattle.store_files.specs.OpenFiles.{AreUsableFiles, FilesAreRead, WereMeantToHold}
use Rattle.store_files.specs.OpenFiles.{known_version}
use Rattle.store_files.specs.Tending.{tended_files}
use Rattle.store_files.proofs.FilesApart.{newest_given, newest_named, newest_no_table}
use Rattle.store_files.proofs.MeantFiles.{unnamed_beside}
use Rattle.store_files.proofs.NamedHolds.{table_given}
use Rattle.store_files.proofs.Records.{either}

-- a table of the lines has the file of one of them
line_of_table : (left : Contents) (lines : List TableLine) (tables : List LevelTable) →
    AllZip (IsTableOf left) lines tables → (table : LevelTable) → Contains tables table →
    (line : TableLine) × Contains lines line × (line.file ≡ table.file)
line_of_table left [] [] zip table has = let lt = has.1 in absurd (omega (arith, lt))
line_of_table left (l ∷ ls) [] zip table has = absurd zip
line_of_table left [] (t ∷ ts) zip table has = absurd zip
line_of_table left (l ∷ ls) (t ∷ ts) zip table has = elim (contains_cases t ts table has) [
  | inl is ↦ (l, contains_head l ls, sym zip.0.file ∙ ap (λ (x : LevelTable). x.file) is)
  | inr later ↦
      let one = line_of_table left ls ts zip.1 table later in
      (one.0, contains_next l ls one.0 one.1, one.2)
]

-- a table's file is apart
pub table_apart : (disk : State) (files : StoreFiles) (list : List BatchContent)
    (read : FilesAreRead disk files list) (table : LevelTable) → Contains read.tables table →
    IsTableApart files table.file
table_apart disk files list read table has =
    let version = (known_version files).version in
    let one = line_of_table (contents disk) version.tables read.tables read.read table has in
    let given = table_given version read.usable.version one.0 one.1 in
    let free = read.usable.free in
    let same = one.2 in
    record {
      late = let least = given.0 in omega (arith, least, same);
      early = let below = given.1 in omega (arith, below, free, same);
      no_log = λ is. newest_no_table files read.usable one.0 one.1 (same ∙ is);
    }

-- the logs name the file of each of them
any_named : (lines : List LogLine) (line : LogLine) → Contains lines line →
    names_log lines line.file ≡ true
any_named [] line has = let lt = has.1 in absurd (omega (arith, lt))
any_named (l ∷ ls) line has = elim (contains_cases l ls line has) [
  | inl is ↦ rw (eq-eqb l.file line.file (ap (λ (x : LogLine). x.file) is)) refl
  | inr later ↦ elim (either (l.file == line.file)) [
    | inl same ↦ rw same refl
    | inr other ↦ rw other (any_named ls line later)
  ]
]

-- the newest log is named
pub log_named : (files : StoreFiles) → AreUsableFiles files → IsLogNamed files
log_named files u =
    let given = newest_given files u in
    let free = u.free in
    record {
      named = any_named (known_version files).version.logs (line_of files.logs.newest)
          (newest_named files u);
      early = let below = given.1 in omega (arith, below, free);
    }

-- a slot's number is below 3
slot_low : (file : ℕ) → IsSlotFile file → file < 3
slot_low file (inl one) = omega (arith, one)
slot_low file (inr two) = omega (arith, two)

-- what a tend changes is a slot or free
pub tended_apart : ManifestHasSlots → (disk : State) (files : StoreFiles)
    (list : List BatchContent) → FilesAreRead disk files list → (file : ℕ) →
    Contains (tended_files files) file → IsSlotOrFree files file
tended_apart slots disk files list read file has =
    let both = slots disk files.manifest (known_version files) read.manifest in
    let free = files.free_file in
    let spare = spare_file files.manifest in
    elim (contains_cases (counting_file files.manifest) (spare ∷ free ∷ (free + 1) ∷ []) file has) [
      | inl counting ↦ inl (slot_low file (subst IsSlotFile counting both.0))
      | inr more ↦ elim (contains_cases spare (free ∷ (free + 1) ∷ []) file more) [
        | inl second ↦ inl (slot_low file (subst IsSlotFile second both.1))
        | inr rest ↦ elim (contains_cases free ((free + 1) ∷ []) file rest) [
          | inl first ↦ inr (omega (arith, first))
          | inr last ↦ elim (contains_cases (free + 1) [] file last) [
            | inl behind ↦ inr (omega (arith, behind))
            | inr none ↦ let lt = none.1 in absurd (omega (arith, lt))
          ]
        ]
      ]
    ]

-- no file exists from the first free one on
pub none_free : (disk : State) (files : StoreFiles) (list : List BatchContent) →
    WereMeantToHold disk files list → (file : ℕ) → files.free_file ≤ file →
    IsNone (seen (disk file))
none_free disk files list w file above =
    let version = (known_version files).version in
    let usable = w.hold.known.usable in
    let free = usable.free in
    subst (λ (s : Slot). IsNone (seen s)) (sym (w.disk_is.others file
    (unnamed_beside version usable.version file (omega (arith, above, free)))))
    (w.hold.unused file above)
