-- An opening of files that were meant to represent a list, of which blocks of tables are damaged.
use Rattle.std.proofs.Common.{◌≡◌, ◌≢◌, ◌⊎◌, ℕ, List, [], ◌∷◌, Option, Some, None, refl, sym, ◌∙◌}
use Rattle.std.proofs.Common.{ap, subst, drop, suc, inl, inr, arith}
use Rattle.std.specs.Prelude.{All, Contains, IsNone, ◌==◌, if◌then◌else◌}
use Rattle.std.specs.List.{AllZip}
use Rattle.std.proofs.lemmas.Bool.Decides.{eqb_tells}
use Rattle.std.proofs.lemmas.List.Elements.{All-cons, All-contains, All-contains_itself, All-nil}
use Rattle.std.proofs.lemmas.List.Elements.{All-head, All-tail, All-weaker}
use Rattle.kv_types.specs.{BatchContent}
use Rattle.disk.specs.Crashes.{durable}
use Rattle.disk.specs.{Contents, IsDurable, Slot, State, contents, seen}
use Rattle.store_model.specs.Claims.{ReplaysAgree}
use Rattle.store_model.specs.{LevelTable}
use Rattle.store_model.specs.PlacesLemmas.{contains_cases, contains_head, contains_next}
use Rattle.manifest.specs.declared.LogLine.{LogLine}
use Rattle.manifest.specs.declared.Manifest.{Manifest}
use Rattle.manifest.specs.declared.TableLine.{TableLine}
use Rattle.manifest.specs.Holds.{SparesOthers}
use Rattle.manifest.specs.Lawful.{IsAllocated}
use Rattle.manifest.specs.{HeldVersionStays, IsSlotFile, IsVersion, ManifestHolds}
use Rattle.manifest.specs.{ManifestRepresents, NodeVersion, StoreVersion}
use Rattle.store_tables.specs.declared.levels.OpenTable.{OpenTable}
use Rattle.store_files.specs.declared.opening.ReadParts.{ReadParts}
use Rattle.store_files.specs.declared.store_files.StoreFiles.{StoreFiles}
use Rattle.batch_logs.specs.BatchLogs.{lines_of}
use Rattle.store_files.specs.Files.{Facts}
use Rattle.store_tables.specs.LevelTables.{AreTablesOf, HasMeantBlocks, IsServed, IsTableAsMeant}
use Rattle.store_tables.specs.LevelTables.{WasServed}
use Rattle.batch_logs.specs.Replaying.{AreBatchesOf}
use Rattle.store_files.specs.OpenFiles.{AreUsableFiles, IsAsMeant, WereMeantToHold, WereMeantToRead}
use Rattle.store_files.specs.OpenFiles.{known_facts, known_version}
use Rattle.store_files.specs.Openings.{PartsHold, PartsWereMeant, kept_files}
use Rattle.store_files.specs.Settling.{AreAlone, SparesFiles}
use Rattle.store_files.specs.StoreFiles.{WereMeant, durably}
use Rattle.store_files.proofs.FilesApart.{given_no_slot, log_no_table}
use Rattle.store_files.proofs.KeptFiles.{named_logs_in, served_in, settled_hold}
use Rattle.store_files.proofs.KeptNames.{table_is_kept}
use Rattle.store_files.proofs.Meant.{as_meant_stays, blocks_stay}
use Rattle.store_files.proofs.NamedFiles.{logs_same, tables_same, version_same}
use Rattle.store_files.proofs.ReadFiles.{batches_of, batches_then, files_of_parts, read_as}
use Rattle.store_files.proofs.ReadFiles.{table_reads}

-- ---- durable contents

pub seen_durable : (file : Option (List ℕ)) → seen (durable file) ≡ file
seen_durable None = refl
seen_durable (Some bytes) = refl

is_durable : (file : Option (List ℕ)) → IsDurable (durable file)
is_durable None = refl
is_durable (Some bytes) = (refl, refl)

-- ---- the disk with its tables as they were meant

-- the files of these lines as they were meant, and the others as they are
abbrev pub mended : List TableLine → State → State → State
mended [] meant disk file = disk file
mended (line ∷ lines) meant disk file =
    if file == line.file then meant file else mended lines meant disk file

-- the file is of one of these lines
abbrev pub IsNamed : List TableLine → ℕ → Type 0
IsNamed lines file = (line : TableLine) × Contains lines line × (file ≡ line.file)

-- it is the file of one of them, or of none
pub named_or_beside : (lines : List TableLine) (file : ℕ)
    → IsNamed lines file ⊎ All (λ (line : TableLine). line.file ≢ file) lines
named_or_beside [] file = inr (All-nil (λ (line : TableLine). line.file ≢ file))
named_or_beside (line ∷ lines) file = elim (eqb_tells file line.file) [
  | inl is ↦ inl (line, contains_head line lines, is.1)
  | inr is ↦ elim (named_or_beside lines file) [
    | inl found ↦ inl (found.0, contains_next line lines found.0 found.1, found.2)
    | inr beside ↦ inr (All-cons (λ (one : TableLine). one.file ≢ file) line lines
        (λ same. is.1 (sym same)) beside)
  ]
]

named_later : (line : TableLine) (lines : List TableLine) (file : ℕ) → file ≢ line.file
    → IsNamed (line ∷ lines) file → IsNamed lines file
named_later line lines file apart found = elim (contains_cases line lines found.0 found.1) [
  | inl here ↦ absurd (apart (found.2 ∙ ap (λ (x : TableLine). x.file) (sym here)))
  | inr later ↦ (found.0, later, found.2)
]

pub mended_named : (lines : List TableLine) (meant disk : State) (file : ℕ) → IsNamed lines file
    → mended lines meant disk file ≡ meant file
mended_named [] meant disk file found = absurd (let lt = found.1.1 in omega (arith, lt))
mended_named (line ∷ lines) meant disk file found = elim (eqb_tells file line.file) [
  | inl is ↦ rw is.0 refl
  | inr is ↦ rw is.0 (mended_named lines meant disk file
      (named_later line lines file is.1 found))
]

-- a line's file is as it was meant
pub mended_at : (lines : List TableLine) (meant disk : State) (line : TableLine)
    → Contains lines line → mended lines meant disk line.file ≡ meant line.file
mended_at lines meant disk line has = mended_named lines meant disk line.file (line, has, refl)

-- another file is as it is
pub mended_beside : (lines : List TableLine) (meant disk : State) (file : ℕ)
    → All (λ line. line.file ≢ file) lines → mended lines meant disk file ≡ disk file
mended_beside [] meant disk file beside = refl
mended_beside (line ∷ lines) meant disk file beside = elim (eqb_tells file line.file) [
  | inl is ↦ absurd (All-head (λ (l : TableLine). l.file ≢ file) line lines beside (sym is.1))
  | inr is ↦ rw is.0 (mended_beside lines meant disk file
      (All-tail (λ (l : TableLine). l.file ≢ file) line lines beside))
]

-- ---- files that are no table's

module _ (version : StoreVersion) (is : IsVersion version) where
  pub slot_beside : (slot : ℕ) → IsSlotFile slot → All (λ line. line.file ≢ slot) version.tables
  slot_beside slot one =
      All-weaker (λ (line : TableLine). IsAllocated version line.file)
      (λ (line : TableLine). line.file ≢ slot)
      (λ line given same. given_no_slot version line.file given slot one (sym same))
      version.tables is.lines.table_files

  pub log_beside : (line : LogLine) → Contains version.logs line
      → All (λ table. table.file ≢ line.file) version.tables
  log_beside line has =
      All-weaker (Contains version.tables) (λ (table : TableLine). table.file ≢ line.file)
      (λ table there. log_no_table version is line has table there) version.tables
      (All-contains_itself version.tables)

-- ---- what reading asks of files that were meant to represent a list

module _ (facts : Facts) (list : List BatchContent) (left : Contents)
    (w : WereMeant facts list left) (is : IsVersion w.represents.version) where
  abbrev asked_version : StoreVersion
  asked_version = w.represents.version

  abbrev asked_named : NodeVersion
  asked_named = record { id = facts.id; version = asked_version }

  pub slots_are_meant : ManifestRepresents asked_named left
  slots_are_meant = version_same w.meant left
      (λ slot one. w.others slot (slot_beside asked_version is slot one)) asked_named
      w.represents.manifest

  pub batches_were : AreBatchesOf left asked_version.logs (suc facts.kept) (drop facts.kept list)
  batches_were =
      let b = batches_of facts list w.meant w.represents in
      record {
        positive = b.positive;
        have = logs_same w.meant left (suc facts.kept) asked_version.logs (drop facts.kept list)
            (λ line has. w.others line.file (log_beside asked_version is line has)) b.have;
        each = b.each;
        few = b.few;
      }

  tables_were : AreTablesOf (contents (durably w.meant)) asked_version.tables w.represents.tables
  tables_were = tables_same w.meant (contents (durably w.meant)) asked_version.tables
      w.represents.tables (λ line has. seen_durable (w.meant line.file)) w.represents.read

-- .. behind the opening of the manifest
pub asked_as_meant : (s0 s1 : State) → SparesOthers s0 s1 → (facts : Facts)
    (list : List BatchContent) (w : WereMeant facts list (contents s0))
    → IsVersion w.represents.version → (n : NodeVersion)
    → n ≡ record { id = facts.id; version = w.represents.version }
    → AreBatchesOf (contents s1) n.version.logs (suc facts.kept) (drop facts.kept list)
    × AreTablesOf (contents (durably w.meant)) n.version.tables w.represents.tables
    × All (λ line. IsTableAsMeant (durably (contents s1) line.file) (durably w.meant line.file))
    n.version.tables
asked_as_meant s0 s1 spares facts list w is n same = (
  subst (λ (v : NodeVersion).
      AreBatchesOf (contents s1) v.version.logs (suc facts.kept) (drop facts.kept list)) (sym same)
      (batches_then w.represents.version is s0 s1 spares (suc facts.kept) (drop facts.kept list)
      (batches_were facts list (contents s0) w is)),
  subst (λ (v : NodeVersion). AreTablesOf (contents (durably w.meant)) v.version.tables
      w.represents.tables) (sym same) (tables_were facts list (contents s0) w is),
  subst (λ (v : NodeVersion).
      All (λ (line : TableLine). IsTableAsMeant (durably (contents s1) line.file)
      (durably w.meant line.file)) v.version.tables) (sym same)
      (All-weaker (Contains w.represents.version.tables)
      (λ (line : TableLine). IsTableAsMeant (durably (contents s1) line.file)
      (durably w.meant line.file))
      (λ line has. subst
      (λ (o : Option (List ℕ)). IsTableAsMeant (durable o) (durably w.meant line.file))
      (sym (table_reads w.represents.version is s0 s1 spares line has))
      (All-contains (λ (one : TableLine). IsTableAsMeant (durably (contents s0) one.file)
      (durably w.meant one.file)) w.represents.version.tables line w.tables has))
      w.represents.version.tables (All-contains_itself w.represents.version.tables)),
)

-- ---- the tables that were opened

-- they serve what was meant
pub zip_serves : (disk meant : State) (items : List OpenTable) (tables : List LevelTable)
    → AllZip (WasServed disk meant) items tables → AllZip (IsServed meant) items tables
zip_serves disk meant [] [] zip = tt
zip_serves disk meant [] (t ∷ tables) zip = absurd zip
zip_serves disk meant (it ∷ items) [] zip = absurd zip
zip_serves disk meant (it ∷ items) (t ∷ tables) zip =
    (zip.0.serves, zip_serves disk meant items tables zip.1)

-- and the disk has of it what is not damaged
pub zip_blocks : (disk meant : State) (items : List OpenTable) (tables : List LevelTable)
    → AllZip (WasServed disk meant) items tables → All (HasMeantBlocks disk meant) items
zip_blocks disk meant [] tables zip = All-nil (HasMeantBlocks disk meant)
zip_blocks disk meant (it ∷ items) [] zip = absurd zip
zip_blocks disk meant (it ∷ items) (t ∷ tables) zip =
    All-cons (HasMeantBlocks disk meant) it items zip.0.blocks
    (zip_blocks disk meant items tables zip.1)

-- ---- the files that were read

module _ (facts : Facts) (list : List BatchContent) (left : Contents)
    (w : WereMeant facts list left) (is : IsVersion w.represents.version) (disk : State)
    (manifest : Manifest) (parts : ReadParts)
    (p : PartsWereMeant disk (durably w.meant) w.represents.version (suc facts.kept)
    (drop facts.kept list) w.represents.tables parts)
    (usable : AreUsableFiles (files_of_parts manifest parts))
    (held : ManifestHolds disk manifest
    (record { id = facts.id; version = w.represents.version })) where
  abbrev version : StoreVersion
  version = w.represents.version

  abbrev named : NodeVersion
  named = record { id = facts.id; version = version }

  abbrev meant : State
  meant = mended version.tables (durably w.meant) disk

  knows : known_version (files_of_parts manifest parts) ≡ named
  knows = held.knows

  log_stays : (line : LogLine) → Contains (lines_of parts.logs) line
      → meant line.file ≡ disk line.file
  log_stays line has = mended_beside version.tables (durably w.meant) disk line.file
      (log_beside version is line (subst (λ (n : NodeVersion). Contains n.version.logs line) knows
      (subst (λ (l : List LogLine). Contains l line) usable.lines has)))

  table_is : (line : TableLine) → Contains version.tables line
      → meant line.file ≡ durably w.meant line.file
  table_is line has = mended_at version.tables (durably w.meant) disk line has

  read_durably : AreTablesOf (contents (durably w.meant)) version.tables w.represents.tables
  read_durably = tables_were facts list left w is

  parts_hold : PartsHold meant version (suc facts.kept) (drop facts.kept list)
      w.represents.tables parts
  parts_hold = record {
    logs = named_logs_in disk meant parts.logs (suc facts.kept) (drop facts.kept list) log_stays
        p.logs;
    entries = p.entries;
    read = tables_same (contents (durably w.meant)) (contents meant) version.tables
        w.represents.tables (λ line has. ap seen (table_is line has)) read_durably;
    served = served_in (durably w.meant) meant version.tables parts.tables.tables.items
        w.represents.tables table_is read_durably
        (zip_serves disk (durably w.meant) parts.tables.tables.items w.represents.tables p.served);
    durable = All-weaker (Contains version.tables)
        (λ (line : TableLine). IsDurable (meant line.file))
        (λ line has. subst IsDurable (sym (table_is line has)) (is_durable (w.meant line.file)))
        version.tables (All-contains_itself version.tables);
  }

  -- what reading found of the tables, and what was meant
  first_meant : IsAsMeant disk meant version parts.tables
  first_meant = record {
    others = λ file beside. sym (mended_beside version.tables (durably w.meant) disk file beside);
    tables = All-weaker (Contains version.tables)
        (λ (line : TableLine). IsTableAsMeant (disk line.file) (meant line.file))
        (λ line has. subst (λ (s : Slot). IsTableAsMeant (disk line.file) s)
        (sym (table_is line has))
        (All-contains (λ (one : TableLine).
        IsTableAsMeant (disk one.file) (durably w.meant one.file)) version.tables line p.files
        has)) version.tables (All-contains_itself version.tables);
    blocks = blocks_stay disk disk (durably w.meant) meant version.tables parts.tables.tables.items
        w.represents.tables (λ line has. refl) table_is read_durably
        (zip_serves disk (durably w.meant) parts.tables.tables.items w.represents.tables p.served)
        (zip_blocks disk (durably w.meant) parts.tables.tables.items w.represents.tables p.served);
    durable = p.durable;
  }

  disk_is_meant : IsAsMeant disk meant (known_version (files_of_parts manifest parts)).version
      parts.tables
  disk_is_meant = subst (λ (n : NodeVersion). IsAsMeant disk meant n.version parts.tables)
      (sym knows) first_meant

  pub read_as_meant : ReplaysAgree → HeldVersionStays
      → (known_facts (files_of_parts manifest parts) ≡ facts)
      × WereMeantToRead disk (files_of_parts manifest parts) list
  read_as_meant agree stays =
      let meant_holds = stays disk meant manifest named held
      (λ slot one. mended_beside version.tables (durably w.meant) disk slot
      (slot_beside version is slot one)) in
      let r = read_as facts list w.meant w.represents agree meant manifest parts usable meant_holds
      parts_hold in
      (r.0, record { meant = meant; read = r.1; disk_is = disk_is_meant })

-- ---- behind the removals

-- where the named files stay and no other exists, the open files were meant to hold what they knew
pub settled_as_meant : HeldVersionStays → (list : List BatchContent) (files : StoreFiles)
    (kept : List ℕ) (mid new : State) → WereMeantToRead mid files list
    → kept ≡ kept_files (known_version files).version → SparesFiles kept mid new
    → AreAlone kept new → WereMeantToHold new files list
settled_as_meant stays list files kept mid new w is keeps alone =
    let version = (known_version files).version in
    let later = mended version.tables w.meant new in
    let usable = w.read.usable in
    let table_stays : (line : TableLine) → Contains version.tables line
    → new line.file ≡ mid line.file = λ line has.
    keeps line.file (subst (λ (l : List ℕ). Contains l line.file) (sym is)
    (table_is_kept version line has)) in
    let table_is : (line : TableLine) → Contains version.tables line
    → later line.file ≡ w.meant line.file = λ line has.
    mended_at version.tables w.meant new line has in
    let named_stay : (file : ℕ) → Contains (kept_files version) file → later file ≡ w.meant file =
    λ file has. elim (named_or_beside version.tables file) [
      | inl named ↦ mended_named version.tables w.meant new file named
      | inr beside ↦ mended_beside version.tables w.meant new file beside
          ∙ keeps file (subst (λ (l : List ℕ). Contains l file) (sym is) has)
          ∙ w.disk_is.others file beside
    ] in
    record {
      meant = later;
      hold = settled_hold w.meant files list w.read stays later named_stay
          (λ file apart. subst (λ (s : Slot). IsNone (seen s))
          (sym (mended_beside version.tables w.meant new file
          (All-weaker (Contains version.tables) (λ (line : TableLine). line.file ≢ file)
          (λ line has same. apart (subst (Contains (kept_files version)) same
          (table_is_kept version line has))) version.tables
          (All-contains_itself version.tables))))
          (alone file (λ has. apart (subst (λ (l : List ℕ). Contains l file) is has))));
      disk_is = as_meant_stays mid new w.meant later version files.tables w.read.tables
          w.read.read w.read.served table_stays table_is
          (λ file beside. sym (mended_beside version.tables w.meant new file beside)) w.disk_is;
    }
