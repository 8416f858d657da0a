-- Open files that were meant to hold a list, on a disk with damaged blocks of tables.
use Rattle.std.proofs.Common.{◌≡◌, ◌≢◌, ℕ, List, [], ◌∷◌, ◌++◌, refl, sym, ◌∙◌, subst, drop}
use Rattle.std.proofs.Common.{Result, Ok, Err, inl, inr, suc, ◌↔◌, ◌+◌}
use Rattle.std.specs.Prelude.{All, Contains, MatchResult, OnOk, ◌==◌, if◌then◌else◌}
use Rattle.std.specs.List.{AllZip}
use Rattle.std.proofs.lemmas.Bool.Decides.{eqb_tells}
use Rattle.std.proofs.lemmas.List.Elements.{All-contains, All-contains_itself, All-head, All-nil}
use Rattle.std.proofs.lemmas.List.Elements.{All-cons, All-tail, All-weaker}
use Rattle.kv_types.specs.{BatchContent, Entry, IsBatch}
use Rattle.disk.specs.{IsDurable, IsEnvironmental, IsSame, IsSameBut, Slot, State, contents}
use Rattle.memtable.specs.declared.Memtable.{Memtable}
use Rattle.memtable.specs.{TableHolds}
use Rattle.sorted_table.specs.{table_file}
use Rattle.store_model.specs.Claims.{AppendsKeep}
use Rattle.store_model.specs.{LevelTable, memory_entries}
use Rattle.store_model.specs.PlacesLemmas.{contains_head, contains_next}
use Rattle.manifest.specs.declared.LogLine.{LogLine}
use Rattle.manifest.specs.declared.TableLine.{TableLine}
use Rattle.manifest.specs.{HeldVersionStays, StoreVersion}
use Rattle.batch_logs.specs.declared.batch_logs.BatchLogs.{BatchLogs}
use Rattle.store_tables.specs.declared.error.EngineError.TheVariants as engine
use Rattle.store_tables.specs.declared.error.EngineError.{EngineError}
use Rattle.store_tables.specs.declared.levels.OpenTable.{OpenTable}
use Rattle.store_files.specs.declared.store_files.StoreFiles.{StoreFiles}
use Rattle.batch_logs.specs.BatchLogs.{LogsHold, lines_of, newest_file}
use Rattle.store_tables.specs.LevelTablesLemmas.{open_as_itself}
use Rattle.store_tables.specs.LevelTables.{AreTablesOf, HasMeantBlocks, IsOpenAsMeant, IsServed}
use Rattle.store_tables.specs.LevelTables.{IsTableAsMeant, IsTableOf, WasServed}
use Rattle.store_tables.specs.declared.levels.LevelTables.{LevelTables}
use Rattle.store_files.specs.OpenFiles.{AreUsableFiles, FilesHold, IsAsMeant, WereMeantToHold}
use Rattle.store_files.specs.OpenFiles.{batch_count, known_store, known_version, trimmed_count}
use Rattle.store_files.proofs.Appended.{after_append, appended_told}
use Rattle.store_files.proofs.FilesApart.{log_no_table, newest_no_table}
use Rattle.store_files.proofs.KeptFiles.{named_logs_in}
use Rattle.store_model.specs.{IsUnderWay, MergePlan}
use Rattle.store_files.specs.Plans.{MeantWithPlan}
use Rattle.store_files.proofs.Appended.{appended_with_plan}

-- ---- where nothing is damaged

-- the blocks are as they are
pub own_blocks : (disk : State) (items : List OpenTable) → All (HasMeantBlocks disk disk) items
own_blocks disk [] = All-nil (HasMeantBlocks disk disk)
own_blocks disk (it ∷ items) = All-cons (HasMeantBlocks disk disk) it items
    (open_as_itself (disk (table_file it.table)) it.table) (own_blocks disk items)

-- a disk whose open files hold a list is as it was meant to be
pub meant_as_is : (disk : State) (files : StoreFiles) (list : List BatchContent)
    → FilesHold disk files list → IsAsMeant disk disk (known_version files).version files.tables
meant_as_is disk files list h = record {
  others = λ file beside. refl;
  tables = All-weaker (λ (line : TableLine). IsDurable (disk line.file))
      (λ (line : TableLine). IsTableAsMeant (disk line.file) (disk line.file))
      (λ line sure. inl refl) (known_version files).version.tables h.known.durable;
  blocks = own_blocks disk files.tables.tables.items;
  durable = h.known.durable;
}

-- ---- the open tables

-- tables that are served from what was meant, by what the disk has of them
pub zip_was : (disk meant : State) (items : List OpenTable) (tables : List LevelTable)
    → AllZip (IsServed meant) items tables → All (HasMeantBlocks disk meant) items
    → AllZip (WasServed disk meant) items tables
zip_was disk meant [] [] zip all = tt
zip_was disk meant [] (t ∷ tables) zip all = absurd zip
zip_was disk meant (it ∷ items) [] zip all = absurd zip
zip_was disk meant (it ∷ items) (t ∷ tables) zip all = (
  record {
    serves = zip.0;
    blocks = All-head (HasMeantBlocks disk meant) it items all;
  },
  zip_was disk meant items tables zip.1 (All-tail (HasMeantBlocks disk meant) it items all),
)

-- the blocks stay where the files of the lines do, on the disk and as they were meant
pub blocks_stay : (old new meant later : State) (lines : List TableLine) (items : List OpenTable)
    (tables : List LevelTable)
    → ((line : TableLine) → Contains lines line → new line.file ≡ old line.file)
    → ((line : TableLine) → Contains lines line → later line.file ≡ meant line.file)
    → AllZip (IsTableOf (contents meant)) lines tables → AllZip (IsServed meant) items tables
    → All (HasMeantBlocks old meant) items → All (HasMeantBlocks new later) items
blocks_stay old new meant later lines [] tables same still read served all =
    All-nil (HasMeantBlocks new later)
blocks_stay old new meant later [] (it ∷ items) [] same still read served all = absurd served
blocks_stay old new meant later [] (it ∷ items) (t ∷ tables) same still read served all =
    absurd read
blocks_stay old new meant later (line ∷ lines) (it ∷ items) [] same still read served all =
    absurd served
blocks_stay old new meant later (line ∷ lines) (it ∷ items) (t ∷ tables) same still read served
    all =
    let at : line.file ≡ table_file it.table = sym read.0.file ∙ served.0.file in
    let here = contains_head line lines in
    let mine : HasMeantBlocks new later it =
    subst (λ (s : Slot). IsOpenAsMeant (new (table_file it.table)) s it.table)
    (sym (subst (λ (f : ℕ). later f ≡ meant f) at (still line here)))
    (subst (λ (s : Slot). IsOpenAsMeant s (meant (table_file it.table)) it.table)
    (sym (subst (λ (f : ℕ). new f ≡ old f) at (same line here)))
    (All-head (HasMeantBlocks old meant) it items all)) in
    All-cons (HasMeantBlocks new later) it items mine
    (blocks_stay old new meant later lines items tables
    (λ one has. same one (contains_next line lines one has))
    (λ one has. still one (contains_next line lines one has)) read.1 served.1
    (All-tail (HasMeantBlocks old meant) it items all))

-- a disk that has the tables' files as another has them, and was meant to, is as it was meant where
-- the other is
pub as_meant_stays : (old new meant later : State) (version : StoreVersion) (opened : LevelTables)
    (tables : List LevelTable) → AreTablesOf (contents meant) version.tables tables
    → AllZip (IsServed meant) opened.tables.items tables
    → ((line : TableLine) → Contains version.tables line → new line.file ≡ old line.file)
    → ((line : TableLine) → Contains version.tables line → later line.file ≡ meant line.file)
    → ((file : ℕ) → All (λ line. line.file ≢ file) version.tables → new file ≡ later file)
    → IsAsMeant old meant version opened → IsAsMeant new later version opened
as_meant_stays old new meant later version opened tables read served same still others is = record {
  others = others;
  tables = All-weaker (Contains version.tables)
      (λ (line : TableLine). IsTableAsMeant (new line.file) (later line.file))
      (λ line has. subst (λ (s : Slot). IsTableAsMeant (new line.file) s) (sym (still line has))
      (subst (λ (s : Slot). IsTableAsMeant s (meant line.file)) (sym (same line has))
      (All-contains (λ (one : TableLine). IsTableAsMeant (old one.file) (meant one.file))
      version.tables line is.tables has))) version.tables (All-contains_itself version.tables);
  blocks = blocks_stay old new meant later version.tables opened.tables.items tables same still
      read served is.blocks;
  durable = All-weaker (Contains version.tables) (λ (line : TableLine). IsDurable (new line.file))
      (λ line has. subst IsDurable (sym (same line has))
      (All-contains (λ (one : TableLine). IsDurable (old one.file)) version.tables line is.durable
      has)) version.tables (All-contains_itself version.tables);
}

-- ---- the files beside the tables

module _ (disk : State) (files : StoreFiles) (list : List BatchContent)
    (w : WereMeantToHold disk files list) where
  abbrev version : StoreVersion
  version = (known_version files).version

  -- the file of a log is as it was meant
  pub log_is_meant : (line : LogLine) → Contains (lines_of files.logs) line
      → disk line.file ≡ w.meant line.file
  log_is_meant line has =
      let named : Contains version.logs line =
      subst (λ (l : List LogLine). Contains l line) w.hold.known.usable.lines has in
      w.disk_is.others line.file
      (All-weaker (Contains version.tables) (λ (table : TableLine). table.file ≢ line.file)
      (λ table there. log_no_table version w.hold.known.usable.version line named table there)
      version.tables (All-contains_itself version.tables))

  -- so the logs hold their batches
  pub logs_are_held : LogsHold disk files.logs (suc (trimmed_count files))
      (drop (trimmed_count files) list)
  logs_are_held = named_logs_in w.meant disk files.logs (suc (trimmed_count files))
      (drop (trimmed_count files) list) log_is_meant w.hold.known.logs

  -- on a disk with the same files they were meant to hold the same
  pub still_meant : (new : State) → IsSame disk new → WereMeantToHold new files list
  still_meant new same = record {
    meant = w.meant;
    hold = w.hold;
    disk_is = as_meant_stays disk new w.meant w.meant version files.tables w.hold.known.tables
        w.hold.known.read w.hold.known.served (λ line has. same line.file) (λ line has. refl)
        (λ file beside. same file ∙ w.disk_is.others file beside) w.disk_is;
  }

-- ---- another file

-- what a disk was meant to be, with this file as it is on another disk
abbrev pub meant_with : ℕ → State → State → State
meant_with file new meant other = if other == file then new other else meant other

pub with_mine : (file : ℕ) (new meant : State) (other : ℕ) → other ≡ file
    → meant_with file new meant other ≡ new other
with_mine file new meant other same = elim (eqb_tells other file) [
  | inl is ↦ rw is.0 refl
  | inr is ↦ absurd (is.1 same)
]

pub with_others : (file : ℕ) (new meant : State) → IsSameBut file meant (meant_with file new meant)
with_others file new meant other apart = elim (eqb_tells other file) [
  | inl is ↦ absurd (apart is.1)
  | inr is ↦ rw is.0 refl
]

-- ---- an append

module _ (disk : State) (files : StoreFiles) (list : List BatchContent)
    (w : WereMeantToHold disk files list) (new : State) where
  abbrev own_version : StoreVersion
  own_version = (known_version files).version

  abbrev file : ℕ
  file = newest_file files.logs

  abbrev later : State
  later = meant_with file new w.meant

  module _ (others : IsSameBut file disk new) where
    -- a file that was as it was meant, or is the newest log's, is
    as_meant : (other : ℕ) → disk other ≡ w.meant other → new other ≡ later other
    as_meant other was = elim (eqb_tells other file) [
      | inl is ↦ sym (with_mine file new w.meant other is.1)
      | inr is ↦ others other is.1 ∙ was ∙ sym (with_others file new w.meant other is.1)
    ]

    -- the open files were meant to hold what they hold as meant
    abbrev now_meant : (more : List BatchContent) (logs : BatchLogs) (memtable : Memtable)
        → FilesHold later (after_append files logs memtable) more
        → WereMeantToHold new (after_append files logs memtable) more
    now_meant more logs memtable hold =
        let usable = w.hold.known.usable in
        record {
          meant = later;
          hold = hold;
          disk_is = as_meant_stays disk new w.meant later own_version files.tables
              w.hold.known.tables w.hold.known.read w.hold.known.served
              (λ line has. others line.file (newest_no_table files usable line has))
              (λ line has. with_others file new w.meant line.file
              (newest_no_table files usable line has))
              (λ other beside. as_meant other (w.disk_is.others other beside)) w.disk_is;
        }

    -- the open files after it, by the answer of the logs
    pub appended_as_meant : (batch : BatchContent) → IsBatch batch → (logs : BatchLogs)
        (memtable : Memtable) → lines_of logs ≡ lines_of files.logs → AppendsKeep
        → HeldVersionStays
        → ((entry : Entry) → TableHolds memtable entry
        ↔ memory_entries (list ++ batch ∷ []) (known_store files w.hold.known.tables) entry)
        → {T : Type 0} (Q : EngineError → Type 0) (result : Result T EngineError)
        → MatchResult result (λ _. AreUsableFiles (after_append files logs memtable)
        × (batch_count (after_append files logs memtable) ≡ batch_count files + 1)) Q
        → MatchResult result (λ _. LogsHold new logs (suc (trimmed_count files))
        (drop (trimmed_count files) list ++ batch ∷ [])) (IsEnvironmental engine.Disk engine.Memory)
        → MatchResult result (λ _. WereMeantToHold new (after_append files logs memtable)
        (list ++ batch ∷ [])) (IsEnvironmental engine.Disk engine.Memory)
    appended_as_meant batch is logs memtable lines keeps stays entries Q (Ok x) counts held =
        let mine : LogsHold later logs (suc (trimmed_count files))
        (drop (trimmed_count files) list ++ batch ∷ []) =
        named_logs_in new later logs (suc (trimmed_count files))
        (drop (trimmed_count files) list ++ batch ∷ [])
        (λ line has. sym (as_meant line.file (log_is_meant disk files list w line
        (subst (λ (l : List LogLine). Contains l line) lines has)))) held in
        now_meant (list ++ batch ∷ []) logs memtable
        (appended_told w.meant files list w.hold batch is later logs memtable lines
        (with_others file new w.meant) keeps stays entries Q (Ok x) counts mine)
    appended_as_meant batch is logs memtable lines keeps stays entries Q (Err e) counts held = held

    -- they were meant to hold the longer list, and a merge can end as before
    pub appended_meant_with_plan : (batch : BatchContent) → IsBatch batch → (logs : BatchLogs)
        (memtable : Memtable) → lines_of logs ≡ lines_of files.logs → AppendsKeep
        → HeldVersionStays
        → ((entry : Entry) → TableHolds memtable entry
        ↔ memory_entries (list ++ batch ∷ []) (known_store files w.hold.known.tables) entry)
        → {T : Type 0} (Q : EngineError → Type 0) (result : Result T EngineError)
        → MatchResult result (λ _. AreUsableFiles (after_append files logs memtable)
        × (batch_count (after_append files logs memtable) ≡ batch_count files + 1)) Q
        → MatchResult result (λ _. LogsHold new logs (suc (trimmed_count files))
        (drop (trimmed_count files) list ++ batch ∷ [])) (IsEnvironmental engine.Disk engine.Memory)
        → (plan : MergePlan) → IsUnderWay (known_store files w.hold.known.tables) plan
        → OnOk result (MeantWithPlan new (after_append files logs memtable) (list ++ batch ∷ [])
        plan)
    appended_meant_with_plan batch is logs memtable lines keeps stays entries Q (Ok x) counts held
        plan can_end =
        let mine : LogsHold later logs (suc (trimmed_count files))
        (drop (trimmed_count files) list ++ batch ∷ []) =
        named_logs_in new later logs (suc (trimmed_count files))
        (drop (trimmed_count files) list ++ batch ∷ [])
        (λ line has. sym (as_meant line.file (log_is_meant disk files list w line
        (subst (λ (l : List LogLine). Contains l line) lines has)))) held in
        let both = appended_with_plan w.meant files list w.hold batch is later logs memtable lines
        (with_others file new w.meant) keeps stays entries Q (Ok x) counts mine plan can_end in
        record {
          was = now_meant (list ++ batch ∷ []) logs memtable both.held;
          can_end = both.can_end;
        }
    appended_meant_with_plan batch is logs memtable lines keeps stays entries Q (Err e) counts held
        plan can_end = tt
