-- The open files of a store after an append, and what a crash in it leaves.
use Rattle.std.proofs.Common.{◌≡◌, ◌≢◌, ◌⊎◌, ◌↔◌, ℕ, suc, ◌+◌, ◌-◌, ◌<◌, ◌≤◌, List, [], ◌∷◌, ◌++◌}
use Rattle.std.proofs.Common.{All, Contains, ap, arith, drop, inl, inr, length, map, refl}
use Rattle.std.proofs.Common.{Err, Ok, Result, subst, sym, ◌∙◌}
use Rattle.std.specs.Prelude.{IsNone, MatchResult, OnOk}
use Rattle.std.proofs.lemmas.List.{drop-append-le, length_push}
use Rattle.std.proofs.lemmas.List.Elements.{All-contains, All-contains_itself, All-push, All-weaker}
use Rattle.kv_types.specs.declared.bounds.TheConstants.{MAX_NUMBER}
use Rattle.kv_types.specs.{BatchContent, Entry, IsBatch}
use Rattle.disk.specs.{Contents, DurableFileIsLeft, IsDurable, IsFileOutcome, IsSameBut, Slot}
use Rattle.disk.specs.{IsEnvironmental, LeavesSince, State, contents, seen}
use Rattle.disk.specs.MomentsLemmas.{none_yet, weaker}
use Rattle.memtable.specs.declared.Memtable.{Memtable}
use Rattle.memtable.specs.{HasFailedAdd, TableHolds}
use Rattle.store_model.specs.Claims.{AppendsKeep}
use Rattle.store_model.specs.{StoreRepresents, memory_entries}
use Rattle.manifest.specs.declared.LogLine.{LogLine}
use Rattle.manifest.specs.declared.TableLine.{TableLine}
use Rattle.manifest.specs.{HeldVersionIsLeft, HeldVersionStays, StoreVersion}
use Rattle.batch_logs.specs.declared.batch_logs.BatchLog.{BatchLog}
use Rattle.batch_logs.specs.declared.batch_logs.BatchLogs.{BatchLogs}
use Rattle.store_files.specs.declared.store_files.StoreFiles.{StoreFiles}
use Rattle.batch_logs.specs.BatchLogs.{AreLeftWith, AreUsable, HaveBatches, LogsHold, first_number}
use Rattle.batch_logs.specs.BatchLogs.{line_of, lines_of, newest_file, next_number, oldest_first}
use Rattle.store_files.specs.OpenFiles.{AreUsableFiles, FilesHold, batch_count}
use Rattle.store_files.specs.StoreFiles.{AreOrderedNumbers}
use Rattle.store_files.specs.OpenFiles.{known_facts, known_store, known_version, trimmed_count}
use Rattle.store_files.specs.StoreFiles.{FilesRepresent, store_of_version}
use Rattle.batch_logs.specs.Memtables.{IsNumberedTo}
use Rattle.store_tables.specs.declared.error.EngineError.TheVariants as engine
use Rattle.store_tables.specs.declared.error.EngineError.{EngineError}
use Rattle.store_tables.specs.Errors.{IsEnd}
use Rattle.store_files.proofs.Entries.{Adds, next_numbered}
use Rattle.store_files.proofs.FilesApart.{newest_given, newest_no_slot, newest_no_table}
use Rattle.store_files.proofs.FilesApart.{newest_positive}
use Rattle.store_files.proofs.KeptFiles.{served_in}
use Rattle.store_files.proofs.NamedFiles.{tables_same}
use Rattle.batch_logs.specs.PartsLemmas.{batches_left as whole_left}
use Rattle.store_model.specs.{IsUnderWay, MergePlan}
use Rattle.store_files.specs.Plans.{HoldWithPlan}

-- ---- the same lines

-- the number of the first batch, by the lines
abbrev pub first_in : List LogLine → ℕ
first_in [] = 0
first_in (line ∷ lines) = line.first

pub first_by_lines : (older : List BatchLog) (newest : BatchLog)
    → oldest_first older newest ≡ first_in (map line_of older ++ line_of newest ∷ [])
first_by_lines [] newest = refl
first_by_lines (one ∷ others) newest = refl

pub first_same : (logs after : BatchLogs) → lines_of after ≡ lines_of logs
    → first_number after ≡ first_number logs
first_same logs after lines =
    first_by_lines after.older.items after.newest ∙ ap first_in lines
    ∙ sym (first_by_lines logs.older.items logs.newest)

-- ---- usable files

-- the open files with other logs and another memtable
abbrev pub after_append : StoreFiles → BatchLogs → Memtable → StoreFiles
after_append files logs memtable = record {
  manifest = files.manifest;
  logs = logs;
  tables = files.tables;
  memtable = memtable;
  free_file = files.free_file;
}

pub trimmed_same : (files : StoreFiles) (logs : BatchLogs) (memtable : Memtable)
    → lines_of logs ≡ lines_of files.logs
    → trimmed_count (after_append files logs memtable) ≡ trimmed_count files
trimmed_same files logs memtable lines = ap (λ (n : ℕ). n - 1) (first_same files.logs logs lines)

pub usable_after : (files : StoreFiles) → AreUsableFiles files → (logs : BatchLogs)
    (memtable : Memtable) → lines_of logs ≡ lines_of files.logs → AreUsable logs
    → next_number logs ≡ next_number files.logs + 1 → next_number files.logs ≤ MAX_NUMBER
    → IsNumberedTo memtable (next_number logs - 1)
    → AreUsableFiles (after_append files logs memtable)
usable_after files u logs memtable lines are next room numbered = record {
  works = u.works;
  version = u.version;
  logs = are;
  lines = lines ∙ u.lines;
  tables = u.tables;
  memtable = numbered;
  numbers = subst (λ (t : ℕ). AreOrderedNumbers (known_version files).version t
      (next_number logs - 1)) (sym (trimmed_same files logs memtable lines)) (record {
        kept_floor = u.numbers.kept_floor;
        kept_current = u.numbers.kept_current;
        current_flushed = u.numbers.current_flushed;
        flushed_count = let le = u.numbers.flushed_count in omega (arith, le, next);
        floor_count = let le = u.numbers.floor_count in omega (arith, le, next);
        few = omega (arith, next, room);
      });
  free = u.free;
  free_few = u.free_few;
}

-- ---- what the disk represents

module _ (disk : State) (files : StoreFiles) (list : List BatchContent)
    (h : FilesHold disk files list) where
  abbrev version : StoreVersion
  version = (known_version files).version

  abbrev trimmed : ℕ
  trimmed = trimmed_count files

  abbrev file : ℕ
  file = newest_file files.logs

  pub trimmed_few : trimmed ≤ length list
  trimmed_few =
      let kept = h.known.store.kept_floor in
      let count = h.known.store.floor_count in
      omega (arith, kept, count)

  -- a crash outcome of the files but the newest log's
  abbrev pub OthersAreLeft : Contents → Type 0
  OthersAreLeft left = (other : ℕ) → other ≢ file → IsFileOutcome (disk other) (left other)

  pub tables_were : DurableFileIsLeft → (left : Contents) → OthersAreLeft left → (line : TableLine)
      → Contains version.tables line → left line.file ≡ contents disk line.file
  tables_were law left others line has = law (disk line.file) (left line.file)
      (All-contains (λ (one : TableLine). IsDurable (disk one.file)) version.tables line
      h.known.durable has) (others line.file (newest_no_table files h.known.usable line has))

  -- such contents represent what the logs in them have
  abbrev pub represented : DurableFileIsLeft → HeldVersionIsLeft → (left : Contents)
      → OthersAreLeft left → (more : List BatchContent)
      → HaveBatches left (suc trimmed) (lines_of files.logs) (drop trimmed more)
      → StoreRepresents more (known_store files h.known.tables) → All IsBatch more
      → length more ≤ MAX_NUMBER → FilesRepresent (known_facts files) more left
  represented law held left others more logs store each few = record {
    version = version;
    manifest = held disk files.manifest (known_version files) left h.known.manifest
        (λ slot is. others slot (newest_no_slot files h.known.usable slot is));
    epoch = refl;
    ids = refl;
    floor = refl;
    logs = subst (λ (l : List LogLine). HaveBatches left (suc trimmed) l (drop trimmed more))
        h.known.usable.lines logs;
    tables = h.known.tables;
    read = tables_same (contents disk) left version.tables h.known.tables
        (tables_were law left others) h.known.read;
    store = store;
    each = each;
    few = few;
  }

  list_few : length list ≤ MAX_NUMBER
  list_few = subst (λ (n : ℕ). n ≤ MAX_NUMBER) h.known.count h.known.usable.numbers.few

  -- whatever a crash leaves now represents the list
  pub left_now : DurableFileIsLeft → HeldVersionIsLeft → (left : Contents)
      → ((other : ℕ) → IsFileOutcome (disk other) (left other))
      → FilesRepresent (known_facts files) list left
  left_now law held left leaves =
      represented law held left (λ other apart. leaves other) list
      (whole_left law disk left files.logs (suc trimmed) (drop trimmed list) h.known.logs
      h.known.usable.logs.apart leaves) h.known.store h.known.each list_few

  module _ (batch : BatchContent) (is : IsBatch batch) where
    abbrev pub longer : List BatchContent
    longer = list ++ batch ∷ []

    pub dropped : drop trimmed longer ≡ drop trimmed list ++ batch ∷ []
    dropped = drop-append-le trimmed list (batch ∷ []) trimmed_few

    -- the list, or the list with the batch
    abbrev pub OldOrNew : Contents → Type 0
    OldOrNew left =
        FilesRepresent (known_facts files) list left
        ⊎ FilesRepresent (known_facts files) longer left

    pub none_appended : DurableFileIsLeft → HeldVersionIsLeft → (past : List State)
        → LeavesSince disk past disk past OldOrNew
    none_appended law held past =
        none_yet OldOrNew disk past (λ left leaves. inl (left_now law held left leaves))

    pub left_old_or_new : DurableFileIsLeft → HeldVersionIsLeft → AppendsKeep
        → length list < MAX_NUMBER → (left : Contents)
        → AreLeftWith disk files.logs (suc trimmed) (drop trimmed list) batch left → OldOrNew left
    left_old_or_new law held keeps room left at = elim at.either as (λ _. OldOrNew left) [
      | inl old ↦ inl (represented law held left at.others list old h.known.store h.known.each
          list_few)
      | inr new ↦ inr (represented law held left at.others longer
          (subst (HaveBatches left (suc trimmed) (lines_of files.logs)) (sym dropped) new)
          (keeps list (known_store files h.known.tables) batch h.known.store)
          (All-push IsBatch list batch h.known.each is)
          (let long = length_push list batch in omega (arith, long, room)))
    ]

    pub some_appended : DurableFileIsLeft → HeldVersionIsLeft → AppendsKeep
        → length list < MAX_NUMBER → (past since : List State) (new : State)
        → LeavesSince disk past new since
        (AreLeftWith disk files.logs (suc trimmed) (drop trimmed list) batch)
        → LeavesSince disk past new since OldOrNew
    some_appended law held keeps room past since new run =
        weaker (AreLeftWith disk files.logs (suc trimmed) (drop trimmed list) batch) OldOrNew disk
        past new since (left_old_or_new law held keeps room) run

    -- ---- after it

    module _ (new : State) (logs : BatchLogs) (memtable : Memtable)
        (lines : lines_of logs ≡ lines_of files.logs) (others : IsSameBut file disk new) where
      abbrev after : StoreFiles
      after = after_append files logs memtable

      pub trimmed_is : trimmed_count after ≡ trimmed
      trimmed_is = trimmed_same files logs memtable lines

      pub table_stays : (line : TableLine) → Contains version.tables line
          → new line.file ≡ disk line.file
      table_stays line has = others line.file (newest_no_table files h.known.usable line has)

      -- the open files hold the longer list, with the same tables
      abbrev pub held_after : AppendsKeep → HeldVersionStays → AreUsableFiles after
          → batch_count after ≡ batch_count files + 1
          → ((entry : Entry) → TableHolds memtable entry
          ↔ memory_entries longer (known_store files h.known.tables) entry)
          → LogsHold new logs (suc trimmed) (drop trimmed list ++ batch ∷ [])
          → FilesHold new after longer
      held_after keeps stays usable count entries held = record {
        known = record {
          usable = usable;
          manifest = stays disk new files.manifest (known_version files) h.known.manifest
              (λ slot at. others slot (newest_no_slot files h.known.usable slot at));
          logs = subst (λ (t : ℕ). LogsHold new logs (suc t) (drop t longer)) (sym trimmed_is)
              (subst (LogsHold new logs (suc trimmed)) (sym dropped) held);
          tables = h.known.tables;
          read = tables_same (contents disk) (contents new) version.tables h.known.tables
              (λ line has. ap seen (table_stays line has)) h.known.read;
          served = served_in disk new version.tables files.tables.tables.items h.known.tables
              table_stays h.known.read h.known.served;
          durable = All-weaker (Contains version.tables)
              (λ (line : TableLine). IsDurable (new line.file))
              (λ line has. subst IsDurable (sym (table_stays line has))
              (All-contains (λ (one : TableLine). IsDurable (disk one.file)) version.tables line
              h.known.durable has)) version.tables (All-contains_itself version.tables);
          store = subst (λ (t : ℕ). StoreRepresents longer
              (store_of_version version t h.known.tables))
              (sym trimmed_is) (keeps list (known_store files h.known.tables) batch h.known.store);
          entries = λ entry. subst (λ (t : ℕ). TableHolds memtable entry
              ↔ memory_entries longer (store_of_version version t h.known.tables) entry)
              (sym trimmed_is) (entries entry);
          count =
              let long = length_push list batch in
              let was = h.known.count in
              omega (arith, count, long, was);
          each = All-push IsBatch list batch h.known.each is;
        };
        unused = λ other le.
            let given = (newest_given files h.known.usable).1 in
            let first = h.known.usable.free in
            subst (λ (s : Slot). IsNone (seen s))
            (sym (others other (λ same. omega (arith, same, le, first, given))))
            (h.unused other le);
      }

      -- a merge can end as before
      pub ends_after : (plan : MergePlan) → IsUnderWay (known_store files h.known.tables) plan
          → IsUnderWay (known_store after h.known.tables) plan
      ends_after plan can_end = subst (λ (t : ℕ).
          IsUnderWay (store_of_version version t h.known.tables) plan) (sym trimmed_is) can_end

-- ---- what an append told

-- the open files after it, by the answer of the logs
pub counts_told : (files : StoreFiles) → AreUsableFiles files → (logs : BatchLogs)
    (memtable : Memtable) (batch : BatchContent) (number : ℕ) → number ≡ batch_count files + 1
    → lines_of logs ≡ lines_of files.logs → next_number files.logs ≤ MAX_NUMBER
    → (HasFailedAdd memtable → ⊥) → Adds files.memtable memtable number batch
    → {T : Type 0} (result : Result T EngineError)
    → MatchResult result (λ _. AreUsable logs × (next_number logs ≡ next_number files.logs + 1))
    (λ e. (next_number logs ≡ next_number files.logs) × IsEnd e)
    → MatchResult result (λ _. AreUsableFiles (after_append files logs memtable)
    × (batch_count (after_append files logs memtable) ≡ batch_count files + 1))
    (λ e. (batch_count (after_append files logs memtable) ≡ batch_count files) × IsEnd e)
counts_told files u logs memtable batch number is lines room works adds (Ok x) told =
    let some = newest_positive files u in
    let next = told.1 in
    let count : next_number logs - 1 ≡ batch_count files + 1 = omega (arith, some, next) in (
      usable_after files u logs memtable lines told.0 told.1 room
          (next_numbered files.memtable memtable batch (batch_count files) number u.memtable is
          works adds (next_number logs - 1) count),
      count,
    )
counts_told files u logs memtable batch number is lines room works adds (Err e) told =
    (ap (λ (n : ℕ). n - 1) told.0, told.1)

pub appended_told : (disk : State) (files : StoreFiles) (list : List BatchContent)
    (h : FilesHold disk files list) (batch : BatchContent) (is : IsBatch batch) (new : State)
    (logs : BatchLogs) (memtable : Memtable) → lines_of logs ≡ lines_of files.logs
    → IsSameBut (newest_file files.logs) disk new → AppendsKeep → HeldVersionStays
    → ((entry : Entry) → TableHolds memtable entry
    ↔ memory_entries (list ++ batch ∷ []) (known_store files h.known.tables) entry)
    → {T : Type 0} (Q : EngineError → Type 0) (result : Result T EngineError)
    → MatchResult result (λ _. AreUsableFiles (after_append files logs memtable)
    × (batch_count (after_append files logs memtable) ≡ batch_count files + 1)) Q
    → MatchResult result (λ _. LogsHold new logs (suc (trimmed_count files))
    (drop (trimmed_count files) list ++ batch ∷ [])) (IsEnvironmental engine.Disk engine.Memory)
    → MatchResult result (λ _. FilesHold new (after_append files logs memtable)
    (list ++ batch ∷ [])) (IsEnvironmental engine.Disk engine.Memory)
appended_told disk files list h batch is new logs memtable lines others keeps stays entries Q (Ok x)
    counts held =
    held_after disk files list h batch is new logs memtable lines others keeps stays counts.0
    counts.1 entries held
appended_told disk files list h batch is new logs memtable lines others keeps stays entries Q (Err
    e)
    counts machine = machine

-- the open files after it hold the longer list, and a merge can end as before
pub appended_with_plan : (disk : State) (files : StoreFiles) (list : List BatchContent)
    (h : FilesHold disk files list) (batch : BatchContent) (is : IsBatch batch) (new : State)
    (logs : BatchLogs) (memtable : Memtable) → lines_of logs ≡ lines_of files.logs
    → IsSameBut (newest_file files.logs) disk new → AppendsKeep → HeldVersionStays
    → ((entry : Entry) → TableHolds memtable entry
    ↔ memory_entries (list ++ batch ∷ []) (known_store files h.known.tables) entry)
    → {T : Type 0} (Q : EngineError → Type 0) (result : Result T EngineError)
    → MatchResult result (λ _. AreUsableFiles (after_append files logs memtable)
    × (batch_count (after_append files logs memtable) ≡ batch_count files + 1)) Q
    → MatchResult result (λ _. LogsHold new logs (suc (trimmed_count files))
    (drop (trimmed_count files) list ++ batch ∷ [])) (IsEnvironmental engine.Disk engine.Memory)
    → (plan : MergePlan) → IsUnderWay (known_store files h.known.tables) plan
    → OnOk result (HoldWithPlan new (after_append files logs memtable) (list ++ batch ∷ []) plan)
appended_with_plan disk files list h batch is new logs memtable lines others keeps stays entries Q
    (Ok x) counts held plan can_end = record {
      held = held_after disk files list h batch is new logs memtable lines others keeps stays
          counts.0 counts.1 entries held;
      can_end = ends_after disk files list h batch is new logs memtable lines others plan can_end;
    }
appended_with_plan disk files list h batch is new logs memtable lines others keeps stays entries Q
    (Err e) counts held plan can_end = tt
