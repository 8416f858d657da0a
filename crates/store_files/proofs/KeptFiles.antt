-- The files that a version names: what a crash leaves of them represents what was read of them, and
-- where they stay and no other exists, the open files hold it.
use Rattle.std.proofs.Common.{◌≡◌, ◌≤◌, ◌+◌, ◌∙◌, ℕ, suc, List, [], ◌∷◌, map, drop, length, arith}
use Rattle.std.proofs.Common.{refl, subst, sym, ap}
use Rattle.std.specs.Prelude.{Contains, IsNone}
use Rattle.std.specs.List.{AllZip}
use Rattle.std.proofs.lemmas.List.Elements.{All-contains, All-contains_itself, All-weaker}
use Rattle.std.proofs.lemmas.List.Elements.{Contains-append_left, Contains-push}
use Rattle.kv_types.specs.{BatchContent}
use Rattle.disk.specs.{Contents, DurableFileIsLeft, IsDurable, IsFileOutcome, Slot, State, contents}
use Rattle.disk.specs.{seen}
use Rattle.store_model.specs.{LevelTable, IsUnderWay, MergePlan, StoreState}
use Rattle.store_model.specs.PlacesLemmas.{contains_head, contains_next}
use Rattle.manifest.specs.declared.LogLine.{LogLine}
use Rattle.manifest.specs.declared.Manifest.{Manifest}
use Rattle.manifest.specs.declared.TableLine.{TableLine}
use Rattle.manifest.specs.{HeldVersionIsLeft, HeldVersionStays, StoreVersion, ManifestHolds}
use Rattle.manifest.specs.{IsVersion, ManifestRepresents, NodeVersion}
use Rattle.sorted_table.specs.{TableServes, table_file}
use Rattle.batch_logs.specs.declared.batch_logs.BatchLog.{BatchLog}
use Rattle.batch_logs.specs.declared.batch_logs.BatchLogs.{BatchLogs}
use Rattle.store_tables.specs.declared.levels.OpenTable.{OpenTable}
use Rattle.store_files.specs.declared.store_files.StoreFiles.{StoreFiles}
use Rattle.batch_logs.specs.BatchLogs.{AreParted, HasPart, HaveBatches, HoldsPart, LogsHold}
use Rattle.batch_logs.specs.BatchLogs.{line_of, lines_of}
use Rattle.store_tables.specs.LevelTables.{AreTablesOf, IsServed, IsTableOf}
use Rattle.store_files.specs.Adopting.{with_config}
use Rattle.store_files.specs.OpenFiles.{FilesAreRead, FilesHold, batch_count, known_facts}
use Rattle.store_files.specs.OpenFiles.{known_store, known_version, trimmed_count}
use Rattle.store_files.specs.Openings.{kept_files}
use Rattle.store_files.specs.Settling.{AreAlone, SparesFiles}
use Rattle.store_files.specs.StoreFiles.{AreOrderedNumbers, FilesRepresent}
use Rattle.store_files.proofs.NamedFiles.{tables_same}
use Rattle.batch_logs.specs.PartsLemmas.{AreKept, part_in, part_left, parted_in, parted_push}
use Rattle.store_files.proofs.KeptNames.{contains_map, kept_is_given, log_is_kept, slot_is_kept}
use Rattle.store_files.proofs.KeptNames.{table_is_kept}

-- ---- logs whose files a crash leaves

-- a crash left of each of these logs what it might have
abbrev AreLeft : State → Contents → List BatchLog → Type 0
AreLeft disk left logs =
    (one : BatchLog) → Contains logs one →
    IsFileOutcome (disk (line_of one).file) (left (line_of one).file)

named_parts_left : DurableFileIsLeft → (disk : State) (left : Contents) (number : ℕ)
    (logs : List BatchLog) (batches : List BatchContent) → AreLeft disk left logs →
    AreParted (HoldsPart disk) number logs batches →
    AreParted (HasPart left) number (map line_of logs) batches
named_parts_left law disk left number [] batches leaves none = none
named_parts_left law disk left number (one ∷ logs) batches leaves
    (here, later, is, has, others) = (
      here,
      later,
      is,
      part_left law disk left number one here (leaves one (contains_head one logs)) has,
      named_parts_left law disk left (number + length here) logs later
          (λ other at. leaves other (contains_next one logs other at)) others,
    )

pub named_logs_left : DurableFileIsLeft → (disk : State) (left : Contents) (logs : BatchLogs)
    (first : ℕ) (batches : List BatchContent) → LogsHold disk logs first batches →
    ((line : LogLine) → Contains (lines_of logs) line →
    IsFileOutcome (disk line.file) (left line.file)) →
    HaveBatches left first (lines_of logs) batches
named_logs_left law disk left logs first batches h leaves =
    let older : AreLeft disk left logs.older.items = λ one has. leaves (line_of one)
    (Contains-append_left (map line_of logs.older.items) (line_of logs.newest ∷ []) (line_of one)
    (contains_map line_of logs.older.items one has)) in
    let newest = leaves (line_of logs.newest)
    (Contains-push (map line_of logs.older.items) (line_of logs.newest)) in
    subst (HaveBatches left first (lines_of logs)) (sym h.parted)
    (parted_push (HasPart left) first (map line_of logs.older.items) (line_of logs.newest) h.before
    h.here (named_parts_left law disk left first logs.older.items h.before older h.older)
    (part_left law disk left (first + length h.before) logs.newest h.here newest h.newest))

-- logs hold what they held where their files are the same
pub named_logs_in : (old new : State) (logs : BatchLogs) (first : ℕ) (batches : List BatchContent) →
    ((line : LogLine) → Contains (lines_of logs) line → new line.file ≡ old line.file) →
    LogsHold old logs first batches → LogsHold new logs first batches
named_logs_in old new logs first batches same h =
    let P : BatchLog → Type 0 = λ one. new (line_of one).file ≡ old (line_of one).file in
    let older : AreKept old new logs.older.items =
    All-weaker (Contains logs.older.items) P (λ one has. same (line_of one)
    (Contains-append_left (map line_of logs.older.items) (line_of logs.newest ∷ []) (line_of one)
    (contains_map line_of logs.older.items one has))) logs.older.items
    (All-contains_itself logs.older.items) in
    record {
      before = h.before;
      here = h.here;
      parted = h.parted;
      older = parted_in old new first logs.older.items h.before older h.older;
      newest = part_in old new (first + length h.before) logs.newest h.here
          (same (line_of logs.newest)
          (Contains-push (map line_of logs.older.items) (line_of logs.newest))) h.newest;
    }

-- ---- tables whose files are the same

pub one_served_in : (old new : State) (line : TableLine) (it : OpenTable) (table : LevelTable) →
    new line.file ≡ old line.file → IsTableOf (contents old) line table → IsServed old it table →
    IsServed new it table
one_served_in old new line it table same is h =
    let at : line.file ≡ table_file it.table = sym is.file ∙ h.file in
    let kept : new (table_file it.table) ≡ old (table_file it.table) =
    subst (λ (file : ℕ). new file ≡ old file) at same in
    record {
      level = h.level;
      file = h.file;
      range = h.range;
      serves = subst (λ (slot : Slot). TableServes slot it.table table.entries) (sym kept) h.serves;
    }

pub served_in : (old new : State) (lines : List TableLine) (opened : List OpenTable)
    (tables : List LevelTable) →
    ((line : TableLine) → Contains lines line → new line.file ≡ old line.file) →
    AreTablesOf (contents old) lines tables → AllZip (IsServed old) opened tables →
    AllZip (IsServed new) opened tables
served_in old new [] [] [] same read h = tt
served_in old new [] (it ∷ opened) [] same read h = absurd h
served_in old new [] opened (table ∷ tables) same read h = absurd read
served_in old new (line ∷ lines) opened [] same read h = absurd read
served_in old new (line ∷ lines) [] (table ∷ tables) same read h = absurd h
served_in old new (line ∷ lines) (it ∷ opened) (table ∷ tables) same read h = (
  one_served_in old new line it table (same line (contains_head line lines)) read.0 h.0,
  served_in old new lines opened tables
      (λ one has. same one (contains_next line lines one has)) read.1 h.1,
)

-- ---- the files that were read

-- the manifest with another version
abbrev with_version : Manifest → NodeVersion → Manifest
with_version manifest named = record {
  slots = manifest.slots;
  version = named;
  has_failed = manifest.has_failed;
}

-- the open files with another manifest
abbrev pub with_manifest : StoreFiles → Manifest → StoreFiles
with_manifest files manifest = record {
  manifest = manifest;
  logs = files.logs;
  tables = files.tables;
  memtable = files.memtable;
  free_file = files.free_file;
}

-- with another configuration the numbers of a version are in the same order
pub numbers_with_config : (version : StoreVersion) (epoch : ℕ) (ids : List ℕ) (trimmed count : ℕ) →
    AreOrderedNumbers version trimmed count →
    AreOrderedNumbers (record version { epoch = epoch; ids = ids }) trimmed count
numbers_with_config version epoch ids trimmed count numbers = record {
  kept_floor = numbers.kept_floor;
  kept_current = numbers.kept_current;
  current_flushed = numbers.current_flushed;
  flushed_count = numbers.flushed_count;
  floor_count = numbers.floor_count;
  few = numbers.few;
}

-- the open files hold the list, and a merge can end in their store that could end in this one
abbrev pub HoldsLater : StoreState → State → StoreFiles → List BatchContent → Type 0
HoldsLater store new files list = (held : FilesHold new files list) × ((plan : MergePlan) →
    IsUnderWay store plan → IsUnderWay (known_store files held.known.tables) plan)

module _ (disk : State) (files : StoreFiles) (list : List BatchContent)
    (h : FilesAreRead disk files list) where
  abbrev version : StoreVersion
  version = (known_version files).version

  -- where a crash left the version, and of its lines' files what it might leave, it left the list
  -- and the facts
  pub lines_are_left : DurableFileIsLeft → (left : Contents) →
      ManifestRepresents (known_version files) left →
      ((line : LogLine) → Contains version.logs line →
      IsFileOutcome (disk line.file) (left line.file)) →
      ((line : TableLine) → Contains version.tables line →
      IsFileOutcome (disk line.file) (left line.file)) →
      FilesRepresent (known_facts files) list left
  lines_are_left durable_is_left left represents log_leaves table_leaves =
      let logs : HaveBatches left (suc (trimmed_count files)) version.logs
      (drop (trimmed_count files) list) =
      subst (λ (lines : List LogLine). HaveBatches left (suc (trimmed_count files)) lines
      (drop (trimmed_count files) list)) h.usable.lines
      (named_logs_left durable_is_left disk left files.logs (suc (trimmed_count files))
      (drop (trimmed_count files) list) h.logs (λ line has. log_leaves line
      (subst (λ (lines : List LogLine). Contains lines line) h.usable.lines has))) in
      let same : (line : TableLine) → Contains version.tables line →
      left line.file ≡ contents disk line.file = λ line has. durable_is_left (disk line.file)
      (left line.file) (All-contains (λ (one : TableLine). IsDurable (disk one.file))
      version.tables line h.durable has) (table_leaves line has) in
      record {
        version = version;
        manifest = represents;
        epoch = refl;
        ids = refl;
        floor = refl;
        logs = logs;
        tables = h.tables;
        read = tables_same (contents disk) left version.tables h.tables same h.read;
        store = h.store;
        each = h.each;
        few = omega (arith, h.usable.numbers.few, h.count);
      }

  -- a crash that leaves of the named files what it might leaves the list and the facts
  pub read_is_left : HeldVersionIsLeft → DurableFileIsLeft → (left : Contents) →
      ((file : ℕ) → Contains (kept_files version) file → IsFileOutcome (disk file) (left file)) →
      FilesRepresent (known_facts files) list left
  read_is_left held_is_left durable_is_left left leaves =
      lines_are_left durable_is_left left (held_is_left disk files.manifest (known_version files)
      left h.manifest (λ slot is_slot. leaves slot (slot_is_kept version slot is_slot)))
      (λ line has. leaves line.file (log_is_kept version line has))
      (λ line has. leaves line.file (table_is_kept version line has))

  -- where a manifest holds the version with a configuration, the files of its lines stay, and no
  -- file has a number that was not given, the open files hold it with that manifest
  pub held_with_config : (epoch : ℕ) (ids : List ℕ) →
      IsVersion (with_config (known_version files) epoch ids).version → (new : State)
      (manifest : Manifest) → ManifestHolds new manifest
      (with_config (known_version files) epoch ids) →
      ((line : LogLine) → Contains version.logs line → new line.file ≡ disk line.file) →
      ((line : TableLine) → Contains version.tables line → new line.file ≡ disk line.file) →
      ((file : ℕ) → files.free_file ≤ file → IsNone (seen (new file))) →
      HoldsLater (known_store files h.tables) new (with_manifest files manifest) list
  held_with_config epoch ids lawful new manifest holds logs_stay same unused =
      subst (λ (named : NodeVersion). HoldsLater (known_store files h.tables) new
      (with_manifest files (with_version manifest named)) list) (sym holds.knows) (
        record {
          known = record {
            usable = record {
              works = holds.works;
              version = lawful;
              logs = h.usable.logs;
              lines = h.usable.lines;
              tables = h.usable.tables;
              memtable = h.usable.memtable;
              numbers = numbers_with_config version epoch ids (trimmed_count files)
                  (batch_count files) h.usable.numbers;
              free = h.usable.free;
              free_few = h.usable.free_few;
            };
            manifest = subst (λ (named : NodeVersion). ManifestHolds new
                (with_version manifest named)
                (with_config (known_version files) epoch ids)) holds.knows holds;
            logs = named_logs_in disk new files.logs (suc (trimmed_count files))
                (drop (trimmed_count files) list) (λ line has. logs_stay line
                (subst (λ (lines : List LogLine). Contains lines line) h.usable.lines has)) h.logs;
            tables = h.tables;
            read = tables_same (contents disk) (contents new) version.tables h.tables
                (λ line has. ap seen (same line has)) h.read;
            served = served_in disk new version.tables files.tables.tables.items h.tables same
                h.read
                h.served;
            durable = All-weaker (Contains version.tables)
                (λ (line : TableLine). IsDurable (new line.file))
                (λ line has. subst IsDurable (sym (same line has))
                (All-contains (λ (one : TableLine). IsDurable (disk one.file)) version.tables line
                h.durable has)) version.tables (All-contains_itself version.tables);
            store = h.store;
            entries = h.entries;
            count = h.count;
            each = h.each;
          };
          unused = unused;
        },
        λ plan can_end. can_end,
      )

  -- so it is with the own configuration
  pub held_later : (new : State) (manifest : Manifest) →
      ManifestHolds new manifest (known_version files) →
      ((line : LogLine) → Contains version.logs line → new line.file ≡ disk line.file) →
      ((line : TableLine) → Contains version.tables line → new line.file ≡ disk line.file) →
      ((file : ℕ) → files.free_file ≤ file → IsNone (seen (new file))) →
      HoldsLater (known_store files h.tables) new (with_manifest files manifest) list
  held_later = held_with_config version.epoch version.ids h.usable.version

  -- so the open files hold it
  pub held_with : (new : State) (manifest : Manifest) →
      ManifestHolds new manifest (known_version files) →
      ((line : LogLine) → Contains version.logs line → new line.file ≡ disk line.file) →
      ((line : TableLine) → Contains version.tables line → new line.file ≡ disk line.file) →
      ((file : ℕ) → files.free_file ≤ file → IsNone (seen (new file))) →
      FilesHold new (with_manifest files manifest) list
  held_with new manifest holds logs_stay same unused =
      (held_later new manifest holds logs_stay same unused).0

  -- where the named files stay, and no file has a number that was not given, the open files hold
  -- it, and a merge can end as before
  pub stay_later : HeldVersionStays → (new : State) → SparesFiles (kept_files version) disk new →
      ((file : ℕ) → files.free_file ≤ file → IsNone (seen (new file))) →
      HoldsLater (known_store files h.tables) new files list
  stay_later held_stays new keeps unused =
      held_later new files.manifest (held_stays disk new files.manifest (known_version files)
      h.manifest (λ slot is_slot. keeps slot (slot_is_kept version slot is_slot)))
      (λ line has. keeps line.file (log_is_kept version line has))
      (λ line has. keeps line.file (table_is_kept version line has)) unused

  -- so they hold it
  pub stay_held : HeldVersionStays → (new : State) → SparesFiles (kept_files version) disk new →
      ((file : ℕ) → files.free_file ≤ file → IsNone (seen (new file))) →
      FilesHold new files list
  stay_held held_stays new keeps unused = (stay_later held_stays new keeps unused).0

  -- so it is where they stay and no other exists
  pub settled_hold : HeldVersionStays → (new : State) → SparesFiles (kept_files version) disk new →
      AreAlone (kept_files version) new → FilesHold new files list
  settled_hold held_stays new keeps alone =
      stay_held held_stays new keeps (λ file above. alone file (λ has.
      let below = kept_is_given version h.usable.version file has in
      let first = h.usable.free in
      absurd (omega (arith, above, first, below))))

-- open files hold what they held where every file is the same
pub hold_in : (old new : State) (files : StoreFiles) (list : List BatchContent) →
    HeldVersionStays → ((file : ℕ) → new file ≡ old file) → FilesHold old files list →
    FilesHold new files list
hold_in old new files list held_stays same h =
    let lines = (known_version files).version.tables in
    record {
      known = record {
        usable = h.known.usable;
        manifest = held_stays old new files.manifest (known_version files) h.known.manifest
            (λ slot is_slot. same slot);
        logs = named_logs_in old new files.logs (suc (trimmed_count files))
            (drop (trimmed_count files) list) (λ line has. same line.file) h.known.logs;
        tables = h.known.tables;
        read = tables_same (contents old) (contents new) lines h.known.tables
            (λ line has. ap seen (same line.file)) h.known.read;
        served = served_in old new lines files.tables.tables.items h.known.tables
            (λ line has. same line.file) h.known.read h.known.served;
        durable = All-weaker (λ (line : TableLine). IsDurable (old line.file))
            (λ (line : TableLine). IsDurable (new line.file))
            (λ line sure. subst IsDurable (sym (same line.file)) sure) lines h.known.durable;
        store = h.known.store;
        entries = h.known.entries;
        count = h.known.count;
        each = h.known.each;
      };
      unused = λ file above. subst (λ (s : Slot). IsNone (seen s)) (sym (same file))
          (h.unused file above);
    }
