-- Files that a version names, which durably have batches and tables of a list.
use Rattle.std.proofs.Common.{◌≡◌, ℕ, suc, ◌-◌, ◌≤◌, ◌∙◌, List, [], ◌∷◌, ◌++◌}
use Rattle.std.proofs.Common.{length, map, drop, arith, refl, subst, sym, ap}
use Rattle.std.specs.Prelude.{All, Contains}
use Rattle.std.proofs.lemmas.List.Elements.{All-contains, All-contains_itself, All-cons}
use Rattle.std.proofs.lemmas.List.Elements.{All-nil, All-weaker}
use Rattle.kv_types.specs.declared.bounds.TheConstants.{MAX_NUMBER}
use Rattle.kv_types.specs.{BatchContent, IsBatch}
use Rattle.disk.specs.{Contents, DurableFileIsLeft, IsDurable, IsFileOutcome}
use Rattle.disk.specs.{State, contents, seen}
use Rattle.store_model.specs.{LevelTable, StoreRepresents}
use Rattle.manifest.specs.declared.LogLine.{LogLine}
use Rattle.manifest.specs.declared.TableLine.{TableLine}
use Rattle.manifest.specs.Lawful.{IsAllocated}
use Rattle.manifest.specs.{IsSlotFile, IsVersion}
use Rattle.manifest.specs.{ManifestRepresents, NodeVersion, StoreVersion}
use Rattle.batch_logs.specs.declared.batch_logs.BatchLog.{BatchLog}
use Rattle.batch_logs.specs.declared.batch_logs.BatchLogs.{BatchLogs}
use Rattle.store_files.specs.declared.store_files.StoreFiles.{StoreFiles}
use Rattle.batch_logs.specs.BatchLogs.{HaveBatches, LogsHold, end_of_log}
use Rattle.batch_logs.specs.BatchLogs.{first_number, line_of, lines_of, next_number}
use Rattle.batch_logs.specs.BatchLogs.{with_line}
use Rattle.store_files.specs.Files.{Facts}
use Rattle.store_tables.specs.LevelTables.{AreTablesOf}
use Rattle.store_files.specs.OpenFiles.{known_facts, known_version, trimmed_count}
use Rattle.store_files.specs.StoreFiles.{FilesRepresent}
use Rattle.store_files.specs.StoreFiles.{store_of_version}
use Rattle.store_files.proofs.Appended.{first_by_lines, first_in}
use Rattle.store_files.proofs.FilesApart.{given_no_slot}
use Rattle.store_files.proofs.KeptFiles.{named_logs_in, named_logs_left}
use Rattle.store_files.proofs.NamedFiles.{table_same, tables_same}
use Rattle.batch_logs.specs.BatchLogsLemmas.{AreInTurn}

-- ---- the files that a version names

-- The files that the version names durably have batches and tables, which represent the list.
pub record NamedHold (disk : State) (version : StoreVersion) (logs : BatchLogs) (trimmed : ℕ)
    (tables : List LevelTable) (list : List BatchContent) : Type 0 where
  pub lines : lines_of logs ≡ version.logs
  pub held : LogsHold disk logs (suc trimmed) (drop trimmed list)
  pub read : AreTablesOf (contents disk) version.tables tables
  pub durable : All (λ line. IsDurable (disk line.file)) version.tables
  pub store : StoreRepresents list (store_of_version version trimmed tables)
  pub each : All IsBatch list
  pub few : length list ≤ MAX_NUMBER

-- the facts that a node's version tells
abbrev pub facts_of : ℕ → StoreVersion → ℕ → Facts
facts_of id version trimmed = record {
  id = id;
  epoch = version.epoch;
  ids = version.ids;
  floor = version.floor;
  kept = trimmed;
}

module _ (disk : State) (version : StoreVersion) (logs : BatchLogs) (trimmed : ℕ)
    (tables : List LevelTable) (list : List BatchContent)
    (h : NamedHold disk version logs trimmed tables list) where
  -- where slots represent the version, a crash that leaves what it might of the files it names
  -- leaves the list
  unfoldable pub named_left : DurableFileIsLeft → (id : ℕ) (left : Contents)
      → ManifestRepresents (record { id = id; version = version }) left
      → ((line : LogLine) → Contains version.logs line
      → IsFileOutcome (disk line.file) (left line.file))
      → ((line : TableLine) → Contains version.tables line
      → IsFileOutcome (disk line.file) (left line.file))
      → FilesRepresent (facts_of id version trimmed) list left
  named_left law id left manifest log_left table_left = record {
    version = version;
    manifest = manifest;
    epoch = refl;
    ids = refl;
    floor = refl;
    logs = subst (λ (l : List LogLine). HaveBatches left (suc trimmed) l (drop trimmed list))
        h.lines (named_logs_left law disk left logs (suc trimmed) (drop trimmed list) h.held
        (λ line has. log_left line
        (subst (λ (l : List LogLine). Contains l line) h.lines has)));
    tables = tables;
    read = tables_same (contents disk) left version.tables tables
        (λ line has. law (disk line.file) (left line.file)
        (All-contains (λ (one : TableLine). IsDurable (disk one.file)) version.tables line h.durable
        has) (table_left line has)) h.read;
    store = h.store;
    each = h.each;
    few = h.few;
  }

  -- where they stay, they have the same
  pub named_in : (new : State)
      → ((line : LogLine) → Contains version.logs line → new line.file ≡ disk line.file)
      → ((line : TableLine) → Contains version.tables line → new line.file ≡ disk line.file)
      → NamedHold new version logs trimmed tables list
  named_in new log_same table_same = record {
    lines = h.lines;
    held = named_logs_in disk new logs (suc trimmed) (drop trimmed list)
        (λ line has. log_same line (subst (λ (l : List LogLine). Contains l line) h.lines has))
        h.held;
    read = tables_same (contents disk) (contents new) version.tables tables
        (λ line has. ap seen (table_same line has)) h.read;
    durable = All-weaker (Contains version.tables)
        (λ (line : TableLine). IsDurable (new line.file))
        (λ line has. subst IsDurable (sym (table_same line has))
        (All-contains (λ (one : TableLine). IsDurable (disk one.file)) version.tables line h.durable
        has)) version.tables (All-contains_itself version.tables);
    store = h.store;
    each = h.each;
    few = h.few;
  }

-- no file that a version names is a slot
module _ (version : StoreVersion) (is : IsVersion version) where
  pub log_given : (line : LogLine) → Contains version.logs line → IsAllocated version line.file
  log_given line has = All-contains (λ (l : LogLine). IsAllocated version l.file) version.logs line
      is.lines.log_files has

  pub table_given : (line : TableLine) → Contains version.tables line
      → IsAllocated version line.file
  table_given line has = All-contains (λ (l : TableLine). IsAllocated version l.file) version.tables
      line is.lines.table_files has

  pub log_no_slot : (line : LogLine) → Contains version.logs line → IsSlotFile line.file → ⊥
  log_no_slot line has slot =
      given_no_slot version line.file (log_given line has) line.file slot refl

  pub table_no_slot : (line : TableLine) → Contains version.tables line → IsSlotFile line.file → ⊥
  table_no_slot line has slot =
      given_no_slot version line.file (table_given line has) line.file slot refl

-- ---- logs that follow one another

rises : (number next : ℕ) (logs : List BatchLog) → AreInTurn number logs next → number ≤ next
rises number next [] same = omega (arith, same)
rises number next (one ∷ logs) (first, others) =
    let le = rises (end_of_log one) next logs others in
    omega (arith, first, le)

-- none begins behind the last
pub firsts_in_turn : (number next : ℕ) (logs : List BatchLog) → AreInTurn number logs next
    → All (λ (one : BatchLog). one.first ≤ next) logs
firsts_in_turn number next [] same = All-nil (λ (one : BatchLog). one.first ≤ next)
firsts_in_turn number next (one ∷ logs) (first, others) =
    let le = rises (end_of_log one) next logs others in
    All-cons (λ (one : BatchLog). one.first ≤ next) one logs (omega (arith, le))
    (firsts_in_turn (end_of_log one) next logs others)

first_before : (older : List BatchLog) (newest : BatchLog) (line : LogLine)
    → first_in ((map line_of older ++ line_of newest ∷ []) ++ line ∷ [])
    ≡ first_in (map line_of older ++ line_of newest ∷ [])
first_before [] newest line = refl
first_before (one ∷ older) newest line = refl

-- with a line behind the others, the first is the same
pub first_begun : (logs after : BatchLogs) (file : ℕ) → lines_of after ≡ with_line logs file
    → first_number after ≡ first_number logs
first_begun logs after file lines =
    first_by_lines after.older.items after.newest ∙ ap first_in lines
    ∙ first_before logs.older.items logs.newest (record { file = file; first = next_number logs })
    ∙ sym (first_by_lines logs.older.items logs.newest)

-- open files of the same version and the same first number know the same facts
pub facts_same : (files new : StoreFiles) → known_version new ≡ known_version files →
    first_number new.logs ≡ first_number files.logs → known_facts new ≡ known_facts files
facts_same files new told first =
    ap (λ (n : NodeVersion). facts_of n.id n.version (trimmed_count new)) told
    ∙ ap (λ (k : ℕ). facts_of (known_version files).id (known_version files).version (k - 1)) first
