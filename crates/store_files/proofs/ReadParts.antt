-- What an opening reads of the tables and logs of a version.
use Rattle.std.proofs.Common.{◌≡◌, ◌≢◌, ℕ, ◌+◌, List, [], ◌∷◌, All, Contains}
use Rattle.std.proofs.Common.{None, Option, Some, ap, arith, inl, length, refl, subst, sym}
use Rattle.std.proofs.Common.{◌∙◌}
use Rattle.std.specs.Prelude.{IsSome, IsSomeAnd}
use Rattle.std.proofs.lemmas.List.Elements.{All-cons, All-contains, All-contains_itself, All-nil}
use Rattle.std.proofs.lemmas.List.Elements.{All-weaker}
use Rattle.kv_types.specs.{BatchContent}
use Rattle.disk.specs.Crashes.{durable}
use Rattle.disk.specs.{Contents, IsDurable, IsSame, State, contents, seen}
use Rattle.memtable.specs.declared.Memtable.{Memtable}
use Rattle.record_log.specs.{IsDurableAs}
use Rattle.table_format.specs.{TableRepresents}
use Rattle.store_model.specs.{LevelTable}
use Rattle.manifest.specs.declared.LogLine.{LogLine}
use Rattle.manifest.specs.declared.TableLine.{TableLine}
use Rattle.manifest.specs.{IsVersion, StoreVersion}
use Rattle.batch_logs.specs.declared.batch_logs.BatchLog.{BatchLog}
use Rattle.batch_logs.specs.declared.batch_logs.BatchLogs.{BatchLogs}
use Rattle.batch_logs.specs.BatchLogs.{AreParted, HoldsPart, LogsHold, first_number, oldest_first}
use Rattle.store_tables.specs.LevelTables.{AreTablesOf, FileFits, FitsLine}
use Rattle.batch_logs.specs.Replaying.{AreBatchesOf, AreReplayed}
use Rattle.store_files.specs.Settling.{AreSynced, AreThere}
use Rattle.batch_logs.specs.Syncs.{SlotSettles, SparesAllBut}
use Rattle.store_files.specs.StoreFiles.{durably}
use Rattle.store_files.proofs.FilesApart.{log_no_table}
use Rattle.store_files.proofs.NamedFiles.{logs_same, tables_same}
use Rattle.batch_logs.specs.SyncsLemmas.{settles_alike, settles_twice}

-- ---- logs

oldest_holds : (disk : State) (first : ℕ) (older : List BatchLog) (newest : BatchLog)
    (before here : List BatchContent) → AreParted (HoldsPart disk) first older before
    → HoldsPart disk (first + length before) newest here → oldest_first older newest ≡ first
oldest_holds disk first [] newest before here none holds =
    let long : length before ≡ 0 = ap (λ (l : List BatchContent). length l) none in
    let is = holds.first in
    omega (arith, is, long)
oldest_holds disk first (one ∷ older) newest before here parted holds = parted.3.first

-- logs that hold batches begin where these do
pub begins_at : (disk : State) (logs : BatchLogs) (first : ℕ) (batches : List BatchContent)
    → LogsHold disk logs first batches → first_number logs ≡ first
begins_at disk logs first batches h =
    oldest_holds disk first logs.older.items logs.newest h.before h.here h.older h.newest

-- the same contents name the same batches
pub batches_same : (left other : Contents) → ((file : ℕ) → other file ≡ left file)
    → (lines : List LogLine) (first : ℕ) (batches : List BatchContent)
    → AreBatchesOf left lines first batches → AreBatchesOf other lines first batches
batches_same left other same lines first batches h = record {
  positive = h.positive;
  have = logs_same left other first lines batches (λ line has. same line.file) h.have;
  each = h.each;
  few = h.few;
}

pub replayed_same : (left other : Contents) → ((file : ℕ) → other file ≡ left file)
    → (lines : List LogLine) (flushed : ℕ) (logs : BatchLogs) (memtable : Memtable)
    → AreReplayed left lines flushed logs memtable → AreReplayed other lines flushed logs memtable
replayed_same left other same lines flushed logs memtable h = record {
  batches = h.batches;
  had = batches_same left other same lines (first_number logs) h.batches h.had;
  count = h.count;
  entries = h.entries;
}

-- ---- tables

is_there : (file : Option (List ℕ)) (P : List ℕ → Type 0) → IsSomeAnd file P → IsSome file
is_there None P h = absurd h
is_there (Some bytes) P h = refl

-- the files of tables exist
pub tables_are_there : (disk : State) (lines : List TableLine) (tables : List LevelTable)
    → AreTablesOf (contents disk) lines tables → AreThere disk lines
tables_are_there disk [] tables h = All-nil (λ (line : TableLine). IsSome (seen (disk line.file)))
tables_are_there disk (line ∷ lines) [] h = absurd h
tables_are_there disk (line ∷ lines) (table ∷ tables) h =
    All-cons (λ (one : TableLine). IsSome (seen (disk one.file))) line lines
    (is_there (seen (disk line.file)) (λ bytes. (length bytes ≡ line.length)
    × TableRepresents bytes table.entries) h.0.represents)
    (tables_are_there disk lines tables h.1)

-- so do files that fit their lines
pub fitting_are_there : (disk : State) (lines : List TableLine)
    → All (FileFits (contents disk)) lines → AreThere disk lines
fitting_are_there disk lines fit =
    All-weaker (FileFits (contents disk)) (λ (line : TableLine). IsSome (seen (disk line.file)))
    (λ line one. is_there (seen (disk line.file)) (FitsLine line) one) lines fit

-- ---- the states of an opening: after the syncs of tables, of logs, and now

pub synced_reads : (old new : State) (lines : List TableLine) → AreSynced old new lines
    → (file : ℕ) → contents new file ≡ contents old file
synced_reads old new lines synced file = settles_alike old new file (synced.each file)

module _ (version : StoreVersion) (is : IsVersion version) (s1 s2 s3 : State)
    (synced : AreSynced s1 s2 version.tables) (others : SparesAllBut version.logs s2 s3) where
  -- no log has the file of a table
  logs_apart : (line : TableLine) → Contains version.tables line
      → All (λ (log : LogLine). log.file ≢ line.file) version.logs
  logs_apart line has =
      All-weaker (Contains version.logs) (λ (log : LogLine). log.file ≢ line.file)
      (λ log there e. log_no_table version is log there line has (sym e)) version.logs
      (All-contains_itself version.logs)

  table_stays : (line : TableLine) → Contains version.tables line → s3 line.file ≡ s2 line.file
  table_stays line has = others line.file (logs_apart line has)

  table_reads : (line : TableLine) → Contains version.tables line
      → contents s3 line.file ≡ contents s1 line.file
  table_reads line has = ap seen (table_stays line has)
      ∙ synced_reads s1 s2 version.tables synced line.file

  pub tables_then : (tables : List LevelTable) → AreTablesOf (contents s1) version.tables tables
      → AreTablesOf (contents s3) version.tables tables
  tables_then tables h =
      tables_same (contents s1) (contents s3) version.tables tables table_reads h

  pub tables_now : (s4 : State) → IsSame s3 s4 → (tables : List LevelTable)
      → AreTablesOf (contents s1) version.tables tables
      → AreTablesOf (contents s4) version.tables tables
  tables_now s4 same tables h =
      tables_same (contents s3) (contents s4) version.tables tables
      (λ line has. ap seen (same line.file)) (tables_then tables h)

  pub were_fit : All (FileFits (contents s3)) version.tables
      → All (FileFits (contents s1)) version.tables
  were_fit fit =
      All-weaker (Contains version.tables) (FileFits (contents s1))
      (λ line has. subst (λ (o : Option (List ℕ)). IsSomeAnd o (FitsLine line))
      (table_reads line has)
      (All-contains (FileFits (contents s3)) version.tables line fit has)) version.tables
      (All-contains_itself version.tables)

  pub will_fit : All (FileFits (contents s1)) version.tables
      → All (FileFits (contents s3)) version.tables
  will_fit fit =
      All-weaker (Contains version.tables) (FileFits (contents s3))
      (λ line has. subst (λ (o : Option (List ℕ)). IsSomeAnd o (FitsLine line))
      (sym (table_reads line has))
      (All-contains (FileFits (contents s1)) version.tables line fit has)) version.tables
      (All-contains_itself version.tables)

  pub tables_durable : (s4 : State) → IsSame s3 s4
      → All (λ (line : TableLine). IsDurable (s4 line.file)) version.tables
  tables_durable s4 same =
      All-weaker (Contains version.tables) (λ (line : TableLine). IsDurable (s4 line.file))
      (λ line has.
      let one = All-contains (λ (l : TableLine). (bytes : List ℕ)
      × (seen (s1 l.file) ≡ Some bytes) × IsDurableAs s2 l.file bytes) version.tables line
      synced.named has in
      subst IsDurable (sym (same line.file ∙ table_stays line has ∙ one.2)) (refl, refl))
      version.tables (All-contains_itself version.tables)

  -- the tables' files durably have what they had
  pub tables_durably : (line : TableLine) → Contains version.tables line
      → s3 line.file ≡ durably (contents s1) line.file
  tables_durably line has =
      let one = All-contains (λ (l : TableLine). (bytes : List ℕ)
      × (seen (s1 l.file) ≡ Some bytes) × IsDurableAs s2 l.file bytes) version.tables line
      synced.named has in
      table_stays line has ∙ one.2 ∙ sym (ap durable one.1)

-- each file settles
pub parts_settle : (s1 s2 s3 s4 : State) → ((file : ℕ) → SlotSettles s1 s2 file)
    → ((file : ℕ) → SlotSettles s2 s3 file) → IsSame s3 s4 → (file : ℕ) → SlotSettles s1 s4 file
parts_settle s1 s2 s3 s4 tables logs same file =
    settles_twice s1 s3 s4 file (settles_twice s1 s2 s3 file (tables file) (logs file))
    (inl (same file))
