-- The version that a flush makes, and the open files that know it.
use Rattle.std.proofs.Common.{◌≡◌, ◌≢◌, ℕ, suc, ◌+◌, ◌-◌, ◌<◌, ◌≤◌, ◌∙◌, List, [], ◌∷◌, ◌++◌, map}
use Rattle.std.proofs.Common.{arith, inr, refl, subst, sym, ap}
use Rattle.std.specs.Prelude.{All, Contains}
use Rattle.std.proofs.lemmas.List.Elements.{All-contains_itself, All-map, All-push, All-weaker}
use Rattle.std.proofs.lemmas.List.Elements.{Contains-append_left, Contains-push}
use Rattle.kv_types.specs.{Entry}
use Rattle.memtable.specs.{HasFailedAdd, TableHolds}
use Rattle.record_log.specs.{file_of}
use Rattle.version_edits.specs.declared.line.TheConstants.{MAX_NEXT}
use Rattle.manifest.specs.declared.LogLine.{LogLine}
use Rattle.manifest.specs.declared.TableLine.{TableLine}
use Rattle.manifest.specs.Lawful.{IsAllocated}
use Rattle.manifest.specs.{Change, EditsKeepVersions, IsChange, IsFit, IsVersion, ManifestHasFailed}
use Rattle.manifest.specs.{NodeVersion, StoreVersion, changed, node_version_after}
use Rattle.batch_logs.specs.declared.batch_logs.BatchLog.{BatchLog}
use Rattle.store_files.specs.declared.store_files.StoreFiles.{StoreFiles}
use Rattle.batch_logs.specs.BatchLogs.{AreBeside, AreUsable, first_number, line_of, lines_of}
use Rattle.batch_logs.specs.BatchLogs.{newest_file, next_number, with_line}
use Rattle.store_tables.specs.LevelTables.{table_lines, with_flushed_line}
use Rattle.store_files.specs.OpenFiles.{AreUsableFiles, batch_count, known_facts, known_version}
use Rattle.store_files.specs.OpenFiles.{trimmed_count}
use Rattle.store_files.specs.StoreFiles.{AreOrderedNumbers, before_newest, begun_log, flush_change}
use Rattle.store_files.specs.Tending.{IsNextTable, LacksPlace}
use Rattle.batch_logs.specs.MemtablesLemmas.{none_numbered}
use Rattle.store_files.proofs.FilesApart.{newest_positive}
use Rattle.store_files.proofs.FlushEdits.{flush_change_is, flush_fit}
use Rattle.store_files.proofs.FlushedFiles.{logs_after, newest_after, tables_after}
use Rattle.store_files.proofs.FlushedTables.{flushed_lines}
use Rattle.store_files.proofs.KeptNames.{contains_map}
use Rattle.batch_logs.specs.BatchLogsLemmas.{joined_in_turn as in_turn}
use Rattle.store_files.proofs.NamedHolds.{facts_of, first_begun, firsts_in_turn, log_given}

-- ---- the version after a flush

-- the edit that was made is that of the flush
pub edit_is : (files : StoreFiles) (line : TableLine) (named : NodeVersion) (count : ℕ)
    (edit : Change) → named ≡ known_version files → count ≡ batch_count files
    → edit ≡ flush_change named.version files.free_file count line
    → edit ≡ flush_change (known_version files).version files.free_file (batch_count files) line
edit_is files line named count edit same counted is =
    is ∙ ap (λ (n : NodeVersion). flush_change n.version files.free_file count line) same
    ∙ ap (λ (n : ℕ). flush_change (known_version files).version files.free_file n line) counted

-- The files can be flushed by an edit with this line: they are usable, the version has a place, the
-- table is the next one, and the new log's file is the one behind it.
pub record IsFlushOf (files : StoreFiles) (line : TableLine) (file : ℕ) (edit : Change) : Type 0
  where
    pub usable : AreUsableFiles files
    pub place : LacksPlace (known_version files).version files.free_file → ⊥
    pub next : IsNextTable files line
    pub at : file ≡ files.free_file + 1
    pub is : edit ≡ flush_change (known_version files).version files.free_file
        (batch_count files) line

-- so can files that are usable and have a place be, by the edit that names this table
pub flush_by : (files : StoreFiles) (line : TableLine) (edit : Change) → AreUsableFiles files
    → (LacksPlace (known_version files).version files.free_file → ⊥) → IsNextTable files line
    → edit ≡ flush_change (known_version files).version files.free_file (batch_count files) line
    → IsFlushOf files line (files.free_file + 1) edit
flush_by files line edit usable place next is = record {
  usable = usable;
  place = place;
  next = next;
  at = refl;
  is = is;
}

module _ {files : StoreFiles} {line : TableLine} {file : ℕ} {edit : Change}
    (so : IsFlushOf files line file edit)
  where
    abbrev u : AreUsableFiles files
    u = so.usable

    abbrev place : LacksPlace (known_version files).version files.free_file → ⊥
    place = so.place

    abbrev next : IsNextTable files line
    next = so.next

    abbrev at : file ≡ files.free_file + 1
    at = so.at

    abbrev version : StoreVersion
    version = (known_version files).version

    abbrev free : ℕ
    free = files.free_file

    abbrev flush_of : Change
    flush_of = flush_change version free (batch_count files) line

    -- no file that was given is free
    pub free_above : version.next_file ≤ free
    free_above = u.free

    abbrev after : StoreVersion
    after = changed version flush_of

    fits_flush : IsFit version flush_of × IsChange flush_of
    fits_flush = (
      flush_fit version u.version free free_above (batch_count files) line place u.numbers.few
          u.numbers.flushed_count next,
      flush_change_is version u.version free free_above (batch_count files) line place u.numbers.few
          u.numbers.flushed_count next,
    )

    pub after_is : EditsKeepVersions → IsVersion after
    after_is law = law version flush_of u.version fits_flush.0 fits_flush.1

    -- no log has the new log's file
    pub beside_new : AreBeside file files.logs.older.items × (newest_file files.logs ≢ file)
    beside_new = (
      All-weaker (Contains files.logs.older.items) (λ (one : BatchLog). file_of one.log ≢ file)
          (λ one has. no_file (line_of one) (Contains-append_left
          (map line_of files.logs.older.items) (line_of files.logs.newest ∷ []) (line_of one)
          (contains_map line_of files.logs.older.items one has)))
          files.logs.older.items (All-contains_itself files.logs.older.items),
      no_file (line_of files.logs.newest)
          (Contains-push (map line_of files.logs.older.items) (line_of files.logs.newest)),
    )
      where
        no_file : (line : LogLine) → Contains (lines_of files.logs) line → line.file ≢ file
        no_file line has same =
            let given = log_given version u.version line
            (subst (λ (l : List LogLine). Contains l line) u.lines has) in
            let above = free_above in
            omega (arith, given.1, above, same, at)

    count_next : next_number files.logs ≡ suc (batch_count files)
    count_next =
        let some = newest_positive files u in
        omega (arith, some)

    firsts : All (λ (old : LogLine). old.first ≤ suc (batch_count files)) version.logs
    firsts =
        let newest = files.logs.newest in
        let P : LogLine → Type 0 = λ old. old.first ≤ newest.first in
        let all : All P (lines_of files.logs) =
        All-push P (map line_of files.logs.older.items) (line_of newest)
        (All-map P line_of files.logs.older.items (firsts_in_turn (first_number files.logs)
        newest.first files.logs.older.items (in_turn (first_number files.logs) newest.first
        files.logs.older.items u.logs.joined))) (omega arith) in
        let next = count_next in
        All-weaker P (λ (old : LogLine). old.first ≤ suc (batch_count files))
        (λ old le. omega (arith, le, next)) version.logs (subst (All P) u.lines all)

    -- the new log stands behind the others
    pub logs_are : after.logs ≡ version.logs ++ begun_log free (batch_count files) ∷ []
    logs_are = logs_after version free (batch_count files) line firsts

    pub lines_begun : with_line files.logs file ≡ after.logs
    lines_begun =
        ap (λ (l : List LogLine). l ++ record { file = file; first = next_number files.logs } ∷ [])
        u.lines
        ∙ ap (λ (n : ℕ). version.logs ++ record { file = file; first = n } ∷ []) count_next
        ∙ ap (λ (n : ℕ). version.logs ++ record { file = n; first = suc (batch_count files) } ∷ [])
        at ∙ sym logs_are

    pub newest_is : before_newest after.logs ≡ batch_count files
    newest_is = newest_after version free (batch_count files) line logs_are

    -- and the new table behind the others of level 0
    pub tables_are : after.tables ≡ with_flushed_line version.tables line
    tables_are =
        tables_after version free (batch_count files) line
        ∙ flushed_lines line next.level version.tables
        (All-weaker (λ (old : TableLine). IsAllocated version old.file)
        (λ (old : TableLine). old.file < line.file)
        (λ old given. let above = free_above in omega (arith, given.1, above, next.file))
        version.tables u.version.lines.table_files)

    -- ---- the open files after it

    module _ (new : StoreFiles)
        (told : known_version new ≡ node_version_after (known_version files) edit)
        (lines : lines_of new.logs ≡ with_line files.logs file) where
      pub known : known_version new ≡ node_version_after (known_version files) flush_of
      known = told ∙ ap (λ (e : Change). node_version_after (known_version files) e) so.is

      pub trimmed_kept : trimmed_count new ≡ trimmed_count files
      trimmed_kept = ap (λ (n : ℕ). n - 1)
          (first_begun files.logs new.logs file lines)

      pub facts_kept : known_facts new ≡ known_facts files
      facts_kept =
          ap (λ (n : NodeVersion). facts_of n.id n.version (trimmed_count new)) known
          ∙ ap (λ (k : ℕ). facts_of (known_version files).id version k) trimmed_kept

      module _ (same : next_number new.logs ≡ next_number files.logs) where
        pub count_kept : batch_count new ≡ batch_count files
        count_kept = ap (λ (n : ℕ). n - 1) same

        numbers_after : AreOrderedNumbers after (trimmed_count new) (batch_count new)
        numbers_after =
            let trimmed = trimmed_kept in
            let count = count_kept in
            let newest = newest_is in
            let floor = u.numbers.kept_floor in
            let most = u.numbers.floor_count in
            let few = u.numbers.few in
            record {
              kept_floor = omega (arith, trimmed, floor);
              kept_current = omega (arith, trimmed, floor, most, newest);
              current_flushed = omega (arith, newest);
              flushed_count = omega (arith, count);
              floor_count = omega (arith, count, most);
              few = omega (arith, count, few);
            }

        pub installed_usable : EditsKeepVersions → (ManifestHasFailed new.manifest → ⊥)
            → AreUsable new.logs
            → table_lines new.tables ≡ with_flushed_line (table_lines files.tables) line
            → (HasFailedAdd new.memtable → ⊥)
            → ((entry : Entry) → TableHolds new.memtable entry → ⊥)
            → new.free_file ≡ free + 2 → AreUsableFiles new
        installed_usable law works logs tables adds empty given =
            let was = sym known in
            record {
              works = works;
              version = subst (λ (n : NodeVersion). IsVersion n.version) was (after_is law);
              logs = logs;
              lines = lines ∙ lines_begun ∙ ap (λ (n : NodeVersion). n.version.logs) was;
              tables = tables
                  ∙ ap (λ (l : List TableLine). with_flushed_line l line) u.tables
                  ∙ sym tables_are ∙ ap (λ (n : NodeVersion). n.version.tables) was;
              memtable = none_numbered new.memtable adds empty (batch_count new);
              numbers = subst (λ (n : NodeVersion).
                  AreOrderedNumbers n.version (trimmed_count new) (batch_count new)) was
                  numbers_after;
              free =
                  let next : (known_version new).version.next_file ≡ free + 2 =
                  ap (λ (n : NodeVersion). n.version.next_file) known in
                  omega (arith, next, given);
              free_few =
                  let less : (MAX_NEXT < free + 2) → ⊥ = λ lt. place (inr lt) in
                  omega (arith, less, given);
            }
