-- A rise of the floor: what the files named by the old version and by the new one represent, and
-- the open files that know the new one.
use Rattle.std.proofs.Common.{◌≡◌, ◌↔◌, ◌≤◌, ◌<◌, ◌-◌, ◌∙◌, ℕ, suc, List, [], ◌∷◌, length, map}
use Rattle.std.proofs.Common.{drop, ap, arith, inl, inr, refl, subst, sym}
use Rattle.std.specs.Prelude.{All, Contains, IsNone}
use Rattle.std.proofs.lemmas.List.{length-append, length-map}
use Rattle.std.proofs.lemmas.List.Elements.{All-contains}
use Rattle.kv_types.specs.{BatchContent, Entry}
use Rattle.disk.specs.{Contents, DurableFileIsLeft, IsDurable, IsFileOutcome, Slot, State, contents}
use Rattle.disk.specs.{seen}
use Rattle.memtable.specs.declared.Memtable.{Memtable}
use Rattle.memtable.specs.{TableHolds}
use Rattle.store_model.specs.Claims.{RaisesKeep}
use Rattle.store_model.specs.{IsRaise, LevelTable, StoreRepresents, StoreState, memory_entries}
use Rattle.version_edits.specs.declared.line.LogLine.{LogLine}
use Rattle.version_edits.specs.declared.line.TableLine.{TableLine}
use Rattle.manifest.specs.{Change, EditsKeepVersions, IsChange, IsFit, IsSlotFile, IsVersion}
use Rattle.manifest.specs.{ManifestHasFailed, ManifestHolds, ManifestRepresents, NodeVersion}
use Rattle.manifest.specs.{StoreVersion, counting_file, node_version_after}
use Rattle.store_model.specs.PlacesLemmas.{contains_cases}
use Rattle.batch_logs.specs.declared.batch_logs.BatchLog.{BatchLog}
use Rattle.batch_logs.specs.declared.batch_logs.BatchLogs.{BatchLogs}
use Rattle.store_files.specs.declared.store_files.StoreFiles.{StoreFiles}
use Rattle.store_tables.specs.declared.levels.LevelTables.{LevelTables}
use Rattle.store_tables.specs.LevelTables.{AreServed, AreTablesOf, table_lines}
use Rattle.batch_logs.specs.BatchLogs.{HaveBatches, LogsHold, end_of_log, lines_of, line_of}
use Rattle.store_files.specs.OpenFiles.{AreUsableFiles, FilesHold, batch_count, known_facts}
use Rattle.store_files.specs.OpenFiles.{known_store, known_version, trimmed_count}
use Rattle.store_files.specs.Raising.{MayRise, before_oldest, obsolete_files, raise_change}
use Rattle.store_files.specs.Raising.{facts_with_floor, raised_files}
use Rattle.batch_logs.specs.Memtables.{IsNumberedTo}
use Rattle.store_files.specs.StoreFiles.{AreOrderedNumbers, FilesRepresent, before_newest}
use Rattle.store_files.specs.StoreFiles.{store_of_version}
use Rattle.store_files.specs.Tending.{IsSameBeside}
use Rattle.store_files.proofs.KeptNames.{kept_is_given, slot_is_kept}
use Rattle.store_files.proofs.KeptFiles.{named_logs_left, served_in}
use Rattle.store_files.proofs.LeftLogs.{gone_count, gone_few, left_before_newest, left_dropped}
use Rattle.store_files.proofs.LeftLogs.{left_low, left_rises, newest_left, some_left}
use Rattle.store_files.proofs.NamedFiles.{tables_same}
use Rattle.store_files.proofs.NamedHolds.{NamedHold, facts_of, log_no_slot, named_in, table_no_slot}
use Rattle.store_files.proofs.RaiseEdits.{gone_given, left_apart, raise_change_is, raise_fit}
use Rattle.store_files.proofs.RaiseEdits.{raised_is, raised_version, table_apart}
use Rattle.store_files.proofs.TrimmedLogs.{AreTrimmed, left_have, trimmed_by_lines, trimmed_hold}
use Rattle.store_files.proofs.TrimmedLogs.{trimmed_lines, trimmed_usable}

-- the lines of logs are those of the older ones and one more
lines_long : (logs : BatchLogs) → length (lines_of logs) ≡ suc (length logs.older.items)
lines_long logs =
    let all = length-append (map line_of logs.older.items) (line_of logs.newest ∷ []) in
    let older = length-map logs.older.items line_of in
    omega (arith, all, older)

-- The open files after the record of the edit: the manifest knows the version after it, and of the
-- logs the oldest were forgotten that were given up. The others are as they were.
pub record AreRaised (floor : ℕ) (files new : StoreFiles) : Type 0 where
  pub told : known_version new ≡ node_version_after (known_version files)
      (raise_change (known_version files).version floor)
  pub logs : AreTrimmed files.logs new.logs (length (obsolete_files files floor))
  pub tables : new.tables ≡ files.tables
  pub memtable : new.memtable ≡ files.memtable
  pub free : new.free_file ≡ files.free_file

module _ {files : StoreFiles} {floor : ℕ} (may : MayRise files floor) where
  abbrev u : AreUsableFiles files
  u = may.usable

  abbrev version : StoreVersion
  version = (known_version files).version

  abbrev lawful : IsVersion version
  lawful = u.version

  abbrev edit : Change
  edit = raise_change version floor

  abbrev pub after : StoreVersion
  after = raised_version version lawful floor

  abbrev trimmed : ℕ
  trimmed = trimmed_count files

  -- so many batches are trimmed then
  abbrev pub cut : ℕ
  cut = before_oldest after.logs

  -- ---- the version

  pub fits : IsFit version edit × IsChange edit
  fits =
      let few = u.numbers.few in
      let most = may.counted in (
        raise_fit version lawful floor may.rises,
        raise_change_is version lawful floor may.rises (omega (arith, few, most)),
      )

  pub after_is : EditsKeepVersions → IsVersion after
  after_is law = subst IsVersion (raised_is version lawful floor)
      (law version edit lawful fits.0 fits.1)

  -- the slots represent it where they represent the version after the edit
  pub slots_after : (recorded : Change) → recorded ≡ edit → (left : Contents)
      → ManifestRepresents (node_version_after (known_version files) recorded) left
      → ManifestRepresents (record { id = (known_version files).id; version = after }) left
  slots_after recorded is left represents = subst (λ (v : StoreVersion).
      ManifestRepresents (record { id = (known_version files).id; version = v }) left)
      (raised_is version lawful floor) (subst (λ (e : Change).
      ManifestRepresents (node_version_after (known_version files) e) left) is represents)

  -- ---- its numbers

  pub some_logs : 0 < length after.logs
  some_logs = some_left floor version.logs lawful.lawful.some

  trimmed_is : before_oldest version.logs ≡ trimmed
  trimmed_is = ap before_oldest (sym u.lines) ∙ trimmed_by_lines files.logs

  cut_rises : trimmed ≤ cut
  cut_rises =
      let more = left_rises floor version.logs lawful.lines.logs_in_order in
      let is = trimmed_is in
      omega (arith, more, is)

  cut_low : cut ≤ floor
  cut_low =
      let is = trimmed_is in
      let low = u.numbers.kept_floor in
      let up = may.rises in
      left_low floor version.logs (omega (arith, is, low, up))

  newest_is : before_newest after.logs ≡ before_newest version.logs
  newest_is = newest_left floor version.logs

  cut_current : cut ≤ before_newest version.logs
  cut_current = left_before_newest floor version.logs lawful.lines.logs_in_order

  -- the newest log is not given up
  pub gone_older : length (obsolete_files files floor) ≤ length files.logs.older.items
  gone_older =
      let less = gone_few floor version.logs lawful.lawful.some in
      let long = ap length (sym u.lines) in
      let all = lines_long files.logs in
      omega (arith, less, long, all)

  -- ---- the list

  module _ (tables : List LevelTable) (list : List BatchContent) (count : batch_count files ≡ length
      list) (store : StoreRepresents list (known_store files tables)) (keeps : RaisesKeep) where
    is_raise : IsRaise list (known_store files tables) floor cut
    is_raise =
        let most = may.counted in
        record {
          floor_rises = may.rises;
          floor_count = omega (arith, most, count);
          kept_rises = cut_rises;
          kept_floor = cut_low;
          kept_current = cut_current;
        }

    pub store_after : StoreRepresents list (store_of_version after cut tables)
    store_after = subst (λ (n : ℕ). StoreRepresents list (record {
      tables = tables;
      flushed = version.flushed;
      floor = floor;
      kept = cut;
      current = n;
    })) (sym newest_is) (keeps list (known_store files tables) floor cut store is_raise)

  -- what memory is to have stays
  pub entries_after : (tables : List LevelTable) (list : List BatchContent) (entry : Entry)
      → memory_entries list (known_store files tables) entry
      ↔ memory_entries list (store_of_version after cut tables) entry
  entries_after tables list entry =
      let low = cut_rises in
      let current = cut_current in
      let flushed = u.numbers.current_flushed in (
        λ (kept, above, is). (omega (arith, above, current, flushed), above, is),
        λ (kept, above, is). (omega (arith, kept, low), above, is),
      )

  -- ---- the named files

  module _ (disk : State) (tables : List LevelTable) (list : List BatchContent)
      (h : NamedHold disk version files.logs trimmed tables list)
      (count : batch_count files ≡ length list) (keeps : RaisesKeep) where
    -- where slots represent the new version, a crash that leaves what it might of the files that
    -- the old one names leaves the list
    unfoldable pub raised_left : DurableFileIsLeft → (left : Contents)
        → ManifestRepresents (record { id = (known_version files).id; version = after }) left
        → ((line : LogLine) → Contains version.logs line
        → IsFileOutcome (disk line.file) (left line.file))
        → ((line : TableLine) → Contains version.tables line
        → IsFileOutcome (disk line.file) (left line.file))
        → FilesRepresent (facts_with_floor files floor) list left
    raised_left law left manifest log_left table_left =
        let have : HaveBatches left (suc trimmed) version.logs (drop trimmed list) =
        subst (λ (l : List LogLine). HaveBatches left (suc trimmed) l (drop trimmed list)) h.lines
        (named_logs_left law disk left files.logs (suc trimmed) (drop trimmed list) h.held
        (λ line has. log_left line (subst (λ (l : List LogLine). Contains l line) h.lines has))) in
        let some = some_logs in
        record {
          version = after;
          manifest = manifest;
          epoch = refl;
          ids = refl;
          floor = refl;
          logs = left_have left trimmed (gone_count floor version.logs) version.logs after.logs list
              (left_dropped floor version.logs) (λ none. omega (arith, none, some)) have;
          tables = tables;
          read = tables_same (contents disk) left version.tables tables
              (λ line has. law (disk line.file) (left line.file)
              (All-contains (λ (one : TableLine). IsDurable (disk one.file)) version.tables line
              h.durable has) (table_left line has)) h.read;
          store = store_after tables list count h.store keeps;
          each = h.each;
          few = h.few;
        }

  -- ---- the open files

  module _ (new : StoreFiles) (r : AreRaised floor files new) where
    pub known : known_version new ≡ record { id = (known_version files).id; version = after }
    known = r.told ∙ ap (λ (v : StoreVersion). record {
      id = (known_version files).id;
      version = v;
    }) (raised_is version lawful floor)

    pub lines_after : lines_of new.logs ≡ after.logs
    lines_after =
        trimmed_lines files.logs new.logs (length (obsolete_files files floor)) r.logs gone_older
        ∙ ap (drop (length (obsolete_files files floor))) u.lines
        ∙ sym (left_dropped floor version.logs)

    pub trimmed_after : trimmed_count new ≡ cut
    trimmed_after = sym (trimmed_by_lines new.logs) ∙ ap before_oldest lines_after

    pub facts_after : known_facts new ≡ facts_with_floor files floor
    facts_after =
        ap (λ (n : NodeVersion). facts_of n.id n.version (trimmed_count new)) known
        ∙ ap (λ (k : ℕ). facts_of (known_version files).id after k) trimmed_after

    pub count_after : batch_count new ≡ batch_count files
    count_after = ap (λ (one : BatchLog). end_of_log one - 1) r.logs.newest

    numbers_after : AreOrderedNumbers after cut (batch_count files)
    numbers_after =
        let newest = newest_is in
        let current = cut_current in
        let flushed = u.numbers.current_flushed in
        record {
          kept_floor = cut_low;
          kept_current = omega (arith, newest, current);
          current_flushed = omega (arith, newest, flushed);
          flushed_count = u.numbers.flushed_count;
          floor_count = may.counted;
          few = u.numbers.few;
        }

    pub usable_after : EditsKeepVersions → (ManifestHasFailed new.manifest → ⊥)
        → AreUsableFiles new
    usable_after law works =
        let back = sym known in
        record {
          works = works;
          version = subst (λ (n : NodeVersion). IsVersion n.version) back (after_is law);
          logs = trimmed_usable files.logs new.logs (length (obsolete_files files floor)) r.logs
              u.logs;
          lines = lines_after ∙ ap (λ (n : NodeVersion). n.version.logs) back;
          tables = ap table_lines r.tables ∙ u.tables
              ∙ ap (λ (n : NodeVersion). n.version.tables) back;
          memtable = subst (λ (m : Memtable). IsNumberedTo m (batch_count new)) (sym r.memtable)
              (subst (IsNumberedTo files.memtable) (sym count_after) u.memtable);
          numbers = subst (λ (n : NodeVersion).
              AreOrderedNumbers n.version (trimmed_count new) (batch_count new)) back
              (subst (λ (k : ℕ). AreOrderedNumbers after k (batch_count new)) (sym trimmed_after)
              (subst (AreOrderedNumbers after cut) (sym count_after) numbers_after));
          free =
              let same = ap (λ (n : NodeVersion). n.version.next_file) known in
              let least = u.free in
              let first = r.free in
              omega (arith, same, least, first);
          free_few = let few = u.free_few in let first = r.free in omega (arith, few, first);
        }

    -- what the new version names is held
    pub named_after : (disk : State) (tables : List LevelTable) (list : List BatchContent)
        → NamedHold disk version files.logs trimmed tables list → batch_count files ≡ length list
        → RaisesKeep → NamedHold disk after new.logs cut tables list
    named_after disk tables list h count keeps = record {
      lines = lines_after;
      held = subst (λ (k : ℕ). LogsHold disk new.logs (suc k) (drop k list)) trimmed_after
          (trimmed_hold files.logs new.logs (length (obsolete_files files floor)) r.logs disk
          trimmed list h.held);
      read = h.read;
      durable = h.durable;
      store = store_after tables list count h.store keeps;
      each = h.each;
      few = h.few;
    }

    -- ---- where only the counting slot and the files given up changed

    module _ (old disk : State) (slot : IsSlotFile (counting_file files.manifest))
        (same : IsSameBeside (raised_files files floor) old disk) (law : EditsKeepVersions) where
      -- the files of the logs that are left stay, and those of the tables
      not_touched : (file : ℕ) → (IsSlotFile file → ⊥)
          → (Contains (obsolete_files files floor) file → ⊥) → disk file ≡ old file
      not_touched file no_slot not_gone = same file (λ has.
          let slot_file = counting_file files.manifest in
          elim (contains_cases slot_file (obsolete_files files floor) file has) [
            | inl is ↦ no_slot (subst IsSlotFile is slot)
            | inr gone ↦ not_gone gone
          ])

      pub log_stays : (line : LogLine) → Contains after.logs line → disk line.file ≡ old line.file
      log_stays line has = not_touched line.file (log_no_slot after (after_is law) line has)
          (left_apart version lawful floor line has)

      pub table_stays : (line : TableLine) → Contains version.tables line
          → disk line.file ≡ old line.file
      table_stays line has = not_touched line.file (table_no_slot version lawful line has)
          (table_apart version lawful floor line has)

      -- and the open files hold the list
      pub raised_hold : (list : List BatchContent) → FilesHold old files list → RaisesKeep
          → (ManifestHasFailed new.manifest → ⊥)
          → ManifestHolds disk new.manifest (known_version new) → FilesHold disk new list
      raised_hold list h keeps works holds =
          let k = h.known in
          let back = sym known in
          let named = named_in old after new.logs cut k.tables list
          (named_after old k.tables list (record {
            lines = u.lines;
            held = k.logs;
            read = k.read;
            durable = k.durable;
            store = k.store;
            each = k.each;
            few = let few = u.numbers.few in let count = k.count in omega (arith, few, count);
          }) k.count keeps) disk log_stays table_stays in
          let P : TableLine → Type 0 = λ line. IsDurable (disk line.file) in
          record {
            known = record {
              usable = usable_after law works;
              manifest = holds;
              logs = subst (λ (n : ℕ). LogsHold disk new.logs (suc n) (drop n list))
                  (sym trimmed_after) named.held;
              tables = k.tables;
              read = subst (λ (n : NodeVersion). AreTablesOf (contents disk) n.version.tables
                  k.tables) back named.read;
              served = subst (λ (t : LevelTables). AreServed disk t k.tables) (sym r.tables)
                  (served_in old disk version.tables files.tables.tables.items k.tables table_stays
                  k.read k.served);
              durable = subst (λ (n : NodeVersion). All P n.version.tables) back named.durable;
              store = store_new (λ s. StoreRepresents list s) k.tables named.store;
              entries = λ entry.
                  let memory = k.entries entry in
                  let after_both = entries_after k.tables list entry in
                  store_new (λ s. TableHolds new.memtable entry ↔ memory_entries list s entry)
                  k.tables (subst (λ (m : Memtable). TableHolds m entry
                  ↔ memory_entries list (store_of_version after cut k.tables) entry)
                  (sym r.memtable) (
                    λ holds. after_both.0 (memory.0 holds),
                    λ among. memory.1 (after_both.1 among),
                  ));
              count = count_after ∙ k.count;
              each = k.each;
            };
            unused = λ file above.
                let first = r.free in
                let least = u.free in
                subst (λ (s : Slot). IsNone (seen s)) (sym (not_touched file
                (λ is. let below = kept_is_given version lawful file (slot_is_kept version file is)
                in omega (arith, below, above, first, least))
                (λ gone. let given = gone_given version lawful floor file gone in
                let lt = given.1 in omega (arith, lt, above, first, least))))
                (h.unused file (omega (arith, above, first)));
          }
        where
          -- what is said of the new store of the model is said of that of the open files
          store_new : (P : StoreState → Type 0) (tables : List LevelTable)
              → P (store_of_version after cut tables) → P (known_store new tables)
          store_new P tables p = subst (λ (n : NodeVersion).
              P (store_of_version n.version (trimmed_count new) tables)) (sym known)
              (subst (λ (k : ℕ). P (store_of_version after k tables)) (sym trimmed_after) p)
