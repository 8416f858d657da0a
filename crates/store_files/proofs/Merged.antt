-- A merge that is installed: what the files named by the old version and by the new one represent,
-- and the open files that know the new one.
use Rattle.std.proofs.Common.{◌≡◌, ◌↔◌, ◌≤◌, ◌-◌, ◌∙◌, length, ℕ, suc, List, [], ◌∷◌, ap, arith}
use Rattle.std.proofs.Common.{drop, inl, Ok, inr, subst, sym}
use Rattle.std.specs.Prelude.{All, Contains, IsNone}
use Rattle.std.specs.List.{AllZip}
use Rattle.std.proofs.lemmas.List.Elements.{All-weaker}
use Rattle.kv_types.specs.{BatchContent, Entry}
use Rattle.disk.specs.{Contents, IsDurable, IsSameBut, State, contents, seen}
use Rattle.memtable.specs.declared.Memtable.{Memtable}
use Rattle.memtable.specs.{TableHolds}
use Rattle.store_model.specs.{LevelTable, StoreRepresents, StoreState, memory_entries}
use Rattle.version_edits.specs.declared.line.LogLine.{LogLine}
use Rattle.version_edits.specs.declared.line.TableLine.{TableLine}
use Rattle.manifest.specs.{Change, EditsKeepVersions, IsSlotFile, IsVersion, ManifestHasFailed}
use Rattle.manifest.specs.{ManifestHolds, ManifestRepresents, NodeVersion, StoreVersion, changed}
use Rattle.manifest.specs.{counting_file, node_version_after}
use Rattle.store_model.specs.PlacesLemmas.{contains_cases, contains_next}
use Rattle.compaction.specs.{IsLineOf, tables_after}
use Rattle.version_edits.specs.declared.line.TableName.{TableName}
use Rattle.store_tables.specs.declared.levels.LevelTables.{LevelTables}
use Rattle.store_tables.specs.declared.levels.OpenTable.{OpenTable}
use Rattle.store_tables.specs.LevelTables.{AreServed, AreTablesOf, WasServed, WereServed}
use Rattle.store_tables.specs.LevelTables.{table_lines}
use Rattle.store_tables.specs.MergeTables.{ReplacedLinesName, ReplacesTables, open_lines}
use Rattle.store_tables.specs.MergeTables.{replaced_lines}
use Rattle.batch_logs.specs.declared.batch_logs.BatchLogs.{BatchLogs}
use Rattle.store_files.specs.declared.store_files.StoreFiles.{StoreFiles}
use Rattle.batch_logs.specs.BatchLogs.{AreUsable, LogsHold, first_number, lines_of, next_number}
use Rattle.store_files.specs.Merging.{HasOutputs, MayMerge, replaced_files, merged_files}
use Rattle.store_files.specs.OpenFiles.{AreUsableFiles, FilesHold, batch_count, known_facts}
use Rattle.store_files.specs.OpenFiles.{known_store, known_version, trimmed_count}
use Rattle.batch_logs.specs.Memtables.{IsNumberedTo}
use Rattle.store_files.specs.StoreFiles.{AreOrderedNumbers, store_of_version}
use Rattle.store_files.specs.Tending.{IsSameBeside}
use Rattle.store_files.proofs.KeptNames.{kept_is_given, slot_is_kept}
use Rattle.store_files.proofs.MergeEdits.{all_merged, input_allocated, input_no_slot, log_no_input}
use Rattle.store_files.proofs.MergeEdits.{merged_is, merged_version, table_no_input}
use Rattle.store_files.proofs.NamedFiles.{tables_same}
use Rattle.store_files.proofs.NamedHolds.{NamedHold, facts_of, log_no_slot, table_no_slot}

-- the lines of tables name them
pub tables_named : (left : Contents) (lines : List TableLine) (tables : List LevelTable)
    → AreTablesOf left lines tables → AllZip IsLineOf lines tables
tables_named left [] [] read = tt
tables_named left [] (t ∷ tables) read = absurd read
tables_named left (line ∷ lines) [] read = absurd read
tables_named left (line ∷ lines) (t ∷ tables) read = (
  record { level = read.0.level; file = read.0.file; range = read.0.range },
  tables_named left lines tables read.1,
)

-- The open files after the record: the manifest knows the version after the edit, and the open
-- tables were replaced as its lines were. The others are as they were.
pub record AreMerged (edit : Change) (files new : StoreFiles) : Type 0 where
  pub told : known_version new ≡ node_version_after (known_version files) edit
  pub tables : table_lines new.tables
      ≡ replaced_lines edit.tables_gone edit.tables_added (table_lines files.tables)
  pub logs : new.logs ≡ files.logs
  pub memtable : new.memtable ≡ files.memtable
  pub free : new.free_file ≡ files.free_file

-- on a disk with the same files, they hold what they held, and the outputs are there
abbrev pub outputs_stay : (old new : State) (files : StoreFiles) (list : List BatchContent)
    (edit : Change) (tables : List LevelTable) → ((file : ℕ) → new file ≡ old file)
    → HasOutputs old (known_store files tables) list edit
    → HasOutputs new (known_store files tables) list edit
outputs_stay old new files list edit tables same o = record {
  outputs = o.outputs;
  read = tables_same (contents old) (contents new) edit.tables_added o.outputs
      (λ line has. ap seen (same line.file)) o.read;
  durable = All-weaker (λ (line : TableLine). IsDurable (old line.file))
      (λ (line : TableLine). IsDurable (new line.file))
      (λ line sure. subst IsDurable (sym (same line.file)) sure) edit.tables_added o.durable;
  represents = o.represents;
}

module _ {files : StoreFiles} {edit : Change} (may : MayMerge files edit) where
  abbrev u : AreUsableFiles files
  u = may.usable

  abbrev version : StoreVersion
  version = (known_version files).version

  abbrev lawful : IsVersion version
  lawful = u.version

  abbrev trimmed : ℕ
  trimmed = trimmed_count files

  abbrev pub after : StoreVersion
  after = merged_version version lawful edit files.free_file may.fit may.is

  after_changed : changed version edit ≡ after
  after_changed = merged_is version lawful edit files.free_file may.fit may.is

  pub after_is : EditsKeepVersions → IsVersion after
  after_is law = subst IsVersion after_changed (law version edit lawful may.fit may.within)

  -- the slots represent it where they represent the version after the edit
  pub slots_after : (left : Contents)
      → ManifestRepresents (node_version_after (known_version files) edit) left
      → ManifestRepresents (record { id = (known_version files).id; version = after }) left
  slots_after left = subst (λ (v : StoreVersion).
      ManifestRepresents (record { id = (known_version files).id; version = v }) left)
      after_changed

  -- ---- the named files

  module _ (disk : State) (tables : List LevelTable) (list : List BatchContent)
      (h : NamedHold disk version files.logs trimmed tables list)
      (o : HasOutputs disk (known_store files tables) list edit) (names : ReplacedLinesName) where
    -- the tables after the edit
    abbrev pub merged_tables : List LevelTable
    merged_tables = tables_after edit.tables_gone o.outputs tables

    -- what the new version names is held
    pub named_after : NamedHold disk after files.logs trimmed merged_tables list
    named_after = record {
      lines = h.lines;
      held = h.held;
      read = names (contents disk) edit.tables_gone version.tables edit.tables_added tables
          o.outputs h.read o.read;
      durable = all_merged version lawful edit files.free_file may.fit may.is
          (λ (line : TableLine). IsDurable (disk line.file)) h.durable o.durable;
      store = o.represents;
      each = h.each;
      few = h.few;
    }

  -- ---- the open files

  -- the facts stay
  pub facts_recorded : (new : StoreFiles)
      → known_version new ≡ node_version_after (known_version files) edit
      → new.logs ≡ files.logs → known_facts new ≡ known_facts files
  facts_recorded new told logs =
      ap (λ (n : NodeVersion). facts_of n.id n.version (trimmed_count new))
      (told ∙ ap (λ (v : StoreVersion). record { id = (known_version files).id; version = v })
      after_changed)
      ∙ ap (λ (l : BatchLogs). facts_of (known_version files).id after (first_number l - 1)) logs

  module _ (new : StoreFiles) (r : AreMerged edit files new) where
    pub known : known_version new ≡ record { id = (known_version files).id; version = after }
    known = r.told ∙ ap (λ (v : StoreVersion). record {
      id = (known_version files).id;
      version = v;
    }) after_changed

    pub trimmed_after : trimmed_count new ≡ trimmed
    trimmed_after = ap (λ (l : BatchLogs). first_number l - 1) r.logs

    pub facts_after : known_facts new ≡ known_facts files
    facts_after = facts_recorded new r.told r.logs

    pub count_after : batch_count new ≡ batch_count files
    count_after = ap (λ (l : BatchLogs). next_number l - 1) r.logs

    pub usable_after : EditsKeepVersions → (ManifestHasFailed new.manifest → ⊥)
        → AreUsableFiles new
    usable_after law works =
        let back = sym known in
        record {
          works = works;
          version = subst (λ (n : NodeVersion). IsVersion n.version) back (after_is law);
          logs = subst AreUsable (sym r.logs) u.logs;
          lines = ap lines_of r.logs ∙ u.lines ∙ ap (λ (n : NodeVersion). n.version.logs) back;
          tables = r.tables
              ∙ ap (replaced_lines edit.tables_gone edit.tables_added) u.tables
              ∙ ap (λ (n : NodeVersion). n.version.tables) back;
          memtable = subst (λ (m : Memtable). IsNumberedTo m (batch_count new)) (sym r.memtable)
              (subst (IsNumberedTo files.memtable) (sym count_after) u.memtable);
          numbers = subst (λ (n : NodeVersion).
              AreOrderedNumbers n.version (trimmed_count new) (batch_count new)) back
              (subst (λ (k : ℕ). AreOrderedNumbers after k (batch_count new)) (sym trimmed_after)
              (subst (AreOrderedNumbers after trimmed) (sym count_after) (record {
                kept_floor = u.numbers.kept_floor;
                kept_current = u.numbers.kept_current;
                current_flushed = u.numbers.current_flushed;
                flushed_count = u.numbers.flushed_count;
                floor_count = u.numbers.floor_count;
                few = u.numbers.few;
              })));
          free =
              let same : (known_version new).version.next_file ≡ files.free_file =
              ap (λ (n : NodeVersion). n.version.next_file) known in
              let first = r.free in
              omega (arith, same, first);
          free_few = let few = u.free_few in let first = r.free in omega (arith, few, first);
        }

    -- files that have what the new version names are held
    pub merged_hold : (disk : State) (tables before : List LevelTable) (list : List BatchContent)
        → NamedHold disk after files.logs trimmed tables list → AreUsableFiles new
        → ManifestHolds disk new.manifest (known_version new) → AreServed disk new.tables tables
        → ((entry : Entry) → TableHolds files.memtable entry
        ↔ memory_entries list (known_store files before) entry)
        → batch_count files ≡ length list
        → ((file : ℕ) → files.free_file ≤ file → IsNone (seen (disk file)))
        → FilesHold disk new list
    merged_hold disk tables before list named usable manifest served entries count unused =
        let back = sym known in
        let P : TableLine → Type 0 = λ line. IsDurable (disk line.file) in
        record {
          known = record {
            usable = usable;
            manifest = manifest;
            logs = subst (λ (k : ℕ). LogsHold disk new.logs (suc k) (drop k list))
                (sym trimmed_after) (subst (λ (l : BatchLogs).
                LogsHold disk l (suc trimmed) (drop trimmed list)) (sym r.logs) named.held);
            tables = tables;
            read = subst (λ (n : NodeVersion). AreTablesOf (contents disk) n.version.tables tables)
                back named.read;
            served = served;
            durable = subst (λ (n : NodeVersion). All P n.version.tables) back named.durable;
            store = store_new (λ s. StoreRepresents list s) named.store;
            entries = λ entry.
                store_new (λ s. TableHolds new.memtable entry ↔ memory_entries list s entry)
                (subst (λ (m : Memtable). TableHolds m entry
                ↔ memory_entries list (store_of_version after trimmed tables) entry)
                (sym r.memtable) (entries entry));
            count = count_after ∙ count;
            each = named.each;
          };
          unused = λ file above. let first = r.free in unused file (omega (arith, above, first));
        }
      where
        store_new : (P : StoreState → Type 0) → P (store_of_version after trimmed tables)
            → P (known_store new tables)
        store_new P p = subst (λ (n : NodeVersion).
            P (store_of_version n.version (trimmed_count new) tables)) (sym known)
            (subst (λ (k : ℕ). P (store_of_version after k tables)) (sym trimmed_after) p)

  -- ---- where only the counting slot and the inputs changed

  module _ (slot : IsSlotFile (counting_file files.manifest)) (old disk : State)
      (same : IsSameBeside (merged_files files edit) old disk) (law : EditsKeepVersions) where
    not_touched : (file : ℕ) → (IsSlotFile file → ⊥) → (Contains (replaced_files edit) file → ⊥)
        → disk file ≡ old file
    not_touched file no_slot no_input = same file (λ has.
        elim (contains_cases (counting_file files.manifest) (replaced_files edit) file has) [
          | inl is ↦ no_slot (subst IsSlotFile is slot)
          | inr input ↦ no_input input
        ])

    -- the logs' files stay
    pub log_stays : (line : LogLine) → Contains version.logs line → disk line.file ≡ old line.file
    log_stays line has = not_touched line.file (log_no_slot version lawful line has)
        (log_no_input version lawful edit files.free_file may.fit may.is line has)

    -- so do those of the tables after it
    pub table_stays : (line : TableLine) → Contains after.tables line
        → disk line.file ≡ old line.file
    table_stays line has = not_touched line.file (table_no_slot after (after_is law) line has)
        (table_no_input version lawful edit files.free_file may.fit may.is line has)

    -- and those that no version has named
    pub free_stays : (file : ℕ) → files.free_file ≤ file → disk file ≡ old file
    free_stays file above =
        let least = u.free in
        not_touched file
        (λ is. let below = kept_is_given version lawful file (slot_is_kept version file is) in
        omega (arith, below, above, least))
        (λ input.
        let given = input_allocated version lawful edit files.free_file may.fit may.is file input in
        let lt = given.1 in omega (arith, lt, above, least))

  -- where the inputs alone changed, the slots stay
  pub slots_stay_behind : (mid new : State) → IsSameBeside (replaced_files edit) mid new
      → (slot : ℕ) → IsSlotFile slot → new slot ≡ mid slot
  slots_stay_behind mid new same slot one = same slot (λ input.
      input_no_slot version lawful edit files.free_file may.fit may.is slot input one)

-- ---- changes one behind another

-- what changed the counting slot alone changed no other file than the record may
pub slot_alone : (files : StoreFiles) (edit : Change) (old new : State)
    → IsSameBut (counting_file files.manifest) old new
    → IsSameBeside (merged_files files edit) old new
slot_alone files edit old new same file other = same file (λ is. other (0, omega arith, sym is))

-- .. and then the inputs
pub slot_then_inputs : (files : StoreFiles) (edit : Change) (old mid new : State)
    → IsSameBut (counting_file files.manifest) old mid → IsSameBeside (replaced_files edit) mid new
    → IsSameBeside (merged_files files edit) old new
slot_then_inputs files edit old mid new before after file other =
    after file (λ input. other (contains_next (counting_file files.manifest) (replaced_files edit)
    file input))
    ∙ slot_alone files edit old mid before file other

-- ---- the open tables

module _ (old new opened : LevelTables) (gone names : List TableName) (items : List OpenTable)
    (same_names : gone ≡ names) (same_items : items ≡ opened.tables.items)
    (r : ReplacesTables old new gone items (Ok tt)) (lines added : List TableLine)
    (lines_are : table_lines old ≡ lines) (added_are : table_lines opened ≡ added) where
  -- their lines are those after the edit
  pub lines_replaced : table_lines new ≡ replaced_lines names added (table_lines old)
  lines_replaced =
      r.lines ∙ ap (λ (l : List OpenTable). replaced_lines gone (open_lines l) (table_lines old))
      same_items
      ∙ ap (λ (l : List TableLine). replaced_lines gone l (table_lines old)) added_are
      ∙ ap (λ (l : List TableName). replaced_lines l added (table_lines old)) same_names

  -- and they serve the tables after it, or were meant to
  pub tables_replaced : (disk meant : State) (left right : Contents)
      (tables outputs : List LevelTable) → AreTablesOf left lines tables
      → AreTablesOf right added outputs → WereServed disk meant old tables
      → WereServed disk meant opened outputs
      → WereServed disk meant new (tables_after names outputs tables)
  tables_replaced disk meant left right tables outputs read new_read were opens =
      subst (λ (l : List TableName). WereServed disk meant new (tables_after l outputs tables))
      same_names (r.served disk meant tables outputs
      (subst (λ (l : List TableLine). AllZip IsLineOf l tables) (sym lines_are)
      (tables_named left lines tables read))
      (subst (λ (l : List OpenTable). AllZip IsLineOf (open_lines l) outputs) (sym same_items)
      (subst (λ (l : List TableLine). AllZip IsLineOf l outputs) (sym added_are)
      (tables_named right added outputs new_read))) were
      (subst (λ (l : List OpenTable). AllZip (WasServed disk meant) l outputs) (sym same_items)
      opens))
