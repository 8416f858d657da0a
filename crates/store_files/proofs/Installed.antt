-- A flush that is installed: what the files named by the old version and by the new one represent
-- together, and what a crash leaves of them meanwhile.
use Rattle.std.proofs.Common.{◌≡◌, ◌≢◌, ◌⊎◌, ℕ, suc, ◌+◌, ◌<◌, ◌≤◌, ◌∙◌, List, drop, arith, inl}
use Rattle.std.proofs.Common.{inr, refl, subst, sym, ap}
use Rattle.std.specs.Prelude.{All, Contains, IsNone}
use Rattle.kv_types.specs.{BatchContent, Entry}
use Rattle.disk.specs.{Contents, DurableFileIsLeft, IsDurable, IsFileOutcome, IsLeftAt, IsSameBut}
use Rattle.disk.specs.{LeavesSince, Slot, State, contents, seen}
use Rattle.disk.specs.MomentsLemmas.{join, none_yet, weaker}
use Rattle.memtable.specs.{TableHolds}
use Rattle.record_log.specs.{EndsInRange}
use Rattle.store_model.specs.Claims.{FlushesKeep, FlushesLeaveMerges}
use Rattle.store_model.specs.StoresLemmas.{entry_within}
use Rattle.store_model.specs.{IsFlush, LevelTable, StoreRepresents, IsUnderWay, MergePlan}
use Rattle.store_model.specs.{flushed_store}
use Rattle.manifest.specs.declared.LogLine.{LogLine}
use Rattle.manifest.specs.declared.TableLine.{TableLine}
use Rattle.manifest.specs.{Change, EditsKeepVersions, HeldVersionIsLeft, HeldVersionStays}
use Rattle.manifest.specs.{IsSlotFile, ManifestHolds, ManifestRepresents, NodeVersion, SlotsAreLeft}
use Rattle.manifest.specs.{StoreVersion, changed, node_version_after}
use Rattle.batch_logs.specs.declared.batch_logs.BatchLogs.{BatchLogs}
use Rattle.store_tables.specs.declared.levels.OpenTable.{OpenTable}
use Rattle.store_files.specs.declared.store_files.StoreFiles.{StoreFiles}
use Rattle.batch_logs.specs.BatchLogs.{LogsHold, lines_of, next_number, with_line}
use Rattle.store_tables.specs.LevelTables.{AreServed, AreTablesOf, IsServed, with_flushed}
use Rattle.store_files.specs.OpenFiles.{AreUsableFiles, FilesHold, batch_count, known_facts}
use Rattle.store_files.specs.OpenFiles.{known_store, known_version, trimmed_count}
use Rattle.store_files.specs.StoreFiles.{FilesRepresent, flush_change, store_of_version}
use Rattle.store_files.specs.Tending.{HeldAndSpilled, IsNextTable}
use Rattle.store_files.proofs.BegunFiles.{absent_ends}
use Rattle.store_files.proofs.FlushedTables.{all_flushed, flushed_edited, flushed_read}
use Rattle.store_files.proofs.KeptFiles.{one_served_in, served_in}
use Rattle.store_files.proofs.KeptNames.{some_is_given}
use Rattle.store_files.proofs.NamedFiles.{table_same}
use Rattle.store_files.proofs.NamedHolds.{NamedHold, log_given, log_no_slot, named_in, named_left}
use Rattle.store_files.proofs.NamedHolds.{table_given, table_no_slot}
use Rattle.store_files.proofs.FlushVersions.{IsFlushOf, after_is, count_kept, free_above, known}
use Rattle.store_files.proofs.FlushVersions.{lines_begun, newest_is, tables_are, trimmed_kept}
use Rattle.store_files.proofs.Plans.{ends_in}

module _ {files : StoreFiles} {line : TableLine} {file : ℕ} {edit : Change}
    (so : IsFlushOf files line file edit)
  where
    abbrev u : AreUsableFiles files
    u = so.usable

    abbrev next : IsNextTable files line
    next = so.next

    abbrev at : file ≡ files.free_file + 1
    at = so.at

    abbrev version : StoreVersion
    version = (known_version files).version

    abbrev free : ℕ
    free = files.free_file

    abbrev after : StoreVersion
    after = changed version (flush_change version free (batch_count files) line)

    -- ---- the moments of an installation

    module _ (s1 : State) (list : List BatchContent) (one : OpenTable)
        (hs : HeldAndSpilled s1 files list (record { line = line; table = one })) where
      abbrev s0 : State
      s0 = hs.before

      abbrev trimmed : ℕ
      trimmed = trimmed_count files

      abbrev tables : List LevelTable
      tables = hs.held.known.tables

      abbrev table : LevelTable
      table = hs.spilled.written.table

      abbrev OfStore : Contents → Type 0
      OfStore = FilesRepresent (known_facts files) list

      -- a slot has a lesser number than the new files
      slot_less : (slot : ℕ) → IsSlotFile slot → slot < free
      slot_less slot is =
          let above = free_above so in
          let least = some_is_given version u.version version.logs u.version.lawful.some
          u.version.lines.log_files in
          elim is [
            | inl one ↦ omega (arith, one, least, above)
            | inr two ↦ omega (arith, two, least, above)
          ]

      log_less : (old : LogLine) → Contains version.logs old → old.file < free
      log_less old has =
          let given = log_given version u.version old has in
          let above = free_above so in
          omega (arith, given.1, above)

      table_less : (old : TableLine) → Contains version.tables old → old.file < free
      table_less old has =
          let given = table_given version u.version old has in
          let above = free_above so in
          omega (arith, given.1, above)

      pub spilled_named : NamedHold s1 version files.logs trimmed tables list
      spilled_named = named_in s0 version files.logs trimmed tables list (record {
        lines = u.lines;
        held = hs.held.known.logs;
        read = hs.held.known.read;
        durable = hs.held.known.durable;
        store = hs.held.known.store;
        each = hs.held.known.each;
        few = let few = u.numbers.few in let count = hs.held.known.count in
            omega (arith, few, count);
      }) s1
          (λ old has. hs.spilled.spares old.file
          (λ same. let lt = log_less old has in omega (arith, same, lt)))
          (λ old has. hs.spilled.spares old.file
          (λ same. let lt = table_less old has in omega (arith, same, lt)))

      pub spilled_manifest : HeldVersionStays
          → ManifestHolds s1 files.manifest (known_version files)
      spilled_manifest stays = stays s0 s1 files.manifest
          (known_version files) hs.held.known.manifest
          (λ slot is. hs.spilled.spares slot
          (λ same. let lt = slot_less slot is in omega (arith, same, lt)))

      -- a crash that leaves what it might of all files but that of the new log leaves the list
      left_begun : DurableFileIsLeft → HeldVersionIsLeft → HeldVersionStays → (left : Contents)
          → ((other : ℕ) → other ≢ file → IsFileOutcome (s1 other) (left other))
          → OfStore left
      left_begun law held stays left leaves =
          named_left s1 version files.logs trimmed tables list spilled_named law
          (known_version files).id left
          (held s1 files.manifest (known_version files) left (spilled_manifest stays)
          (λ slot is. leaves slot (λ same. let lt = slot_less slot is in
          omega (arith, same, lt, at))))
          (λ old has. leaves old.file
          (λ same. let lt = log_less old has in omega (arith, same, lt, at)))
          (λ old has. leaves old.file
          (λ same. let lt = table_less old has in omega (arith, same, lt, at)))

      -- before the first call
      pub none_begun : DurableFileIsLeft → HeldVersionIsLeft → HeldVersionStays
          → (past : List State) → LeavesSince s1 past s1 past OfStore
      none_begun law held stays past =
          none_yet OfStore s1 past (λ left leaves. left_begun law held stays left
          (λ other apart. leaves other))

      -- while the log is begun
      pub log_begins : DurableFileIsLeft → HeldVersionIsLeft → HeldVersionStays
          → (past since : List State) (s2 : State)
          → LeavesSince s1 past s2 since (IsLeftAt s1 file (λ left. Unit {0}))
          → LeavesSince s1 past s2 since OfStore
      log_begins law held stays past since s2 run =
          weaker (IsLeftAt s1 file (λ left. Unit {0})) OfStore s1 past s2 since
          (λ left at. left_begun law held stays left at.others) run

      -- the new file is absent before
      pub new_ends : EndsInRange (seen (s1 file))
      new_ends = absent_ends (seen (s1 file)) (subst (λ (slot : Slot). IsNone (seen slot))
          (sym (hs.spilled.spares file (λ same. omega (arith, same, at))))
          (hs.held.unused file (omega (arith, at))))

      -- ---- with the new log

      module _ (s2 : State) (spares : IsSameBut file s1 s2) (logs : BatchLogs)
          (lines : lines_of logs ≡ with_line files.logs file)
          (began : LogsHold s2 logs (suc trimmed) (drop trimmed list)) (keeps : FlushesKeep) where
        pub named_old : NamedHold s2 version files.logs trimmed tables list
        named_old = named_in s1 version files.logs trimmed tables list spilled_named s2
            (λ old has. spares old.file
            (λ same. let lt = log_less old has in omega (arith, same, lt, at)))
            (λ old has. spares old.file
            (λ same. let lt = table_less old has in omega (arith, same, lt, at)))

        pub manifest_begun : HeldVersionStays
            → ManifestHolds s2 files.manifest (known_version files)
        manifest_begun stays = stays s1 s2 files.manifest (known_version files)
            (spilled_manifest stays) (λ slot is. spares slot
            (λ same. let lt = slot_less slot is in omega (arith, same, lt, at)))

        is_flush : IsFlush list (known_store files tables) table
        is_flush = record {
          range = hs.spilled.written.range;
          level = hs.spilled.written.is.level ∙ hs.spilled.written.level;
          only = λ entry has. (hs.held.known.entries entry).0 ((hs.spilled.written.entries entry).0
              has);
          all = λ entry among.
              (hs.spilled.written.entries entry).1 ((hs.held.known.entries entry).1 among);
        }

        new_stays : s2 line.file ≡ s1 line.file
        new_stays = spares line.file (λ same. omega (arith, same, next.file, at))

        pub named_new : NamedHold s2 after logs trimmed (with_flushed tables table) list
        named_new =
            let back = sym (tables_are so) in
            let P : TableLine → Type 0 = λ old. IsDurable (s2 old.file) in
            let new_durable : IsDurable (s2 line.file) = subst IsDurable (sym new_stays)
            (subst (λ (file : ℕ). IsDurable (s1 file)) (sym next.file) hs.spilled.written.durable)
            in
            record {
              lines = lines ∙ lines_begun so;
              held = began;
              read = subst (λ (l : List TableLine).
                  AreTablesOf (contents s2) l (with_flushed tables table)) back
                  (flushed_read (contents s2) version.tables tables line table named_old.read
                  (table_same (contents s1) (contents s2) line table (ap seen new_stays)
                  hs.spilled.written.is));
              durable = subst (All P) back
                  (all_flushed P version.tables line named_old.durable new_durable);
              store = subst (λ (n : ℕ). StoreRepresents list (record {
                tables = with_flushed tables table;
                flushed = batch_count files;
                floor = version.floor;
                kept = trimmed;
                current = n;
              })) (sym (newest_is so)) (subst (λ (n : ℕ).
                  StoreRepresents list (record {
                    tables = with_flushed tables table;
                    flushed = n;
                    floor = version.floor;
                    kept = trimmed;
                    current = n;
                  })) (sym hs.held.known.count) (keeps list (known_store files tables) table
                  (with_flushed tables table) hs.held.known.store is_flush (flushed_edited table
                  tables)));
              each = hs.held.known.each;
              few = named_old.few;
            }

        -- while the log is begun and the edit is recorded
        pub edit_is_recorded : DurableFileIsLeft → HeldVersionIsLeft → HeldVersionStays
            → EditsKeepVersions → (past so_far since : List State) (s3 : State)
            → LeavesSince s1 past s2 so_far (IsLeftAt s1 file (λ left. Unit {0}))
            → LeavesSince s2 so_far s3 since (SlotsAreLeft s2
            (λ left. ManifestRepresents (known_version files) left
            ⊎ ManifestRepresents (node_version_after (known_version files) edit) left))
            → LeavesSince s1 past s3 since OfStore
        edit_is_recorded law held stays versions past so_far since s3 begins run =
            join OfStore s1 s2 s3 past so_far since
            (log_begins law held stays past so_far s2 begins)
            (weaker (SlotsAreLeft s2 (λ left. ManifestRepresents (known_version files) left
            ⊎ ManifestRepresents (node_version_after (known_version files) edit) left)) OfStore
            s2 so_far s3 since (λ left at. elim at.here as (λ _. OfStore left) [
              | inl old ↦ named_left s2 version files.logs trimmed tables list named_old law
                  (known_version files).id left old
                  (λ one has. at.others one.file (log_no_slot version u.version one has))
                  (λ one has. at.others one.file (table_no_slot version u.version one has))
              | inr new ↦ named_left s2 after logs trimmed
                  (with_flushed tables table) list named_new
                  law (known_version files).id left
                  (subst (λ (e : Change). ManifestRepresents
                  (node_version_after (known_version files) e) left) so.is new)
                  (λ one has. at.others one.file (log_no_slot after (after_is so versions) one has))
                  (λ one has. at.others one.file
                  (table_no_slot after (after_is so versions) one has))
            ]) run)

        -- ---- with the new version

        module _ (s3 : State) (slot : ℕ) (is_slot : IsSlotFile slot) (same : IsSameBut slot s2 s3)
          where
            pub stays_behind : (file : ℕ) → free ≤ file → s3 file ≡ s2 file
            stays_behind file above = same file
                (λ is. let lt = slot_less slot is_slot in omega (arith, is, lt, above))

            old_table_stays : (old : TableLine) → Contains version.tables old
                → s3 old.file ≡ s0 old.file
            old_table_stays old has =
                let lt = table_less old has in
                same old.file (λ is. table_no_slot version u.version old has
                (subst IsSlotFile (sym is) is_slot))
                ∙ spares old.file (λ is. omega (arith, is, lt, at))
                ∙ hs.spilled.spares old.file (λ is. omega (arith, is, lt))

            -- the old tables are still served, and so is the new one
            pub old_served : AreServed s3 files.tables tables
            old_served = served_in s0 s3 version.tables files.tables.tables.items tables
                old_table_stays hs.held.known.read hs.held.known.served

            pub new_served : IsServed s3 one table
            new_served = one_served_in s1 s3 line one table
                (stays_behind line.file (omega (arith, next.file)) ∙ new_stays)
                hs.spilled.written.is hs.spilled.served

            pub named_last : EditsKeepVersions
                → NamedHold s3 after logs trimmed (with_flushed tables table) list
            named_last versions =
                named_in s2 after logs trimmed (with_flushed tables table) list named_new s3
                (λ one has. same one.file (λ is. log_no_slot after (after_is so versions) one has
                (subst IsSlotFile (sym is) is_slot)))
                (λ one has. same one.file (λ is. table_no_slot after (after_is so versions) one has
                (subst IsSlotFile (sym is) is_slot)))

            -- the open files after the flush hold the list
            abbrev pub installed_holds : EditsKeepVersions → (new : StoreFiles) → new.logs ≡ logs
                → known_version new ≡ node_version_after (known_version files) edit
                → next_number new.logs ≡ next_number files.logs → AreUsableFiles new
                → ManifestHolds s3 new.manifest (node_version_after (known_version files) edit)
                → AreServed s3 new.tables (with_flushed tables table)
                → ((entry : Entry) → TableHolds new.memtable entry → ⊥) → FilesHold s3 new list
            installed_holds versions new of told counts usable manifest served empty =
                let lines_new = ap lines_of of ∙ lines in
                let now = known so new told lines_new in
                let back = sym now in
                let cut = sym (trimmed_kept so new told
                lines_new) in
                let last = named_last versions in
                let count = count_kept so new told lines_new
                counts in
                let was = hs.held.known.count in
                let flushed : (known_version new).version.flushed ≡ batch_count files =
                ap (λ (n : NodeVersion). n.version.flushed) now in
                let next_file : (known_version new).version.next_file ≡ free + 2 =
                ap (λ (n : NodeVersion). n.version.next_file) now in
                let first = usable.free in
                let held = subst (λ (l : BatchLogs).
                LogsHold s3 l (suc trimmed) (drop trimmed list))
                (sym of) last.held in
                let P : TableLine → Type 0 = λ old. IsDurable (s3 old.file) in
                record {
                  known = record {
                    usable = usable;
                    manifest = subst (ManifestHolds s3 new.manifest) (sym told) manifest;
                    logs = subst (λ (k : ℕ). LogsHold s3 new.logs (suc k) (drop k list)) cut held;
                    tables = with_flushed tables table;
                    read = subst (λ (n : NodeVersion).
                        AreTablesOf (contents s3) n.version.tables (with_flushed tables table)) back
                        last.read;
                    served = served;
                    durable = subst (λ (n : NodeVersion). All P n.version.tables) back last.durable;
                    store = subst (λ (n : NodeVersion). StoreRepresents list
                        (store_of_version n.version (trimmed_count new)
                        (with_flushed tables table)))
                        back
                        (subst (λ (k : ℕ). StoreRepresents list
                        (store_of_version after k (with_flushed tables table))) cut last.store);
                    entries = λ entry. (
                      λ holds. absurd (empty entry holds),
                      λ among.
                          let lt = among.1 in
                          let le = entry_within list entry among.2 in
                          absurd (omega (arith, lt, le, flushed, was)),
                    );
                    count = count ∙ was;
                    each = hs.held.known.each;
                  };
                  unused = λ other above.
                      subst (λ (s : Slot). IsNone (seen s)) (sym (stays_behind other
                      (omega (arith, above, first, next_file))
                      ∙ spares other (λ is. omega (arith, is, above, first, next_file, at))
                      ∙ hs.spilled.spares other (λ is. omega (arith, is, above, first, next_file))))
                      (hs.held.unused other (omega (arith, above, first, next_file)));
                }

            -- and a merge can end as before
            pub ends_behind : FlushesLeaveMerges → (new : StoreFiles)
                → known_version new ≡ node_version_after (known_version files) edit
                → (plan : MergePlan) → IsUnderWay (known_store files tables) plan
                → IsUnderWay (known_store new (with_flushed tables table)) plan
            ends_behind leaves new told plan can_end =
                let version_is : (known_version new).version ≡ changed version edit =
                ap (λ (n : NodeVersion). n.version) told in
                let flushed : (known_version new).version.flushed ≡ batch_count files =
                ap (λ (v : StoreVersion). v.flushed) version_is
                ∙ ap (λ (e : Change). (changed version e).flushed) so.is in
                let was = hs.held.known.count in
                ends_in (flushed_store list (known_store files tables) (with_flushed tables table))
                (known_store new (with_flushed tables table)) plan (omega (arith, flushed, was))
                refl (leaves list (known_store files tables) table (with_flushed tables table) plan
                hs.held.known.store is_flush (flushed_edited table tables) can_end)
