-- A flush that is installed on a disk with damaged blocks of tables.
use Rattle.std.proofs.Common.{◌≡◌, ◌≢◌, ◌⊎◌, ◌≤◌, ◌<◌, ◌+◌, ◌∙◌, ℕ, List, ap, arith, drop, inl, inr}
use Rattle.std.proofs.Common.{subst, suc, sym}
use Rattle.std.specs.Prelude.{All, Contains}
use Rattle.std.proofs.lemmas.List.Elements.{All-contains, All-contains_itself, All-push, All-weaker}
use Rattle.kv_types.specs.{BatchContent, Entry}
use Rattle.disk.specs.{Contents, DurableFileIsLeft, IsDurable, IsFileOutcome, IsLeftAt, IsSameBut}
use Rattle.disk.specs.{LeavesSince, Slot, State, seen}
use Rattle.disk.specs.MomentsLemmas.{join, none_yet, weaker}
use Rattle.memtable.specs.{TableHolds}
use Rattle.record_log.specs.{EndsInRange}
use Rattle.store_model.specs.Claims.{FlushesKeep, FlushesLeaveMerges}
use Rattle.store_model.specs.{LevelTable}
use Rattle.manifest.specs.declared.LogLine.{LogLine}
use Rattle.manifest.specs.declared.TableLine.{TableLine}
use Rattle.manifest.specs.{Change, EditsKeepVersions, HeldVersionIsLeft, HeldVersionStays}
use Rattle.manifest.specs.{IsSlotFile, ManifestHolds, ManifestRepresents, NodeVersion, SlotsAreLeft}
use Rattle.manifest.specs.{StoreVersion, changed, node_version_after}
use Rattle.batch_logs.specs.declared.batch_logs.BatchLogs.{BatchLogs}
use Rattle.store_tables.specs.declared.levels.OpenTable.{OpenTable}
use Rattle.store_files.specs.declared.store_files.StoreFiles.{StoreFiles}
use Rattle.batch_logs.specs.BatchLogs.{LogsHold, lines_of, next_number, with_line}
use Rattle.store_tables.specs.LevelTablesLemmas.{open_as_itself}
use Rattle.store_tables.specs.LevelTables.{IsOpenAsMeant, IsTableAsMeant, WasServed, WereServed}
use Rattle.store_tables.specs.LevelTables.{with_flushed}
use Rattle.store_files.specs.OpenFiles.{AreUsableFiles, IsAsMeant, batch_count, known_facts}
use Rattle.store_files.specs.OpenFiles.{known_version, trimmed_count, known_store}
use Rattle.store_files.specs.StoreFiles.{WereMeant, flush_change}
use Rattle.store_files.specs.Tending.{HeldAndSpilled, IsNextTable, MeantAndSpilled}
use Rattle.store_files.proofs.FlushedTables.{all_flushed}
use Rattle.store_files.proofs.Installed.{installed_holds, manifest_begun, named_new, named_old}
use Rattle.store_files.proofs.Installed.{new_ends, new_served, old_served, spilled_manifest}
use Rattle.store_files.proofs.Installed.{spilled_named, ends_behind}
use Rattle.store_files.proofs.FlushVersions.{IsFlushOf, after_is, free_above, known, tables_are}
use Rattle.store_files.proofs.NamedHolds.{NamedHold, log_no_slot, table_no_slot}
use Rattle.store_files.proofs.KeptNames.{kept_is_given, slot_is_kept, table_is_kept}
use Rattle.store_files.proofs.KeptFiles.{named_logs_in, one_served_in}
use Rattle.store_files.proofs.Meant.{blocks_stay, zip_was}
use Rattle.store_files.proofs.MeantFiles.{TablesAsMeant, follow_but, named_were_left}
use Rattle.store_files.proofs.MeantFiles.{still_as_meant, tables_of_meant, unnamed_beside}
use Rattle.store_files.proofs.MeantFiles.{unnamed_is_left}
use Rattle.store_files.proofs.MeantOpenings.{log_beside, mended, mended_at, mended_beside}
use Rattle.store_files.proofs.MeantOpenings.{slot_beside, zip_blocks, zip_serves}
use Rattle.store_files.proofs.MeantTends.{MeantLater}
use Rattle.store_files.proofs.FlushedLines.{all_before, written_in}

module _ {files : StoreFiles} {line : TableLine} {file : ℕ} {edit : Change}
    (so : IsFlushOf files line file edit)
    (s1 : State) (list : List BatchContent) (one : OpenTable)
    (ms : MeantAndSpilled s1 files list (record { line = line; table = one })) where
  abbrev u : AreUsableFiles files
  u = so.usable

  abbrev next : IsNextTable files line
  next = so.next

  abbrev at : file ≡ files.free_file + 1
  at = so.at

  abbrev version : StoreVersion
  version = (known_version files).version

  abbrev free : ℕ
  free = files.free_file

  -- no file that was given is free
  above : version.next_file ≤ free
  above = free_above so

  abbrev after : StoreVersion
  after = changed version (flush_change version free (batch_count files) line)

  abbrev s0 : State
  s0 = ms.before

  abbrev m0 : State
  m0 = ms.meant.meant

  abbrev pub m1 : State
  m1 = mended version.tables m0 s1

  abbrev trimmed : ℕ
  trimmed = trimmed_count files

  abbrev tables : List LevelTable
  tables = ms.meant.hold.known.tables

  abbrev table : LevelTable
  table = ms.spilled.written.table

  abbrev Meant : Contents → Type 0
  Meant = WereMeant (known_facts files) list

  -- a file that is free is no table's
  new_beside : (other : ℕ) → free ≤ other → All (λ line. line.file ≢ other) version.tables
  new_beside other least =
      let first = above in
      unnamed_beside version u.version other (omega (arith, first, least))

  table_less : (old : TableLine) → Contains version.tables old → old.file < free
  table_less old has =
      let first = above in
      let lt = kept_is_given version u.version old.file (table_is_kept version old has) in
      omega (arith, lt, first)

  t0 : TablesAsMeant s0 m0 version.tables
  t0 = tables_of_meant s0 m0 version files.tables ms.meant.disk_is

  t1 : TablesAsMeant s1 m1 version.tables
  t1 = still_as_meant s0 m0 version.tables t0 s1 (λ old has. ms.spilled.spares old.file
      (λ same. let lt = table_less old has in omega (arith, same, lt)))

  line_stays : m1 line.file ≡ s1 line.file
  line_stays = mended_beside version.tables m0 s1 line.file
      (new_beside line.file (omega (arith, next.file)))

  -- what was meant held the list, and then its entries were spilled
  abbrev meant_spilled : HeldAndSpilled m1 files list (record { line = line; table = one })
  meant_spilled = record {
    before = m0;
    held = ms.meant.hold;
    spilled = record {
      spares = follow_but s0 m0 version.tables t0 s1 free ms.spilled.spares;
      written = written_in s1 m1 files line ms.spilled.written line_stays;
      served = one_served_in s1 m1 line one table line_stays ms.spilled.written.is
          ms.spilled.served;
    };
  }

  -- the logs and the new log's file are on the disk as they were meant
  pub meant_ends : EndsInRange (seen (s1 file))
  meant_ends = subst (λ (s : Slot). EndsInRange (seen s))
      (mended_beside version.tables m0 s1 file (new_beside file (omega (arith, at))))
      (new_ends so m1 list one meant_spilled)

  spilled_is : NamedHold m1 version files.logs trimmed tables list
  spilled_is = spilled_named so m1 list one meant_spilled

  pub meant_logs : LogsHold s1 files.logs (suc trimmed) (drop trimmed list)
  meant_logs = named_logs_in m1 s1 files.logs (suc trimmed) (drop trimmed list)
      (λ old has. sym (mended_beside version.tables m0 s1 old.file
      (log_beside version u.version old
      (subst (λ (l : List LogLine). Contains l old) u.lines has))))
      spilled_is.held

  module _ (law : DurableFileIsLeft) (held : HeldVersionIsLeft) (stays : HeldVersionStays) where
    left_begun : (left : Contents)
        → ((other : ℕ) → other ≢ file → IsFileOutcome (s1 other) (left other)) → Meant left
    left_begun left leaves =
        unnamed_is_left s1 m1 version u.version files.logs trimmed tables list spilled_is t1
        files.manifest (known_version files).id
        (spilled_manifest so m1 list one meant_spilled stays)
        stays law held file (let first = above in omega (arith, first, at)) left leaves

    -- before the first call
    pub none_were : (past : List State) → LeavesSince s1 past s1 past Meant
    none_were past =
        none_yet Meant s1 past (λ left leaves. left_begun left (λ other apart. leaves other))

    -- while the log is begun
    pub log_was_begun : (past since : List State) (s2 : State)
        → LeavesSince s1 past s2 since (IsLeftAt s1 file (λ left. Unit {0}))
        → LeavesSince s1 past s2 since Meant
    log_was_begun past since s2 run =
        weaker (IsLeftAt s1 file (λ left. Unit {0})) Meant s1 past s2 since
        (λ left at. left_begun left at.others) run

  -- ---- with the new log

  module _ (s2 : State) (spares : IsSameBut file s1 s2) (logs : BatchLogs)
      (lines : lines_of logs ≡ with_line files.logs file)
      (began : LogsHold s2 logs (suc trimmed) (drop trimmed list)) (keeps : FlushesKeep) where
    abbrev pub m2 : State
    m2 = mended version.tables m1 s2

    t2 : TablesAsMeant s2 m2 version.tables
    t2 = still_as_meant s1 m1 version.tables t1 s2 (λ old has. spares old.file
        (λ same. let lt = table_less old has in omega (arith, same, lt, at)))

    pub spares_meant : IsSameBut file m1 m2
    spares_meant = follow_but s1 m1 version.tables t1 s2 file spares

    log_is_beside : (old : LogLine) → Contains (lines_of logs) old
        → All (λ one. one.file ≢ old.file) version.tables
    log_is_beside old has =
        let P : LogLine → Type 0 = λ log. All (λ (t : TableLine). t.file ≢ log.file)
        version.tables in
        All-contains P (lines_of logs) old (subst (All P) (sym lines)
        (All-push P (lines_of files.logs) (record { file = file; first = next_number files.logs })
        (All-weaker (Contains (lines_of files.logs)) P
        (λ log there. log_beside version u.version log
        (subst (λ (l : List LogLine). Contains l log) u.lines there)) (lines_of files.logs)
        (All-contains_itself (lines_of files.logs)))
        (new_beside file (omega (arith, at))))) has

    pub began_meant : LogsHold m2 logs (suc trimmed) (drop trimmed list)
    began_meant = named_logs_in s2 m2 logs (suc trimmed) (drop trimmed list)
        (λ old has. mended_beside version.tables m1 s2 old.file (log_is_beside old has)) began

    pub manifest_was_begun : HeldVersionStays
        → ManifestHolds s2 files.manifest (known_version files)
    manifest_was_begun stays = stays m2 s2 files.manifest (known_version files)
        (manifest_begun so m1 list one meant_spilled m2
        spares_meant logs lines began_meant keeps stays)
        (λ slot one. sym (mended_beside version.tables m1 s2 slot
        (slot_beside version u.version slot one)))

    old_is : NamedHold m2 version files.logs trimmed tables list
    old_is = named_old so m1 list one meant_spilled m2
        spares_meant logs lines began_meant keeps

    new_is : NamedHold m2 after logs trimmed (with_flushed tables table) list
    new_is = named_new so m1 list one meant_spilled m2
        spares_meant logs lines began_meant keeps

    -- the tables of the new version are as they were meant too
    abbrev with_new : (new later : State) → TablesAsMeant new later version.tables
        → new line.file ≡ later line.file → IsDurable (new line.file)
        → TablesAsMeant new later after.tables
    with_new new later t same sure =
        let back = sym (tables_are so) in
        record {
          others = λ other beside. t.others other
              (all_before (λ (old : TableLine). old.file ≢ other) version.tables line
              (subst (All (λ (old : TableLine). old.file ≢ other)) (sym back) beside));
          tables =
              let P : TableLine → Type 0 = λ old. IsTableAsMeant (new old.file) (later old.file) in
              subst (All P) back (all_flushed P version.tables line t.tables (inl same));
          durable = subst (All (λ (old : TableLine). IsDurable (new old.file))) back
              (all_flushed (λ (old : TableLine). IsDurable (new old.file)) version.tables line
              t.durable sure);
        }

    line_kept : s2 line.file ≡ s1 line.file
    line_kept = spares line.file (λ same. omega (arith, same, next.file, at))

    line_is_durable : IsDurable (s2 line.file)
    line_is_durable = subst IsDurable (sym line_kept)
        (subst (λ (f : ℕ). IsDurable (s1 f)) (sym next.file) ms.spilled.written.durable)

    line_same : s2 line.file ≡ m2 line.file
    line_same = sym (mended_beside version.tables m1 s2 line.file
        (new_beside line.file (omega (arith, next.file))))

    -- while the log is begun and the edit is recorded
    pub edit_was_recorded : DurableFileIsLeft → HeldVersionIsLeft → HeldVersionStays
        → EditsKeepVersions → (past so_far since : List State) (s3 : State)
        → LeavesSince s1 past s2 so_far (IsLeftAt s1 file (λ left. Unit {0}))
        → LeavesSince s2 so_far s3 since (SlotsAreLeft s2
        (λ left. ManifestRepresents (known_version files) left
        ⊎ ManifestRepresents (node_version_after (known_version files) edit) left))
        → LeavesSince s1 past s3 since Meant
    edit_was_recorded law held stays versions past so_far since s3 begins run =
        let after_lawful = after_is so versions in
        join Meant s1 s2 s3 past so_far since
        (log_was_begun law held stays past so_far s2 begins)
        (weaker (SlotsAreLeft s2 (λ left. ManifestRepresents (known_version files) left
        ⊎ ManifestRepresents (node_version_after (known_version files) edit) left)) Meant
        s2 so_far s3 since (λ left it. elim it.here as (λ _. Meant left) [
          | inl old ↦ named_were_left s2 m2 version u.version files.logs trimmed tables list old_is
              t2 law (known_version files).id left old
              (λ log has. it.others log.file (log_no_slot version u.version log has))
              (λ log has. it.others log.file (table_no_slot version u.version log has))
          | inr new ↦ named_were_left s2 m2 after after_lawful logs trimmed
              (with_flushed tables table) list new_is
              (with_new s2 m2 t2 line_same line_is_durable) law (known_version files).id left
              (subst (λ (e : Change). ManifestRepresents
              (node_version_after (known_version files) e) left) so.is new)
              (λ log has. it.others log.file (log_no_slot after after_lawful log has))
              (λ log has. it.others log.file (table_no_slot after after_lawful log has))
        ]) run)

    -- ---- with the new version

    module _ (s3 : State) (slot : ℕ) (is_slot : IsSlotFile slot) (same : IsSameBut slot s2 s3)
      where
        abbrev pub m3 : State
        m3 = mended version.tables m2 s3

        slot_spares : (old : TableLine) → Contains version.tables old → s3 old.file ≡ s2 old.file
        slot_spares old has = same old.file (λ at. table_no_slot version u.version old has
            (subst IsSlotFile (sym at) is_slot))

        t3 : TablesAsMeant s3 m3 version.tables
        t3 = still_as_meant s2 m2 version.tables t2 s3 slot_spares

        same_meant : IsSameBut slot m2 m3
        same_meant = follow_but s2 m2 version.tables t2 s3 slot same

        line_now : s3 line.file ≡ m3 line.file
        line_now = sym (mended_beside version.tables m2 s3 line.file
            (new_beside line.file (omega (arith, next.file))))

        line_last : s3 line.file ≡ s2 line.file
        line_last = same line.file (λ here.
            let lt = kept_is_given version u.version slot (slot_is_kept version slot is_slot) in
            let first = above in
            omega (arith, here, lt, first, next.file))

        -- the tables that are open then were meant to be served
        pub all_served : WereServed s3 m3 files.tables tables × WasServed s3 m3 one table
        all_served = (
          zip_was s3 m3 files.tables.tables.items tables
              (old_served so m1 list one meant_spilled m2
              spares_meant logs lines began_meant keeps m3 slot is_slot same_meant)
              (blocks_stay s0 s3 m0 m3 version.tables files.tables.tables.items tables
              (λ old has. slot_spares old has
              ∙ spares old.file (λ same. let lt = table_less old has in omega (arith, same, lt, at))
              ∙ ms.spilled.spares old.file
              (λ same. let lt = table_less old has in omega (arith, same, lt)))
              (λ old has. mended_at version.tables m2 s3 old has
              ∙ mended_at version.tables m1 s2 old has ∙ mended_at version.tables m0 s1 old has)
              ms.meant.hold.known.read ms.meant.hold.known.served ms.meant.disk_is.blocks),
          record {
            serves = new_served so m1 list one meant_spilled
                m2 spares_meant logs lines began_meant keeps m3 slot is_slot same_meant;
            blocks = subst (λ (f : ℕ). IsOpenAsMeant (s3 f) (m3 f) one.table)
                (sym ms.spilled.written.is.file ∙ ms.spilled.served.file)
                (subst (λ (s : Slot). IsOpenAsMeant (s3 line.file) s one.table) line_now
                (open_as_itself (s3 line.file) one.table));
          },
        )

        -- the open files after the flush were meant to hold the list, and a merge can end as before
        pub installed_as_meant : FlushesLeaveMerges → EditsKeepVersions → HeldVersionStays
            → (new : StoreFiles)
            → new.logs ≡ logs
            → known_version new ≡ node_version_after (known_version files) edit
            → next_number new.logs ≡ next_number files.logs → AreUsableFiles new
            → ManifestHolds s3 new.manifest (node_version_after (known_version files) edit)
            → WereServed s3 m3 new.tables (with_flushed tables table)
            → ((entry : Entry) → TableHolds new.memtable entry → ⊥)
            → MeantLater (known_store files tables) s3 new list
        installed_as_meant leaves versions stays new of told counts usable manifest served empty =
            let now = known so new told
            (ap lines_of of ∙ lines) in
            let all = with_new s3 m3 t3 line_now
            (subst IsDurable (sym line_last) line_is_durable) in (
              record {
                meant = m3;
                hold = installed_holds so m1 list one
                    meant_spilled m2 spares_meant logs lines began_meant keeps m3 slot is_slot
                    same_meant versions new of told counts usable
                    (stays s3 m3 new.manifest (node_version_after (known_version files) edit)
                    manifest
                    (λ one is_one. mended_beside version.tables m2 s3 one
                    (slot_beside version u.version one is_one)))
                    (zip_serves s3 m3 new.tables.tables.items (with_flushed tables table) served)
                    empty;
                disk_is = subst (λ (n : NodeVersion). IsAsMeant s3 m3 n.version new.tables)
                    (sym now)
                    (record {
                      others = all.others;
                      tables = all.tables;
                      blocks = zip_blocks s3 m3 new.tables.tables.items (with_flushed tables table)
                          served;
                      durable = all.durable;
                    });
              },
              ends_behind so m1 list one meant_spilled m2 spares_meant logs lines began_meant keeps
                  m3 slot is_slot same_meant leaves new told,
            )
