-- A merge that could end before a flush is installed can end behind it.
use Rattle.std.proofs.Common.{◌+◌, ◌-◌, ap, arith, drop, refl, subst, suc, sym, ◌∙◌}
use Rattle.kv_types.specs.{Entry}
use Rattle.manifest.specs.declared.TableLine.{TableLine}
use Rattle.manifest.specs.{IsFit, NodeVersion}
use Rattle.memtable.specs.declared.Memtable.{Memtable}
use Rattle.memtable.specs.{HasFailedAdd, TableHolds}
use Rattle.sorted_table.specs.{table_file}
use Rattle.store_files.specs.declared.store_files.StoreFiles.{StoreFiles}
use Rattle.store_tables.specs.declared.error.EngineError.TheVariants as engine
use Rattle.store_tables.specs.LevelTablesLemmas.{open_as_itself}
use Rattle.store_tables.specs.LevelTables.{table_lines, with_flushed, with_flushed_line}
use Rattle.store_files.specs.OpenFiles.{known_version, trimmed_count}
use Rattle.store_files.proofs.FlushVersions.{edit_is, flush_by, installed_usable, known}
use Rattle.store_files.proofs.Installed.{installed_holds, manifest_begun, new_ends, new_served}
use Rattle.store_files.proofs.Installed.{old_served, spilled_named, ends_behind}
use Rattle.store_files.proofs.Meant.{own_blocks, zip_was}
use Rattle.store_files.proofs.MeantInstalls.{all_served, installed_as_meant, m3, manifest_was_begun}
use Rattle.store_files.proofs.MeantInstalls.{meant_ends, meant_logs}
use Rattle.store_files.proofs.MeantOpenings.{zip_serves}
use Rattle.store_files.proofs.store_files.StoreFiles.install.Goals as goal

-- a merge can end as before
pub ends_as_before : goal.returns-clause-plans
ends_as_before g c =
    let files = c.args.self.now in
    let line = c.args.made.line in
    let so = flush_by files line c.in_ok-edit.edit c.requires.usable c.requires.place
    c.requires.next.next
    (edit_is files line c.state.result.now c.last_number-count.result c.in_ok-edit.edit
    c.state.ensures c.last_number-count.ensures c.in_ok-edit.ensures.edit) in
    let begun = c.in_ok-begin.ensures.told in
    let fit = c.in_ok-edit.ensures.fit in
    let fits = subst (λ (n : NodeVersion). IsFit n.version c.in_ok-edit.edit) c.state.ensures
    fit.0 in
    let law = c.durable_file_is_left.ensures in
    let left = c.held_versions_are_left.ensures.left in
    let stays = c.held_versions_are_left.ensures.same in
    let keeps = c.flushes_keep.ensures.list in
    let edits = c.edits_keep_versions.ensures in
    let s1 = g.D.Disk.state c.args.disk.now in
    let s2 = g.D.Disk.state c.begin.new.disk in
    let s3 = g.D.Disk.state c.record.new.disk in
    let p1 = g.D.Disk.past c.args.disk.now in
    let p2 = g.D.Disk.past c.begin.new.disk in
    let p3 = g.D.Disk.past c.record.new.disk in
    let logs = c.begin.new.self in
    let table = c.args.made.table in
    let empty = subst (λ (m : Memtable). (entry : Entry) → TableHolds m entry → ⊥)
    (sym c.replace.ensures.after) c.new.ensures.empty in
    let new : StoreFiles = record {
      manifest = c.record.new.self;
      logs = logs;
      tables = c.add.new.self;
      memtable = c.replace.new.dest;
      free_file = files.free_file + 2;
    } in
    let usable = installed_usable so new c.in_default.ensures.told.0 begun.2 begun.1
    edits
    c.in_default.ensures.told.1 begun.0
    (c.in_ok-add.ensures.lines ∙ ap (λ (l : TableLine).
    with_flushed_line (table_lines files.tables) l) c.requires.next.opened)
    (subst (λ (m : Memtable). HasFailedAdd m → ⊥) (sym c.replace.ensures.after)
    c.new.ensures.works) empty refl in
    let leaves = c.flushes_keep.ensures.merge in
    record {
      free = omega arith;
      held = λ list plan honest it.
          let hs = it.spilled in
          let spares = c.begin.ensures.kept.files honest in
          let honest2 = c.begin.ensures.kept.honest.1 honest in
          let began = c.in_ok-begin.ensures.begun (suc (trimmed_count files))
          (drop (trimmed_count files) list) honest
          (new_ends so s1 list table hs) (spilled_named so s1 list table hs).held in
          let held =
          manifest_begun so s1 list table hs s2 spares logs begun.2 began keeps stays in
          let slot = (c.manifest_has_slots.ensures s2 files.manifest (known_version files) held).0
          in
          let same = c.record.ensures.changes.kept.files honest2 in
          record {
            held = installed_holds so s1 list c.args.made.table hs s2 spares logs
                begun.2 began keeps s3 _ slot
                same edits new refl c.in_default.ensures.told.0 begun.1 usable
                (c.in_default.ensures.changes.changed (known_version files) honest2 held)
                (zip_serves s3 s3 c.add.new.self.tables.items
                (with_flushed hs.held.known.tables hs.spilled.written.table)
                (c.in_ok-add.ensures.added s3 s3 hs.held.known.tables hs.spilled.written.table
                (zip_was s3 s3 files.tables.tables.items hs.held.known.tables
                (old_served so s1 list c.args.made.table hs s2 spares logs begun.2 began
                keeps s3 _ slot same)
                (own_blocks s3 files.tables.tables.items))
                (record {
                  serves = new_served so s1 list c.args.made.table hs s2 spares logs
                      begun.2 began keeps s3 _
                      slot same;
                  blocks = open_as_itself (s3 (table_file c.args.made.table.table))
                      c.args.made.table.table;
                }))) empty;
            can_end = ends_behind so s1 list c.args.made.table hs s2 spares logs begun.2 began
                keeps s3 _ slot same leaves new c.in_default.ensures.told.0 plan it.can_end;
          };
      meant = λ list plan honest it.
          let ms = it.spilled in
          let spares = c.begin.ensures.kept.files honest in
          let honest2 = c.begin.ensures.kept.honest.1 honest in
          let began = c.in_ok-begin.ensures.begun (suc (trimmed_count files))
          (drop (trimmed_count files) list) honest
          (meant_ends so s1 list table ms) (meant_logs so s1 list table ms) in
          let held =
          manifest_was_begun so s1 list table ms s2 spares logs begun.2 began keeps stays in
          let slot = (c.manifest_has_slots.ensures s2 files.manifest (known_version files) held).0
          in
          let same = c.record.ensures.changes.kept.files honest2 in
          let served = all_served so s1 list c.args.made.table ms s2 spares logs begun.2
          began keeps s3 _ slot
          same in
          let mended = m3 so s1 list c.args.made.table ms s2 spares logs begun.2 began
          keeps s3 _ slot same in
          let both = installed_as_meant so s1 list c.args.made.table ms s2 spares logs
          begun.2 began keeps s3 _
          slot same leaves edits stays new refl c.in_default.ensures.told.0 begun.1 usable
          (c.in_default.ensures.changes.changed (known_version files) honest2 held)
          (c.in_ok-add.ensures.added s3 mended ms.meant.hold.known.tables
          ms.spilled.written.table served.0 served.1) empty in
          record { was = both.0; can_end = both.1 plan it.can_end };
    }
