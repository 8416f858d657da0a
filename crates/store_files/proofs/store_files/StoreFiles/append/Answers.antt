use Rattle.std.proofs.lemmas.Grind.{common_steps}
use Rattle.std.proofs.Common.{◌<◌, suc, arith, drop, length, rules}
use Rattle.kv_types.specs.declared.bounds.TheConstants.{MAX_NUMBER}
use Rattle.store_files.specs.OpenFiles.{known_store, trimmed_count}
use Rattle.store_files.proofs.Appended.{appended_told, counts_told, none_appended}
use Rattle.store_files.proofs.Appended.{some_appended, trimmed_few}
use Rattle.store_files.proofs.Entries.{one_more_above}
use Rattle.store_files.proofs.FilesApart.{newest_positive}
use Rattle.store_files.proofs.Meant.{appended_as_meant, logs_are_held}
use Rattle.store_files.proofs.MeantMoments.{CrashLaws, none_meant, some_meant}
use Rattle.store_files.proofs.Records.{not_true}
use Rattle.store_files.proofs.Appended.{appended_with_plan}
use Rattle.store_files.proofs.Meant.{appended_meant_with_plan}
use Rattle.store_files.proofs.Plans.{refused_plans}
use Rattle.store_files.proofs.store_files.StoreFiles.append.Goals as goal

-- nothing was written
pub returns-in_err-add-clause-appended : goal.returns-in_err-add-clause-appended
returns-in_err-add-clause-appended g c = λ list honest h. record {
  list = search rules;
  any_moment = none_appended (g.D.Disk.state c.args.disk.now) c.args.self.now list h
      c.args.batch.now c.edits-edits.ensures.batch c.durable_file_is_left.ensures
      c.held_versions_are_left.ensures.left (g.D.Disk.past c.args.disk.now);
}

-- the next number is that of the logs
pub append-requires-clause-next : goal.append-requires-clause-next
append-requires-clause-next g c =
    let some = newest_positive c.args.self.now c.requires.usable in
    let next = c.requires.next in
    omega (arith, some, next)

-- one number more is counted where it was appended
pub returns-clause-counts : goal.returns-clause-counts
returns-clause-counts g c =
    counts_told c.args.self.now c.requires.usable c.append.new.self c.add.new.self c.args.batch.now
    c.args.number c.requires.next c.append.ensures.lines c.append.ensures.room
    (λ failed. not_true (c.in_ok-add.ensures.fails.0 failed)) c.in_ok-add.ensures.adds
    c.append.result c.append.ensures.counts

-- The batch is in the logs, and its entries are in the memtable. Whether it was appended or not, a
-- crash leaves what the logs may be left as.
pub returns-clause-appended : goal.returns-clause-appended
returns-clause-appended g c = λ list honest h.
    let files = c.args.self.now in
    let disk = g.D.Disk.state c.args.disk.now in
    let trimmed = trimmed_count files in
    let store = known_store files h.known.tables in
    let next = c.requires.next in
    let count = h.known.count in
    let some = newest_positive files c.requires.usable in
    let room : length list < MAX_NUMBER = omega (arith, c.append.ensures.room, some, count) in
    let entries = one_more_above files.memtable c.add.new.self list c.args.batch.now c.args.number
    store h.known.entries (omega (arith, next, count)) (trimmed_few disk files list h)
    h.known.store.flushed_count c.in_ok-add.ensures.adds in
    let logs = c.append.ensures.appended (suc trimmed) (drop trimmed list) honest h.known.logs in
    record {
      list = appended_told disk files list h c.args.batch.now c.edits-edits.ensures.batch
          (g.D.Disk.state c.append.new.disk) c.append.new.self c.add.new.self
          c.append.ensures.lines (c.append.ensures.kept.files honest) c.appends_keep.ensures
          c.held_versions_are_left.ensures.same entries _ c.append.result
          (counts_told files c.requires.usable c.append.new.self c.add.new.self
          c.args.batch.now c.args.number c.requires.next c.append.ensures.lines
          c.append.ensures.room (λ failed. not_true (c.in_ok-add.ensures.fails.0 failed))
          c.in_ok-add.ensures.adds c.append.result c.append.ensures.counts) logs.list;
      any_moment = some_appended disk files list h c.args.batch.now c.edits-edits.ensures.batch
          c.durable_file_is_left.ensures c.held_versions_are_left.ensures.left
          c.appends_keep.ensures room (g.D.Disk.past c.args.disk.now)
          (g.D.Disk.past c.append.new.disk) (g.D.Disk.state c.append.new.disk) logs.any_moment;
    }

-- and so where blocks of tables are damaged
pub returns-clause-meant : goal.returns-clause-meant
returns-clause-meant g c = λ list honest w.
    let h = w.hold in
    let files = c.args.self.now in
    let disk = g.D.Disk.state c.args.disk.now in
    let trimmed = trimmed_count files in
    let store = known_store files h.known.tables in
    let next = c.requires.next in
    let count = h.known.count in
    let entries = one_more_above files.memtable c.add.new.self list c.args.batch.now c.args.number
    store h.known.entries (omega (arith, next, count)) (trimmed_few w.meant files list h)
    h.known.store.flushed_count c.in_ok-add.ensures.adds in
    let some = newest_positive files c.requires.usable in
    let room : length list < MAX_NUMBER = omega (arith, c.append.ensures.room, some, count) in
    let laws : CrashLaws = record {
      durable = c.durable_file_is_left.ensures;
      version = c.held_versions_are_left.ensures.left;
      reads = c.reads_are_outcomes.ensures;
    } in
    let logs = c.append.ensures.appended (suc trimmed) (drop trimmed list) honest
    (logs_are_held disk files list w) in
    record {
      list = appended_as_meant disk files list w (g.D.Disk.state c.append.new.disk)
          (c.append.ensures.kept.files honest) c.args.batch.now c.edits-edits.ensures.batch
          c.append.new.self c.add.new.self c.append.ensures.lines c.appends_keep.ensures
          c.held_versions_are_left.ensures.same entries _ c.append.result
          (counts_told files c.requires.usable c.append.new.self c.add.new.self
          c.args.batch.now c.args.number c.requires.next c.append.ensures.lines
          c.append.ensures.room (λ failed. not_true (c.in_ok-add.ensures.fails.0 failed))
          c.in_ok-add.ensures.adds c.append.result c.append.ensures.counts) logs.list;
      any_moment = some_meant laws disk files list w c.args.batch.now
          c.edits-edits.ensures.batch c.appends_keep.ensures room
          (g.D.Disk.past c.args.disk.now) (g.D.Disk.past c.append.new.disk)
          (g.D.Disk.state c.append.new.disk) logs.any_moment;
    }

-- nothing was written
pub returns-in_err-add-clause-meant : goal.returns-in_err-add-clause-meant
returns-in_err-add-clause-meant g c = λ list honest w.
    let laws : CrashLaws = record {
      durable = c.durable_file_is_left.ensures;
      version = c.held_versions_are_left.ensures.left;
      reads = c.reads_are_outcomes.ensures;
    } in
    record {
      list = search rules;
      any_moment = none_meant laws (g.D.Disk.state c.args.disk.now) c.args.self.now list w
          c.args.batch.now c.edits-edits.ensures.batch (g.D.Disk.past c.args.disk.now);
    }

-- a merge can end as before
pub returns-in_err-add-clause-plans : goal.returns-in_err-add-clause-plans
returns-in_err-add-clause-plans g c =
    refused_plans g.D.Disk c.from_residual.result _ c.from_residual.ensures.1 (omega arith)

pub returns-clause-plans : goal.returns-clause-plans
returns-clause-plans g c =
    let files = c.args.self.now in
    let trimmed = trimmed_count files in
    let next = c.requires.next in
    let told = counts_told files c.requires.usable c.append.new.self c.add.new.self
    c.args.batch.now c.args.number c.requires.next c.append.ensures.lines c.append.ensures.room
    (λ failed. not_true (c.in_ok-add.ensures.fails.0 failed)) c.in_ok-add.ensures.adds
    c.append.result c.append.ensures.counts in
    record {
      free = omega arith;
      held = λ list plan honest it.
          let h = it.held in
          let disk = g.D.Disk.state c.args.disk.now in
          let count = h.known.count in
          appended_with_plan disk files list h c.args.batch.now c.edits-edits.ensures.batch
          (g.D.Disk.state c.append.new.disk) c.append.new.self c.add.new.self
          c.append.ensures.lines (c.append.ensures.kept.files honest) c.appends_keep.ensures
          c.held_versions_are_left.ensures.same
          (one_more_above files.memtable c.add.new.self list c.args.batch.now c.args.number
          (known_store files h.known.tables) h.known.entries (omega (arith, next, count))
          (trimmed_few disk files list h) h.known.store.flushed_count c.in_ok-add.ensures.adds) _
          c.append.result told (c.append.ensures.appended (suc trimmed) (drop trimmed list) honest
          h.known.logs).list plan it.can_end;
      meant = λ list plan honest it.
          let w = it.was in
          let h = w.hold in
          let disk = g.D.Disk.state c.args.disk.now in
          let count = h.known.count in
          appended_meant_with_plan disk files list w (g.D.Disk.state c.append.new.disk)
          (c.append.ensures.kept.files honest) c.args.batch.now c.edits-edits.ensures.batch
          c.append.new.self c.add.new.self c.append.ensures.lines c.appends_keep.ensures
          c.held_versions_are_left.ensures.same
          (one_more_above files.memtable c.add.new.self list c.args.batch.now c.args.number
          (known_store files h.known.tables) h.known.entries (omega (arith, next, count))
          (trimmed_few w.meant files list h) h.known.store.flushed_count
          c.in_ok-add.ensures.adds) _ c.append.result told (c.append.ensures.appended (suc trimmed)
          (drop trimmed list) honest (logs_are_held disk files list w)).list plan it.can_end;
    }

pub returns-in_err-add-clause-kept : goal.returns-in_err-add-clause-kept
returns-in_err-add-clause-kept g c = grind (arith, common_steps)

pub returns-in_err-add-clause-counts : goal.returns-in_err-add-clause-counts
returns-in_err-add-clause-counts g c = grind (arith, common_steps)

pub returns-in_err-add-clause-facts : goal.returns-in_err-add-clause-facts
returns-in_err-add-clause-facts g c = grind (arith, common_steps)

pub returns-clause-kept : goal.returns-clause-kept
returns-clause-kept g c = grind (arith, common_steps)

pub returns-clause-facts : goal.returns-clause-facts
returns-clause-facts g c = grind (arith, common_steps)
