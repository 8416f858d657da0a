use Rattle.std.proofs.Common.{[], inl, inr}
use Rattle.engine.specs.{engine_disk, facts_of, look_ups}
use Rattle.dumps.specs.Dumped.{AreTableCounts, IsBegunDump, IsDumpOf, IsSomeBegun, IsSomeDump}
use Rattle.dumps.specs.Dumped.{ShowsList}
use Rattle.dumps.proofs.DeviceLemmas.{files_passed_on, kept_of_opened, kept_of_refused}
use Rattle.dumps.proofs.DeviceLemmas.{kept_passed_on, named_behind, named_passed_on, not_opened}
use Rattle.dumps.proofs.DeviceLemmas.{of_engine, opened_files, passed_on}
use Rattle.dumps.proofs.StoreDumpLemmas.{dumped_in_part, dumped_list, dumped_some, dumped_whole}
use Rattle.dumps.proofs.StoreDumpLemmas.{none_begun, none_of_some}
use Rattle.dumps.proofs.store_dump.dump_store.Goals as goal

-- the store was not opened
pub returns-in-Err-clause-refused : goal.returns-in-Err-clause-refused
returns-in-Err-clause-refused g c = λ facts list honest read. (
  rw c.from.ensures
      (of_engine c.in-Err.e ((c.in-Err.ensures.opened facts list honest).whole read)),
  none_begun c.pages_agree.ensures.agree facts list (g.W.Write.contents c.args.out.now)
      c.from.result,
)

pub returns-in-Err-clause-meant : goal.returns-in-Err-clause-meant
returns-in-Err-clause-meant g c = λ facts list honest were.
    none_begun c.pages_agree.ensures.agree facts list (g.W.Write.contents c.args.out.now)
    c.from.result

pub returns-in-Err-clause-unopened : goal.returns-in-Err-clause-unopened
returns-in-Err-clause-unopened g c = λ honest shut.
    not_opened g.D.Disk c.args.disk c.in-Err.disk (g.W.Write.contents c.args.out.now) c.in-Err.e
    c.from.result c.from.ensures (c.in-Err.ensures.told honest) c.in-Err.ensures.still

pub returns-in-Err-clause-printed : goal.returns-in-Err-clause-printed
returns-in-Err-clause-printed g c = none_of_some
    (record { id = 0; epoch = 0; ids = []; floor = 0; kept = 0 })
    (g.W.Write.contents c.args.out.now) c.from.result

pub returns-in-Err-clause-device : goal.returns-in-Err-clause-device
returns-in-Err-clause-device g c =
    kept_of_refused g.D.Disk c.in-Err.e c.from.result c.from.ensures c.in-Err.ensures.kept

pub returns-in-Err-clause-files : goal.returns-in-Err-clause-files
returns-in-Err-clause-files g c = record {
  named = c.in-Err.ensures.still.named;
  files = λ honest. inr (not_opened g.D.Disk c.args.disk c.in-Err.disk
      (g.W.Write.contents c.args.out.now) c.in-Err.e c.from.result c.from.ensures
      (c.in-Err.ensures.told honest) c.in-Err.ensures.still);
}

-- it was opened, and shows no other list
pub returns-clause-unopened : goal.returns-clause-unopened
returns-clause-unopened g c = λ honest shut.
    absurd (shut (facts_of c.in-Ok.engine) (look_ups c.in-Ok.engine).count
    (c.in-Ok.ensures.told honest))

pub returns-clause-written : goal.returns-clause-written
returns-clause-written g c = λ facts list honest read.
    let engine = c.in-Ok.engine in
    let opened = (c.in-Ok.ensures.opened facts list honest).whole read in
    let old = g.W.Write.contents c.args.out.now in
    let new = g.W.Write.contents c.write_store-written.new.out in
    dumped_whole facts list old new c.with_disk.result
    (passed_on (IsDumpOf facts list old new) (IsBegunDump facts list old new)
    c.write_store-written.result c.into_disk.result c.with_disk.result
    c.with_disk.ensures
    (dumped_list (ShowsList g.D.Disk engine) (AreTableCounts engine) (facts_of engine) facts
    (look_ups engine).count list old new (λ tables counts. counts.levels) opened.facts
    opened.holds.reads.count
    (inl opened.holds.reads)
    c.write_store-written.result c.write_store-written.ensures.dump))

pub returns-clause-refused : goal.returns-clause-refused
returns-clause-refused g c = λ facts list honest read.
    let engine = c.in-Ok.engine in
    let opened = (c.in-Ok.ensures.opened facts list honest).whole read in
    let old = g.W.Write.contents c.args.out.now in
    let new = g.W.Write.contents c.write_store-written.new.out in
    dumped_in_part facts list old new c.write_store-written.result c.into_disk.result
    c.with_disk.result c.with_disk.ensures
    (passed_on (IsDumpOf facts list old new) (IsBegunDump facts list old new)
    c.write_store-written.result c.into_disk.result c.with_disk.result
    c.with_disk.ensures
    (dumped_list (ShowsList g.D.Disk engine) (AreTableCounts engine) (facts_of engine) facts
    (look_ups engine).count list old new (λ tables counts. counts.levels) opened.facts
    opened.holds.reads.count
    (inl opened.holds.reads)
    c.write_store-written.result c.write_store-written.ensures.dump))
    (c.write_store-written.ensures.refused list opened.holds.reads)

pub returns-clause-meant : goal.returns-clause-meant
returns-clause-meant g c = λ facts list honest were.
    let engine = c.in-Ok.engine in
    let opened = (c.in-Ok.ensures.opened facts list honest).meant were in
    let old = g.W.Write.contents c.args.out.now in
    let new = g.W.Write.contents c.write_store-written.new.out in
    passed_on (IsDumpOf facts list old new) (IsBegunDump facts list old new)
    c.write_store-written.result c.into_disk.result c.with_disk.result c.with_disk.ensures
    (dumped_list (ShowsList g.D.Disk engine) (AreTableCounts engine) (facts_of engine) facts
    (look_ups engine).count list
    (g.W.Write.contents c.args.out.now) (g.W.Write.contents c.write_store-written.new.out)
    (λ tables counts. counts.levels) opened.facts opened.meant.count (inr opened.meant)
    c.write_store-written.result
    c.write_store-written.ensures.dump)

pub returns-clause-printed : goal.returns-clause-printed
returns-clause-printed g c =
    let engine = c.in-Ok.engine in
    let old = g.W.Write.contents c.args.out.now in
    let new = g.W.Write.contents c.write_store-written.new.out in
    passed_on (IsSomeDump old new) (IsSomeBegun old new) c.write_store-written.result
    c.into_disk.result c.with_disk.result c.with_disk.ensures
    (dumped_some (ShowsList g.D.Disk engine) (AreTableCounts engine) (facts_of engine)
    (look_ups engine).count
    (g.W.Write.contents c.args.out.now) (g.W.Write.contents c.write_store-written.new.out)
    c.write_store-written.result (λ tables counts. counts.levels)
    c.write_store-written.ensures.created c.write_store-written.ensures.dump)

-- its disk is returned
pub returns-clause-device : goal.returns-clause-device
returns-clause-device g c =
    kept_passed_on g.D.Disk c.write_store-written.result c.into_disk.result c.with_disk.result
    c.with_disk.ensures c.into_disk.ensures
    (kept_of_opened g.D.Disk c.in-Ok.ensures.kept c.write_store-written.ensures.device)

pub returns-clause-files : goal.returns-clause-files
returns-clause-files g c =
    let read = c.write_store-written.ensures.device in
    record {
      named = named_passed_on g.D.Disk c.write_store-written.result c.into_disk.result
          c.with_disk.result c.with_disk.ensures c.into_disk.ensures
          (named_behind g.D.Disk c.in-Ok.ensures.kept.honest.1 c.in-Ok.ensures.still.named
          read.still);
      files = λ honest.
          let works = c.in-Ok.ensures.kept.honest.1 honest in
          files_passed_on g.D.Disk (g.W.Write.contents c.args.out.now)
          (g.W.Write.contents c.write_store-written.new.out) c.write_store-written.result
          c.into_disk.result c.with_disk.result c.with_disk.ensures c.into_disk.ensures
          c.write_store-written.ensures.created
          (opened_files g.D.Disk c.args.disk (engine_disk c.write_store-written.new.engine)
          c.in-Ok.engine (c.in-Ok.ensures.alike honest) (c.in-Ok.ensures.fresh.swept works)
          (read.kept.files works));
    }
