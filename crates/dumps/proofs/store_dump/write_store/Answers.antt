use Rattle.std.proofs.Common.{inr, rules, subst}
use Rattle.std.specs.Prelude.{MatchResult}
use Rattle.disk.specs.KeepingLemmas.{neither}
use Rattle.engine.specs.{facts_of, look_ups}
use Rattle.dumps.specs.Dumped.{AreTableCounts, IsBegunFor, IsDumpFor, IsDumpRefusal, IsOfOpened}
use Rattle.dumps.specs.Dumped.{ShowsList}
use Rattle.dumps.proofs.DeviceLemmas.{answers, other_not_of_device, output_not_of_device}
use Rattle.dumps.proofs.DeviceLemmas.{output_of_opened, output_refusal, read_as, read_as_passed}
use Rattle.dumps.proofs.DeviceLemmas.{refused_as_passed, refused_so, text_not_of_device}
use Rattle.dumps.proofs.DeviceLemmas.{text_of_opened}
use Rattle.dumps.proofs.DeviceLemmas.{untouched}
use Rattle.dumps.proofs.RowWalkLemmas.{all_for, begun_for, shown_still}
use Rattle.dumps.proofs.StoreDumpLemmas.{all_readable, cut_in_numbers, cut_in_rows, dumped}
use Rattle.dumps.proofs.StoreDumpLemmas.{of_output}
use Rattle.dumps.proofs.store_dump.write_store.Goals as goal

-- a beginning of the first line was written
pub returns-in_err-write_numbers-clause-dump : goal.returns-in_err-write_numbers-clause-dump
returns-in_err-write_numbers-clause-dump g c =
    let numbers = c.in_err-write_numbers.ensures in
    let old = c.args.engine.now in
    let error = c.in_err-write_numbers.field-0.0 in
    let cut = cut_in_numbers (ShowsList g.D.Disk old) (AreTableCounts old) (facts_of old)
    (look_ups old).count numbers.0 numbers.2 c.pages_agree.ensures.agree
    (g.W.Write.contents c.args.out.now) (g.W.Write.contents c.write_numbers.new.out) error
    numbers.1 in
    refused_so _ _ c.from_residual.result error c.from_residual.ensures.1 cut

pub returns-in_err-write_numbers-clause-refused : goal.returns-in_err-write_numbers-clause-refused
returns-in_err-write_numbers-clause-refused g c = λ list reads.
    let numbers = c.in_err-write_numbers.ensures in
    let cause : IsDumpRefusal c.in_err-write_numbers.field-0.0 =
    inr (output_refusal _ (g.W.Write.contents c.args.out.now)
    (g.W.Write.contents c.write_numbers.new.out) c.in_err-write_numbers.field-0.0 numbers.1) in
    search (rules, cause)

-- the rows were refused
pub returns-in_err-count-clause-dump : goal.returns-in_err-count-clause-dump
returns-in_err-count-clause-dump g c =
    let old = c.args.engine.now in
    let IsShown = ShowsList g.D.Disk old in
    let numbers = c.in_ok-write_numbers.ensures in
    let is = c.count-at.ensures.count in
    let error = c.in_err-count.field-0.0 in
    let begun = begun_for IsShown (ShowsList g.D.Disk c.set_committed.new.self) c.count-at.result
    (λ list. shown_still old c.set_committed.new.self list (record {
      reads = c.set_committed.ensures.stays.reads list;
      meant = c.set_committed.ensures.stays.meant list;
    })) (g.W.Write.contents c.write_numbers.new.out) (g.W.Write.contents c.write_rows.new.out)
    error c.in_err-count.ensures.rows in
    let out = g.W.Write.contents c.args.out.now in
    let new = g.W.Write.contents c.write_rows.new.out in
    let AreCounts = AreTableCounts old in
    let cut = subst (λ n. IsBegunFor IsShown AreCounts (facts_of old) n out new error) is
    (cut_in_rows IsShown AreCounts (facts_of old) c.count-at.result numbers.0 numbers.2 out
    (g.W.Write.contents c.write_numbers.new.out) new error (rw (← is) at numbers.1) begun) in
    refused_so _ _ c.from_residual-in_err-count.result error c.from_residual-in_err-count.ensures.1
    cut

pub returns-in_err-count-clause-refused : goal.returns-in_err-count-clause-refused
returns-in_err-count-clause-refused g c = λ list reads.
    let may = all_readable (look_ups c.args.engine.now) (look_ups c.set_committed.new.self)
    c.count-at.result c.set_committed.ensures.told c.count-at.ensures.ordered
    c.count-at.ensures.count in
    let cause = c.in_err-count.ensures.refused list (c.set_committed.ensures.stays.reads list reads)
    may in
    refused_as_passed c.from_residual-in_err-count.result c.in_err-count.field-0.0
    c.from_residual-in_err-count.ensures.1 cause

-- the last line was written, or refused
pub returns-clause-dump : goal.returns-clause-dump
returns-clause-dump g c =
    let old = c.args.engine.now in
    let IsShown = ShowsList g.D.Disk old in
    let numbers = c.in_ok-write_numbers.ensures in
    let is = c.count-at.ensures.count in
    let first = g.W.Write.contents c.write_numbers.new.out in
    let second = g.W.Write.contents c.write_rows.new.out in
    let out = g.W.Write.contents c.args.out.now in
    let new = g.W.Write.contents c.write_count.new.out in
    let all = all_for IsShown (ShowsList g.D.Disk c.set_committed.new.self) c.count-at.result
    (λ list. shown_still old c.set_committed.new.self list (record {
      reads = c.set_committed.ensures.stays.reads list;
      meant = c.set_committed.ensures.stays.meant list;
    })) c.in_ok-count.count first second c.in_ok-count.ensures.rows in
    let AreCounts = AreTableCounts old in
    subst (λ n. MatchResult c.write_count.result
    (λ _. IsDumpFor IsShown AreCounts (facts_of old) n out new)
    (IsBegunFor IsShown AreCounts (facts_of old) n out new)) is
    (dumped IsShown AreCounts (facts_of old) c.count-at.result numbers.0 numbers.2
    c.in_ok-count.count c.write_count.result out first second new (rw (← is) at numbers.1) all
    c.write_count.ensures)

pub returns-clause-refused : goal.returns-clause-refused
returns-clause-refused g c = λ list reads.
    of_output _ (g.W.Write.contents c.write_rows.new.out)
    (g.W.Write.contents c.write_count.new.out) c.write_count.result c.write_count.ensures

-- the disk was only read
pub returns-in_err-write_numbers-clause-device : goal.returns-in_err-write_numbers-clause-device
returns-in_err-write_numbers-clause-device g c =
    untouched g.D.Disk _
    (other_not_of_device c.from_residual.result c.in_err-write_numbers.field-0.0
    c.from_residual.ensures.1
    (output_not_of_device c.in_err-write_numbers.field-0.0
    (output_refusal _ (g.W.Write.contents c.args.out.now)
    (g.W.Write.contents c.write_numbers.new.out) c.in_err-write_numbers.field-0.0
    c.in_err-write_numbers.ensures.1)))

pub returns-in_err-count-clause-device : goal.returns-in_err-count-clause-device
returns-in_err-count-clause-device g c =
    read_as_passed g.D.Disk c.from_residual-in_err-count.result c.in_err-count.field-0.0
    c.from_residual-in_err-count.ensures.1
    (rw c.set_committed.ensures.disk at c.in_err-count.ensures.device)

pub returns-clause-device : goal.returns-clause-device
returns-clause-device g c =
    let not_device = text_not_of_device _ (g.W.Write.contents c.write_rows.new.out)
    (g.W.Write.contents c.write_count.new.out) c.write_count.result c.write_count.ensures in
    read_as g.D.Disk (neither answers not_device)
    (rw c.set_committed.ensures.disk at c.in_ok-count.ensures.device)

-- no refusal says that nothing was created, or in the old format
pub returns-in_err-write_numbers-clause-created : goal.returns-in_err-write_numbers-clause-created
returns-in_err-write_numbers-clause-created g c =
    let created : IsOfOpened c.in_err-write_numbers.field-0.0 =
    output_of_opened c.in_err-write_numbers.field-0.0
    (output_refusal _ (g.W.Write.contents c.args.out.now)
    (g.W.Write.contents c.write_numbers.new.out) c.in_err-write_numbers.field-0.0
    c.in_err-write_numbers.ensures.1) in
    search (rules, created)

pub returns-in_err-count-clause-created : goal.returns-in_err-count-clause-created
returns-in_err-count-clause-created g c =
    let created = c.in_err-count.ensures.created in
    search (rules, created)

pub returns-clause-created : goal.returns-clause-created
returns-clause-created g c =
    text_of_opened _ (g.W.Write.contents c.write_rows.new.out)
    (g.W.Write.contents c.write_count.new.out) c.write_count.result c.write_count.ensures
