use Rattle.std.proofs.Common.{arith}
use Rattle.compaction.specs.Leftovers.{IsLeftover}
use Rattle.compaction.proofs.Calls.{done, ok_fails, passed_on, writes_as, writes_behind}
use Rattle.compaction.proofs.Calls.{writes_nothing}
use Rattle.compaction.proofs.Leaving.{leftover_more, leftover_writes}
use Rattle.compaction.proofs.Writing.{refuses}
use Rattle.compaction.proofs.leftovers.remove_leftovers.Goals as goal

pub loop-file-init : goal.loop-file-init
loop-file-init g c = record {
  from = omega arith;
  writes = writes_nothing g.D.Disk
      (IsLeftover c.args.first c.args.next_file c.args.version.now.version) c.args.disk.now
      (λ never. never);
  removed = λ honest file left. let low = left.begun in let high = left.early in
      absurd (omega (arith, low, high));
}

pub returns-in_err-remove_unnamed : goal.returns-in_err-remove_unnamed
returns-in_err-remove_unnamed g c =
    let version = c.args.version.now.version in
    let own = IsLeftover c.args.first c.args.next_file version in
    record {
      writes = writes_behind g.D.Disk own (λ never. never) (λ never. never)
          c.loop-file.invariant.writes
          (writes_as g.D.Disk own
          (passed_on c.remove_unnamed.result c.in_err-remove_unnamed.field-0.0
          c.from_residual.result c.in_err-remove_unnamed.was c.from_residual.ensures.1)
          (λ never. never)
          (leftover_writes g.D.Disk c.args.first c.args.next_file c.loop-file.file version
          c.loop-file.invariant.from c.loop-file-test.true c.remove_unnamed.ensures.writes));
      removed = λ honest. refuses c.from_residual.result _ _ c.from_residual.ensures.1
          (c.in_err-remove_unnamed.ensures.removed
          (c.loop-file.invariant.writes.kept.honest.1 honest));
    }

pub loop-file-preserved : goal.loop-file-preserved
loop-file-preserved g c =
    let version = c.args.version.now.version in
    let own = IsLeftover c.args.first c.args.next_file version in
    let low = c.loop-file.invariant.from in
    record {
      from = omega (arith, low);
      writes = writes_behind g.D.Disk own (λ never. never) (λ never. never)
          c.loop-file.invariant.writes
          (writes_as g.D.Disk own (
            ok_fails c.remove_unnamed.result c.in_ok-remove_unnamed.field-0
                c.in_ok-remove_unnamed.was,
            λ never. absurd never,
          )
          (λ never. never)
          (leftover_writes g.D.Disk c.args.first c.args.next_file c.loop-file.file version
          c.loop-file.invariant.from c.loop-file-test.true c.remove_unnamed.ensures.writes));
      removed = λ honest.
          let now = c.loop-file.invariant.writes.kept.honest.1 honest in
          leftover_more g.D.Disk c.args.first c.args.next_file c.loop-file.file version
          c.loop-file.invariant.from c.loop-file-test.true c.remove_unnamed.ensures.writes now
          (c.loop-file.invariant.removed honest) (c.in_ok-remove_unnamed.ensures.removed now);
    }

pub returns : goal.returns
returns g c =
    let version = c.args.version.now.version in
    let own = IsLeftover c.args.first c.args.next_file version in
    let last = c.loop-file-test.false in
    record {
      writes = writes_as g.D.Disk own (λ never. absurd never, done) (λ never. never)
          c.loop-file.invariant.writes;
      removed = λ honest file left. c.loop-file.invariant.removed honest file (record {
        begun = left.begun;
        early = let early = left.early in omega (arith, early, last);
        beside = left.beside;
      });
    }
