use Rattle.std.proofs.Common.{◌+◌, List, ℕ, suc, ap, arith, drop, subst, take, rules}
use Rattle.std.proofs.lemmas.List.{take_all}
use Rattle.disk.specs.{IsEnvironmental, contents}
use Rattle.version_edits.specs.declared.line.LogLine.{LogLine}
use Rattle.batch_logs.specs.BatchLogs.{HaveBatches}
use Rattle.store_tables.specs.declared.error.EngineError.TheVariants as engine
use Rattle.store_tables.specs.Errors.{IsEnd}
use Rattle.disk.specs.KeepingLemmas.{answered, kept_as, neither}
use Rattle.batch_logs.specs.Replaying.{AreInLine, AreReadLogs}
use Rattle.batch_logs.specs.Syncs.{SparesAllBut}
use Rattle.store_tables.specs.RefusalLemmas.{refuses}
use Rattle.store_tables.specs.RefusalLemmas.{done, lacks_memory, passed_on, refused_otherwise}
use Rattle.batch_logs.proofs.ReadLogs.{HasSynced, has_here, in_line_more, line_at, lines_at}
use Rattle.batch_logs.proofs.ReadLogs.{lines_more, none_in_line, none_read, none_synced, read_more}
use Rattle.batch_logs.proofs.ReadLogs.{still_then}
use Rattle.batch_logs.proofs.ReadLogs.{synced_all, synced_more, synced_then}
use Rattle.batch_logs.proofs.replaying.read_logs.Goals as goal

-- no log was opened
pub loop-line-init : goal.loop-line-init
loop-line-init g c = record {
  synced = none_synced g.D.Disk c.args.disk.now;
  line = none_in_line c.args.before c.new-logs.result.items c.new-memtable.result
      c.new-logs.ensures.items c.requires.few c.new-memtable.ensures.works
      c.new-memtable.ensures.empty;
  read = λ honest. none_read (g.D.Disk.state c.args.disk.now) c.args.before c.args.flushed
      c.new-logs.result.items c.new-memtable.result c.new-logs.ensures.items
      c.new-memtable.ensures.empty;
}

pub overflow_add-count : goal.overflow_add-count
overflow_add-count g c =
    let few = c.loop-line.invariant.line.few in
    omega (arith, few)

pub open_log-requires-clause-numbered : goal.open_log-requires-clause-numbered
open_log-requires-clause-numbered g c = c.loop-line.invariant.line.numbered

pub open_log-requires-clause-few : goal.open_log-requires-clause-few
open_log-requires-clause-few g c = c.loop-line.invariant.line.few

-- the line begins elsewhere, so the files have no batches
pub returns-then-line-count : goal.returns-then-line-count
returns-then-line-count g c = record {
  reads = record {
    kept = synced_all g.D.Disk (take c.loop-line.line-index c.args.lines.now) c.args.disk.now
        c.loop-line.disk c.loop-line.invariant.synced (refused_otherwise (λ e. cc));
    causes = search rules;
    still = c.loop-line.invariant.synced.still;
  };
  opened = λ batches honest have each few.
      let s0 = g.D.Disk.state c.args.disk.now in
      let s1 = g.D.Disk.state c.loop-line.disk in
      let lines = c.args.lines.now in
      let i = c.loop-line.line-index in
      let line : LogLine = line_at lines i in
      let behind = drop (i + 1) lines in
      let at = lines_at lines i c.loop-line-test.true in
      let apart = c.requires.apart (take i lines) behind line at in
      let before = c.loop-line.invariant in
      let same = (before.synced.kept.files honest).others line.file apart in
      let has = has_here c.records_are_unique.ensures c.spellings_differ.ensures s0 s1
      (take i lines) behind line c.args.before c.args.flushed c.loop-line.count
      c.loop-line.logs.items c.loop-line.memtable batches (before.read honest) same
      (subst (λ (l : List LogLine). HaveBatches (contents s0) (suc c.args.before) l batches) at
      have) each few in
      absurd (c.if-line-count.true has.first);
  read = search rules;
  told = search rules;
}

-- the log of the line was not opened
pub returns-in_err-one : goal.returns-in_err-one
returns-in_err-one g c = record {
  reads = record {
    kept = let failed = passed_on c.open_log.result c.in_err-one.field-0.0 c.from_residual.result
        c.in_err-one.was c.from_residual.ensures.1 in
        let lines = c.args.lines.now in
        let i = c.loop-line.line-index in
        let line : LogLine = line_at lines i in
        synced_then g.D.Disk (take i lines) c.args.disk.now c.loop-line.disk
        c.loop-line.invariant.synced line.file
        (kept_as g.D.Disk failed (λ a b added. added) c.open_log.ensures.reads.kept);
    -- where a log was not opened, the files have to be opened again
    causes = refuses c.from_residual.result _ IsEnd c.from_residual.ensures.1
        c.in_err-one.ensures.reads.causes;
    still = still_then g.D.Disk (take c.loop-line.line-index c.args.lines.now) c.args.disk.now
        c.loop-line.disk c.loop-line.invariant.synced c.open_log.ensures.reads.still;
  };
  opened = λ batches honest have each few.
      let s0 = g.D.Disk.state c.args.disk.now in
      let s1 = g.D.Disk.state c.loop-line.disk in
      let lines = c.args.lines.now in
      let i = c.loop-line.line-index in
      let line : LogLine = line_at lines i in
      let behind = drop (i + 1) lines in
      let at = lines_at lines i c.loop-line-test.true in
      let apart = c.requires.apart (take i lines) behind line at in
      let before = c.loop-line.invariant in
      let same = (before.synced.kept.files honest).others line.file apart in
      let has = has_here c.records_are_unique.ensures c.spellings_differ.ensures s0 s1
      (take i lines) behind line c.args.before c.args.flushed c.loop-line.count
      c.loop-line.logs.items c.loop-line.memtable batches (before.read honest) same
      (subst (λ (l : List LogLine). HaveBatches (contents s0) (suc c.args.before) l batches) at
      have) each few in
      refuses c.from_residual.result _
      (IsEnvironmental engine.Disk engine.Memory) c.from_residual.ensures.1
      (c.in_err-one.ensures.opened has.here (before.synced.kept.honest.1 honest) has.stood has.each
      has.few);
  read = search rules;
  told = search rules;
}

-- memory was out
pub returns-in_err-push : goal.returns-in_err-push
returns-in_err-push g c = record {
  reads = record {
    kept = let lines = c.args.lines.now in
        let i = c.loop-line.line-index in
        let line : LogLine = line_at lines i in
        synced_then g.D.Disk (take i lines) c.args.disk.now c.loop-line.disk
        c.loop-line.invariant.synced line.file
        (kept_as g.D.Disk (neither (answered c.open_log.result c.in_ok-one.was)
        (lacks_memory c.from_residual-in_err-push.result c.from_residual-in_err-push.ensures.1))
        (λ a b added. added) c.open_log.ensures.reads.kept);
    causes = refuses c.from_residual-in_err-push.result _ IsEnd
        c.from_residual-in_err-push.ensures.1 tt;
    still = still_then g.D.Disk (take c.loop-line.line-index c.args.lines.now) c.args.disk.now
        c.loop-line.disk c.loop-line.invariant.synced c.open_log.ensures.reads.still;
  };
  opened = search rules;
  read = search rules;
  told = search rules;
}

-- one log more is open
pub loop-line-preserved : goal.loop-line-preserved
loop-line-preserved g c =
    let d0 = c.args.disk.now in
    let d1 = c.loop-line.disk in
    let d2 = c.open_log.new.disk in
    let lines = c.args.lines.now in
    let i = c.loop-line.line-index in
    let line : LogLine = line_at lines i in
    let passed = take i lines in
    let before = c.loop-line.invariant in
    let at = lines_at lines i c.loop-line-test.true in
    let next = lines_more lines i c.loop-line-test.true in
    let apart = c.requires.apart passed (drop (i + 1) lines) line at in
    let one = c.in_ok-one.one in
    let logs = c.loop-line.logs.items in
    let now = c.push.new.self.items in
    let memtable = c.loop-line.memtable in
    let after = c.open_log.new.memtable in
    let count = c.loop-line.count in
    let more = count + c.len.result in
    let counts = ap (λ (n : ℕ). count + n) c.len.ensures in
    let told = c.in_ok-one.ensures.told in
    let pushed = c.in_ok-push.ensures.items in
    let follows = c.if-line-count.false in
    record {
      synced = subst (λ (l : List LogLine). HasSynced g.D.Disk l d0 d2) next
          (synced_more g.D.Disk passed d0 d1 before.synced line c.open_log.ensures.reads.kept
          (answered c.open_log.result c.in_ok-one.was) c.open_log.ensures.reads.still);
      line = subst (λ (l : List LogLine). AreInLine l c.args.before more now after) next
          (in_line_more passed line c.args.before count logs memtable before.line follows now one
          after more told pushed counts);
      read = λ honest.
          let same = (before.synced.kept.files honest).others line.file apart in
          let honest1 = before.synced.kept.honest.1 honest in
          subst (λ (l : List LogLine). AreReadLogs (g.D.Disk.state d0) (g.D.Disk.state d2) l
          c.args.before c.args.flushed more now after) next
          (read_more passed line c.args.before count logs memtable before.line follows now one after
          more told pushed counts (g.D.Disk.state d0) (g.D.Disk.state d1) (g.D.Disk.state d2)
          c.args.flushed (before.read honest) (c.in_ok-one.ensures.read honest1) same apart
          (c.open_log.ensures.reads.kept.files honest1).others);
    }

-- all logs are open
pub returns : goal.returns
returns g c = record {
  reads = record {
    kept = synced_all g.D.Disk (take c.loop-line.line-index c.args.lines.now) c.args.disk.now
        c.loop-line.disk c.loop-line.invariant.synced done;
    causes = search rules;
    still = c.loop-line.invariant.synced.still;
  };
  opened = search rules;
  read = λ honest.
      let all = take_all c.loop-line.line-index c.args.lines.now c.loop-line-test.false in
      let s0 = g.D.Disk.state c.args.disk.now in
      let s1 = g.D.Disk.state c.loop-line.disk in (
        subst (λ (l : List LogLine). SparesAllBut l s0 s1) all
            (c.loop-line.invariant.synced.kept.files honest).others,
        c.loop-line.count,
        subst (λ (l : List LogLine). AreReadLogs s0 s1 l c.args.before c.args.flushed
            c.loop-line.count c.loop-line.logs.items c.loop-line.memtable) all
            (c.loop-line.invariant.read honest),
      );
  told = (
    c.loop-line.count,
    subst (λ (l : List LogLine). AreInLine l c.args.before c.loop-line.count c.loop-line.logs.items
        c.loop-line.memtable)
        (take_all c.loop-line.line-index c.args.lines.now c.loop-line-test.false)
        c.loop-line.invariant.line,
  );
}
