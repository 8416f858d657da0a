use Rattle.std.proofs.lemmas.Grind.{common_steps}
use Rattle.std.proofs.Common.{◌≡◌, ◌-◌, ◌+◌, ℕ, List, length, sym, ap, arith, subst, ◌∙◌}
use Rattle.disk.specs.{IsEnvironmental, Slot, contents}
use Rattle.disk.specs.KeepingLemmas.{kept_as, kept_behind, neither}
use Rattle.disk.specs.StillLemmas.{still_more}
use Rattle.manifest.specs.declared.TableLine.{TableLine}
use Rattle.manifest.specs.{IsVersion, NodeVersion}
use Rattle.store_tables.specs.declared.error.EngineError.TheVariants as engine
use Rattle.store_tables.specs.LevelTables.{AreTablesOf, FileFits, IsTableAsMeant}
use Rattle.store_files.specs.Files.{IsOwned}
use Rattle.store_files.specs.StoreFiles.{AreOrderedNumbers, durably}
use Rattle.store_files.specs.Settling.{AreSynced, AreThere}
use Rattle.std.specs.Prelude.{All, Contains}
use Rattle.std.proofs.lemmas.List.Elements.{All-contains, All-contains_itself, All-weaker}
use Rattle.store_tables.specs.Errors.{IsEnd}
use Rattle.store_tables.specs.RefusalLemmas.{done, if_refuses, passed_on, refuses}
use Rattle.batch_logs.specs.PartsLemmas.{held_count, logs_in}
use Rattle.store_files.proofs.ReadParts.{batches_same, begins_at, fitting_are_there, parts_settle}
use Rattle.store_files.proofs.ReadParts.{replayed_same, tables_are_there, tables_durable}
use Rattle.store_files.proofs.ReadParts.{tables_now}
use Rattle.store_files.proofs.Records.{not_true}
use Rattle.store_files.proofs.ReadParts.{synced_reads, tables_durably, tables_then, were_fit}
use Rattle.store_files.proofs.ReadParts.{will_fit}
use Rattle.store_files.proofs.opening.read_parts.Goals as goal

-- the files of tables that are named are there
pub returns-in_err-sync_tables-clause-opened : goal.returns-in_err-sync_tables-clause-opened
returns-in_err-sync_tables-clause-opened g c = λ first batches tables honest had read ordered.
    let disk = g.D.Disk.state c.args.disk.now in
    let lines : c.deref.result.now ≡ c.args.version.now.version.tables =
    c.deref.ensures.value ∙ ap (λ (v : NodeVersion). v.version.tables) c.version.view_is in
    refuses c.from_residual.result _
    (IsEnvironmental engine.Disk engine.Memory) c.from_residual.ensures.1
    (c.in_err-sync_tables.ensures.there honest
    (subst (AreThere disk) (sym lines)
    (tables_are_there disk c.args.version.now.version.tables tables read)))

-- the tables' syncs leave the batches as they are
pub returns-in_err-logs-clause-opened : goal.returns-in_err-logs-clause-opened
returns-in_err-logs-clause-opened g c = λ first batches tables honest had read ordered.
    let s1 = g.D.Disk.state c.args.disk.now in
    let s2 = g.D.Disk.state c.sync_tables.new.disk in
    let honest2 = c.sync_tables.ensures.reads.kept.honest.1 honest in
    let same = synced_reads s1 s2 c.deref.result.now (c.in_ok-sync_tables.ensures.synced honest) in
    refuses c.from_residual-in_err-logs.result _ (IsEnvironmental engine.Disk engine.Memory)
    c.from_residual-in_err-logs.ensures.1 (c.in_err-logs.ensures.opened first batches honest2
    (batches_same (contents s1) (contents s2) same c.args.version.now.version.logs first batches
    had))

pub returns-in_err-logs-clause-reads : goal.returns-in_err-logs-clause-reads
returns-in_err-logs-clause-reads g c = record {
  kept =
      kept_behind g.D.Disk (λ a b d before after. tt)
      c.in_ok-sync_tables.ensures.reads.kept done
      (kept_as g.D.Disk {Q = IsOwned} (passed_on c.open_logs.result c.in_err-logs.field-0.0
      c.from_residual-in_err-logs.result c.in_err-logs.was c.from_residual-in_err-logs.ensures.1)
      (λ a b it. tt) c.open_logs.ensures.reads.kept);
  causes = if_refuses c.from_residual-in_err-logs.result IsEnd
      c.from_residual-in_err-logs.ensures.1 c.in_err-logs.ensures.reads.causes;
  still = λ honest.
      still_more (c.sync_tables.ensures.reads.still honest)
      (c.open_logs.ensures.reads.still (c.sync_tables.ensures.reads.kept.honest.1 honest));
}

pub returns-in_err-tables-clause-reads : goal.returns-in_err-tables-clause-reads
returns-in_err-tables-clause-reads g c = record {
  kept =
      kept_behind g.D.Disk (λ a b d before after. tt)
      c.in_ok-sync_tables.ensures.reads.kept done
      (kept_behind g.D.Disk {Q = IsOwned} (λ a b d before after. tt)
      c.in_ok-logs.ensures.reads.kept done
      (kept_as g.D.Disk {Q = IsOwned} (passed_on c.open.result c.in_err-tables.field-0.0
      c.from_residual-in_err-tables.result c.in_err-tables.was
      c.from_residual-in_err-tables.ensures.1) (λ a b it. tt) c.open.ensures.reads.kept));
  causes = if_refuses c.from_residual-in_err-tables.result IsEnd
      c.from_residual-in_err-tables.ensures.1 c.in_err-tables.ensures.reads.causes;
  still = λ honest.
      let honest2 = c.sync_tables.ensures.reads.kept.honest.1 honest in
      still_more (still_more (c.sync_tables.ensures.reads.still honest)
      (c.open_logs.ensures.reads.still honest2))
      (c.open.ensures.reads.still (c.open_logs.ensures.reads.kept.honest.1 honest2));
}

pub returns-then-not-are_ordered-clause-reads : goal.returns-then-not-are_ordered-clause-reads
returns-then-not-are_ordered-clause-reads g c = record {
  kept =
      kept_behind g.D.Disk (λ a b d before after. tt)
      c.in_ok-sync_tables.ensures.reads.kept done
      (kept_behind g.D.Disk {Q = IsOwned} (λ a b d before after. tt)
      c.in_ok-logs.ensures.reads.kept done
      (kept_as g.D.Disk {Q = IsOwned} (neither done (λ fails. cc)) (λ a b it. tt)
      c.in_ok-tables.ensures.reads.kept));
  causes = tt;
  still = λ honest.
      let honest2 = c.sync_tables.ensures.reads.kept.honest.1 honest in
      still_more (still_more (c.sync_tables.ensures.reads.still honest)
      (c.open_logs.ensures.reads.still honest2))
      (c.open.ensures.reads.still (c.open_logs.ensures.reads.kept.honest.1 honest2));
}

pub returns-clause-reads : goal.returns-clause-reads
returns-clause-reads g c = record {
  kept =
      kept_behind g.D.Disk (λ a b d before after. tt)
      c.in_ok-sync_tables.ensures.reads.kept done
      (kept_behind g.D.Disk {Q = IsOwned} (λ a b d before after. tt)
      c.in_ok-logs.ensures.reads.kept done
      (kept_as g.D.Disk {Q = IsOwned} (neither done done) (λ a b it. tt)
      c.in_ok-tables.ensures.reads.kept));
  causes = tt;
  still = λ honest.
      let honest2 = c.sync_tables.ensures.reads.kept.honest.1 honest in
      still_more (still_more (c.sync_tables.ensures.reads.still honest)
      (c.open_logs.ensures.reads.still honest2))
      (c.open.ensures.reads.still (c.open_logs.ensures.reads.kept.honest.1 honest2));
}

-- the logs' syncs leave the tables as they are
pub returns-in_err-tables-clause-opened : goal.returns-in_err-tables-clause-opened
returns-in_err-tables-clause-opened g c = λ first batches tables honest had read ordered.
    let s1 = g.D.Disk.state c.args.disk.now in
    let s2 = g.D.Disk.state c.sync_tables.new.disk in
    let s3 = g.D.Disk.state c.open_logs.new.disk in
    let honest2 = c.sync_tables.ensures.reads.kept.honest.1 honest in
    let honest3 = c.open_logs.ensures.reads.kept.honest.1 honest2 in
    let version = c.args.version.now.version in
    let is = subst (λ (v : NodeVersion). IsVersion v.version) c.version.view_is
    c.version.invariant in
    let lines : c.deref.result.now ≡ version.tables =
    c.deref.ensures.value ∙ ap (λ (v : NodeVersion). v.version.tables) c.version.view_is in
    let lines2 : c.deref-2.result.now ≡ version.tables =
    c.deref-2.ensures.value ∙ ap (λ (v : NodeVersion). v.version.tables) c.version.view_is in
    let synced = subst (AreSynced s1 s2) lines (c.in_ok-sync_tables.ensures.synced honest) in
    refuses c.from_residual-in_err-tables.result _ (IsEnvironmental engine.Disk engine.Memory)
    c.from_residual-in_err-tables.ensures.1 (c.in_err-tables.ensures.opens.opened tables honest3
    (subst (λ (l : List TableLine). AreTablesOf (contents s3) l tables) (sym lines2)
    (tables_then version is s1 s2 s3 synced
    (c.in_ok-logs.ensures.settled honest2).others tables read)))

-- the numbers are those of the batches
pub returns-then-not-are_ordered-clause-opened : goal.returns-then-not-are_ordered-clause-opened
returns-then-not-are_ordered-clause-opened g c = λ first batches tables honest had read ordered.
    let s1 = g.D.Disk.state c.args.disk.now in
    let s2 = g.D.Disk.state c.sync_tables.new.disk in
    let s3 = g.D.Disk.state c.open_logs.new.disk in
    let honest2 = c.sync_tables.ensures.reads.kept.honest.1 honest in
    let version = c.args.version.now.version in
    let logs = c.in_ok-logs.logs in
    let same = synced_reads s1 s2 c.deref.result.now (c.in_ok-sync_tables.ensures.synced honest) in
    let held = (c.in_ok-logs.ensures.opened first batches honest2
    (batches_same (contents s1) (contents s2) same version.logs first batches had)).0 in
    let trimmed : c.saturating_sub-trimmed.result ≡ first - 1 = c.saturating_sub-trimmed.ensures
    ∙ ap (λ (n : ℕ). n - 1) (c.first_number.ensures ∙ begins_at s3 logs first batches held) in
    let long = held_count s3 logs first batches held in
    let last = c.last_number.ensures in
    let positive = had.positive in
    let count : c.last_number.result ≡ first - 1 + length batches =
    omega (arith, last, long, positive) in
    absurd (not_true (sym c.if-not-are_ordered.true ∙ c.are_ordered.ensures.1
    (subst (λ (t : ℕ). AreOrderedNumbers version t c.last_number.result) (sym trimmed)
    (subst (AreOrderedNumbers version (first - 1)) (sym count) ordered))))

-- what was read is what the files had
pub returns-clause-told : goal.returns-clause-told
returns-clause-told g c = λ honest.
    let s1 = g.D.Disk.state c.args.disk.now in
    let s2 = g.D.Disk.state c.sync_tables.new.disk in
    let s3 = g.D.Disk.state c.open_logs.new.disk in
    let s4 = g.D.Disk.state c.open.new.disk in
    let honest2 = c.sync_tables.ensures.reads.kept.honest.1 honest in
    let honest3 = c.open_logs.ensures.reads.kept.honest.1 honest2 in
    let version = c.args.version.now.version in
    let is = subst (λ (v : NodeVersion). IsVersion v.version) c.version.view_is
    c.version.invariant in
    let lines : c.deref.result.now ≡ version.tables =
    c.deref.ensures.value ∙ ap (λ (v : NodeVersion). v.version.tables) c.version.view_is in
    let lines2 : c.deref-2.result.now ≡ version.tables =
    c.deref-2.ensures.value ∙ ap (λ (v : NodeVersion). v.version.tables) c.version.view_is in
    let synced = subst (AreSynced s1 s2) lines (c.in_ok-sync_tables.ensures.synced honest) in
    let others = (c.in_ok-logs.ensures.settled honest2).others in
    record {
      had = replayed_same (contents s2) (contents s1)
          (λ file. sym (synced_reads s1 s2 version.tables synced file)) version.logs version.flushed
          c.in_ok-logs.logs c.in_ok-logs.memtable (c.in_ok-logs.ensures.told honest2);
      fits = were_fit version is s1 s2 s3 synced others
          (subst (All (FileFits (contents s3))) lines2 (c.in_ok-tables.ensures.opens.fits honest3));
      each = parts_settle s1 s2 s3 s4 synced.each (c.in_ok-logs.ensures.settled honest2).each
          (c.open.ensures.reads.kept.files honest3);
    }

-- the parts hold what the files had
pub returns-clause-opened : goal.returns-clause-opened
returns-clause-opened g c = λ first batches tables honest had read ordered.
    let s1 = g.D.Disk.state c.args.disk.now in
    let s2 = g.D.Disk.state c.sync_tables.new.disk in
    let s3 = g.D.Disk.state c.open_logs.new.disk in
    let s4 = g.D.Disk.state c.open.new.disk in
    let honest2 = c.sync_tables.ensures.reads.kept.honest.1 honest in
    let honest3 = c.open_logs.ensures.reads.kept.honest.1 honest2 in
    let version = c.args.version.now.version in
    let is = subst (λ (v : NodeVersion). IsVersion v.version) c.version.view_is
    c.version.invariant in
    let lines : c.deref.result.now ≡ version.tables =
    c.deref.ensures.value ∙ ap (λ (v : NodeVersion). v.version.tables) c.version.view_is in
    let lines2 : c.deref-2.result.now ≡ version.tables =
    c.deref-2.ensures.value ∙ ap (λ (v : NodeVersion). v.version.tables) c.version.view_is in
    let synced = subst (AreSynced s1 s2) lines (c.in_ok-sync_tables.ensures.synced honest) in
    let others = (c.in_ok-logs.ensures.settled honest2).others in
    let same = c.open.ensures.reads.kept.files honest3 in
    let held = c.in_ok-logs.ensures.opened first batches honest2
    (batches_same (contents s1) (contents s2) (synced_reads s1 s2 version.tables synced)
    version.logs first batches had) in
    record {
      logs = logs_in s3 s4 c.in_ok-logs.logs first batches same held.0;
      entries = held.1;
      read = tables_now version is s1 s2 s3 synced others s4 same tables read;
      served = c.in_ok-tables.ensures.opens.opened tables honest3
          (subst (λ (l : List TableLine). AreTablesOf (contents s3) l tables) (sym lines2)
          (tables_then version is s1 s2 s3 synced others tables read));
      durable = tables_durable version is s1 s2 s3 synced others s4 same;
    }

-- .. or were meant to, where blocks of tables are damaged
pub returns-clause-meant : goal.returns-clause-meant
returns-clause-meant g c = λ meant first batches tables honest had read as_meant.
    let s1 = g.D.Disk.state c.args.disk.now in
    let s2 = g.D.Disk.state c.sync_tables.new.disk in
    let s3 = g.D.Disk.state c.open_logs.new.disk in
    let s4 = g.D.Disk.state c.open.new.disk in
    let honest2 = c.sync_tables.ensures.reads.kept.honest.1 honest in
    let honest3 = c.open_logs.ensures.reads.kept.honest.1 honest2 in
    let version = c.args.version.now.version in
    let is = subst (λ (v : NodeVersion). IsVersion v.version) c.version.view_is
    c.version.invariant in
    let lines : c.deref.result.now ≡ version.tables =
    c.deref.ensures.value ∙ ap (λ (v : NodeVersion). v.version.tables) c.version.view_is in
    let lines2 : c.deref-2.result.now ≡ version.tables =
    c.deref-2.ensures.value ∙ ap (λ (v : NodeVersion). v.version.tables) c.version.view_is in
    let synced = subst (AreSynced s1 s2) lines (c.in_ok-sync_tables.ensures.synced honest) in
    let others = (c.in_ok-logs.ensures.settled honest2).others in
    let same = c.open.ensures.reads.kept.files honest3 in
    let held = c.in_ok-logs.ensures.opened first batches honest2
    (batches_same (contents s1) (contents s2) (synced_reads s1 s2 version.tables synced)
    version.logs first batches had) in
    let files = All-weaker (Contains version.tables)
    (λ (line : TableLine). IsTableAsMeant (s3 line.file) (meant line.file))
    (λ line has. subst (λ (s : Slot). IsTableAsMeant s (meant line.file))
    (sym (tables_durably version is s1 s2 s3 synced others line has))
    (All-contains (λ (one : TableLine). IsTableAsMeant (durably (contents s1) one.file)
    (meant one.file)) version.tables line as_meant has)) version.tables
    (All-contains_itself version.tables) in
    record {
      logs = logs_in s3 s4 c.in_ok-logs.logs first batches same held.0;
      entries = held.1;
      served = c.in_ok-tables.ensures.opens.meant meant tables honest3
          (subst (λ (l : List TableLine). AreTablesOf (contents meant) l tables) (sym lines2) read)
          (subst (All (λ line. IsTableAsMeant (s3 line.file) (meant line.file))) (sym lines2)
          files);
      files = All-weaker (λ (line : TableLine). IsTableAsMeant (s3 line.file) (meant line.file))
          (λ (line : TableLine). IsTableAsMeant (s4 line.file) (meant line.file))
          (λ line it. subst (λ (s : Slot). IsTableAsMeant s (meant line.file))
          (sym (same line.file)) it) version.tables files;
      durable = tables_durable version is s1 s2 s3 synced others s4 same;
    }

-- ---- files that have the parts

pub returns-in_err-sync_tables-clause-told : goal.returns-in_err-sync_tables-clause-told
returns-in_err-sync_tables-clause-told g c = λ honest.
    let disk = g.D.Disk.state c.args.disk.now in
    let lines : c.deref.result.now ≡ c.args.version.now.version.tables =
    c.deref.ensures.value ∙ ap (λ (v : NodeVersion). v.version.tables) c.version.view_is in
    refuses c.from_residual.result _ _ c.from_residual.ensures.1
    (λ has. c.in_err-sync_tables.ensures.there honest (subst (AreThere disk) (sym lines)
    (fitting_are_there disk c.args.version.now.version.tables has.fits)))

pub returns-in_err-logs-clause-told : goal.returns-in_err-logs-clause-told
returns-in_err-logs-clause-told g c = λ honest.
    let s1 = g.D.Disk.state c.args.disk.now in
    let s2 = g.D.Disk.state c.sync_tables.new.disk in
    let same = synced_reads s1 s2 c.deref.result.now (c.in_ok-sync_tables.ensures.synced honest) in
    refuses c.from_residual-in_err-logs.result _ _
    c.from_residual-in_err-logs.ensures.1 (λ has. c.in_err-logs.ensures.opened has.first has.batches
    (c.sync_tables.ensures.reads.kept.honest.1 honest)
    (batches_same (contents s1) (contents s2) same c.args.version.now.version.logs has.first
    has.batches has.had))

pub returns-in_err-tables-clause-told : goal.returns-in_err-tables-clause-told
returns-in_err-tables-clause-told g c = λ honest.
    let s1 = g.D.Disk.state c.args.disk.now in
    let s2 = g.D.Disk.state c.sync_tables.new.disk in
    let s3 = g.D.Disk.state c.open_logs.new.disk in
    let honest2 = c.sync_tables.ensures.reads.kept.honest.1 honest in
    let honest3 = c.open_logs.ensures.reads.kept.honest.1 honest2 in
    let version = c.args.version.now.version in
    let is = subst (λ (v : NodeVersion). IsVersion v.version) c.version.view_is
    c.version.invariant in
    let lines : c.deref.result.now ≡ version.tables =
    c.deref.ensures.value ∙ ap (λ (v : NodeVersion). v.version.tables) c.version.view_is in
    let lines2 : c.deref-2.result.now ≡ version.tables =
    c.deref-2.ensures.value ∙ ap (λ (v : NodeVersion). v.version.tables) c.version.view_is in
    let synced = subst (AreSynced s1 s2) lines (c.in_ok-sync_tables.ensures.synced honest) in
    refuses c.from_residual-in_err-tables.result _ _
    c.from_residual-in_err-tables.ensures.1 (λ has. c.in_err-tables.ensures.opens.fits honest3
    (subst (All (FileFits (contents s3))) (sym lines2)
    (will_fit version is s1 s2 s3 synced (c.in_ok-logs.ensures.settled honest2).others has.fits)))

pub returns-then-not-are_ordered-clause-told : goal.returns-then-not-are_ordered-clause-told
returns-then-not-are_ordered-clause-told g c = λ honest has.
    let s1 = g.D.Disk.state c.args.disk.now in
    let s2 = g.D.Disk.state c.sync_tables.new.disk in
    let s3 = g.D.Disk.state c.open_logs.new.disk in
    let honest2 = c.sync_tables.ensures.reads.kept.honest.1 honest in
    let version = c.args.version.now.version in
    let logs = c.in_ok-logs.logs in
    let first = has.first in
    let batches = has.batches in
    let same = synced_reads s1 s2 c.deref.result.now (c.in_ok-sync_tables.ensures.synced honest) in
    let held = (c.in_ok-logs.ensures.opened first batches honest2
    (batches_same (contents s1) (contents s2) same version.logs first batches has.had)).0 in
    let trimmed : c.saturating_sub-trimmed.result ≡ first - 1 = c.saturating_sub-trimmed.ensures
    ∙ ap (λ (n : ℕ). n - 1) (c.first_number.ensures ∙ begins_at s3 logs first batches held) in
    let long = held_count s3 logs first batches held in
    let last = c.last_number.ensures in
    let positive = has.had.positive in
    let count : c.last_number.result ≡ first - 1 + length batches =
    omega (arith, last, long, positive) in
    absurd (not_true (sym c.if-not-are_ordered.true ∙ c.are_ordered.ensures.1
    (subst (λ (t : ℕ). AreOrderedNumbers version t c.last_number.result) (sym trimmed)
    (subst (AreOrderedNumbers version (first - 1)) (sym count) has.ordered))))

pub returns-in_err-sync_tables-clause-reads : goal.returns-in_err-sync_tables-clause-reads
returns-in_err-sync_tables-clause-reads g c = grind (arith, common_steps)

pub returns-in_err-sync_tables-clause-meant : goal.returns-in_err-sync_tables-clause-meant
returns-in_err-sync_tables-clause-meant g c = grind (arith, common_steps)

pub returns-in_err-sync_tables-clause-usable : goal.returns-in_err-sync_tables-clause-usable
returns-in_err-sync_tables-clause-usable g c = grind (arith, common_steps)

pub returns-in_err-logs-clause-meant : goal.returns-in_err-logs-clause-meant
returns-in_err-logs-clause-meant g c = grind (arith, common_steps)

pub returns-in_err-logs-clause-usable : goal.returns-in_err-logs-clause-usable
returns-in_err-logs-clause-usable g c = grind (arith, common_steps)

pub returns-in_err-tables-clause-meant : goal.returns-in_err-tables-clause-meant
returns-in_err-tables-clause-meant g c = grind (arith, common_steps)

pub returns-in_err-tables-clause-usable : goal.returns-in_err-tables-clause-usable
returns-in_err-tables-clause-usable g c = grind (arith, common_steps)

pub returns-then-not-are_ordered-clause-meant : goal.returns-then-not-are_ordered-clause-meant
returns-then-not-are_ordered-clause-meant g c = grind (arith, common_steps)

pub returns-then-not-are_ordered-clause-usable : goal.returns-then-not-are_ordered-clause-usable
returns-then-not-are_ordered-clause-usable g c = grind (arith, common_steps)

pub returns-clause-usable : goal.returns-clause-usable
returns-clause-usable g c = grind (arith, common_steps)
