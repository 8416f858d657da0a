use Rattle.std.proofs.Common.{◌≡◌, ◌-◌, ◌∷◌, ◌++◌, ◌∙◌, [], List, ℕ, suc, ap, arith, rules, subst}
use Rattle.std.proofs.Common.{sym}
use Rattle.disk.specs.{IsEnvironmental, contents}
use Rattle.version_edits.specs.declared.line.LogLine.{LogLine}
use Rattle.version_edits.specs.{NodeVersion}
use Rattle.batch_logs.specs.declared.batch_logs.BatchLog.{BatchLog}
use Rattle.batch_logs.specs.BatchLogs.{HaveBatches}
use Rattle.batch_logs.specs.Replaying.{AreInLine, AreOfDifferentFiles, AreReadLogs}
use Rattle.batch_logs.specs.Syncs.{SparesAllBut}
use Rattle.store_tables.specs.declared.error.EngineError.TheVariants as engine
use Rattle.store_tables.specs.RefusalLemmas.{refuses}
use Rattle.batch_logs.proofs.OpenLogs.{are_replayed, begins, different_files, open_logs_are}
use Rattle.batch_logs.proofs.OpenLogs.{were_read}
use Rattle.batch_logs.proofs.replaying.open_logs.Goals as goal

-- no file is named twice
pub read_logs-requires-clause-apart : goal.read_logs-requires-clause-apart
read_logs-requires-clause-apart g c =
    subst AreOfDifferentFiles (sym c.deref.ensures.value)
    (different_files c.version.inside.logs.items c.version.inside.tables.items
    c.version.invariant.lawful.files_once)

-- the files have batches, behind the number before the first line's
pub returns-in_err-older : goal.returns-in_err-older
returns-in_err-older g c = record {
  reads = search rules;
  opened = λ first batches honest had.
      let left = contents (g.D.Disk.state c.args.disk.now) in
      let items = c.version.inside.logs.items in
      let named = ap (λ (v : NodeVersion). v.version.logs) c.version.view_is in
      let have : HaveBatches left first items batches =
      subst (λ (l : List LogLine). HaveBatches left first l batches) (sym named) had.have in
      let at = begins left first items c.index.result.now batches c.index.ensures
      c.version.invariant.lawful.some have in
      let positive = had.positive in
      let few = had.few in
      let next : first ≡ suc (c.index.result.now.first - 1) = omega (arith, at, positive) in
      refuses c.from_residual.result _
      (IsEnvironmental engine.Disk engine.Memory) c.from_residual.ensures.1
      (c.in_err-older.ensures.opened batches honest
      (subst (λ (n : ℕ). HaveBatches left n c.deref.result.now batches) next
      (subst (λ (l : List LogLine). HaveBatches left first l batches)
      (sym c.deref.ensures.value) have))
      had.each (omega (arith, next, few)));
  told = search rules;
  usable = search rules;
  settled = search rules;
}

-- the last log is the newest
split_so : (g : _) (c : goal.After-of g) →
    c.in_ok-older.older.items ≡ c.of.result.older.items ++ c.of.result.newest ∷ []
split_so g c = c.in-Some.ensures.items
    ∙ ap (λ (l : List BatchLog). l ++ c.in-Some.newest ∷ []) (sym c.of.ensures.0)
    ∙ ap (λ (one : BatchLog). c.of.result.older.items ++ one ∷ []) (sym c.of.ensures.1)

-- the lines that were read are those of the version
lines_so : (g : _) (c : goal.After-of g) → c.deref.result.now ≡ c.args.version.now.version.logs
lines_so g c = c.deref.ensures.value
    ∙ ap (λ (v : NodeVersion). v.version.logs) c.version.view_is

line_so : (g : _) (c : goal.After-of g) → AreInLine c.args.version.now.version.logs
    (c.index.result.now.first - 1) c.in_ok-older.ensures.told.0 c.in_ok-older.older.items
    c.in_ok-older.memtable
line_so g c =
    subst (λ (l : List LogLine). AreInLine l (c.index.result.now.first - 1)
    c.in_ok-older.ensures.told.0 c.in_ok-older.older.items c.in_ok-older.memtable) (lines_so g c)
    c.in_ok-older.ensures.told.1

read_so : (g : _) (c : goal.After-of g) (honest : g.D.Disk.is_honest c.args.disk.now) →
    AreReadLogs (g.D.Disk.state c.args.disk.now) (g.D.Disk.state c.read_logs.new.disk)
    c.args.version.now.version.logs (c.index.result.now.first - 1)
    c.args.version.now.version.flushed (c.in_ok-older.ensures.read honest).1
    c.in_ok-older.older.items c.in_ok-older.memtable
read_so g c honest =
    let s0 = g.D.Disk.state c.args.disk.now in
    let s1 = g.D.Disk.state c.read_logs.new.disk in
    let older = c.in_ok-older.older.items in
    let memtable = c.in_ok-older.memtable in
    let before = c.index.result.now.first - 1 in
    let read = c.in_ok-older.ensures.read honest in
    let is_flushed = ap (λ (v : NodeVersion). v.version.flushed) c.version.view_is in
    subst (λ (l : List LogLine). AreReadLogs s0 s1 l before c.args.version.now.version.flushed
    read.1 older memtable) (lines_so g c)
    (subst (λ (n : ℕ). AreReadLogs s0 s1 c.deref.result.now before n read.1 older memtable)
    is_flushed read.2)

-- the batches are those that were read
pub returns : goal.returns
returns g c = record {
  reads = search rules;
  opened = λ first batches honest had.
      let s0 = g.D.Disk.state c.args.disk.now in
      let before = c.index.result.now.first - 1 in
      let view = ap (λ (v : NodeVersion). v.version.logs) c.version.view_is in
      let at = begins (contents s0) first c.version.inside.logs.items c.index.result.now batches
      c.index.ensures c.version.invariant.lawful.some
      (subst (λ (l : List LogLine). HaveBatches (contents s0) first l batches) (sym view)
      had.have) in
      let positive = had.positive in
      let next : first ≡ suc before = omega (arith, at, positive) in
      were_read c.args.version.now.version.logs before c.in_ok-older.ensures.told.0
      c.in_ok-older.older.items c.in_ok-older.memtable (line_so g c) c.of.result (split_so g c) s0
      (g.D.Disk.state c.read_logs.new.disk) c.args.version.now.version.flushed
      (c.in_ok-older.ensures.read honest).1 (read_so g c honest) c.records_are_unique.ensures
      c.spellings_differ.ensures first batches had next;
  told = λ honest.
      are_replayed c.args.version.now.version.logs (c.index.result.now.first - 1)
      c.in_ok-older.ensures.told.0 c.in_ok-older.older.items c.in_ok-older.memtable (line_so g c)
      c.of.result (split_so g c) (g.D.Disk.state c.args.disk.now)
      (g.D.Disk.state c.read_logs.new.disk) c.args.version.now.version.flushed
      (c.in_ok-older.ensures.read honest).1 (read_so g c honest);
  usable = let view = ap (λ (v : NodeVersion). v.version.logs) c.version.view_is in
      open_logs_are c.args.version.now.version.logs (c.index.result.now.first - 1)
      c.in_ok-older.ensures.told.0 c.in_ok-older.older.items c.in_ok-older.memtable (line_so g c)
      c.of.result (split_so g c)
      (subst AreOfDifferentFiles view (different_files c.version.inside.logs.items
      c.version.inside.tables.items c.version.invariant.lawful.files_once));
  settled = λ honest. record {
    others = subst (λ (l : List LogLine). SparesAllBut l (g.D.Disk.state c.args.disk.now)
        (g.D.Disk.state c.read_logs.new.disk)) (lines_so g c) (c.in_ok-older.ensures.read honest).0;
    each = (read_so g c honest).settles;
  };
}
