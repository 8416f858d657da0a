use Rattle.std.proofs.Common.{arith}
use Rattle.std.proofs.lemmas.Grind.{common_steps}
use Rattle.std.proofs.Common.{◌≡◌, ℕ, List, [], ◌∙◌, ap, refl, subst, sym, rules}
use Rattle.disk.specs.{IsEnvironmental, contents}
use Rattle.record_log.specs.{LogHolds}
use Rattle.manifest.specs.declared.TableLine.{TableLine}
use Rattle.manifest.specs.{IsVersion, NodeVersion}
use Rattle.store_tables.specs.declared.error.EngineError.TheVariants as engine
use Rattle.store_tables.specs.Errors.{IsEnd}
use Rattle.store_tables.specs.LevelTables.{AreTablesOf}
use Rattle.store_files.proofs.BegunFiles.{counts_none, first_hold, first_line, log_is_spared}
use Rattle.store_files.proofs.BegunFiles.{no_file_ends, no_slot_yet}
use Rattle.store_files.proofs.BegunFiles.{first_log, log_ends, manifest_ends, only_first}
use Rattle.store_files.proofs.BegunFiles.{rest_is_unused}
use Rattle.store_tables.specs.RefusalLemmas.{refuses}
use Rattle.batch_logs.specs.PartsLemmas.{holds_in}
use Rattle.store_files.proofs.store_files.StoreFiles.create.Goals as goal

-- no table is opened
pub returns-in_err-tables-clause-created : goal.returns-in_err-tables-clause-created
returns-in_err-tables-clause-created g c = λ honest.
    let honest1 = c.remove_others.ensures.kept.honest.1 honest in
    let honest2 = c.create.ensures.kept.honest.1 honest1 in
    let honest3 = c.create-2.ensures.kept.honest.1 honest2 in
    let none : c.deref.result.now ≡ [] = c.deref.ensures.value
    ∙ ap (λ (n : NodeVersion). n.version.tables)
    (c.state.view_is ∙ c.state-state.ensures ∙ c.in_ok-manifest.ensures.works.0) in
    let read = subst (λ (lines : List TableLine).
    AreTablesOf (contents (g.D.Disk.state c.create-2.new.disk)) lines []) (sym none) tt in
    refuses c.from_residual-in_err-tables.result _ (IsEnvironmental engine.Disk engine.Memory)
    c.from_residual-in_err-tables.ensures.1 (c.in_err-tables.ensures.opens.opened [] honest3 read)

-- a refusal is for the device, for damage or for memory
pub returns-in_err-log-clause-begun : goal.returns-in_err-log-clause-begun
returns-in_err-log-clause-begun g c =
    refuses c.from_residual-in_err-log.result _ IsEnd c.from_residual-in_err-log.ensures.1
    (log_ends c.in_err-log.field-0.0)

pub returns-in_err-manifest-clause-begun : goal.returns-in_err-manifest-clause-begun
returns-in_err-manifest-clause-begun g c =
    refuses c.from_residual-in_err-manifest.result _ IsEnd
    c.from_residual-in_err-manifest.ensures.1
    (manifest_ends c.in_err-manifest.field-0.0 c.in_err-manifest.ensures.works)

-- the new log has no batch
pub returns-clause-begun : goal.returns-clause-begun
returns-clause-begun g c = record {
  facts = search rules;
  none = counts_none c.new-logs.result (record { first = 1; log = c.in_ok-log.log })
      (record { older = c.new-logs.ensures.alone.0; newest = c.new-logs.ensures.alone.1 }) refl
      c.in_ok-log.ensures.empty.1;
  usable = search rules;
}

-- a new log and a new manifest, and no other file
pub returns-clause-created : goal.returns-clause-created
returns-clause-created g c = λ honest.
    let honest1 = c.remove_others.ensures.kept.honest.1 honest in
    let honest2 = c.create.ensures.kept.honest.1 honest1 in
    let honest3 = c.create-2.ensures.kept.honest.1 honest2 in
    let s0 = g.D.Disk.state c.remove_others.new.disk in
    let s1 = g.D.Disk.state c.create.new.disk in
    let s2 = g.D.Disk.state c.create-2.new.disk in
    let s3 = g.D.Disk.state c.open.new.disk in
    let alone = c.in_ok-remove_others.ensures.alone honest in
    let log_kept = c.create.ensures.kept.files honest1 in
    let slots_kept = c.create-2.ensures.kept.files honest2 in
    let same = c.open.ensures.reads.kept.files honest3 in
    let none : c.deref.result.now ≡ [] = c.deref.ensures.value
    ∙ ap (λ (n : NodeVersion). n.version.tables)
    (c.state.view_is ∙ c.state-state.ensures ∙ c.in_ok-manifest.ensures.works.0) in
    let read = subst (λ (lines : List TableLine). AreTablesOf (contents s2) lines [])
    (sym none) tt in
    let log = c.in_ok-log.log in
    let at = c.in_ok-log.ensures.at in
    let log_held : LogHolds s1 log [] =
    c.in_ok-log.ensures.created honest1 (no_file_ends s0 3 alone) in
    let is_spared : s3 log.file ≡ s1 log.file =
    subst (λ (file : ℕ). s3 file ≡ s1 file) (sym at.in_file)
    (log_is_spared s1 s2 s3 slots_kept same) in
    first_hold _ (record { first = 1; log = log }) c.args.id c.args.config.now (record {
      works = c.in_ok-manifest.ensures.works.1;
      known = c.in_ok-manifest.ensures.works.0;
      version = subst IsVersion
          (ap (λ (n : NodeVersion). n.version) (c.state.view_is ∙ c.state-state.ensures))
          c.state.invariant;
      alone = record { older = c.new-logs.ensures.alone.0; newest = c.new-logs.ensures.alone.1 };
      log_works = at.works;
      line = c.new-logs.ensures.lines ∙ first_line log.file 1 at.in_file refl;
      first = refl;
      count = c.in_ok-log.ensures.empty.1;
      tables = c.in_ok-tables.ensures.opens.lines ∙ c.deref.ensures.value
          ∙ ap (λ (n : NodeVersion). n.version.tables) (c.state.view_is ∙ c.state-state.ensures);
      memtable_works = c.new-memtable.ensures.works;
      empty = c.new-memtable.ensures.empty;
      free = c.next_file_of-free_file.ensures;
    }) c.empty_represents.ensures s3
    (c.held_versions_are_left.ensures.same s2 s3 c.in_ok-manifest.manifest _
    (c.in_ok-manifest.ensures.created honest2
    (no_slot_yet s0 s1 1 log_kept alone (λ is. absurd cc))
    (no_slot_yet s0 s1 2 log_kept alone (λ is. absurd cc))).holds (λ slot is. same slot))
    (record { first = refl; from = at.from; log = holds_in s1 s3 log [] is_spared log_held })
    (c.in_ok-tables.ensures.opens.opened [] honest3 read)
    (rest_is_unused s0 s1 s2 s3 alone log_kept slots_kept same)

-- nor did those calls leave any
pub returns-clause-first : goal.returns-clause-first
returns-clause-first g c = λ honest.
    let honest1 = c.remove_others.ensures.kept.honest.1 honest in
    let honest2 = c.create.ensures.kept.honest.1 honest1 in
    let honest3 = c.create-2.ensures.kept.honest.1 honest2 in
    let s0 = g.D.Disk.state c.remove_others.new.disk in
    let s1 = g.D.Disk.state c.create.new.disk in
    let s2 = g.D.Disk.state c.create-2.new.disk in
    let s3 = g.D.Disk.state c.open.new.disk in
    let alone = c.in_ok-remove_others.ensures.alone honest in
    let log_kept = c.create.ensures.kept.files honest1 in
    let slots_kept = c.create-2.ensures.kept.files honest2 in
    let same = c.open.ensures.reads.kept.files honest3 in
    let made = c.in_ok-manifest.ensures.created honest2
    (no_slot_yet s0 s1 1 log_kept alone (λ is. absurd cc))
    (no_slot_yet s0 s1 2 log_kept alone (λ is. absurd cc)) in
    record {
      slots = record {
        first = same 1 ∙ made.slots.first;
        second = same 2 ∙ made.slots.second;
      };
      log = log_is_spared s1 s2 s3 slots_kept same
          ∙ first_log s0 s1 alone (c.in_ok-log.ensures.spelled honest1);
      alone = only_first s0 s1 s2 s3 alone log_kept slots_kept same;
    }

pub returns-in_err-remove_others-clause-kept : goal.returns-in_err-remove_others-clause-kept
returns-in_err-remove_others-clause-kept g c = grind (arith, common_steps)

pub returns-in_err-remove_others-clause-created : goal.returns-in_err-remove_others-clause-created
returns-in_err-remove_others-clause-created g c = grind (arith, common_steps)

pub returns-in_err-remove_others-clause-begun : goal.returns-in_err-remove_others-clause-begun
returns-in_err-remove_others-clause-begun g c = grind (arith, common_steps)

pub returns-in_err-remove_others-clause-counter : goal.returns-in_err-remove_others-clause-counter
returns-in_err-remove_others-clause-counter g c = grind (arith, common_steps)

pub returns-in_err-remove_others-clause-first : goal.returns-in_err-remove_others-clause-first
returns-in_err-remove_others-clause-first g c = grind (arith, common_steps)

pub returns-in_err-log-clause-kept : goal.returns-in_err-log-clause-kept
returns-in_err-log-clause-kept g c = grind (arith, common_steps)

pub returns-in_err-log-clause-created : goal.returns-in_err-log-clause-created
returns-in_err-log-clause-created g c = grind (arith, common_steps)

pub returns-in_err-log-clause-counter : goal.returns-in_err-log-clause-counter
returns-in_err-log-clause-counter g c = grind (arith, common_steps)

pub returns-in_err-log-clause-first : goal.returns-in_err-log-clause-first
returns-in_err-log-clause-first g c = grind (arith, common_steps)

pub returns-in_err-manifest-clause-kept : goal.returns-in_err-manifest-clause-kept
returns-in_err-manifest-clause-kept g c = grind (arith, common_steps)

pub returns-in_err-manifest-clause-created : goal.returns-in_err-manifest-clause-created
returns-in_err-manifest-clause-created g c = grind (arith, common_steps)

pub returns-in_err-manifest-clause-counter : goal.returns-in_err-manifest-clause-counter
returns-in_err-manifest-clause-counter g c = grind (arith, common_steps)

pub returns-in_err-manifest-clause-first : goal.returns-in_err-manifest-clause-first
returns-in_err-manifest-clause-first g c = grind (arith, common_steps)

pub returns-in_err-tables-clause-kept : goal.returns-in_err-tables-clause-kept
returns-in_err-tables-clause-kept g c = grind (arith, common_steps)

pub returns-in_err-tables-clause-begun : goal.returns-in_err-tables-clause-begun
returns-in_err-tables-clause-begun g c = grind (arith, common_steps)

pub returns-in_err-tables-clause-counter : goal.returns-in_err-tables-clause-counter
returns-in_err-tables-clause-counter g c = grind (arith, common_steps)

pub returns-in_err-tables-clause-first : goal.returns-in_err-tables-clause-first
returns-in_err-tables-clause-first g c = grind (arith, common_steps)

pub returns-clause-kept : goal.returns-clause-kept
returns-clause-kept g c = grind (arith, common_steps)

pub returns-clause-counter : goal.returns-clause-counter
returns-clause-counter g c = grind (arith, common_steps)
