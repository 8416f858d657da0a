mod Installs
mod Plans
use Rattle.std.proofs.Common.{◌+◌, ◌-◌, ℕ, ap, arith, drop, inr, refl, subst, suc, sym}
use Rattle.disk.specs.{IsEnvironmental}
use Rattle.manifest.specs.{IsFit, NodeVersion}
use Rattle.store_files.specs.declared.store_files.StoreFiles.{StoreFiles}
use Rattle.store_tables.specs.declared.error.EngineError.TheVariants as engine
use Rattle.store_tables.specs.Errors.{IsEnd}
use Rattle.disk.specs.KeepingLemmas.{answered, kept_as, kept_behind, kept_but, neither}
use Rattle.store_files.specs.OpenFiles.{batch_count, known_version, trimmed_count}
use Rattle.store_files.specs.StoreFiles.{flush_change}
use Rattle.store_files.proofs.Appended.{first_same}
use Rattle.store_tables.specs.RefusalLemmas.{passed_on, refuses}
use Rattle.store_files.proofs.FlushVersions.{beside_new, count_kept, edit_is, flush_by, facts_kept}
use Rattle.store_files.proofs.Installed.{edit_is_recorded, log_begins, manifest_begun, new_ends}
use Rattle.store_files.proofs.Installed.{none_begun, spilled_named}
use Rattle.store_files.proofs.MeantInstalls.{edit_was_recorded, log_was_begun, manifest_was_begun}
use Rattle.store_files.proofs.MeantInstalls.{meant_ends, meant_logs, none_were}
use Rattle.store_files.proofs.NamedHolds.{facts_same, first_begun}
use Rattle.store_files.proofs.TendKeeps.{refusal_on_ok, refused_before, refused_device}
use Rattle.store_files.proofs.TendedFiles.{beside_both, counting_alone, log_alone}
use Rattle.store_files.proofs.Tends.{edit_ends, edit_failed, edit_is_external}
use Rattle.store_files.proofs.Plans.{refused_plans}
use Rattle.store_files.proofs.store_files.StoreFiles.install.Answers.Plans.{ends_as_before}
use Rattle.store_files.proofs.store_files.StoreFiles.install.Answers.Installs.{installs}
use Rattle.store_files.proofs.store_files.StoreFiles.install.Goals as goal

-- the new log has a file of its own
pub begin-requires-clause-new : goal.begin-requires-clause-new
begin-requires-clause-new g c =
    let files = c.args.self.now in
    let line = c.args.made.line in
    let so = flush_by files line c.in_ok-edit.edit c.requires.usable c.requires.place
    c.requires.next.next
    (edit_is files line c.state.result.now c.last_number-count.result c.in_ok-edit.edit
    c.state.ensures c.last_number-count.ensures c.in_ok-edit.ensures.edit) in
    beside_new so

-- nothing was called yet
pub returns-in_err-edit-clause-installs : goal.returns-in_err-edit-clause-installs
returns-in_err-edit-clause-installs g c =
    let files = c.args.self.now in
    let line = c.args.made.line in
    let edit = flush_change (known_version files).version files.free_file (batch_count files) line
    in
    let so = flush_by files line edit c.requires.usable c.requires.place c.requires.next.next
    refl in
    let law = c.durable_file_is_left.ensures in
    let held = c.held_versions_are_left.ensures in
    let s1 = g.D.Disk.state c.args.disk.now in
    let p1 = g.D.Disk.past c.args.disk.now in
    refused_before g.D.Disk c.args.disk.now files c.from_residual.result c.from_residual.ensures.1
    (λ list hs. none_begun so s1 list c.args.made.table hs law held.left held.same p1)
    (λ list ms. none_were so s1 list c.args.made.table ms law held.left held.same p1)

-- ---- the log

-- it was not begun
pub returns-in_err-begin-clause-installs : goal.returns-in_err-begin-clause-installs
returns-in_err-begin-clause-installs g c =
    let files = c.args.self.now in
    let line = c.args.made.line in
    let so = flush_by files line c.in_ok-edit.edit c.requires.usable c.requires.place
    c.requires.next.next
    (edit_is files line c.state.result.now c.last_number-count.result c.in_ok-edit.edit
    c.state.ensures c.last_number-count.ensures c.in_ok-edit.ensures.edit) in
    let result = c.from_residual-in_err-begin.result in
    let told = c.from_residual-in_err-begin.ensures.1 in
    let law = c.durable_file_is_left.ensures in
    let held = c.held_versions_are_left.ensures in
    let s1 = g.D.Disk.state c.args.disk.now in
    let s2 = g.D.Disk.state c.begin.new.disk in
    let p1 = g.D.Disk.past c.args.disk.now in
    let p2 = g.D.Disk.past c.begin.new.disk in
    let trimmed = trimmed_count files in
    let logs = c.begin.new.self in
    let begun = c.in_err-begin.ensures.told in
    record {
      kept = kept_but g.D.Disk (λ none. absurd none) (kept_as g.D.Disk
          (passed_on c.begin.result c.in_err-begin.field-0.0 result c.in_err-begin.was told)
          (λ a b same. tt) c.begin.ensures.kept);
      touches = λ honest. log_alone files s1 s2 (files.free_file + 1) refl
          (c.begin.ensures.kept.files honest);
      numbers = (
        ap (λ (n : ℕ). n - 1) begun.0,
        facts_same files (record files { logs = logs }) refl
            (first_same files.logs logs begun.1),
      );
      usable = refusal_on_ok result _ _ told;
      did = refuses result _ IsEnd told begun.2;
      tended = λ list honest hs. record {
        list = refuses result _ (IsEnvironmental engine.Disk engine.Memory) told
            (c.in_err-begin.ensures.begun (suc trimmed) (drop trimmed list) honest
            (new_ends so s1 list c.args.made.table hs)
            (spilled_named so s1 list c.args.made.table hs).held);
        any_moment = log_begins so s1 list c.args.made.table hs law held.left held.same
            p1 p2 s2 (c.begin.ensures.any_moment honest);
      };
      meant = λ list honest ms. record {
        list = refuses result _ (IsEnvironmental engine.Disk engine.Memory) told
            (c.in_err-begin.ensures.begun (suc trimmed) (drop trimmed list) honest
            (meant_ends so s1 list c.args.made.table ms)
            (meant_logs so s1 list c.args.made.table ms));
        any_moment = log_was_begun so s1 list c.args.made.table ms law held.left
            held.same p1 p2 s2
            (c.begin.ensures.any_moment honest);
      };
    }

-- ---- the edit

-- it was not recorded, or a crash may leave it recorded
pub returns-in-Err-clause-installs : goal.returns-in-Err-clause-installs
returns-in-Err-clause-installs g c =
    let files = c.args.self.now in
    let line = c.args.made.line in
    let so = flush_by files line c.in_ok-edit.edit c.requires.usable c.requires.place
    c.requires.next.next
    (edit_is files line c.state.result.now c.last_number-count.result c.in_ok-edit.edit
    c.state.ensures c.last_number-count.ensures c.in_ok-edit.ensures.edit) in
    let why = c.refusal_of_edit.ensures in
    let begun = c.in_ok-begin.ensures.told in
    let fit = c.in_ok-edit.ensures.fit in
    let fits = subst (λ (n : NodeVersion). IsFit n.version c.in_ok-edit.edit) c.state.ensures
    fit.0 in
    let law = c.durable_file_is_left.ensures in
    let left = c.held_versions_are_left.ensures.left in
    let stays = c.held_versions_are_left.ensures.same in
    let keeps = c.flushes_keep.ensures.list in
    let edits = c.edits_keep_versions.ensures in
    let s1 = g.D.Disk.state c.args.disk.now in
    let s2 = g.D.Disk.state c.begin.new.disk in
    let s3 = g.D.Disk.state c.record.new.disk in
    let p1 = g.D.Disk.past c.args.disk.now in
    let p2 = g.D.Disk.past c.begin.new.disk in
    let p3 = g.D.Disk.past c.record.new.disk in
    let logs = c.begin.new.self in
    let table = c.args.made.table in
    record {
      kept = kept_behind g.D.Disk (λ a b d before after. tt) c.begin.ensures.kept
          (answered c.begin.result c.in_ok-begin.was) (kept_but g.D.Disk
          (λ room. c.slots_reach_gates.ensures.full files.manifest c.in_ok-edit.edit fits fit.1
          room) (kept_as g.D.Disk (edit_failed c.in-Err.e _ why) (λ a b same. same)
          c.in-Err.ensures.changes.kept));
      touches = λ honest. beside_both files s1 s2 s3
          (log_alone files s1 s2 (files.free_file + 1) refl (c.begin.ensures.kept.files honest))
          (counting_alone files s2 s3
          (c.record.ensures.changes.kept.files (c.begin.ensures.kept.honest.1 honest)));
      numbers = (
        ap (λ (n : ℕ). n - 1) begun.1,
        facts_same files (record files { manifest = c.record.new.self; logs = c.begin.new.self })
            c.in-Err.ensures.told.0
            (first_begun files.logs c.begin.new.self (files.free_file + 1) begun.2),
      );
      usable = tt;
      did = subst IsEnd (sym why) (edit_ends c.in-Err.e);
      tended = λ list honest hs.
          let spares = c.begin.ensures.kept.files honest in
          let honest2 = c.begin.ensures.kept.honest.1 honest in
          let began = c.in_ok-begin.ensures.begun (suc (trimmed_count files))
          (drop (trimmed_count files) list) honest
          (new_ends so s1 list table hs) (spilled_named so s1 list table hs).held in
          let held =
          manifest_begun so s1 list table hs s2 spares logs begun.2 began keeps stays in
          record {
            list = subst
                (IsEnvironmental engine.Disk engine.Memory) (sym why) (edit_is_external c.in-Err.e
                (c.in-Err.ensures.changes.changed (known_version files) honest2 held));
            any_moment = edit_is_recorded so s1 list table hs s2 spares logs begun.2 began
                keeps law left stays edits p1 p2 p3 s3 (c.begin.ensures.any_moment honest)
                (c.record.ensures.changes.any_moment (known_version files) honest2 held);
          };
      meant = λ list honest ms.
          let spares = c.begin.ensures.kept.files honest in
          let honest2 = c.begin.ensures.kept.honest.1 honest in
          let began = c.in_ok-begin.ensures.begun (suc (trimmed_count files))
          (drop (trimmed_count files) list) honest
          (meant_ends so s1 list table ms) (meant_logs so s1 list table ms) in
          let held =
          manifest_was_begun so s1 list table ms s2 spares logs begun.2 began keeps stays in
          record {
            list = subst
                (IsEnvironmental engine.Disk engine.Memory) (sym why) (edit_is_external c.in-Err.e
                (c.in-Err.ensures.changes.changed (known_version files) honest2 held));
            any_moment = edit_was_recorded so s1 list table ms s2 spares logs begun.2 began
                keeps law left stays edits p1 p2 p3 s3 (c.begin.ensures.any_moment honest)
                (c.record.ensures.changes.any_moment (known_version files) honest2 held);
          };
    }

-- the table was not added: memory is out
pub returns-in_err-add-clause-installs : goal.returns-in_err-add-clause-installs
returns-in_err-add-clause-installs g c =
    let files = c.args.self.now in
    let line = c.args.made.line in
    let so = flush_by files line c.in_ok-edit.edit c.requires.usable c.requires.place
    c.requires.next.next
    (edit_is files line c.state.result.now c.last_number-count.result c.in_ok-edit.edit
    c.state.ensures c.last_number-count.ensures c.in_ok-edit.ensures.edit) in
    let result = c.from_residual-in_err-add.result in
    let told = c.from_residual-in_err-add.ensures.1 in
    let begun = c.in_ok-begin.ensures.told in
    let fit = c.in_ok-edit.ensures.fit in
    let fits = subst (λ (n : NodeVersion). IsFit n.version c.in_ok-edit.edit) c.state.ensures
    fit.0 in
    let law = c.durable_file_is_left.ensures in
    let left = c.held_versions_are_left.ensures.left in
    let stays = c.held_versions_are_left.ensures.same in
    let keeps = c.flushes_keep.ensures.list in
    let edits = c.edits_keep_versions.ensures in
    let s1 = g.D.Disk.state c.args.disk.now in
    let s2 = g.D.Disk.state c.begin.new.disk in
    let s3 = g.D.Disk.state c.record.new.disk in
    let p1 = g.D.Disk.past c.args.disk.now in
    let p2 = g.D.Disk.past c.begin.new.disk in
    let p3 = g.D.Disk.past c.record.new.disk in
    let logs = c.begin.new.self in
    let table = c.args.made.table in
    let new : StoreFiles = record files {
      manifest = c.record.new.self;
      logs = c.begin.new.self;
      free_file = files.free_file + 2;
    } in
    record {
      kept = kept_behind g.D.Disk (λ a b d before after. tt) c.begin.ensures.kept
          (answered c.begin.result c.in_ok-begin.was) (kept_but g.D.Disk
          (λ room. c.slots_reach_gates.ensures.full files.manifest c.in_ok-edit.edit fits fit.1
          room) (kept_as g.D.Disk (neither (λ f. absurd cc) (refused_device result told refl))
          (λ a b same. same) c.in_default.ensures.changes.kept));
      touches = λ honest. beside_both files s1 s2 s3
          (log_alone files s1 s2 (files.free_file + 1) refl (c.begin.ensures.kept.files honest))
          (counting_alone files s2 s3
          (c.record.ensures.changes.kept.files (c.begin.ensures.kept.honest.1 honest)));
      numbers = (
        count_kept so new c.in_default.ensures.told.0 begun.2 begun.1,
        facts_kept so new c.in_default.ensures.told.0 begun.2,
      );
      usable = refusal_on_ok result _ _ told;
      did = refuses result _ IsEnd told tt;
      tended = λ list honest hs.
          let spares = c.begin.ensures.kept.files honest in
          let honest2 = c.begin.ensures.kept.honest.1 honest in
          let began = c.in_ok-begin.ensures.begun (suc (trimmed_count files))
          (drop (trimmed_count files) list) honest
          (new_ends so s1 list table hs) (spilled_named so s1 list table hs).held in
          let held =
          manifest_begun so s1 list table hs s2 spares logs begun.2 began keeps stays in
          record {
            list = refuses result _ (IsEnvironmental engine.Disk engine.Memory) told (inr refl);
            any_moment = edit_is_recorded so s1 list table hs s2 spares logs begun.2 began
                keeps law left stays edits p1 p2 p3 s3 (c.begin.ensures.any_moment honest)
                (c.record.ensures.changes.any_moment (known_version files) honest2 held);
          };
      meant = λ list honest ms.
          let spares = c.begin.ensures.kept.files honest in
          let honest2 = c.begin.ensures.kept.honest.1 honest in
          let began = c.in_ok-begin.ensures.begun (suc (trimmed_count files))
          (drop (trimmed_count files) list) honest
          (meant_ends so s1 list table ms) (meant_logs so s1 list table ms) in
          let held =
          manifest_was_begun so s1 list table ms s2 spares logs begun.2 began keeps stays in
          record {
            list = refuses result _ (IsEnvironmental engine.Disk engine.Memory) told (inr refl);
            any_moment = edit_was_recorded so s1 list table ms s2 spares logs begun.2 began
                keeps law left stays edits p1 p2 p3 s3 (c.begin.ensures.any_moment honest)
                (c.record.ensures.changes.any_moment (known_version files) honest2 held);
          };
    }

-- ---- the new version names the log and the table

pub returns-clause-installs : goal.returns-clause-installs
returns-clause-installs = installs

-- ---- plans

pub returns-in_err-edit-clause-plans : goal.returns-in_err-edit-clause-plans
returns-in_err-edit-clause-plans g c =
    refused_plans g.D.Disk c.from_residual.result _ c.from_residual.ensures.1 (omega arith)

pub returns-in_err-begin-clause-plans : goal.returns-in_err-begin-clause-plans
returns-in_err-begin-clause-plans g c =
    refused_plans g.D.Disk c.from_residual-in_err-begin.result _
    c.from_residual-in_err-begin.ensures.1 (omega arith)

pub returns-in-Err-clause-plans : goal.returns-in-Err-clause-plans
returns-in-Err-clause-plans g c =
    record {
      free = omega arith;
      held = λ list plan honest it. tt;
      meant = λ list plan honest it. tt;
    }

pub returns-in_err-add-clause-plans : goal.returns-in_err-add-clause-plans
returns-in_err-add-clause-plans g c =
    refused_plans g.D.Disk c.from_residual-in_err-add.result _
    c.from_residual-in_err-add.ensures.1 (omega arith)

pub returns-clause-plans : goal.returns-clause-plans
returns-clause-plans = ends_as_before
