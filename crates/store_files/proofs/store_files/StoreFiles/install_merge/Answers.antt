use Rattle.std.proofs.Common.{◌≡◌, ◌∙◌, ℕ, List, ap, inr, refl, subst, sym}
use Rattle.std.specs.Prelude.{MatchResult, map}
use Rattle.disk.specs.MomentsLemmas.{join}
use Rattle.disk.specs.{AlwaysLeaves, IsEnvironmental, contents}
use Rattle.manifest.specs.{Change, ManifestHolds}
use Rattle.version_edits.specs.declared.line.TableLine.{TableLine}
use Rattle.version_edits.specs.declared.line.TableName.{TableName}
use Rattle.compaction.specs.{tables_after}
use Rattle.store_tables.specs.declared.error.EngineError.TheVariants as engine
use Rattle.store_tables.specs.Errors.{IsEnd}
use Rattle.disk.specs.KeepingLemmas.{answered, kept_as, kept_behind, kept_but, neither}
use Rattle.store_tables.specs.LevelTables.{AreTablesOf, table_lines}
use Rattle.store_tables.specs.RefusalLemmas.{lacks_memory, on_ok, passed_on, refuses}
use Rattle.store_files.specs.declared.store_files.StoreFiles.{StoreFiles}
use Rattle.store_files.specs.Merging.{replaced_files}
use Rattle.store_files.specs.OpenFiles.{known_version}
use Rattle.store_files.specs.Removing.{AreAbsent, AreLeftBeside}
use Rattle.store_files.specs.Tending.{IsSameBeside}
use Rattle.store_files.proofs.MeantMerges.{WereOfStore, inputs_were_removed, meant_after}
use Rattle.store_files.proofs.MeantMerges.{merge_was_recorded, outputs_were_served}
use Rattle.store_files.proofs.MeantMerges.{still_were_served}
use Rattle.store_files.proofs.Meant.{own_blocks, zip_was}
use Rattle.store_files.proofs.MeantOpenings.{zip_serves}
use Rattle.store_files.proofs.Merged.{AreMerged, count_after, facts_after, facts_recorded}
use Rattle.store_files.proofs.Merged.{lines_replaced, slot_alone, slot_then_inputs}
use Rattle.store_files.proofs.Merged.{slots_stay_behind, tables_replaced, usable_after}
use Rattle.store_files.proofs.MeantTends.{manifest_holds}
use Rattle.store_files.proofs.MergeRefusals.{refused_behind_reads}
use Rattle.store_files.proofs.MergeMoments.{OfStore, held_after, inputs_are_removed}
use Rattle.store_files.proofs.MergeMoments.{merge_is_recorded, still_served}
use Rattle.store_files.proofs.RaiseMoments.{did_or_ends, held_or_external, left_on_ok}
use Rattle.store_files.proofs.TendKeeps.{refusal_on_ok, refused_device}
use Rattle.store_files.proofs.Tends.{edit_ends, edit_failed, edit_is_external, facts_with}
use Rattle.store_files.proofs.store_files.StoreFiles.install_merge.Goals as goal

-- an output was not opened
pub returns-in_err-opened-clause-merges : goal.returns-in_err-opened-clause-merges
returns-in_err-opened-clause-merges g c =
    let held = c.held_versions_are_left.ensures in
    let s1 = g.D.Disk.state c.args.disk.now in
    let added_is : c.deref.result.now ≡ c.args.edit.now.tables_added =
    c.deref.ensures.value ∙ ap (λ (e : Change). e.tables_added) c.edit.view_is in
    let result = c.from_residual.result in
    let told = c.from_residual.ensures.1 in
    let refusal = c.in_err-opened.ensures in
    refused_behind_reads g.D.Disk c.requires c.replaced_tables_are_edited.ensures.lines
    c.durable_file_is_left.ensures held.left held.same c.edits_keep_versions.ensures
    c.args.disk.now c.«open».new.disk result c.in_err-opened.field-0.0 told refusal.reads.causes
    (λ outputs honest read. refusal.opens.opened outputs honest
    (subst (λ (l : List TableLine). AreTablesOf (contents s1) l outputs) (sym added_is) read))
    (kept_as g.D.Disk
    (passed_on c.«open».result c.in_err-opened.field-0.0 result c.in_err-opened.was told)
    (λ a b same. same) c.«open».ensures.reads.kept) c.«open».ensures.reads.still

-- memory is out
pub returns-in_err-inputs-clause-merges : goal.returns-in_err-inputs-clause-merges
returns-in_err-inputs-clause-merges g c =
    let held = c.held_versions_are_left.ensures in
    let result = c.from_residual-in_err-inputs.result in
    let told = c.from_residual-in_err-inputs.ensures.1 in
    refused_behind_reads g.D.Disk c.requires c.replaced_tables_are_edited.ensures.lines
    c.durable_file_is_left.ensures held.left held.same c.edits_keep_versions.ensures
    c.args.disk.now c.«open».new.disk result engine.Memory told tt
    (λ outputs honest read. inr refl)
    (kept_as g.D.Disk (neither (λ f. absurd cc) (lacks_memory result told)) (λ a b same. same)
    c.in_ok-opened.ensures.reads.kept) c.«open».ensures.reads.still

-- ---- the edit

-- it was not recorded, or a crash may leave it recorded
pub returns-in-Err-clause-merges : goal.returns-in-Err-clause-merges
returns-in-Err-clause-merges g c =
    let files = c.args.self.now in
    let known = known_version files in
    let may = c.requires in
    let edit = c.args.edit.now in
    let names = c.replaced_tables_are_edited.ensures.lines in
    let law = c.durable_file_is_left.ensures in
    let held = c.held_versions_are_left.ensures in
    let versions = c.edits_keep_versions.ensures in
    let why = c.refusal_of_edit.ensures in
    let s1 = g.D.Disk.state c.args.disk.now in
    let s2 = g.D.Disk.state c.«open».new.disk in
    let s3 = g.D.Disk.state c.record.new.disk in
    let p1 = g.D.Disk.past c.args.disk.now in
    let p2 = g.D.Disk.past c.«open».new.disk in
    let p3 = g.D.Disk.past c.record.new.disk in
    let reads = c.«open».ensures.reads in
    record {
      kept = kept_behind g.D.Disk (λ a b d before after. tt) reads.kept
          (answered c.«open».result c.in_ok-opened.was) (kept_but g.D.Disk
          (λ room. c.slots_reach_gates.ensures.full files.manifest edit may.fit may.within room)
          (kept_as g.D.Disk (edit_failed c.in-Err.e _ why) (λ a b same. same)
          c.in-Err.ensures.changes.kept));
      touches = λ honest.
          let honest2 = reads.kept.honest.1 honest in
          λ file other. slot_alone files edit s2 s3 (c.record.ensures.changes.kept.files honest2)
          file other ∙ reads.kept.files honest file;
      numbers = (refl, facts_with files c.record.new.self c.in-Err.ensures.told.0);
      usable = tt;
      did = subst IsEnd (sym why) (edit_ends c.in-Err.e);
      tended = λ list honest hs.
          let honest2 = reads.kept.honest.1 honest in
          let same = reads.kept.files honest in
          let holds = held.same s1 s2 files.manifest known hs.held.known.manifest
          (λ slot one. same slot) in
          record {
            list = subst (IsEnvironmental engine.Disk engine.Memory) (sym why)
                (edit_is_external c.in-Err.e
                (c.in-Err.ensures.changes.changed known honest2 holds));
            any_moment = merge_is_recorded may names law held.left versions list s1 hs s2 same p1 p2
                p3 s3 (reads.still honest)
                (c.record.ensures.changes.any_moment known honest2 holds);
          };
      meant = λ list honest ms.
          let honest2 = reads.kept.honest.1 honest in
          let same = reads.kept.files honest in
          let holds = held.same s1 s2 files.manifest known
          (manifest_holds s1 files list ms.was held.same) (λ slot one. same slot) in
          record {
            list = subst (IsEnvironmental engine.Disk engine.Memory) (sym why)
                (edit_is_external c.in-Err.e
                (c.in-Err.ensures.changes.changed known honest2 holds));
            any_moment = merge_was_recorded may names law held.left held.same versions list s1 ms s2
                same p1 p2 p3 s3 (reads.still honest)
                (c.record.ensures.changes.any_moment known honest2 holds);
          };
    }

-- the open tables were not replaced: memory is out
pub returns-in_err-replace-clause-merges : goal.returns-in_err-replace-clause-merges
returns-in_err-replace-clause-merges g c =
    let files = c.args.self.now in
    let known = known_version files in
    let may = c.requires in
    let edit = c.args.edit.now in
    let names = c.replaced_tables_are_edited.ensures.lines in
    let law = c.durable_file_is_left.ensures in
    let held = c.held_versions_are_left.ensures in
    let versions = c.edits_keep_versions.ensures in
    let result = c.from_residual-in_err-replace.result in
    let told = c.from_residual-in_err-replace.ensures.1 in
    let s1 = g.D.Disk.state c.args.disk.now in
    let s2 = g.D.Disk.state c.«open».new.disk in
    let s3 = g.D.Disk.state c.record.new.disk in
    let p1 = g.D.Disk.past c.args.disk.now in
    let p2 = g.D.Disk.past c.«open».new.disk in
    let p3 = g.D.Disk.past c.record.new.disk in
    let reads = c.«open».ensures.reads in
    let new : StoreFiles = record {
      manifest = c.record.new.self;
      logs = files.logs;
      tables = c.replace.new.self;
      memtable = files.memtable;
      free_file = files.free_file;
    } in
    record {
      kept = kept_behind g.D.Disk (λ a b d before after. tt) reads.kept
          (answered c.«open».result c.in_ok-opened.was) (kept_but g.D.Disk
          (λ room. c.slots_reach_gates.ensures.full files.manifest edit may.fit may.within room)
          (kept_as g.D.Disk (neither (λ f. absurd cc) (refused_device result told refl))
          (λ a b same. same) c.in_default.ensures.changes.kept));
      touches = λ honest.
          let honest2 = reads.kept.honest.1 honest in
          λ file other. slot_alone files edit s2 s3 (c.record.ensures.changes.kept.files honest2)
          file other ∙ reads.kept.files honest file;
      numbers = (refl, facts_recorded may new c.in_default.ensures.told.0 refl);
      usable = refusal_on_ok result _ _ told;
      did = refuses result _ IsEnd told tt;
      tended = λ list honest hs.
          let honest2 = reads.kept.honest.1 honest in
          let same = reads.kept.files honest in
          let holds = held.same s1 s2 files.manifest known hs.held.known.manifest
          (λ slot one. same slot) in
          record {
            list = refuses result _ (IsEnvironmental engine.Disk engine.Memory) told (inr refl);
            any_moment = merge_is_recorded may names law held.left versions list s1 hs s2 same p1 p2
                p3 s3 (reads.still honest)
                (c.record.ensures.changes.any_moment known honest2 holds);
          };
      meant = λ list honest ms.
          let honest2 = reads.kept.honest.1 honest in
          let same = reads.kept.files honest in
          let holds = held.same s1 s2 files.manifest known
          (manifest_holds s1 files list ms.was held.same) (λ slot one. same slot) in
          record {
            list = refuses result _ (IsEnvironmental engine.Disk engine.Memory) told (inr refl);
            any_moment = merge_was_recorded may names law held.left held.same versions list s1 ms s2
                same p1 p2 p3 s3 (reads.still honest)
                (c.record.ensures.changes.any_moment known honest2 holds);
          };
    }

-- ---- the new version is recorded, and the inputs that it does not name are removed

pub returns-clause-merges : goal.returns-clause-merges
returns-clause-merges g c =
    let files = c.args.self.now in
    let known = known_version files in
    let may = c.requires in
    let edit = c.args.edit.now in
    let names = c.replaced_tables_are_edited.ensures.lines in
    let law = c.durable_file_is_left.ensures in
    let held = c.held_versions_are_left.ensures in
    let versions = c.edits_keep_versions.ensures in
    let view = c.edit.view_is in
    let added_is : c.deref.result.now ≡ edit.tables_added =
    c.deref.ensures.value ∙ ap (λ (e : Change). e.tables_added) view in
    let gone_is : c.deref-3.result.now ≡ edit.tables_gone =
    c.deref-3.ensures.value ∙ ap (λ (e : Change). e.tables_gone) view in
    let inputs_is : c.deref-4.result.now ≡ replaced_files edit =
    c.deref-4.ensures.value ∙ c.in_ok-inputs.ensures
    ∙ ap (λ (l : List TableName). map (λ (one : TableName). one.file) l)
    (c.deref-2.ensures.value ∙ ap (λ (e : Change). e.tables_gone) view) in
    let opened = c.in_ok-opened.opened in
    let opens = c.in_ok-opened.ensures.opens in
    let lines_are : table_lines opened ≡ edit.tables_added = opens.lines ∙ added_is in
    let old = files.tables in
    let replaced = c.replace.new.self in
    let replaces = c.in_ok-replace.ensures in
    let new : StoreFiles = record {
      manifest = c.record.new.self;
      logs = files.logs;
      tables = replaced;
      memtable = files.memtable;
      free_file = files.free_file;
    } in
    let r : AreMerged edit files new = record {
      told = c.in_default.ensures.told.0;
      tables = lines_replaced old replaced opened c.deref-3.result.now edit.tables_gone
          c.into_tables.result.items gone_is c.into_tables.ensures replaces known.version.tables
          edit.tables_added may.usable.tables lines_are;
      logs = refl;
      memtable = refl;
      free = refl;
    } in
    let serve = tables_replaced old replaced opened c.deref-3.result.now edit.tables_gone
    c.into_tables.result.items gone_is c.into_tables.ensures replaces known.version.tables
    edit.tables_added may.usable.tables lines_are in
    let works = c.in_default.ensures.told.1 in
    let result = c.remove_files.result in
    let s1 = g.D.Disk.state c.args.disk.now in
    let s2 = g.D.Disk.state c.«open».new.disk in
    let s3 = g.D.Disk.state c.record.new.disk in
    let s4 = g.D.Disk.state c.remove_files.new.disk in
    let p1 = g.D.Disk.past c.args.disk.now in
    let p2 = g.D.Disk.past c.«open».new.disk in
    let p3 = g.D.Disk.past c.record.new.disk in
    let p4 = g.D.Disk.past c.remove_files.new.disk in
    let reads = c.«open».ensures.reads in
    record {
      kept = kept_behind g.D.Disk (λ a b d before after. tt) reads.kept
          (answered c.«open».result c.in_ok-opened.was) (kept_behind g.D.Disk
          (slot_then_inputs files edit) c.in_default.ensures.changes.kept (λ fails. cc)
          (kept_but g.D.Disk (λ none. absurd none) (kept_as g.D.Disk
          ((λ fails. fails), (λ fails. fails))
          (λ a b same. subst (λ (l : List ℕ). IsSameBeside l a b) inputs_is same)
          c.remove_files.ensures.kept)));
      touches = λ honest.
          let honest2 = reads.kept.honest.1 honest in
          let honest3 = c.record.ensures.changes.kept.honest.1 honest2 in
          λ file other. slot_then_inputs files edit s2 s3 s4
          (c.record.ensures.changes.kept.files honest2)
          (subst (λ (l : List ℕ). IsSameBeside l s3 s4) inputs_is
          (c.remove_files.ensures.kept.files honest3)) file other
          ∙ reads.kept.files honest file;
      numbers = (count_after may new r, facts_after may new r);
      usable = on_ok result (usable_after may new r versions works);
      did = did_or_ends result (record {
        version = r.told;
        slots = c.record.ensures.slots;
        logs = refl;
        free = refl;
      }) c.remove_files.ensures.causes;
      tended = λ list honest hs.
          let honest2 = reads.kept.honest.1 honest in
          let honest3 = c.record.ensures.changes.kept.honest.1 honest2 in
          let same = reads.kept.files honest in
          let holds = held.same s1 s2 files.manifest known hs.held.known.manifest
          (λ slot one. same slot) in
          let slot = (c.manifest_has_slots.ensures s2 files.manifest known holds).0 in
          let spares = c.record.ensures.changes.kept.files honest2 in
          let removed = subst (λ (l : List ℕ). IsSameBeside l s3 s4) inputs_is
          (c.remove_files.ensures.kept.files honest3) in
          let recorded = subst (ManifestHolds s3 new.manifest) (sym r.told)
          (c.in_default.ensures.changes.changed known honest2 holds) in
          let outputs = hs.merged.outputs in
          let tables = hs.held.known.tables in
          let read = hs.merged.read in
          let serves = opens.opened outputs honest (subst (λ (l : List TableLine).
          AreTablesOf (contents s1) l outputs) (sym added_is) read) in
          let served = serve s2 s2 (contents s1) (contents s1) tables outputs hs.held.known.read
          read (still_served may names law held.left versions list s1 hs s2 same)
          (zip_was s2 s2 opened.tables.items outputs serves (own_blocks s2 opened.tables.items)) in
          record {
            list = held_or_external result _ (held_after may names law held.left versions list s1 hs
                s2 same new r slot s4 (slot_then_inputs files edit s2 s3 s4 spares removed) works
                (held.same s3 s4 new.manifest (known_version new) recorded
                (slots_stay_behind may s3 s4 removed))
                (zip_serves s2 s2 replaced.tables.items
                (tables_after edit.tables_gone outputs tables) served))
                (c.remove_files.ensures.gone honest3);
            any_moment = join (OfStore may names law held.left versions list s1 hs) s1 s3 s4 p1 p3
                p4 (merge_is_recorded may names law held.left versions list s1 hs s2 same p1 p2 p3
                s3 (reads.still honest) (c.record.ensures.changes.any_moment known honest2 holds))
                (inputs_are_removed may names law held.left versions list s1 hs s2 same new r slot
                s3 spares recorded p3 p4 s4 (subst (λ (l : List ℕ). AlwaysLeaves g.D.Disk
                c.record.new.disk c.remove_files.new.disk (AreLeftBeside l s3)) inputs_is
                (c.remove_files.ensures.any_moment honest3)));
          };
      meant = λ list honest ms.
          let honest2 = reads.kept.honest.1 honest in
          let honest3 = c.record.ensures.changes.kept.honest.1 honest2 in
          let same = reads.kept.files honest in
          let holds = held.same s1 s2 files.manifest known
          (manifest_holds s1 files list ms.was held.same) (λ slot one. same slot) in
          let slot = (c.manifest_has_slots.ensures s2 files.manifest known holds).0 in
          let spares = c.record.ensures.changes.kept.files honest2 in
          let removed = subst (λ (l : List ℕ). IsSameBeside l s3 s4) inputs_is
          (c.remove_files.ensures.kept.files honest3) in
          let recorded = subst (ManifestHolds s3 new.manifest) (sym r.told)
          (c.in_default.ensures.changes.changed known honest2 holds) in
          let outputs = ms.merged.outputs in
          let tables = ms.was.hold.known.tables in
          let meant = ms.was.meant in
          let read = ms.merged.read in
          let serves = opens.opened outputs honest (subst (λ (l : List TableLine).
          AreTablesOf (contents s1) l outputs) (sym added_is) read) in
          let served = serve s2 meant (contents meant) (contents s1) tables outputs
          ms.was.hold.known.read read
          (still_were_served may names law held.left held.same versions list s1 ms s2 same)
          (outputs_were_served may names law held.left held.same versions list s1 ms s2 same opened
          serves) in
          record {
            list = held_or_external result _ (meant_after may names law held.left held.same versions
                list s1 ms s2 same new r slot s4
                (slot_then_inputs files edit s2 s3 s4 spares removed) works
                (held.same s3 s4 new.manifest (known_version new) recorded
                (slots_stay_behind may s3 s4 removed)) served)
                (c.remove_files.ensures.gone honest3);
            any_moment = join (WereOfStore may names law held.left held.same versions list s1 ms)
                s1 s3 s4 p1 p3 p4 (merge_was_recorded may names law held.left held.same versions
                list s1 ms s2 same p1 p2 p3 s3 (reads.still honest)
                (c.record.ensures.changes.any_moment known honest2 holds))
                (inputs_were_removed may names law held.left held.same versions list s1 ms s2 same
                new r slot s3 spares recorded p3 p4 s4 (subst (λ (l : List ℕ).
                AlwaysLeaves g.D.Disk c.record.new.disk c.remove_files.new.disk
                (AreLeftBeside l s3)) inputs_is (c.remove_files.ensures.any_moment honest3)));
          };
    }

-- and they are gone
pub returns-clause-gone : goal.returns-clause-gone
returns-clause-gone g c = λ honest.
    let edit = c.args.edit.now in
    let s4 = g.D.Disk.state c.remove_files.new.disk in
    let view = c.edit.view_is in
    let inputs_is : c.deref-4.result.now ≡ replaced_files edit =
    c.deref-4.ensures.value ∙ c.in_ok-inputs.ensures
    ∙ ap (λ (l : List TableName). map (λ (one : TableName). one.file) l)
    (c.deref-2.ensures.value ∙ ap (λ (e : Change). e.tables_gone) view) in
    left_on_ok c.remove_files.result _ (subst (λ (l : List ℕ).
    MatchResult c.remove_files.result (λ _. AreAbsent l s4)
    (IsEnvironmental engine.Disk engine.Memory)) inputs_is
    (c.remove_files.ensures.gone (c.record.ensures.changes.kept.honest.1
    (c.«open».ensures.reads.kept.honest.1 honest))))
