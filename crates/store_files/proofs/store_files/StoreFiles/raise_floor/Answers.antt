use Rattle.std.proofs.lemmas.Grind.{common_steps}
use Rattle.std.proofs.Common.{◌≡◌, ◌∙◌, ℕ, List, ap, arith, drop, inl, inr, length, refl, subst}
use Rattle.std.proofs.Common.{sym}
use Rattle.std.specs.Prelude.{MatchResult}
use Rattle.disk.specs.MomentsLemmas.{join}
use Rattle.disk.specs.{AlwaysLeaves, IsEnvironmental}
use Rattle.manifest.specs.{Change, IsChange, IsFit, ManifestHolds, NodeVersion}
use Rattle.manifest.specs.{node_version_after}
use Rattle.store_tables.specs.declared.error.EngineError.TheVariants as engine
use Rattle.store_tables.specs.Errors.{IsEnd}
use Rattle.disk.specs.KeepingLemmas.{kept_as, kept_behind, kept_but}
use Rattle.store_tables.specs.RefusalLemmas.{on_ok}
use Rattle.store_files.specs.declared.store_files.StoreFiles.{StoreFiles}
use Rattle.store_files.specs.OpenFiles.{known_facts, known_version}
use Rattle.store_files.specs.Raising.{obsolete_files, raise_change, facts_with_floor, raised_files}
use Rattle.store_files.specs.Removing.{AreAbsent, AreLeftBeside}
use Rattle.store_files.specs.TendKeeps.{OfEitherFacts}
use Rattle.store_files.specs.Tending.{IsSameBeside}
use Rattle.store_files.proofs.MeantRaises.{WereEither, logs_were_removed, none_was_raised}
use Rattle.store_files.proofs.MeantRaises.{raise_was_recorded, raised_as_meant}
use Rattle.store_files.proofs.MeantTends.{manifest_holds}
use Rattle.store_files.proofs.Raised.{AreRaised, count_after, facts_after, gone_older, raised_hold}
use Rattle.store_files.proofs.Raised.{usable_after}
use Rattle.store_files.proofs.RaiseMoments.{OfEither, did_or_ends, held_or_external, left_on_ok}
use Rattle.store_files.proofs.RaiseMoments.{logs_are_removed, none_raised, raise_is_recorded}
use Rattle.store_files.proofs.RaiseMoments.{slot_alone, slot_then_logs, slots_stay}
use Rattle.store_files.proofs.TendKeeps.{refused_first}
use Rattle.store_files.proofs.Tends.{edit_ends, edit_failed, edit_is_external, facts_with}
use Rattle.store_files.proofs.store_files.StoreFiles.raise_floor.Goals as goal

-- nothing was called yet
pub returns-in_err-edit-clause-raises : goal.returns-in_err-edit-clause-raises
returns-in_err-edit-clause-raises g c =
    let files = c.args.self.now in
    let floor = c.args.floor in
    let may = c.requires in
    let law = c.durable_file_is_left.ensures in
    let held = c.held_versions_are_left.ensures in
    let keeps = c.raises_keep.ensures.list in
    let versions = c.edits_keep_versions.ensures in
    let s1 = g.D.Disk.state c.args.disk.now in
    let p1 = g.D.Disk.past c.args.disk.now in
    refused_first g.D.Disk (raised_files files floor)
    (OfEitherFacts (known_facts files) (facts_with_floor files floor)) c.args.disk.now files
    c.from_residual.result c.from_residual.ensures.1 (inl refl)
    (λ list h. none_raised may keeps law held.left versions list s1 h p1)
    (λ list w. none_was_raised may keeps law held.left held.same versions list s1 w p1)

-- the edit was not recorded, or a crash may leave it recorded
pub returns-in-Err-clause-raises : goal.returns-in-Err-clause-raises
returns-in-Err-clause-raises g c =
    let files = c.args.self.now in
    let floor = c.args.floor in
    let may = c.requires in
    let known = known_version files in
    let law = c.durable_file_is_left.ensures in
    let held = c.held_versions_are_left.ensures in
    let keeps = c.raises_keep.ensures.list in
    let versions = c.edits_keep_versions.ensures in
    let why = c.refusal_of_edit.ensures in
    let edit = c.in_ok-edit.edit in
    let is : edit ≡ raise_change known.version floor = c.in_ok-edit.ensures.edit
    ∙ ap (λ (n : NodeVersion). raise_change n.version floor) c.state.ensures in
    let fits = subst (λ (n : NodeVersion). IsFit n.version edit × IsChange edit) c.state.ensures
    c.in_ok-edit.ensures.fit in
    let s1 = g.D.Disk.state c.args.disk.now in
    let s2 = g.D.Disk.state c.record.new.disk in
    let p1 = g.D.Disk.past c.args.disk.now in
    let p2 = g.D.Disk.past c.record.new.disk in
    record {
      kept = kept_but g.D.Disk
          (λ room. c.slots_reach_gates.ensures.full files.manifest edit fits.0 fits.1 room)
          (kept_as g.D.Disk (edit_failed c.in-Err.e _ why) (λ a b same. tt)
          c.in-Err.ensures.changes.kept);
      touches = λ honest. slot_alone files floor s1 s2
          (c.record.ensures.changes.kept.files honest);
      numbers = (refl, inl (facts_with files c.record.new.self c.in-Err.ensures.told.0));
      usable = tt;
      did = subst IsEnd (sym why) (edit_ends c.in-Err.e);
      tended = λ list honest h. record {
        list = subst
            (IsEnvironmental engine.Disk engine.Memory) (sym why) (edit_is_external c.in-Err.e
            (c.in-Err.ensures.changes.changed known honest h.known.manifest));
        any_moment = raise_is_recorded may keeps law held.left versions list s1 h edit is p1 p2 s2
            (c.record.ensures.changes.any_moment known honest h.known.manifest);
      };
      meant = λ list honest w.
          let holds = manifest_holds s1 files list w held.same in
          record {
            list = subst
                (IsEnvironmental engine.Disk engine.Memory) (sym why) (edit_is_external c.in-Err.e
                (c.in-Err.ensures.changes.changed known honest holds));
            any_moment = raise_was_recorded may keeps law held.left held.same versions list s1 w
                edit is p1 p2 s2 (c.record.ensures.changes.any_moment known honest holds);
          };
    }

-- the newest log stays
pub trim-requires : goal.trim-requires
trim-requires g c =
    let files = c.args.self.now in
    let floor = c.args.floor in
    let few = gone_older c.requires in
    let is : c.in_ok-edit.edit ≡ raise_change (known_version files).version floor =
    c.in_ok-edit.ensures.edit
    ∙ ap (λ (n : NodeVersion). raise_change n.version floor) c.state.ensures in
    let gone_is : c.edit.inside.logs_gone.items ≡ obsolete_files files floor =
    ap (λ (e : Change). e.logs_gone) (c.edit.view_is ∙ is) in
    let long = c.len.ensures ∙ c.edit.inside.logs_gone.ok.0 ∙ ap length gone_is in
    omega (arith, few, long)

-- the new version is recorded, and the logs that it does not name are removed
pub returns-clause-raises : goal.returns-clause-raises
returns-clause-raises g c =
    let files = c.args.self.now in
    let floor = c.args.floor in
    let may = c.requires in
    let known = known_version files in
    let law = c.durable_file_is_left.ensures in
    let held = c.held_versions_are_left.ensures in
    let keeps = c.raises_keep.ensures.list in
    let versions = c.edits_keep_versions.ensures in
    let edit = c.in_ok-edit.edit in
    let is : edit ≡ raise_change known.version floor = c.in_ok-edit.ensures.edit
    ∙ ap (λ (n : NodeVersion). raise_change n.version floor) c.state.ensures in
    let fits = subst (λ (n : NodeVersion). IsFit n.version edit × IsChange edit) c.state.ensures
    c.in_ok-edit.ensures.fit in
    let gone = obsolete_files files floor in
    let gone_is : c.edit.inside.logs_gone.items ≡ gone =
    ap (λ (e : Change). e.logs_gone) (c.edit.view_is ∙ is) in
    let removed_is : c.deref.result.now ≡ gone = c.deref.ensures.value ∙ gone_is in
    let long : c.len.result ≡ length gone =
    c.len.ensures ∙ c.edit.inside.logs_gone.ok.0 ∙ ap length gone_is in
    let new : StoreFiles = record {
      manifest = c.record.new.self;
      logs = c.trim.new.self;
      tables = files.tables;
      memtable = files.memtable;
      free_file = files.free_file;
    } in
    let r : AreRaised floor files new = record {
      told = c.in_default.ensures.told.0
          ∙ ap (λ (e : Change). node_version_after known e) is;
      logs = record {
        older = c.trim.ensures.older
            ∙ ap (λ (n : ℕ). drop n files.logs.older.items) long;
        newest = c.trim.ensures.newest;
      };
      tables = refl;
      memtable = refl;
      free = refl;
    } in
    let works = c.in_default.ensures.told.1 in
    let result = c.remove_files.result in
    let s1 = g.D.Disk.state c.args.disk.now in
    let s2 = g.D.Disk.state c.record.new.disk in
    let s3 = g.D.Disk.state c.remove_files.new.disk in
    let p1 = g.D.Disk.past c.args.disk.now in
    let p2 = g.D.Disk.past c.record.new.disk in
    let p3 = g.D.Disk.past c.remove_files.new.disk in
    record {
      kept = kept_behind g.D.Disk (λ a b d before after. tt) c.in_default.ensures.changes.kept
          (λ fails. cc) (kept_but g.D.Disk (λ none. absurd none) c.remove_files.ensures.kept);
      touches = λ honest. slot_then_logs files floor s1 s2 s3
          (c.record.ensures.changes.kept.files honest)
          (subst (λ (l : List ℕ). IsSameBeside l s2 s3) removed_is
          (c.remove_files.ensures.kept.files (c.record.ensures.changes.kept.honest.1 honest)));
      numbers = (count_after may new r, inr (facts_after may new r));
      usable = on_ok result (usable_after may new r versions works);
      did = did_or_ends result (record {
        version = r.told;
        facts = facts_after may new r;
        slots = c.record.ensures.slots;
        tables = refl;
        free = refl;
      }) c.remove_files.ensures.causes;
      tended = λ list honest h.
          let honest2 = c.record.ensures.changes.kept.honest.1 honest in
          let slot = (c.manifest_has_slots.ensures s1 files.manifest known h.known.manifest).0 in
          let same = c.record.ensures.changes.kept.files honest in
          let removed = subst (λ (l : List ℕ). IsSameBeside l s2 s3) removed_is
          (c.remove_files.ensures.kept.files honest2) in
          let holds = subst (ManifestHolds s2 new.manifest) (sym c.in_default.ensures.told.0)
          (c.in_default.ensures.changes.changed known honest h.known.manifest) in
          record {
            list = held_or_external result _ (raised_hold may new r s1 s3 slot
                (slot_then_logs files floor s1 s2 s3 same removed) versions list h keeps works
                (held.same s2 s3 new.manifest (known_version new) holds
                (slots_stay known.version may.usable.version floor s2 s3 removed)))
                (c.remove_files.ensures.gone honest2);
            any_moment = join (OfEither may keeps law held.left versions list) s1 s2 s3 p1 p2 p3
                (raise_is_recorded may keeps law held.left versions list s1 h edit is p1 p2 s2
                (c.record.ensures.changes.any_moment known honest h.known.manifest))
                (logs_are_removed may keeps law held.left versions list s1 h new r s2 slot same
                holds p2 p3 s3
                (subst (λ (l : List ℕ). AlwaysLeaves g.D.Disk c.record.new.disk
                c.remove_files.new.disk (AreLeftBeside l s2)) removed_is
                (c.remove_files.ensures.any_moment honest2)));
          };
      meant = λ list honest w.
          let honest2 = c.record.ensures.changes.kept.honest.1 honest in
          let had = manifest_holds s1 files list w held.same in
          let slot = (c.manifest_has_slots.ensures s1 files.manifest known had).0 in
          let same = c.record.ensures.changes.kept.files honest in
          let removed = subst (λ (l : List ℕ). IsSameBeside l s2 s3) removed_is
          (c.remove_files.ensures.kept.files honest2) in
          let holds = subst (ManifestHolds s2 new.manifest) (sym c.in_default.ensures.told.0)
          (c.in_default.ensures.changes.changed known honest had) in
          record {
            list = held_or_external result _ (raised_as_meant may keeps law held.left held.same
                versions list s1 w new r slot s3
                (slot_then_logs files floor s1 s2 s3 same removed) works
                (held.same s2 s3 new.manifest (known_version new) holds
                (slots_stay known.version may.usable.version floor s2 s3 removed)))
                (c.remove_files.ensures.gone honest2);
            any_moment = join (WereEither may keeps law held.left held.same versions list s1 w) s1
                s2 s3 p1 p2 p3
                (raise_was_recorded may keeps law held.left held.same versions list s1 w edit is p1
                p2 s2 (c.record.ensures.changes.any_moment known honest had))
                (logs_were_removed may keeps law held.left held.same versions list s1 w new r slot
                s2 same holds p2 p3 s3
                (subst (λ (l : List ℕ). AlwaysLeaves g.D.Disk c.record.new.disk
                c.remove_files.new.disk (AreLeftBeside l s2)) removed_is
                (c.remove_files.ensures.any_moment honest2)));
          };
    }

-- and they are gone
pub returns-clause-gone : goal.returns-clause-gone
returns-clause-gone g c = λ honest.
    let files = c.args.self.now in
    let floor = c.args.floor in
    let s3 = g.D.Disk.state c.remove_files.new.disk in
    let is : c.in_ok-edit.edit ≡ raise_change (known_version files).version floor =
    c.in_ok-edit.ensures.edit
    ∙ ap (λ (n : NodeVersion). raise_change n.version floor) c.state.ensures in
    let removed_is : c.deref.result.now ≡ obsolete_files files floor =
    c.deref.ensures.value ∙ ap (λ (e : Change). e.logs_gone) (c.edit.view_is ∙ is) in
    left_on_ok c.remove_files.result _ (subst (λ (l : List ℕ).
    MatchResult c.remove_files.result (λ _. AreAbsent l s3)
    (IsEnvironmental engine.Disk engine.Memory)) removed_is
    (c.remove_files.ensures.gone (c.record.ensures.changes.kept.honest.1 honest)))

pub returns-in_err-edit-clause-gone : goal.returns-in_err-edit-clause-gone
returns-in_err-edit-clause-gone g c = grind (arith, common_steps)

pub returns-in-Err-clause-gone : goal.returns-in-Err-clause-gone
returns-in-Err-clause-gone g c = grind (arith, common_steps)
