use Rattle.std.proofs.Common.{◌∙◌, arith, inl, inr, refl, subst, sym}
use Rattle.disk.specs.{IsEnvironmental}
use Rattle.store_tables.specs.declared.error.EngineError.TheVariants as engine
use Rattle.store_tables.specs.Errors.{IsEnd}
use Rattle.disk.specs.KeepingLemmas.{kept_as, kept_but, neither}
use Rattle.store_files.specs.Adopting.{adopted_files, facts_with_config}
use Rattle.store_files.specs.OpenFiles.{known_facts, known_version}
use Rattle.store_files.specs.TendKeeps.{OfEitherFacts}
use Rattle.store_files.proofs.Adoptions.{adopted_is, adopted_later, adopted_lawful, adopted_meant}
use Rattle.store_files.proofs.Adoptions.{config_is_recorded, config_was_recorded, none_adopted}
use Rattle.store_files.proofs.Adoptions.{none_was_adopted, slot_alone}
use Rattle.store_files.proofs.MeantTends.{manifest_holds}
use Rattle.store_files.proofs.TendKeeps.{refused_first}
use Rattle.store_files.proofs.Tends.{edit_ends, edit_failed, edit_is_external, facts_recorded}
use Rattle.store_files.proofs.Tends.{facts_with, usable_recorded}
use Rattle.store_files.proofs.store_files.StoreFiles.adopt.Goals as goal

-- nothing was called yet
pub returns-in_err-edit-clause-adopts : goal.returns-in_err-edit-clause-adopts
returns-in_err-edit-clause-adopts g c =
    let files = c.args.self.now in
    let facts = facts_with_config (known_facts files) c.args.epoch c.args.config.now in
    let law = c.durable_file_is_left.ensures in
    let held = c.held_versions_are_left.ensures.left in
    let s1 = g.D.Disk.state c.args.disk.now in
    let p1 = g.D.Disk.past c.args.disk.now in
    refused_first g.D.Disk (adopted_files files) (OfEitherFacts (known_facts files) facts)
    c.args.disk.now files c.from_residual.result c.from_residual.ensures.1 (inl refl)
    (λ list h. none_adopted facts law held list s1 p1 h)
    (λ list w. none_was_adopted facts law held list s1 p1 w)

-- the edit was not recorded, or a crash may leave it recorded
pub returns-clause-adopts : goal.returns-clause-adopts
returns-clause-adopts g c =
    let files = c.args.self.now in
    let known = known_version files in
    let it = c.in_ok-edit.ensures in
    let law = c.durable_file_is_left.ensures in
    let why = c.refusal_of_edit.ensures in
    let s1 = g.D.Disk.state c.args.disk.now in
    let s2 = g.D.Disk.state c.record.new.disk in
    let p1 = g.D.Disk.past c.args.disk.now in
    let p2 = g.D.Disk.past c.record.new.disk in
    record {
      kept = kept_but g.D.Disk
          (λ room. c.slots_reach_gates.ensures.full files.manifest _ it.fit it.within room)
          (kept_as g.D.Disk (edit_failed c.in-Err.e _ why) (λ a b same. tt)
          c.in-Err.ensures.changes.kept);
      touches = λ honest. slot_alone files s1 s2 (c.record.ensures.changes.kept.files honest);
      numbers = (refl, inl (facts_with files c.record.new.self c.in-Err.ensures.told.0));
      usable = tt;
      did = subst IsEnd (sym why) (edit_ends c.in-Err.e);
      tended = λ list honest h. record {
        list = subst
            (IsEnvironmental engine.Disk engine.Memory) (sym why) (edit_is_external c.in-Err.e
            (c.in-Err.ensures.changes.changed known honest h.known.manifest));
        any_moment = config_is_recorded it law list s1 p1 p2 s2
            (c.record.ensures.changes.any_moment known honest h.known.manifest) h;
      };
      meant = λ list honest w.
          let had = manifest_holds s1 files list w c.held_versions_are_left.ensures.same in
          record {
            list = subst
                (IsEnvironmental engine.Disk engine.Memory) (sym why) (edit_is_external c.in-Err.e
                (c.in-Err.ensures.changes.changed known honest had));
            any_moment = config_was_recorded it law list s1 p1 p2 s2
                (c.record.ensures.changes.any_moment known honest had)
                c.edits_keep_versions.ensures w;
          };
    }

-- the edit is recorded
pub returns-in-Ok-clause-adopts : goal.returns-in-Ok-clause-adopts
returns-in-Ok-clause-adopts g c =
    let files = c.args.self.now in
    let known = known_version files in
    let epoch = c.args.epoch in
    let ids = c.args.config.now in
    let it = c.in_ok-edit.ensures in
    let law = c.durable_file_is_left.ensures in
    let versions = c.edits_keep_versions.ensures in
    let stays = c.held_versions_are_left.ensures.same in
    let manifest = c.record.new.self in
    let told = c.in-Ok.ensures.told.0 ∙ adopted_is it in
    let s1 = g.D.Disk.state c.args.disk.now in
    let s2 = g.D.Disk.state c.record.new.disk in
    let p1 = g.D.Disk.past c.args.disk.now in
    let p2 = g.D.Disk.past c.record.new.disk in
    record {
      kept = kept_but g.D.Disk
          (λ room. c.slots_reach_gates.ensures.full files.manifest _ it.fit it.within room)
          (kept_as g.D.Disk (neither (λ f. absurd cc) (λ f. absurd cc)) (λ a b same. tt)
          c.in-Ok.ensures.changes.kept);
      touches = λ honest. slot_alone files s1 s2 (c.record.ensures.changes.kept.files honest);
      numbers = (refl, inr (facts_recorded files manifest epoch ids told));
      usable = usable_recorded files manifest epoch ids told
          (adopted_lawful it versions c.requires.usable.version) c.in-Ok.ensures.told.1
          c.requires.usable;
      did = record {
        version = told;
        facts = facts_recorded files manifest epoch ids told;
        slots = c.record.ensures.slots;
        logs = refl;
        tables = refl;
        free = refl;
      };
      tended = λ list honest h. record {
        list = (adopted_later it versions list s1 s2 manifest
            (c.manifest_has_slots.ensures s1 files.manifest known h.known.manifest).0
            (c.record.ensures.changes.kept.files honest)
            (c.in-Ok.ensures.changes.changed known honest h.known.manifest) h).0;
        any_moment = config_is_recorded it law list s1 p1 p2 s2
            (c.record.ensures.changes.any_moment known honest h.known.manifest) h;
      };
      meant = λ list honest w.
          let had = manifest_holds s1 files list w stays in
          record {
            list = (adopted_meant it versions list s1 s2 manifest
                (c.manifest_has_slots.ensures s1 files.manifest known had).0
                (c.record.ensures.changes.kept.files honest)
                (c.in-Ok.ensures.changes.changed known honest had) stays w).0;
            any_moment = config_was_recorded it law list s1 p1 p2 s2
                (c.record.ensures.changes.any_moment known honest had) versions w;
          };
    }

-- ---- plans

-- a merge can end as before
pub returns-in-Ok-clause-plans : goal.returns-in-Ok-clause-plans
returns-in-Ok-clause-plans g c =
    let files = c.args.self.now in
    let known = known_version files in
    let it = c.in_ok-edit.ensures in
    let versions = c.edits_keep_versions.ensures in
    let stays = c.held_versions_are_left.ensures.same in
    let manifest = c.record.new.self in
    let s1 = g.D.Disk.state c.args.disk.now in
    let s2 = g.D.Disk.state c.record.new.disk in
    record {
      free = omega arith;
      held = λ list plan honest h.
          let both = adopted_later it versions list s1 s2 manifest
          (c.manifest_has_slots.ensures s1 files.manifest known h.held.known.manifest).0
          (c.record.ensures.changes.kept.files honest)
          (c.in-Ok.ensures.changes.changed known honest h.held.known.manifest) h.held in
          record { held = both.0; can_end = both.1 plan h.can_end };
      meant = λ list plan honest m.
          let had = manifest_holds s1 files list m.was stays in
          let both = adopted_meant it versions list s1 s2 manifest
          (c.manifest_has_slots.ensures s1 files.manifest known had).0
          (c.record.ensures.changes.kept.files honest)
          (c.in-Ok.ensures.changes.changed known honest had) stays m.was in
          record { was = both.0; can_end = both.1 plan m.can_end };
    }
