use Rattle.std.proofs.Common.{Ok, arith, refl, subst, sym}
use Rattle.disk.specs.{IsEnvironmental}
use Rattle.store_files.specs.declared.tended.Tended.TheVariants as tended
use Rattle.store_tables.specs.declared.error.EngineError.TheVariants as engine
use Rattle.store_tables.specs.Errors.{IsEnd}
use Rattle.disk.specs.KeepingLemmas.{kept_as, neither}
use Rattle.store_files.specs.OpenFiles.{known_version}
use Rattle.store_files.proofs.MeantTends.{manifest_holds, rewritten_as_meant, slots_were_written}
use Rattle.store_files.proofs.TendKeeps.{nothing_done}
use Rattle.store_files.proofs.TendedFiles.{spare_alone}
use Rattle.store_files.proofs.Tends.{edit_ends, edit_failed, edit_is_external, facts_with}
use Rattle.store_files.proofs.Tends.{held_rewritten, slots_are_written, usable_with}
use Rattle.store_files.proofs.MeantTends.{meant_later}
use Rattle.store_files.proofs.Tends.{rewritten_later}
use Rattle.store_files.proofs.store_files.StoreFiles.shorten.Goals as goal

-- no call of the disk
pub returns-then-generation-ge-MAX_NUMBER-clause-tends :
    goal.returns-then-generation-ge-MAX_NUMBER-clause-tends
returns-then-generation-ge-MAX_NUMBER-clause-tends g c =
    let at = c.if-generation-ge-MAX_NUMBER.true in
    let is = c.generation.ensures in
    nothing_done g.D.Disk c.durable_file_is_left.ensures c.held_versions_are_left.ensures.left
    c.args.disk.now c.args.self.now c.requires (Ok tended.Full) (omega (arith, at, is), refl)

-- The manifest was rewritten. Whether it answers or not, it wrote the other slot alone, and a crash
-- leaves slots that represent the version.
pub returns-in-Ok-clause-tends : goal.returns-in-Ok-clause-tends
returns-in-Ok-clause-tends g c =
    let files = c.args.self.now in
    let known = known_version files in
    let disk = g.D.Disk.state c.args.disk.now in
    let new = g.D.Disk.state c.rewrite.new.disk in
    let past = g.D.Disk.past c.args.disk.now in
    let since = g.D.Disk.past c.rewrite.new.disk in
    let law = c.durable_file_is_left.ensures in
    let told = c.in-Ok.ensures.told in
    record {
      kept = kept_as g.D.Disk (neither (λ f. absurd cc) (λ f. absurd cc)) (λ a b same. tt)
          c.in-Ok.ensures.changes.kept;
      touches = λ honest. spare_alone files disk new (c.rewrite.ensures.changes.kept.files honest);
      numbers = (refl, facts_with files c.rewrite.new.self told.0);
      usable = usable_with files c.rewrite.new.self told.0 told.1.2 c.requires;
      did = (told.1.0, told.0, told.1.1, refl);
      tended = λ list honest h. record {
        list = held_rewritten disk files list h new c.rewrite.new.self _
            (c.manifest_has_slots.ensures disk files.manifest known h.known.manifest).1
            (c.rewrite.ensures.changes.kept.files honest)
            (c.in-Ok.ensures.changes.changed known honest h.known.manifest).holds;
        any_moment = slots_are_written disk files list h law past since new
            (c.rewrite.ensures.changes.any_moment known honest h.known.manifest);
      };
      meant = λ list honest w.
          let stays = c.held_versions_are_left.ensures.same in
          let held = manifest_holds disk files list w stays in
          record {
            list = rewritten_as_meant disk files list w stays new c.rewrite.new.self _
                (c.manifest_has_slots.ensures disk files.manifest known held).1
                (c.rewrite.ensures.changes.kept.files honest)
                (c.in-Ok.ensures.changes.changed known honest held).holds;
            any_moment = slots_were_written disk files list w law past since new
                (c.rewrite.ensures.changes.any_moment known honest held);
          };
    }

pub returns-in-Err-clause-tends : goal.returns-in-Err-clause-tends
returns-in-Err-clause-tends g c =
    let files = c.args.self.now in
    let known = known_version files in
    let disk = g.D.Disk.state c.args.disk.now in
    let new = g.D.Disk.state c.rewrite.new.disk in
    let past = g.D.Disk.past c.args.disk.now in
    let since = g.D.Disk.past c.rewrite.new.disk in
    let law = c.durable_file_is_left.ensures in
    let is = c.refusal_of_edit.ensures in
    record {
      kept = kept_as g.D.Disk (edit_failed c.in-Err.e _ is) (λ a b same. tt)
          c.in-Err.ensures.changes.kept;
      touches = λ honest. spare_alone files disk new (c.rewrite.ensures.changes.kept.files honest);
      numbers = (refl, facts_with files c.rewrite.new.self c.in-Err.ensures.told.0);
      usable = tt;
      did = subst IsEnd (sym is) (edit_ends c.in-Err.e);
      tended = λ list honest h. record {
        list = subst
            (IsEnvironmental engine.Disk engine.Memory) (sym is) (edit_is_external c.in-Err.e
            (c.in-Err.ensures.changes.changed known honest h.known.manifest));
        any_moment = slots_are_written disk files list h law past since new
            (c.rewrite.ensures.changes.any_moment known honest h.known.manifest);
      };
      meant = λ list honest w.
          let held = manifest_holds disk files list w c.held_versions_are_left.ensures.same in
          record {
            list = subst
                (IsEnvironmental engine.Disk engine.Memory) (sym is) (edit_is_external c.in-Err.e
                (c.in-Err.ensures.changes.changed known honest held));
            any_moment = slots_were_written disk files list w law past since new
                (c.rewrite.ensures.changes.any_moment known honest held);
          };
    }

-- ---- plans

pub returns-then-generation-ge-MAX_NUMBER-clause-plans :
    goal.returns-then-generation-ge-MAX_NUMBER-clause-plans
returns-then-generation-ge-MAX_NUMBER-clause-plans g c =
    record {
      free = omega arith;
      held = λ list plan honest it. it;
      meant = λ list plan honest it. it;
    }

-- a merge can end as before
pub returns-in-Ok-clause-plans : goal.returns-in-Ok-clause-plans
returns-in-Ok-clause-plans g c =
    let files = c.args.self.now in
    let known = known_version files in
    let disk = g.D.Disk.state c.args.disk.now in
    let new = g.D.Disk.state c.rewrite.new.disk in
    record {
      free = omega arith;
      held = λ list plan honest it.
          let both = rewritten_later disk files list it.held new c.rewrite.new.self _
          (c.manifest_has_slots.ensures disk files.manifest known it.held.known.manifest).1
          (c.rewrite.ensures.changes.kept.files honest)
          (c.in-Ok.ensures.changes.changed known honest it.held.known.manifest).holds in
          record { held = both.0; can_end = both.1 plan it.can_end };
      meant = λ list plan honest it.
          let stays = c.held_versions_are_left.ensures.same in
          let held = manifest_holds disk files list it.was stays in
          let both = meant_later disk files list it.was stays new c.rewrite.new.self _
          (c.manifest_has_slots.ensures disk files.manifest known held).1
          (c.rewrite.ensures.changes.kept.files honest)
          (c.in-Ok.ensures.changes.changed known honest held).holds in
          record { was = both.0; can_end = both.1 plan it.can_end };
    }

pub returns-in-Err-clause-plans : goal.returns-in-Err-clause-plans
returns-in-Err-clause-plans g c =
    record {
      free = omega arith;
      held = λ list plan honest it. tt;
      meant = λ list plan honest it. tt;
    }
