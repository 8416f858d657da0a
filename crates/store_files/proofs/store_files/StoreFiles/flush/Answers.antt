use Rattle.std.proofs.Common.{◌≡◌, Ok, Option, inl, inr, refl, subst}
use Rattle.std.specs.Prelude.{MatchOption}
use Rattle.manifest.specs.{NodeVersion}
use Rattle.store_files.specs.declared.flushing.Flushed.{Flushed}
use Rattle.disk.specs.KeepingLemmas.{answered, kept_as, neither}
use Rattle.store_files.specs.OpenFiles.{FilesHold, WereMeantToHold}
use Rattle.store_tables.specs.TableWriting.{IsTooLarge}
use Rattle.store_files.specs.declared.tended.Tended.TheVariants as tended
use Rattle.store_files.specs.Tending.{HasSpilled, IsFlushAnswer, IsNewTable, LacksPlace}
use Rattle.store_tables.specs.RefusalLemmas.{refuses}
use Rattle.store_tables.specs.RefusalLemmas.{passed_on}
use Rattle.store_files.proofs.TendKeeps.{answer_passed, no_answer, nothing_done, refusal_on_ok}
use Rattle.store_files.proofs.TendKeeps.{refusal_passed, spilled_for, then_installed}
use Rattle.store_files.proofs.TendedFiles.{table_alone}
use Rattle.std.proofs.Common.{arith, sym}
use Rattle.std.specs.Prelude.{IsNone}
use Rattle.disk.specs.{Slot, seen}
use Rattle.store_files.specs.OpenFiles.{known_version}
use Rattle.store_files.proofs.MeantFiles.{unnamed_beside}
use Rattle.store_files.proofs.MeantTends.{again_later}
use Rattle.store_files.proofs.Plans.{refused_plans}
use Rattle.store_files.proofs.Spills.{held_again_later}
use Rattle.store_files.proofs.store_files.StoreFiles.flush.Goals as goal

-- no call of the disk
pub returns-then-lacks_place-clause-tends : goal.returns-then-lacks_place-clause-tends
returns-then-lacks_place-clause-tends g c =
    nothing_done g.D.Disk c.durable_file_is_left.ensures c.held_versions_are_left.ensures.left
    c.args.disk.now c.args.self.now c.requires.usable (Ok tended.Full) (
      inl (subst (λ (n : NodeVersion). LacksPlace n.version c.args.self.now.free_file)
          c.state.ensures (c.lacks_place.ensures.0 c.if-lacks_place.true)),
      refl,
    )

-- the table was not written
pub returns-in_err-made-clause-tends : goal.returns-in_err-made-clause-tends
returns-in_err-made-clause-tends g c =
    let told = c.from_residual.ensures.1 in
    let result = c.from_residual.result in
    record {
      kept = kept_as g.D.Disk
          (passed_on c.spill.result c.in_err-made.field-0.0 result c.in_err-made.was told)
          (λ a b same. tt) c.spill.ensures.kept;
      touches = λ honest. table_alone c.args.self.now (g.D.Disk.state c.args.disk.now)
          (g.D.Disk.state c.spill.new.disk) (c.spill.ensures.kept.files honest);
      numbers = (refl, refl);
      usable = refusal_on_ok result _ _ told;
      did = refuses result _ _ told c.in_err-made.ensures.made;
      tended = λ list honest h.
          let kept = c.in_err-made.ensures.spilled list honest h in
          record { list = refuses result _ _ told kept.list; any_moment = kept.any_moment };
      meant = λ list honest w.
          let kept = c.in_err-made.ensures.meant list honest w in
          record { list = refuses result _ _ told kept.list; any_moment = kept.any_moment };
    }

-- it would be too large
pub returns-in-None-clause-tends : goal.returns-in-None-clause-tends
returns-in-None-clause-tends g c =
    let files = c.args.self.now in
    let disk = g.D.Disk.state c.args.disk.now in
    let mid = g.D.Disk.state c.spill.new.disk in
    record {
      kept = kept_as g.D.Disk (neither (answered c.spill.result c.in_ok-made.was) (λ f. absurd cc))
          (λ a b same. tt) c.spill.ensures.kept;
      touches = λ honest. table_alone files disk mid (c.spill.ensures.kept.files honest);
      numbers = (refl, refl);
      usable = c.requires.usable;
      did = (
        inr (subst (λ (o : Option Flushed). MatchOption o (IsTooLarge files.memtable)
            (IsNewTable files)) c.in-None.is c.in_ok-made.ensures.made),
        refl,
      );
      tended = λ list honest h.
          let kept = c.in_ok-made.ensures.spilled list honest h in
          record {
            list = subst (λ (o : Option Flushed). MatchOption o (FilesHold mid files list)
                (HasSpilled disk mid files)) c.in-None.is kept.list;
            any_moment = kept.any_moment;
          };
      meant = λ list honest w.
          let kept = c.in_ok-made.ensures.meant list honest w in
          record {
            list = subst (λ (o : Option Flushed). MatchOption o (WereMeantToHold mid files list)
                (HasSpilled disk mid files)) c.in-None.is kept.list;
            any_moment = kept.any_moment;
          };
    }

-- it was written, and then installed or not
pub returns-in_err-install-in-Some-clause-tends : goal.returns-in_err-install-in-Some-clause-tends
returns-in_err-install-in-Some-clause-tends g c =
    let files = c.args.self.now in
    let result = c.from_residual-in_err-install-in-Some.result in
    let told = c.from_residual-in_err-install-in-Some.ensures.1 in
    then_installed g.D.Disk c.args.disk.now c.spill.new.disk c.install.new.disk files
    c.install.new.self c.in-Some.made c.spill.ensures.kept
    (answered c.spill.result c.in_ok-made.was)
    (spilled_for g.D.Disk c.args.disk.now c.spill.new.disk files _ c.in-Some.made c.in-Some.is
    c.spill.ensures.kept.honest.1 c.spill.ensures.kept.files c.in_ok-made.ensures.spilled
    c.in_ok-made.ensures.meant) c.install.result result
    (refusal_passed c.install.result c.in_err-install-in-Some.field-0.0 result
    c.in_err-install-in-Some.was told)
    (λ done answer is did. absurd (no_answer result _ is told)) c.install.ensures.installs

pub returns-in_ok-install-in-Some-clause-tends : goal.returns-in_ok-install-in-Some-clause-tends
returns-in_ok-install-in-Some-clause-tends g c =
    let files = c.args.self.now in
    let next = subst (λ (o : Option Flushed). MatchOption o (IsTooLarge files.memtable)
    (IsNewTable files)) c.in-Some.is c.in_ok-made.ensures.made in
    then_installed g.D.Disk c.args.disk.now c.spill.new.disk c.install.new.disk files
    c.install.new.self c.in-Some.made c.spill.ensures.kept
    (answered c.spill.result c.in_ok-made.was)
    (spilled_for g.D.Disk c.args.disk.now c.spill.new.disk files _ c.in-Some.made c.in-Some.is
    c.spill.ensures.kept.honest.1 c.spill.ensures.kept.files c.in_ok-made.ensures.spilled
    c.in_ok-made.ensures.meant) c.install.result (Ok tended.Worked)
    (answer_passed c.install.result tended.Worked c.in_ok-install-in-Some.was)
    (λ done answer is did.
    let same : tended.Worked ≡ answer = cc in
    subst (IsFlushAnswer files c.install.new.self) same (c.in-Some.made.line, next.next, did))
    c.install.ensures.installs

-- ---- plans

pub returns-then-lacks_place-clause-plans : goal.returns-then-lacks_place-clause-plans
returns-then-lacks_place-clause-plans g c =
    record {
      free = omega arith;
      held = λ list plan honest it. it;
      meant = λ list plan honest it. it;
    }

pub returns-in_err-made-clause-plans : goal.returns-in_err-made-clause-plans
returns-in_err-made-clause-plans g c =
    refused_plans g.D.Disk c.from_residual.result _ c.from_residual.ensures.1 (omega arith)

-- without a table the files are as before
pub returns-in-None-clause-plans : goal.returns-in-None-clause-plans
returns-in-None-clause-plans g c =
    let files = c.args.self.now in
    let free = files.free_file in
    let version = (known_version files).version in
    let disk = g.D.Disk.state c.args.disk.now in
    let mid = g.D.Disk.state c.spill.new.disk in
    let stays = c.held_versions_are_left.ensures.same in
    record {
      free = omega arith;
      held = λ list plan honest it.
          let again : FilesHold mid files list =
          subst (λ (o : Option Flushed). MatchOption o (FilesHold mid files list)
          (HasSpilled disk mid files)) c.in-None.is
          (c.in_ok-made.ensures.spilled list honest it.held).list in
          let both = held_again_later disk files list it.held free refl stays mid
          (c.spill.ensures.kept.files honest) (again.unused free (omega arith)) in
          record { held = both.0; can_end = both.1 plan it.can_end };
      meant = λ list plan honest it.
          let again : WereMeantToHold mid files list =
          subst (λ (o : Option Flushed). MatchOption o (WereMeantToHold mid files list)
          (HasSpilled disk mid files)) c.in-None.is
          (c.in_ok-made.ensures.meant list honest it.was).list in
          let usable = c.requires.usable in
          let beside = unnamed_beside version usable.version free usable.free in
          let none = subst (λ (s : Slot). IsNone (seen s)) (sym (again.disk_is.others free beside))
          (again.hold.unused free (omega arith)) in
          let both = again_later disk files list it.was free refl stays mid
          (c.spill.ensures.kept.files honest) none in
          record { was = both.0; can_end = both.1 plan it.can_end };
    }

pub returns-in_err-install-in-Some-clause-plans : goal.returns-in_err-install-in-Some-clause-plans
returns-in_err-install-in-Some-clause-plans g c =
    refused_plans g.D.Disk c.from_residual-in_err-install-in-Some.result _
    c.from_residual-in_err-install-in-Some.ensures.1 c.install.ensures.plans.free

-- a merge can end as before
pub returns-in_ok-install-in-Some-clause-plans : goal.returns-in_ok-install-in-Some-clause-plans
returns-in_ok-install-in-Some-clause-plans g c =
    let files = c.args.self.now in
    let disk = g.D.Disk.state c.args.disk.now in
    let mid = g.D.Disk.state c.spill.new.disk in
    let plans = c.in_ok-install-in-Some.ensures.plans in
    record {
      free = plans.free;
      held = λ list plan honest it.
          plans.held list plan (c.spill.ensures.kept.honest.1 honest) (record {
            spilled = record {
              before = disk;
              held = it.held;
              spilled = subst (λ (o : Option Flushed). MatchOption o (FilesHold mid files list)
                  (HasSpilled disk mid files)) c.in-Some.is
                  (c.in_ok-made.ensures.spilled list honest it.held).list;
            };
            can_end = it.can_end;
          });
      meant = λ list plan honest it.
          plans.meant list plan (c.spill.ensures.kept.honest.1 honest) (record {
            spilled = record {
              before = disk;
              meant = it.was;
              spilled = subst (λ (o : Option Flushed).
                  MatchOption o (WereMeantToHold mid files list) (HasSpilled disk mid files))
                  c.in-Some.is (c.in_ok-made.ensures.meant list honest it.was).list;
            };
            can_end = it.can_end;
          });
    }
