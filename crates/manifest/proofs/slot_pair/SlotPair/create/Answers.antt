use Rattle.std.proofs.Common.{◌≡◌, ◌<◌, ◌^◌, ◌∷◌, length, false, refl, sym, subst, ◌∙◌}
use Rattle.std.proofs.Common.{ap, arith}
use Rattle.std.specs.Prelude.{IsNone}
use Rattle.disk.specs.{Slot, seen}
use Rattle.record_log.specs.{IsDurableAs}
use Rattle.record_log.specs.{begun}
use Rattle.manifest.specs.Holds.{slot_behind}
use Rattle.manifest.proofs.Begun.{held_begun, begun_gated, begun_none, begun_stands, begun_long}
use Rattle.manifest.proofs.Begun.{external_log}
use Rattle.std.proofs.Common.{refl, inr}
use Rattle.std.proofs.lemmas.Result.{err_from_is_err_and}
use Rattle.manifest.proofs.Kept.{closed_fits, disk_fails, fails_disk, kept_as, kept_still}
use Rattle.manifest.proofs.Kept.{kept_then}
use Rattle.manifest.proofs.Kept.{log_again, slots_alone}
use Rattle.manifest.proofs.slot_pair.SlotPair.create.Goals as goal

-- the second slot's gate is closed, and the first has the record
pub returns-clause-created : goal.returns-clause-created
returns-clause-created g c = λ honest no1 no2.
    let state = g.D.Disk.state in
    let s0 = state c.args.disk.now in
    let s1 = state c.create.new.disk in
    let s2 = state c.write_gated.new.disk in
    let one = c.args.one.now in
    let short : length one < 2 ^ 32 = omega (arith, c.requires.short) in
    let behind = slot_behind 1 c.args.id one in
    let honest1 = c.create.ensures.kept.honest.1 honest in
    let same1 : s1 1 ≡ s0 1 = c.create.ensures.kept.files honest 1
    (λ e. absurd (omega (arith, e))) in
    let none1 : IsNone (seen (s1 1)) =
    subst (λ (slot : Slot). IsNone (seen slot)) (sym same1) no1 in
    let closed : c.deref.result.now ≡ 0 ∷ behind =
    c.deref.ensures.value ∙ c.in_ok-closed.ensures in
    let done = c.in_ok-write_gated.ensures.done (0 ∷ behind) honest1
    (begun_gated (s1 1) c.deref.result.now behind none1 closed (omega arith)) in
    let log = c.in_ok-log.ensures.holds s2 one refl (record {
      bytes = 1 ∷ behind;
      sure = done.0;
      within = begun_long c.args.id one short;
      fits = omega (arith, done.1, ap length closed);
      stands = begun_stands c.args.id one short;
    }) in
    let same2 : s2 2 ≡ s1 2 = c.write_gated.ensures.kept.files honest1 2
    (λ e. absurd (omega (arith, e))) in
    let second : IsDurableAs s2 2 (begun (seen (s0 2))) =
    same2 ∙ c.in_ok-create.ensures.spelled honest in
    record {
      holds = held_begun c.args.id one short s2
          (record {
            slot = 1;
            generation = 1;
            id = c.args.id;
            other_is_open = false;
            log = c.in_ok-log.log;
          })
          (seen (s0 2)) refl refl refl refl c.in_ok-log.ensures.at log done.0 second;
      first = done.0;
      second = subst (IsDurableAs s2 2) (begun_none (seen (s0 2)) no2) second;
    }

-- the device's failure and want of memory are all that the four calls meet
pub returns-in_err-write_gated-clause-created : goal.returns-in_err-write_gated-clause-created
returns-in_err-write_gated-clause-created g c = λ honest no1 no2.
    let state = g.D.Disk.state in
    let s0 = state c.args.disk.now in
    let s1 = state c.create.new.disk in
    let behind = slot_behind 1 c.args.id c.args.one.now in
    let same1 : s1 1 ≡ s0 1 = c.create.ensures.kept.files honest 1
    (λ e. absurd (omega (arith, e))) in
    let none1 : IsNone (seen (s1 1)) =
    subst (λ (slot : Slot). IsNone (seen slot)) (sym same1) no1 in
    let closed : c.deref.result.now ≡ 0 ∷ behind =
    c.deref.ensures.value ∙ c.in_ok-closed.ensures in
    let why = c.in_err-write_gated.ensures.done (0 ∷ behind) (c.create.ensures.kept.honest.1 honest)
    (begun_gated (s1 1) c.deref.result.now behind none1 closed (omega arith)) in
    let p = err_from_is_err_and c.from_residual-in_err-write_gated.result
    c.from_residual-in_err-write_gated.ensures.1 in
    rw (p.1, p.2) (external_log c.in_err-write_gated.field-0.0 why)

-- the disk is untouched before the second slot is made
pub returns-in_err-closed-clause-kept : goal.returns-in_err-closed-clause-kept
returns-in_err-closed-clause-kept g c =
    let p = err_from_is_err_and c.from_residual.result c.from_residual.ensures.1 in
    rw (p.1, p.2) (kept_still g.D.Disk c.args.disk.now _ _ _ (λ f. absurd cc)
    (λ s other apart. refl))

pub returns-in_err-log-clause-kept : goal.returns-in_err-log-clause-kept
returns-in_err-log-clause-kept g c =
    let p = err_from_is_err_and c.from_residual-in_err-log.result
    c.from_residual-in_err-log.ensures.1 in
    rw (p.1, p.2) (kept_still g.D.Disk c.args.disk.now _ _ _ (λ f. absurd cc)
    (λ s other apart. refl))

-- then only slots change
pub returns-in_err-create-clause-kept : goal.returns-in_err-create-clause-kept
returns-in_err-create-clause-kept g c =
    let p = err_from_is_err_and c.from_residual-in_err-create.result
    c.from_residual-in_err-create.ensures.1 in
    let e = c.in_err-create.field-0.0 in
    rw (p.1, p.2) (kept_as g.D.Disk _ _ _ _ _ _ _ _ (log_again e) (log_again e) (λ c. c)
    (λ a b same other apart. same other (λ is. apart (inr is))) c.in_err-create.ensures.kept)

pub returns-in_err-write_gated-clause-kept : goal.returns-in_err-write_gated-clause-kept
returns-in_err-write_gated-clause-kept g c =
    let p = err_from_is_err_and c.from_residual-in_err-write_gated.result
    c.from_residual-in_err-write_gated.ensures.1 in
    let e = c.in_err-write_gated.field-0.0 in
    let short = closed_fits 1 c.args.id c.args.one.now _ c.requires.short
    (c.deref.ensures.value ∙ c.in_ok-closed.ensures) in
    rw (p.1, p.2) (kept_then g.D.Disk _ _ _ _ _ _ _ _ _ _ (λ f. absurd cc) slots_alone
    c.in_ok-create.ensures.kept
    (kept_as g.D.Disk _ _ _ _ _ _ _ _ (disk_fails e) (fails_disk e) short (λ a b k. k)
    c.in_err-write_gated.ensures.kept))

pub returns-clause-kept : goal.returns-clause-kept
returns-clause-kept g c =
    let short = closed_fits 1 c.args.id c.args.one.now _ c.requires.short
    (c.deref.ensures.value ∙ c.in_ok-closed.ensures) in
    kept_then g.D.Disk _ _ _ _ _ _ _ _ _ _ (λ f. absurd cc) slots_alone
    c.in_ok-create.ensures.kept
    (kept_as g.D.Disk _ _ _ _ _ _ _ _ (λ f. absurd cc) (λ f. absurd cc) short (λ a b k. k)
    c.in_ok-write_gated.ensures.kept)
