use Rattle.std.proofs.Common.{◌≡◌, ℕ, ◌+◌, ◌-◌, List, ◌∷◌, drop, sym, ap, subst, ◌∙◌, refl, arith}
use Rattle.std.proofs.Common.{length, ◌<◌, ◌^◌, rules, true}
use Rattle.record_log.specs.{IsAt, IsDurableAs}
use Rattle.disk.specs.{IsLeftAt, LeavesSince}
use Rattle.manifest.specs.Holds.{slot_behind}
use Rattle.manifest.proofs.Replaces.{OnTheWay}
use Rattle.manifest.proofs.Records.{others_differ}
use Rattle.manifest.proofs.Rewrites.{either_since, held_new, left_since, left_unmoved}
use Rattle.manifest.proofs.Rewrites.{new_long, new_stands, unmoved}
use Rattle.manifest.proofs.Shortened.{new_is_short}
use Rattle.std.proofs.lemmas.Result.{err_from_is_err_and}
use Rattle.manifest.proofs.Kept.{behind_fits, disk_fails, fails_disk, kept_as, kept_still}
use Rattle.manifest.proofs.slot_pair.SlotPair.rewrite.Goals as goal

-- nothing was done
pub returns-in_err-closed-clause-changes : goal.returns-in_err-closed-clause-changes
returns-in_err-closed-clause-changes g c = λ format. record {
  done = search rules;
  any_moment = λ id records honest h.
      unmoved format (g.D.Disk.state c.args.disk.now) c.args.self.now id records c.args.one.now h
      (omega (arith, c.requires.short)) c.requires.room (g.D.Disk.past c.args.disk.now);
}

pub returns-in_err-log-clause-changes : goal.returns-in_err-log-clause-changes
returns-in_err-log-clause-changes g c = λ format. record {
  done = search rules;
  any_moment = λ id records honest h.
      unmoved format (g.D.Disk.state c.args.disk.now) c.args.self.now id records c.args.one.now h
      (omega (arith, c.requires.short)) c.requires.room (g.D.Disk.past c.args.disk.now);
}

-- the other slot is replaced
pub returns-in_err-replace-clause-changes : goal.returns-in_err-replace-clause-changes
returns-in_err-replace-clause-changes g c = λ format. record {
  done = search rules;
  any_moment = λ id records honest h.
      let state = g.D.Disk.state in
      let past = g.D.Disk.past in
      let s0 = state c.args.disk.now in
      let slots = c.args.self.now in
      let file : c.saturating_sub-other.result ≡ 3 - slots.slot =
      omega (arith, c.saturating_sub-other.ensures) in
      let behind : c.split_at.result.1.now ≡ slot_behind
      (slots.generation + 1) slots.id c.args.one.now =
      c.split_at.ensures.back ∙ ap (drop 1) (c.deref.ensures.value ∙ c.in_ok-closed.ensures) in
      let sure = subst (λ (f : ℕ). IsDurableAs s0 f h.other_bytes) (sym file) h.other_sure in
      either_since format s0 slots id records c.args.one.now h (omega (arith, c.requires.short))
      c.requires.room (state c.replace.new.disk) (past c.args.disk.now) (past c.replace.new.disk)
      c.saturating_sub-other.result file
      (subst (λ (b : List ℕ). LeavesSince s0 (past c.args.disk.now) (state c.replace.new.disk)
      (past c.replace.new.disk) (IsLeftAt s0 c.saturating_sub-other.result
      (OnTheWay h.other_bytes b)))
      behind (c.replace.ensures.any_moment h.other_bytes honest (sure, h.gate)));
}

pub returns-clause-changes : goal.returns-clause-changes
returns-clause-changes g c = λ format. record {
  -- and then it counts
  done = λ id records honest h.
      let state = g.D.Disk.state in
      let s0 = state c.args.disk.now in
      let slots = c.args.self.now in
      let one = c.args.one.now in
      let short : length one < 2 ^ 32 = omega (arith, c.requires.short) in
      let file : c.saturating_sub-other.result ≡ 3 - slots.slot =
      omega (arith, c.saturating_sub-other.ensures) in
      let whole = slot_behind (slots.generation + 1) slots.id one in
      let behind : c.split_at.result.1.now ≡ whole =
      c.split_at.ensures.back ∙ ap (drop 1) (c.deref.ensures.value ∙ c.in_ok-closed.ensures) in
      let sure = subst (λ (f : ℕ). IsDurableAs s0 f h.other_bytes) (sym file) h.other_sure in
      let new = state c.replace.new.disk in
      let done = c.in_ok-replace.ensures.done h.other_bytes honest (sure, h.gate) in
      let there : IsDurableAs new c.saturating_sub-other.result (1 ∷ whole) =
      subst (λ (b : List ℕ). IsDurableAs new c.saturating_sub-other.result (1 ∷ b)) behind done.0 in
      let fits : length (1 ∷ whole) < 2 ^ 63 =
      subst (λ (b : List ℕ). length (1 ∷ b) < 2 ^ 63) behind (omega (arith, done.1)) in
      let log = c.in_ok-log.ensures.holds new one refl (record {
        bytes = 1 ∷ whole;
        sure = there;
        within = new_long format s0 slots id records one h short c.requires.room;
        fits = fits;
        stands = new_stands format s0 slots id records one h short c.requires.room;
      }) in
      held_new format s0 slots id records one h short c.requires.room new
      (record slots {
        slot = c.saturating_sub-other.result;
        generation = slots.generation + 1;
        other_is_open = true;
        log = c.in_ok-log.log;
      })
      file refl refl refl (subst (λ (f : ℕ). IsAt f 13 c.in_ok-log.log) file c.in_ok-log.ensures.at)
      log
      (subst (λ (f : ℕ). IsDurableAs new f (1 ∷ whole)) file there)
      (c.replace.ensures.kept.files honest slots.slot
      (λ same. others_differ slots.slot h.one (sym (same ∙ file))));
  any_moment = λ id records honest h.
      let state = g.D.Disk.state in
      let past = g.D.Disk.past in
      let s0 = state c.args.disk.now in
      let slots = c.args.self.now in
      let file : c.saturating_sub-other.result ≡ 3 - slots.slot =
      omega (arith, c.saturating_sub-other.ensures) in
      let behind : c.split_at.result.1.now ≡ slot_behind
      (slots.generation + 1) slots.id c.args.one.now =
      c.split_at.ensures.back ∙ ap (drop 1) (c.deref.ensures.value ∙ c.in_ok-closed.ensures) in
      let sure = subst (λ (f : ℕ). IsDurableAs s0 f h.other_bytes) (sym file) h.other_sure in
      either_since format s0 slots id records c.args.one.now h (omega (arith, c.requires.short))
      c.requires.room (state c.replace.new.disk) (past c.args.disk.now) (past c.replace.new.disk)
      c.saturating_sub-other.result file
      (subst (λ (b : List ℕ). LeavesSince s0 (past c.args.disk.now) (state c.replace.new.disk)
      (past c.replace.new.disk) (IsLeftAt s0 c.saturating_sub-other.result
      (OnTheWay h.other_bytes b)))
      behind (c.replace.ensures.any_moment h.other_bytes honest (sure, h.gate)));
}

-- the other slot is on its way
pub returns-in_err-closed-clause-written : goal.returns-in_err-closed-clause-written
returns-in_err-closed-clause-written g c = λ format. record {
  written = search rules;
  any_moment = λ id records honest h.
      left_unmoved format (g.D.Disk.state c.args.disk.now) c.args.self.now id records
      c.args.one.now h (omega (arith, c.requires.short)) c.requires.room
      (g.D.Disk.past c.args.disk.now);
}

pub returns-in_err-log-clause-written : goal.returns-in_err-log-clause-written
returns-in_err-log-clause-written g c = λ format. record {
  written = search rules;
  any_moment = λ id records honest h.
      left_unmoved format (g.D.Disk.state c.args.disk.now) c.args.self.now id records
      c.args.one.now h (omega (arith, c.requires.short)) c.requires.room
      (g.D.Disk.past c.args.disk.now);
}

pub returns-in_err-replace-clause-written : goal.returns-in_err-replace-clause-written
returns-in_err-replace-clause-written g c = λ format. record {
  written = search rules;
  any_moment = λ id records honest h.
      let state = g.D.Disk.state in
      let past = g.D.Disk.past in
      let s0 = state c.args.disk.now in
      let slots = c.args.self.now in
      let file : c.saturating_sub-other.result ≡ 3 - slots.slot =
      omega (arith, c.saturating_sub-other.ensures) in
      let behind : c.split_at.result.1.now ≡ slot_behind
      (slots.generation + 1) slots.id c.args.one.now =
      c.split_at.ensures.back ∙ ap (drop 1) (c.deref.ensures.value ∙ c.in_ok-closed.ensures) in
      let sure = subst (λ (f : ℕ). IsDurableAs s0 f h.other_bytes) (sym file) h.other_sure in
      left_since format s0 slots id records c.args.one.now h (omega (arith, c.requires.short))
      c.requires.room (state c.replace.new.disk) (past c.args.disk.now) (past c.replace.new.disk)
      c.saturating_sub-other.result file
      (subst (λ (b : List ℕ). LeavesSince s0 (past c.args.disk.now) (state c.replace.new.disk)
      (past c.replace.new.disk) (IsLeftAt s0 c.saturating_sub-other.result
      (OnTheWay h.other_bytes b)))
      behind (c.replace.ensures.any_moment h.other_bytes honest (sure, h.gate)));
}

-- and then it has the record
pub returns-clause-written : goal.returns-clause-written
returns-clause-written g c = λ format. record {
  written = λ id records honest h.
      let s0 = g.D.Disk.state c.args.disk.now in
      let new = g.D.Disk.state c.replace.new.disk in
      let slots = c.args.self.now in
      let one = c.args.one.now in
      let file : c.saturating_sub-other.result ≡ 3 - slots.slot =
      omega (arith, c.saturating_sub-other.ensures) in
      let whole = slot_behind (slots.generation + 1) slots.id one in
      let behind : c.split_at.result.1.now ≡ whole =
      c.split_at.ensures.back ∙ ap (drop 1) (c.deref.ensures.value ∙ c.in_ok-closed.ensures) in
      let sure = subst (λ (f : ℕ). IsDurableAs s0 f h.other_bytes) (sym file) h.other_sure in
      let done = c.in_ok-replace.ensures.done h.other_bytes honest (sure, h.gate) in
      let there : IsDurableAs new c.saturating_sub-other.result (1 ∷ whole) =
      subst (λ (b : List ℕ). IsDurableAs new c.saturating_sub-other.result (1 ∷ b)) behind done.0 in
      subst (λ (f : ℕ). IsDurableAs new f (1 ∷ slot_behind (slots.generation + 1) id one)) file
      (subst (λ (i : ℕ). IsDurableAs new c.saturating_sub-other.result
      (1 ∷ slot_behind (slots.generation + 1) i one)) h.is_id there);
  any_moment = λ id records honest h.
      let state = g.D.Disk.state in
      let past = g.D.Disk.past in
      let s0 = state c.args.disk.now in
      let slots = c.args.self.now in
      let file : c.saturating_sub-other.result ≡ 3 - slots.slot =
      omega (arith, c.saturating_sub-other.ensures) in
      let behind : c.split_at.result.1.now ≡ slot_behind
      (slots.generation + 1) slots.id c.args.one.now =
      c.split_at.ensures.back ∙ ap (drop 1) (c.deref.ensures.value ∙ c.in_ok-closed.ensures) in
      let sure = subst (λ (f : ℕ). IsDurableAs s0 f h.other_bytes) (sym file) h.other_sure in
      left_since format s0 slots id records c.args.one.now h (omega (arith, c.requires.short))
      c.requires.room (state c.replace.new.disk) (past c.args.disk.now) (past c.replace.new.disk)
      c.saturating_sub-other.result file
      (subst (λ (b : List ℕ). LeavesSince s0 (past c.args.disk.now) (state c.replace.new.disk)
      (past c.replace.new.disk) (IsLeftAt s0 c.saturating_sub-other.result
      (OnTheWay h.other_bytes b)))
      behind (c.replace.ensures.any_moment h.other_bytes honest (sure, h.gate)));
}

-- the disk is untouched before the other slot is written
pub returns-in_err-closed-clause-kept : goal.returns-in_err-closed-clause-kept
returns-in_err-closed-clause-kept g c =
    let p = err_from_is_err_and c.from_residual.result c.from_residual.ensures.1 in
    rw (p.1, p.2) (kept_still g.D.Disk c.args.disk.now _ _ _ (λ f. absurd cc)
    (λ s other apart. refl))

pub returns-in_err-log-clause-kept : goal.returns-in_err-log-clause-kept
returns-in_err-log-clause-kept g c =
    let p = err_from_is_err_and c.from_residual-in_err-log.result
    c.from_residual-in_err-log.ensures.1 in
    rw (p.1, p.2) (kept_still g.D.Disk c.args.disk.now _ _ _ (λ f. absurd cc)
    (λ s other apart. refl))

-- and then no other file changes
pub returns-in_err-replace-clause-kept : goal.returns-in_err-replace-clause-kept
returns-in_err-replace-clause-kept g c =
    let p = err_from_is_err_and c.from_residual-in_err-replace.result
    c.from_residual-in_err-replace.ensures.1 in
    let e = c.in_err-replace.field-0.0 in
    let file : c.saturating_sub-other.result ≡ 3 - c.args.self.now.slot =
    omega (arith, c.saturating_sub-other.ensures) in
    let short = behind_fits (c.args.self.now.generation + 1) c.args.self.now.id c.args.one.now _
    c.requires.short
    (c.split_at.ensures.back ∙ ap (drop 1) (c.deref.ensures.value ∙ c.in_ok-closed.ensures)) in
    rw (p.1, p.2) (kept_as g.D.Disk _ _ _ _ _ _ _ _ (disk_fails e) (fails_disk e) short
    (λ a b same other apart. same other (λ is. apart (is ∙ file))) c.in_err-replace.ensures.kept)

pub returns-clause-kept : goal.returns-clause-kept
returns-clause-kept g c =
    let file : c.saturating_sub-other.result ≡ 3 - c.args.self.now.slot =
    omega (arith, c.saturating_sub-other.ensures) in
    let short = behind_fits (c.args.self.now.generation + 1) c.args.self.now.id c.args.one.now _
    c.requires.short
    (c.split_at.ensures.back ∙ ap (drop 1) (c.deref.ensures.value ∙ c.in_ok-closed.ensures)) in
    kept_as g.D.Disk _ _ _ _ _ _ _ _ (λ f. absurd cc) (λ f. absurd cc) short
    (λ a b same other apart. same other (λ is. apart (is ∙ file))) c.in_ok-replace.ensures.kept

-- it counts in its own file, and is short
pub returns-clause-next : goal.returns-clause-next
returns-clause-next g c =
    let one = c.args.one.now in
    let file : c.saturating_sub-other.result ≡ 3 - c.args.self.now.slot =
    omega (arith, c.saturating_sub-other.ensures) in (
      c.in_ok-log.ensures.at.in_file ∙ file,
      refl,
      new_is_short c.gates_are_in_files.ensures c.first_lengths_are.ensures
          c.saturating_sub-other.result 0 0 one c.in_ok-log.log c.requires.short
          (λ disk held. c.in_ok-log.ensures.holds disk one refl held),
    )
