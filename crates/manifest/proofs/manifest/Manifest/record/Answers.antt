use Rattle.std.proofs.Common.{◌≤◌, ℕ, List, length, sym, subst, false, ◌∙◌, rules}
use Rattle.std.proofs.lemmas.Result.{err_from_is_err_and}
use Rattle.record_log.specs.declared.log.TheConstants.{MAX_RECORD}
use Rattle.manifest.proofs.Edited.{met_is}
use Rattle.version_edits.specs.{NodeVersion, IsFit}
use Rattle.manifest.proofs.Edited.{version_since, version_start, version_held}
use Rattle.std.proofs.Common.{refl}
use Rattle.record_log.specs.{HasNoRoom}
use Rattle.manifest.proofs.Kept.{fails_log, kept_as, kept_still, log_fails}
use Rattle.manifest.proofs.manifest.Manifest.record.Goals as goal

pub returns-then-self-clause-changes : goal.returns-then-self-clause-changes
returns-then-self-clause-changes g c = record {
  -- the disk is untouched before the record is added
  kept = kept_still g.D.Disk c.args.disk.now _ _ _ (λ f. absurd cc) (λ s other apart. refl);
  failed = search rules;
  changed = search rules;
  any_moment = λ named honest h.
      version_start (g.D.Disk.state c.args.disk.now) c.args.self.now named c.args.edit.now h
      (subst (λ (n : NodeVersion). IsFit n.version c.args.edit.now) h.knows c.requires.fit.0)
      c.requires.fit.1 (g.D.Disk.past c.args.disk.now);
}

pub returns-in_err-bytes-clause-changes : goal.returns-in_err-bytes-clause-changes
returns-in_err-bytes-clause-changes g c = record {
  kept = let p = err_from_is_err_and c.from_residual.result c.from_residual.ensures.1 in
      rw (p.1, p.2) (kept_still g.D.Disk c.args.disk.now _ _ _ (λ f. absurd cc)
      (λ s other apart. refl));
  failed = search rules;
  changed = search rules;
  any_moment = λ named honest h.
      version_start (g.D.Disk.state c.args.disk.now) c.args.self.now named c.args.edit.now h
      (subst (λ (n : NodeVersion). IsFit n.version c.args.edit.now) h.knows c.requires.fit.0)
      c.requires.fit.1 (g.D.Disk.past c.args.disk.now);
}

pub returns-in_err-version-clause-changes : goal.returns-in_err-version-clause-changes
returns-in_err-version-clause-changes g c = record {
  kept = let p = err_from_is_err_and c.from_residual-in_err-version.result
      c.from_residual-in_err-version.ensures.1 in
      rw (p.1, p.2) (kept_still g.D.Disk c.args.disk.now _ _ _ (λ f. absurd cc)
      (λ s other apart. refl));
  failed = search rules;
  changed = search rules;
  any_moment = λ named honest h.
      version_start (g.D.Disk.state c.args.disk.now) c.args.self.now named c.args.edit.now h
      (subst (λ (n : NodeVersion). IsFit n.version c.args.edit.now) h.knows c.requires.fit.0)
      c.requires.fit.1 (g.D.Disk.past c.args.disk.now);
}

pub returns-in_err-record-clause-changes : goal.returns-in_err-record-clause-changes
returns-in_err-record-clause-changes g c = record {
  -- and kept as the slots keep it
  kept = let p = err_from_is_err_and c.from_residual-in_err-record.result
      c.from_residual-in_err-record.ensures.1 in
      let e = c.in_err-record.field-0.0 in
      let log = c.args.self.now.slots.log in
      let text = c.deref.ensures.value ∙ c.in_ok-bytes.ensures in
      rw (p.1, p.2) (kept_as g.D.Disk _ _ _ _ _ _ _ _ (log_fails e) (fails_log e)
      (subst (HasNoRoom log) text) (λ a b k. k) c.in_err-record.ensures.kept);
  failed = search rules;
  -- the device's failure and want of memory are all that it meets
  changed = λ named honest h.
      let text = c.deref.ensures.value ∙ c.in_ok-bytes.ensures in
      let short = subst (λ (t : List ℕ). length t ≤ MAX_RECORD) (sym text)
      (c.fit_edits_are_short.ensures c.args.self.now.version.version c.args.edit.now
      c.requires.fit.0 c.requires.fit.1) in
      let why = c.in_err-record.ensures.met named.id _ honest h.records short in
      let p = err_from_is_err_and c.from_residual-in_err-record.result
      c.from_residual-in_err-record.ensures.1 in
      rw (p.1, p.2) (met_is c.in_err-record.field-0.0 why);
  any_moment = λ named honest h.
      version_since (g.D.Disk.state c.args.disk.now) c.args.self.now named c.args.edit.now h
      (subst (λ (n : NodeVersion). IsFit n.version c.args.edit.now) h.knows c.requires.fit.0)
      c.requires.fit.1 c.deref.result.now (c.deref.ensures.value ∙ c.in_ok-bytes.ensures)
      (g.D.Disk.state c.record.new.disk) (g.D.Disk.past c.args.disk.now)
      (g.D.Disk.past c.record.new.disk)
      (c.record.ensures.changes.any_moment named.id _ honest h.records);
}

pub returns-clause-changes : goal.returns-clause-changes
returns-clause-changes g c = record {
  kept = let log = c.args.self.now.slots.log in
      let text = c.deref.ensures.value ∙ c.in_ok-bytes.ensures in
      kept_as g.D.Disk _ _ _ _ _ _ _ _ (λ f. absurd cc) (λ f. absurd cc)
      (subst (HasNoRoom log) text) (λ a b k. k) c.in_ok-record.ensures.kept;
  failed = search rules;
  -- after Ok the slots hold the edit
  changed = λ named honest h.
      let text = c.deref.ensures.value ∙ c.in_ok-bytes.ensures in
      version_held (g.D.Disk.state c.args.disk.now) c.args.self.now named c.args.edit.now h
      (subst (λ (n : NodeVersion). IsFit n.version c.args.edit.now) h.knows c.requires.fit.0)
      c.requires.fit.1
      c.deref.result.now text (g.D.Disk.state c.record.new.disk)
      (record c.args.self.now {
        slots = c.record.new.self;
        version = c.in_ok-version.version;
        has_failed = false;
      })
      (λ e. absurd cc) c.in_ok-version.ensures
      (c.in_ok-record.ensures.changes.done named.id _ honest h.records);
  any_moment = λ named honest h.
      version_since (g.D.Disk.state c.args.disk.now) c.args.self.now named c.args.edit.now h
      (subst (λ (n : NodeVersion). IsFit n.version c.args.edit.now) h.knows c.requires.fit.0)
      c.requires.fit.1 c.deref.result.now (c.deref.ensures.value ∙ c.in_ok-bytes.ensures)
      (g.D.Disk.state c.record.new.disk) (g.D.Disk.past c.args.disk.now)
      (g.D.Disk.past c.record.new.disk)
      (c.record.ensures.changes.any_moment named.id _ honest h.records);
}
