use Rattle.std.proofs.Common.{sym, subst, refl, false, rules}
use Rattle.std.proofs.lemmas.Result.{err_from_is_err_and}
use Rattle.version_edits.specs.{IsFullEdit}
use Rattle.byte_fields.specs.declared.format.Format.TheVariants as formats
use Rattle.manifest.proofs.Edited.{met_is, whole_since, whole_start, whole_held}
use Rattle.manifest.proofs.Kept.{fails_log, kept_as, kept_still, log_fails}
use Rattle.manifest.proofs.manifest.Manifest.rewrite.Goals as goal

pub returns-then-self-clause-changes : goal.returns-then-self-clause-changes
returns-then-self-clause-changes g c = record {
  -- the disk is untouched before the other slot is written
  kept = kept_still g.D.Disk c.args.disk.now _ _ _ (λ f. absurd cc) (λ s other apart. refl);
  failed = search rules;
  changed = search rules;
  any_moment = λ named honest h.
      whole_start (g.D.Disk.state c.args.disk.now)
      (g.D.Disk.past c.args.disk.now) c.args.self.now named
      h;
}

pub returns-in_err-bytes-clause-changes : goal.returns-in_err-bytes-clause-changes
returns-in_err-bytes-clause-changes g c = record {
  kept = let p = err_from_is_err_and c.from_residual.result c.from_residual.ensures.1 in
      rw (p.1, p.2) (kept_still g.D.Disk c.args.disk.now _ _ _ (λ f. absurd cc)
      (λ s other apart. refl));
  failed = search rules;
  changed = search rules;
  any_moment = λ named honest h.
      whole_start (g.D.Disk.state c.args.disk.now)
      (g.D.Disk.past c.args.disk.now) c.args.self.now named
      h;
}

pub returns-in_err-rewrite-clause-changes : goal.returns-in_err-rewrite-clause-changes
returns-in_err-rewrite-clause-changes g c = record {
  -- and kept as the slots keep it
  kept = let p = err_from_is_err_and c.from_residual-in_err-rewrite.result
      c.from_residual-in_err-rewrite.ensures.1 in
      let e = c.in_err-rewrite.field-0.0 in
      rw (p.1, p.2) (kept_as g.D.Disk _ _ _ _ _ _ _ _ (log_fails e) (fails_log e) (λ c. c)
      (λ a b k. k) c.in_err-rewrite.ensures.kept);
  failed = search rules;
  changed = λ named honest h.
      let why = (c.in_err-rewrite.ensures.changes formats.Two).done named.id _ honest h.records in
      let p = err_from_is_err_and c.from_residual-in_err-rewrite.result
      c.from_residual-in_err-rewrite.ensures.1 in
      rw (p.1, p.2) (met_is c.in_err-rewrite.field-0.0 why);
  any_moment = λ named honest h.
      let whole = subst (IsFullEdit c.args.self.now.version) (sym c.deref.ensures.value)
      c.in_ok-bytes.ensures.whole in
      whole_since (g.D.Disk.state c.args.disk.now) c.args.self.now named c.deref.result.now h whole
      (g.D.Disk.state c.rewrite.new.disk) (g.D.Disk.past c.args.disk.now)
      (g.D.Disk.past c.rewrite.new.disk)
      ((c.rewrite.ensures.changes formats.Two).any_moment named.id _ honest h.records);
}

pub returns-clause-changes : goal.returns-clause-changes
returns-clause-changes g c = record {
  kept = kept_as g.D.Disk _ _ _ _ _ _ _ _ (λ f. absurd cc) (λ f. absurd cc) (λ c. c) (λ a b k. k)
      c.in_ok-rewrite.ensures.kept;
  failed = search rules;
  changed = λ named honest h.
      let whole = subst (IsFullEdit c.args.self.now.version) (sym c.deref.ensures.value)
      c.in_ok-bytes.ensures.whole in
      whole_held (g.D.Disk.state c.args.disk.now) c.args.self.now named c.deref.result.now h whole
      (g.D.Disk.state c.rewrite.new.disk)
      (record c.args.self.now { slots = c.rewrite.new.self; has_failed = false })
      (λ e. absurd cc) refl ((c.in_ok-rewrite.ensures.changes formats.Two).done named.id _ honest
      h.records);
  any_moment = λ named honest h.
      let whole = subst (IsFullEdit c.args.self.now.version) (sym c.deref.ensures.value)
      c.in_ok-bytes.ensures.whole in
      whole_since (g.D.Disk.state c.args.disk.now) c.args.self.now named c.deref.result.now h whole
      (g.D.Disk.state c.rewrite.new.disk) (g.D.Disk.past c.args.disk.now)
      (g.D.Disk.past c.rewrite.new.disk)
      ((c.rewrite.ensures.changes formats.Two).any_moment named.id _ honest h.records);
}
