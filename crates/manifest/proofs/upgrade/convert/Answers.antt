use Rattle.std.proofs.Common.{◌≡◌, ◌+◌, List, ℕ, [], ◌∷◌, inl, inr, sym, subst, ◌∙◌, refl, arith}
use Rattle.std.proofs.lemmas.Bool.{cases_lt, false≢true}
use Rattle.std.proofs.lemmas.Result.{err_from_is_err_and}
use Rattle.kv_types.specs.declared.bounds.TheConstants.{MAX_NUMBER}
use Rattle.record_log.specs.{IsDurableAs}
use Rattle.version_edits.specs.{IsFullEdit, change_text, full_change}
use Rattle.byte_fields.specs.declared.format.Format.TheVariants as formats
use Rattle.manifest.specs.Holds.{slot_behind}
use Rattle.manifest.specs.Slots.{IsSlotFile, other_slot}
use Rattle.manifest.proofs.Causes.{log_causes}
use Rattle.manifest.proofs.Edited.{met_is}
use Rattle.manifest.proofs.Kept.{fails_log, kept_as, kept_still, log_fails}
use Rattle.manifest.proofs.Records.{has_old, other_one, others_differ}
use Rattle.manifest.proofs.Upgrades.{counted_stays, had_version, not_begun, rewritten_since}
use Rattle.manifest.proofs.Upgrades.{whole_left}
use Rattle.manifest.proofs.upgrade.convert.Goals as goal

-- no generation is left, and no call was made
pub returns-then-is_last-clause-kept : goal.returns-then-is_last-clause-kept
returns-then-is_last-clause-kept g c = kept_still g.D.Disk c.args.disk.now _ _ _
    (λ f. absurd cc) (λ s other apart. refl)

pub returns-then-is_last-clause-told : goal.returns-then-is_last-clause-told
returns-then-is_last-clause-told g c = λ left honest h. record {
  had = had_version formats.One left (g.D.Disk.state c.args.disk.now) c.args.slots
      c.args.version.now h;
  last = let last = c.is_last.ensures.0 c.if-is_last.true in omega (arith, last, h.generation);
  read = h.read;
}

pub returns-then-is_last-clause-any_moment : goal.returns-then-is_last-clause-any_moment
returns-then-is_last-clause-any_moment g c = λ left honest h.
    not_begun left (g.D.Disk.state c.args.disk.now) c.args.slots c.args.version.now h
    (g.D.Disk.past c.args.disk.now)

-- else a generation follows
pub rewrite-requires-clause-room : goal.rewrite-requires-clause-room
rewrite-requires-clause-room g c = elim (cases_lt c.args.slots.generation MAX_NUMBER) [
  | inl less ↦ less
  | inr last ↦ absurd (false≢true (sym c.if-is_last.false ∙ c.is_last.ensures.1 last))
]

-- nor where no memory is left for the edit
pub returns-in_err-bytes-clause-kept : goal.returns-in_err-bytes-clause-kept
returns-in_err-bytes-clause-kept g c =
    let p = err_from_is_err_and c.from_residual.result c.from_residual.ensures.1 in
    rw (p.1, p.2) (kept_still g.D.Disk c.args.disk.now _ _ _ (λ f. absurd cc)
    (λ s other apart. refl))

pub returns-in_err-bytes-clause-causes : goal.returns-in_err-bytes-clause-causes
returns-in_err-bytes-clause-causes g c =
    let p = err_from_is_err_and c.from_residual.result c.from_residual.ensures.1 in
    rw (p.1, p.2) tt

pub returns-in_err-bytes-clause-any_moment : goal.returns-in_err-bytes-clause-any_moment
returns-in_err-bytes-clause-any_moment g c = λ left honest h.
    not_begun left (g.D.Disk.state c.args.disk.now) c.args.slots c.args.version.now h
    (g.D.Disk.past c.args.disk.now)

-- the other slot is not written, or in part
pub returns-in_err-rewrite-clause-kept : goal.returns-in_err-rewrite-clause-kept
returns-in_err-rewrite-clause-kept g c =
    let p = err_from_is_err_and c.from_residual-in_err-rewrite.result
    c.from_residual-in_err-rewrite.ensures.1 in
    let e = c.in_err-rewrite.field-0.0 in
    rw (p.1, p.2) (kept_as g.D.Disk _ _ _ _ _ _ _ _ (log_fails e) (fails_log e) (λ c. c)
    (λ a b same other apart. same other
    (λ is. apart (subst IsSlotFile (sym is) (other_one c.args.slots.slot c.requires))))
    c.in_err-rewrite.ensures.kept)

pub returns-in_err-rewrite-clause-causes : goal.returns-in_err-rewrite-clause-causes
returns-in_err-rewrite-clause-causes g c =
    let p = err_from_is_err_and c.from_residual-in_err-rewrite.result
    c.from_residual-in_err-rewrite.ensures.1 in
    rw (p.1, p.2) (log_causes c.in_err-rewrite.field-0.0 c.in_err-rewrite.ensures.next.1)

pub returns-in_err-rewrite-clause-told : goal.returns-in_err-rewrite-clause-told
returns-in_err-rewrite-clause-told g c = λ left honest h.
    let p = err_from_is_err_and c.from_residual-in_err-rewrite.result
    c.from_residual-in_err-rewrite.ensures.1 in
    rw (p.1, p.2) (met_is c.in_err-rewrite.field-0.0
    ((c.in_err-rewrite.ensures.changes formats.One).done c.args.version.now.id _ honest h.holds))

pub returns-in_err-rewrite-clause-any_moment : goal.returns-in_err-rewrite-clause-any_moment
returns-in_err-rewrite-clause-any_moment g c = λ left honest h.
    let whole = subst (IsFullEdit c.args.version.now) (sym c.deref.ensures.value)
    c.in_ok-bytes.ensures.whole in
    rewritten_since left (g.D.Disk.state c.args.disk.now) c.args.slots
    c.args.version.now h c.deref.result.now whole (g.D.Disk.state c.rewrite.new.disk)
    (g.D.Disk.past c.args.disk.now) (g.D.Disk.past c.rewrite.new.disk)
    ((c.rewrite.ensures.written formats.One).any_moment c.args.version.now.id _ honest h.holds)

-- it is written
pub returns-clause-kept : goal.returns-clause-kept
returns-clause-kept g c =
    kept_as g.D.Disk _ _ _ _ _ _ _ _ (λ f. absurd cc) (λ f. absurd cc) (λ c. c)
    (λ a b same other apart. same other
    (λ is. apart (subst IsSlotFile (sym is) (other_one c.args.slots.slot c.requires))))
    c.in_ok-rewrite.ensures.kept

pub returns-clause-told : goal.returns-clause-told
returns-clause-told g c = λ left honest h.
    let s0 = g.D.Disk.state c.args.disk.now in
    let s1 = g.D.Disk.state c.rewrite.new.disk in
    let named = c.args.version.now in
    let slots = c.args.slots in
    let text = c.deref.result.now in
    let whole = subst (IsFullEdit named) (sym c.deref.ensures.value)
    c.in_ok-bytes.ensures.whole in
    let spelled : text ≡ change_text (full_change named.version) =
    c.deref.ensures.value ∙ c.in_ok-bytes.ensures.spelled in
    let held = (c.in_ok-rewrite.ensures.changes formats.One).done named.id _ honest h.holds in
    let written = (c.in_ok-rewrite.ensures.written formats.One).written named.id _ honest h.holds in
    let same : s1 slots.slot ≡ s0 slots.slot = c.rewrite.ensures.kept.files honest slots.slot
    (λ is. others_differ slots.slot h.holds.one (sym is)) in
    record {
      had = had_version formats.One left s0 slots named h;
      stays = counted_stays formats.One left s0 slots named h s1 same;
      written = subst (λ (f : ℕ). IsDurableAs s1 (other_slot f)
          (1 ∷ slot_behind (h.had.generation + 1) named.id
          (change_text (full_change named.version)))) (sym h.slot)
          (subst (λ (n : ℕ). IsDurableAs s1 (other_slot slots.slot)
          (1 ∷ slot_behind (n + 1) named.id (change_text (full_change named.version))))
          (sym h.generation)
          (subst (λ (t : List ℕ). IsDurableAs s1 (other_slot slots.slot)
          (1 ∷ slot_behind (slots.generation + 1) named.id t)) spelled written));
      leaves = λ other now. whole_left named text other h.id whole
          (has_old formats.Two s1 c.rewrite.new.self named.id (text ∷ []) held other
          (λ slot one. now slot));
    }

pub returns-clause-any_moment : goal.returns-clause-any_moment
returns-clause-any_moment g c = λ left honest h.
    let whole = subst (IsFullEdit c.args.version.now) (sym c.deref.ensures.value)
    c.in_ok-bytes.ensures.whole in
    rewritten_since left (g.D.Disk.state c.args.disk.now) c.args.slots
    c.args.version.now h c.deref.result.now whole (g.D.Disk.state c.rewrite.new.disk)
    (g.D.Disk.past c.args.disk.now) (g.D.Disk.past c.rewrite.new.disk)
    ((c.rewrite.ensures.written formats.One).any_moment c.args.version.now.id _ honest h.holds)
