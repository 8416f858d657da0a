use Rattle.std.proofs.Common.{◌≡◌, ◌∙◌, ℕ, List, ◌∷◌, false, sym, subst}
use Rattle.version_edits.specs.{NodeVersion, first_version}
use Rattle.record_log.specs.{IsDurableAs}
use Rattle.version_edits.specs.{change_text}
use Rattle.manifest.specs.Holds.{AreNewSlots, slot_behind}
use Rattle.version_edits.specs.{IsFullEdit, full_change}
use Rattle.manifest.proofs.Edited.{held_whole}
use Rattle.std.proofs.Common.{refl}
use Rattle.std.proofs.lemmas.Result.{err_from_is_err_and}
use Rattle.manifest.proofs.Kept.{fails_log, kept_as, kept_still, log_fails}
use Rattle.manifest.proofs.manifest.Manifest.create.Goals as goal

-- the one edit gives the version of a new node
pub returns-clause-created : goal.returns-clause-created
returns-clause-created g c = λ honest no1 no2.
    let named = first_version c.args.id c.args.config.now in
    let whole : IsFullEdit named c.deref.result.now =
    subst (IsFullEdit named) (sym c.deref.ensures.value)
    (subst (λ (n : NodeVersion). IsFullEdit n c.in_ok-bytes.bytes.items) c.in_ok-version.ensures
    c.in_ok-bytes.ensures.whole) in
    let id : c.get.result ≡ c.args.id = c.get.ensures.same in
    let made : AreNewSlots (g.D.Disk.state c.create.new.disk) c.args.id c.deref.result.now
    c.in_ok-slots.slots =
    subst (λ (i : ℕ). AreNewSlots (g.D.Disk.state c.create.new.disk) i c.deref.result.now
    c.in_ok-slots.slots) id (c.in_ok-slots.ensures.created honest no1 no2) in
    let text : c.deref.result.now ≡ change_text (full_change named.version) =
    c.deref.ensures.value ∙ subst (λ (n : NodeVersion).
    c.in_ok-bytes.bytes.items ≡ change_text (full_change n.version)) c.in_ok-version.ensures
    c.in_ok-bytes.ensures.spelled in
    record {
      holds = held_whole (g.D.Disk.state c.create.new.disk)
          (record {
            slots = c.in_ok-slots.slots;
            version = c.in_ok-version.version;
            has_failed =
                false;
          })
          named c.deref.result.now c.get.ensures.id whole (λ e. absurd cc) c.in_ok-version.ensures
          made.holds;
      slots = record {
        first = subst (λ (t : List ℕ). IsDurableAs (g.D.Disk.state c.create.new.disk) 1
            (1 ∷ slot_behind 1 c.args.id t)) text made.first;
        second = made.second;
      };
    }

-- the disk is untouched before the slots are made
pub returns-in_err-version-clause-kept : goal.returns-in_err-version-clause-kept
returns-in_err-version-clause-kept g c =
    let p = err_from_is_err_and c.from_residual.result
    c.from_residual.ensures.1 in
    rw (p.1, p.2) (kept_still g.D.Disk c.args.disk.now _ _ _ (λ f. absurd cc)
    (λ s other apart. refl))

pub returns-in_err-bytes-clause-kept : goal.returns-in_err-bytes-clause-kept
returns-in_err-bytes-clause-kept g c =
    let p = err_from_is_err_and c.from_residual-in_err-bytes.result
    c.from_residual-in_err-bytes.ensures.1 in
    rw (p.1, p.2) (kept_still g.D.Disk c.args.disk.now _ _ _ (λ f. absurd cc)
    (λ s other apart. refl))

-- and kept as they keep it
pub returns-in_err-slots-clause-kept : goal.returns-in_err-slots-clause-kept
returns-in_err-slots-clause-kept g c =
    let p = err_from_is_err_and c.from_residual-in_err-slots.result
    c.from_residual-in_err-slots.ensures.1 in
    let e = c.in_err-slots.field-0.0 in
    rw (p.1, p.2) (kept_as g.D.Disk _ _ _ _ _ _ _ _ (log_fails e) (fails_log e) (λ c. c)
    (λ a b k. k)
    c.in_err-slots.ensures.kept)

pub returns-clause-kept : goal.returns-clause-kept
returns-clause-kept g c =
    kept_as g.D.Disk _ _ _ _ _ _ _ _ (λ f. absurd cc) (λ f. absurd cc) (λ c. c) (λ a b k. k)
    c.in_ok-slots.ensures.kept
