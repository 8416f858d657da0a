use Rattle.std.proofs.Common.{Err, List, Option, ℕ, ap, arith, map, subst, sym, rules}
use Rattle.std.proofs.lemmas.Result.{err_from_is_err_and}
use Rattle.disk.specs.StillLemmas.{still}
use Rattle.record_log.specs.{HasRecords, IsAt, IsOpenedLog, OpenRefusal}
use Rattle.version_edits.specs.{change_text_in}
use Rattle.manifest.specs.Slots.{IsSlotFile, log_start}
use Rattle.manifest.specs.declared.slot_pair.SlotPair.{SlotPair}
use Rattle.manifest.proofs.Causes.{edit_causes, log_causes}
use Rattle.manifest.proofs.Opened.{log_refused, opened_is, replay_refused, zero_is_no_id}
use Rattle.manifest.proofs.opening.read_slots.Goals as goal

-- no call was made
pub returns-in_default-clause-reads : goal.returns-in_default-clause-reads
returns-in_default-clause-reads g c = record {
  kept = search rules;
  causes = search rules;
  still = λ honest.
      still (g.D.Disk.state c.args.disk.now) (g.D.Disk.past c.args.disk.now);
}

-- the id is 0
pub returns-in_default-clause-told : goal.returns-in_default-clause-told
returns-in_default-clause-told g c = λ left honest kept counts.
    zero_is_no_id c.args.it left counts (omega (arith, c.in_default.ensures))

-- the slot that counts has no log
pub returns-in_err-opened-clause-told : goal.returns-in_err-opened-clause-told
returns-in_err-opened-clause-told g c = λ left honest kept counts.
    let p = err_from_is_err_and c.from_residual.result c.from_residual.ensures.1 in
    let e = c.in_err-opened.field-0.0 in
    let file : Option (List ℕ) = left c.args.it.slot in
    let why = subst (λ (file : Option (List ℕ)). OpenRefusal e file c.log_start.result)
    (kept.read c.args.it.slot counts.one) (c.in_err-opened.ensures.told honest) in
    rw (p.1, p.2) (log_refused c.args.it left counts e
    (subst (λ (n : ℕ). OpenRefusal e file n) c.log_start.ensures why))

pub returns-in_err-opened-clause-causes : goal.returns-in_err-opened-clause-causes
returns-in_err-opened-clause-causes g c =
    let p = err_from_is_err_and c.from_residual.result c.from_residual.ensures.1 in
    rw (p.1, p.2) (log_causes c.in_err-opened.field-0.0 c.in_err-opened.ensures.causes)

-- its records give no version
pub returns-in_err-version-clause-told : goal.returns-in_err-version-clause-told
returns-in_err-version-clause-told g c = λ left honest kept counts.
    let p = err_from_is_err_and c.from_residual-in_err-version.result
    c.from_residual-in_err-version.ensures.1 in
    let e = c.in_err-version.field-0.0 in
    let s0 = g.D.Disk.state c.args.disk.now in
    rw (p.1, p.2) (replay_refused c.args.it left counts s0 e kept
    (λ damaged changes history stood.
    let records = map (change_text_in c.args.it.head.format) changes in
    c.in_err-version.ensures.bad (ap Err damaged) changes history
    (c.in_ok-opened.ensures.opened records honest
    (subst (λ (n : ℕ). HasRecords s0 c.args.it.slot n records) (sym c.log_start.ensures)
    stood)).1))

pub returns-in_err-version-clause-causes : goal.returns-in_err-version-clause-causes
returns-in_err-version-clause-causes g c =
    let p = err_from_is_err_and c.from_residual-in_err-version.result
    c.from_residual-in_err-version.ensures.1 in
    rw (p.1, p.2) (edit_causes c.in_err-version.field-0.0)

-- the records of the log give the version
pub returns-clause-told : goal.returns-clause-told
returns-clause-told g c = λ left honest kept counts.
    let s0 = g.D.Disk.state c.args.disk.now in
    let s1 = g.D.Disk.state c.open.new.disk in
    let log : IsOpenedLog s0 c.args.it.slot (log_start c.args.it.head.format) s1
    c.in_ok-opened.opened =
    subst (λ (n : ℕ). IsOpenedLog s0 c.args.it.slot n s1 c.in_ok-opened.opened)
    c.log_start.ensures (c.in_ok-opened.ensures.told honest) in
    let at = subst (λ (n : ℕ). IsAt c.args.it.slot n c.in_ok-opened.opened.log)
    c.log_start.ensures c.in_ok-opened.ensures.at in
    let found = c.in_ok-version.ensures.found log.records log.read in
    opened_is c.args.it left s0 s1 counts kept (c.open.ensures.kept.files honest)
    c.in_ok-opened.opened.log at log.records log.stood log.holds c.opened.result c.in-Some.id
    c.in_ok-version.version found.0 c.opened.ensures c.in-Some.ensures.1 c.get-id.ensures.id
    found.1 found.2 found.3

-- it is the slot that counts
pub returns-clause-one : goal.returns-clause-one
returns-clause-one g c =
    subst (λ (s : SlotPair). IsSlotFile s.slot) (sym c.opened.ensures) c.requires
