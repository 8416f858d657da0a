use Rattle.std.proofs.Common.{◌∙◌, subst}
use Rattle.std.proofs.lemmas.Result.{err_from_is_err_and}
use Rattle.disk.specs.{contents}
use Rattle.byte_fields.specs.declared.format.Format.{Format}
use Rattle.byte_fields.specs.declared.format.Format.TheVariants as formats
use Rattle.manifest.specs.Opening.{AreOpened}
use Rattle.manifest.specs.Upgrades.{IsOfFormatTwo}
use Rattle.manifest.proofs.Kept.{kept_then}
use Rattle.manifest.proofs.Opened.{upgrade_refused}
use Rattle.manifest.proofs.Upgrades.{already_two, answers_some, had_version, of_named, read_since}
use Rattle.manifest.proofs.Upgrades.{upgrade_since}
use Rattle.manifest.proofs.manifest.Manifest.upgrade.Goals as goal

-- files that represent a version are refused by the machine alone
pub returns-in_err-format-clause-upgraded : goal.returns-in_err-format-clause-upgraded
returns-in_err-format-clause-upgraded g c = λ named honest either.
    let p = err_from_is_err_and c.from_residual.result c.from_residual.ensures.1 in
    rw (p.1, p.2) (upgrade_refused c.in_err-format.field-0.0
    (contents (g.D.Disk.state c.args.disk.now)) named (c.in_err-format.ensures.told honest)
    either)

-- reads leave nothing new
pub returns-in_err-format-clause-any_moment : goal.returns-in_err-format-clause-any_moment
returns-in_err-format-clause-any_moment g c = λ honest.
    read_since (g.D.Disk.state c.args.disk.now) (g.D.Disk.state c.open_either.new.disk)
    (g.D.Disk.past c.args.disk.now) (g.D.Disk.past c.open_either.new.disk)
    (contents (g.D.Disk.state c.args.disk.now)) (c.open_either.ensures.reads.still honest)

-- the slot that counts is of format 2
pub returns-in-Two-clause-told : goal.returns-in-Two-clause-told
returns-in-Two-clause-told g c = λ honest.
    let left = contents (g.D.Disk.state c.args.disk.now) in
    let mid = g.D.Disk.state c.open_either.new.disk in
    let h = subst (λ (f : Format). AreOpened f left mid c.in_ok-format.slots
    c.in_ok-format.version) c.in-Two.is (c.in_ok-format.ensures.told honest) in
    (c.in_ok-format.version, already_two left mid c.in_ok-format.slots c.in_ok-format.version h)

pub returns-in-Two-clause-upgraded : goal.returns-in-Two-clause-upgraded
returns-in-Two-clause-upgraded g c = λ named honest either.
    let left = contents (g.D.Disk.state c.args.disk.now) in
    let mid = g.D.Disk.state c.open_either.new.disk in
    let h = subst (λ (f : Format). AreOpened f left mid c.in_ok-format.slots
    c.in_ok-format.version) c.in-Two.is (c.in_ok-format.ensures.told honest) in
    let same = c.version_is_one.ensures.formats formats.Two either.0 c.in_ok-format.version named
    left (had_version formats.Two left mid c.in_ok-format.slots c.in_ok-format.version h)
    either.1 in
    subst (IsOfFormatTwo left mid) same.1
    (already_two left mid c.in_ok-format.slots c.in_ok-format.version h)

pub returns-in-Two-clause-any_moment : goal.returns-in-Two-clause-any_moment
returns-in-Two-clause-any_moment g c = λ honest.
    read_since (g.D.Disk.state c.args.disk.now) (g.D.Disk.state c.open_either.new.disk)
    (g.D.Disk.past c.args.disk.now) (g.D.Disk.past c.open_either.new.disk)
    (contents (g.D.Disk.state c.args.disk.now)) (c.open_either.ensures.reads.still honest)

-- it is of format 1
pub returns-in-One-clause-kept : goal.returns-in-One-clause-kept
returns-in-One-clause-kept g c =
    kept_then g.D.Disk c.args.disk.now c.open_either.new.disk c.convert.new.disk _ _ _ _ _ _ _
    (λ f. absurd cc)
    (λ a b d first second other apart. second other apart ∙ first other apart)
    c.in_ok-format.ensures.reads.kept c.convert.ensures.kept

pub returns-in-One-clause-told : goal.returns-in-One-clause-told
returns-in-One-clause-told g c = λ honest.
    let left = contents (g.D.Disk.state c.args.disk.now) in
    let mid = g.D.Disk.state c.open_either.new.disk in
    let h = subst (λ (f : Format). AreOpened f left mid c.in_ok-format.slots
    c.in_ok-format.version) c.in-One.is (c.in_ok-format.ensures.told honest) in
    answers_some left (g.D.Disk.state c.convert.new.disk) c.in_ok-format.version c.convert.result
    (c.convert.ensures.told left (c.open_either.ensures.reads.kept.honest.1 honest) h)

pub returns-in-One-clause-upgraded : goal.returns-in-One-clause-upgraded
returns-in-One-clause-upgraded g c = λ named honest either.
    let left = contents (g.D.Disk.state c.args.disk.now) in
    let mid = g.D.Disk.state c.open_either.new.disk in
    let h = subst (λ (f : Format). AreOpened f left mid c.in_ok-format.slots
    c.in_ok-format.version) c.in-One.is (c.in_ok-format.ensures.told honest) in
    let same = c.version_is_one.ensures.formats formats.One either.0 c.in_ok-format.version named
    left (had_version formats.One left mid c.in_ok-format.slots c.in_ok-format.version h)
    either.1 in
    of_named left (g.D.Disk.state c.convert.new.disk) c.in_ok-format.version named same.1
    c.convert.result
    (c.convert.ensures.told left (c.open_either.ensures.reads.kept.honest.1 honest) h)

pub returns-in-One-clause-any_moment : goal.returns-in-One-clause-any_moment
returns-in-One-clause-any_moment g c = λ honest.
    let s0 = g.D.Disk.state c.args.disk.now in
    let mid = g.D.Disk.state c.open_either.new.disk in
    let left = contents s0 in
    let version = c.in_ok-format.version in
    let h = subst (λ (f : Format). AreOpened f left mid c.in_ok-format.slots version)
    c.in-One.is (c.in_ok-format.ensures.told honest) in
    upgrade_since s0 mid (g.D.Disk.state c.convert.new.disk) (g.D.Disk.past c.args.disk.now)
    (g.D.Disk.past c.open_either.new.disk) (g.D.Disk.past c.convert.new.disk) left version
    (c.open_either.ensures.reads.kept.files honest)
    (c.open_either.ensures.reads.still honest)
    (c.convert.ensures.any_moment left (c.open_either.ensures.reads.kept.honest.1 honest) h)
