use Rattle.std.proofs.Common.{refl, subst}
use Rattle.std.proofs.lemmas.Result.{err_from_is_err_and}
use Rattle.disk.specs.{contents}
use Rattle.manifest.specs.Slots.{ManifestRepresents}
use Rattle.manifest.specs.Manifests.{ManifestHolds}
use Rattle.manifest.proofs.Opened.{named_refused}
use Rattle.manifest.proofs.manifest.Manifest.open.Goals as goal

-- files that represent a version are refused by the machine alone
pub returns-in_err-slots-clause-opened : goal.returns-in_err-slots-clause-opened
returns-in_err-slots-clause-opened g c = λ named honest represents.
    let p = err_from_is_err_and c.from_residual.result c.from_residual.ensures.1 in
    let left = contents (g.D.Disk.state c.args.disk.now) in
    let e = c.in_err-slots.field-0.0 in
    rw (p.1, p.2) (named_refused e left named (c.in_err-slots.ensures.told honest) represents)

-- and what is opened is the one version that they represent
pub returns-clause-opened : goal.returns-clause-opened
returns-clause-opened g c = λ named honest represents.
    let left = contents (g.D.Disk.state c.args.disk.now) in
    let new = g.D.Disk.state c.open_slots.new.disk in
    let found = c.in_ok-slots.ensures.told honest in
    let version = c.in_ok-slots.version in
    let had : ManifestRepresents version left = record {
      id = found.id;
      changes = found.changes;
      some = found.history.some;
      each = found.history.each;
      fit = found.history.fit;
      is = found.is;
      records = found.had;
    } in
    subst (ManifestHolds new _) (c.version_is_one.ensures.one version named left had represents)
    (record {
      works = λ failed. absurd cc;
      knows = refl;
      id = found.id;
      changes = found.changes;
      some = found.history.some;
      each = found.history.each;
      fit = found.history.fit;
      is = found.is;
      records = found.holds;
    })
