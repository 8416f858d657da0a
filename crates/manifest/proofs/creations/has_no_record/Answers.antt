use Rattle.std.proofs.Common.{refl}
use Rattle.manifest.proofs.Looks.{answered, looks_as, looks_once, neither}
use Rattle.manifest.proofs.creations.has_no_record.Goals as goal

-- a file's length is looked at
pub returns-in-Ok-clause-looks : goal.returns-in-Ok-clause-looks
returns-in-Ok-clause-looks g c =
    looks_as g.D.Disk _ _ (neither (answered c.length.result c.in-Ok.is) (λ fails. cc))
    (looks_once g.D.Disk c.args.disk.now c.length.new.self c.length.ensures.kept.disk
    (λ honest. (c.length.ensures.passes honest).moment))

pub returns-in-Err-NoFile-clause-looks : goal.returns-in-Err-NoFile-clause-looks
returns-in-Err-NoFile-clause-looks g c =
    looks_as g.D.Disk _ _ (neither (λ fails. cc) (λ fails. cc))
    (looks_once g.D.Disk c.args.disk.now c.length.new.self c.length.ensures.kept.disk
    (λ honest. (c.length.ensures.passes honest).moment))

pub returns-in-Err-Failed-clause-looks : goal.returns-in-Err-Failed-clause-looks
returns-in-Err-Failed-clause-looks g c =
    looks_as g.D.Disk _ _ (λ fails. refl, λ fails. cc)
    (looks_once g.D.Disk c.args.disk.now c.length.new.self c.length.ensures.kept.disk
    (λ honest. (c.length.ensures.passes honest).moment))

pub returns-in-Err-Memory-clause-looks : goal.returns-in-Err-Memory-clause-looks
returns-in-Err-Memory-clause-looks g c =
    looks_as g.D.Disk _ _ (neither (λ fails. cc) (λ fails. cc))
    (looks_once g.D.Disk c.args.disk.now c.length.new.self c.length.ensures.kept.disk
    (λ honest. (c.length.ensures.passes honest).moment))
