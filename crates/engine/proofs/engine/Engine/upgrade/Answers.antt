use Rattle.std.proofs.Common.{Result, subst, sym}
use Rattle.std.specs.Prelude.{IfErr, IsErrOf, MatchResult}
use Rattle.disk.specs.{KeepsDisk, contents}
use Rattle.disk.specs.KeepingLemmas.{kept_as}
use Rattle.manifest.specs.Holds.{SparesOthers}
use Rattle.store_tables.specs.declared.error.EngineError.{EngineError}
use Rattle.store_tables.specs.declared.error.EngineError.TheVariants as engine
use Rattle.engine.specs.Upgrades.{ExplainsUpgrade, IsFoundAs, IsUpgradeRefusal, UpgradesStore}
use Rattle.engine.specs.declared.upgrading.Upgraded.{Upgraded}
use Rattle.engine.proofs.Upgrades.{durable_so, moments_so, reads_so, refused_so, stays_so}
use Rattle.engine.proofs.Upgrades.{tells_disk, tells_slots}
use Rattle.engine.proofs.engine.Engine.upgrade.Goals as goal

-- as its manifest keeps the disk
pub returns-clause-kept : goal.returns-clause-kept
returns-clause-kept g c =
    subst (λ (r : Result Upgraded EngineError). KeepsDisk g.D.Disk c.args.disk.now
    c.upgrade.new.disk (IsErrOf r engine.Disk) ⊥ SparesOthers) (sym c.answer_of.ensures)
    (kept_as g.D.Disk (tells_disk c.upgrade.result) (λ a b same. same) c.upgrade.ensures.kept)

pub returns-clause-causes : goal.returns-clause-causes
returns-clause-causes g c =
    subst (λ (r : Result Upgraded EngineError). IfErr r IsUpgradeRefusal)
    (sym c.answer_of.ensures) (refused_so c.upgrade.result c.upgrade.ensures.causes)

pub returns-clause-told : goal.returns-clause-told
returns-clause-told g c = λ honest.
    let left = contents (g.D.Disk.state c.args.disk.now) in
    let new = g.D.Disk.state c.upgrade.new.disk in
    subst (λ (r : Result Upgraded EngineError). MatchResult r (IsFoundAs left new)
    (λ e. ExplainsUpgrade e left)) (sym c.answer_of.ensures)
    (tells_slots left new c.upgrade.result (c.upgrade.ensures.told honest))

pub returns-clause-files : goal.returns-clause-files
returns-clause-files g c = c.upgrade.ensures.any_moment

pub returns-clause-upgraded : goal.returns-clause-upgraded
returns-clause-upgraded g c = λ facts list honest.
    let old = g.D.Disk.state c.args.disk.now in
    let new = g.D.Disk.state c.upgrade.new.disk in
    let alike = c.formats_represent_alike.ensures.alike in
    let outlast = c.formats_represent_alike.ensures.outlast in
    let spares = c.upgrade.ensures.kept.files honest in
    subst (λ (r : Result Upgraded EngineError). UpgradesStore g.D.Disk c.args.disk.now
    c.upgrade.new.disk facts list r) (sym c.answer_of.ensures) (record {
      reads = reads_so alike outlast facts list old new spares c.upgrade.result
          (λ named had. c.upgrade.ensures.upgraded named honest had);
      stays = λ only. stays_so alike outlast facts list old new spares
          c.version_is_one.ensures.formats (g.D.Disk.past c.args.disk.now)
          (g.D.Disk.past c.upgrade.new.disk) only (c.upgrade.ensures.any_moment honest);
      any_moment = λ only. moments_so alike outlast facts list old new spares
          (g.D.Disk.past c.args.disk.now) (g.D.Disk.past c.upgrade.new.disk) only
          (c.upgrade.ensures.any_moment honest);
      durable = durable_so alike outlast facts list old new spares c.upgrade.result
          (λ named had. c.upgrade.ensures.upgraded named honest had);
    })
