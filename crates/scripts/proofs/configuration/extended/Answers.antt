use Rattle.std.proofs.Common.{◌∙◌, refl, subst}
use Rattle.configurations.specs.NodeLists.{Configurations, Lawful}
use Rattle.configurations.specs.Refusals.{ListHas}
use Rattle.scripts.proofs.NextConfig.{may, next_follows, refused_next}
use Rattle.scripts.proofs.configuration.extended.Goals as goal

pub returns-in-Ok : goal.returns-in-Ok
returns-in-Ok c =
    let before = c.args.before.now in let ids = c.args.config in
    let list = c.in_ok-listed.ensures.list in
    let made = c.in-Ok.ensures.made in
    let follows = next_follows c.is_part_decides.ensures c.test_decides_config.ensures before ids
    c.listed.ensures.lawful c.ids-ids.ensures.is
    (subst (λ (cs : Configurations). Lawful cs) list made.1) in
    (follows, may c.test_decides_config.ensures before ids follows, made.0 ∙ list)

pub returns-in-Err : goal.returns-in-Err
returns-in-Err c =
    let before = c.args.before.now in let ids = c.args.config in
    let list = c.in_ok-listed.ensures.list in
    λ _. (
      refl,
      refused_next c.is_part_decides.ensures c.test_decides_config.ensures before ids
          c.in-Err.field-0 c.listed.ensures.lawful c.ids-ids.ensures.is
          (subst (λ (cs : Configurations). ListHas c.in-Err.field-0 cs) list
          c.in-Err.ensures.refused.has),
    )
