use Rattle.std.proofs.Common.{◌∙◌, subst, List, ℕ}
use Rattle.configurations.specs.Configs.{IsConfig}
use Rattle.scripts.proofs.Ids.{no_config_of}
use Rattle.scripts.proofs.configuration.config_of.Goals as goal

pub returns-in-Ok : goal.returns-in-Ok
returns-in-Ok c =
    let same = rw c.in-Some.is at c.in_ok-ids.ensures in
    let made = c.in-Ok.ensures.made in (
      made.0 ∙ same,
      made.1,
      (c.test_decides_config.ensures c.args.numbers.now).1
          (subst (λ (ids : List ℕ). IsConfig ids) (made.0 ∙ same) made.1),
    )

pub returns-in-Err : goal.returns-in-Err
returns-in-Err c =
    let same = rw c.in-Some.is at c.in_ok-ids.ensures in
    no_config_of c.test_decides_config.ensures c.in-Some.ids.items c.args.numbers.now c.in-Err.error
    c.config_error.result same
    c.in-Err.ensures.each c.config_error.ensures.memory c.config_error.ensures.bad
