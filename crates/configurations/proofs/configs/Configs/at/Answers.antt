use Rattle.std.proofs.Common.{◌∙◌}
use Rattle.configurations.proofs.Later.{found_at}
use Rattle.configurations.proofs.configs.Configs.at.Goals as goal

-- the place of an epoch has its configuration
pub returns : goal.returns
returns c =
    let own = c.deref.ensures.value ∙ c.self.view_is in
    found_at (λ it. it.now) c.deref.result.now c.args.self.now c.get.result c.args.epoch
    c.get-2.result own c.get.ensures.same c.get-2.ensures.lookup.3
