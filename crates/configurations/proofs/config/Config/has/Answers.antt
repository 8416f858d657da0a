use Rattle.std.proofs.Common.{◌∙◌, ap, ◌==◌}
use Rattle.std.specs.List.{list_any}
use Rattle.configurations.proofs.Ids.{any_has}
use Rattle.configurations.proofs.config.Config.has.Goals as goal

-- std looks for the id as the model does
pub returns : goal.returns
returns c =
    let ids = c.deref.ensures.value ∙ c.self.view_is in
    c.contains.ensures.value ∙ ap (λ l. list_any (λ y. y == c.args.id) l) ids
    ∙ any_has c.args.self.now c.args.id
