use Rattle.std.proofs.Common.{◌≡◌, sym, subst, true}
use Rattle.configurations.specs.NodeLists.{is_tail}
use Rattle.configurations.specs.Configs.{IsConfig}
use Rattle.configurations.proofs.Ids.{tail_last}
use Rattle.configurations.proofs.config.Config.tail.Goals as goal

-- the last place has the tail
pub returns : goal.returns
returns c =
    let ids = c.ids-ids.result.now in
    let tail = c.index-ids-ids.result in
    let own = c.ids-ids.ensures.ids in
    let some = (subst IsConfig (sym own) c.ids-ids.ensures.is).some in
    let found = subst (λ x. is_tail ids x ≡ true) (sym c.index-ids-ids.is) (tail_last ids tail some)
    in
    subst (λ l. is_tail l tail ≡ true) own found
