use Rattle.std.proofs.Common.{◌∷◌, [], ◌++◌, ◌∙◌, sym, ap, take, get_or, arith}
use Rattle.std.proofs.lemmas.List.{take_more}
use Rattle.std.proofs.lemmas.List.Elements.{All-more}
use Rattle.configurations.specs.NodeLists.{IsId}
use Rattle.configurations.proofs.config.Config.new.Goals as goal

-- the id that the loop is at is appended
pub loop-id-preserved : goal.loop-id-preserved
loop-id-preserved c =
    let i = c.loop-id.id-index in
    let ids = c.deref-id-items.result.now in
    let taken = ap (λ nodes. nodes ++ c.in-Some.node ∷ []) c.loop-id.invariant.0 in
    let own = ap (λ x. take i ids ++ x ∷ []) c.in-Some.ensures.1 in
    let more = take_more ids i 0 c.loop-id-test.true in
    let id : IsId (get_or ids i 0) =
    (c.in-Some.ensures.0, omega (arith, c.type_inv.id-items i)) in (
      c.in_ok-push.ensures.items ∙ taken ∙ own ∙ sym more,
      All-more IsId ids i 0 c.loop-id-test.true c.loop-id.invariant.1 id,
    )
