use Rattle.std.proofs.Common.{List, ap, subst, sym, ◌∙◌}
use Rattle.std.proofs.lemmas.Result.{on_ok_weaker}
use Rattle.node.specs.declared.Reply.{Reply}
use Rattle.carriers.specs.{HasCarried}
use Rattle.chain_core.specs.{items_held}
use Rattle.lab.specs.Arrivals.{RepliesFollow}
use Rattle.lab.proofs.replies.carry_replies.Goals as goal

-- there is one
pub returns-in-One-clause-lines : goal.returns-in-One-clause-lines
returns-in-One-clause-lines g c = on_ok_weaker c.carry_reply.result (λ one.
    subst (λ (l : List Reply). RepliesFollow
    (HasCarried g.C.Carrier c.args.carrier.now c.carry_reply.new.carrier) c.args.from l
    c.args.lines.now c.carry_reply.new.lines) (c.only_item.ensures
    ∙ sym (ap items_held c.in-One.is) ∙ c.into_held.ensures) one) c.carry_reply.ensures.lines
