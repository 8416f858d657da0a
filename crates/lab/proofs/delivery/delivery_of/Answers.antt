use Rattle.std.proofs.Common.{ap, subst, sym, ◌∙◌}
use Rattle.std.specs.Prelude.{IfOk}
use Rattle.events.specs.declared.EventKind.{EventKind}
use Rattle.events.specs.{shared_kind}
use Rattle.lab.specs.Deliveries.{Brings}
use Rattle.lab.proofs.delivery.delivery_of.Goals as goal

pub returns-in-Deliver-clause-brought : goal.returns-in-Deliver-clause-brought
returns-in-Deliver-clause-brought g c =
    subst (λ (kind : EventKind). IfOk c.delivered.result (Brings g.C.Carrier c.args.carrier.now
    c.delivered.new.carrier c.args.configs.now c.args.posted.now c.args.request kind))
    (sym (sym c.kind.ensures ∙ ap shared_kind c.in-Deliver.is)) (c.delivered.ensures.brought
    c.args.configs.now c.args.request)

pub returns-in-Submit-clause-brought : goal.returns-in-Submit-clause-brought
returns-in-Submit-clause-brought g c =
    subst (λ (kind : EventKind). IfOk c.submitted.result (Brings g.C.Carrier c.args.carrier.now
    c.submitted.new.carrier c.args.configs.now c.args.posted.now c.args.request kind))
    (sym (sym c.kind.ensures ∙ ap shared_kind c.in-Submit.is)) (c.submitted.ensures.brought
    c.args.configs.now c.args.posted.now)

pub returns-in-Get-clause-brought : goal.returns-in-Get-clause-brought
returns-in-Get-clause-brought g c =
    subst (λ (kind : EventKind). IfOk c.looked_up.result (Brings g.C.Carrier c.args.carrier.now
    c.looked_up.new.carrier c.args.configs.now c.args.posted.now c.args.request kind))
    (sym (sym c.kind.ensures ∙ ap shared_kind c.in-Get.is)) (c.looked_up.ensures.brought
    c.args.configs.now c.args.posted.now)

pub returns-in-Kept-clause-brought : goal.returns-in-Kept-clause-brought
returns-in-Kept-clause-brought g c =
    subst (λ (kind : EventKind). IfOk c.delivery_of_kind.result (Brings g.C.Carrier
    c.args.carrier.now
    c.delivery_of_kind.new.carrier c.args.configs.now c.args.posted.now c.args.request kind))
    (sym (sym c.kind.ensures ∙ ap shared_kind c.in-Kept.is)) (c.delivery_of_kind.ensures.brought)
