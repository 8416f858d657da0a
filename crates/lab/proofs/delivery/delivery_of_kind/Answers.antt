use Rattle.std.proofs.Common.{arith}
use Rattle.std.proofs.lemmas.Grind.{common_steps}
use Rattle.std.proofs.Common.{[], ap, refl, subst, sym, ◌∙◌}
use Rattle.std.specs.Prelude.{IfOk}
use Rattle.std.proofs.lemmas.Result.{IfOk-weaker}
use Rattle.link_messages.specs.declared.Frame.TheVariants as frame
use Rattle.kv_types.specs.declared.Range.{Range}
use Rattle.events.specs.declared.EventKind.{EventKind}
use Rattle.events.specs.declared.EventKind.TheVariants.{Close, Notice, Open, Rows}
use Rattle.lab.specs.Deliveries.{Brings, IsDeliverable}
use Rattle.lab.proofs.Found.{request_brings, uncarried_brings}
use Rattle.lab.proofs.delivery.delivery_of_kind.Goals as goal

pub returns-in-Deliver-clause-brought : goal.returns-in-Deliver-clause-brought
returns-in-Deliver-clause-brought g c =
    subst (λ (kind : EventKind). IfOk c.delivered.result (Brings g.C.Carrier c.args.carrier.now
    c.delivered.new.carrier c.args.configs.now c.args.posted.now c.args.request kind))
    (sym c.in-Deliver.is) (c.delivered.ensures.brought c.args.configs.now c.args.request)

pub returns-in-Submit-clause-brought : goal.returns-in-Submit-clause-brought
returns-in-Submit-clause-brought g c =
    subst (λ (kind : EventKind). IfOk c.submitted.result (Brings g.C.Carrier c.args.carrier.now
    c.submitted.new.carrier c.args.configs.now c.args.posted.now c.args.request kind))
    (sym c.in-Submit.is) (c.submitted.ensures.brought c.args.configs.now c.args.posted.now)

pub returns-in-Get-clause-brought : goal.returns-in-Get-clause-brought
returns-in-Get-clause-brought g c =
    subst (λ (kind : EventKind). IfOk c.looked_up.result (Brings g.C.Carrier c.args.carrier.now
    c.looked_up.new.carrier c.args.configs.now c.args.posted.now c.args.request kind))
    (sym c.in-Get.is) (c.looked_up.ensures.brought c.args.configs.now c.args.posted.now)

pub returns-in-Notice-clause-brought : goal.returns-in-Notice-clause-brought
returns-in-Notice-clause-brought g c =
    subst (λ (kind : EventKind). IfOk c.noticed.result (Brings g.C.Carrier c.args.carrier.now
    c.args.carrier.now c.args.configs.now c.args.posted.now c.args.request kind))
    (sym c.in-Notice.is)
    (IfOk-weaker c.noticed.result (IsDeliverable c.args.configs.now [] c.args.request
    (Notice c.in-Notice.node c.in-Notice.epoch)) _ (λ it is.
    uncarried_brings g.C.Carrier c.args.carrier.now c.args.configs.now c.args.posted.now
    c.args.request (Notice c.in-Notice.node c.in-Notice.epoch) it (λ arrives. refl) is)
    (c.noticed.ensures c.args.request))

pub returns-in_ok-range-in-Rows-clause-brought : goal.returns-in_ok-range-in-Rows-clause-brought
returns-in_ok-range-in-Rows-clause-brought g c =
    subst (λ (kind : EventKind). IfOk c.send_request.result (Brings g.C.Carrier c.args.carrier.now
    c.send_request.new.carrier c.args.configs.now c.args.posted.now c.args.request kind))
    (sym c.in-Rows.is)
    (request_brings g.C.Carrier c.args.carrier.now c.send_request.new.carrier c.args.configs.now
    c.args.posted.now c.args.request (Rows c.in-Rows.node c.in-Rows.range c.in-Rows.at)
    c.in-Rows.node (frame.Rows c.args.request c.in-Rows.at c.in-Rows.range) _ (ap (λ (range :
    Range). frame.Rows c.args.request c.in-Rows.at range)
    (c.in_ok-range-in-Rows.ensures ∙ c.in_ok-clone-in-Rows.ensures)) (λ arrives. refl)
    (λ got it is. is) c.send_request.result c.send_request.ensures.arrives)

pub returns-in-Open-clause-brought : goal.returns-in-Open-clause-brought
returns-in-Open-clause-brought g c =
    subst (λ (kind : EventKind). IfOk c.send_request-in-Open.result (Brings g.C.Carrier
    c.args.carrier.now
    c.send_request-in-Open.new.carrier c.args.configs.now c.args.posted.now c.args.request kind))
    (sym c.in-Open.is)
    (request_brings g.C.Carrier c.args.carrier.now c.send_request-in-Open.new.carrier
    c.args.configs.now
    c.args.posted.now c.args.request (Open c.in-Open.node c.in-Open.at) c.in-Open.node (frame.Open
    c.args.request c.in-Open.at) _ refl (λ arrives. refl)
    (λ got it is. is) c.send_request-in-Open.result c.send_request-in-Open.ensures.arrives)

pub returns-in-Close-clause-brought : goal.returns-in-Close-clause-brought
returns-in-Close-clause-brought g c =
    subst (λ (kind : EventKind). IfOk c.send_request-in-Close.result (Brings g.C.Carrier
    c.args.carrier.now
    c.send_request-in-Close.new.carrier c.args.configs.now c.args.posted.now c.args.request kind))
    (sym c.in-Close.is)
    (request_brings g.C.Carrier c.args.carrier.now c.send_request-in-Close.new.carrier
    c.args.configs.now
    c.args.posted.now c.args.request (Close c.in-Close.node c.in-Close.number) c.in-Close.node
    (frame.Close c.args.request c.in-Close.number) _ refl (λ arrives. refl)
    (λ got it is. is) c.send_request-in-Close.result c.send_request-in-Close.ensures.arrives)

pub returns-in_err-clone-in-Rows-clause-faithful : goal.returns-in_err-clone-in-Rows-clause-faithful
returns-in_err-clone-in-Rows-clause-faithful g c = grind (arith, common_steps)

pub returns-in_err-clone-in-Rows-clause-brought : goal.returns-in_err-clone-in-Rows-clause-brought
returns-in_err-clone-in-Rows-clause-brought g c = grind (arith, common_steps)

pub returns-in_err-range-in-Rows-clause-faithful : goal.returns-in_err-range-in-Rows-clause-faithful
returns-in_err-range-in-Rows-clause-faithful g c = grind (arith, common_steps)

pub returns-in_err-range-in-Rows-clause-brought : goal.returns-in_err-range-in-Rows-clause-brought
returns-in_err-range-in-Rows-clause-brought g c = grind (arith, common_steps)

pub returns-in_err-clone-in-Stop-clause-faithful : goal.returns-in_err-clone-in-Stop-clause-faithful
returns-in_err-clone-in-Stop-clause-faithful g c = grind (arith, common_steps)

pub returns-in_err-clone-in-Stop-clause-brought : goal.returns-in_err-clone-in-Stop-clause-brought
returns-in_err-clone-in-Stop-clause-brought g c = grind (arith, common_steps)

pub returns-in-Submit-clause-faithful : goal.returns-in-Submit-clause-faithful
returns-in-Submit-clause-faithful g c = grind (arith, common_steps)

pub returns-in-Get-clause-faithful : goal.returns-in-Get-clause-faithful
returns-in-Get-clause-faithful g c = grind (arith, common_steps)

pub returns-in_ok-range-in-Rows-clause-faithful : goal.returns-in_ok-range-in-Rows-clause-faithful
returns-in_ok-range-in-Rows-clause-faithful g c = grind (arith, common_steps)

pub returns-in-Open-clause-faithful : goal.returns-in-Open-clause-faithful
returns-in-Open-clause-faithful g c = grind (arith, common_steps)

pub returns-in-Close-clause-faithful : goal.returns-in-Close-clause-faithful
returns-in-Close-clause-faithful g c = grind (arith, common_steps)

pub returns-in-Deliver-clause-faithful : goal.returns-in-Deliver-clause-faithful
returns-in-Deliver-clause-faithful g c = grind (arith, common_steps)

pub returns-in-Notice-clause-faithful : goal.returns-in-Notice-clause-faithful
returns-in-Notice-clause-faithful g c = grind (arith, common_steps)

pub returns-in-Tick-clause-faithful : goal.returns-in-Tick-clause-faithful
returns-in-Tick-clause-faithful g c = grind (arith, common_steps)

pub returns-in-Tick-clause-brought : goal.returns-in-Tick-clause-brought
returns-in-Tick-clause-brought g c = grind (arith, common_steps)

pub returns-in-Tend-clause-faithful : goal.returns-in-Tend-clause-faithful
returns-in-Tend-clause-faithful g c = grind (arith, common_steps)

pub returns-in-Tend-clause-brought : goal.returns-in-Tend-clause-brought
returns-in-Tend-clause-brought g c = grind (arith, common_steps)

pub returns-in-Start-clause-faithful : goal.returns-in-Start-clause-faithful
returns-in-Start-clause-faithful g c = grind (arith, common_steps)

pub returns-in-Start-clause-brought : goal.returns-in-Start-clause-brought
returns-in-Start-clause-brought g c = grind (arith, common_steps)

pub returns-in_ok-clone-in-Stop-clause-faithful : goal.returns-in_ok-clone-in-Stop-clause-faithful
returns-in_ok-clone-in-Stop-clause-faithful g c = grind (arith, common_steps)

pub returns-in_ok-clone-in-Stop-clause-brought : goal.returns-in_ok-clone-in-Stop-clause-brought
returns-in_ok-clone-in-Stop-clause-brought g c = grind (arith, common_steps)
