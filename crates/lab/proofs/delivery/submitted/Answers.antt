use Rattle.std.proofs.Common.{ap, refl}
use Rattle.kv_types.specs.{BatchContent}
use Rattle.link_messages.specs.declared.Frame.TheVariants as frame
use Rattle.events.specs.declared.EventKind.TheVariants.{Submit}
use Rattle.lab.proofs.Found.{request_brings}
use Rattle.lab.proofs.delivery.submitted.Goals as goal

-- the carrier brings it to the node that it was sent to, or loses it
pub returns-clause-brought : goal.returns-clause-brought
returns-clause-brought g c = λ cs posted.
    request_brings g.C.Carrier c.args.carrier.now c.send_request.new.carrier cs posted
    c.args.request (Submit c.args.node c.args.batch.now) c.args.node
    (frame.Submit c.args.request c.args.batch.now) _
    (ap (λ (batch : BatchContent). frame.Submit c.args.request batch) c.in_ok-batch.ensures)
    (λ arrives. refl) (λ got it is. is) c.send_request.result c.send_request.ensures.arrives
