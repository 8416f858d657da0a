use Rattle.std.proofs.Common.{List, ap, refl, ℕ}
use Rattle.link_messages.specs.declared.Frame.TheVariants as frame
use Rattle.events.specs.declared.EventKind.TheVariants.{Get}
use Rattle.lab.proofs.Found.{request_brings}
use Rattle.lab.proofs.delivery.looked_up.Goals as goal

-- the carrier brings it to the node that it was sent to, or loses it
pub returns-clause-brought : goal.returns-clause-brought
returns-clause-brought g c = λ cs posted.
    request_brings g.C.Carrier c.args.carrier.now c.send_request.new.carrier cs posted
    c.args.request (Get c.args.node c.args.key.now c.args.at) c.args.node
    (frame.Get c.args.request c.args.at c.args.key.now) _
    (ap (λ (key : List ℕ). frame.Get c.args.request c.args.at key) c.in_ok-key.ensures)
    (λ arrives. refl) (λ got it is. is) c.send_request.result c.send_request.ensures.arrives
