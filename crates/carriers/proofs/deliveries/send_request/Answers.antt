use Rattle.std.proofs.Common.{ap, sym, ◌∙◌}
use Rattle.carriers.specs.Deliveries.{delivery_from, request_input}
use Rattle.carriers.specs.declared.deliveries.Delivery.TheVariants as delivery
use Rattle.carriers.specs.declared.deliveries.NodeInput.{NodeInput}
use Rattle.carriers.proofs.deliveries.send_request.Goals as goal

-- the frame that was received is the input
pub returns-in-Frame-clause-arrives : goal.returns-in-Frame-clause-arrives
returns-in-Frame-clause-arrives g c =
    let was = c.in_ok-frame.ensures.received in (
      was.0,
      was.1,
      (
        c.in_ok-frame.field-0,
        was.2,
        ap (λ (it : NodeInput). delivery.To c.args.node it) c.request_input.ensures
            ∙ ap (delivery_from request_input c.args.node) (sym c.in-Frame.is),
      ),
    )
