use Rattle.std.proofs.Common.{Option, None, refl, subst, sym}
use Rattle.carriers.specs.{HasCarried}
use Rattle.carriers.specs.declared.Delivery.TheVariants as delivery
use Rattle.lab.specs.declared.delivery.Posted.{Posted}
use Rattle.lab.specs.Deliveries.{IsPostedTo}
use Rattle.lab.specs.Transmissions.{posted_sent}
use Rattle.lab.proofs.Found.{posted_brings}
use Rattle.lab.proofs.Transmissions.{carried_none}
use Rattle.lab.proofs.delivery.delivered.Goals as goal

-- nothing was sent
pub returns-in_default-clause-brought : goal.returns-in_default-clause-brought
returns-in_default-clause-brought g c = λ cs i.
    let carrier = c.args.carrier.now in
    record {
      got = None;
      carried = subst (λ (o : Option Posted).
          HasCarried g.C.Carrier carrier carrier (posted_sent o (λ bytes. None)))
          (sym c.in_default.ensures) (carried_none g.C.Carrier carrier);
      brought = subst (λ (o : Option Posted). IsPostedTo o None delivery.Nothing)
          (sym c.in_default.ensures) refl;
    }

pub returns-clause-brought : goal.returns-clause-brought
returns-clause-brought g c = λ cs i.
    posted_brings g.C.Carrier c.args.carrier.now c.send_posted.new.carrier cs c.args.posted.now i
    c.args.place c.in-Some.posted.now c.in-Some.ensures c.deref.result.now c.deref.ensures.value
    c.send_posted.result c.send_posted.ensures.arrives
