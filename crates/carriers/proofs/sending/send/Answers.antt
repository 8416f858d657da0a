use Rattle.std.proofs.Common.{◌≡◌, List, ℕ, Some, refl, rules, subst, sym, ◌∙◌}
use Rattle.std.specs.Prelude.{◌≢◌}
use Rattle.std.proofs.lemmas.Result.{IfOk-weaker}
use Rattle.link_messages.specs.{frame_bytes}
use Rattle.carriers.specs.Carriers.{IsReadFrom}
use Rattle.carriers.proofs.Carrying.{carried_directly, one_carried, received_read, received_same}
use Rattle.carriers.proofs.sending.send.Goals as goal

-- a direct carrier has carried whatever is claimed
pub returns-then-is_direct-clause-received : goal.returns-then-is_direct-clause-received
returns-then-is_direct-clause-received g c =
    let bytes = frame_bytes c.args.frame in (
      Some bytes,
      carried_directly g.C.Carrier c.args.carrier.now c.args.from c.args.to bytes
          (c.is_direct.ensures.direct c.if-is_direct.true),
      received_same c.args.frame bytes refl,
    )

pub returns-in-Same-clause-received : goal.returns-in-Same-clause-received
returns-in-Same-clause-received g c =
    let carry = c.in_ok-carry.ensures in
    let bytes = frame_bytes c.args.frame in (
      Some bytes,
      one_carried g.C.Carrier c.args.carrier.now c.carry.new.self c.args.from c.args.to
          c.deref.result.now bytes c.in_ok-carry.field-0 _
          (c.deref.ensures.value ∙ c.in_ok-bytes.ensures.spelled) c.in-Same.is carry.carried
          carry.lost
          carry.asked carry.faithful,
      received_same c.args.frame bytes refl,
    )

pub returns-then-eq-clause-received : goal.returns-then-eq-clause-received
returns-then-eq-clause-received g c =
    let carry = c.in_ok-carry.ensures in
    let bytes = frame_bytes c.args.frame in
    let got = c.in-Bytes.got.items in
    let same : got ≡ c.in_ok-bytes.bytes.items = search rules in (
      Some got,
      one_carried g.C.Carrier c.args.carrier.now c.carry.new.self c.args.from c.args.to
          c.deref.result.now bytes c.in_ok-carry.field-0 _
          (c.deref.ensures.value ∙ c.in_ok-bytes.ensures.spelled) c.in-Bytes.is carry.carried
          carry.lost
          carry.asked carry.faithful,
      received_same c.args.frame got (same
          ∙ c.in_ok-bytes.ensures.spelled),
    )

-- bytes that differ from those that were sent are read
pub returns-clause-received : goal.returns-clause-received
returns-clause-received g c =
    let carry = c.in_ok-carry.ensures in
    let bytes = frame_bytes c.args.frame in
    let got = c.in-Bytes.got.items in
    let other : got ≢ c.in_ok-bytes.bytes.items = search rules in
    IfOk-weaker c.read_frame.result (IsReadFrom c.deref-2.result.now) _ (λ it read. (
      Some got,
      one_carried g.C.Carrier c.args.carrier.now c.carry.new.self c.args.from c.args.to
          c.deref.result.now bytes c.in_ok-carry.field-0 _
          (c.deref.ensures.value ∙ c.in_ok-bytes.ensures.spelled) c.in-Bytes.is carry.carried
          carry.lost
          carry.asked carry.faithful,
      received_read c.args.frame got it
          (λ is. other (is ∙ sym c.in_ok-bytes.ensures.spelled))
          (subst (λ (l : List ℕ). IsReadFrom l it) c.deref-2.ensures.value read),
    )) c.read_frame.ensures
