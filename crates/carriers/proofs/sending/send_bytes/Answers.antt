use Rattle.std.proofs.Common.{List, ℕ, Some, None, refl, subst}
use Rattle.std.specs.Prelude.{IfOk}
use Rattle.std.proofs.lemmas.Result.{IfOk-weaker}
use Rattle.carriers.specs.Carriers.{IsReadFrom}
use Rattle.carriers.proofs.Carrying.{one_carried}
use Rattle.carriers.proofs.sending.send_bytes.Goals as goal

pub returns-in-Lost-clause-received : goal.returns-in-Lost-clause-received
returns-in-Lost-clause-received g c =
    let carry = c.in_ok-carry.ensures in
    let bytes = c.args.bytes.now in (
      None,
      one_carried g.C.Carrier c.args.carrier.now c.carry.new.self c.args.from c.args.to bytes
          bytes c.in_ok-carry.field-0 _ refl c.in-Lost.is carry.carried carry.lost carry.asked
          carry.faithful,
      refl,
    )

-- the bytes that were sent are read
pub returns-in-Same-clause-received : goal.returns-in-Same-clause-received
returns-in-Same-clause-received g c =
    let carry = c.in_ok-carry.ensures in
    let bytes = c.args.bytes.now in
    IfOk-weaker c.read_frame.result (IsReadFrom bytes) _ (λ it read. (
      Some bytes,
      one_carried
          g.C.Carrier c.args.carrier.now c.carry.new.self c.args.from c.args.to bytes bytes
          c.in_ok-carry.field-0 _ refl c.in-Same.is carry.carried carry.lost carry.asked
          carry.faithful,
      read,
    )) c.read_frame.ensures

-- those that arrived are
pub returns-in-Bytes-clause-received : goal.returns-in-Bytes-clause-received
returns-in-Bytes-clause-received g c =
    let carry = c.in_ok-carry.ensures in
    let bytes = c.args.bytes.now in
    let read = c.read_frame-in-Bytes.result in
    let got = c.in-Bytes.got.items in
    IfOk-weaker read (IsReadFrom got) _ (λ it is. (
      Some got,
      one_carried g.C.Carrier
          c.args.carrier.now c.carry.new.self c.args.from c.args.to bytes bytes
          c.in_ok-carry.field-0 _
          refl c.in-Bytes.is carry.carried carry.lost carry.asked carry.faithful,
      is,
    ))
    (subst (λ (l : List ℕ). IfOk read (IsReadFrom l)) c.deref.ensures.value
    c.read_frame-in-Bytes.ensures)
