use Rattle.std.proofs.Common.{◌≡◌, Some, ap, refl, subst, sym, ◌∙◌}
use Rattle.link_messages.specs.declared.Frame.{Frame}
use Rattle.link_messages.specs.{frame_bytes}
use Rattle.carriers.specs.Carriers.{IsReceivedOf}
use Rattle.carriers.specs.Carrying.{HasCarriedOne}
use Rattle.carriers.specs.Replies.{reply_frame, reply_in, reply_of}
use Rattle.carriers.specs.declared.carrier.Peer.TheVariants as peer
use Rattle.carriers.specs.declared.sending.Received.TheVariants as received
use Rattle.node.specs.declared.Reply.{Reply}
use Rattle.node.specs.declared.Reply.TheVariants as reply
use Rattle.carriers.proofs.Carrying.{carried_directly, received_same}
use Rattle.carriers.proofs.replies.send_reply.Goals as goal

-- the frame of a reply spells it
spells : (it : Reply) → Some it ≡ reply_of (reply_frame it)
spells (reply.Committed i n) = refl
spells (reply.Value i n value) = refl
spells (reply.Rows i n page) = refl
spells (reply.Opened i n) = refl
spells (reply.Closed i n) = refl
spells (reply.Refused i why) = refl

-- a direct carrier has carried the frame of the reply
pub returns-then-is_direct-clause-heard : goal.returns-then-is_direct-clause-heard
returns-then-is_direct-clause-heard g c =
    let frame = reply_frame c.args.reply in
    let bytes = frame_bytes frame in (
      Some bytes,
      carried_directly g.C.Carrier c.args.carrier.now (peer.Node c.args.from) peer.Client bytes
          (c.is_direct.ensures.direct c.if-is_direct.true),
      (received.Frame frame, received_same frame bytes refl, spells c.args.reply),
    )

-- the frame that was received is the reply, if it is one
pub returns-in-Frame-clause-heard : goal.returns-in-Frame-clause-heard
returns-in-Frame-clause-heard g c =
    let it = c.in_ok-frame.field-0 in
    let was = subst (λ (f : Frame). HasCarriedOne g.C.Carrier c.args.carrier.now c.send.new.carrier
    (peer.Node c.args.from) peer.Client (frame_bytes f) (λ got. IsReceivedOf f got it))
    c.reply_frame.ensures c.in_ok-frame.ensures.received in
    (was.0, was.1, (it, was.2, c.reply_of.ensures ∙ ap reply_in (sym c.in-Frame.is)))
