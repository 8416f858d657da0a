use Rattle.std.proofs.Common.{Option, Some, None, append-nil, subst, sym}
use Rattle.link_messages.specs.{frame_bytes}
use Rattle.node.specs.declared.Reply.{Reply}
use Rattle.carriers.specs.{HasCarriedOne, IsHeard, reply_frame}
use Rattle.carriers.specs.declared.Peer.TheVariants.{Client, Node}
use Rattle.lab.proofs.Arrivals.{one_follows}
use Rattle.lab.proofs.replies.carry_reply.Goals as goal

-- the reply arrived
pub returns-in_ok-push_reply-clause-lines : goal.returns-in_ok-push_reply-clause-lines
returns-in_ok-push_reply-clause-lines g c =
    one_follows g.C.Carrier c.args.carrier.now c.send_reply.new.carrier c.args.from c.args.reply
    (Some c.in-Some.reply) c.args.lines.now c.push_reply.new.lines
    (subst (λ (o : Option Reply). HasCarriedOne g.C.Carrier c.args.carrier.now
    c.send_reply.new.carrier (Node c.args.from) Client (frame_bytes (reply_frame c.args.reply))
    (λ got. IsHeard c.args.reply got o)) c.in-Some.is c.in_ok-reply.ensures.heard)
    c.in_ok-push_reply.ensures

-- .. or did not
pub returns-in_default-clause-lines : goal.returns-in_default-clause-lines
returns-in_default-clause-lines g c =
    one_follows g.C.Carrier c.args.carrier.now c.send_reply.new.carrier c.args.from c.args.reply
    None c.args.lines.now c.args.lines.now
    (subst (λ (o : Option Reply). HasCarriedOne g.C.Carrier c.args.carrier.now
    c.send_reply.new.carrier (Node c.args.from) Client (frame_bytes (reply_frame c.args.reply))
    (λ got. IsHeard c.args.reply got o)) c.in_default.is c.in_ok-reply.ensures.heard)
    (sym (append-nil c.args.lines.now))
