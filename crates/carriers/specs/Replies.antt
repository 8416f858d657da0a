-- Replies as frames, and what arrives of them at the client.
use Rattle.std.specs.Prelude.{◌≡◌, ℕ, List, Option, Some, None}
use Rattle.link_messages.specs.declared.Frame.{Frame}
use Rattle.link_messages.specs.declared.Frame.TheVariants as frame
use Rattle.node.specs.declared.Reply.{Reply}
use Rattle.node.specs.declared.Reply.TheVariants as reply
use Rattle.carriers.specs.declared.sending.Received.{Received}
use Rattle.carriers.specs.declared.sending.Received.TheVariants as received
use Rattle.carriers.specs.Carriers.{IsReceivedOf}

-- the frame that spells a reply
abbrev pub reply_frame : Reply → Frame
reply_frame (reply.Committed i n) = frame.Committed i n
reply_frame (reply.Value i n value) = frame.Value i n value
reply_frame (reply.Rows i n page) = frame.RowsAre i n page
reply_frame (reply.Opened i n) = frame.Opened i n
reply_frame (reply.Closed i n) = frame.Closed i n
reply_frame (reply.Refused i why) = frame.Refused i why

-- the reply that a frame spells, if it is one
abbrev pub reply_of : Frame → Option Reply
reply_of (frame.Committed i n) = Some (reply.Committed i n)
reply_of (frame.Value i n value) = Some (reply.Value i n value)
reply_of (frame.RowsAre i n page) = Some (reply.Rows i n page)
reply_of (frame.Opened i n) = Some (reply.Opened i n)
reply_of (frame.Closed i n) = Some (reply.Closed i n)
reply_of (frame.Refused i why) = Some (reply.Refused i why)
reply_of _ = None

-- the reply that the client hears, by what was received
abbrev pub reply_in : Received → Option Reply
reply_in (received.Frame frame) = reply_of frame
reply_in received.Unreadable = None
reply_in received.Lost = None

-- what the client hears of a reply that was sent, where this arrived of its bytes
abbrev pub IsHeard : Reply → Option (List ℕ) → Option Reply → Type 0
IsHeard sent got heard =
    (it : Received) × IsReceivedOf (reply_frame sent) got it × (heard ≡ reply_in it)
