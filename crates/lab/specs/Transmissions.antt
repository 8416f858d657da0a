-- What an event asks of the carrier: a request or a frame, and then the replies of its node.
use Rattle.std.specs.Prelude.{ℕ, List, [], ◌∷◌, ◌++◌, length, Option, Some, None, Bool, not}
use Rattle.kv_types.specs.{Edits, place}
use Rattle.chain_model.specs as model_frame
use Rattle.link_messages.specs.declared.Frame.{Frame}
use Rattle.link_messages.specs.declared.Frame.TheVariants as frame
use Rattle.link_messages.specs.{frame_bytes}
use Rattle.chain_core.specs.{Machine}
use Rattle.carriers.specs.declared.Peer.TheVariants.{Client, Node}
use Rattle.node.specs.declared.Reply.{Reply}
use Rattle.carriers.specs.{Transmission, one_transmission, reply_frame, unless_lost}
use Rattle.disk.specs.declared.disk.Disk.{Ghosts}
use Rattle.lab.specs.declared.delivery.Posted.{Posted}
use Rattle.lab.specs.declared.world.World.{World}
use Rattle.events.specs.declared.EventContent.{EventContent}
use Rattle.events.specs.declared.EventKind.{EventKind}
use Rattle.events.specs.declared.EventKind.TheVariants.{Submit, Get, Rows, Open, Close, Deliver}
use Rattle.lab.specs.declared.report.Line.{Line}
use Rattle.lab.specs.declared.report.Line.TheVariants as line
use Rattle.lab.specs.Events.{first_arrives, later_arrivals, lines_of_event}
use Rattle.lab.specs.SimNodes.{Choice}

-- the bytes of a request go from the client to its node, and of any bytes so much arrives
abbrev pub request_sent : ℕ → Frame → (List ℕ → Option (List ℕ)) → List Transmission
request_sent node it arrives =
    one_transmission Client (Node node) (frame_bytes it) (arrives (frame_bytes it))

-- .. those of a posted frame from its sender to its addressee
abbrev pub posted_sent : Option Posted → (List ℕ → Option (List ℕ)) → List Transmission
posted_sent None arrives = []
posted_sent (Some it) arrives =
    one_transmission (Node it.from) (Node it.to) it.bytes.items (arrives it.bytes.items)

-- .. and those of a reply from its node to the client
abbrev pub reply_sent : ℕ → Reply → (List ℕ → Option (List ℕ)) → List Transmission
reply_sent node it arrives = one_transmission (Node node) Client (frame_bytes (reply_frame it))
    (arrives (frame_bytes (reply_frame it)))

-- what the event in place i sends, after these posted frames: its request, or the posted frame; all
-- else is not carried
abbrev pub frame_sent : List Posted → ℕ → EventKind → (List ℕ → Option (List ℕ))
    → List Transmission
frame_sent posted i (Submit node batch) arrives = request_sent node (frame.Submit i batch) arrives
frame_sent posted i (Get node key at) arrives = request_sent node (frame.Get i at key) arrives
frame_sent posted i (Rows node range at) arrives = request_sent node (frame.Rows i at range) arrives
frame_sent posted i (Open node at) arrives = request_sent node (frame.Open i at) arrives
frame_sent posted i (Close node number) arrives = request_sent node (frame.Close i number) arrives
frame_sent posted i (Deliver p) arrives = posted_sent (place posted p) arrives
frame_sent posted i kind arrives = []

-- the replies among the lines of a node go to the client one after another, unaltered, and those
-- are lost that the client was not told
abbrev pub replies_sent : ℕ → List Bool → List Line → List Transmission
replies_sent node told [] = []
replies_sent node told (line.Replied reply ∷ lines) =
    reply_sent node reply (unless_lost (not (first_arrives told)))
    ++ replies_sent node (later_arrivals told) lines
replies_sent node told (other ∷ lines) = replies_sent node told lines

-- the replies of the node that the event acted on, if it acted on one
abbrev pub replies_from : Option (ℕ × Machine) → List Bool → List Line → List Transmission
replies_from None told lines = []
replies_from (Some at) told lines = replies_sent at.0 told lines

-- All that the event in place i asks of a faithful carrier, after these posted frames: its request
-- or frame, lost as it was chosen, and then each reply that its node gave, lost where the client
-- was not told.
abbrev pub transmissions_of : List Posted → ℕ → EventContent → Choice
    → model_frame.Outcome Edits
    → List Transmission
transmissions_of posted i event choice o =
    frame_sent posted i event.kind (unless_lost choice.lost)
    ++ replies_from o.acted_on choice.told (lines_of_event (length posted) event choice o)

-- the carrier of a world
abbrev pub carrier_of : {D C : Type 0} {g : Ghosts D} → World D C g → C
carrier_of world = world.carrier
