-- Events as the chain's model has them, and the lines of their outcomes.
use Rattle.std.specs.Prelude.{◌≡◌, ℕ, suc, List, [], ◌∷◌, ◌++◌, length, Option, Some, None}
use Rattle.std.specs.Prelude.{Bool, IfSome, IsSome, true, false, if◌then◌else◌}
use Rattle.std.specs.List.{flat_map}
use Rattle.kv_types.specs.{BatchContent, Edits, map_of, place}
use Rattle.kv_types.specs.Pages.{page_of}
use Rattle.disk.specs.{IsEnvironmental}
use Rattle.disk.specs.declared.Fault.{Fault}
use Rattle.disk.specs.declared.Fault.TheVariants as fault
use Rattle.chain_model.specs.{Message, Request, Response}
use Rattle.chain_model.specs.{SystemEvent}
use Rattle.chain_model.specs.declared.DropReason.{DropReason}
use Rattle.chain_model.specs as model_frame
use Rattle.chain_core.specs.{Machine}
use Rattle.engine.specs.Tended.{Tended}
use Rattle.node.specs.declared.Stop.{Stop as Cause}
use Rattle.node.specs.declared.Stop.TheVariants.{Disk, Memory}
use Rattle.node.specs.declared.Reply.TheVariants as reply
use Rattle.events.specs.declared.EventContent.{EventContent}
use Rattle.events.specs.declared.EventKind.{EventKind}
use Rattle.events.specs.declared.EventKind.TheVariants.{Submit, Get, Rows, Open, Close}
use Rattle.events.specs.declared.EventKind.TheVariants.{Deliver, Notice, Tick, Tend, Start}
use Rattle.events.specs.declared.EventKind.TheVariants.{Stop}
pub use Rattle.events.specs.{NamesNode, NamesNodes, epoch_in, node_in}
use Rattle.lab.specs.declared.report.Line.{Line}
use Rattle.lab.specs.declared.report.Line.TheVariants as line
use Rattle.lab.specs.SimNodes.{Choice}

-- the event in place i that was not lost, as the model has it, by what was chosen in it
abbrev pub arriving : ℕ → EventKind → Choice → model_frame.SystemEvent Edits
arriving i (Submit node batch) choice =
    SystemEvent.Ask node i (Request.Submit batch) choice.went
arriving i (Get node key at) choice = SystemEvent.Ask node i (Request.Read at) choice.went
arriving i (Rows node range at) choice = SystemEvent.Ask node i (Request.Read at) choice.went
arriving i (Open node at) choice = SystemEvent.Ask node i (Request.Open at) choice.went
arriving i (Close node number) choice = SystemEvent.Ask node i (Request.Close number) choice.went
arriving i (Deliver place) choice = SystemEvent.Deliver place choice.went
arriving i (Notice node epoch) choice = SystemEvent.Notice node epoch choice.went
arriving i (Tick node) choice = SystemEvent.Tick node choice.went
arriving i (Tend node) choice = SystemEvent.Tend node choice.rises choice.gives_up choice.went
arriving i (Start node) choice = SystemEvent.Start node choice.went
arriving i (Stop node junk) choice = SystemEvent.Stop node

-- the event in place i, as the model has it: one that was lost keeps its place
abbrev pub modelled : ℕ → EventKind → Choice → model_frame.SystemEvent Edits
modelled i kind choice = if choice.lost then SystemEvent.Lost else arriving i kind choice

-- a drop has a line with its reason
abbrev pub dropped_lines : Option DropReason → List Line
dropped_lines None = []
dropped_lines (Some why) = line.Dropped why ∷ []

-- a node that was started has a line with its numbers
abbrev pub start_line : ℕ → Machine → Line
start_line x n = line.Started x n.epoch (length n.list) n.committed

-- the line of a start that was not dropped
abbrev pub if_started : Option DropReason → Option (ℕ × Machine) → List Line
if_started None None = []
if_started None (Some at) = start_line at.0 at.1 ∷ []
if_started (Some why) at = []

-- the line of a notice that was not dropped: the epoch that the node is at now
abbrev pub if_adopted : Option DropReason → Option (ℕ × Machine) → List Line
if_adopted None None = []
if_adopted None (Some at) = line.Adopted at.0 at.1.epoch ∷ []
if_adopted (Some why) at = []

-- a node that tended has a line of what it did
abbrev pub if_tended : Option DropReason → Tended → List Line
if_tended None did = line.Tended did ∷ []
if_tended (Some why) did = []

-- the line of an event that is no frame or reply
abbrev pub turn_trace : EventKind → Choice → model_frame.Outcome Edits → List Line
turn_trace (Start node) choice o = if_started o.dropped o.acted_on
turn_trace (Notice node epoch) choice o = if_adopted o.dropped o.acted_on
turn_trace (Tend node) choice o = if_tended o.dropped choice.tended
turn_trace kind choice o = []

-- a frame that is sent has a line with its place among all, from 1
abbrev pub frame_line : ℕ → model_frame.Message Edits → Line
frame_line place (Message.Forward to epoch from number batch) =
    line.Forwarded place from to epoch number
frame_line place (Message.Ack to epoch from committed have) =
    line.Acknowledged place from to epoch committed have

-- the frames that are sent after so many others
abbrev pub frame_lines : ℕ → List (model_frame.Message Edits) → List Line
frame_lines sent [] = []
frame_lines sent (frame ∷ frames) = frame_line (suc sent) frame ∷ frame_lines (suc sent) frames

-- the line of a read has what its key has in the map of the batches that it shows, or the page of
-- its range
abbrev pub value_lines : EventKind → ℕ → ℕ → List BatchContent → List Line
value_lines (Get node key at) i s batches =
    line.Replied (reply.Value i s (map_of batches key)) ∷ []
value_lines (Rows node range at) i s batches =
    line.Replied (reply.Rows i s (page_of batches range)) ∷ []
value_lines kind i s batches = []

-- the line of a reply
abbrev pub reply_line : EventKind → model_frame.Response Edits → List Line
reply_line kind (Response.Committed i k) = line.Replied (reply.Committed i k) ∷ []
reply_line kind (Response.Shows i s batches) = value_lines kind i s batches
reply_line kind (Response.Opened i s) = line.Replied (reply.Opened i s) ∷ []
reply_line kind (Response.Closed i s) = line.Replied (reply.Closed i s) ∷ []
reply_line kind (Response.Refused i why) =
    line.Replied (reply.Refused i why) ∷ []

-- the lines of replies, in order
abbrev pub reply_lines : EventKind → List (model_frame.Response Edits) → List Line
reply_lines kind replies = flat_map (reply_line kind) replies

-- a node that stops by itself reports the cause, but not where a fault stopped its machine
abbrev pub line_cause : Fault → Bool → Cause → Option Cause
line_cause (fault.Stop call junk) true cause = None
line_cause (fault.Stop call junk) false cause = Some cause
line_cause (fault.Fail call) struck cause = Some cause
line_cause fault.None struck cause = Some cause

-- what is reported of a node that stopped in an event with this fault
abbrev pub reported_cause : EventKind → Fault → Choice → Option Cause
reported_cause (Stop node junk) fault choice = None
reported_cause kind fault choice = line_cause fault choice.struck choice.cause

-- the lines of an event at node x: why it was dropped, then a start, an adoption or a tend, then
-- frames, then replies
abbrev pub lines_at : ℕ → ℕ → EventContent → Choice → model_frame.Outcome Edits → List Line
lines_at x sent event choice o =
    if o.stopped then line.Stopped x (reported_cause event.kind event.fault choice) ∷ []
    else dropped_lines o.dropped ++ (turn_trace event.kind choice o
    ++ (frame_lines sent o.frames ++ reply_lines event.kind o.replies))

-- the lines of an event, after so many frames
abbrev pub lines_if : Option (ℕ × Machine) → ℕ → EventContent → Choice
    → model_frame.Outcome Edits
    → List Line
lines_if None sent event choice o = line.Nothing ∷ []
lines_if (Some at) sent event choice o = lines_at at.0 sent event choice o

-- the lines that the node gives of an event after so many frames, and of one that stopped by itself
-- the cause
abbrev pub lines_of_event : ℕ → EventContent → Choice → model_frame.Outcome Edits → List Line
lines_of_event sent event choice o = lines_if o.acted_on sent event choice o

-- how many of these lines are replies
abbrev pub reply_count : List Line → ℕ
reply_count [] = 0
reply_count (line.Replied reply ∷ lines) = suc (reply_count lines)
reply_count (other ∷ lines) = reply_count lines

-- whether the first of some replies arrives, by whether each does
abbrev pub first_arrives : List Bool → Bool
first_arrives [] = true
first_arrives (b ∷ told) = b

-- .. and whether the others do
abbrev pub later_arrivals : List Bool → List Bool
later_arrivals [] = []
later_arrivals (b ∷ told) = told

-- the lines without those replies that the client was not told
abbrev pub arrived : List Bool → List Line → List Line
arrived told [] = []
arrived told (line.Replied reply ∷ lines) =
    if first_arrives told then line.Replied reply ∷ arrived (later_arrivals told) lines
    else arrived (later_arrivals told) lines
arrived told (other ∷ lines) = other ∷ arrived told lines

-- the lines of an event after so many frames: of one that was lost only that, and else those of the
-- node, with the replies that arrived
abbrev pub reported_lines : ℕ → EventContent → Choice → model_frame.Outcome Edits → List Line
reported_lines sent event choice o =
    if choice.lost then line.Lost ∷ []
    else arrived choice.told (lines_of_event sent event choice o)

-- the event has a request or a frame, which may be lost, after these frames
abbrev pub MayBeLost : List (model_frame.Message Edits) → EventKind → Type 0
MayBeLost frames (Submit node batch) = Unit {0}
MayBeLost frames (Get node key at) = Unit {0}
MayBeLost frames (Rows node range at) = Unit {0}
MayBeLost frames (Open node at) = Unit {0}
MayBeLost frames (Close node number) = Unit {0}
MayBeLost frames (Deliver p) = IsSome (place frames p)
MayBeLost frames kind = ⊥

-- The event is a tend of a node, and its kept number after it is what was given up.
pub record HasRaised (kind : EventKind) (choice : Choice) (o : model_frame.Outcome Edits) :
    Type 0
  where
    pub node : ℕ
    pub machine : Machine
    pub tend : kind ≡ Tend node
    pub after : o.acted_on ≡ Some (node, machine)
    pub gives_up : choice.gives_up ≡ machine.kept

-- a floor rises in a tend alone, and where none does no batch is given up
pub record RiseFits (kind : EventKind) (choice : Choice) (o : model_frame.Outcome Edits) :
    Type 0
  where
    pub rises : choice.rises ≡ true → HasRaised kind choice o
    pub rests : choice.rises ≡ false → choice.gives_up ≡ 0

-- what was chosen fits the event and its outcome, after these frames
pub record ChoiceFits (frames : List (model_frame.Message Edits)) (event : EventContent)
    (choice : Choice) (o : model_frame.Outcome Edits) : Type 0
  where
    -- a node stops by itself for its device or for memory alone
    pub cause : o.stopped ≡ true →
        IfSome (reported_cause event.kind event.fault choice) (IsEnvironmental Disk Memory)
    -- where the fault of the event struck, a call of the disk failed, and so the node stopped
    pub struck : choice.struck ≡ true → (o.stopped ≡ true) × (choice.cause ≡ Disk)
    -- only a tend raises a floor, and the kept number after it tells what it gave up
    pub tends : RiseFits event.kind choice o
    -- a request or a frame alone is lost
    pub lost : choice.lost ≡ true → MayBeLost frames event.kind
    -- of each reply of the node it was chosen whether it arrives
    pub told : length choice.told ≡ reply_count (lines_of_event (length frames) event choice o)
