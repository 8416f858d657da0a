-- The trace of a run, line by line: the frames, replies and drops of each event, in order.
-- Definitions without a source are this store's profile.
use Rattle.std.specs.Prelude.{ℕ, List, [], ◌∷◌, ◌++◌, length, map, Option, Some, None, Bool, true}
use Rattle.std.specs.Prelude.{false, not, if◌then◌else◌}
use Rattle.kv_types.specs.{Marked}
use Rattle.configurations.specs.{Configurations}
use Rattle.chain_model.specs.declared.refusal.Refusal.{Refusal}
use Rattle.chain_model.specs.declared.drop_reason.DropReason.{DropReason}
use Rattle.chain_model.specs.Messages.{Message, Forward, Ack}
use Rattle.chain_model.specs.Requests.{Response, Committed, Shows, Opened, Closed, Refused}
use Rattle.chain_model.specs.Machine.{MachineState}
use Rattle.chain_model.specs.System.{SystemEvent, Ask, Tick, Tend, Notice, Deliver, Start, Stop}
use Rattle.chain_model.specs.System.{Lost}
use Rattle.chain_model.specs.System.{Outcome, SystemState, outcome, state_after, first_state}

-- a line of a trace
pub data TraceLine (A : Type 0) : Type 0 where
  Forwards : (from to epoch number : ℕ) → TraceLine A
  Acks : (from to epoch committed have : ℕ) → TraceLine A
  Commits : (request number : ℕ) → TraceLine A
  Reads : (request number : ℕ) → (contents : List A) → TraceLine A
  Opens : (request number : ℕ) → TraceLine A
  Closes : (request number : ℕ) → TraceLine A
  Refuses : (request : ℕ) → (why : Refusal) → TraceLine A
  Drops : (why : DropReason) → TraceLine A
  Adopts : (node epoch : ℕ) → TraceLine A
  Starts : (node epoch count committed : ℕ) → TraceLine A
  Stops : (node : ℕ) → TraceLine A

-- the line of a frame that is sent
abbrev pub message_line : {A : Type 0} → Message A → TraceLine A
message_line (Forward to epoch from number batch) = Forwards from to epoch number
message_line (Ack to epoch from committed have) = Acks from to epoch committed have

-- the line of a reply
abbrev pub response_line : {A : Type 0} → Response A → TraceLine A
response_line (Committed i n) = Commits i n
response_line (Shows i n l) = Reads i n (map (λ (b : Marked _). b.content) l)
response_line (Opened i n) = Opens i n
response_line (Closed i n) = Closes i n
response_line (Refused i why) = Refuses i why

-- the line of a drop, if there is one
abbrev pub drop_lines : {A : Type 0} → Option DropReason → List (TraceLine A)
drop_lines None = []
drop_lines (Some why) = Drops why ∷ []

-- the line of a node that stopped, if it did
abbrev pub stop_lines : {A : Type 0} → Option (ℕ × MachineState A) → Bool → List (TraceLine A)
stop_lines (Some at) true = Stops at.0 ∷ []
stop_lines at stopped = []

-- the line of an epoch that a node adopted
abbrev pub adopt_lines : {A : Type 0} → Option (ℕ × MachineState A) → List (TraceLine A)
adopt_lines None = []
adopt_lines (Some at) = Adopts at.0 at.1.epoch ∷ []

-- the line of a start
abbrev pub start_lines : {A : Type 0} → Option (ℕ × MachineState A) → List (TraceLine A)
start_lines None = []
start_lines (Some at) = Starts at.0 at.1.epoch (length at.1.list) at.1.committed ∷ []

-- the line of an event that changed a node's epoch or started it
abbrev pub change_lines : {A : Type 0} → SystemEvent A → Option (ℕ × MachineState A) → List
    (TraceLine A)
change_lines (Notice x e went) at = adopt_lines at
change_lines (Start x went) at = start_lines at
change_lines (Ask x i request went) at = []
change_lines (Tick x went) at = []
change_lines (Tend x rises gives_up went) at = []
change_lines (Deliver p went) at = []
change_lines (Stop x) at = []
change_lines Lost at = []

-- whether the event was handled: it was not dropped and its node did not stop
abbrev pub had_effect : Option DropReason → Bool → Bool
had_effect None stopped = not stopped
had_effect (Some why) stopped = false

-- the lines of an event: drop or change, frames, replies, stop
abbrev pub lines : {A : Type 0} → SystemEvent A → Outcome A → List (TraceLine A)
lines e o =
    drop_lines o.dropped
    ++ (if had_effect o.dropped o.stopped then change_lines e o.acted_on else [])
    ++ map message_line o.frames
    ++ map response_line o.replies
    ++ stop_lines o.acted_on o.stopped

-- the lines of each of these events, from this world on
abbrev pub trace_from : {A : Type 0} → Configurations → List (SystemEvent A) → SystemState A
    → List (List (TraceLine A))
trace_from cs [] w = []
trace_from cs (e ∷ es) w = lines e (outcome w cs e) ∷ trace_from cs es (state_after cs w e)

-- the lines of each event of a run from the beginning
abbrev pub trace : {A : Type 0} → Configurations → List (SystemEvent A) → List (List (TraceLine A))
trace cs events = trace_from cs events (first_state cs)
