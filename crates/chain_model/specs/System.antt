-- A world of nodes, and the effects of events on it. An event is one complete step of one node.
-- Definitions without a source are this store's profile.
use Rattle.std.specs.Prelude.{ℕ, List, [], ◌∷◌, ◌++◌, length, Option, Some, None, Bool, true}
use Rattle.std.specs.Prelude.{false, if◌then◌else◌, ◌==◌, nat_lt}
use Rattle.kv_types.specs.{place}
use Rattle.configurations.specs.{Configurations, at_epoch}
use Rattle.chain_model.specs.declared.refusal.Refusal.TheVariants as refusal
use Rattle.chain_model.specs.declared.drop_reason.DropReason.{DropReason}
use Rattle.chain_model.specs.declared.drop_reason.DropReason.TheVariants as reason
use Rattle.chain_model.specs.Messages.{Message, addressee}
use Rattle.chain_model.specs.Requests.{Request, Response}
use Rattle.chain_model.specs.Machine.{MachineState, Answer, silent, dropped_for, refused, created}
use Rattle.chain_model.specs.Machine.{stopped}
use Rattle.chain_model.specs.Machine.{started}
use Rattle.chain_model.specs.Rules.{ask, receive, notice, tick, tend}

-- How a step ended: it answered, or the node stopped in it. A stopped node has the persistent state
-- of before the step or of after it.
pub data StepResult : Type 0 where
  Answered StoppedBefore StoppedAfter : StepResult

-- Events (van Renesse and Schneider 2004, section 3; stops and starts, and frames that are
-- delivered late, again or never, are this store's profile). An event has the choices that are left
-- to the code: how the step ended, and the effect of a tend. A node outside configuration 0 counts
-- as removed by it. A notice of an epoch beyond the list does nothing, nor does a place without a
-- frame.
pub data SystemEvent (A : Type 0) : Type 0 where
  -- request `number` of a client
  Ask : (node number : ℕ) → (request : Request A) → (went : StepResult) → SystemEvent A
  Tick : (node : ℕ) → (went : StepResult) → SystemEvent A
  Tend : (node : ℕ) → (rises : Bool) → (gives_up : ℕ) → (went : StepResult) → SystemEvent A
  Notice : (node epoch : ℕ) → (went : StepResult) → SystemEvent A
  -- the frame at a place, from 1, among all frames that were ever sent
  Deliver : (place : ℕ) → (went : StepResult) → SystemEvent A
  Start : (node : ℕ) → (went : StepResult) → SystemEvent A
  Stop : (node : ℕ) → SystemEvent A
  -- an event whose request or frame was lost on its way; it keeps its place
  Lost : SystemEvent A

-- nodes by their ids, and every frame and every reply so far
pub record SystemState (A : Type 0) : Type 0 where
  pub nodes : ℕ → MachineState A
  pub frames : List (Message A)
  pub replies : List (Response A)

-- the outcome of an event
pub record Outcome (A : Type 0) : Type 0 where
  -- the node that handled the event, and its state after it; none where there was nothing to do
  pub acted_on : Option (ℕ × MachineState A)
  -- the frames that it sent, with their addressees, and its replies
  pub frames : List (Message A)
  pub replies : List (Response A)
  -- why the input was dropped, if it was
  pub dropped : Option DropReason
  -- whether the node stopped in the event
  pub stopped : Bool

-- there was nothing to do
abbrev pub nothing : {A : Type 0} → Outcome A
nothing = record { acted_on = None; frames = []; replies = []; dropped = None; stopped = false }

-- node x answers
abbrev pub answers : {A : Type 0} → ℕ → Answer A → Outcome A
answers x a = record {
  acted_on = Some (x, a.node);
  frames = a.frames;
  replies = a.replies;
  dropped = a.dropped;
  stopped = false;
}

-- node x, being n, stops: it sends and replies nothing
abbrev pub stops : {A : Type 0} → ℕ → MachineState A → Outcome A
stops x n = record {
  acted_on = Some (x, stopped n);
  frames = [];
  replies = [];
  dropped = None;
  stopped = true;
}

-- node x, with state n, makes a step with answer a, which ended so
abbrev pub as_completed : {A : Type 0} → ℕ → MachineState A → Answer A → StepResult → Outcome A
as_completed x n a Answered = answers x a
as_completed x n a StoppedBefore = stops x n
as_completed x n a StoppedAfter = stops x a.node

module _ {A : Type 0} (w : SystemState A) where
  -- the step of node x if it runs, else the answer of a node that does not
  abbrev pub if_running : ℕ → (MachineState A → Answer A) → (MachineState A → Answer A) → StepResult
      → Outcome A
  if_running x step otherwise went =
      if (w.nodes x).running then as_completed x (w.nodes x) (step (w.nodes x)) went
      else answers x (otherwise (w.nodes x))

  -- a step that a node drops if it does not run
  abbrev pub dispatched : ℕ → (MachineState A → Answer A) → StepResult → Outcome A
  dispatched x step went = if_running x step (λ n. dropped_for n reason.NotRunning) went

  -- a frame is delivered to its addressee
  abbrev pub delivered : Option (Message A) → StepResult → Outcome A
  delivered None went = nothing
  delivered (Some frame) went =
      dispatched (addressee frame) (λ n. receive (addressee frame) n frame) went

  -- the outcome of an event in this world
  abbrev pub outcome : Configurations → SystemEvent A → Outcome A
  outcome cs (Ask x i request went) =
      if_running x (λ n. ask x n i request) (λ n. refused n i refusal.NotRunning) went
  outcome cs (Tick x went) = dispatched x (λ n. tick x n) went
  outcome cs (Tend x rises gives_up went) = dispatched x (λ n. tend n rises gives_up) went
  outcome cs (Notice x e went) =
      if nat_lt e (length cs) then dispatched x (λ n. notice x n e (at_epoch cs e)) went
      else nothing
  outcome cs (Deliver p went) = delivered (place w.frames p) went
  outcome cs (Start x went) =
      if (w.nodes x).running then answers x (dropped_for (w.nodes x) reason.Running)
      else as_completed x (w.nodes x) (silent (started x (w.nodes x))) went
  outcome cs (Stop x) =
      if (w.nodes x).running then stops x (w.nodes x)
      else answers x (dropped_for (w.nodes x) reason.NotRunning)
  outcome cs Lost = nothing

-- the nodes with one of them replaced
abbrev pub with_node : {A : Type 0} → (ℕ → MachineState A) → Option (ℕ × MachineState A) → ℕ →
    MachineState A
with_node nodes None y = nodes y
with_node nodes (Some at) y = if at.0 == y then at.1 else nodes y

-- the world after an outcome, with all earlier frames and replies
abbrev pub after : {A : Type 0} → SystemState A → Outcome A → SystemState A
after w o = record {
  nodes = with_node w.nodes o.acted_on;
  frames = w.frames ++ o.frames;
  replies = w.replies ++ o.replies;
}

-- the world after an event
abbrev pub state_after : {A : Type 0} → Configurations → SystemState A → SystemEvent A → SystemState
    A
state_after cs w e = after w (outcome w cs e)

-- the world after these events
abbrev pub run : {A : Type 0} → Configurations → List (SystemEvent A) → SystemState A → SystemState
    A
run cs [] w = w
run cs (e ∷ es) w = run cs es (state_after cs w e)

-- the outcomes of these events, one for each
abbrev pub outcomes : {A : Type 0} → Configurations → List (SystemEvent A) → SystemState A → List
    (Outcome A)
outcomes cs [] w = []
outcomes cs (e ∷ es) w = outcome w cs e ∷ outcomes cs es (state_after cs w e)

-- the world at the creation of its nodes, each with configuration 0
abbrev pub first_state : {A : Type 0} → Configurations → SystemState A
first_state cs = record { nodes = λ x. created (at_epoch cs 0); frames = []; replies = [] }

-- the world after these events from the beginning
abbrev pub reached : {A : Type 0} → Configurations → List (SystemEvent A) → SystemState A
reached cs events = run cs events (first_state cs)

-- a node of that world
abbrev pub node_of : {A : Type 0} → Configurations → List (SystemEvent A) → ℕ → MachineState A
node_of cs events x = (reached cs events).nodes x
