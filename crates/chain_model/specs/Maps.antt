-- The machine at another type: each content replaced by its image. A step inspects marks, but no
-- content, so a run commutes with every such map. So the theorems of runs over contents with places
-- hold of runs over plain contents. Definitions without a source are this store's profile.
use Rattle.std.specs.Prelude.{◌≡◌, ℕ, List, map, Option, Some, None}
use Rattle.kv_types.specs.{Marked}
use Rattle.configurations.specs.{Configurations}
use Rattle.chain_model.specs.Messages.{Message, Forward, Ack}
use Rattle.chain_model.specs.Requests.{Request, Submit, Read, Open, Close, Response, Committed}
use Rattle.chain_model.specs.Requests.{Shows, Opened, Closed, Refused}
use Rattle.chain_model.specs.Machine.{MachineState, Answer}
use Rattle.chain_model.specs.System.{SystemEvent, Ask, Tick, Tend, Notice, Deliver, Start, Stop}
use Rattle.chain_model.specs.System.{Lost}
use Rattle.chain_model.specs.System.{Outcome, SystemState, reached, outcomes, first_state}

-- a batch with the image of its content
abbrev pub marked_map : {A B : Type 0} → (A → B) → Marked A → Marked B
marked_map f batch = record { mark = batch.mark; content = f batch.content }

-- the image of a node
abbrev pub node_map : {A B : Type 0} → (A → B) → MachineState A → MachineState B
node_map f n = record {
  list = map (marked_map f) n.list;
  epoch = n.epoch;
  ids = n.ids;
  committed = n.committed;
  floor = n.floor;
  kept = n.kept;
  successor_has = n.successor_has;
  snapshots = n.snapshots;
  pending = n.pending;
  running = n.running;
}

-- the image of a frame
abbrev pub frame_map : {A B : Type 0} → (A → B) → Message A → Message B
frame_map f (Forward to e from k b) = Forward to e from k (marked_map f b)
frame_map f (Ack to e from c have) = Ack to e from c have

-- the image of a reply
abbrev pub reply_map : {A B : Type 0} → (A → B) → Response A → Response B
reply_map f (Committed i n) = Committed i n
reply_map f (Shows i s l) = Shows i s (map (marked_map f) l)
reply_map f (Opened i s) = Opened i s
reply_map f (Closed i s) = Closed i s
reply_map f (Refused i why) = Refused i why

-- the image of a request
abbrev pub request_map : {A B : Type 0} → (A → B) → Request A → Request B
request_map f (Submit b) = Submit (marked_map f b)
request_map f (Read at) = Read at
request_map f (Open at) = Open at
request_map f (Close s) = Close s

-- the image of an answer
abbrev pub answer_map : {A B : Type 0} → (A → B) → Answer A → Answer B
answer_map f a = record {
  node = node_map f a.node;
  frames = map (frame_map f) a.frames;
  replies = map (reply_map f) a.replies;
  dropped = a.dropped;
}

-- the image of an event
abbrev pub event_map : {A B : Type 0} → (A → B) → SystemEvent A → SystemEvent B
event_map f (Ask x i q went) = Ask x i (request_map f q) went
event_map f (Tick x went) = Tick x went
event_map f (Tend x rises gives_up went) = Tend x rises gives_up went
event_map f (Notice x e went) = Notice x e went
event_map f (Deliver p went) = Deliver p went
event_map f (Start x went) = Start x went
event_map f (Stop x) = Stop x
event_map f Lost = Lost

-- the image of the node that handled an event
abbrev pub place_map : {A B : Type 0} → (A → B) → Option (ℕ × MachineState A) → Option
    (ℕ × MachineState B)
place_map f None = None
place_map f (Some at) = Some (at.0, node_map f at.1)

-- the image of an outcome
abbrev pub outcome_map : {A B : Type 0} → (A → B) → Outcome A → Outcome B
outcome_map f o = record {
  acted_on = place_map f o.acted_on;
  frames = map (frame_map f) o.frames;
  replies = map (reply_map f) o.replies;
  dropped = o.dropped;
  stopped = o.stopped;
}

-- the image of a world
abbrev pub world_map : {A B : Type 0} → (A → B) → SystemState A → SystemState B
world_map f w = record {
  nodes = λ x. node_map f (w.nodes x);
  frames = map (frame_map f) w.frames;
  replies = map (reply_map f) w.replies;
}

-- a run of images is the image of the run
pub record CommutesWithMap {A B : Type 0} (f : A → B) (cs : Configurations)
    (events : List (SystemEvent A))
    : Type 0 where
  pub world : world_map f (reached cs events) ≡ reached cs (map (event_map f) events)
  pub each : map (outcome_map f) (outcomes cs events (first_state cs))
      ≡ outcomes cs (map (event_map f) events) (first_state cs)
