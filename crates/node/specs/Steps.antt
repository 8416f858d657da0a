-- Refinement of the chain's model by a running node and by a stopped node's disk, and the answers
-- of a step.
use Rattle.std.specs.Prelude.{◌≡◌, ◌⊎◌, ℕ, List, [], ◌∷◌, length}
use Rattle.std.specs.List.{flat_map}
use Rattle.kv_types.specs.declared.Limits.{Limits}
use Rattle.kv_types.specs.{BatchContent, Edits, map_of}
use Rattle.kv_types.specs.Pages.{page_of}
use Rattle.disk.specs.declared.Disk.{Ghosts}
use Rattle.disk.specs.{State, Contents, IsCrashOutcome}
use Rattle.chain_model.specs.{Response}
use Rattle.chain_model.specs as model
use Rattle.chain_core.specs.declared.Input.{Input}
use Rattle.chain_core.specs.declared.Input.TheVariants as input
use Rattle.chain_core.specs.{Core, Machine, CoreRefines, AreFrames}
use Rattle.engine.specs.declared.Engine.{Engine}
use Rattle.engine.specs.{EngineHolds, Facts, FilesRepresent, HasEnded, LookUps, engine_disk}
use Rattle.engine.specs.{facts_of, look_ups}
use Rattle.node.specs.declared.node.Node.{Node}
use Rattle.node.specs.declared.numbers.Numbers.{Numbers}
use Rattle.node.specs.declared.output.Output.{Output}
use Rattle.node.specs.declared.output.Reply.{Reply}
use Rattle.node.specs.declared.output.Reply.TheVariants as reply

-- the disk's content represents node x: its configuration, number `epoch` in the list of
-- configurations, its batches, its floor and its kept number
abbrev pub DiskRepresents : Contents → (x epoch : ℕ) → List ℕ → List BatchContent →
    (floor kept : ℕ) → Type 0
DiskRepresents left x epoch ids list floor kept =
    FilesRepresent (record { id = x; epoch = epoch; ids = ids; floor = floor; kept = kept }) list
    left

-- the facts of node x with this machine
abbrev pub facts_for : ℕ → Machine → Facts
facts_for x n =
    record { id = x; epoch = n.epoch; ids = n.ids; floor = n.floor; kept = n.kept }

-- the disk's content represents node x with this machine's configuration, batches and numbers
abbrev pub DiskRefines : Contents → ℕ → Machine → Type 0
DiskRefines left x n = DiskRepresents left x n.epoch n.ids n.list n.floor n.kept

-- the disk represents node x with this machine, as it reads and in every crash outcome
abbrev pub DiskAlwaysRefines : State → ℕ → Machine → Type 0
DiskAlwaysRefines disk x n = (left : Contents) → IsCrashOutcome disk left → DiskRefines left x n

-- in every crash outcome the disk represents node x with one of these machines
abbrev pub DiskRefinesOneOf : State → ℕ → Machine → Machine → Type 0
DiskRefinesOneOf disk x n m = (left : Contents) → IsCrashOutcome disk left →
    DiskRefines left x n ⊎ DiskRefines left x m

module _ {D : Type 0} {g : Ghosts D} where
  -- the engine of a node
  abbrev pub engine_of : Node D g → Engine D g
  engine_of node = node.engine

  -- the disk that it owns
  abbrev pub disk_of : Node D g → D
  disk_of node = engine_disk node.engine

  -- its state besides its batches
  abbrev pub node_core : Node D g → Core
  node_core node = node.core

  -- the limits by which its store works
  abbrev pub node_limits : Node D g → Limits
  node_limits node = (look_ups node.engine).limits

-- a machine has the numbers of an engine
pub record HasNumbersOf (told : LookUps) (n : Machine) : Type 0 where
  pub epoch : n.epoch ≡ told.facts.epoch
  pub count : length n.list ≡ told.count
  pub floor : n.floor ≡ told.facts.floor
  pub kept : n.kept ≡ told.facts.kept

-- The running node is node x and refines this machine: it has its numbers, and its batches are on
-- its disk.
pub record NodeRefines {D : Type 0} {g : Ghosts D} (is_honest : D → Type 0) (state : D → State)
    (node : Node D g) (x : ℕ) (n : Machine) : Type 0 where
  pub honest : is_honest (disk_of node)
  pub store : EngineHolds g node.engine n.list
  pub facts : facts_of node.engine ≡ facts_for x n
  pub core : CoreRefines node.core n
  pub id : node.core.id ≡ x

-- the property holds of each node and machine that the running node refines
abbrev pub IfRefines : {D : Type 0} {g : Ghosts D} → Node D g → (ℕ → Machine → Type 0) → Type 0
IfRefines {g = g} node P =
    (x : ℕ) (n : Machine) → NodeRefines g.is_honest g.state node x n → P x n

-- the numbers are the machine's; how many tables a node has is its store's, and no matter of a run
pub record NumbersRefine (n : Machine) (numbers : Numbers) : Type 0 where
  pub epoch : numbers.epoch ≡ n.epoch
  pub count : numbers.count ≡ length n.list
  pub committed : numbers.committed ≡ n.committed
  pub floor : numbers.floor ≡ n.floor
  pub kept : numbers.kept ≡ n.kept

-- the numbers are those of a node's state
pub record AreOwnNumbers (core : Core) (numbers : Numbers) : Type 0 where
  pub epoch : numbers.epoch ≡ core.epoch
  pub count : numbers.count ≡ core.count
  pub committed : numbers.committed ≡ core.committed
  pub floor : numbers.floor ≡ core.floor
  pub kept : numbers.kept ≡ core.kept

-- the engine works and has the id, the configuration, the numbers and the open snapshots of the
-- state
pub record AreInStep {D : Type 0} {g : Ghosts D} (core : Core) (engine : Engine D g) : Type 0 where
  pub works : HasEnded engine → ⊥
  pub id : core.id ≡ (look_ups engine).facts.id
  pub epoch : core.epoch ≡ (look_ups engine).facts.epoch
  pub ids : core.ids ≡ (look_ups engine).facts.ids
  pub count : core.count ≡ (look_ups engine).count
  pub floor : core.floor ≡ (look_ups engine).facts.floor
  pub kept : core.kept ≡ (look_ups engine).facts.kept
  pub committed : core.committed ≡ (look_ups engine).committed
  pub snapshots : core.snapshots ≡ (look_ups engine).snapshots

-- its engine works and is in step with the node's state, so another step can follow
abbrev pub IsReady : {D : Type 0} {g : Ghosts D} → Node D g → Type 0
IsReady node = AreInStep node.core node.engine

-- the reply to a client's read: the value of its key, or the page of its range, in the map of these
-- batches
abbrev pub shown_for : Input → ℕ → ℕ → List BatchContent → List Reply
shown_for (input.Get request key at) i s batches =
    reply.Value i s (map_of batches key) ∷ []
shown_for (input.Rows request range at) i s batches =
    reply.Rows i s (page_of batches range) ∷ []
shown_for (input.Submit request batch) i s batches = []
shown_for (input.Open request at) i s batches = []
shown_for (input.Close request number) i s batches = []
shown_for (input.Forward epoch from number batch) i s batches = []
shown_for (input.Ack epoch from committed have) i s batches = []
shown_for (input.Notice epoch ids) i s batches = []
shown_for input.Tick i s batches = []

-- the reply to a client for a reply of the machine
abbrev pub replies_to_response : Input → model.Response Edits → List Reply
replies_to_response input (Response.Committed i k) = reply.Committed i k ∷ []
replies_to_response input (Response.Shows i s batches) = shown_for input i s batches
replies_to_response input (Response.Opened i s) = reply.Opened i s ∷ []
replies_to_response input (Response.Closed i s) = reply.Closed i s ∷ []
replies_to_response input (Response.Refused i why) = reply.Refused i why ∷ []

-- the replies to clients for those of the machine, in order
abbrev pub replies_of : Input → List (model.Response Edits) → List Reply
replies_of input replies = flat_map (replies_to_response input) replies

-- these replies are those of the machine to an input
abbrev pub AreReplies : Input → List (model.Response Edits) → List Reply → Type 0
AreReplies input of_machine replies = replies ≡ replies_of input of_machine

-- A node that answered refines the machine after the step. Its drop, frames and replies are those
-- of the machine.
pub record StepRefines {D : Type 0} {g : Ghosts D} (is_honest : D → Type 0) (state : D → State)
    (new : Node D g) (x : ℕ) (input : Input) (a : model.Answer Edits)
    (output : Output) : Type 0 where
  pub runs : NodeRefines is_honest state new x a.node
  pub dropped : output.dropped ≡ a.dropped
  pub frames : AreFrames output.frames a.frames
  pub replied : AreReplies input a.replies output.replies

-- The disk of a node that stopped in a step represents the machine before the step or after it.
abbrev pub StopRefines : State → ℕ → Machine → model.Answer Edits → Type 0
StopRefines disk x n a = DiskRefinesOneOf disk x n a.node
