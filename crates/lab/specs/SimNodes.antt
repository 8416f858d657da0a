-- Simulated nodes: what a running or stopped one refines, and what the code may choose in a step.
use Rattle.std.specs.Global.{Box}
use Rattle.std.specs.Prelude.{◌≡◌, ℕ, All, Bool, List, None, false, true}
use Rattle.kv_types.specs.declared.Limits.{Limits}
use Rattle.disk.specs.{Incidents, IsReliable, Slots, State, fault_of, past_states, state_of}
use Rattle.disk.specs.declared.disk.Disk.{Ghosts}
use Rattle.chain_model.specs as model
use Rattle.engine.specs.Tended.{Tended}
use Rattle.chain_core.specs.{Machine}
use Rattle.node.specs.declared.Node.{Node}
use Rattle.node.specs.declared.Stop.{Stop as Cause}
use Rattle.node.specs.{NodeRefines, DiskAlwaysRefines, IsReady, disk_of, node_limits}
use Rattle.lab.specs.declared.node_state.NodeState.{NodeState}
use Rattle.lab.specs.declared.node_state.NodeState.TheVariants.{Up, Down}

-- the disk that a node owns, or that is left of one that is down
abbrev pub disk_in : {D : Type 0} {g : Ghosts D} → NodeState D g → D
disk_in (Up node) = disk_of node.value
disk_in (Down disk) = disk.value

-- the node is down
abbrev pub IsDown : {D : Type 0} {g : Ghosts D} → NodeState D g → Type 0
IsDown (Up node) = ⊥
IsDown (Down disk) = Unit {0}

-- a step of it may follow, if it is up
abbrev pub StateIsReady : {D : Type 0} {g : Ghosts D} → NodeState D g → Type 0
StateIsReady {D} {g} new = (node : Box (Node D g)) → new ≡ Up node → IsReady node.value

-- it has these limits, if it is up
abbrev pub StateHasLimits : {D : Type 0} {g : Ghosts D} → NodeState D g → Limits → Type 0
StateHasLimits (Up node) limits = node_limits node.value ≡ limits
StateHasLimits (Down disk) limits = Unit {0}

-- the disk of a node that is down is honest, and represents machine n as node x
abbrev pub DownRefines : {D : Type 0} → (D → Type 0) → (D → State) → D → ℕ → Machine → Type 0
DownRefines is_honest state disk x n =
    is_honest disk × DiskAlwaysRefines (state disk) x n × (n.running ≡ false)

-- a running node refines machine n as node x, or the disk of one that is down does
abbrev pub StateRefines : {D : Type 0} {g : Ghosts D} → (D → Type 0) → (D → State) → NodeState D g
    → ℕ → Machine → Type 0
StateRefines is_honest state (Up node) x n = NodeRefines is_honest state node.value x n
StateRefines is_honest state (Down disk) x n = DownRefines is_honest state disk.value x n

-- a running node refines some machine, or the disk of one that is down is honest
abbrev pub StateIsSound : {D : Type 0} (g : Ghosts D) → NodeState D g → Type 0
StateIsSound g (Up node) =
    (x : ℕ) × (n : Machine) × NodeRefines g.is_honest g.state node.value x n
StateIsSound g (Down disk) = g.is_honest disk.value

-- what the code may choose in a step: how it went, whether the event's fault struck in it, why the
-- node stopped if it did, and what it did if it tended: whether its floor rises then, and which
-- batches it gives up; and what the carrier may: whether the event's request or frame was lost, and
-- of each reply whether the client was told
pub record Choice : Type 0 where
  pub went : model.StepResult
  pub struck : Bool
  pub cause : Cause
  pub tended : Tended
  pub rises : Bool
  pub gives_up : ℕ
  pub lost : Bool
  pub told : List Bool

-- nothing of an event was lost
pub record HasArrived (choice : Choice) : Type 0 where
  pub whole : choice.lost ≡ false
  pub replies : All (λ b. b ≡ true) choice.told

-- where nothing may be lost, nothing of these events was
abbrev pub Arrives : Type 0 → List Choice → Type 0
Arrives loses choices = (loses → ⊥) → All HasArrived choices

-- a disk is armed with no fault
abbrev pub IsUnarmed : {D : Type 0} → Ghosts D → D → Type 0
IsUnarmed g disk = fault_of (g.incidents disk) ≡ None

-- ---- a disk in memory

-- its state is that of its slots
abbrev pub state : Slots → State
state disk = state_of disk.slots

-- the faults that it was armed with, and its crashes
abbrev pub incidents : Slots → Incidents
incidents disk = disk.incidents

-- what it is as a disk
abbrev pub in_memory : Ghosts Slots
in_memory = record {
  is_honest = λ disk. Unit {0};
  state = state;
  failures = λ disk. disk.failures;
  is_reliable = IsReliable;
  past = past_states;
  incidents = incidents;
  allocates = ⊥;
}
