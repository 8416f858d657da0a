-- One input of a simulated node: what it leaves of the node, and its outcome.
use Rattle.std.specs.Prelude.{◌≡◌, ◌↔◌, ◌⊎◌, ℕ, Option, Some, None}
use Rattle.kv_types.specs.declared.Limits.{Limits}
use Rattle.disk.specs.declared.disk.Disk.{Ghosts}
use Rattle.disk.specs.declared.Fault.{Fault}
use Rattle.disk.specs.declared.Fault.TheVariants as fault
use Rattle.disk.specs.declared.Junk.{Junk}
use Rattle.disk.specs.{RisesByOne, contents, fault_of}
use Rattle.chain_model.specs.declared.DropReason.TheVariants as reason
use Rattle.chain_core.specs.{Machine}
use Rattle.node.specs.declared.Stop.{Stop as Cause}
use Rattle.node.specs.declared.Stop.TheVariants.{Disk}
use Rattle.node.specs.Starts.{StartRefusal}
use Rattle.node.specs.{node_core}
use Rattle.carriers.specs.declared.NodeInput.{NodeInput}
use Rattle.carriers.specs.declared.NodeInput.TheVariants as to_node
use Rattle.lab.specs.declared.input.StepOutcome.{StepOutcome}
use Rattle.lab.specs.declared.input.StepOutcome.TheVariants as done
use Rattle.lab.specs.declared.node_state.NodeState.{NodeState}
use Rattle.lab.specs.declared.node_state.NodeState.TheVariants.{Up, Down}
use Rattle.lab.specs.Disks.{HasGrown}
use Rattle.lab.specs.Outcomes.{DiskFits, IncidentsFit, IsAnswerAtRest, IsDrop, IsExplained}
use Rattle.lab.specs.Outcomes.{IsIgnored, OutcomeRefines, StateFollows, has_struck_in, input_junk}
use Rattle.lab.specs.SimNodes.{StateHasLimits, StateIsReady, StateIsSound, StateRefines, IsDown}
use Rattle.lab.specs.SimNodes.{disk_in}

-- The outcome of an input, by whether the node was up, whatever its disk. One that is up drops what
-- is no frame, for that reason, and a start, since it runs. One that is down can only be started,
-- and answers anything else at rest.
abbrev pub IsOutcomeOf : {D : Type 0} {g : Ghosts D} → NodeState D g → NodeInput → StepOutcome
    → Type 0
IsOutcomeOf (Up node) (to_node.Step inp) (done.Answered output) = Unit {0}
IsOutcomeOf (Up node) (to_node.Step inp) (done.Stopped cause) = Unit {0}
IsOutcomeOf (Up node) (to_node.BadFrame why) (done.Answered output) = IsDrop why output
IsOutcomeOf (Up node) to_node.Tend (done.Tended answer) = Unit {0}
IsOutcomeOf (Up node) to_node.Tend (done.Stopped cause) = Unit {0}
IsOutcomeOf (Up node) to_node.Start (done.Answered output) = IsDrop reason.Running output
IsOutcomeOf (Up node) (to_node.Stop junk) (done.Stopped cause) = cause ≡ None
IsOutcomeOf (Down disk) to_node.Start (done.Started epoch count committed) = Unit {0}
IsOutcomeOf (Down disk) to_node.Start (done.Stopped cause) = Unit {0}
IsOutcomeOf (Down disk) to_node.Start (done.Answered output) = ⊥
IsOutcomeOf (Down disk) node_input (done.Answered output) = IsAnswerAtRest node_input output
IsOutcomeOf _ _ _ = ⊥

-- the fault may stop its machine
abbrev pub StopsMachine : Fault → Type 0
StopsMachine (fault.Stop call junk) = Unit {0}
StopsMachine (fault.Fail call) = ⊥
StopsMachine fault.None = ⊥

-- How often the disk of a node has failed, before an outcome and after it. It failed once more
-- where the node names its disk as the cause of its stop. It may have where the node names none,
-- and no event stopped it with its junk. Else it did not.
abbrev pub CountsFailures : Option Junk → StepOutcome → (before now : ℕ) → Type 0
CountsFailures junk (done.Stopped (Some Disk)) before now = RisesByOne before now
CountsFailures None (done.Stopped None) before now = RisesByOne before now ⊎ (now ≡ before)
CountsFailures junk did before now = now ≡ before

-- a node that is up has these numbers
abbrev pub RunsWith : {D : Type 0} {g : Ghosts D} → (epoch count committed : ℕ) → NodeState D g
    → Type 0
RunsWith epoch count committed (Up node) =
    (epoch ≡ (node_core node.value).epoch) × (count ≡ (node_core node.value).count)
    × (committed ≡ (node_core node.value).committed)
RunsWith epoch count committed (Down disk) = ⊥

-- a node stands as its outcome tells: one that started is up with these numbers, one that stopped
-- is down, and any other is up or down as it was
abbrev pub StandsByOutcome : {D : Type 0} {g : Ghosts D} → NodeState D g → StepOutcome
    → NodeState D g → Type 0
StandsByOutcome old (done.Answered output) new = IsDown new ↔ IsDown old
StandsByOutcome old (done.Started epoch count committed) new = RunsWith epoch count committed new
StandsByOutcome old (done.Stopped cause) new = IsDown new
StandsByOutcome old (done.Tended answer) new = IsDown new ↔ IsDown old

-- a node in the old state took this input, with this fault armed, and these limits if it was
-- started: its new state and its outcome
pub record HasDispatched {D : Type 0} (g : Ghosts D) (given : Limits) (fault : Fault)
    (node_input : NodeInput) (old new : NodeState D g) (did : StepOutcome) : Type 0 where
  pub ready : StateIsReady new
  -- .. whatever the disk is
  pub outcome : IsOutcomeOf old node_input did
  pub stands : StandsByOutcome old did new
  pub follows : StateFollows g.is_honest g.state g.failures g.past old node_input new
  -- a node that no event stopped names its cause, unless the fault may stop its machine
  pub tells : input_junk node_input ≡ None → did ≡ done.Stopped None → StopsMachine fault
  pub counts : CountsFailures (input_junk node_input) did (g.failures (disk_in old))
      (g.failures (disk_in new))
  -- a node that is up has the given limits, if it was down or had those
  pub limits : StateHasLimits old given → StateHasLimits new given
  -- .. if it is honest
  pub disk : g.is_honest (disk_in old) →
      DiskFits g.state g.failures g.past (input_junk node_input) fault
      (has_struck_in g.past fault (disk_in old) new) did (disk_in old) new
  -- the content of the disk explains the cause that a refused start names
  pub explains : g.is_honest (disk_in old) → node_input ≡ to_node.Start →
      (cause : Cause) → did ≡ done.Stopped (Some cause) →
      StartRefusal cause (contents (g.state (disk_in old)))
  pub occurred : g.is_honest (disk_in old) →
      IncidentsFit g.state g.past g.incidents (input_junk node_input) fault
      (has_struck_in g.past fault (disk_in old) new) did (disk_in old) new
  -- the fault is forgotten
  pub forgets : g.is_honest (disk_in old) →
      (IsIgnored old node_input → fault_of (g.incidents (disk_in old)) ≡ None) →
      fault_of (g.incidents (disk_in new)) ≡ None
  -- .. if the node refines a machine
  pub refines : (x : ℕ) (n : Machine) → StateRefines g.is_honest g.state old x n →
      OutcomeRefines g.is_honest g.state fault
      (has_struck_in g.past fault (disk_in old) new) x n node_input old new did
  -- it has the same disk
  pub grows : (x : ℕ) (n : Machine) → StateRefines g.is_honest g.state old x n →
      HasGrown g.past (disk_in old) (disk_in new)
  pub only : StateIsSound g old → g.is_reliable (disk_in old) →
      IsExplained (g.state (disk_in old)) (has_struck_in g.past fault (disk_in old) new) did
