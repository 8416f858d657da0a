-- How a node stops, and what it leaves of its disk.
use Rattle.std.specs.Prelude.{◌≡◌, ◌↔◌, ◌⊎◌, ◌∷◌, ℕ, Bool, None, length, true}
use Rattle.kv_types.specs.declared.Limits.{Limits}
use Rattle.kv_types.specs.{Edits}
use Rattle.disk.specs.declared.disk.Disk.{Ghosts}
use Rattle.disk.specs.declared.Fault.{Fault}
use Rattle.disk.specs.declared.Junk.{Junk}
use Rattle.disk.specs.declared.Incident.TheVariants.{Crashed}
use Rattle.disk.specs.{HasStruck, IsLastLeft, fault_of}
use Rattle.chain_model.specs.{Answer, stopped}
use Rattle.chain_core.specs.{Machine}
use Rattle.node.specs.declared.Stop.{Stop as Cause}
use Rattle.node.specs.{StopRefines}
use Rattle.lab.specs.declared.input.StepOutcome.{StepOutcome}
use Rattle.lab.specs.declared.input.StepOutcome.TheVariants as done
use Rattle.lab.specs.declared.node_state.NodeState.{NodeState}
use Rattle.lab.specs.Disks.{HasIncidents, junk_at_end}
use Rattle.lab.specs.Events.{line_cause}
use Rattle.lab.specs.Outcomes.{HasCrashed}
use Rattle.lab.specs.SimNodes.{IsDown, StateHasLimits, StateIsReady, StateRefines, disk_in}

module _ {D : Type 0} (g : Ghosts D) (disk : D) where
  -- a node that had this disk is down, and the disk crashed with this junk
  pub record IsDownAfter (junk : Junk) (new : NodeState D g) : Type 0 where
    pub ready : StateIsReady new
    pub is : IsDown new
    pub crashes : g.is_honest disk → HasCrashed g.state g.failures g.past junk disk new
    pub refines : (x : ℕ) (n : Machine) (a : Answer Edits) → g.is_honest disk →
        StopRefines (g.state disk) x n a → StateRefines g.is_honest g.state new x (stopped n)
        ⊎ StateRefines g.is_honest g.state new x (stopped a.node)
    pub occurred : g.is_honest disk → HasIncidents g.state g.past g.incidents
        ((length (g.past disk), Crashed junk) ∷ g.incidents disk) (disk_in new)
    pub forgets : g.is_honest disk → fault_of (g.incidents (disk_in new)) ≡ None
    pub limits : (limits : Limits) → StateHasLimits new limits
    -- a crash is no failure, whatever the disk
    pub count : g.failures (disk_in new) ≡ g.failures disk

  -- A node stopped by itself for this cause, and its calls left this disk, with this fault. What it
  -- tells and with which junk the disk crashed depends on whether the fault struck.
  pub record StopsWithDisk (stop : Cause) (fault : Fault) (new : NodeState D g) (did : StepOutcome)
      : Type 0 where
    pub struck : Bool
    pub strikes : (struck ≡ true) ↔ HasStruck g.incidents g.past disk
    pub told : did ≡ done.Stopped (line_cause fault struck stop)
    pub down : IsDownAfter (junk_at_end fault struck) new
    pub last : g.is_honest disk → IsLastLeft (g.past disk) (g.state disk)
