-- What a run leaves of its nodes' disks, event by event.
use Rattle.std.specs.Prelude.{◌≡◌, ℕ, suc, ◌+◌, ◌-◌, ◌^◌, ◌<◌, nat_le, List, [], ◌∷◌, ◌++◌, length}
use Rattle.std.specs.Prelude.{map}
use Rattle.std.specs.Prelude.{◌⊎◌, All, Bool, true, false, Option, Some, None, IsSome}
use Rattle.kv_types.specs.{Edits}
use Rattle.disk.specs.declared.disk.Disk.{Ghosts}
use Rattle.disk.specs.declared.Fault.{Fault}
use Rattle.disk.specs.declared.Fault.TheVariants as fault
use Rattle.disk.specs.declared.Junk.{Junk}
use Rattle.disk.specs.declared.Junk.TheVariants.{Old}
use Rattle.disk.specs.declared.Incident.TheVariants.{Armed, Crashed}
use Rattle.disk.specs.{AddsMoment, CrashOutcome, Incidents, IsLastLeft, State, struck_call}
use Rattle.configurations.specs.{Configurations, at_epoch}
use Rattle.chain_model.specs as model
use Rattle.chain_core.specs.{Machine}
use Rattle.node.specs.declared.Stop.TheVariants.{Disk}
use Rattle.node.specs.{DiskAlwaysRefines, HasLongFile}
use Rattle.events.specs.declared.EventContent.{EventContent}
use Rattle.events.specs.declared.EventKind.{EventKind}
use Rattle.events.specs.declared.EventKind.TheVariants.{Stop}
use Rattle.lab.specs.Events.{modelled}
use Rattle.lab.specs.SimNodes.{Choice}
use Rattle.lab.specs.Traces.{modelled_from}

-- the junk of a stop event
abbrev pub junk_of : EventKind → Option Junk
junk_of (Stop node junk) = Some junk
junk_of kind = None

-- a disk that had so many calls before, and has so many now, has had the call of this number since
abbrev pub has_reached : Option ℕ → ℕ → ℕ → Bool
has_reached None before now = false
has_reached (Some call) before now = nat_le (before + call) now

-- a disk crashed with this junk, and none of its calls was made: what the crash left is one moment
pub record IsCrashOf {D : Type 0} (state : D → State) (failures : D → ℕ)
    (past : D → List State) (junk : Junk)
    (old new : D) : Type 0 where
  pub crashes : CrashOutcome junk (state old) (state new)
  pub count : failures new ≡ failures old
  pub moment : AddsMoment (past old) (past new) (state new)

-- the states that a disk which has crashed had before that
abbrev pub before_crash : List State → List State
before_crash [] = []
before_crash (left ∷ before) = before

-- the states that a disk had when a step ended, which left this past: the step's node stopped, and
-- the disk has crashed since, or it did not
abbrev pub past_of_step : Bool → List State → List State
past_of_step true past = before_crash past
past_of_step false past = past

-- the junk of the crash after a node stopped by itself: the fault's, where that stopped its machine
abbrev pub junk_at_end : Fault → Bool → Junk
junk_at_end (fault.Stop call junk) true = junk
junk_at_end (fault.Stop call junk) false = Old
junk_at_end (fault.Fail call) struck = Old
junk_at_end fault.None struck = Old

-- the disk is reliable if its count of failures is below its last value
abbrev pub StaysReliable : {D : Type 0} → Ghosts D → D → Type 0
StaysReliable g disk = g.failures disk < 2 ^ 64 - 1 → g.is_reliable disk

-- A node stopped by itself. If it stopped for the disk, one call of that failed, else none; and its
-- disk is what a crash with this junk leaves of the last state that it had.
pub record IsEndOf {D : Type 0} (g : Ghosts D) (junk : Junk) (choice : Choice) (old new : D)
    : Type 0 where
  pub failed : choice.cause ≡ Disk → g.failures new ≡ g.failures old + 1
  pub others : (choice.cause ≡ Disk → ⊥) → g.failures new ≡ g.failures old
  -- a call of a disk that stays reliable fails only where the fault struck, or where a file was
  -- nearly as long as one can be
  pub only : StaysReliable g old → choice.cause ≡ Disk →
      (choice.struck ≡ true) ⊎ HasLongFile (g.state old)
  -- the last state before the crash
  pub left : State
  pub last : IsLastLeft (before_crash (g.past new)) left
  pub crashes : CrashOutcome junk left (g.state new)

-- a node stopped: its disk crashed with the junk of the event, or else it stopped by itself
abbrev pub IsStopOf : {D : Type 0} → Ghosts D → Option Junk → Fault → Choice → D → D → Type 0
IsStopOf g (Some junk) fault choice old new = IsCrashOf g.state g.failures g.past junk old new
IsStopOf g None fault choice old new = IsEndOf g (junk_at_end fault choice.struck) choice old new

-- a disk has had the states that it had before, and perhaps more since
abbrev pub HasGrown : {D : Type 0} → (D → List State) → D → D → Type 0
HasGrown past old new = (since : List State) × (past new ≡ since ++ past old)

-- The incidents of a step, from a past of one length to one of another, in front of those before
-- it: its fault was armed at first, and forgotten at the end; or the node stopped, and its disk
-- crashed.
abbrev pub incidents_of_step : Fault → Bool → Bool → ℕ → ℕ → Incidents → Incidents
incidents_of_step fault struck false before now old =
    (now, Armed None) ∷ (before, Armed (struck_call fault)) ∷ old
incidents_of_step fault struck true before now old =
    (now, Crashed (junk_at_end fault struck)) ∷ (before, Armed (struck_call fault)) ∷ old

-- .. of a node that an event may have stopped with its junk: then this is the only one
abbrev pub incidents_of_event : Option Junk → Fault → Bool → Bool → ℕ → ℕ → Incidents → Incidents
incidents_of_event (Some junk) fault struck stopped before now old = (now, Crashed junk) ∷ old
incidents_of_event None fault struck stopped before now old =
    incidents_of_step fault struck stopped before now old

-- the disk has had exactly these incidents since, and its state is the latest of its past
pub record HasIncidents {D : Type 0} (state : D → State) (past : D → List State)
    (incidents : D → Incidents) (so : Incidents) (new : D) : Type 0 where
  pub occurred : incidents new ≡ so
  pub last : IsLastLeft (past new) (state new)

-- A node had nothing to do for its event, and has the very disk. Or it worked, and its disk has the
-- incidents of that.
abbrev pub HasIncidentsOf : {D : Type 0} → (D → State) → (D → List State) → (D → Incidents) → Type 0
    → Option Junk → Fault → Bool → Bool → D → D → Type 0
HasIncidentsOf state past incidents may_rest junk fault struck stopped old new =
    (may_rest × (stopped ≡ false) × (new ≡ old))
    ⊎ HasIncidents state past incidents (incidents_of_event junk fault struck stopped
    (length (past old)) (length (past_of_step stopped (past new))) (incidents old)) new

-- what an event leaves of the disk of the node that it was for, which is n after it
pub record DiskFollows {D : Type 0} (g : Ghosts D) (event : EventContent)
    (choice : Choice) (o : model.Outcome Edits) (n : Machine) (old new : D) : Type 0 where
  -- it is the same disk
  pub grows : HasGrown g.past old new
  -- a node that runs has worked, unless its event was dropped
  pub occurred : HasIncidentsOf g.state g.past g.incidents ((n.running ≡ false) ⊎ IsSome o.dropped)
      (junk_of event.kind) event.fault choice.struck o.stopped old new
  -- the fault struck exactly where the disk has had so many calls in the step
  pub fault : choice.struck ≡ has_reached (struck_call event.fault) (length (g.past old))
      (length (past_of_step o.stopped (g.past new)))
  pub stops : o.stopped ≡ true →
      IsStopOf g (junk_of event.kind) event.fault choice old new
  -- where the node did not stop, no call of its disk failed
  pub count : o.stopped ≡ false → g.failures new ≡ g.failures old
  -- a node that was down, and still is, has the same disk
  pub rests : o.stopped ≡ false → n.running ≡ false → new ≡ old

-- what an event leaves of all disks, by the ids of their nodes
pub record DisksFollow {D : Type 0} (g : Ghosts D) (event : EventContent)
    (choice : Choice) (o : model.Outcome Edits) (old new : ℕ → D) : Type 0 where
  pub at : (x : ℕ) (n : Machine) → o.acted_on ≡ Some (x, n) →
      DiskFollows g event choice o n (old x) (new x)
  pub others : (x : ℕ) → ((n : Machine) → o.acted_on ≡ Some (x, n) → ⊥) → new x ≡ old x

-- what the events from place i on leave of all disks, one event after another, from a world on
abbrev pub AllFollow : {D : Type 0} → Ghosts D → Configurations → ℕ → List EventContent
    → List Choice →
    model.SystemState Edits → (ℕ → D)
    → (ℕ → D) → Type 0
AllFollow g cs i [] choices w old new = new ≡ old
AllFollow g cs i (event ∷ events) [] w old new = ⊥
AllFollow {D} g cs i (event ∷ events) (choice ∷ choices) w old new =
    let o = model.outcome w cs (modelled i event.kind choice) in
    (next : ℕ → D) × DisksFollow g event choice o old next
    × AllFollow g cs (suc i) events choices (model.after w o) next new

-- a disk that was just created: it was armed with no fault then, and its state is the latest of its
-- past
abbrev pub IsNewDisk : {D : Type 0} → Ghosts D → D → Type 0
IsNewDisk g disk =
    HasIncidents g.state g.past g.incidents ((length (g.past disk), Armed None) ∷ []) disk

-- the disks that a run leaves, by the ids of their nodes: no call of them failed before it
pub record AreDisksAfter {D : Type 0} (g : Ghosts D)
    (cs : Configurations) (events : List EventContent) (choices : List Choice)
    (disks : ℕ → D) : Type 0
  where
    pub first : ℕ → D
    pub begun : (x : ℕ) → g.failures (first x) ≡ 0
    pub occurred : (x : ℕ) → IsNewDisk g (first x)
    pub follow : AllFollow g cs 1 events choices
        (model.first_state cs) first
        disks

-- the node's disk is this one, and represents its machine's whole list, as it reads and whatever a
-- crash leaves
pub record IsDiskOf {D : Type 0} (state : D → State) (x : ℕ) (n : Machine) (disk own : D) : Type 0
  where
    pub same : disk ≡ own
    pub stands : DiskAlwaysRefines (state disk) x n

-- each node of configuration 0 has the disk that the run leaves
pub record HaveDisks {D N : Type 0} (g : Ghosts D) (id : N → ℕ)
    (disk : N → D) (cs : Configurations) (events : List EventContent) (choices : List Choice)
    (nodes : List N) : Type 0 where
  pub ids : map id nodes ≡ at_epoch cs 0
  pub disks : ℕ → D
  pub after : AreDisksAfter g cs events choices disks
  pub each : All (λ node. IsDiskOf g.state (id node)
      (model.node_of cs (modelled_from 1 events choices) (id node)) (disk node) (disks (id node)))
      nodes
