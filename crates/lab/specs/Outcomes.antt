-- The outcomes of a simulated node: the state that each input leaves, and its disk.
use Rattle.std.specs.Prelude.{◌≡◌, ◌⊎◌, ℕ, List, [], ◌∷◌, length, Option}
use Rattle.std.specs.Prelude.{Bool, Some, None, IsSome, true, false}
use Rattle.kv_types.specs.{Edits}
use Rattle.disk.specs.{IsEnvironmental}
use Rattle.disk.specs.declared.disk.Disk.{Ghosts}
use Rattle.disk.specs.declared.Fault.{Fault}
use Rattle.disk.specs.declared.Junk.{Junk}
use Rattle.disk.specs.{CrashOutcome, Incidents, IsLastLeft, RisesByOne, State, struck_call}
use Rattle.chain_model.specs.{Answer, dropped_for, refused, silent, started, stopped}
use Rattle.chain_model.specs.Rules.{tend}
use Rattle.engine.specs.Tended.{Tended}
use Rattle.chain_model.specs.declared.Refusal.TheVariants as refusal
use Rattle.chain_model.specs.declared.DropReason.{DropReason}
use Rattle.chain_model.specs.declared.DropReason.TheVariants as reason
use Rattle.chain_core.specs.declared.Input.{Input}
use Rattle.chain_core.specs.declared.Input.TheVariants as input
use Rattle.chain_core.specs.{AreFrames, answer_to, Machine}
use Rattle.node.specs.declared.Output.{Output}
use Rattle.node.specs.declared.Reply.TheVariants as reply
use Rattle.node.specs.declared.Stop.{Stop as Cause}
use Rattle.node.specs.declared.Stop.TheVariants.{Disk, Memory}
use Rattle.engine.specs.{IsTendAnswer, facts_of}
use Rattle.node.specs.{answer_to_tend, facts_for, has_risen}
use Rattle.node.specs.{replies_of, disk_of, engine_of, HasLongFile}
use Rattle.carriers.specs.declared.NodeInput.{NodeInput}
use Rattle.carriers.specs.declared.NodeInput.TheVariants as to_node
use Rattle.lab.specs.declared.input.StepOutcome.{StepOutcome}
use Rattle.lab.specs.declared.input.StepOutcome.TheVariants as done
use Rattle.lab.specs.declared.node_state.NodeState.{NodeState}
use Rattle.lab.specs.declared.node_state.NodeState.TheVariants.{Up, Down}
use Rattle.lab.specs.Disks.{HasIncidentsOf, IsCrashOf, before_crash, has_reached, junk_at_end}
use Rattle.lab.specs.Events.{line_cause}
use Rattle.lab.specs.SimNodes.{StateRefines, IsDown, disk_in}

-- ---- what a node answers

-- the answer of a node that is down: a client is refused, all else is dropped
abbrev pub down_answer : Machine → Input → Answer Edits
down_answer n (input.Submit i batch) = refused n i refusal.NotRunning
down_answer n (input.Get i key at) = refused n i refusal.NotRunning
down_answer n (input.Rows i range at) = refused n i refusal.NotRunning
down_answer n (input.Open i at) = refused n i refusal.NotRunning
down_answer n (input.Close i number) = refused n i refusal.NotRunning
down_answer n (input.Forward epoch from number batch) = dropped_for n reason.NotRunning
down_answer n (input.Ack epoch from committed have) = dropped_for n reason.NotRunning
down_answer n (input.Notice epoch ids) = dropped_for n reason.NotRunning
down_answer n input.Tick = dropped_for n reason.NotRunning

-- the output has the drop, the frames and the replies of this answer of the machine
pub record IsAnswer (inp : Input) (a : Answer Edits) (output : Output) : Type 0 where
  pub dropped : output.dropped ≡ a.dropped
  pub frames : AreFrames output.frames a.frames
  pub replied : output.replies ≡ replies_of inp a.replies

-- the input was dropped, and nothing else done
pub record IsDrop (why : DropReason) (output : Output) : Type 0 where
  pub dropped : output.dropped ≡ Some why
  pub frames : output.frames ≡ []
  pub replied : output.replies ≡ []

-- request i was refused as the node is down, and nothing else done
pub record IsRefusal (i : ℕ) (output : Output) : Type 0 where
  pub dropped : output.dropped ≡ None
  pub frames : output.frames ≡ []
  pub replied : output.replies ≡ reply.Refused i refusal.NotRunning ∷ []

-- a node that is down answered an input that does not start it
abbrev pub IsAnswerAtRest : NodeInput → Output → Type 0
IsAnswerAtRest (to_node.Step inp) output = (n : Machine) → IsAnswer inp (down_answer n inp) output
IsAnswerAtRest (to_node.BadFrame why) output = IsDrop reason.NotRunning output
IsAnswerAtRest to_node.Tend output = IsDrop reason.NotRunning output
IsAnswerAtRest to_node.Start output = Unit {0}
IsAnswerAtRest (to_node.Stop junk) output = IsDrop reason.NotRunning output

-- the node answered, and such is the output
abbrev pub HasAnswered : StepOutcome → (Output → Type 0) → Type 0
HasAnswered did P = (output : Output) × (did ≡ done.Answered output) × P output

-- ---- the fault of an event

-- the states that a node's disk had when its step ended: one of a node that is down has crashed
-- since
abbrev pub past_in : {D : Type 0} {g : Ghosts D} → (D → List State) → NodeState D g → List State
past_in past (Up node) = past (disk_of node.value)
past_in past (Down disk) = before_crash (past disk.value)

-- whether the fault struck a call of a node's disk
abbrev pub has_struck_in : {D : Type 0} {g : Ghosts D} → (D → List State) → Fault → D
    → NodeState D g
    → Bool
has_struck_in past fault old new =
    has_reached (struck_call fault) (length (past old)) (length (past_in past new))

-- A node stopped by itself, for its device or for memory: for its device where the fault struck.
pub record StopsByItself (fault : Fault) (struck : Bool) (did : StepOutcome) : Type 0 where
  pub cause : Cause
  pub environmental : IsEnvironmental Disk Memory cause
  pub device : struck ≡ true → cause ≡ Disk
  pub told : did ≡ done.Stopped (line_cause fault struck cause)

-- a node that reports that it stopped for this disk did so as the fault struck, or as a file of the
-- disk was nearly as long as one can be
abbrev pub IsExplained : State → Bool → StepOutcome → Type 0
IsExplained disk struck did = did ≡ done.Stopped (Some Disk) → (struck ≡ true) ⊎ HasLongFile disk

-- ---- outcomes of node x, which was machine n, and the state that each leaves

-- an input of a step: the node ran and answered; or it stopped by itself, as before the step or as
-- after it; or it is down
pub data HasHandled {D : Type 0} {g : Ghosts D} (is_honest : D → Type 0) (state : D
    → State) (fault : Fault)
    (struck : Bool) (x : ℕ) (n : Machine) (inp : Input) (new : NodeState D g) (did : StepOutcome)
    : Type 0 where
  Answers : n.running ≡ true → StateRefines is_honest state new x (answer_to x n inp).node
      → HasAnswered did (IsAnswer inp (answer_to x n inp))
      → HasHandled is_honest state fault struck x n inp new did
  Ends : n.running ≡ true → StopsByItself fault struck did
      → StateRefines is_honest state new x (stopped n)
      ⊎ StateRefines is_honest state new x (stopped (answer_to x n inp).node)
      → HasHandled is_honest state fault struck x n inp new did
  Rests : n.running ≡ false → StateRefines is_honest state new x n
      → HasAnswered did (IsAnswer inp (down_answer n inp))
      → HasHandled is_honest state fault struck x n inp new did

-- a node that was up, and is, tells what its tend did
abbrev pub IsTendedAnswer : {D : Type 0} {g : Ghosts D} → NodeState D g → NodeState D g → Tended
    → Type 0
IsTendedAnswer (Up old) (Up new) answer =
    IsTendAnswer (engine_of old.value) (engine_of new.value) answer
IsTendedAnswer (Up old) (Down disk) answer = ⊥
IsTendedAnswer (Down disk) new answer = ⊥

-- whether a node that was machine n has raised its floor in a tend, by the facts that it tells now
abbrev pub rises_in : {D : Type 0} {g : Ghosts D} → ℕ → Machine → NodeState D g → Bool
rises_in x n (Up node) = has_risen (facts_for x n) (facts_of (engine_of node.value))
rises_in x n (Down disk) = false

-- the answer of machine n to a tend, by the facts that its node tells now
abbrev pub tended_in : {D : Type 0} {g : Ghosts D} → ℕ → Machine → NodeState D g
    → Answer Edits
tended_in x n (Up node) = answer_to_tend x n (facts_of (engine_of node.value))
tended_in x n (Down disk) = silent n

-- a tend: the node ran as its facts say, and tells what it did; or it stopped by itself, as before
-- the tend or with its floor raised; or it is down
pub data HasTended {D : Type 0} {g : Ghosts D} (is_honest : D → Type 0) (state : D
    → State) (fault : Fault)
    (struck : Bool) (x : ℕ) (n : Machine) (old new : NodeState D g)
    (did : StepOutcome) : Type 0 where
  Tends : n.running ≡ true → StateRefines is_honest state new x (tended_in x n new).node
      → (answer : Tended) × (did ≡ done.Tended answer) × IsTendedAnswer old new answer
      → HasTended is_honest state fault struck x n old new did
  Halts : n.running ≡ true → StopsByItself fault struck did → (gives_up : ℕ)
      → StateRefines is_honest state new x (stopped n)
      ⊎ StateRefines is_honest state new x (stopped (tend n true gives_up).node)
      → HasTended is_honest state fault struck x n old new did
  TendsNot : n.running ≡ false → StateRefines is_honest state new x n
      → HasAnswered did (IsDrop reason.NotRunning)
      → HasTended is_honest state fault struck x n old new did

-- a node was started: it runs as the machine that was started, or stopped by itself; or it ran
pub data HasStarted {D : Type 0} {g : Ghosts D} (is_honest : D → Type 0) (state : D
    → State) (fault : Fault)
    (struck : Bool) (x : ℕ) (n : Machine) (new : NodeState D g) (did : StepOutcome) : Type 0 where
  Starts : n.running ≡ false → StateRefines is_honest state new x (started x n)
      → did ≡ done.Started n.epoch (length n.list) (started x n).committed
      → HasStarted is_honest state fault struck x n new did
  Fails : n.running ≡ false → StopsByItself fault struck did
      → StateRefines is_honest state new x (stopped n)
      → HasStarted is_honest state fault struck x n new did
  RunsOn : n.running ≡ true → StateRefines is_honest state new x n →
      HasAnswered did (IsDrop reason.Running)
      → HasStarted is_honest state fault struck x n new did

-- a node was stopped: it is down, or was
pub data HasStopped {D : Type 0} {g : Ghosts D} (is_honest : D → Type 0) (state : D → State) (x : ℕ)
    (n : Machine) (new : NodeState D g) (did : StepOutcome) : Type 0 where
  Stops : n.running ≡ true → StateRefines is_honest state new x (stopped n) →
      did ≡ done.Stopped None
      → HasStopped is_honest state x n new did
  RestsOn : n.running ≡ false → StateRefines is_honest state new x n →
      HasAnswered did (IsDrop reason.NotRunning)
      → HasStopped is_honest state x n new did

-- what is no frame between nodes is dropped, for this reason if the node runs
pub data HasDropped {D : Type 0} {g : Ghosts D} (is_honest : D → Type 0) (state : D
    → State) (x : ℕ) (n : Machine)
    (why : DropReason) (new : NodeState D g) (did : StepOutcome) : Type 0 where
  Drops : n.running ≡ true → StateRefines is_honest state new x n → HasAnswered did (IsDrop why)
      → HasDropped is_honest state x n why new did
  DropsResting : n.running ≡ false → StateRefines is_honest state new x n
      → HasAnswered did (IsDrop reason.NotRunning)
      → HasDropped is_honest state x n why new did

-- this input left node x, which was machine n, in this state with this outcome, where a fault
-- struck or did not
abbrev pub OutcomeRefines : {D : Type 0} {g : Ghosts D} → (D → Type 0) → (D → State) → Fault → Bool
    → ℕ → Machine
    → NodeInput → NodeState D g → NodeState D g → StepOutcome → Type 0
OutcomeRefines is_honest state fault struck x n (to_node.Step inp) old new did =
    HasHandled is_honest state fault struck x n inp new did
OutcomeRefines is_honest state fault struck x n (to_node.BadFrame why) old new did =
    HasDropped is_honest state x n why new did
OutcomeRefines is_honest state fault struck x n to_node.Tend old new did =
    HasTended is_honest state fault struck x n old new did
OutcomeRefines is_honest state fault struck x n to_node.Start old new did =
    HasStarted is_honest state fault struck x n new did
OutcomeRefines is_honest state fault struck x n (to_node.Stop junk) old new did =
    HasStopped is_honest state x n new did

-- ---- the disk behind an outcome

-- the junk of an input that stops a node
abbrev pub input_junk : NodeInput → Option Junk
input_junk (to_node.Stop junk) = Some junk
input_junk (to_node.Step inp) = None
input_junk (to_node.BadFrame why) = None
input_junk to_node.Tend = None
input_junk to_node.Start = None

-- no call of the disk failed, so no fault struck, and a node that is down has the same one
pub record DiskStays {D : Type 0} {g : Ghosts D} (failures : D
    → ℕ) (struck : Bool) (old : D) (new : NodeState D g)
    : Type 0 where
  pub spared : struck ≡ false
  pub count : failures (disk_in new) ≡ failures old
  pub same : IsDown new → disk_in new ≡ old

-- a node that was stopped is down, and its disk crashed with this junk
abbrev pub HasCrashed : {D : Type 0} {g : Ghosts D} → (D → State) → (D → ℕ) → (D → List State)
    → Junk → D → NodeState D g
    → Type 0
HasCrashed state failures past junk old (Up node) = ⊥
HasCrashed state failures past junk old (Down disk) =
    IsCrashOf state failures past junk old disk.value

-- A node stopped by itself: a call of the disk failed if that is the cause, and else none. The
-- state that the step left of the disk crashed with this junk.
pub record DiskEnds {D : Type 0} (state : D → State) (failures : D → ℕ) (past : D → List State)
    (junk : Junk) (struck : Bool) (cause : Cause) (old new : D) : Type 0 where
  pub failed : cause ≡ Disk → RisesByOne (failures old) (failures new)
  pub others : (cause ≡ Disk → ⊥) → failures new ≡ failures old
  pub left : State
  pub crashes : CrashOutcome junk left (state new)
  pub last : IsLastLeft (before_crash (past new)) left

-- a node stopped and tells no cause: the event stopped it with its junk, or else the fault did
abbrev pub HasCrashedWith : {D : Type 0} {g : Ghosts D} → (D → State) → (D → ℕ) → (D → List State)
    → Option Junk → Fault
    → Bool → D → NodeState D g → Type 0
HasCrashedWith state failures past (Some junk) fault struck old new =
    HasCrashed state failures past junk old new
HasCrashedWith state failures past None fault struck old new =
    IsDown new
    × DiskEnds state failures past (junk_at_end fault struck) struck Disk old (disk_in new)

-- the disk that a node had and the one behind its outcome
abbrev pub DiskFits : {D : Type 0} {g : Ghosts D} → (D → State) → (D → ℕ) → (D → List State)
    → Option Junk → Fault → Bool
    → StepOutcome → D → NodeState D g → Type 0
DiskFits state failures past junk fault struck (done.Answered output) old new =
    DiskStays failures struck old new
DiskFits state failures past junk fault struck (done.Tended answer) old new =
    DiskStays failures struck old new
DiskFits state failures past junk fault struck (done.Started epoch count committed) old new =
    DiskStays failures struck old new
DiskFits state failures past junk fault struck (done.Stopped None) old new =
    HasCrashedWith state failures past junk fault struck old new
DiskFits state failures past junk fault struck (done.Stopped (Some cause)) old new =
    IsDown new
    × DiskEnds state failures past (junk_at_end fault struck) struck cause old (disk_in new)

-- ---- the incidents behind an outcome

-- the incidents of the disk behind an outcome: a node that is down, or that dropped its input, may
-- have the very disk
abbrev pub IncidentsFit : {D : Type 0} {g : Ghosts D} → (D → State) → (D → List State)
    → (D → Incidents) → Option Junk → Fault → Bool → StepOutcome → D → NodeState D g → Type 0
IncidentsFit state past incidents junk fault struck (done.Answered output) old new =
    HasIncidentsOf state past incidents (IsDown new ⊎ IsSome output.dropped) junk fault struck false
    old (disk_in new)
IncidentsFit state past incidents junk fault struck (done.Tended answer) old new =
    HasIncidentsOf state past incidents ⊥ junk fault struck false old (disk_in new)
IncidentsFit state past incidents junk fault struck (done.Started epoch count committed) old new =
    HasIncidentsOf state past incidents ⊥ junk fault struck false old (disk_in new)
IncidentsFit state past incidents junk fault struck (done.Stopped cause) old new =
    HasIncidentsOf state past incidents ⊥ junk fault struck true old (disk_in new)

-- ---- the state behind an input, whatever the machine

-- an input that the node ignores leaves its state as it was, and one that stops a running node
-- leaves a crash of its disk with the junk
abbrev pub StateFollows : {D : Type 0} {g : Ghosts D} → (D → Type 0) → (D → State) → (D → ℕ)
    → (D → List State)
    → NodeState D g → NodeInput → NodeState D g → Type 0
StateFollows is_honest state failures past (Up node) (to_node.Step inp) new = Unit {0}
StateFollows is_honest state failures past (Up node) (to_node.BadFrame why) new = new ≡ Up node
StateFollows is_honest state failures past (Up node) to_node.Tend new = Unit {0}
StateFollows is_honest state failures past (Up node) to_node.Start new = new ≡ Up node
StateFollows is_honest state failures past (Up node) (to_node.Stop junk) new =
    is_honest (disk_of node.value) → HasCrashed state failures past junk (disk_of node.value) new
StateFollows is_honest state failures past (Down disk) (to_node.Step inp) new = new ≡ Down disk
StateFollows is_honest state failures past (Down disk) (to_node.BadFrame why) new = new ≡ Down disk
StateFollows is_honest state failures past (Down disk) to_node.Tend new = new ≡ Down disk
StateFollows is_honest state failures past (Down disk) to_node.Start new = Unit {0}
StateFollows is_honest state failures past (Down disk) (to_node.Stop junk) new = new ≡ Down disk

-- a node has nothing to do for this input
abbrev pub IsIgnored : {D : Type 0} {g : Ghosts D} → NodeState D g → NodeInput → Type 0
IsIgnored (Up node) (to_node.Step inp) = ⊥
IsIgnored (Up node) to_node.Tend = ⊥
IsIgnored (Up node) (to_node.Stop junk) = ⊥
IsIgnored (Down disk) to_node.Start = ⊥
IsIgnored _ _ = Unit {0}
