-- A world of simulated nodes, and the run of the model that it refines.
use Rattle.std.specs.Global.{Box}
use Rattle.std.specs.Prelude.{◌≡◌, ◌⊎◌, ℕ, suc, ◌+◌, ◌≤◌, List, [], ◌∷◌, ◌++◌, length, map}
use Rattle.std.specs.Prelude.{Bool, MatchOption, Option, Some, None}
use Rattle.std.specs.Prelude.{All, true, false, ◌≢◌, ◌<◌, get_or, slice_index, slice_set}
use Rattle.std.specs.List.{AllZip, HoldsAt}
use Rattle.kv_types.specs.declared.Limits.{Limits}
use Rattle.kv_types.specs.{Edits}
use Rattle.configurations.specs.{Configurations, Lawful, at_epoch}
use Rattle.chain_model.specs as model_frame
use Rattle.disk.specs.declared.Fault.{Fault}
use Rattle.disk.specs.declared.Junk.{Junk}
use Rattle.disk.specs.declared.disk.Disk.{Ghosts}
use Rattle.disk.specs.{Slots}
use Rattle.node.specs.declared.Node.{Node}
use Rattle.engine.specs.{IsTendAnswer, facts_of, table_count}
use Rattle.node.specs.{AreOwnNumbers, disk_of, engine_of, has_risen, node_core}
use Rattle.link_messages.specs.declared.Frame.{Frame}
use Rattle.link_messages.specs.{IsFrame, frame_bytes}
use Rattle.chain_core.specs.{frame_as, Machine}
use Rattle.carriers.specs.declared.Carrier.{Ghosts as Carriers}
use Rattle.carriers.specs.declared.Direct.{Direct}
use Rattle.carriers.specs.{HasCarried, Transmission}
use Rattle.carriers.specs.declared.NodeInput.{NodeInput}
use Rattle.lab.specs.declared.input.StepOutcome.{StepOutcome}
use Rattle.events.specs.declared.EventContent.{EventContent}
use Rattle.events.specs.declared.EventKind.TheVariants.{Stop, Tend}
use Rattle.lab.specs.declared.node_state.NodeState.{NodeState}
use Rattle.lab.specs.declared.node_state.NodeState.TheVariants.{Up, Down}
use Rattle.lab.specs.declared.report.Line.{Line}
use Rattle.lab.specs.declared.report.Line.TheVariants as line
use Rattle.lab.specs.declared.delivery.Posted.{Posted}
use Rattle.lab.specs.declared.report.NodeReport.{NodeReport}
use Rattle.node.specs.declared.Numbers.{Numbers}
use Rattle.lab.specs.declared.sim_node.SimNode.{SimNode}
use Rattle.lab.specs.declared.world.World.{World}
use Rattle.lab.specs.SimNodes.{Arrives, Choice, StateRefines, disk_in, in_memory, state}
use Rattle.lab.specs.SimNodes.{StateHasLimits, IsDown, IsUnarmed}
use Rattle.lab.specs.Events.{NamesNode, modelled}
use Rattle.lab.specs.Dispatches.{HasDispatched}
use Rattle.lab.specs.Disks.{AreDisksAfter, DiskFollows, HaveDisks, IsCrashOf, IsDiskOf, IsNewDisk}
use Rattle.lab.specs.Freshness.{NodesKeepEnough, ReadsAreFresh}
use Rattle.lab.specs.History.{IsHistory}
use Rattle.lab.specs.Runs.{RunningRefines}
use Rattle.lab.specs.Traces.{modelled_from, IsTrace}
use Rattle.lab.specs.Posting.{FramesFollow}
use Rattle.lab.specs.Transmissions.{transmissions_of}

-- how many frames a line shows
abbrev pub frames_in : Line → ℕ
frames_in (line.Forwarded place from to epoch number) = 1
frames_in (line.Acknowledged place from to epoch committed have) = 1
frames_in line.Nothing = 0
frames_in line.Lost = 0
frames_in (line.Adopted node epoch) = 0
frames_in (line.Dropped reason) = 0
frames_in (line.Started node epoch count committed) = 0
frames_in (line.Replied reply) = 0
frames_in (line.Stopped node cause) = 0
frames_in (line.Tended did) = 0

-- how many frames the lines of a step show
abbrev pub frames_of_step : List Line → ℕ
frames_of_step [] = 0
frames_of_step (line ∷ lines) = frames_in line + frames_of_step lines

-- how many frames the lines of these steps show
abbrev pub frames_in_steps : List (List Line) → ℕ
frames_in_steps [] = 0
frames_in_steps (step ∷ steps) = frames_of_step step + frames_in_steps steps

-- a posted frame refines one of the model: it has its addressee and its bytes
pub record PostedRefines (posted : Posted) (frame : model_frame.Message Edits) : Type 0 where
  pub it : Frame
  pub same : frame_as posted.to it ≡ Some frame
  pub lawful : IsFrame it
  pub bytes : posted.bytes.items ≡ frame_bytes it

-- whether each event was lost, by what was chosen in it
abbrev pub losses_of : List Choice → List Bool
losses_of choices = map (λ choice. choice.lost) choices

-- a run of a world: its configurations, its events, what was chosen in each, and the lines of each
pub record WorldRun : Type 0 where
  pub configs : Configurations
  pub events : List EventContent
  pub choices : List Choice
  pub steps : List (List Line)

-- the run of no event
abbrev pub empty_run : Configurations → WorldRun
empty_run cs = record { configs = cs; events = []; choices = []; steps = [] }

-- .. and one with an event more
abbrev pub extended : WorldRun → EventContent → Choice → List Line → WorldRun
extended run event choice lines = record {
  configs = run.configs;
  events = run.events ++ event ∷ [];
  choices = run.choices ++ choice ∷ [];
  steps = run.steps ++ lines ∷ [];
}

-- the outcome of an event in the model, behind a run
abbrev pub outcome_after : WorldRun → EventContent → Choice → model_frame.Outcome Edits
outcome_after run event choice = model_frame.outcome
    (model_frame.reached run.configs (modelled_from 1 run.events run.choices)) run.configs
    (modelled (suc (length run.events)) event.kind choice)

-- all that an event asked of the carrier, behind a run and these posted frames
abbrev pub asked_after : WorldRun → List Posted → EventContent → Choice → List Transmission
asked_after run posted event choice =
    transmissions_of posted (suc (length run.events)) event choice (outcome_after run event choice)

module _ {D : Type 0} {g : Ghosts D} where
  -- node x is the node at this index
  pub record IsIndexOf (sims : List (SimNode D g)) (index x : ℕ) : Type 0 where
    pub within : index < length sims
    pub id : HoldsAt (λ sim. sim.id ≡ x) sims index

  -- node x is none of these
  abbrev pub HasNoNode : List (SimNode D g) → ℕ → Type 0
  HasNoNode sims x = All (λ sim. sim.id ≢ x) sims

  -- a simulated node refines the machine of its id, and has the disk of its id
  pub record SimNodeRefines (nodes : ℕ → Machine) (disks : ℕ → D) (sim : SimNode D g) : Type 0 where
    pub is : StateRefines g.is_honest g.state sim.state sim.id (nodes sim.id)
    pub disk : disk_in sim.state ≡ disks sim.id

  -- a node that was just created with this configuration: no call of its disk failed, and it was
  -- armed with no fault
  pub record IsCreated (config : List ℕ) (sim : SimNode D g) : Type 0 where
    pub is : StateRefines g.is_honest g.state sim.state sim.id (model_frame.created config)
    pub count : g.failures (disk_in sim.state) ≡ 0
    pub occurred : IsNewDisk g (disk_in sim.state)

  -- each of these nodes that is up has these limits
  abbrev pub HaveLimits : List (SimNode D g) → Limits → Type 0
  HaveLimits sims limits = All (λ sim. StateHasLimits sim.state limits) sims

  -- these nodes were just created with this configuration and these limits, in this order
  pub record AreCreated (config ids : List ℕ) (given : Limits)
      (sims : List (SimNode D g)) : Type 0 where
    pub nodes : map (λ sim. sim.id) sims ≡ ids
    pub each : All (IsCreated config) sims
    pub limits : HaveLimits sims given

  -- the numbers are those of the node's state, and say how many tables each level of its store has
  pub record AreItsNumbers (node : Node D g) (numbers : Numbers) : Type 0 where
    pub own : AreOwnNumbers (node_core node) numbers
    pub tables : (level : ℕ) → level < 7 →
        slice_index numbers.tables level ≡ table_count (engine_of node) level

  -- the node is up, and has these numbers
  abbrev pub HasNumbersIn : NodeState D g → Numbers → Type 0
  HasNumbersIn (Up node) numbers = AreItsNumbers node.value numbers
  HasNumbersIn (Down disk) numbers = ⊥

  -- the numbers are those of node x, which is up
  pub record ShowsNumbers (sims : List (SimNode D g)) (x : ℕ) (numbers : Numbers) : Type 0 where
    pub index : ℕ
    pub at : IsIndexOf sims index x
    pub own : HoldsAt (λ sim. HasNumbersIn sim.state numbers) sims index

  -- node x is none of these, or is down
  abbrev pub IsDownAmong : List (SimNode D g) → ℕ → Type 0
  IsDownAmong sims x = HasNoNode sims x
      ⊎ ((index : ℕ) × IsIndexOf sims index x × HoldsAt (λ sim. IsDown sim.state) sims index)

  -- Node x took this input with this fault, and these limits if it was started: its new state and
  -- its outcome. Every other node is as it was.
  pub record HasMoved (sims : List (SimNode D g)) (x : ℕ) (node_input : NodeInput) (fault : Fault)
      (given : Limits) (did : StepOutcome) (now : List (SimNode D g)) : Type 0 where
    pub index : ℕ
    pub at : IsIndexOf sims index x
    pub sim : SimNode D g
    pub others : now ≡ slice_set sims index sim
    pub id : sim.id ≡ x
    pub dispatched : HasDispatched g given fault node_input (get_or sims index sim).state sim.state
        did

  -- a node that tended, and runs on, did and raised what was chosen
  pub record TendsAsChosen (choice : Choice) (was now : Node D g) : Type 0 where
    pub did : IsTendAnswer (engine_of was) (engine_of now) choice.tended
    pub rises : choice.rises ≡ has_risen (facts_of (engine_of was)) (facts_of (engine_of now))

  -- An event acted on node x, which is machine n after it, and the disk that the node has follows
  -- from the one that it had. Every other node is as it was.
  pub record HasActedOn (event : EventContent) (choice : Choice)
      (o : model_frame.Outcome Edits)
      (x : ℕ) (n : Machine) (old new : List (SimNode D g)) : Type 0 where
    pub index : ℕ
    pub at : IsIndexOf old index x
    pub sim : SimNode D g
    pub others : new ≡ slice_set old index sim
    pub id : sim.id ≡ x
    pub disk : DiskFollows g event choice o n
        (disk_in (get_or old index sim).state) (disk_in sim.state)
    -- a stop of a running node leaves a crash of its disk with the junk
    pub stops : (junk : Junk) → event.kind ≡ Stop x junk → (was : Box (Node D g)) →
        (get_or old index sim).state ≡ Up was →
        IsCrashOf g.state g.failures g.past junk (disk_of was.value) (disk_in sim.state)
    -- a tend of a running node that did not stop tells what it did, and what has risen
    pub tends : event.kind ≡ Tend x → (was now : Box (Node D g)) →
        (get_or old index sim).state ≡ Up was → sim.state ≡ Up now →
        TendsAsChosen choice was.value now.value

  -- the nodes follow from those before, by the node that the event acted on
  abbrev pub NodesFollow : Option (ℕ × Machine) → EventContent → Choice
      → model_frame.Outcome Edits
      → List (SimNode D g) → List (SimNode D g) → Type 0
  NodesFollow None event choice o old new = new ≡ old
  NodesFollow (Some at) event choice o old new = HasActedOn event choice o at.0 at.1 old new

  -- these nodes follow by the outcome of the event in the model, behind a run
  abbrev pub FollowRun : WorldRun → EventContent → Choice → List (SimNode D g) →
      List (SimNode D g) →
      Type 0
  FollowRun run event choice old new =
      let o = outcome_after run event choice in
      NodesFollow o.acted_on event choice o old new

  -- Nodes, posted frames and lines refine the model's run: how each step went was chosen so, and
  -- then nodes, disks, frames and lines are those of that run.
  pub record RunRefines (sims : List (SimNode D g)) (posted : List Posted)
      (run : WorldRun) : Type 0 where
    pub lawful : Lawful run.configs
    pub trace : IsTrace run.configs run.events run.choices run.steps
    pub frames : AllZip PostedRefines posted (model_frame.reached run.configs
        (modelled_from 1 run.events run.choices)).frames
    pub sent : frames_in_steps run.steps ≡ length posted
    pub nodes : map (λ sim. sim.id) sims ≡ at_epoch run.configs 0
    pub disks : ℕ → D
    pub after : AreDisksAfter g run.configs run.events run.choices
        disks
    -- no disk failed more often than there are events
    pub few : (x : ℕ) → g.failures (disks x) ≤ length run.events
    pub unarmed : (x : ℕ) → IsUnarmed g (disks x)
    pub each : All (SimNodeRefines (model_frame.node_of run.configs
        (modelled_from 1 run.events run.choices)) disks) sims

  -- each of these nodes refines the machine of its id
  abbrev pub NodesRefine : (ℕ → Machine) → List (SimNode D g) → Type 0
  NodesRefine machines sims =
      All (λ sim. StateRefines g.is_honest g.state sim.state sim.id (machines sim.id)) sims

  -- What the events from place i on leave of these nodes, one event after another, from a state of
  -- the model on. Behind each of them those that are up have these limits, and all refine their
  -- machines.
  abbrev pub AllNodesFollow : Configurations → Limits → ℕ → List EventContent → List Choice
      → model_frame.SystemState Edits → List (SimNode D g) → List (SimNode D g) → Type 0
  AllNodesFollow cs limits i [] choices w old new = new ≡ old
  AllNodesFollow cs limits i (event ∷ events) [] w old new = ⊥
  AllNodesFollow cs limits i (event ∷ events) (choice ∷ choices) w old new =
      let o = model_frame.outcome w cs (modelled i event.kind choice) in
      (next : List (SimNode D g)) × NodesFollow o.acted_on event choice o old next
      × HaveLimits next limits
      × NodesRefine (model_frame.after w o).nodes next
      × AllNodesFollow cs limits (suc i) events choices (model_frame.after w o) next new

  -- The nodes that a run leaves: they were created with the first configuration and these limits,
  -- and each event left nodes that follow from those before it.
  pub record AreNodesAfter (cs : Configurations) (limits : Limits) (events : List EventContent)
      (choices : List Choice) (sims : List (SimNode D g)) : Type 0 where
    pub first : List (SimNode D g)
    pub created : AreCreated (at_epoch cs 0) (at_epoch cs 0) limits first
    pub follow : AllNodesFollow cs limits 1 events choices (model_frame.first_state cs) first sims

module _ {D C : Type 0} {g : Ghosts D} where
  -- The world has run so over a faithful carrier, and keeps its configurations, its events, which
  -- of them were lost, and the lines of each; its nodes came of them, with its limits.
  pub record HasRun (h : Carriers C) (world : World D C g) (run : WorldRun) : Type 0 where
    pub configs : world.configs ≡ run.configs
    pub kept : world.steps.items ≡ run.steps
    pub taken : world.events.items ≡ run.events
    pub lost : world.lost.items ≡ losses_of run.choices
    pub made : RunRefines world.nodes.items world.frames.items run
    pub came : AreNodesAfter run.configs world.limits run.events run.choices world.nodes.items
    pub carrier : h.is_faithful world.carrier
    pub arrives : Arrives h.loses run.choices

  -- the world has begun an event, and is as it was otherwise
  pub record HasBegunEvent (old new : World D C g) (event : EventContent) : Type 0 where
    pub taken : new.events.items ≡ old.events.items ++ event ∷ []
    pub others : new ≡ record old { events = new.events; ended = true }

  -- The world kept the lines of the event that it had begun, which was lost or not, and goes on. It
  -- is as it was otherwise.
  pub record HasKept (old new : World D C g) (lost : Bool) (lines : List Line) : Type 0 where
    pub kept : new.steps.items ≡ old.steps.items ++ lines ∷ []
    pub noted : new.lost.items ≡ old.lost.items ++ lost ∷ []
    pub others : new ≡ record old { lost = new.lost; steps = new.steps; ended = false }

  -- the world starts nodes with these limits, and each of its nodes that is up has them
  pub record WorldHasLimits (world : World D C g) (limits : Limits) : Type 0 where
    pub given : world.limits ≡ limits
    pub nodes : HaveLimits world.nodes.items limits

  -- the world keeps the limits that it had
  abbrev pub WorldKeepsLimits : World D C g → World D C g → Type 0
  WorldKeepsLimits old new =
      (limits : Limits) → WorldHasLimits old limits → WorldHasLimits new limits

  -- The world has run one event more, with its lines, and its very nodes follow, as was chosen. The
  -- frames that were posted for it are of the node that it acted on; and the carrier was asked for
  -- exactly what the event sends, and lost exactly what was chosen.
  pub record HasFollowed (h : Carriers C) (old new : World D C g) (past : WorldRun)
      (event : EventContent) : Type 0 where
    pub choice : Choice
    pub lines : List Line
    pub run : HasRun h new (extended past event choice lines)
    pub nodes : FollowRun past event choice old.nodes.items new.nodes.items
    pub posted : FramesFollow (outcome_after past event choice).acted_on old.frames.items
        new.frames.items
    pub carried : HasCarried h old.carrier new.carrier
        (asked_after past old.frames.items event choice)

  -- the run is as it was, and so are each node and the carrier
  pub record HasStayed (h : Carriers C) (old new : World D C g) (past : WorldRun) : Type 0 where
    pub run : HasRun h new past
    pub nodes : new.nodes.items ≡ old.nodes.items
    pub carrier : new.carrier ≡ old.carrier

  -- An event was applied if it names a node of the world, or none. Where it names another node, all
  -- stays.
  pub record HasApplied (h : Carriers C) (old new : World D C g) (past : WorldRun)
      (event : EventContent) : Type 0 where
    pub follows : NamesNode past.configs event.kind → HasFollowed h old new past event
    pub nothing : (NamesNode past.configs event.kind → ⊥) → HasStayed h old new past

  -- a step was refused, and so is every later one
  abbrev pub WorldHasEnded : World D C g → Type 0
  WorldHasEnded world = world.ended ≡ true

  -- the lines of the run are those of the model over these events, and each node has the disk that
  -- they left, which represents its machine's whole list, and which has no fault; reads at the last
  -- tail are fresh, and no node gives up what another one may lack
  pub record IsRunSoFar (h : Carriers C) (world : World D C g) (run : WorldRun) : Type 0 where
    pub trace : IsTrace run.configs run.events run.choices run.steps
    pub arrives : Arrives h.loses run.choices
    pub disks : HaveDisks g (λ (sim : SimNode D g). sim.id)
        (λ (sim : SimNode D g). disk_in sim.state) run.configs run.events run.choices
        world.nodes.items
    pub unarmed : All (λ sim. IsUnarmed g (disk_in sim.state)) world.nodes.items
    pub fresh : ReadsAreFresh run.configs run.events run.choices run.steps
    pub enough : NodesKeepEnough run.configs run.events run.choices

  -- .. and there is one history of them
  abbrev pub HasHistory : World D C g → WorldRun → Type 0
  HasHistory world run = IsHistory g.state (λ (sim : SimNode D g). sim.id)
      (λ (sim : SimNode D g). disk_in sim.state) run.configs run.events run.steps world.nodes.items

-- ---- over disks in memory

-- a node on a disk in memory
abbrev pub MemNode : Type 0
MemNode = SimNode Slots in_memory

-- what the carrier in memory is: it loses nothing
abbrev pub direct_carrier : Carriers Direct
direct_carrier = record {
  is_faithful = λ carrier. Unit {0};
  loses = ⊥;
  has_carried = λ carrier asked. Unit {0};
}

-- a world of them, of which nothing is lost
abbrev pub MemWorld : Type 0
MemWorld = World Slots Direct in_memory

-- the report of a node that is this machine and has this disk, at the end of a run
pub record IsLeft (n : Machine) (own : Slots) (left : NodeReport) : Type 0 where
  pub disk : IsDiskOf state left.id n left.disk own
  pub numbers : RunningRefines left.running n

-- the report of this node has its id and its very disk, and its numbers where it is up
pub record IsReportOf (sim : MemNode) (report : NodeReport) : Type 0 where
  pub id : report.id ≡ sim.id
  pub disk : report.disk ≡ disk_in sim.state
  pub running : MatchOption report.running (IsDown sim.state) (HasNumbersIn sim.state)

-- these reports are of these nodes, one of each in order, at the end of a run
pub record AreLeft (sims : List MemNode) (nodes : List NodeReport) : Type 0 where
  pub own : AllZip IsReportOf sims nodes
  pub each : (machines : ℕ → Machine) (disks : ℕ → Slots) → All
      (SimNodeRefines machines disks) sims →
      All (λ node. IsLeft (machines node.id) (disks node.id) node) nodes

-- the reports are of the nodes that a run leaves, one of each in order
pub record AreReportsAfter (cs : Configurations) (limits : Limits) (events : List EventContent)
    (choices : List Choice) (reports : List NodeReport) : Type 0 where
  pub sims : List MemNode
  pub after : AreNodesAfter cs limits events choices sims
  pub own : AllZip IsReportOf sims reports
