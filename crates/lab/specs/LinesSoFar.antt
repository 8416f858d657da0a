-- The events of a world so far and their lines, whatever the world has run before.
use Rattle.std.specs.Prelude.{◌≡◌, ◌≤◌, ◌+◌, ℕ, Bool, List, [], ◌∷◌, ◌++◌, All, None, length, map}
use Rattle.std.specs.Prelude.{◌↔◌, ◌⊎◌, IsErr, MatchResult, Result, false}
use Rattle.std.specs.Prelude.{get_or, suc, true}
use Rattle.std.specs.List.{remove}
use Rattle.configurations.specs.{Configurations, at_epoch}
use Rattle.disk.specs.declared.disk.Disk.{Ghosts}
use Rattle.kv_types.specs.declared.Limits.{Limits}
use Rattle.chain_model.specs.declared.DropReason.TheVariants as reason
use Rattle.carriers.specs.{HasCarried}
use Rattle.carriers.specs.declared.Carrier.{Ghosts as Carriers}
use Rattle.carriers.specs.declared.Delivery.{Delivery}
use Rattle.carriers.specs.declared.Delivery.TheVariants as delivery
use Rattle.carriers.specs.declared.NodeInput.{NodeInput}
use Rattle.events.specs.declared.EventContent.{EventContent}
use Rattle.events.specs.declared.EventKind.{EventKind}
use Rattle.events.specs.declared.EventKind.TheVariants.{Notice, Start, Stop, Tend}
use Rattle.lab.specs.declared.delivery.Posted.{Posted}
use Rattle.lab.specs.declared.input.StepOutcome.{StepOutcome}
use Rattle.lab.specs.declared.node_state.NodeState.{NodeState}
use Rattle.lab.specs.declared.report.Line.{Line}
use Rattle.lab.specs.declared.report.Line.TheVariants as line
use Rattle.lab.specs.declared.sim_node.SimNode.{SimNode}
use Rattle.lab.specs.declared.world.World.{World}
use Rattle.lab.specs.Arrivals.{RepliesFollow}
use Rattle.lab.specs.Deliveries.{Brings, IsCarriedEvent}
use Rattle.lab.specs.Events.{NamesNode, epoch_in}
use Rattle.lab.specs.OutcomeLines.{own_lines, replies_by, sent_by}
use Rattle.lab.specs.Dispatches.{RunsWith}
use Rattle.lab.specs.Posting.{HasPosted, HasPostedPart}
use Rattle.lab.specs.SimNodes.{IsDown}
use Rattle.lab.specs.Worlds.{AreCreated, HasMoved, HasNoNode, IsIndexOf, WorldHasEnded}
use Rattle.lab.specs.Worlds.{WorldKeepsLimits}
use Rattle.lab.specs.Worlds.{frames_in_steps}

-- ---- the lines that an event has, whatever its node is

-- one line, of which this is so
abbrev pub IsOneLine : (Line → Type 0) → List Line → Type 0
IsOneLine is_so (it ∷ []) = is_so it
IsOneLine is_so lines = ⊥

-- a line of which this is so, and perhaps others behind it
abbrev pub BeginsWithLine : (Line → Type 0) → List Line → Type 0
BeginsWithLine is_so [] = ⊥
BeginsWithLine is_so (it ∷ lines) = is_so it

-- node x started, or stopped while it did; or it ran already
abbrev pub IsStartLine : ℕ → Line → Type 0
IsStartLine x (line.Started node epoch count committed) = node ≡ x
IsStartLine x (line.Stopped node cause) = node ≡ x
IsStartLine x (line.Dropped why) = why ≡ reason.Running
IsStartLine x it = ⊥

-- node x was stopped, and names no cause; or it was down
abbrev pub IsStopLine : ℕ → Line → Type 0
IsStopLine x (line.Stopped node cause) = (node ≡ x) × (cause ≡ None)
IsStopLine x (line.Dropped why) = why ≡ reason.NotRunning
IsStopLine x it = ⊥

-- node x tended, or stopped while it did; or it was down
abbrev pub IsTendLine : ℕ → Line → Type 0
IsTendLine x (line.Tended did) = Unit {0}
IsTendLine x (line.Stopped node cause) = node ≡ x
IsTendLine x (line.Dropped why) = why ≡ reason.NotRunning
IsTendLine x it = ⊥

-- Node x adopted the configuration of this epoch, or stopped while it did, or dropped the notice.
-- Or there was nothing to do, which may be said of any epoch: the list is not asked here.
abbrev pub IsNoticeLine : ℕ → ℕ → Line → Type 0
IsNoticeLine x epoch (line.Adopted node now) = (node ≡ x) × (now ≡ epoch)
IsNoticeLine x epoch (line.Stopped node cause) = node ≡ x
IsNoticeLine x epoch (line.Dropped why) = Unit {0}
IsNoticeLine x epoch line.Nothing = Unit {0}
IsNoticeLine x epoch it = ⊥

-- The lines of an event. A start, a stop and a tend have one, and a notice one or more. Of any
-- other event nothing is said, neither which lines it has nor how many.
abbrev pub AreEventLines : EventKind → List Line → Type 0
AreEventLines (Start x) lines = IsOneLine (IsStartLine x) lines
AreEventLines (Stop x junk) lines = IsOneLine (IsStopLine x) lines
AreEventLines (Tend x) lines = IsOneLine (IsTendLine x) lines
AreEventLines (Notice x epoch) lines = BeginsWithLine (IsNoticeLine x epoch) lines
AreEventLines kind lines = Unit {0}

-- the lines of an event say that it was lost
abbrev pub is_lost : List Line → Bool
is_lost (line.Lost ∷ []) = true
is_lost lines = false

-- how many drops a line shows
abbrev pub drops_in : Line → ℕ
drops_in (line.Dropped why) = 1
drops_in it = 0

-- how many drops the lines of a step show
abbrev pub drops_of_step : List Line → ℕ
drops_of_step [] = 0
drops_of_step (it ∷ lines) = drops_in it + drops_of_step lines

-- how many drops the lines of these steps show
abbrev pub drops_in_steps : List (List Line) → ℕ
drops_in_steps [] = 0
drops_in_steps (step ∷ steps) = drops_of_step step + drops_in_steps steps

-- ---- the lines of a world

-- the ids of these nodes, in order
abbrev pub sim_node_ids : {D : Type 0} {g : Ghosts D} → List (SimNode D g) → List ℕ
sim_node_ids sims = map (λ sim. sim.id) sims

-- node x stands as the lines of an event tell that it took: one that started is up with these
-- numbers, one that stopped is down, and any other is up or down as it was
abbrev pub StandsAfter : {D : Type 0} {g : Ghosts D} → ℕ → List Line → (old new : NodeState D g)
    → Type 0
StandsAfter x (line.Started node epoch count committed ∷ []) old new =
    (node ≡ x) × RunsWith epoch count committed new
StandsAfter x (line.Stopped node cause ∷ []) old new = (node ≡ x) × IsDown new
StandsAfter x lines old new = IsDown new ↔ IsDown old

-- What came of an event was taken by none of these nodes: its line tells that there was nothing to
-- do, also where no node has the id, or that it was lost.
abbrev pub IsPassedOver : {D : Type 0} {g : Ghosts D} → List (SimNode D g) → Delivery → List Line
    → Type 0
IsPassedOver sims delivery.Nothing lines = lines ≡ line.Nothing ∷ []
IsPassedOver sims delivery.Lost lines = lines ≡ line.Lost ∷ []
IsPassedOver sims (delivery.To x node_input) lines =
    HasNoNode sims x × (lines ≡ line.Nothing ∷ [])

module _ {D C : Type 0} {g : Ghosts D} where
  -- the lines of each event so far
  abbrev pub lines_so_far : World D C g → List (List Line)
  lines_so_far world = world.steps.items

  -- the events so far
  abbrev pub events_so_far : World D C g → List EventContent
  events_so_far world = world.events.items

  -- of each of them whether its request or frame was lost on its way
  abbrev pub lost_so_far : World D C g → List Bool
  lost_so_far world = world.lost.items

  -- how many frames were sent so far
  abbrev pub sent_so_far : World D C g → ℕ
  sent_so_far world = length world.frames.items

  -- no event was run, and no frame sent
  pub record HasRunNothing (world : World D C g) : Type 0 where
    pub lines : lines_so_far world ≡ []
    pub events : events_so_far world ≡ []
    pub lost : lost_so_far world ≡ []
    pub sent : sent_so_far world ≡ 0

  -- the configurations of a world
  abbrev pub configs_of : World D C g → Configurations
  configs_of world = world.configs

  -- the nodes of a world
  abbrev pub nodes_of : World D C g → List (SimNode D g)
  nodes_of world = world.nodes.items

  -- a world of the nodes of the first of these configurations, just created with these limits,
  -- which has run nothing
  pub record HasJustBegun (cs : Configurations) (limits : Limits) (world : World D C g)
      : Type 0 where
    pub nothing : HasRunNothing world
    pub configs : configs_of world ≡ cs
    pub nodes : AreCreated (at_epoch cs 0) (at_epoch cs 0) limits (nodes_of world)

  -- the frames that were sent so far
  abbrev pub frames_of : World D C g → List Posted
  frames_of world = world.frames.items

  -- the place of the next event, from 1
  abbrev pub next_place : World D C g → ℕ
  next_place world = suc (length (lines_so_far world))

  -- the world has the nodes of its first configuration, and no others
  abbrev pub HasItsNodes : World D C g → Type 0
  HasItsNodes world = sim_node_ids (nodes_of world) ≡ at_epoch (configs_of world) 0

  -- So many events were run, each of them such (`is_own`). If they name nodes of the first
  -- configuration (`named`), the world has them behind those that it had, and a list of lines of
  -- each. If they name others, it is as it was. Each list is such (`are_lines`), if the world has
  -- its nodes. An event was lost where its lines say that alone. Each frame that they show was
  -- sent, and no more besides than they show drops.
  pub record AddsLines (named : Type 0) (is_own : EventContent → Type 0)
      (are_lines : List Line → Type 0) (count : ℕ) (old new : World D C g) : Type 0 where
    pub own : List EventContent
    pub took : events_so_far new ≡ events_so_far old ++ own
    pub all : named → length own ≡ count
    pub of : All is_own own
    pub more : List (List Line)
    pub added : lines_so_far new ≡ lines_so_far old ++ more
    pub each : named → length more ≡ count
    pub pairs : length more ≡ length own
    pub lost : lost_so_far new ≡ lost_so_far old ++ map is_lost more
    pub shown : sent_so_far old + frames_in_steps more ≤ sent_so_far new
    pub few : sent_so_far new ≤ sent_so_far old + frames_in_steps more + drops_in_steps more
    pub are : HasItsNodes old → All are_lines more
    pub unknown : (named → ⊥) → new ≡ old
    pub configs : configs_of new ≡ configs_of old
    pub nodes : HasItsNodes old → HasItsNodes new

  -- .. this one event, which may name no node
  abbrev pub EventAddsLines : EventContent → World D C g → World D C g → Type 0
  EventAddsLines event old new = AddsLines (NamesNode (configs_of old) event.kind)
      (λ it. it ≡ event) (AreEventLines event.kind) 1 old new

  -- one event more was lost: then something may be, and the event has a request or a frame
  abbrev pub LosesCarried : Type 0 → EventContent → World D C g → World D C g → Type 0
  LosesCarried loses event old new =
      lost_so_far new ≡ lost_so_far old ++ true ∷ [] → loses × IsCarriedEvent event.kind

  -- the next event of a world brings this, by its carrier, which then is this one
  abbrev pub BringsNext : Carriers C → EventContent → World D C g → C → Delivery → Type 0
  BringsNext h event old now it = Brings h old.carrier now (configs_of old) (frames_of old)
      (next_place old) event.kind it

  -- No node took an event, which has these lines: all is as it was, but what the carrier was asked.
  pub record MovesNone (h : Carriers C) (event : EventContent) (lines : List Line)
      (old new : World D C g) : Type 0 where
    pub it : Delivery
    pub brought : BringsNext h event old new.carrier it
    pub says : IsPassedOver (nodes_of old) it lines
    pub nodes : nodes_of new ≡ nodes_of old
    pub frames : frames_of new ≡ frames_of old

  -- Node x took an event, which has these lines: the input that came of it, with its fault. The
  -- frames that the node sent are posted. The lines are those of its outcome, and then of those
  -- replies that the client heard. The node stands as they tell.
  pub record MovesNode (h : Carriers C) (event : EventContent) (lines : List Line)
      (old new : World D C g) : Type 0 where
    pub x : ℕ
    pub node_input : NodeInput
    pub did : StepOutcome
    pub mid : C
    pub brought : BringsNext h event old mid (delivery.To x node_input)
    pub took : HasMoved (nodes_of old) x node_input event.fault old.limits did (nodes_of new)
    pub sends : HasPosted (frames_of old) x (sent_by did) (frames_of new)
    pub follow : RepliesFollow (HasCarried h mid new.carrier) x (replies_by did)
        (own_lines x (epoch_in event.kind) (sent_so_far old) did) lines
    pub stands : StandsAfter x lines (get_or (nodes_of old) took.index took.sim).state
        took.sim.state

  -- an event that has these lines behind all others was taken by one node, or by none
  abbrev pub MovesAtMostOne : Carriers C → EventContent → World D C g → World D C g → Type 0
  MovesAtMostOne h event old new =
      (lines : List Line) → lines_so_far new ≡ lines_so_far old ++ lines ∷ [] →
      MovesNone h event lines old new ⊎ MovesNode h event lines old new

  -- What the step of an event does in any world, by any carrier, which stays as faithful as it was.
  pub record StepsOnce (h : Carriers C) (event : EventContent) (old new : World D C g) : Type 0
    where
      pub adds : EventAddsLines event old new
      pub moves : MovesAtMostOne h event old new
      pub loses : LosesCarried h.loses event old new
      pub limits : WorldKeepsLimits old new
      pub carrier : h.is_faithful new.carrier ↔ h.is_faithful old.carrier

  -- A step that is refused ends the world, and one that is answered does not. In a world that had
  -- ended it is refused, and changes nothing.
  pub record EndsIfRefused {T E : Type 0} (result : Result T E) (old new : World D C g) : Type 0
    where
      pub ends : MatchResult result (λ _. WorldHasEnded new → ⊥) (λ _. WorldHasEnded new)
      pub again : WorldHasEnded old → IsErr result × (new ≡ old)

  -- of an event that was begun: its lines are kept, or none
  abbrev pub AddsLinesAtMost : World D C g → World D C g → Type 0
  AddsLinesAtMost old new = (lines_so_far new ≡ lines_so_far old)
      ⊎ ((lines : List Line) × (lines_so_far new ≡ lines_so_far old ++ lines ∷ []))

  -- the world has the events, lines and losses that it had; or behind the events this one, which
  -- was begun, with its lines or none
  pub record KeepsLines (event : EventContent) (old new : World D C g) : Type 0 where
    pub begun : ((events_so_far new ≡ events_so_far old) × (lines_so_far new ≡ lines_so_far old))
        ⊎ ((events_so_far new ≡ events_so_far old ++ event ∷ []) × AddsLinesAtMost old new)
    pub lost : lost_so_far new ≡ lost_so_far old
    pub configs : configs_of new ≡ configs_of old

  -- the node that was to take an event was lost, for want of memory, and all else is as it was
  pub record LosesNode (h : Carriers C) (event : EventContent) (old new : World D C g) : Type 0
    where
      pub x : ℕ
      pub node_input : NodeInput
      pub mid : C
      pub brought : BringsNext h event old mid (delivery.To x node_input)
      pub index : ℕ
      pub at : IsIndexOf (nodes_of old) index x
      pub nodes : nodes_of new ≡ remove (nodes_of old) index
      pub frames : frames_of new ≡ frames_of old

  -- node x took an event, and of the frames that it sent so many first ones are posted
  pub record SendsPart (h : Carriers C) (event : EventContent) (old new : World D C g) : Type 0
    where
      pub x : ℕ
      pub node_input : NodeInput
      pub did : StepOutcome
      pub mid : C
      pub brought : BringsNext h event old mid (delivery.To x node_input)
      pub took : HasMoved (nodes_of old) x node_input event.fault old.limits did (nodes_of new)
      pub sends : HasPostedPart (frames_of old) x (sent_by did) (frames_of new)

  -- What the step of an event leaves of nodes and frames where it is refused: all; or all but the
  -- node that was to take it; or it was taken, and perhaps some of its frames are missing.
  abbrev pub LeavesNodes : Carriers C → EventContent → World D C g → World D C g → Type 0
  LeavesNodes h event old new = ((nodes_of new ≡ nodes_of old) × (frames_of new ≡ frames_of old))
      ⊎ LosesNode h event old new ⊎ SendsPart h event old new

  -- what the step of an event leaves where it is refused
  pub record StepIsRefused (h : Carriers C) (event : EventContent) (old new : World D C g) : Type 0
    where
      pub keeps : KeepsLines event old new
      pub left : LeavesNodes h event old new

  -- the event was not begun, and the world has ended and is as it was otherwise
  pub record HasNotBegun (old new : World D C g) : Type 0 where
    pub taken : new.events.items ≡ old.events.items
    pub others : new ≡ record old { events = new.events; ended = true }

  -- the world kept the lines of the event that it had begun, or not even these, and is as it was
  -- otherwise
  pub record HasPartlyKept (old new : World D C g) (lines : List Line) : Type 0 where
    pub kept : (new.steps.items ≡ old.steps.items)
        ⊎ (new.steps.items ≡ old.steps.items ++ lines ∷ [])
    pub noted : new.lost.items ≡ old.lost.items
    pub others : new ≡ record old { lost = new.lost; steps = new.steps }

-- A world ran these events, one after another, and each step of it is as in any world.
pub data RunsEvents {D C : Type 0} {g : Ghosts D} (h : Carriers C) (first : World D C g)
    : List EventContent → World D C g → Type 0 where
  NoEvent : RunsEvents h first [] first
  OneEvent : (events : List EventContent) (event : EventContent) (before behind : World D C g) →
      RunsEvents h first events before → StepsOnce h event before behind →
      RunsEvents h first (events ++ event ∷ []) behind
