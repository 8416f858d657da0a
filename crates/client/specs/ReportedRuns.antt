-- What is printed of statements in any world, whatever that is and has run before: the text of the
-- lines that it reports.
use Rattle.std.specs.Prelude.{◌≡◌, ◌⊎◌, ◌≤◌, ◌<◌, ◌-◌, ℕ, suc, List, [], ◌∷◌, ◌++◌, Option}
use Rattle.std.specs.Prelude.{length, take, drop}
use Rattle.std.specs.Prelude.{All, Bool, if◌then◌else◌, map, replicate, true}
use Rattle.std.specs.Io.KnownBytes.{Appends}
use Rattle.disk.specs.declared.disk.Disk.{Ghosts}
use Rattle.lab.specs.declared.Line.{Line}
use Rattle.lab.specs.declared.SimNode.{SimNode}
use Rattle.lab.specs.declared.world.World.{World}
use Rattle.lab.specs.EventContent.{EventContent}
use Rattle.lab.specs.Numbers.{Numbers}
use Rattle.lab.specs.EventKind.TheVariants.{Tend}
use Rattle.carriers.specs.declared.Carrier.{Ghosts as Carriers}
use Rattle.lab.specs.{AddsLines, AreEventLines, HasItsNodes, IsDownAmong, RunsEvents}
use Rattle.lab.specs.{ShowsNumbers, StepIsRefused, StepsOnce, configs_of, events_so_far}
use Rattle.lab.specs.{lines_so_far, nodes_of, sent_so_far}
use Rattle.lab.specs.NodeLists.{Configurations}
use Rattle.scripts.specs.Scripts.{Names}
use Rattle.scripts.specs.declared.statement.Action.{Action}
use Rattle.scripts.specs.declared.statement.Action.TheVariants.{Event, Invalid, Flow}
use Rattle.scripts.specs.declared.statement.Action.TheVariants.{Settle, Show}
use Rattle.scripts.specs.declared.statement.Statement.{Statement}
use Rattle.client.specs.declared.statement_result.StatementResult.{StatementResult}
use Rattle.client.specs.declared.statement_result.Note.{Note}
use Rattle.client.specs.declared.statement_result.Note.TheVariants as note
use Rattle.client.specs.declared.run_error.RunError.{RunError}
use Rattle.client.specs.declared.run_error.RunError.TheVariants.{Memory, Write}
use Rattle.client.specs.ScriptRuns.{HasSettled, IsRising, ShowsLast, busy, deliveries, delivery}
use Rattle.client.specs.ScriptRuns.{has_worked, left_after, most, places_after, shown, tending}
use Rattle.client.specs.Text.{result_text}

-- how a statement is answered in any world: so many events, of which so many are silent, and what
-- is said besides
abbrev pub IsAnswerTo : Action → ℕ → ℕ → Note → Type 0
IsAnswerTo (Event event) events silent said =
    (events ≡ 1) × (silent ≡ 0) × (said ≡ note.Nothing)
IsAnswerTo (Invalid e) events silent said =
    (events ≡ 0) × (silent ≡ 0) × (said ≡ note.Invalid e)
IsAnswerTo Flow events silent said =
    (events ≤ most) × (silent ≡ 0)
    × ((said ≡ note.Nothing) ⊎ ((said ≡ note.Busy) × (events ≡ most)))
IsAnswerTo (Settle node) events silent said =
    (events ≤ most) × ((more : Bool) × (silent ≡ (if more then events else events - 1))
    × (said ≡ (if more then note.Busy else note.Nothing)))
IsAnswerTo (Show node) events silent said =
    (events ≡ 0) × (silent ≡ 0) × ((numbers : Option Numbers) × (said ≡ shown node numbers))

-- a statement was run, and this is what it answered
pub record IsAnswered (it : Statement) (turn : StatementResult) : Type 0 where
  pub line : turn.line ≡ it.line
  pub did : IsAnswerTo it.action turn.events turn.silent turn.note

-- this is an event of such a statement
abbrev pub IsActionEvent : Action → EventContent → Type 0
IsActionEvent (Event event) it = it ≡ event
IsActionEvent (Invalid e) it = ⊥
IsActionEvent Flow it = (place : ℕ) × (it ≡ delivery place)
IsActionEvent (Settle node) it = it ≡ tending node
IsActionEvent (Show node) it = ⊥

-- how many events such a statement has at most
abbrev pub most_events : Action → ℕ
most_events (Event event) = 1
most_events (Invalid e) = 0
most_events Flow = most
most_events (Settle node) = most
most_events (Show node) = 0

-- these are lines of one event of such a statement, whatever its node is
abbrev pub AreActionLines : Action → List Line → Type 0
AreActionLines (Event event) lines = AreEventLines event.kind lines
AreActionLines (Settle node) lines = AreEventLines (Tend node) lines
AreActionLines action lines = Unit {0}

-- these lines of a settle are of tends up to the first that did not work, or to the bound, and it
-- prints the last of them, or that there is more to do
abbrev pub EndsSo : Action → StatementResult → List (List Line) → Type 0
EndsSo (Settle node) turn own =
    (settled : HasSettled own) × ShowsLast settled.last turn.silent (length own) turn.note
EndsSo action turn own = Unit {0}

-- .. which stand behind those that a world had
abbrev pub EndsIn : Action → StatementResult → (old new : List (List Line)) → Type 0
EndsIn action turn old new = (own : List (List Line)) × (new ≡ old ++ own) × EndsSo action turn own

-- so many tends worked, and have lines behind those that there were
pub record HaveWorked (old new : List (List Line)) (count : ℕ) : Type 0 where
  pub own : List (List Line)
  pub added : new ≡ old ++ own
  pub each : length own ≡ count
  pub worked : All (λ step. has_worked step ≡ true) own

-- what is said of a node is so of these: it is down or unknown, or it is up and has these numbers
abbrev pub ShowsNow : {D : Type 0} {g : Ghosts D} → List (SimNode D g) → Note → Type 0
ShowsNow sims note.Nothing = Unit {0}
ShowsNow sims (note.Invalid e) = Unit {0}
ShowsNow sims note.Busy = Unit {0}
ShowsNow sims (note.Running node numbers) = ShowsNumbers sims node numbers
ShowsNow sims (note.Down node) = IsDownAmong sims node

module _ {D C : Type 0} {g : Ghosts D} where
  -- so many events of a statement were run in a world: it has each and a list of its lines behind
  -- those that it had, if the statement names a node of the first configuration, or none
  abbrev pub ActionAddsLines : Action → ℕ → World D C g → World D C g → Type 0
  ActionAddsLines action count old new =
      AddsLines (Names (configs_of old) action) (IsActionEvent action) (AreActionLines action) count
      old new

  -- so many events of a statement were run in a world, one after another, each as in any world
  pub record RunsAction (h : Carriers C) (action : Action) (count : ℕ) (old new : World D C g)
      : Type 0 where
    pub events : List EventContent
    pub own : All (IsActionEvent action) events
    pub each : length events ≡ count
    pub runs : RunsEvents h old events new

  -- the step of an event was not begun, or was refused; or it was run, and nothing behind it
  abbrev pub StepIsCut : Carriers C → EventContent → World D C g → World D C g → Type 0
  StepIsCut h event old new =
      (new ≡ old) ⊎ StepIsRefused h event old new ⊎ StepsOnce h event old new

  -- the places of the frames that were sent between two moments of a world
  abbrev pub places_between : World D C g → World D C g → List ℕ
  places_between old new = places_after (sent_so_far old) (sent_so_far new - sent_so_far old)

  -- The frames that are left, with those that are sent meanwhile, were delivered in the order of
  -- this list up to one of them, and this event delivers that one.
  pub record DeliversUpTo (old mid : World D C g) (left : List ℕ) (event : EventContent) : Type 0
    where
      pub first : List ℕ
      pub place : ℕ
      pub rest : List ℕ
      pub all : left ++ places_between old mid ≡ first ++ place ∷ rest
      pub events : events_so_far mid ≡ events_so_far old ++ map delivery first
      pub next : event ≡ delivery place

  -- A statement ended early at one of its events, and those before that were run: by a flow, with
  -- these frames left, the deliveries of the frames before the one that this event delivers; by a
  -- settle tends that worked.
  pub record ActionIsCut (h : Carriers C) (action : Action) (left : List ℕ) (old new : World D C g)
      : Type 0 where
    pub count : ℕ
    pub few : count < most_events action
    pub mid : World D C g
    pub runs : RunsAction h action count old mid
    pub event : EventContent
    pub own : IsActionEvent action event
    pub order : action ≡ Flow → DeliversUpTo old mid left event
    pub worked : (node : ℕ) → action ≡ Settle node → Names (configs_of old) action →
        HaveWorked (lines_so_far old) (lines_so_far mid) count
    pub cut : StepIsCut h event mid new

  -- the frames that are left, with those that are sent meanwhile, were delivered in the order of
  -- this list up to the bound of a flow, and the others are left
  pub record DeliversLeft (old new : World D C g) (old_left new_left : List ℕ) : Type 0 where
    pub events : events_so_far new
        ≡ events_so_far old ++ deliveries (old_left ++ places_between old new)
    pub left : new_left ≡ drop most (old_left ++ places_between old new)

  -- A statement was run so, and this is what it answered. One without events leaves the world as
  -- it was. A flow is told busy exactly where it leaves frames. Where the places of the frames that
  -- are left rose, these are left now.
  pub record IsReportedIn (h : Carriers C) (old new : World D C g) (it : Statement)
      (turn : StatementResult) (old_left new_left : List ℕ) : Type 0 where
    pub answered : IsAnswered it turn
    pub shown : ShowsNow (nodes_of old) turn.note
    pub adds : ActionAddsLines it.action turn.events old new
    pub runs : RunsAction h it.action turn.events old new
    pub ends : Names (configs_of old) it.action →
        EndsIn it.action turn (lines_so_far old) (lines_so_far new)
    pub stays : turn.events ≡ 0 → new ≡ old
    pub delivers : it.action ≡ Flow →
        DeliversLeft old new old_left new_left × (turn.note ≡ busy new_left)
    pub left : IsRising 0 (sent_so_far old) old_left →
        new_left ≡ left_after it.action (old_left ++ places_between old new)

-- These are the lines of a statement's events: of each one list, if it names a node of the first of
-- these configurations, or none; and nothing, if it names another. Each list is such as its event
-- has, if the world has the nodes of these configurations. A settle ends as its lines say.
pub record AreLinesOf (cs : Configurations) (has_nodes : Type 0) (it : Statement)
    (turn : StatementResult) (own : List (List Line)) : Type 0 where
  pub each : Names cs it.action → length own ≡ turn.events
  pub ends : Names cs it.action → EndsSo it.action turn own
  pub are : has_nodes → All (AreActionLines it.action) own
  pub unknown : (Names cs it.action → ⊥) → own ≡ []

-- Statements were run so, one after another, from the first of these worlds to the other, where no
-- frame was left: the frames that are left now, where in the script the events stand, the lines of
-- these, and the text of all.
pub data AreReported {D C : Type 0} {g : Ghosts D} (h : Carriers C) (first : World D C g)
    : World D C g → List ℕ → List Statement → List ℕ → List (List Line) → List ℕ → Type 0 where
  NoStatement : AreReported h first first [] [] [] [] []
  OneMore : (before behind : World D C g) (left next : List ℕ) (done : List Statement)
      (places : List ℕ) (steps : List (List Line)) (text : List ℕ) →
      AreReported h first before left done places steps text →
      (it : Statement) (turn : StatementResult) (own : List (List Line)) →
      IsReportedIn h before behind it turn left next →
      next ≡ left_after it.action (left ++ places_between before behind) →
      lines_so_far behind ≡ lines_so_far before ++ own →
      AreLinesOf (configs_of first) (HasItsNodes first) it turn own →
      AreReported h first behind next (done ++ it ∷ [])
      (places ++ replicate turn.events turn.line) (steps ++ own)
      (text ++ result_text (places ++ replicate turn.events turn.line) turn own)

-- the first of these statements ended early at one of its events, with these frames left before it;
-- or it was run to its end, and its text was not made
abbrev pub IsCutAtFirst : {D C : Type 0} {g : Ghosts D} → Carriers C → List Statement → List ℕ
    → (old new : World D C g) → Type 0
IsCutAtFirst h [] left old new = ⊥
IsCutAtFirst h (it ∷ statements) left old new = ActionIsCut h it.action left old new
    ⊎ ((turn : StatementResult) × (next : List ℕ) × IsReportedIn h old new it turn left next)

module _ {D C : Type 0} {g : Ghosts D} where
  -- the statements were run in a world, which has their lines behind those that it had, and exactly
  -- the text of these was written
  pub record ReportIsPrinted (h : Carriers C) (old new : World D C g)
      (statements : List Statement) (before after : Option (List ℕ)) : Type 0 where
    pub left : List ℕ
    pub places : List ℕ
    pub steps : List (List Line)
    pub text : List ℕ
    pub are : AreReported h old new left statements places steps text
    pub added : lines_so_far new ≡ lines_so_far old ++ steps
    pub wrote : Appends before after text

  -- behind so many first of these statements one more was run, and of its text this is a beginning
  pub record ReportsOneMore (h : Carriers C) (old new : World D C g)
      (statements : List Statement) (count : ℕ) (text part : List ℕ) : Type 0 where
    pub left : List ℕ
    pub places : List ℕ
    pub steps : List (List Line)
    pub next : List ℕ
    pub are : AreReported h old new left (take (suc count) statements) places steps (text ++ next)
    pub added : lines_so_far new ≡ lines_so_far old ++ steps
    pub beginning : ℕ
    pub is : part ≡ take beginning next

  -- Statements were run in a world, and this ended them early, at the statement behind so many
  -- first ones. The text of these was written. Where memory was short, nothing more was, and of the
  -- next one the first events were run up to one that was cut, or all. Where the output took no
  -- more, the next one was run to its end, and a beginning of its text was written.
  pub record ReportIsCut (h : Carriers C) (error : RunError) (old new : World D C g)
      (statements : List Statement) (before after : Option (List ℕ)) : Type 0 where
    pub count : ℕ
    pub within : count < length statements
    pub behind : World D C g
    pub left : List ℕ
    pub places : List ℕ
    pub steps : List (List Line)
    pub text : List ℕ
    pub are : AreReported h old behind left (take count statements) places steps text
    pub added : lines_so_far behind ≡ lines_so_far old ++ steps
    pub part : List ℕ
    pub wrote : Appends before after (text ++ part)
    pub memory : error ≡ Memory →
        (part ≡ []) × IsCutAtFirst h (drop count statements) left behind new
    pub output : error ≡ Write → ReportsOneMore h old new statements count text part
