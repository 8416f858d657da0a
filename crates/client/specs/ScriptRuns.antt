-- The course of a run: the events of each statement, and the frames that none has delivered yet.
use Rattle.std.specs.Prelude.{◌≡◌, ◌<◌, ◌≤◌, ℕ, zero, suc}
use Rattle.std.specs.Prelude.{List, [], ◌∷◌, ◌++◌, length, map, take, drop}
use Rattle.std.specs.Prelude.{◌-◌, Bool, true, false, if◌then◌else◌, All, replicate}
use Rattle.std.specs.Prelude.{Option, Some, None}
use Rattle.disk.specs.declared.disk.Disk.{Ghosts}
use Rattle.carriers.specs.declared.Carrier.{Ghosts as Carriers}
use Rattle.lab.specs.NodeLists.{Configurations}
use Rattle.kv_types.specs.Snapshots.{without}
use Rattle.lab.specs.EventContent as lab
use Rattle.lab.specs.EventKind.{EventKind}
use Rattle.lab.specs.EventKind.TheVariants.{Submit, Get, Deliver, Tick, Tend, Start, Stop}
use Rattle.lab.specs.EventKind.TheVariants.{Rows, Open, Close, Notice}
use Rattle.lab.specs.declared.Line.{Line}
use Rattle.lab.specs.declared.Line.TheVariants as line
use Rattle.lab.specs.Numbers.{Numbers}
use Rattle.lab.specs.declared.world.World.{World}
use Rattle.lab.specs.Tended.TheVariants as tended
use Rattle.lab.specs.{AreNumbersOf, Choice, HasRun, ShowsNumbers, WorldHasLimits, WorldRun}
use Rattle.lab.specs.{faultless, frames_in_steps}
use Rattle.scripts.specs.declared.setup.Setup.{Setup}
use Rattle.scripts.specs.declared.statement.Action.{Action}
use Rattle.scripts.specs.declared.statement.Action.TheVariants.{Event, Invalid, Flow}
use Rattle.scripts.specs.declared.statement.Action.TheVariants.{Settle, Show}
use Rattle.scripts.specs.declared.statement.Statement.{Statement}
use Rattle.client.specs.declared.statement_result.StatementResult.{StatementResult}
use Rattle.client.specs.declared.statement_result.Note.{Note}
use Rattle.client.specs.declared.statement_result.Note.TheVariants as note

-- the most frames that one flow delivers, and the most tends of one settle
abbrev pub most : ℕ
most = 10000

-- the places of so many frames that are sent after so many others
abbrev pub places_after : ℕ → ℕ → List ℕ
places_after sent zero = []
places_after sent (suc count) = suc sent ∷ places_after (suc sent) count

-- places that rise, from above `low` up to `high`
abbrev pub IsRising : ℕ → ℕ → List ℕ → Type 0
IsRising low high [] = low ≤ high
IsRising low high (place ∷ places) = (low < place) × IsRising place high places

-- a frame is delivered
abbrev pub delivery : ℕ → lab.EventContent
delivery place = faultless (Deliver place)

-- the events of a flow, where these frames had not been delivered by another statement before it
-- ended: it delivers them in order of place, up to its bound
abbrev pub deliveries : List ℕ → List lab.EventContent
deliveries left = map delivery (take most left)

-- the frames of these that an event does not deliver
abbrev pub left_after_event : EventKind → List ℕ → List ℕ
left_after_event (Deliver place) left = without place left
left_after_event (Submit node batch) left = left
left_after_event (Get node key at) left = left
left_after_event (Rows node range at) left = left
left_after_event (Open node at) left = left
left_after_event (Close node number) left = left
left_after_event (Notice node epoch) left = left
left_after_event (Tick node) left = left
left_after_event (Tend node) left = left
left_after_event (Start node) left = left
left_after_event (Stop node junk) left = left

-- the frames of these that a statement does not deliver
abbrev pub left_after : Action → List ℕ → List ℕ
left_after (Event event) left = left_after_event event.kind left
left_after (Invalid e) left = left
left_after Flow left = drop most left
left_after (Settle node) left = left
left_after (Show node) left = left

-- a flow that stops at its bound with frames left is told busy
abbrev pub busy : List ℕ → Note
busy [] = note.Nothing
busy (place ∷ places) = note.Busy

-- a node tends
abbrev pub tending : ℕ → lab.EventContent
tending node = faultless (Tend node)

-- the lines of a tend that worked
abbrev pub has_worked : List Line → Bool
has_worked (line.Tended tended.Worked ∷ []) = true
has_worked lines = false

-- tends of a node, up to the first that did not work, or to the bound
pub record HasSettled (steps : List (List Line)) : Type 0 where
  pub before : List (List Line)
  pub last : List Line
  pub all : steps ≡ before ++ last ∷ []
  pub each : All (λ step. has_worked step ≡ true) before
  pub few : length steps ≤ most
  pub bound : has_worked last ≡ true → length steps ≡ most

-- what is said of a node that is shown, which has numbers if it runs
abbrev pub shown : ℕ → Option Numbers → Note
shown node None = note.Down node
shown node (Some numbers) = note.Running node numbers

-- what a settle prints: the lines of its last tend, or busy where that worked
pub record ShowsLast (last : List Line) (silent count : ℕ) (said : Note) : Type 0 where
  pub first : silent ≡ (if has_worked last then count else count - 1)
  pub besides : said ≡ (if has_worked last then note.Busy else note.Nothing)

-- what a statement does, where these frames had not been delivered by another one before it ended:
-- the lines of its steps, its events, how many of these are silent, and what is said besides
abbrev pub IsResultOfAction : Action → List ℕ → List (List Line) → List lab.EventContent → ℕ → Note
    → Type 0
IsResultOfAction (Event event) left steps events silent said =
    (events ≡ event ∷ []) × (silent ≡ 0) × (said ≡ note.Nothing)
IsResultOfAction (Invalid e) left steps events silent said =
    (events ≡ []) × (silent ≡ 0) × (said ≡ note.Invalid e)
IsResultOfAction Flow left steps events silent said =
    (events ≡ deliveries left) × (silent ≡ 0) × (said ≡ busy (drop most left))
IsResultOfAction (Settle node) left steps events silent said =
    (events ≡ replicate (length steps) (tending node))
    × ((settled : HasSettled steps) × ShowsLast settled.last silent (length steps) said)
IsResultOfAction (Show node) left steps events silent said =
    (events ≡ []) × (silent ≡ 0)
    × ((numbers : Option Numbers) × (said ≡ shown node numbers))

-- a statement was run: its turn, its events, and the lines of each. So many frames had been sent,
-- and these of them not been delivered.
pub record IsResult (sent : ℕ) (left : List ℕ) (it : Statement) (turn : StatementResult)
    (events : List lab.EventContent) (steps : List (List Line)) : Type 0 where
  pub line : turn.line ≡ it.line
  pub count : turn.events ≡ length events
  pub each : length steps ≡ length events
  pub did : IsResultOfAction it.action (left ++ places_after sent (frames_in_steps steps)) steps
      events turn.silent turn.note

-- a stretch of a run: its events, what was chosen in each, and the lines of each
pub record Stretch : Type 0 where
  pub events : List lab.EventContent
  pub choices : List Choice
  pub steps : List (List Line)

-- a stretch of no event
abbrev pub no_stretch : Stretch
no_stretch = record { events = []; choices = []; steps = [] }

-- two stretches as one
abbrev pub followed_by : Stretch → Stretch → Stretch
followed_by first second = record {
  events = first.events ++ second.events;
  choices = first.choices ++ second.choices;
  steps = first.steps ++ second.steps;
}

-- .. of one event
abbrev pub one_step : lab.EventContent → Choice → List Line → Stretch
one_step event choice lines =
    record { events = event ∷ []; choices = choice ∷ []; steps = lines ∷ [] }

-- .. as a run at the nodes that were set up
abbrev pub run_of : Setup → Stretch → WorldRun
run_of setup past = record {
  configs = setup.configs;
  events = past.events;
  choices = past.choices;
  steps = past.steps;
}

module _ {D C : Type 0} {g : Ghosts D} where
  -- the world has run this far, at the nodes that were set up, with their limits
  pub record HasRunTo (h : Carriers C) (world : World D C g) (setup : Setup) (past : Stretch)
      : Type 0 where
    pub run : HasRun h world (run_of setup past)
    pub limits : WorldHasLimits world setup.limits

  -- what is shown of a node are its numbers after all that happened, and how many tables its store
  -- has in this world
  abbrev pub HasShownNumbers : World D C g → Configurations → Stretch → Note → Type 0
  HasShownNumbers world cs past note.Nothing = Unit {0}
  HasShownNumbers world cs past (note.Invalid e) = Unit {0}
  HasShownNumbers world cs past note.Busy = Unit {0}
  HasShownNumbers world cs past (note.Running node numbers) =
      AreNumbersOf cs past.events past.choices node (Some numbers)
      × ShowsNumbers world.nodes.items node numbers
  HasShownNumbers world cs past (note.Down node) =
      AreNumbersOf cs past.events past.choices node None

  -- a statement was run behind what had happened: the world and the frames that are left are those
  -- behind its events
  pub record HasTurned (h : Carriers C) (setup : Setup) (past : Stretch) (it : Statement)
      (turn : StatementResult) (old new : World D C g) (old_left new_left : List ℕ) : Type 0 where
    pub own : Stretch
    pub did : IsResult (frames_in_steps past.steps) old_left it turn own.events own.steps
    pub shown : HasShownNumbers old setup.configs past turn.note
    pub run : HasRunTo h new setup (followed_by past own)
    pub left : new_left ≡ left_after it.action (old_left
        ++ places_after (frames_in_steps past.steps) (frames_in_steps own.steps))

-- what is shown of a node is so in a world that has run this far
pub record HasShown {D C : Type 0} (g : Ghosts D) (h : Carriers C) (setup : Setup) (past : Stretch)
    (said : Note) : Type 0 where
  pub world : World D C g
  pub run : HasRunTo h world setup past
  pub numbers : HasShownNumbers world setup.configs past said

-- statements were run, one after another, behind what had happened; something was chosen in each
-- event
abbrev pub AreResults : {D C : Type 0} → Ghosts D → Carriers C → Setup → Stretch → List ℕ
    → List Statement → List StatementResult → Stretch → Type 0
AreResults g h setup past left [] turns all = (turns ≡ []) × (all ≡ no_stretch)
AreResults g h setup past left (it ∷ statements) turns all =
    (turn : StatementResult) × (own : Stretch)
    × (turns_behind : List StatementResult) × (behind : Stretch)
    × IsResult (frames_in_steps past.steps) left it turn own.events own.steps
    × (length own.choices ≡ length own.events) × HasShown g h setup past turn.note
    × (turns ≡ turn ∷ turns_behind) × (all ≡ followed_by own behind)
    × AreResults g h setup (followed_by past own) (left_after it.action
    (left ++ places_after (frames_in_steps past.steps) (frames_in_steps own.steps)))
    statements turns_behind behind
