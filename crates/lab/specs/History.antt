-- The headline: one list of batches of which clients see beginnings, and which the disks hold.
use Rattle.std.specs.Prelude.{◌≡◌, ◌≢◌, ◌⊎◌, ℕ, ◌<◌, ◌≤◌, List, length, take, Some, None, true}
use Rattle.std.specs.Prelude.{All}
use Rattle.std.specs.List.{AllPairs, AllZip}
use Rattle.kv_types.specs.declared.mark.Mark.{Mark}
use Rattle.kv_types.specs.{BatchContent, IsPrefix, has, map_of, place}
use Rattle.kv_types.specs.Pages.{IsPage}
use Rattle.disk.specs.{State, Contents, IsCrashOutcome}
use Rattle.configurations.specs.{Configurations, last_of}
use Rattle.chain_model.specs.{HasMarksOnce, batches}
use Rattle.node.specs.{DiskRepresents}
use Rattle.node.specs.declared.Reply.TheVariants as reply
use Rattle.events.specs.declared.EventContent.{EventContent}
use Rattle.events.specs.declared.EventKind.{EventKind}
use Rattle.events.specs.declared.EventKind.TheVariants as kind
use Rattle.lab.specs.declared.report.Line.{Line}
use Rattle.lab.specs.declared.report.Line.TheVariants as line
use Rattle.lab.specs.declared.report.NodeReport.{NodeReport}
use Rattle.lab.specs.declared.report.Report.{Report}
use Rattle.lab.specs.SimNodes.{state}

-- ---- what clients see

-- a batch with the place of its event, the first place being 1
abbrev pub Placed : Type 0
Placed = ℕ × BatchContent

-- the event at this place submits the batch
abbrev pub IsSubmitted : List EventContent → Placed → Type 0
IsSubmitted events placed =
    (node : ℕ) × (event : EventContent) × (place events placed.0 ≡ Some event)
    × (event.kind ≡ kind.Submit node placed.1)

-- Event i submits again the batch of this earlier place: its own batch bears the same mark.
pub record IsRepeatOf (events : List EventContent) (i : ℕ) (placed : Placed) : Type 0 where
  pub earlier : placed.0 < i
  pub mark : Mark
  pub bears : placed.1.mark ≡ Some mark
  pub batch : BatchContent
  pub submits : IsSubmitted events (i, batch)
  pub same : batch.mark ≡ Some mark

-- An acknowledgement of n to request i says that place n of B is the batch of event i, or the
-- earlier batch that event i submits again, by its mark. A read at s shows what its key has in the
-- map of B's first s batches, or the page of its range in this map. A refusal of request i says
-- that B has no batch of event i. No other line speaks of B.
abbrev pub LineAgrees : List EventContent → List Placed → EventKind → Line → Type 0
LineAgrees events B asked (line.Replied (reply.Committed i n)) =
    (placed : Placed) × (place B n ≡ Some placed)
    × ((placed.0 ≡ i) ⊎ IsRepeatOf events i placed)
LineAgrees events B asked (line.Replied (reply.Refused i why)) = All (λ placed. placed.0 ≢ i) B
LineAgrees events B (kind.Get node key at) (line.Replied (reply.Value i s value)) =
    (s ≤ length B) × (value ≡ map_of (take s (batches B)) key)
LineAgrees events B (kind.Rows node range at) (line.Replied (reply.Rows i s page)) =
    (s ≤ length B) × IsPage (map_of (take s (batches B))) range page
LineAgrees events B asked (line.Replied (reply.Value i s value)) = ⊥
LineAgrees events B asked (line.Replied (reply.Rows i s page)) = ⊥
LineAgrees events B asked other = Unit {0}

-- the mark is used for one batch only: submitted batches that bear it are equal
abbrev pub MarksOneBatch : List EventContent → Mark → Type 0
MarksOneBatch events mark = (a b : Placed) → IsSubmitted events a → IsSubmitted events b
    → a.1.mark ≡ Some mark → b.1.mark ≡ Some mark → a.1 ≡ b.1

-- An acknowledgement of n to request i says that place n of B has a batch with the mark of the
-- submitted one. Without a mark it is that very batch, and with a mark one that is equal to it, if
-- the mark is used for one batch only. No other line speaks of marks.
abbrev pub LineNamesBatch : List EventContent → List Placed → Line → Type 0
LineNamesBatch events B (line.Replied (reply.Committed i n)) =
    (batch : BatchContent) → IsSubmitted events (i, batch)
    → (placed : Placed) × (place B n ≡ Some placed) × (placed.1.mark ≡ batch.mark)
    × (batch.mark ≡ None → placed ≡ (i, batch))
    × ((mark : Mark) → batch.mark ≡ Some mark → MarksOneBatch events mark → placed.1 ≡ batch)
LineNamesBatch events B other = Unit {0}

-- The list B is a history of what clients see of these events, by the lines of each.
pub record ClientHistory (events : List EventContent) (steps : List (List Line)) (B : List Placed)
    : Type 0 where
  -- its batches were submitted ..
  pub submitted : All (IsSubmitted events) B
  -- .. and stand in the order of their submits, none twice
  pub ordered : AllPairs (λ a b. a.0 < b.0) B
  -- every read, acknowledgement and refusal agrees with it
  pub agrees : AllZip (λ event lines. All (LineAgrees events B event.kind) lines) events steps
  -- A batch that is submitted again, by its mark, is in it once: no two batches bear one mark ..
  pub once : HasMarksOnce B
  -- .. and each acknowledgement, first or repeated, is of the batch that bears the mark
  pub named : All (λ lines. All (LineNamesBatch events B) lines) steps

-- ---- what the disks hold

-- whatever a crash leaves of node x's disk represents the node with a list that begins with B
abbrev pub HasAll : List Placed → ℕ → State → Type 0
HasAll B x disk = (left : Contents) → IsCrashOutcome disk left →
    (epoch : ℕ) × (ids : List ℕ) × (list : List BatchContent) × (floor : ℕ) × (kept : ℕ)
    × DiskRepresents left x epoch ids list floor kept × IsPrefix (batches B) list

-- every node of the last configuration has B on its disk
abbrev pub DisksHold : {D N : Type 0} → (D → State) → (N → ℕ) → (N → D) → Configurations → List N
    → List Placed → Type 0
DisksHold state id disk cs nodes B =
    All (λ node. has (last_of cs) (id node) ≡ true → HasAll B (id node) (state (disk node))) nodes

-- ---- both, of one list

-- There is one list B: clients see it, and the disks hold it.
pub record IsHistory {D N : Type 0} (state : D → State) (id : N → ℕ) (disk : N → D)
    (cs : Configurations) (events : List EventContent) (steps : List (List Line)) (nodes : List N)
    : Type 0 where
  pub B : List Placed
  pub clients : ClientHistory events steps B
  pub disks : DisksHold state id disk cs nodes B

-- .. for a report
abbrev pub OneHistory : Configurations → List EventContent → Report → Type 0
OneHistory cs events report = IsHistory state (λ (node : NodeReport). node.id)
    (λ (node : NodeReport). node.disk) cs events report.steps.items report.nodes.items
