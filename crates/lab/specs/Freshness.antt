-- Fresh reads: what the last configuration's tail shows, beside all lines before it.
use Rattle.std.specs.Prelude.{◌≡◌, ◌⊎◌, ℕ, suc, ◌≤◌, List, [], ◌∷◌, ◌++◌, length, take, None}
use Rattle.std.specs.Prelude.{true, All}
use Rattle.kv_types.specs.{Edits, Span}
use Rattle.configurations.specs.{Configurations, is_tail, last_of}
use Rattle.chain_model.specs as model
use Rattle.chain_model.specs.Freshness.{ReadsFresh}
use Rattle.chain_model.specs.Retention.{KeepsEnough}
use Rattle.node.specs.declared.Reply.{Reply}
use Rattle.node.specs.declared.Reply.TheVariants.{Committed, Value, Opened}
use Rattle.node.specs.declared.Reply.TheVariants as reply
use Rattle.events.specs.declared.EventContent.{EventContent}
use Rattle.events.specs.declared.EventKind.{EventKind}
use Rattle.events.specs.declared.EventKind.TheVariants.{Get, Rows}
use Rattle.lab.specs.declared.report.Line.{Line}
use Rattle.lab.specs.declared.report.Line.TheVariants as line
use Rattle.lab.specs.Events.{modelled}
use Rattle.lab.specs.SimNodes.{Choice}
use Rattle.lab.specs.Traces.{modelled_from}

-- the number that a reply acknowledges, reads at or opens is at most s
abbrev pub ReplyIsAtMost : ℕ → Reply → Type 0
ReplyIsAtMost s (Committed i n) = n ≤ s
ReplyIsAtMost s (Value i n value) = n ≤ s
ReplyIsAtMost s (reply.Rows i n page) = n ≤ s
ReplyIsAtMost s (Opened i n) = n ≤ s
ReplyIsAtMost s other = Unit {0}

-- a line that acknowledges a number, shows a value or a page at one, or opens a snapshot at one,
-- has one that is at most s
abbrev pub LineIsAtMost : ℕ → Line → Type 0
LineIsAtMost s (line.Replied answer) = ReplyIsAtMost s answer
LineIsAtMost s other = Unit {0}

-- no line of these events has a greater number than s
abbrev pub AreAtMost : ℕ → List (List Line) → Type 0
AreAtMost s steps = All (λ lines. All (LineIsAtMost s) lines) steps

-- where a reply shows a value or a page, no earlier line has a greater number
abbrev pub ReplyIsFresh : List (List Line) → Reply → Type 0
ReplyIsFresh earlier (Value i s value) = AreAtMost s earlier
ReplyIsFresh earlier (reply.Rows i s page) = AreAtMost s earlier
ReplyIsFresh earlier other = Unit {0}

-- a line of a reply is fresh after these lines
abbrev pub LineIsFresh : List (List Line) → Line → Type 0
LineIsFresh earlier (line.Replied answer) = ReplyIsFresh earlier answer
LineIsFresh earlier other = Unit {0}

-- the event reads a key or a range at node t, without a number
abbrev pub ReadsLatest : EventKind → ℕ → Type 0
ReadsLatest kind t =
    ((key : List ℕ) × (kind ≡ Get t key None)) ⊎ ((range : Span) × (kind ≡ Rows t range None))

-- In this state of the model an event reads without a number at node t, which is the tail of the
-- last configuration, and its machine is at that epoch.
pub record IsTailRead (cs : Configurations) (w : model.SystemState Edits) (kind : EventKind)
    (t : ℕ) : Type 0 where
  pub reads : ReadsLatest kind t
  pub tail : is_tail (last_of cs) t ≡ true
  pub epoch : suc (w.nodes t).epoch ≡ length cs

-- The values and pages that such reads show are fresh: those of the events from place i on, which
-- have these lines, behind the lines of the events before.
abbrev pub AreFresh : Configurations → ℕ → List EventContent → List Choice
    → model.SystemState Edits
    → (earlier steps : List (List Line)) → Type 0
AreFresh cs i [] choices w earlier steps = Unit {0}
AreFresh cs i (event ∷ events) [] w earlier steps = ⊥
AreFresh cs i (event ∷ events) (choice ∷ choices) w earlier [] = ⊥
AreFresh cs i (event ∷ events) (choice ∷ choices) w earlier (lines ∷ steps) =
    ((t : ℕ) → IsTailRead cs w event.kind t → All (LineIsFresh earlier) lines)
    × AreFresh cs (suc i) events choices (model.state_after cs w (modelled i event.kind choice))
    (earlier ++ lines ∷ []) steps

-- Reads at the last tail are fresh. Behind each event its machine, while it runs, shows its whole
-- list to such a read, and every number that was acknowledged or read is of that list. So no
-- earlier line has a greater number than the value that it shows.
pub record ReadsAreFresh (cs : Configurations) (events : List EventContent) (choices : List Choice)
    (steps : List (List Line)) : Type 0 where
  pub machines : (k : ℕ) → ReadsFresh cs (modelled_from 1 (take k events) choices)
  pub lines : AreFresh cs 1 events choices (model.first_state cs) [] steps

-- Behind each event no node has given up a batch that another one of its configuration may lack.
abbrev pub NodesKeepEnough : Configurations → List EventContent → List Choice → Type 0
NodesKeepEnough cs events choices = (k : ℕ)
    → KeepsEnough cs (modelled_from 1 (take k events) choices)
