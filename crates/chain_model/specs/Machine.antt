-- The state of one node, and the answer of a step. Definitions without a source are this store's
-- profile.
use Rattle.std.specs.Prelude.{ℕ, List, [], ◌∷◌, length, Option, Some, None, Bool, true, false}
use Rattle.std.specs.Prelude.{if◌then◌else◌, nat_le}
use Rattle.kv_types.specs.{Marked}
use Rattle.configurations.specs.{is_tail}
use Rattle.chain_model.specs.declared.refusal.Refusal.{Refusal}
use Rattle.chain_model.specs.declared.drop_reason.DropReason.{DropReason}
use Rattle.chain_model.specs.Messages.{Message}
use Rattle.chain_model.specs.Requests.{Response, Committed, Refused}

-- A node: its history, the updates sent on and not known to be at every node, and its place in the
-- chain (van Renesse and Schneider 2004, section 3; the numbers are this store's profile).
pub record MachineState (A : Type 0) : Type 0 where
  -- every batch that it has accepted or appended
  pub list : List (Marked A)
  -- the newest epoch that was reported to it, and the configuration of that epoch
  pub epoch : ℕ
  pub ids : List ℕ
  -- the number of batches that it knows every node of that configuration to have
  pub committed : ℕ
  -- the least number at which it can be read
  pub floor : ℕ
  -- the number of batches trimmed from the front of its logs, which it cannot send again
  pub kept : ℕ
  -- the number of batches that it knows its successor to have
  pub successor_has : ℕ
  -- the numbers of its open snapshots
  pub snapshots : List ℕ
  -- the pending requests, each with the number of its batch
  pub pending : List (ℕ × ℕ)
  pub running : Bool

-- The answer of a step: the node after it, its frames and replies, and the reason of a drop, if the
-- input was dropped.
pub record Answer (A : Type 0) : Type 0 where
  pub node : MachineState A
  pub frames : List (Message A)
  pub replies : List (Response A)
  pub dropped : Option DropReason

-- nothing is sent or replied
abbrev pub silent : {A : Type 0} → MachineState A → Answer A
silent n = record { node = n; frames = []; replies = []; dropped = None }

-- the input is dropped
abbrev pub dropped_for : {A : Type 0} → MachineState A → DropReason → Answer A
dropped_for n reason = record { node = n; frames = []; replies = []; dropped = Some reason }

-- a request is refused
abbrev pub refused : {A : Type 0} → MachineState A → ℕ → Refusal → Answer A
refused n i why = record { node = n; frames = []; replies = Refused i why ∷ []; dropped = None }

-- a request is answered with this reply
abbrev pub replied : {A : Type 0} → MachineState A → Response A → Answer A
replied n reply = record { node = n; frames = []; replies = reply ∷ []; dropped = None }

-- the replies to pending requests of the numbers up to k, in order
abbrev pub due : {A : Type 0} → ℕ → List (ℕ × ℕ) → List (Response A)
due k [] = []
due k (p ∷ ps) = if nat_le p.0 k then Committed p.1 p.0 ∷ due k ps else due k ps

-- the pending requests of greater numbers
abbrev pub not_due : ℕ → List (ℕ × ℕ) → List (ℕ × ℕ)
not_due k [] = []
not_due k (p ∷ ps) = if nat_le p.0 k then not_due k ps else p ∷ not_due k ps

-- a node at its creation, with configuration 0
abbrev pub created : {A : Type 0} → List ℕ → MachineState A
created ids = record {
  list = [];
  epoch = 0;
  ids = ids;
  committed = 0;
  floor = 0;
  kept = 0;
  successor_has = 0;
  snapshots = [];
  pending = [];
  running = true;
}

-- A node that does not run. Its list, epoch, configuration, floor and kept number are persistent; a
-- start overwrites the rest.
abbrev pub stopped : {A : Type 0} → MachineState A → MachineState A
stopped n = record n { running = false }

-- The number of batches that a node knows as committed when it starts: for a tail its list's
-- length, for others the floor.
abbrev pub committed_at_start : {A : Type 0} → ℕ → MachineState A → ℕ
committed_at_start x n = if is_tail n.ids x then length n.list else n.floor

-- node x after a start
abbrev pub started : {A : Type 0} → ℕ → MachineState A → MachineState A
started x n = record n {
  committed = committed_at_start x n;
  successor_has = committed_at_start x n;
  snapshots = [];
  pending = [];
  running = true;
}
