-- The numbers of a node without its batches, and the machine of the chain's model with them.
use Rattle.std.specs.Prelude.{◌≡◌, ◌≤◌, ℕ, List, [], ◌∷◌, length, map, true, false, All}
use Rattle.std.specs.Prelude.{if◌then◌else◌, IsTrue}
use Rattle.kv_types.specs.{Edits}
use Rattle.configurations.specs.{is_tail}
use Rattle.chain_model.specs.{Response, Committed}
use Rattle.chain_model.specs as model
use Rattle.chain_model.specs.Rules.{is_prior}
use Rattle.chain_core.specs.declared.pending_submit.PendingSubmit.{PendingSubmit}
use Rattle.chain_core.specs.declared.persistent_state.PersistentState.{PersistentState}

-- the machine of a node whose batches are lists of edits
abbrev pub Machine : Type 0
Machine = model.MachineState Edits

-- the state of a node besides its batches
pub record Core : Type 0 where
  pub id : ℕ
  pub epoch : ℕ
  pub ids : List ℕ
  pub count : ℕ
  pub committed : ℕ
  pub floor : ℕ
  pub kept : ℕ
  pub successor_has : ℕ
  pub snapshots : List ℕ
  pub pending : List PendingSubmit

-- a pending request as the model has it
abbrev pub asked : PendingSubmit → ℕ × ℕ
asked it = (it.number, it.request)

-- pending requests as the model has them
abbrev pub waiting : List PendingSubmit → List (ℕ × ℕ)
waiting pending = map asked pending

-- a running machine has these numbers
pub record CoreRefines (core : Core) (n : Machine) : Type 0 where
  pub epoch : n.epoch ≡ core.epoch
  pub ids : n.ids ≡ core.ids
  pub count : length n.list ≡ core.count
  pub committed : n.committed ≡ core.committed
  pub floor : n.floor ≡ core.floor
  pub kept : n.kept ≡ core.kept
  pub successor_has : n.successor_has ≡ core.successor_has
  pub snapshots : n.snapshots ≡ core.snapshots
  pub pending : n.pending ≡ waiting core.pending
  pub running : n.running ≡ true

-- a stopped machine has these numbers, which are persistent
pub record PersistentRefines (rest : PersistentState) (n : Machine) : Type 0 where
  pub epoch : n.epoch ≡ rest.epoch
  pub ids : n.ids ≡ rest.config
  pub count : length n.list ≡ rest.count
  pub floor : n.floor ≡ rest.floor
  pub kept : n.kept ≡ rest.kept

-- The state of a node that has just begun: at a tail all its batches are committed, and else those
-- up to its floor. Its successor is known to have these. No snapshot is open, and no request is
-- pending.
pub record IsAtStart (core : Core) : Type 0 where
  pub committed : core.committed ≡ (if is_tail core.ids core.id then core.count else core.floor)
  pub successor_has : core.successor_has ≡ core.committed
  pub snapshots : core.snapshots ≡ []
  pub pending : core.pending ≡ []

-- the state of a node that has just begun with these persistent numbers
pub record IsStartOf (rest : PersistentState) (core : Core) : Type 0 where
  pub id : core.id ≡ rest.id
  pub epoch : core.epoch ≡ rest.epoch
  pub ids : core.ids ≡ rest.config
  pub count : core.count ≡ rest.count
  pub floor : core.floor ≡ rest.floor
  pub kept : core.kept ≡ rest.kept
  pub begins : IsAtStart core

-- the requests are in order of number, and those of one number in order of request: each goes
-- behind the one before, the first behind this one, and no number is greater than the bound
abbrev pub IsInOrder : (before : ℕ × ℕ) → (most : ℕ) → List PendingSubmit → Type 0
IsInOrder before most [] = Unit {0}
IsInOrder before most (it ∷ rest) =
    IsTrue (is_prior before (asked it)) × (it.number ≤ most) × IsInOrder (asked it) most rest

-- each snapshot is at a number from the floor to the committed number, and at most 64 are open
pub record AreSnapshots (floor committed : ℕ) (snapshots : List ℕ) : Type 0 where
  pub within : All (λ s. (floor ≤ s) × (s ≤ committed)) snapshots
  pub few : length snapshots ≤ 64

-- the order of a node's numbers, with pending requests in order of number from 1 on
pub record HasOrderedNumbers (core : Core) : Type 0 where
  pub kept : core.kept ≤ core.floor
  pub floor : core.floor ≤ core.committed
  pub committed : core.committed ≤ core.count
  -- the successor has every batch that the node knows to be committed; a tail has no successor
  pub successor_has : is_tail core.ids core.id ≡ false → core.committed ≤ core.successor_has
  pub sent : core.successor_has ≤ core.count
  pub pending : IsInOrder (1, 0) core.count core.pending
  pub snapshots : AreSnapshots core.floor core.committed core.snapshots

-- each request is acknowledged: its batch is committed
abbrev pub committed_responses : List PendingSubmit → List (Response Edits)
committed_responses due = map (λ it. Committed it.request it.number) due
