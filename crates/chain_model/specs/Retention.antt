-- Trimming of logs keeps every batch that may still be needed. Definitions without a source are
-- this store's profile.
use Rattle.std.specs.Prelude.{◌≡◌, ℕ, ◌≤◌, List, [], ◌∷◌, length, true, false, IsTrue}
use Rattle.configurations.specs.{Configurations, is_tail, at_epoch}
use Rattle.kv_types.specs.{has}
use Rattle.kv_types.specs.Snapshots.{least}
use Rattle.chain_model.specs.Machine.{MachineState}
use Rattle.chain_model.specs.Rules.{is_prior}
use Rattle.chain_model.specs.System.{SystemEvent, node_of}

-- these pending requests are in turn behind p: in order of number, and those of one number in order
-- of request
abbrev pub AreInTurnFrom : ℕ × ℕ → List (ℕ × ℕ) → Type 0
AreInTurnFrom p [] = Unit {0}
AreInTurnFrom p (q ∷ rest) = IsTrue (is_prior p q) × AreInTurnFrom q rest

-- the order of a node's numbers
pub record IsOrdered {A : Type 0} (n : MachineState A) : Type 0 where
  pub kept : n.kept ≤ n.floor
  pub floor : n.floor ≤ n.committed
  pub committed : n.committed ≤ length n.list
  -- the floor is at most the number that it may rise to, so it never falls
  pub readable : n.floor ≤ least n.committed n.snapshots
  -- requests are pending in order of number from 1 on, and those of one number in order of request,
  -- so they are replied to in that order
  pub pending : AreInTurnFrom (1, 0) n.pending

-- Every node that a node's epoch keeps has the batches that this node has trimmed. The node knows
-- so of its successor (van Renesse and Schneider 2004, section 3; floor and kept number are this
-- store's profile).
pub record KeepsEnough {A : Type 0} (cs : Configurations) (events : List (SystemEvent A)) : Type 0
  where
    pub others : (x y : ℕ) → has (at_epoch cs (node_of cs events x).epoch) y ≡ true
        → (node_of cs events x).kept ≤ length (node_of cs events y).list
    pub resend : (x : ℕ) → (node_of cs events x).running ≡ true
        → is_tail (node_of cs events x).ids x ≡ false
        → (node_of cs events x).kept ≤ (node_of cs events x).successor_has
    pub ordered : (x : ℕ) → IsOrdered (node_of cs events x)
