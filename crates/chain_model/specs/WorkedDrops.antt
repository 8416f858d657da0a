-- Worked drops: the inputs that the first node of a new chain of two drops or refuses, with the
-- first reason that applies. Batches are numbers here. Definitions without a source are this
-- store's profile.
use Rattle.std.specs.Prelude.{◌≡◌, ℕ, zero, suc, List, [], ◌∷◌, Some}
use Rattle.kv_types.specs.{unmarked}
use Rattle.chain_model.specs.declared.drop_reason.DropReason.TheVariants as reason
use Rattle.chain_model.specs.declared.refusal.Refusal.TheVariants as refusal
use Rattle.chain_model.specs.Messages.{Forward, Ack}
use Rattle.chain_model.specs.Machine.{MachineState, created, dropped_for, refused}
use Rattle.chain_model.specs.Rules.{receive, submit, read, open_snapshot, close_snapshot, notice}
use Rattle.chain_model.specs.Rules.{not_for_nodes, unreadable}

-- node 1 of the chain of nodes 1 and 2 at its creation
abbrev pub first : MachineState ℕ
first = created (1 ∷ 2 ∷ [])

-- a node whose floor is above its committed number, which no run reaches
abbrev pub floor_above : MachineState ℕ
floor_above = record first { floor = 2 }

-- so many snapshots at number 0
abbrev pub zeros : ℕ → List ℕ
zeros zero = []
zeros (suc more) = 0 ∷ zeros more

-- a node that has as many snapshots open as it may have
abbrev pub all_open : MachineState ℕ
all_open = record floor_above { snapshots = zeros 64 }

-- The node's drops and refusals, with their reasons. Its configuration lacks node 9.
pub record WorkedDrops : Type 0 where
  -- the reported length is greater than that of any list that was sent
  pub too_much : receive 1 first (Ack 1 0 2 1 1) ≡ dropped_for first reason.BadAck
  -- the reported committed number is greater than the reported length
  pub too_early : receive 1 first (Ack 1 0 2 1 0) ≡ dropped_for first reason.BadAck
  pub stranger_tells : receive 1 first (Ack 1 0 3 0 0) ≡ dropped_for first reason.NotSuccessor
  pub stranger_sends : receive 1 first (Forward 1 0 2 1 (unmarked 7))
      ≡ dropped_for first reason.NotPredecessor
  pub later_epoch : receive 1 first (Ack 1 1 2 0 0) ≡ dropped_for first reason.OtherEpoch
  pub nobody_left_out : notice 1 first 1 (1 ∷ 2 ∷ []) ≡ dropped_for first reason.BadNotice
  pub node_added : notice 1 first 1 (1 ∷ 3 ∷ []) ≡ dropped_for first reason.BadNotice
  pub not_newer : notice 1 first 0 (1 ∷ []) ≡ dropped_for first reason.OldNotice
  pub reply_to_a_client : not_for_nodes first ≡ dropped_for first reason.NotForNodes
  pub no_frame : unreadable first ≡ dropped_for first reason.Unreadable
  -- two reasons apply, and the answer has the one that is tested first
  pub old_and_bad : notice 1 first 0 (1 ∷ 3 ∷ []) ≡ dropped_for first reason.OldNotice
  pub removed_and_no_head : submit 9 first 5 (unmarked 7) ≡ refused first 5 refusal.Removed
  pub removed_and_later_epoch : receive 9 first (Ack 9 1 2 0 0) ≡ dropped_for first reason.Removed
  pub later_epoch_of_stranger : receive 1 first (Ack 1 1 3 0 0)
      ≡ dropped_for first reason.OtherEpoch
  pub stranger_with_bad_ack : receive 1 first (Ack 1 0 3 1 1)
      ≡ dropped_for first reason.NotSuccessor
  pub too_old_and_too_new : read 1 floor_above 5 (Some 1) ≡ refused floor_above 5 refusal.TooOld
  pub too_old_and_too_many : open_snapshot 1 all_open 5 (Some 1)
      ≡ refused all_open 5 refusal.TooOld
  pub too_new_and_too_many : open_snapshot 1 all_open 5 (Some 2)
      ≡ refused all_open 5 refusal.NotCommitted
  pub removed_and_too_many : open_snapshot 9 all_open 5 (Some 2)
      ≡ refused all_open 5 refusal.Removed
  pub removed_and_not_open : close_snapshot 9 first 5 3 ≡ refused first 5 refusal.Removed
