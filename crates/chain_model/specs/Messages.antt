-- The frames between nodes. The type A is that of a batch's content: its edits, or its edits with
-- its event's place. Definitions without a source are this store's profile.
use Rattle.kv_types.specs.{Marked}
use Rattle.std.specs.Prelude.{ℕ}

-- A Forward has a batch for the successor (van Renesse and Schneider 2004, section 3, the update
-- that is passed on). An Ack reports to the predecessor how many batches the sender knows to be
-- committed, and how many it has (there, the acknowledgement). The epoch and the numbers are this
-- store's profile.
pub data Message (A : Type 0) : Type 0 where
  Forward : (to epoch from number : ℕ) → (batch : Marked A) → Message A
  Ack : (to epoch from committed have : ℕ) → Message A

-- the node that the frame is addressed to
abbrev pub addressee : {A : Type 0} → Message A → ℕ
addressee (Forward to epoch from number batch) = to
addressee (Ack to epoch from committed have) = to

-- the sender's epoch when it sent the frame
abbrev pub epoch_of : {A : Type 0} → Message A → ℕ
epoch_of (Forward to epoch from number batch) = epoch
epoch_of (Ack to epoch from committed have) = epoch
