-- The requests of clients, and the replies of nodes.
use Rattle.std.specs.Prelude.{ℕ, List, Option}
use Rattle.kv_types.specs.{Marked}
use Rattle.chain_model.specs.declared.refusal.Refusal.{Refusal}

-- an update and queries (van Renesse and Schneider 2004, section 2; snapshots and the numbers of
-- reads are this store's profile)
pub data Request (A : Type 0) : Type 0 where
  Submit : (batch : Marked A) → Request A
  -- a read of a key or of rows, at this number or at the committed number
  Read : (at : Option ℕ) → Request A
  Open : (at : Option ℕ) → Request A
  Close : (number : ℕ) → Request A

-- Replies, each to the request of a number (van Renesse and Schneider 2004, section 2; Opened,
-- Closed and Refused are this store's profile). A read returns a function of the batches up to its
-- number.
pub data Response (A : Type 0) : Type 0 where
  Committed : (request number : ℕ) → Response A
  Shows : (request number : ℕ) → (batches : List (Marked A)) → Response A
  Opened : (request number : ℕ) → Response A
  Closed : (request number : ℕ) → Response A
  Refused : (request : ℕ) → (why : Refusal) → Response A
