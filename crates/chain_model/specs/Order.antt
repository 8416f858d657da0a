-- The order of lists along the chain, and the truth of frames. Definitions without a source are
-- this store's profile.
use Rattle.std.specs.Prelude.{◌≡◌, ◌⊎◌, ℕ, ◌<◌, ◌≤◌, List, ◌++◌, length, take, Some, true, All}
use Rattle.kv_types.specs.declared.mark.Mark.{Mark}
use Rattle.kv_types.specs.{IsPrefix, Marked, Part, place, has}
use Rattle.configurations.specs.{Configurations, is_tail, at_epoch}
use Rattle.configurations.specs.NodeLists.{leaves_out, IsBeforeIn}
use Rattle.chain_model.specs.Messages.{Message, Forward, Ack, addressee, epoch_of}
use Rattle.chain_model.specs.System.{SystemEvent, reached, node_of}
use Rattle.chain_model.specs.Headline.{submitted, batches}

-- l is committed by epoch e: while the tail of e was at e, its list began with l (van Renesse and
-- Schneider 2004, section 3; epochs are this store's profile)
pub record WasCommitted {A : Type 0} (cs : Configurations) (events : List (SystemEvent A)) (e : ℕ)
    (l : List (Marked A)) : Type 0 where
  pub before : List (SystemEvent A)
  pub later : List (SystemEvent A)
  pub whole : before ++ later ≡ events
  pub tail : ℕ
  pub is : is_tail (at_epoch cs e) tail ≡ true
  pub epoch : (node_of cs before tail).epoch ≡ e
  pub begins : IsPrefix l (node_of cs before tail).list

-- epoch e or an earlier one committed l
abbrev pub CommittedBy : {A : Type 0} → Configurations → List (SystemEvent A) → ℕ → List (Marked A)
    → Type 0
CommittedBy cs events e l = (earlier : ℕ) × ((earlier ≤ e) × WasCommitted cs events earlier l)

-- z is node `from`, or precedes it in configuration 0 and is kept by epoch e
abbrev pub IsUpTo : Configurations → (e from z : ℕ) → Type 0
IsUpTo cs e from z = (z ≡ from) ⊎
    (IsBeforeIn (at_epoch cs 0) z from × (has (at_epoch cs e) z ≡ true))

-- The Forward's batch is at its number in the list of its sender, and of every node before the
-- sender that the frame's epoch keeps (van Renesse and Schneider 2004, section 3).
abbrev pub ForwardIsTrue : {A : Type 0} → Configurations → (ℕ → List (Marked A)) → Message A
    → Type 0
ForwardIsTrue cs lists (Forward to e from number batch) =
    (z : ℕ) → IsUpTo cs e from z → place (lists z) number ≡ Some batch
ForwardIsTrue cs lists (Ack to e from committed have) = Unit {0}

-- the Ack has the length of a list that its epoch or an earlier one committed (van Renesse and
-- Schneider 2004, section 3)
abbrev pub AckIsTrue : {A : Type 0} → Configurations → List (SystemEvent A) → Message A → Type 0
AckIsTrue cs events (Ack to e from committed have) =
    (l : List _) × ((length l ≡ committed) × CommittedBy cs events e l)
AckIsTrue cs events (Forward to e from number batch) = Unit {0}

-- l is a sublist of the submitted batches: their places rise along it
abbrev pub IsInSubmittedOrder : {A : Type 0} → List (SystemEvent A) → List (Marked A) → Type 0
IsInSubmittedOrder events l =
    (placed : List (ℕ × _)) × (Part placed (submitted 1 events) × (batches placed ≡ l))

-- the requests of a client's marks rise along the list
abbrev pub MarksRise : {A : Type 0} → List (Marked A) → Type 0
MarksRise {A = A} list =
    (j k : ℕ) (a b : Marked A) (m n : Mark) → place list j ≡ Some a → place list k ≡ Some b
    → a.mark ≡ Some m → b.mark ≡ Some n → m.client ≡ n.client → j < k → m.request < n.request

-- The invariant of every run (van Renesse and Schneider 2004, section 3, over removals that not
-- every node knows of, which is this store's profile).
pub record InOrder {A : Type 0} (cs : Configurations) (events : List (SystemEvent A)) : Type 0 where
  -- if y's epoch keeps x, which preceded y, the list of x begins with that of y
  pub lists : (x y : ℕ) → IsBeforeIn (at_epoch cs 0) x y
      → has (at_epoch cs (node_of cs events y).epoch) x ≡ true
      → IsPrefix (node_of cs events y).list (node_of cs events x).list
  -- each frame is addressed to a node of its epoch
  pub addressed : All (λ f. has (at_epoch cs (epoch_of f)) (addressee f) ≡ true)
      (reached cs events).frames
  -- each frame is addressed to a node of configuration 0, which is created
  pub created : All (λ f. has (at_epoch cs 0) (addressee f) ≡ true) (reached cs events).frames
  pub forwards : All (ForwardIsTrue cs (λ z. (node_of cs events z).list)) (reached cs events).frames
  pub acks : All (AckIsTrue cs events) (reached cs events).frames
  -- a list that an epoch committed begins the list of every node that the epoch keeps
  pub stays : (e : ℕ) (l : List (Marked A)) → WasCommitted cs events e l
      → (y : ℕ) → has (at_epoch cs e) y ≡ true → IsPrefix l (node_of cs events y).list
  -- The batches that a node knows as committed were committed by an epoch that keeps the node. That
  -- epoch is its own or an earlier one.
  pub known : (x : ℕ) → (e : ℕ) × ((e ≤ (node_of cs events x).epoch)
      × (has (at_epoch cs 0) x ≡ true → has (at_epoch cs e) x ≡ true)
      × WasCommitted cs events e (take (node_of cs events x).committed (node_of cs events x).list))
  -- every node that a node's epoch keeps has the batches that the node knows as committed
  pub committed : (x y : ℕ) → has (at_epoch cs (node_of cs events x).epoch) y ≡ true
      → IsPrefix (take (node_of cs events x).committed (node_of cs events x).list)
      (node_of cs events y).list
  -- along each list the requests of a client's marks rise
  pub marks : (x : ℕ) → MarksRise (node_of cs events x).list
  -- each list is a sublist of the submitted batches
  pub taken : (x : ℕ) → IsInSubmittedOrder events (node_of cs events x).list
  -- each node's epoch is one of the list, and the node uses the configuration of that epoch
  pub epochs : (x : ℕ) → (node_of cs events x).epoch < length cs
  pub configured : (x : ℕ) → (node_of cs events x).ids ≡ at_epoch cs (node_of cs events x).epoch
  -- no newer notice of the list is a bad one
  pub notices : (x e : ℕ) → (node_of cs events x).epoch < e → e < length cs
      → leaves_out (at_epoch cs e) (node_of cs events x).ids ≡ true
