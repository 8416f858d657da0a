-- The invariant of a world after every list of events, which stays true as lists grow.
use Rattle.std.proofs.Common.{◌≡◌, ℕ, ◌<◌, ◌≤◌, List, ◌++◌, length, take, Some, true, false}
use Rattle.std.specs.List.{AllByRecursion}
use Rattle.kv_types.specs.{IsPrefix, Marked, has, place}
use Rattle.configurations.specs.{at_epoch, is_tail, last_of}
use Rattle.configurations.specs.NodeLists.{IsBeforeIn}
use Rattle.chain_model.specs.Messages.{Ack, Forward, Message}
use Rattle.chain_model.specs.Requests.{Closed, Committed, Opened, Refused, Response, Shows}
use Rattle.chain_model.specs.Machine.{MachineState}
use Rattle.chain_model.specs.System.{SystemEvent, SystemState}
use Rattle.chain_model.specs.Order.{CommittedBy, IsUpTo, WasCommitted}
use Rattle.chain_model.specs.Retention.{AreInTurnFrom}
use Rattle.kv_types.specs.ListsLemmas.{begins-place, begins_trans}
use Rattle.chain_model.proofs.Marks.{Taken, taken_wider}
use Rattle.chain_model.proofs.Submitted.{MayAnswer}

-- the list of every node of a configuration begins with this one
abbrev pub Safe : {A : Type 0} → (ℕ → List (Marked A)) → List ℕ → List (Marked A) → Type 0
Safe lists c l = (y : ℕ) → has c y ≡ true → IsPrefix l (lists y)

-- l is committed by an epoch that is not after e, and that keeps node x if the first one does
abbrev pub IsKnown : {A : Type 0} → List (List ℕ) → List (SystemEvent A) → (x e : ℕ)
    → List (Marked A) → Type
    0
IsKnown cs events x e l =
    (e' : ℕ) × ((e' ≤ e) × (has (at_epoch cs 0) x ≡ true → has (at_epoch cs e') x ≡ true)
    × WasCommitted cs events e' l)

-- The invariant of node x with list l at epoch e, where `lists` has the lists of all nodes and h
-- the submitted batches.
pub record Sound {A : Type 0} (cs : List (List ℕ)) (events : List (SystemEvent A))
    (h : List (Marked A))
    (lists : ℕ → List (Marked A)) (x : ℕ) (l : List (Marked A)) (e : ℕ) (c : List ℕ)
    (committed floor kept : ℕ) : Type 0 where
  pub in_range : e < length cs
  pub knows : c ≡ at_epoch cs e
  -- the list of each node that stood before it, and that its configuration has, begins with its
  -- list
  pub behind : (z : ℕ) → IsBeforeIn (at_epoch cs 0) z x → has c z ≡ true → IsPrefix l (lists z)
  -- every node of the configuration has the batches that the node knows as committed
  pub safe : Safe lists c (take committed l)
  -- and an epoch committed it, its own or an earlier one, which kept the node
  pub known : IsKnown cs events x e (take committed l)
  pub kept_le : kept ≤ floor
  pub floor_le : floor ≤ committed
  pub committed_le : committed ≤ length l
  pub handed : Taken l h

-- of a node, with what it is after a step
abbrev pub SoundNode : {A : Type 0} → List (List ℕ) → List (SystemEvent A) → List (Marked A)
    → (ℕ → List (Marked A)) →
    ℕ
    → MachineState A → Type 0
SoundNode cs events h lists x n = Sound cs events h lists x n.list n.epoch n.ids n.committed
    n.floor n.kept

-- the number of a pending request is the place of the batch that the request submitted, then or
-- again
abbrev pub IsPending : {A : Type 0} → List (SystemEvent A) → List (Marked A) → ℕ × ℕ → Type 0
IsPending events l p = (b : _) × (MayAnswer events p.1 b × (place l p.0 ≡ Some b))

-- the invariant of a node
pub record NodeOk {A : Type 0} (cs : List (List ℕ)) (events : List (SystemEvent A))
    (h : List (Marked A))
    (lists : ℕ → List (Marked A)) (x : ℕ) (n : MachineState A) : Type 0 where
  pub sound : Sound cs events h lists x n.list n.epoch n.ids n.committed n.floor n.kept
  pub pending : AllByRecursion (IsPending events n.list) n.pending
  pub tail : n.running ≡ true → is_tail n.ids x ≡ true → n.committed ≡ length n.list
  -- no snapshot is open below the floor
  pub snapshots : AllByRecursion (λ s. n.floor ≤ s) n.snapshots
  -- requests wait in order of number, and then of request
  pub rising : AreInTurnFrom (1, 0) n.pending
  pub resend : n.running ≡ true → is_tail n.ids x ≡ false → n.committed ≤ n.successor_has

-- The invariant of a frame. It is addressed to a node of its epoch. A Forward has a batch of its
-- sender and of all nodes before the sender, an Ack the length of a list that all nodes have.
abbrev pub FrameOk : {A : Type 0} → List (List ℕ) → List (SystemEvent A) → (ℕ → List (Marked A))
    → Message A
    → Type 0
FrameOk cs events lists (Forward to e from number batch) = (has (at_epoch cs e) to ≡ true)
    × ((z : ℕ) → IsUpTo cs e from z → place (lists z) number ≡ Some batch)
FrameOk cs events lists (Ack to e from committed have) = (has (at_epoch cs e) to ≡ true)
    × ((l : List _) × ((length l ≡ committed) × Safe lists (at_epoch cs e) l
    × CommittedBy cs events e l))

-- a reply is about a list with which the list of every node of the last configuration begins
abbrev pub ReplyOk : {A : Type 0} → List (List ℕ) → List (SystemEvent A) → (ℕ → List (Marked A))
    → Response A
    → Type 0
ReplyOk cs events lists (Committed i n) =
    (l : List _) × ((length l ≡ n) × IsPending events l (n, i) × Safe lists (last_of cs) l)
ReplyOk cs events lists (Shows i s l) = (length l ≡ s) × Safe lists (last_of cs) l
ReplyOk cs events lists (Opened i s) = (l : List _) × ((length l ≡ s) × Safe lists (last_of cs) l)
ReplyOk cs events lists _ = Unit {0}

-- the lists of all nodes
abbrev pub lists_of : {A : Type 0} → SystemState A → ℕ → List (Marked A)
lists_of w y = (w.nodes y).list

-- the invariant of a world
pub record WorldOk {A : Type 0} (cs : List (List ℕ)) (events : List (SystemEvent A))
    (h : List (Marked A))
    (w : SystemState A) : Type 0 where
  pub nodes : (x : ℕ) → NodeOk cs events h (lists_of w) x (w.nodes x)
  pub frames : AllByRecursion (FrameOk cs events (lists_of w)) w.frames
  pub replies : AllByRecursion (ReplyOk cs events (lists_of w)) w.replies

-- a prefix of a committed list is committed
pub shorter_committed : {A : Type 0} {cs : List (List ℕ)} {events : List (SystemEvent A)} (e : ℕ)
    (l m : List (Marked A)) → IsPrefix l m → WasCommitted cs events e m → WasCommitted cs events e l
shorter_committed e l m b c = record {
  before = c.before;
  later = c.later;
  whole = c.whole;
  tail = c.tail;
  is = c.is;
  epoch = c.epoch;
  begins = begins_trans b c.begins;
}

module _ {A : Type 0} (cs : List (List ℕ)) (events : List (SystemEvent A))
    (lists more : ℕ → List (Marked A))
    (grow : (y : ℕ) → IsPrefix (lists y) (more y)) where
  -- growing lists keep the batches that every node has
  pub safe_grows : (c : List ℕ) (l : List (Marked A)) → Safe lists c l → Safe more c l
  safe_grows c l s y h = begins_trans (s y h) (grow y)

  -- the invariant of a node is kept as other lists grow
  pub node_grows : (h r : List (Marked A)) (x : ℕ) (n : MachineState A)
      → NodeOk cs events h lists x n
      → NodeOk cs events (h ++ r) more x n
  node_grows h r x n ok =
      let s = ok.sound in
      record {
        sound = record {
          in_range = s.in_range;
          knows = s.knows;
          behind = λ z b k. begins_trans (s.behind z b k) (grow z);
          safe = safe_grows n.ids (take n.committed n.list) s.safe;
          known = s.known;
          kept_le = s.kept_le;
          floor_le = s.floor_le;
          committed_le = s.committed_le;
          handed = taken_wider n.list h r s.handed;
        };
        pending = ok.pending;
        tail = ok.tail;
        snapshots = ok.snapshots;
        rising = ok.rising;
        resend = ok.resend;
      }

  -- the invariant of a frame is kept as lists grow
  pub frame_grows : (f : Message A) → FrameOk cs events lists f → FrameOk cs events more f
  frame_grows (Forward to e from number batch) ok =
      (ok.0, λ z b. begins-place number batch (grow z) (ok.1 z b))
  frame_grows (Ack to e from committed have) ok =
      (ok.0, (ok.1.0, (ok.1.1.0, safe_grows (at_epoch cs e) ok.1.0 ok.1.1.1, ok.1.1.2)))

  -- the invariant of a reply is kept as lists grow
  pub reply_grows : (r : Response A) → ReplyOk cs events lists r → ReplyOk cs events more r
  reply_grows (Committed i n) ok = (ok.0, (ok.1.0, ok.1.1, safe_grows (last_of cs) ok.0 ok.1.2))
  reply_grows (Shows i s l) ok = (ok.0, safe_grows (last_of cs) l ok.1)
  reply_grows (Opened i s) ok = (ok.0, (ok.1.0, safe_grows (last_of cs) ok.0 ok.1.1))
  reply_grows (Closed i s) ok = tt
  reply_grows (Refused i code) ok = tt
