-- The rules of a step of a running node x. The tests of a request or a frame are listed in the
-- order in which they are made. Definitions without a source are this store's profile.
use Rattle.std.specs.Prelude.{ℕ, zero, suc, ◌-◌, ◌^◌, List, [], ◌∷◌, ◌++◌, length, take, min, max}
use Rattle.std.specs.Prelude.{Option, Some, None, Bool, true, false, ◌&&◌, not, if◌then◌else◌}
use Rattle.std.specs.Prelude.{◌==◌, nat_lt, nat_le}
use Rattle.kv_types.specs.{Marked, has, mark_held, place}
use Rattle.kv_types.specs.declared.mark.Mark.{Mark}
use Rattle.configurations.specs.{is_head, is_tail, predecessor, successor}
use Rattle.configurations.specs.NodeLists.{leaves_out}
use Rattle.chain_model.specs.declared.refusal.Refusal.TheVariants as refusal
use Rattle.chain_model.specs.declared.drop_reason.DropReason.TheVariants as reason
use Rattle.chain_model.specs.Messages.{Message, Forward, Ack}
use Rattle.chain_model.specs.Requests.{Request, Submit, Read, Open, Close, Shows, Opened, Closed}
use Rattle.chain_model.specs.Requests.{Committed}
use Rattle.chain_model.specs.Machine.{MachineState, Answer, silent, dropped_for, refused, replied}
use Rattle.chain_model.specs.Machine.{due}
use Rattle.kv_types.specs.Snapshots.{is_open, without, least}
use Rattle.chain_model.specs.Machine.{not_due}

-- whether the option holds node x
abbrev pub is_some_of : Option ℕ → ℕ → Bool
is_some_of None x = false
is_some_of (Some y) x = y == x

-- the frame with batch k for the successor, if both exist (van Renesse and Schneider 2004, section
-- 3)
abbrev pub forward_to : {A : Type 0} → Option ℕ → ℕ → MachineState A → ℕ → Option (Marked A) → List
    (Message A)
forward_to None x n k batch = []
forward_to (Some s) x n k None = []
forward_to (Some s) x n k (Some batch) = Forward s n.epoch x k batch ∷ []

-- the frame with the committed number and the length of the list for the predecessor, if there is
-- one (van Renesse and Schneider 2004, section 3)
abbrev pub ack_to : {A : Type 0} → Option ℕ → ℕ → MachineState A → List (Message A)
ack_to None x n = []
ack_to (Some p) x n = Ack p n.epoch x n.committed (length n.list) ∷ []

-- the answer that sends these frames and replies to the pending requests that are committed (van
-- Renesse and Schneider 2004, section 3)
abbrev pub acknowledge : {A : Type 0} → MachineState A → List (Message A) → Answer A
acknowledge n frames = record {
  node = record n { pending = not_due n.committed n.pending };
  frames = frames;
  replies = due n.committed n.pending;
  dropped = None;
}

-- the number of a read: as requested, or else the committed number
abbrev pub number_read : {A : Type 0} → MachineState A → Option ℕ → ℕ
number_read n None = n.committed
number_read n (Some at) = at

-- A turn of tidying. It may raise the floor to the least number that may still be asked for. If it
-- does, it trims batches `gives_up` and before, as far as the floor allows.
abbrev pub tend : {A : Type 0} → MachineState A → Bool → ℕ → Answer A
tend n false gives_up = silent n
tend n true gives_up =
    let floor = max n.floor (least n.committed n.snapshots) in
    silent (record n { floor = floor; kept = max n.kept (min floor gives_up) })

-- the input is a frame for clients
abbrev pub not_for_nodes : {A : Type 0} → MachineState A → Answer A
not_for_nodes n = dropped_for n reason.NotForNodes

-- the input is bytes that are no frame
abbrev pub unreadable : {A : Type 0} → MachineState A → Answer A
unreadable n = dropped_for n reason.Unreadable

-- the head with one more batch, whose acknowledgement request i awaits (van Renesse and Schneider
-- 2004, section 3)
abbrev pub longer_for : {A : Type 0} → MachineState A → ℕ → Marked A → MachineState A
longer_for n i batch = record n {
  list = n.list ++ batch ∷ [];
  pending = n.pending ++ (suc (length n.list), i) ∷ [];
}

-- a pending request is prior to another: it has the lesser number, or the same and no greater
-- request
abbrev pub is_prior : ℕ × ℕ → ℕ × ℕ → Bool
is_prior p q = if p.0 == q.0 then nat_le p.1 q.1 else nat_lt p.0 q.0

-- one more request among those that are pending, in order of number and then of request
abbrev pub queued : ℕ × ℕ → List (ℕ × ℕ) → List (ℕ × ℕ)
queued p [] = p ∷ []
queued p (q ∷ rest) = if is_prior q p then q ∷ queued p rest else p ∷ q ∷ rest

-- Request i submits again the batch that has number k. Nothing is appended or sent, and it is
-- acknowledged once that batch is committed.
abbrev pub repeat : {A : Type 0} → MachineState A → ℕ → ℕ → Answer A
repeat n i k =
    if nat_le k n.committed then replied n (Committed i k)
    else silent (record n { pending = queued (k, i) n.pending })

-- the node after its successor's report, if that exceeds what it knew (van Renesse and Schneider
-- 2004, section 3; the numbers are this store's profile)
abbrev pub acked : {A : Type 0} → MachineState A → ℕ → ℕ → MachineState A
acked n committed have = record n {
  committed = max n.committed committed;
  successor_has = max n.successor_has have;
}

-- a reply to a read of the first s batches (van Renesse and Schneider 2004, section 2)
abbrev pub reply_read : {A : Type 0} → MachineState A → ℕ → ℕ → Answer A
reply_read n i s = replied n (Shows i s (take s n.list))

-- opens one more snapshot, at s
abbrev pub add_snapshot : {A : Type 0} → MachineState A → ℕ → ℕ → Answer A
add_snapshot n i s = replied (record n { snapshots = s ∷ n.snapshots }) (Opened i s)

-- opens a snapshot at s if fewer than 64 are open
abbrev pub open_if_room : {A : Type 0} → MachineState A → ℕ → ℕ → Answer A
open_if_room n i s =
    if length n.snapshots == 64 then refused n i refusal.TooManySnapshots else add_snapshot n i s

-- closes one snapshot at s
abbrev pub remove_snapshot : {A : Type 0} → MachineState A → ℕ → ℕ → Answer A
remove_snapshot n i s = replied (record n { snapshots = without s n.snapshots }) (Closed i s)

-- the rules of the node with id x
module _ {A : Type 0} (x : ℕ) where
  -- the frame with batch k for the node's successor (van Renesse and Schneider 2004, section 3)
  abbrev pub forward : MachineState A → ℕ → List (Message A)
  forward n k = forward_to (successor n.ids x) x n k (place n.list k)

  -- the frames of the `count` batches after k, as far as the node has them (van Renesse and
  -- Schneider 2004, section 3)
  abbrev pub forwards : MachineState A → ℕ → ℕ → List (Message A)
  forwards n k zero = []
  forwards n k (suc count) = forward n (suc k) ++ forwards n (suc k) count

  -- the node's acknowledgement for its predecessor (van Renesse and Schneider 2004, section 3)
  abbrev pub ack : MachineState A → List (Message A)
  ack n = ack_to (predecessor n.ids x) x n

  -- a tail commits its full list (van Renesse and Schneider 2004, section 3)
  abbrev pub tail_commits : MachineState A → MachineState A
  tail_commits n = if is_tail n.ids x then record n { committed = length n.list } else n

  -- The head accepts a batch and forwards it. A head that is the tail too commits and acknowledges
  -- it (van Renesse and Schneider 2004, section 3).
  abbrev pub accept : MachineState A → ℕ → Marked A → Answer A
  accept n i batch =
      let m = tail_commits (longer_for n i batch) in
      acknowledge m (forward m (suc (length n.list)))

  -- the head accepts a batch if a number is left for it
  abbrev pub accept_if_room : MachineState A → ℕ → Marked A → Answer A
  accept_if_room n i batch =
      if length n.list == 2 ^ 63 - 1 then refused n i refusal.Exhausted else accept n i batch

  -- the head receives a batch of this request number, where it holds this mark for the client
  abbrev pub submit_after : MachineState A → ℕ → Marked A → ℕ → Option (ℕ × ℕ) → Answer A
  submit_after n i batch request_number None = accept_if_room n i batch
  submit_after n i batch request_number (Some held) =
      if nat_lt held.0 request_number then accept_if_room n i batch
      else if held.0 == request_number then repeat n i held.1
      else refused n i refusal.OldRequest

  -- The head receives a batch that bears this mark, or none. Of a client's marked batches it
  -- accepts only those of greater requests than it has.
  abbrev pub submit_marked : MachineState A → ℕ → Marked A → Option Mark → Answer A
  submit_marked n i batch None = accept_if_room n i batch
  submit_marked n i batch (Some mark) =
      submit_after n i batch mark.request (mark_held n.list mark.client)

  -- a batch is submitted by a client (van Renesse and Schneider 2004, section 3; the refusals and
  -- the marks are this store's profile)
  abbrev pub submit : MachineState A → ℕ → Marked A → Answer A
  submit n i batch =
      if not (has n.ids x) then refused n i refusal.Removed
      else if not (is_head n.ids x) then refused n i refusal.NotHead
      else submit_marked n i batch batch.mark

  -- A node appends batch k and forwards it. A tail commits and acknowledges it (van Renesse and
  -- Schneider 2004, section 3).
  abbrev pub append : MachineState A → ℕ → Marked A → Answer A
  append n k batch =
      let m = tail_commits (record n { list = n.list ++ batch ∷ [] }) in
      record {
        node = m;
        frames = forward m k ++ (if is_tail m.ids x then ack m else []);
        replies = [];
        dropped = None;
      }

  -- A batch with an unexpected number is dropped, and the node acknowledges again to its
  -- predecessor.
  abbrev pub ack_duplicate : MachineState A → Answer A
  ack_duplicate n =
      record { node = n; frames = ack n; replies = []; dropped = Some reason.OtherNumber }

  -- A node appends the next batch, and no other (van Renesse and Schneider 2004, section 3; links
  -- that lose, repeat and reorder are this store's profile).
  abbrev pub receive_forward : MachineState A → ℕ → Marked A → Answer A
  receive_forward n k batch = if k == suc (length n.list) then append n k batch else ack_duplicate n

  -- A node applies its successor's report, and reports to its predecessor if more is committed than
  -- it knew (van Renesse and Schneider 2004, section 3).
  abbrev pub on_ack : MachineState A → ℕ → ℕ → Answer A
  on_ack n committed have =
      let m = acked n committed have in
      acknowledge m (if nat_lt n.committed committed then ack m else [])

  -- an acknowledgement that can be true is applied
  abbrev pub receive_ack : MachineState A → ℕ → ℕ → Answer A
  receive_ack n committed have =
      if nat_le committed have && nat_le have (length n.list) then on_ack n committed have
      else dropped_for n reason.BadAck

  -- a frame is received (van Renesse and Schneider 2004, section 3; the drop reasons are this
  -- store's profile)
  abbrev pub receive : MachineState A → Message A → Answer A
  receive n (Forward to epoch from number batch) =
      if not (has n.ids x) then dropped_for n reason.Removed
      else if not (epoch == n.epoch) then dropped_for n reason.OtherEpoch
      else if is_some_of (predecessor n.ids x) from then receive_forward n number batch
      else dropped_for n reason.NotPredecessor
  receive n (Ack to epoch from committed have) =
      if not (has n.ids x) then dropped_for n reason.Removed
      else if not (epoch == n.epoch) then dropped_for n reason.OtherEpoch
      else if is_some_of (successor n.ids x) from then receive_ack n committed have
      else dropped_for n reason.NotSuccessor

  -- A node moved to another epoch, before a tail commits. A removed node forgets its pending
  -- requests (van Renesse and Schneider 2004, section 3; epochs are this store's profile).
  abbrev pub moved : MachineState A → ℕ → List ℕ → MachineState A
  moved n epoch ids = record n {
    epoch = epoch;
    ids = ids;
    pending = if has ids x then n.pending else [];
  }

  -- A node after it adopted a configuration: a tail has committed its list. Another node knows that
  -- its new successor has the committed batches (van Renesse and Schneider 2004, section 3).
  abbrev pub adopted : MachineState A → ℕ → List ℕ → MachineState A
  adopted n epoch ids =
      let m = tail_commits (moved n epoch ids) in
      record m { successor_has = m.committed }

  -- a configuration is adopted, and the node acknowledges to its new predecessor (van Renesse and
  -- Schneider 2004, section 3)
  abbrev pub adopt : MachineState A → ℕ → List ℕ → Answer A
  adopt n epoch ids =
      let m = adopted n epoch ids in
      acknowledge m (ack m)

  -- the configuration service reports a configuration (van Renesse and Schneider 2004, section 3;
  -- epochs are this store's profile)
  abbrev pub notice : MachineState A → ℕ → List ℕ → Answer A
  notice n epoch ids =
      if not (nat_lt n.epoch epoch) then dropped_for n reason.OldNotice
      else if leaves_out ids n.ids then adopt n epoch ids
      else dropped_for n reason.BadNotice

  -- The node sends again the batches that its successor may lack, at most 16, and acknowledges
  -- again to its predecessor (van Renesse and Schneider 2004, section 3; the bound is this store's
  -- profile).
  abbrev pub resend : MachineState A → Answer A
  resend n = record {
    node = n;
    frames = forwards n n.successor_has 16 ++ ack n;
    replies = [];
    dropped = None;
  }

  -- a tick: the turn to send again
  abbrev pub tick : MachineState A → Answer A
  tick n = if has n.ids x then resend n else dropped_for n reason.Removed

  -- this answer if the number lies between the floor and the committed number, else a refusal
  abbrev pub if_readable : MachineState A → ℕ → ℕ → Answer A → Answer A
  if_readable n i at answer =
      if not (has n.ids x) then refused n i refusal.Removed
      else if nat_lt at n.floor then refused n i refusal.TooOld
      else if nat_le at n.committed then answer
      else refused n i refusal.NotCommitted

  -- A read (van Renesse and Schneider 2004, section 2; any node answers, which is this store's
  -- profile).
  abbrev pub read : MachineState A → ℕ → Option ℕ → Answer A
  read n i at = if_readable n i (number_read n at) (reply_read n i (number_read n at))

  -- a snapshot is opened
  abbrev pub open_snapshot : MachineState A → ℕ → Option ℕ → Answer A
  open_snapshot n i at = if_readable n i (number_read n at) (open_if_room n i (number_read n at))

  -- a snapshot is closed, if one is open at this number
  abbrev pub close_snapshot : MachineState A → ℕ → ℕ → Answer A
  close_snapshot n i s =
      if not (has n.ids x) then refused n i refusal.Removed
      else if is_open s n.snapshots then remove_snapshot n i s
      else refused n i refusal.NoSuchSnapshot

  -- request i of a client is received (van Renesse and Schneider 2004, section 2)
  abbrev pub ask : MachineState A → ℕ → Request A → Answer A
  ask n i (Submit batch) = submit n i batch
  ask n i (Read at) = read n i at
  ask n i (Open at) = open_snapshot n i at
  ask n i (Close s) = close_snapshot n i s
