-- A step of a node does not look into the contents of batches: it goes with every map of them.
use Rattle.std.proofs.Common.{◌≡◌, ℕ, suc, List, [], ◌∷◌, ◌++◌, length, map}
use Rattle.std.proofs.Common.{Option, Some, None, Bool, true, false, cond, not, ◌==◌}
use Rattle.std.proofs.Common.{◌&&◌, nat_le, nat_lt, sym, refl, ◌∙◌, ap, ap₂}
use Rattle.std.proofs.lemmas.List.{map-append, take-map}
use Rattle.kv_types.specs.{Marked, has}
use Rattle.configurations.specs.{is_tail, predecessor, successor}
use Rattle.configurations.specs.NodeLists.{leaves_out}
use Rattle.chain_model.specs.declared.refusal.Refusal.TheVariants as refusal
use Rattle.chain_model.specs.declared.drop_reason.DropReason.TheVariants as reason
use Rattle.chain_model.specs.declared.drop_reason.DropReason.{DropReason}
use Rattle.chain_model.specs.Messages.{Ack, Forward, Message}
use Rattle.chain_model.specs.Requests.{Close, Open, Read, Request, Shows}
use Rattle.chain_model.specs.Requests.{Submit}
use Rattle.kv_types.specs.Snapshots.{is_open}
use Rattle.chain_model.specs.Machine.{Answer, MachineState, dropped_for}
use Rattle.chain_model.specs.Machine.{refused}
use Rattle.chain_model.specs.Machine.{replied, started}
use Rattle.chain_model.specs.Rules.{ack, acknowledge, adopt, adopted, append, ask}
use Rattle.chain_model.specs.Rules.{remove_snapshot, close_snapshot, forward, forwards}
use Rattle.chain_model.specs.Rules.{if_readable, is_some_of, moved, notice}
use Rattle.chain_model.specs.Rules.{add_snapshot}
use Rattle.chain_model.specs.Rules.{on_ack, receive, resend, reply_read, tail_commits}
use Rattle.chain_model.specs.Rules.{receive_ack, receive_forward, ack_duplicate, tend, tick, acked}
use Rattle.chain_model.specs.Maps.{answer_map, frame_map, marked_map, node_map}
use Rattle.chain_model.specs.Maps.{request_map}
use Rattle.chain_model.proofs.SubmitMaps.{ack_to_map, acknowledge_map, answer, cond_of, forward_map}
use Rattle.chain_model.proofs.SubmitMaps.{forwards_map, sent, size, submit_map, tail_map, three}

module _ {A B : Type 0} (f : A → B) where
  -- an answer of a node whose frames and replies go with the map
  sends_map : (n : MachineState A) (fs : List (Message A)) (fs' : List (Message B))
      (d : Option DropReason)
      → map (frame_map f) fs ≡ fs'
      → answer_map f (record { node = n; frames = fs; replies = []; dropped = d })
      ≡ record { node = node_map f n; frames = fs'; replies = []; dropped = d }
  sends_map n fs fs' d e = answer f (node_map f n) (map (frame_map f) fs) fs' [] [] d e refl

  -- a batch that is appended
  append_map : (x : ℕ) (n : MachineState A) (k : ℕ) (b : Marked A)
      → answer_map f (append x n k b) ≡ append x (node_map f n) k (marked_map f b)
  append_map x n k b =
      let n' : MachineState B = node_map f n in
      let more : MachineState A = record n { list = n.list ++ b ∷ [] } in
      let m = tail_commits x more in
      let m' = node_map f m in
      let acks = cond (is_tail m.ids x) (ack x m) [] in
      let acks' = cond (is_tail m.ids x) (ack x m') [] in
      let acks_map : map (frame_map f) acks ≡ acks' =
      cond_of (map (frame_map f)) (is_tail m.ids x) (is_tail m.ids x) (ack x m) [] (ack x m') []
      refl (ack_to_map f (predecessor m.ids x) x m) refl in
      let same : m' ≡ tail_commits x (record n' { list = n'.list ++ marked_map f b ∷ [] }) =
      tail_map f x more
      ∙ ap (tail_commits x)
      (λ j. record n' { list = map-append (marked_map f) n.list (b ∷ []) j }) in
      sends_map m (forward x m k ++ acks) (forward x m' k ++ acks') None
      (map-append (frame_map f) (forward x m k) acks
      ∙ ap₂ (λ (p q : List (Message B)). p ++ q) (forward_map f x m k) acks_map)
      ∙ ap (sent x k) same

  -- a batch that is forwarded
  take_forward_map : (x : ℕ) (n : MachineState A) (k : ℕ) (b : Marked A)
      → answer_map f (receive_forward x n k b) ≡ receive_forward x (node_map f n) k (marked_map f b)
  take_forward_map x n k b =
      let n' : MachineState B = node_map f n in
      cond_of (answer_map f) (k == suc (length n.list)) (k == suc (length n'.list))
      (append x n k b) (ack_duplicate x n) (append x n' k (marked_map f b)) (ack_duplicate x n')
      (ap (λ s. k == suc s) (sym (size f n))) (append_map x n k b)
      (sends_map n (ack x n) (ack x n') (Some reason.OtherNumber)
      (ack_to_map f (predecessor n.ids x) x n))

  -- the committed number is reported to the predecessor
  pass_on_map : (x : ℕ) (n : MachineState A) (committed have : ℕ)
      → answer_map f (on_ack x n committed have) ≡ on_ack x (node_map f n) committed have
  pass_on_map x n committed have =
      let m = acked n committed have in
      let m' = node_map f m in
      let grew = nat_lt n.committed committed in
      acknowledge_map f m (cond grew (ack x m) []) (cond grew (ack x m') [])
      (cond_of (map (frame_map f)) grew grew (ack x m) [] (ack x m') [] refl
      (ack_to_map f (predecessor m.ids x) x m) refl)

  -- an acknowledgement
  take_ack_map : (x : ℕ) (n : MachineState A) (committed have : ℕ)
      → answer_map f (receive_ack x n committed have) ≡ receive_ack x (node_map f n) committed have
  take_ack_map x n committed have =
      let n' : MachineState B = node_map f n in
      let low = nat_le committed have in
      cond_of (answer_map f) (low && nat_le have (length n.list))
      (low && nat_le have (length n'.list)) (on_ack x n committed have)
      (dropped_for n reason.BadAck) (on_ack x n' committed have) (dropped_for n' reason.BadAck)
      (ap (λ s. low && nat_le have s) (sym (size f n))) (pass_on_map x n committed have) refl

  -- a frame
  pub receive_map : (x : ℕ) (n : MachineState A) (fr : Message A)
      → answer_map f (receive x n fr) ≡ receive x (node_map f n) (frame_map f fr)
  receive_map x n (Forward to e p k b) =
      let n' : MachineState B = node_map f n in
      let near = is_some_of (predecessor n.ids x) p in
      three f (answer_map f) (not (has n.ids x)) (not (e == n.epoch)) near near
      (dropped_for n reason.Removed) (dropped_for n reason.OtherEpoch) (receive_forward x n k b)
      (dropped_for n reason.NotPredecessor) (dropped_for n' reason.Removed)
      (dropped_for n' reason.OtherEpoch) (receive_forward x n' k (marked_map f b))
      (dropped_for n' reason.NotPredecessor) refl refl refl (take_forward_map x n k b) refl
  receive_map x n (Ack to e s committed have) =
      let n' : MachineState B = node_map f n in
      let near = is_some_of (successor n.ids x) s in
      three f (answer_map f) (not (has n.ids x)) (not (e == n.epoch)) near near
      (dropped_for n reason.Removed) (dropped_for n reason.OtherEpoch)
      (receive_ack x n committed have)
      (dropped_for n reason.NotSuccessor) (dropped_for n' reason.Removed)
      (dropped_for n' reason.OtherEpoch) (receive_ack x n' committed have)
      (dropped_for n' reason.NotSuccessor) refl refl refl (take_ack_map x n committed have) refl

  -- a configuration is adopted
  adopt_map : (x : ℕ) (n : MachineState A) (e : ℕ) (ids : List ℕ)
      → answer_map f (adopt x n e ids) ≡ adopt x (node_map f n) e ids
  adopt_map x n e ids =
      let m = adopted x n e ids in
      let same : node_map f m ≡ adopted x (node_map f n) e ids =
      ap (λ (k : MachineState B). record k { successor_has = k.committed })
      (tail_map f x (moved x n e ids)) in
      acknowledge_map f m (ack x m) (ack x (node_map f m)) (ack_to_map f (predecessor m.ids x) x m)
      ∙ ap (λ (k : MachineState B). acknowledge k (ack x k)) same

  -- a notice
  pub notice_map : (x : ℕ) (n : MachineState A) (e : ℕ) (ids : List ℕ)
      → answer_map f (notice x n e ids) ≡ notice x (node_map f n) e ids
  notice_map x n e ids =
      let n' : MachineState B = node_map f n in
      let old = not (nat_lt n.epoch e) in
      let good = leaves_out ids n.ids in
      cond_of (answer_map f) old old (dropped_for n reason.OldNotice)
      (cond good (adopt x n e ids) (dropped_for n reason.BadNotice))
      (dropped_for n' reason.OldNotice)
      (cond good (adopt x n' e ids) (dropped_for n' reason.BadNotice)) refl refl
      (cond_of (answer_map f) good good (adopt x n e ids) (dropped_for n reason.BadNotice)
      (adopt x n' e ids) (dropped_for n' reason.BadNotice) refl (adopt_map x n e ids) refl)

  -- batches are sent again
  resend_map : (x : ℕ) (n : MachineState A) → answer_map f (resend x n) ≡ resend x (node_map f n)
  resend_map x n =
      let n' : MachineState B = node_map f n in
      let k = n.successor_has in
      sends_map n (forwards x n k 16 ++ ack x n) (forwards x n' k 16 ++ ack x n') None
      (map-append (frame_map f) (forwards x n k 16) (ack x n)
      ∙ ap₂ (λ (p q : List (Message B)). p ++ q) (forwards_map f x n k 16)
      (ack_to_map f (predecessor n.ids x) x n))

  -- a tick
  pub tick_map : (x : ℕ) (n : MachineState A) → answer_map f (tick x n) ≡ tick x (node_map f n)
  tick_map x n =
      let n' : MachineState B = node_map f n in
      cond_of (answer_map f) (has n.ids x) (has n.ids x) (resend x n)
      (dropped_for n reason.Removed) (resend x n') (dropped_for n' reason.Removed) refl
      (resend_map x n) refl

  -- a number that can be read, or not
  readable_map : (x : ℕ) (n : MachineState A) (i s : ℕ) (a : Answer A) (a' : Answer B)
      → answer_map f a ≡ a'
      → answer_map f (if_readable x n i s a) ≡ if_readable x (node_map f n) i s a'
  readable_map x n i s a a' e =
      let n' : MachineState B = node_map f n in
      let high = nat_le s n.committed in
      three f (answer_map f) (not (has n.ids x)) (nat_lt s n.floor) high high
      (refused n i refusal.Removed) (refused n i refusal.TooOld) a
      (refused n i refusal.NotCommitted) (refused n' i refusal.Removed)
      (refused n' i refusal.TooOld) a' (refused n' i refusal.NotCommitted) refl refl refl e refl

  -- the answer of a read
  show_map : (n : MachineState A) (i s : ℕ) → answer_map f (reply_read n i s) ≡ reply_read
      (node_map f n) i s
  show_map n i s =
      ap (λ l. replied (node_map f n) (Shows i s l)) (sym (take-map (marked_map f) s n.list))

  -- a snapshot is opened
  opens_map : (x : ℕ) (n : MachineState A) (i s : ℕ)
      → answer_map f (if_readable x n i s
      (cond (length n.snapshots == 64) (refused n i refusal.TooManySnapshots) (add_snapshot n i s)))
      ≡ if_readable x (node_map f n) i s (cond (length n.snapshots == 64)
      (refused (node_map f n) i refusal.TooManySnapshots) (add_snapshot (node_map f n) i s))
  opens_map x n i s =
      let n' : MachineState B = node_map f n in
      let full = length n.snapshots == 64 in
      let many = refused n i refusal.TooManySnapshots in
      let many' = refused n' i refusal.TooManySnapshots in
      readable_map x n i s (cond full many (add_snapshot n i s))
      (cond full many' (add_snapshot n' i s))
      (cond_of (answer_map f) full full many (add_snapshot n i s) many' (add_snapshot n' i s) refl
      refl refl)

  -- a snapshot is closed
  close_map : (x : ℕ) (n : MachineState A) (i s : ℕ)
      → answer_map f (close_snapshot x n i s) ≡ close_snapshot x (node_map f n) i s
  close_map x n i s =
      let n' : MachineState B = node_map f n in
      let gone = not (has n.ids x) in
      let there = is_open s n.snapshots in
      let none = refused n i refusal.NoSuchSnapshot in
      let none' = refused n' i refusal.NoSuchSnapshot in
      cond_of (answer_map f) gone gone (refused n i refusal.Removed)
      (cond there (remove_snapshot n i s) none) (refused n' i refusal.Removed)
      (cond there (remove_snapshot n' i s) none') refl refl
      (cond_of (answer_map f) there there (remove_snapshot n i s) none (remove_snapshot n' i s)
      none' refl refl
      refl)

  -- a tend
  pub tend_map : (x : ℕ) (n : MachineState A) (rises : Bool) (gives_up : ℕ)
      → answer_map f (tend n rises gives_up) ≡ tend (node_map f n) rises gives_up
  tend_map x n false gives_up = refl
  tend_map x n true gives_up = refl

  -- a read
  shows_map : (x : ℕ) (n : MachineState A) (i s : ℕ)
      → answer_map f (if_readable x n i s (reply_read n i s))
      ≡ if_readable x (node_map f n) i s (reply_read (node_map f n) i s)
  shows_map x n i s =
      readable_map x n i s (reply_read n i s) (reply_read (node_map f n) i s) (show_map n i s)

  -- a request to a node goes with the map
  pub ask_map : (x : ℕ) (n : MachineState A) (i : ℕ) (q : Request A) → answer_map f (ask x n i q) ≡
      ask x
      (node_map f n) i (request_map f q)
  ask_map x n i (Submit b) = submit_map f x n i b
  ask_map x n i (Read None) = shows_map x n i n.committed
  ask_map x n i (Read (Some at)) = shows_map x n i at
  ask_map x n i (Open None) = opens_map x n i n.committed
  ask_map x n i (Open (Some at)) = opens_map x n i at
  ask_map x n i (Close s) = close_map x n i s

  -- a start
  pub started_map : (x : ℕ) (n : MachineState A) → node_map f (started x n) ≡ started x
      (node_map f n)
  started_map x n =
      let c : cond (is_tail n.ids x) (length n.list) n.floor ≡ cond (is_tail n.ids x)
      (length (map (marked_map f) n.list)) n.floor = ap (λ k. cond (is_tail n.ids x) k n.floor)
      (sym (size f n)) in
      λ j. record (node_map f n) {
        committed = c j;
        successor_has = c j;
        snapshots = [];
        pending = [];
        running = true;
      }
