-- What a rule answers, by the tests that it makes: what holds of each answer holds of the rule's.
use Rattle.std.proofs.Common.{◌≡◌, ℕ, suc, ◌-◌, ◌^◌, ◌<◌, ◌≤◌, List, length, Option, Some, None}
use Rattle.std.proofs.Common.{Bool, true, false, cond, not, ◌==◌, ◌&&◌, nat_le, nat_lt, ap}
use Rattle.std.proofs.Common.{eqb-true, leb-true, ltb-true, ltb-false, refl, sym, subst, ◌∙◌}
use Rattle.std.proofs.lemmas.Bool.{cond_both, false≢true, and_parts, not-false}
use Rattle.kv_types.specs.declared.mark.Mark.{Mark}
use Rattle.configurations.specs.{is_head, predecessor, successor}
use Rattle.configurations.specs.NodeLists.{leaves_out}
use Rattle.kv_types.specs.{Marked, has, mark_held}
use Rattle.chain_model.specs.declared.refusal.Refusal.TheVariants as refusal
use Rattle.chain_model.specs.declared.refusal.Refusal.{Refusal}
use Rattle.chain_model.specs.declared.drop_reason.DropReason.TheVariants as reason
use Rattle.chain_model.specs.declared.drop_reason.DropReason.{DropReason}
use Rattle.chain_model.specs.Messages.{Ack, Forward}
use Rattle.kv_types.specs.Snapshots.{is_open}
use Rattle.chain_model.specs.Machine.{Answer, MachineState, dropped_for, refused}
use Rattle.chain_model.specs.Rules.{accept, accept_if_room, adopt, append, repeat, submit_after}
use Rattle.chain_model.specs.Rules.{remove_snapshot, close_snapshot, submit_marked}
use Rattle.chain_model.specs.Rules.{if_readable}
use Rattle.chain_model.specs.Rules.{is_some_of, notice, number_read, add_snapshot, open_snapshot}
use Rattle.chain_model.specs.Rules.{on_ack, read, receive, resend, reply_read, submit, receive_ack}
use Rattle.chain_model.specs.Rules.{receive_forward, ack_duplicate, tick}
use Rattle.chain_model.proofs.Marks.{IsNext}

-- the test finds the node that it is asked for
is_some : (o : Option ℕ) (p : ℕ) → is_some_of o p ≡ true → o ≡ Some p
is_some None p e = absurd (false≢true e)
is_some (Some q) p e = ap (λ k. Some k) (eqb-true q p e)

module _ {A : Type 0} (P : Answer A → Type 0) where
  -- one of two tests selects an answer, or neither does
  guarded : (s t : Bool) (a b c : Answer A) → P a → (s ≡ false → t ≡ true → P b) → P c
      → P (cond s a (cond t b c))
  guarded s t a b c pa pb pc =
      cond_both s a (cond t b c) P (λ _. pa)
      (λ no. cond_both t b c P (λ yes. pb no yes) (λ _. pc))

  -- of a batch that the head receives, by the mark that the batch bears: it is refused, or the head
  -- accepts it as the client's next one, or holds its mark at number k
  marked_cases : (x : ℕ) (n : MachineState A) (i : ℕ) (b : Marked A) →
      ((why : Refusal) → P (refused n i why)) → (IsNext n.list b.mark → P (accept x n i b))
      → ((k : ℕ) (m : Mark) → b.mark ≡ Some m → mark_held n.list m.client ≡ Some (m.request, k)
      → P (repeat n i k)) → (o : Option Mark) → b.mark ≡ o → P (submit_marked x n i b o)
  marked_cases x n i b refuse take again o is = by o is
    where
      room : IsNext n.list b.mark → P (accept_if_room x n i b)
      room next =
          let full = length n.list == 2 ^ 63 - 1 in
          cond_both full (refused n i refusal.Exhausted) (accept x n i b) P
          (λ full. refuse refusal.Exhausted) (λ room. take next)

      after : (m : Mark) → b.mark ≡ Some m → (h : Option (ℕ × ℕ)) → mark_held n.list m.client ≡ h
          → P (submit_after x n i b m.request h)
      after m is None held =
          room (subst (IsNext n.list) (sym is) (λ g it. absurd (cc)))
      after m is (Some h) held =
          let next = accept_if_room x n i b in
          let old = refused n i refusal.OldRequest in
          let other = cond (h.0 == m.request) (repeat n i h.1) old in
          cond_both (nat_lt h.0 m.request) next other P
          (λ less. room (subst (IsNext n.list) (sym is) (λ g it.
          let same : h ≡ g = cc (held, it) in
          subst (λ (q : ℕ × ℕ). q.0 < m.request) same (ltb-true h.0 m.request less))))
          (λ more. cond_both (h.0 == m.request) (repeat n i h.1) old P
          (λ same. again h.1 m is
          (held ∙ (λ j. Some (eqb-true h.0 m.request same j, h.1))))
          (λ less. refuse refusal.OldRequest))

      by : (o : Option Mark) → b.mark ≡ o → P (submit_marked x n i b o)
      by None is = room (subst (IsNext n.list) (sym is) tt)
      by (Some m) is = after m is (mark_held n.list m.client) refl

  -- a submit is refused, or the head accepts the batch, or has it already, at number k
  pub submit_cases : (x : ℕ) (n : MachineState A) (i : ℕ) (b : Marked A) →
      ((why : Refusal) → P (refused n i why))
      → (has n.ids x ≡ true → is_head n.ids x ≡ true → IsNext n.list b.mark → P (accept x n i b))
      → ((k : ℕ) (m : Mark) → b.mark ≡ Some m → mark_held n.list m.client ≡ Some (m.request, k)
      → P (repeat n i k)) → P (submit x n i b)
  submit_cases x n i b refuse take again =
      let at_head = submit_marked x n i b b.mark in
      let here = cond (not (is_head n.ids x)) (refused n i refusal.NotHead) at_head in
      cond_both (not (has n.ids x)) (refused n i refusal.Removed) here P
      (λ gone. refuse refusal.Removed)
      (λ kept. cond_both (not (is_head n.ids x)) (refused n i refusal.NotHead) at_head P
      (λ other. refuse refusal.NotHead)
      (λ head. marked_cases x n i b refuse
      (take (not-false (has n.ids x) kept) (not-false (is_head n.ids x) head)) again b.mark refl))

  -- the batch is the next one, or another
  pub take_forward_cases : (x : ℕ) (n : MachineState A) (k : ℕ) (b : Marked A)
      → (k ≡ suc (length n.list) → P (append x n k b)) → P (ack_duplicate x n)
      → P (receive_forward x n k b)
  take_forward_cases x n k b next other =
      let size = suc (length n.list) in
      cond_both (k == size) (append x n k b) (ack_duplicate x n) P (λ is. next (eqb-true k size is))
      (λ not. other)

  -- an acknowledgement can be true, or it is dropped
  pub take_ack_cases : (x : ℕ) (n : MachineState A) (committed have : ℕ)
      → (committed ≤ have → P (on_ack x n committed have)) → P (dropped_for n reason.BadAck)
      → P (receive_ack x n committed have)
  take_ack_cases x n committed have good bad =
      let low = nat_le committed have in
      let high = nat_le have (length n.list) in
      cond_both (low && high) (on_ack x n committed have) (dropped_for n reason.BadAck) P
      (λ both. good (leb-true committed have (and_parts low high both).0)) (λ _. bad)

  -- a frame is dropped, or its sender is the expected neighbour
  from_neighbour : (x : ℕ) (n : MachineState A) (e : ℕ) (o : Option ℕ) (p : ℕ) (a : Answer A)
      (why : DropReason) → ((why : DropReason) → P (dropped_for n why))
      → (has n.ids x ≡ true → e ≡ n.epoch → o ≡ Some p → P a)
      → P (cond (not (has n.ids x)) (dropped_for n reason.Removed)
      (cond (not (e == n.epoch)) (dropped_for n reason.OtherEpoch)
      (cond (is_some_of o p) a (dropped_for n why))))
  from_neighbour x n e o p a why drops goes =
      let near = cond (is_some_of o p) a (dropped_for n why) in
      let now = cond (not (e == n.epoch)) (dropped_for n reason.OtherEpoch) near in
      cond_both (not (has n.ids x)) (dropped_for n reason.Removed) now P
      (λ _. drops reason.Removed)
      (λ here. guarded (not (e == n.epoch)) (is_some_of o p) (dropped_for n reason.OtherEpoch) a
      (dropped_for n why) (drops reason.OtherEpoch)
      (λ same is. goes (not-false (has n.ids x) here)
      (eqb-true e n.epoch (not-false (e == n.epoch) same)) (is_some o p is))
      (drops why))

  -- a Forward is dropped, or its sender is the predecessor
  pub forward_cases : (x : ℕ) (n : MachineState A) (to e from k : ℕ) (b : Marked A)
      → ((why : DropReason) → P (dropped_for n why))
      → (has n.ids x ≡ true → e ≡ n.epoch → predecessor n.ids x ≡ Some from
      → P (receive_forward x n k b)) → P (receive x n (Forward to e from k b))
  forward_cases x n to e from k b drops goes =
      from_neighbour x n e (predecessor n.ids x) from (receive_forward x n k b)
      reason.NotPredecessor drops goes

  -- an Ack is dropped, or its sender is the successor
  pub ack_cases : (x : ℕ) (n : MachineState A) (to e from committed have : ℕ)
      → ((why : DropReason) → P (dropped_for n why))
      → (has n.ids x ≡ true → e ≡ n.epoch → successor n.ids x ≡ Some from
      → P (receive_ack x n committed have)) → P (receive x n (Ack to e from committed have))
  ack_cases x n to e from committed have drops goes =
      from_neighbour x n e (successor n.ids x) from (receive_ack x n committed have)
      reason.NotSuccessor drops goes

  -- a notice is dropped, or its configuration is adopted
  pub notice_cases : (x : ℕ) (n : MachineState A) (e : ℕ) (ids : List ℕ)
      → ((why : DropReason) → P (dropped_for n why)) → (n.epoch < e → P (adopt x n e ids))
      → P (notice x n e ids)
  notice_cases x n e ids drops goes =
      let new = nat_lt n.epoch e in
      guarded (not new) (leaves_out ids n.ids) (dropped_for n reason.OldNotice) (adopt x n e ids)
      (dropped_for n reason.BadNotice) (drops reason.OldNotice)
      (λ later good. goes (ltb-true n.epoch e (not-false new later))) (drops reason.BadNotice)

  -- a tick makes the node send again, or is dropped
  pub tick_cases : (x : ℕ) (n : MachineState A) → P (resend x n) → P (dropped_for n reason.Removed)
      → P (tick x n)
  tick_cases x n sends drops =
      cond_both (has n.ids x) (resend x n) (dropped_for n reason.Removed) P (λ is. sends)
      (λ gone. drops)

  -- a number is refused, or it is from the floor to what is committed
  pub readable_cases : (x : ℕ) (n : MachineState A) (i at : ℕ) (a : Answer A)
      → ((why : Refusal) → P (refused n i why)) → (n.floor ≤ at → at ≤ n.committed → P a)
      → P (if_readable x n i at a)
  readable_cases x n i at a refuse reply_read =
      let high = cond (nat_le at n.committed) a (refused n i refusal.NotCommitted) in
      let here = cond (nat_lt at n.floor) (refused n i refusal.TooOld) high in
      cond_both (not (has n.ids x)) (refused n i refusal.Removed) here P
      (λ gone. refuse refusal.Removed)
      (λ kept. guarded (nat_lt at n.floor) (nat_le at n.committed) (refused n i refusal.TooOld) a
      (refused n i refusal.NotCommitted) (refuse refusal.TooOld)
      (λ low le. reply_read (ltb-false at n.floor low) (leb-true at n.committed le))
      (refuse refusal.NotCommitted))

  -- a read is refused, or shows
  pub read_cases : (x : ℕ) (n : MachineState A) (i : ℕ) (at : Option ℕ)
      → ((why : Refusal) → P (refused n i why))
      → (n.floor ≤ number_read n at → number_read n at ≤ n.committed
      → P (reply_read n i (number_read n at))) → P (read x n i at)
  read_cases x n i at refuse shows =
      readable_cases x n i (number_read n at) (reply_read n i (number_read n at)) refuse shows

  -- a snapshot is refused, or opened
  pub open_cases : (x : ℕ) (n : MachineState A) (i : ℕ) (at : Option ℕ)
      → ((why : Refusal) → P (refused n i why))
      → (n.floor ≤ number_read n at → number_read n at ≤ n.committed
      → P (add_snapshot n i (number_read n at))) → P (open_snapshot x n i at)
  open_cases x n i at refuse opens =
      let many = refused n i refusal.TooManySnapshots in
      let opened = add_snapshot n i (number_read n at) in
      let full = length n.snapshots == 64 in
      readable_cases x n i (number_read n at) (cond full many opened) refuse
      (λ low le. cond_both full many opened P (λ full. refuse refusal.TooManySnapshots)
      (λ room. opens low le))

  -- a close is refused, or closes
  pub close_cases : (x : ℕ) (n : MachineState A) (i s : ℕ) → ((why : Refusal) → P (refused n i why))
      → P (remove_snapshot n i s) → P (close_snapshot x n i s)
  close_cases x n i s refuse closes =
      guarded (not (has n.ids x)) (is_open s n.snapshots) (refused n i refusal.Removed)
      (remove_snapshot n i s) (refused n i refusal.NoSuchSnapshot) (refuse refusal.Removed)
      (λ here there. closes) (refuse refusal.NoSuchSnapshot)
