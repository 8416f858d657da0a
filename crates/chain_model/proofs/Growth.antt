-- What a step makes of what outlives a stop, and of the node that it leaves running.
use Rattle.std.proofs.Common.{◌<◌, ◌≡◌, ℕ, suc, List, [], ◌∷◌, ◌++◌, length, Bool, true, false}
use Rattle.std.proofs.Common.{cond, nat_le, nat_lt, sym, refl, ◌∙◌, subst, arith}
use Rattle.std.proofs.lemmas.Bool.{cond_both}
use Rattle.kv_types.specs.{IsPrefix, Marked}
use Rattle.configurations.specs.{is_tail}
use Rattle.chain_model.specs.declared.refusal.Refusal.{Refusal}
use Rattle.chain_model.specs.declared.drop_reason.DropReason.TheVariants as reason
use Rattle.chain_model.specs.declared.drop_reason.DropReason.{DropReason}
use Rattle.chain_model.specs.Messages.{Ack, Forward, Message}
use Rattle.chain_model.specs.Requests.{Close, Closed, Committed, Open, Opened, Read, Response}
use Rattle.chain_model.specs.Requests.{Request, Submit}
use Rattle.chain_model.specs.Machine.{Answer, MachineState, dropped_for, refused, replied, silent}
use Rattle.kv_types.specs.Snapshots.{without}
use Rattle.chain_model.specs.Rules.{accept, ack, acknowledge, adopt, append, ask, forward}
use Rattle.chain_model.specs.Rules.{longer_for, moved, notice, number_read, on_ack, receive}
use Rattle.chain_model.specs.Rules.{resend, reply_read, tail_commits, receive_ack, ack_duplicate}
use Rattle.chain_model.specs.Rules.{queued, repeat, tend, tick}
use Rattle.chain_model.specs.Rules.{acked}
use Rattle.chain_model.specs.Growth.{StaysRunning, Grows, StepsStayRunning}
use Rattle.kv_types.specs.ListsLemmas.{begins_more, begins_refl, begins_trans}
use Rattle.chain_model.proofs.Cases.{ack_cases, close_cases, forward_cases, notice_cases}
use Rattle.chain_model.proofs.Cases.{open_cases, read_cases, submit_cases, take_ack_cases}
use Rattle.chain_model.proofs.Cases.{take_forward_cases, tick_cases}

-- a node is itself later
pub grows_refl : {A : Type 0} (n : MachineState A) → Grows n n
grows_refl n = record {
  list = begins_refl n.list;
  epoch = omega arith;
  floor = omega arith;
  kept = omega arith;
}

-- later than later is later
pub grows_trans : {A : Type 0} {n m o : MachineState A} → Grows n m → Grows m o → Grows n o
grows_trans a b = record {
  list = begins_trans a.list b.list;
  epoch = omega (arith, a.epoch, b.epoch);
  floor = omega (arith, a.floor, b.floor);
  kept = omega (arith, a.kept, b.kept);
}

-- nothing changed but what a stop forgets
pub record Same {A : Type 0} (n m : MachineState A) : Type 0 where
  pub list : m.list ≡ n.list
  pub epoch : m.epoch ≡ n.epoch
  pub floor : m.floor ≡ n.floor
  pub kept : m.kept ≡ n.kept
  pub running : m.running ≡ n.running

-- nothing is changed by nothing
same_refl : {A : Type 0} (n : MachineState A) → Same n n
same_refl n = record { list = refl; epoch = refl; floor = refl; kept = refl; running = refl }

-- an answer that leaves the node as it was
still : {A : Type 0} (n : MachineState A) (a : Answer A) → Same n a.node → StaysRunning n a
still n a s = record {
  grows = record {
    list = subst (λ l. IsPrefix n.list l) (sym s.list) (begins_refl n.list);
    epoch = omega (arith, s.epoch);
    floor = omega (arith, s.floor);
    kept = omega (arith, s.kept);
  };
  running = s.running;
}

-- an answer that appends a batch
longer : {A : Type 0} (n : MachineState A) (b : Marked A) (m : MachineState A) (a : Answer A)
    → m.list ≡ n.list ++ b ∷ [] → Same m a.node → m.epoch ≡ n.epoch → m.floor ≡ n.floor
    → m.kept ≡ n.kept → m.running ≡ n.running → StaysRunning n a
longer n b m a list s epoch floor kept running = record {
  grows = record {
    list = subst (λ l. IsPrefix n.list l) (sym (s.list ∙ list)) (begins_more n.list (b ∷ []));
    epoch = omega (arith, s.epoch, epoch);
    floor = omega (arith, s.floor, floor);
    kept = omega (arith, s.kept, kept);
  };
  running = s.running ∙ running;
}

-- a tend only raises floor and kept number
pub tend_goes_on : {A : Type 0} (n : MachineState A) (rises : Bool) (gives_up : ℕ)
    → StaysRunning n (tend n rises gives_up)
tend_goes_on n false gives_up = still n (silent n) (same_refl n)
tend_goes_on n true gives_up = record {
  grows = record {
    list = begins_refl n.list;
    epoch = omega arith;
    floor = omega arith;
    kept = omega arith;
  };
  running = refl;
}

module _ {A : Type 0} (x : ℕ) where
  -- a tail that commits changes nothing else
  tail_same : (n : MachineState A) → Same n (tail_commits x n)
  tail_same n =
      cond_both (is_tail n.ids x) (record n { committed = length n.list }) n (λ m. Same n m)
      (λ is. record { list = refl; epoch = refl; floor = refl; kept = refl; running = refl })
      (λ not. same_refl n)

  -- a stop forgets pending requests
  acknowledged : (n m : MachineState A) (fs : List (Message A)) → Same n m → Same n
      (acknowledge m fs).node
  acknowledged n m fs s = record {
    list = s.list;
    epoch = s.epoch;
    floor = s.floor;
    kept = s.kept;
    running = s.running;
  }

  -- an acknowledgement leaves the list
  pub take_ack_list : (n : MachineState A) (committed have : ℕ)
      → (receive_ack x n committed have).node.list ≡ n.list
  take_ack_list n committed have =
      take_ack_cases (λ a. a.node.list ≡ n.list) x n committed have (λ low. refl) refl

  -- a drop leaves the node
  drops : (n : MachineState A) (why : DropReason) → StaysRunning n (dropped_for n why)
  drops n why = still n (dropped_for n why) (same_refl n)

  -- a refusal leaves the node
  refuses : (n : MachineState A) (i : ℕ) (why : Refusal) → StaysRunning n (refused n i why)
  refuses n i why = still n (refused n i why) (same_refl n)

  -- the head that accepts a batch stays running and grows
  accept_goes_on : (n : MachineState A) (i : ℕ) (b : Marked A) → StaysRunning n (accept x n i b)
  accept_goes_on n i b =
      let more = longer_for n i b in
      let m = tail_commits x more in
      let fs = forward x m (suc (length n.list)) in
      longer n b more (accept x n i b) refl (acknowledged more m fs (tail_same more)) refl refl
      refl refl

  -- a head that has the batch stays running and grows
  repeat_goes_on : (n : MachineState A) (i k : ℕ) → StaysRunning n (repeat n i k)
  repeat_goes_on n i k =
      let waits = silent (record n { pending = queued (k, i) n.pending }) in
      cond_both (nat_le k n.committed) (replied n (Committed i k)) waits (StaysRunning n)
      (λ le. still n (replied n (Committed i k)) (same_refl n))
      (λ gt. still n waits
      (record { list = refl; epoch = refl; floor = refl; kept = refl; running = refl }))

  -- a node that appends a batch stays running and grows
  append_goes_on : (n : MachineState A) (k : ℕ) (b : Marked A) → StaysRunning n (append x n k b)
  append_goes_on n k b =
      let more : MachineState A = record n { list = n.list ++ b ∷ [] } in
      longer n b more (append x n k b) refl (tail_same more) refl refl refl refl

  -- a node that learns a committed number stays running and grows
  pass_on_goes_on : (n : MachineState A) (committed have : ℕ)
      → StaysRunning n (on_ack x n committed have)
  pass_on_goes_on n committed have =
      let m = acked n committed have in
      let fs = cond (nat_lt n.committed committed) (ack x m) [] in
      let same : Same n m =
      record { list = refl; epoch = refl; floor = refl; kept = refl; running = refl } in
      still n (on_ack x n committed have) (acknowledged n m fs same)

  -- a node that adopts a later configuration stays running and grows
  adopt_goes_on : (n : MachineState A) (e : ℕ) (ids : List ℕ) → n.epoch < e → StaysRunning n
      (adopt x n e ids)
  adopt_goes_on n e ids later =
      let s : Same (moved x n e ids) (tail_commits x (moved x n e ids)) =
      tail_same (moved x n e ids) in
      record {
        grows = record {
          list = subst (λ l. IsPrefix n.list l) (sym s.list) (begins_refl n.list);
          epoch = omega (arith, s.epoch, later);
          floor = omega (arith, s.floor);
          kept = omega (arith, s.kept);
        };
        running = s.running;
      }

  -- snapshots are forgotten by a stop
  snapshots_go_on : (n : MachineState A) (ss : List ℕ) (r : Response A)
      → StaysRunning n (replied (record n { snapshots = ss }) r)
  snapshots_go_on n ss r =
      still n (replied (record n { snapshots = ss }) r)
      (record { list = refl; epoch = refl; floor = refl; kept = refl; running = refl })

  -- a node stays running and grows at a request
  pub ask_goes_on : (n : MachineState A) (i : ℕ) (q : Request A) → StaysRunning n (ask x n i q)
  ask_goes_on n i (Submit b) =
      submit_cases (StaysRunning n) x n i b (refuses n i) (λ here head next. accept_goes_on n i b)
      (λ k mark bears held. repeat_goes_on n i k)
  ask_goes_on n i (Read at) =
      read_cases (StaysRunning n) x n i at (refuses n i)
      (λ low le. still n (reply_read n i (number_read n at)) (same_refl n))
  ask_goes_on n i (Open at) =
      let s = number_read n at in
      open_cases (StaysRunning n) x n i at (refuses n i)
      (λ low le. snapshots_go_on n (s ∷ n.snapshots) (Opened i s))
  ask_goes_on n i (Close s) =
      close_cases (StaysRunning n) x n i s (refuses n i)
      (snapshots_go_on n (without s n.snapshots) (Closed i s))

  -- a node stays running and grows at a tick
  pub tick_goes_on : (n : MachineState A) → StaysRunning n (tick x n)
  tick_goes_on n =
      tick_cases (StaysRunning n) x n (still n (resend x n) (same_refl n)) (drops n reason.Removed)

  -- a node stays running and grows at a notice
  pub notice_goes_on : (n : MachineState A) (e : ℕ) (ids : List ℕ)
      → StaysRunning n (notice x n e ids)
  notice_goes_on n e ids = notice_cases (StaysRunning n) x n e ids (drops n) (adopt_goes_on n e ids)

  -- a node stays running and grows at a frame
  pub receive_goes_on : (n : MachineState A) (f : Message A) → StaysRunning n (receive x n f)
  receive_goes_on n (Forward to e p k b) =
      forward_cases (StaysRunning n) x n to e p k b (drops n)
      (λ here now is. take_forward_cases (StaysRunning n) x n k b (λ next. append_goes_on n k b)
      (still n (ack_duplicate x n) (same_refl n)))
  receive_goes_on n (Ack to e s committed have) =
      ack_cases (StaysRunning n) x n to e s committed have (drops n)
      (λ here now is. take_ack_cases (StaysRunning n) x n committed have
      (λ low. pass_on_goes_on n committed have) (drops n reason.BadAck))

-- every step that answers leaves its node running, and later
pub steps_stay_running : {A : Type 0} → StepsStayRunning A
steps_stay_running = record {
  asked = λ x i n q. ask_goes_on x n i q;
  received = λ x n f. receive_goes_on x n f;
  noticed = λ x e n ids. notice_goes_on x n e ids;
  ticked = λ x n. tick_goes_on x n;
  tended = λ n rises gives_up. tend_goes_on n rises gives_up;
}
