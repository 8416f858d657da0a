-- Each event keeps the invariant of a world, so a run does.
use Rattle.std.proofs.Common.{◌≡◌, ℕ, List, [], ◌∷◌, ◌++◌, length, Option, Some, None, Bool, true}
use Rattle.std.proofs.Common.{◌∙◌}
use Rattle.std.proofs.Common.{◌==◌, nat_lt, sym, refl, ap, subst, append_assoc, append-nil}
use Rattle.std.proofs.Common.{eqb-true, eq-eqb, ltb-true}
use Rattle.std.proofs.lemmas.Bool.{cond_both, cond-true, false≢true}
use Rattle.kv_types.specs.{IsPrefix, Marked, place}
use Rattle.configurations.specs.{at_epoch, is_tail}
use Rattle.chain_model.specs.declared.refusal.Refusal.TheVariants as refusal
use Rattle.chain_model.specs.declared.refusal.Refusal.{Refusal}
use Rattle.chain_model.specs.declared.drop_reason.DropReason.TheVariants as reason
use Rattle.chain_model.specs.declared.drop_reason.DropReason.{DropReason}
use Rattle.chain_model.specs.Messages.{Message, addressee}
use Rattle.chain_model.specs.Requests.{Close, Open, Read, Request, Submit}
use Rattle.chain_model.specs.Machine.{Answer, MachineState, dropped_for, refused, silent, started}
use Rattle.chain_model.specs.Machine.{stopped}
use Rattle.chain_model.specs.Rules.{ask, longer_for, notice, receive, submit, tail_commits, tend}
use Rattle.chain_model.specs.Rules.{tick}
use Rattle.chain_model.specs.System.{Answered, Ask, Deliver, SystemEvent, Lost, Notice, Outcome}
use Rattle.chain_model.specs.System.{Start}
use Rattle.chain_model.specs.System.{Stop, StoppedAfter, StoppedBefore, Tend, Tick, StepResult}
use Rattle.chain_model.specs.System.{SystemState}
use Rattle.chain_model.specs.System.{after, answers, as_completed, delivered, state_after}
use Rattle.chain_model.specs.System.{if_running}
use Rattle.chain_model.specs.System.{nothing, outcome, run, stops, dispatched}
use Rattle.chain_model.specs.Order.{WasCommitted}
use Rattle.kv_types.specs.ListsLemmas.{begins_refl, every_append, every_map, every_place}
use Rattle.kv_types.specs.ListsLemmas.{part_both}
use Rattle.chain_model.proofs.Configuration.{IsChain}
use Rattle.chain_model.proofs.Submitted.{AreAnswers, IsHandIn, WasHandedIn, accepted}
use Rattle.chain_model.proofs.Submitted.{accepted_by, among_part, repeat_refuses_none}
use Rattle.chain_model.proofs.Marks.{Taken, taken_wider}
use Rattle.chain_model.proofs.Submitted.{due_refuses_none, has_refusal}
use Rattle.chain_model.proofs.Cases.{submit_cases}
use Rattle.chain_model.proofs.Invariant.{FrameOk, NodeOk, ReplyOk, WorldOk, frame_grows, lists_of}
use Rattle.chain_model.proofs.Invariant.{node_grows, reply_grows}
use Rattle.chain_model.proofs.Growth.{ask_goes_on, notice_goes_on, receive_goes_on, tend_goes_on}
use Rattle.chain_model.proofs.Growth.{tick_goes_on}
use Rattle.chain_model.proofs.Sends.{AnswerOk, Lands, dropped_ok, refused_ok, silent_ok}
use Rattle.chain_model.proofs.Steps.{notice_ok, receive_ok, tick_ok}
use Rattle.chain_model.proofs.Queries.{RequestOk, ask_ok, started_ok, stopped_ok, tend_ok}

-- the world after an answer of node x
abbrev pub put : {A : Type 0} → SystemState A → ℕ → Answer A → SystemState A
put w x a = after w (answers x a)

-- the lists of a world's tails at their epochs are committed
abbrev pub TailsIn : {A : Type 0} → List (List ℕ) → List (SystemEvent A) → SystemState A → Type 0
TailsIn cs events w = (t : ℕ) → is_tail (at_epoch cs (w.nodes t).epoch) t ≡ true
    → WasCommitted cs events (w.nodes t).epoch (w.nodes t).list

module _ {A : Type 0} (cs : List (List ℕ)) (lawful : IsChain cs) (events : List (SystemEvent A))
    (h : List (Marked A)) (w : SystemState A) (ok : WorldOk cs events h w)
    (r : List (Marked A)) where
  -- the lists after one node's step
  abbrev new : ℕ → Answer A → ℕ → List (Marked A)
  new x a y = lists_of (put w x a) y

  -- all lists begin those after an answer
  grow : (x : ℕ) (a : Answer A) → IsPrefix (w.nodes x).list a.node.list → (y : ℕ)
      → IsPrefix (lists_of w y) (new x a y)
  grow x a g y =
      cond_both {A = MachineState A} (x == y) a.node (w.nodes y)
      (λ n. IsPrefix (w.nodes y).list n.list)
      (λ is. subst (λ z. IsPrefix (w.nodes z).list a.node.list) (eqb-true x y is) g)
      (λ not. begins_refl (w.nodes y).list)

  -- the list of the node is the answer's
  here : (x : ℕ) (a : Answer A) → new x a x ≡ a.node.list
  here x a = ap (λ (n : MachineState A). n.list)
      (cond-true (x == x) a.node (w.nodes x) (eq-eqb x x refl))

  -- other lists are as before
  apart : (x : ℕ) (a : Answer A) (z : ℕ) → (z ≡ x → ⊥) → new x a z ≡ lists_of w z
  apart x a z other = cond_both {A = MachineState A} (x == z) a.node (w.nodes z)
      (λ n. n.list ≡ (w.nodes z).list) (λ is. absurd (other (sym (eqb-true x z is)))) (λ not. refl)

  -- a node's new list is the answer's
  lands : (x : ℕ) (a : Answer A) → TailsIn cs events (put w x a)
      → Lands cs events (new x a) x a.node
  lands x a tails = record {
    list = here x a;
    tail = subst (λ (n : MachineState A). is_tail (at_epoch cs n.epoch) x ≡ true
        → WasCommitted cs events n.epoch n.list) (cond-true (x == x) a.node (w.nodes x)
        (eq-eqb x x refl)) (tails x);
  }

  -- an answer that keeps the invariant of its node keeps that of the world
  put_ok : (x : ℕ) (a : Answer A) → IsPrefix (w.nodes x).list a.node.list
      → AnswerOk cs events (h ++ r) (new x a) x a → WorldOk cs events (h ++ r) (put w x a)
  put_ok x a g good = record {
    nodes = λ y. cond_both (x == y) a.node (w.nodes y)
        (λ n. NodeOk cs events (h ++ r) (new x a) y n)
        (λ is. subst (λ z. NodeOk cs events (h ++ r) (new x a) z a.node) (eqb-true x y is)
        good.node)
        (λ not. node_grows cs events (lists_of w) (new x a) (grow x a g) h r y (w.nodes y)
        (ok.nodes y));
    frames = every_append (FrameOk cs events (new x a)) w.frames a.frames
        (every_map (FrameOk cs events (lists_of w)) (FrameOk cs events (new x a)) w.frames
        (frame_grows cs events (lists_of w) (new x a) (grow x a g)) ok.frames) good.frames;
    replies = every_append (ReplyOk cs events (new x a)) w.replies a.replies
        (every_map (ReplyOk cs events (lists_of w)) (ReplyOk cs events (new x a)) w.replies
        (reply_grows cs events (lists_of w) (new x a) (grow x a g)) ok.replies) good.replies;
  }

  -- where there was nothing to do
  pub nothing_ok : WorldOk cs events (h ++ r) (after w nothing)
  nothing_ok = record {
    nodes = λ y. node_grows cs events (lists_of w) (lists_of w) (λ z. begins_refl (lists_of w z))
        h r y (w.nodes y) (ok.nodes y);
    frames = every_append (FrameOk cs events (lists_of w)) w.frames [] ok.frames tt;
    replies = every_append (ReplyOk cs events (lists_of w)) w.replies [] ok.replies tt;
  }

  -- what answer a of node x keeps the invariant of it
  abbrev Keeps : ℕ → Answer A → Type 0
  Keeps x a = (lists : ℕ → List (Marked A)) → ((y : ℕ) → IsPrefix (lists_of w y) (lists y))
      → ((z : ℕ) → (z ≡ x → ⊥) → lists z ≡ lists_of w z) → NodeOk cs events (h ++ r) lists x
      (w.nodes x) → Lands cs events lists x a.node → AnswerOk cs events (h ++ r) lists x a

  -- the same of an answer that is made from what holds before
  answer_ok : (x : ℕ) (a : Answer A) → IsPrefix (w.nodes x).list a.node.list → Keeps x a
      → TailsIn cs events (put w x a) → WorldOk cs events (h ++ r) (put w x a)
  answer_ok x a g keeps tails =
      put_ok x a g (keeps (new x a) (grow x a g) (apart x a)
      (node_grows cs events (lists_of w) (new x a) (grow x a g) h r x (w.nodes x)
      (ok.nodes x)) (lands x a tails))

  -- a step, however it ended
  went_ok : (x : ℕ) (a : Answer A) (went : StepResult) → IsPrefix (w.nodes x).list a.node.list
      → Keeps x a → TailsIn cs events (after w (as_completed x (w.nodes x) a went))
      → WorldOk cs events (h ++ r) (after w (as_completed x (w.nodes x) a went))
  went_ok x a Answered g keeps tails = answer_ok x a g keeps tails
  went_ok x a StoppedBefore g keeps tails =
      let n = w.nodes x in
      answer_ok x (silent (stopped n)) (begins_refl n.list)
      (λ lists up other lifted at. silent_ok cs lawful events (h ++ r) lists x (stopped n)
      (stopped_ok cs lawful events (h ++ r) lists x n lifted)) tails
  went_ok x a StoppedAfter g keeps tails =
      answer_ok x (silent (stopped a.node)) g
      (λ lists up other lifted at. silent_ok cs lawful events (h ++ r) lists x (stopped a.node)
      (stopped_ok cs lawful events (h ++ r) lists x a.node
      (keeps lists up other lifted (record { list = at.list; tail = at.tail })).node)) tails

  -- a drop keeps the invariant
  drops_ok : (x : ℕ) (why : DropReason)
      → TailsIn cs events (put w x (dropped_for (w.nodes x) why)) → WorldOk cs events (h ++ r)
      (put w x (dropped_for (w.nodes x) why))
  drops_ok x why tails = answer_ok x (dropped_for (w.nodes x) why) (begins_refl (w.nodes x).list)
      (λ lists up other lifted at. dropped_ok cs lawful events (h ++ r) lists x (w.nodes x)
      lifted why) tails

  -- a refusal keeps the invariant
  refuses_ok : (x i : ℕ) (why : Refusal)
      → TailsIn cs events (put w x (refused (w.nodes x) i why)) → WorldOk cs events (h ++ r)
      (put w x (refused (w.nodes x) i why))
  refuses_ok x i why tails = answer_ok x (refused (w.nodes x) i why)
      (begins_refl (w.nodes x).list) (λ lists up other lifted at. refused_ok cs lawful events
      (h ++ r) lists x (w.nodes x) i lifted why) tails

  -- an outcome keeps the invariant
  abbrev Holds : Outcome A → Type 0
  Holds o = TailsIn cs events (after w o) → WorldOk cs events (h ++ r) (after w o)

  -- a step of a node that runs, or not
  running_ok : (x : ℕ) (f g : MachineState A → Answer A) (went : StepResult) → IsPrefix
      (w.nodes x).list
      (f (w.nodes x)).node.list → Keeps x (f (w.nodes x)) → Holds (answers x (g (w.nodes x)))
      → Holds (if_running w x f g went)
  running_ok x f g went grows keeps otherwise =
      let n = w.nodes x in
      cond_both n.running (as_completed x n (f n) went) (answers x (g n)) Holds
      (λ up tails. went_ok x (f n) went grows keeps tails) (λ down tails. otherwise tails)

  -- a step that is dropped by a node that does not run
  takes_ok : (x : ℕ) (f : MachineState A → Answer A) (went : StepResult) → IsPrefix (w.nodes x).list
      (f (w.nodes x)).node.list → Keeps x (f (w.nodes x)) → Holds (dispatched w x f went)
  takes_ok x f went grows keeps = running_ok x f (λ n. dropped_for n reason.NotRunning) went
      grows keeps (drops_ok x reason.NotRunning)

  -- a request
  pub asked_ok : (x i : ℕ) (q : Request A) (went : StepResult)
      → ((lists : ℕ → List (Marked A))
      → RequestOk cs lawful events (h ++ r) lists x (w.nodes x) i q)
      → Holds (outcome w cs (Ask x i q went))
  asked_ok x i q went given =
      running_ok x (λ n. ask x n i q) (λ n. refused n i refusal.NotRunning) went
      (ask_goes_on x (w.nodes x) i q).grows.list
      (λ lists up other lifted at. ask_ok cs lawful events (h ++ r) lists x (w.nodes x) i q
      lifted at (given lists))
      (refuses_ok x i refusal.NotRunning)

  -- a submit that the node refused, however the step ended
  refused_went_ok : (x i : ℕ) (b : Marked A) (went : StepResult)
      → has_refusal (as_completed x (w.nodes x) (submit x (w.nodes x) i b) went).replies ≡ true
      → Holds (as_completed x (w.nodes x) (submit x (w.nodes x) i b) went)
  refused_went_ok x i b Answered is =
      let n = w.nodes x in
      let m = tail_commits x (longer_for n i b) in
      submit_cases (λ a. has_refusal a.replies ≡ true → Holds (answers x a)) x n i b
      (λ why _. refuses_ok x i why)
      (λ kept head next is.
      absurd (false≢true (sym (due_refuses_none A m.committed m.pending) ∙ is)))
      (λ k mark bears held is. absurd (false≢true (sym (repeat_refuses_none n i k) ∙ is))) is
  refused_went_ok x i b StoppedBefore is = absurd (false≢true is)
  refused_went_ok x i b StoppedAfter is = absurd (false≢true is)

  -- a submit that was refused changes no list
  pub refused_submit_ok : (x i : ℕ) (b : Marked A) (went : StepResult)
      → has_refusal (outcome w cs (Ask x i (Submit b) went)).replies ≡ true
      → Holds (outcome w cs (Ask x i (Submit b) went))
  refused_submit_ok x i b went =
      let n = w.nodes x in
      cond_both n.running (as_completed x n (submit x n i b) went)
      (answers x (refused n i refusal.NotRunning)) (λ o. has_refusal o.replies ≡ true → Holds o)
      (λ up. refused_went_ok x i b went) (λ down is. refuses_ok x i refusal.NotRunning)

  -- a tick
  pub ticked_ok : (x : ℕ) (went : StepResult) → Holds (outcome w cs (Tick x went))
  ticked_ok x went = takes_ok x (λ n. tick x n) went (tick_goes_on x (w.nodes x)).grows.list
      (λ lists up other lifted at. tick_ok cs lawful events (h ++ r) lists x (w.nodes x) lifted at)

  -- a tend
  pub tended_ok : (x : ℕ) (rises : Bool) (gives_up : ℕ) (went : StepResult)
      → Holds (outcome w cs (Tend x rises gives_up went))
  tended_ok x rises gives_up went = takes_ok x (λ n. tend n rises gives_up) went
      (tend_goes_on (w.nodes x) rises gives_up).grows.list
      (λ lists up other lifted at. tend_ok cs lawful events (h ++ r) lists x (w.nodes x) rises
      gives_up lifted)

  -- a notice
  pub noticed_ok : (x e : ℕ) (went : StepResult) → Holds (outcome w cs (Notice x e went))
  noticed_ok x e went =
      cond_both (nat_lt e (length cs)) (dispatched w x (λ n. notice x n e (at_epoch cs e)) went)
      nothing Holds
      (λ in_range. takes_ok x (λ n. notice x n e (at_epoch cs e)) went
      (notice_goes_on x (w.nodes x) e (at_epoch cs e)).grows.list
      (λ lists up other lifted at. notice_ok cs lawful events (h ++ r) lists x (w.nodes x) e
      (ltb-true e (length cs) in_range) lifted at))
      (λ beyond tails. nothing_ok)

  -- a frame that was sent
  sent_ok : (f : Message A) (went : StepResult) → FrameOk cs events (lists_of w) f
      → Holds (delivered w (Some f) went)
  sent_ok f went sent =
      let x = addressee f in
      takes_ok x (λ n. receive x n f) went (receive_goes_on x (w.nodes x) f).grows.list
      (λ lists up other lifted at. receive_ok cs lawful events (h ++ r) lists x (w.nodes x) f
      lifted (frame_grows cs events (lists_of w) lists up f sent)
      (λ z ne. subst (λ l. Taken l (h ++ r)) (sym (other z ne))
      (taken_wider (lists_of w z) h r (ok.nodes z).sound.handed)) at)

  -- a frame that is delivered
  pub delivered_ok : (p : ℕ) (went : StepResult) (o : Option (Message A)) → place w.frames p ≡ o
      → Holds (delivered w o went)
  delivered_ok p went None e tails = nothing_ok
  delivered_ok p went (Some f) e tails =
      sent_ok f went (every_place (FrameOk cs events (lists_of w)) w.frames p f e ok.frames) tails

  -- a start
  pub start_ok : (x : ℕ) (went : StepResult) → Holds (outcome w cs (Start x went))
  start_ok x went =
      let n = w.nodes x in
      let a = silent (started x n) in
      cond_both n.running (answers x (dropped_for n reason.Running)) (as_completed x n a went) Holds
      (λ up. drops_ok x reason.Running)
      (λ down. went_ok x a went (begins_refl n.list)
      (λ lists up other lifted at. silent_ok cs lawful events (h ++ r) lists x (started x n)
      (started_ok cs lawful events (h ++ r) lists x n lifted
      (record { list = at.list; tail = at.tail }))))

  -- a stop
  pub stop_ok : (x : ℕ) → Holds (outcome w cs (Stop x))
  stop_ok x =
      let n = w.nodes x in
      cond_both n.running (stops x n) (answers x (dropped_for n reason.NotRunning)) Holds
      (λ up tails. went_ok x (silent n) StoppedBefore (begins_refl n.list)
      (λ lists up other lifted at. silent_ok cs lawful events (h ++ r) lists x n lifted) tails)
      (λ down. drops_ok x reason.NotRunning)

module _ {A : Type 0} (cs : List (List ℕ)) (lawful : IsChain cs) (events : List (SystemEvent A))
  where
    -- The batches that an event submits are submitted in the run. Those of h were submitted before,
    -- and are answers where they have a mark that is submitted again.
    pub record EventOk (h : List (Marked A)) (e : SystemEvent A) : Type 0 where
      pub submits : (i : ℕ) (b : Marked A) → IsHandIn i b e → WasHandedIn events i b
      pub again : (i : ℕ) (b : Marked A) → IsHandIn i b e → AreAnswers events h i b

    -- every event keeps the invariant
    pub happens_ok : (h : List (Marked A)) (w : SystemState A) → WorldOk cs events h w
        → (e : SystemEvent A)
        → EventOk h e
        → TailsIn cs events (state_after cs w e) → WorldOk cs events (h ++ accepted_by cs w e)
        (state_after cs w e)
    happens_ok h w ok (Ask x i (Submit b) went) told tails =
        let e = Ask x i (Submit b) went in
        cond_both (has_refusal (outcome w cs e).replies) [] (b ∷ [])
        (λ r. WorldOk cs events (h ++ r) (state_after cs w e))
        (λ is. refused_submit_ok cs lawful events h w ok [] x i b went is tails)
        (λ not. asked_ok cs lawful events h w ok (b ∷ []) x i (Submit b) went
        (λ lists. (
          told.submits i b (refl, refl),
          part_both (w.nodes x).list h b
              (ok.nodes x).sound.handed.part,
          λ a m is. told.again i b (refl, refl) a m
              (among_part a (w.nodes x).list h (ok.nodes x).sound.handed.part is),
        )) tails)
    happens_ok h w ok (Ask x i (Read at) went) told tails = asked_ok cs lawful events h w ok
        (accepted_by cs w (Ask x i (Read at) went)) x i (Read at) went (λ lists. tt) tails
    happens_ok h w ok (Ask x i (Open at) went) told tails = asked_ok cs lawful events h w ok
        (accepted_by cs w (Ask x i (Open at) went)) x i (Open at) went (λ lists. tt) tails
    happens_ok h w ok (Ask x i (Close s) went) told tails = asked_ok cs lawful events h w ok
        (accepted_by cs w (Ask x i (Close s) went)) x i (Close s) went (λ lists. tt) tails
    happens_ok h w ok (Tick x went) told tails =
        ticked_ok cs lawful events h w ok (accepted_by cs w (Tick x went)) x went tails
    happens_ok h w ok (Tend x rises gives_up went) told tails = tended_ok cs lawful events h w ok
        (accepted_by cs w (Tend x rises gives_up went)) x rises gives_up went tails
    happens_ok h w ok (Notice x e went) told tails =
        noticed_ok cs lawful events h w ok (accepted_by cs w (Notice x e went)) x e went tails
    happens_ok h w ok (Deliver p went) told tails = delivered_ok cs lawful events h w ok
        (accepted_by cs w (Deliver p went)) p went (place w.frames p) refl tails
    happens_ok h w ok (Start x went) told tails =
        start_ok cs lawful events h w ok (accepted_by cs w (Start x went)) x went tails
    happens_ok h w ok (Stop x) told tails =
        stop_ok cs lawful events h w ok (accepted_by cs w (Stop x)) x tails
    happens_ok h w ok Lost told tails =
        nothing_ok cs lawful events h w ok (accepted_by cs w Lost)

    -- of every world on the way
    abbrev pub Along : List (SystemEvent A) → SystemState A → Type 0
    Along [] w = Unit {0}
    Along (e ∷ es) w = TailsIn cs events (state_after cs w e) × Along es (state_after cs w e)

    -- .. and of every event, where h was accepted before
    abbrev pub Told : List (SystemEvent A) → List (Marked A) → SystemState A → Type 0
    Told [] h w = Unit {0}
    Told (e ∷ es) h w = EventOk h e × Told es (h ++ accepted_by cs w e) (state_after cs w e)

    -- every run keeps the invariant
    pub run_ok : (es : List (SystemEvent A)) (h : List (Marked A)) (w : SystemState A)
        → Told es h w → Along es w → WorldOk cs events h w
        → WorldOk cs events (h ++ accepted cs es w) (run cs es w)
    run_ok [] h w told along ok = subst (λ l. WorldOk cs events l w) (sym (append-nil h)) ok
    run_ok (e ∷ es) h w told along ok =
        subst (λ l. WorldOk cs events l (run cs es (state_after cs w e)))
        (append_assoc h (accepted_by cs w e) (accepted cs es (state_after cs w e)))
        (run_ok es (h ++ accepted_by cs w e) (state_after cs w e) told.1 along.1
        (happens_ok h w ok e told.0 along.0))
