-- A refused request has no batch among those that a run accepts. Batches bear the places of their
-- events.
use Rattle.std.proofs.Common.{◌≡◌, ◌≢◌, ◌⊎◌, inl, inr, ⊎_elim, ℕ, suc, ◌≤◌, List, [], ◌∷◌, ◌++◌}
use Rattle.std.proofs.Common.{length, flat_map, Option, Some, None, Bool, true, false, nat_lt, sym}
use Rattle.std.proofs.Common.{refl, ap, subst, arith}
use Rattle.std.specs.List.{AllByRecursion}
use Rattle.std.proofs.lemmas.Bool.{cond_both, cond-true, false≢true}
use Rattle.kv_types.specs.{Marked, Part, place}
use Rattle.kv_types.specs.ListsLemmas.{every_append, every_map}
use Rattle.configurations.specs.{at_epoch}
use Rattle.chain_model.specs.declared.refusal.Refusal.{Refusal}
use Rattle.chain_model.specs.declared.refusal.Refusal.TheVariants as refusal
use Rattle.chain_model.specs.declared.drop_reason.DropReason.TheVariants as reason
use Rattle.chain_model.specs.Messages.{Ack, Forward, Message, addressee}
use Rattle.chain_model.specs.Requests.{Close, Closed, Committed, Open, Opened, Read, Refused}
use Rattle.chain_model.specs.Requests.{Request, Response, Shows, Submit}
use Rattle.chain_model.specs.Machine.{Answer, MachineState, dropped_for, refused, silent, started}
use Rattle.chain_model.specs.Rules.{acked, adopted, ask, longer_for, notice, receive, tail_commits}
use Rattle.chain_model.specs.Rules.{tend, tick}
use Rattle.chain_model.specs.System.{Answered, Ask, Deliver, Lost, Notice, Outcome, Start}
use Rattle.chain_model.specs.System.{StepResult}
use Rattle.chain_model.specs.System.{Stop, StoppedAfter, StoppedBefore, SystemEvent, SystemState}
use Rattle.chain_model.specs.System.{Tend, Tick, answers, as_completed, delivered, dispatched}
use Rattle.chain_model.specs.System.{nothing, outcome, outcomes, state_after, stops}
use Rattle.chain_model.proofs.Cases.{ack_cases, close_cases, forward_cases, notice_cases}
use Rattle.chain_model.proofs.Cases.{open_cases, read_cases, submit_cases, take_ack_cases}
use Rattle.chain_model.proofs.Cases.{take_forward_cases, tick_cases}
use Rattle.chain_model.proofs.Submitted.{accepted, accepted_by, due_refuses_none, handed_by}
use Rattle.chain_model.proofs.Submitted.{has_refusal, repeat_refuses_none}

-- ---- what an event refuses

-- these replies refuse nothing, or refuse request k alone
abbrev RefusesOnly : {B : Type 0} → ℕ → List (Response B) → Type 0
RefusesOnly k replies =
    (has_refusal replies ≡ false) ⊎ ((why : Refusal) × (replies ≡ Refused k why ∷ []))

-- an event with a request has this number
abbrev pub HasNumber : {B : Type 0} → ℕ → SystemEvent B → Type 0
HasNumber k (Ask x i request went) = i ≡ k
HasNumber k event = Unit {0}

module _ {B : Type 0} (cs : List (List ℕ)) (w : SystemState B) where
  -- a refusal of the request with this number
  own : (k i : ℕ) (why : Refusal) → i ≡ k → RefusesOnly {B = B} k (Refused i why ∷ [])
  own k i why same =
      subst (λ (j : ℕ). RefusesOnly {B = B} j (Refused i why ∷ [])) same (inr (why, refl))

  -- the answer to a request
  asked : (k x i : ℕ) (request : Request B) → i ≡ k →
      RefusesOnly k (ask x (w.nodes x) i request).replies
  asked k x i request same = by request
    where
      Fits : Answer B → Type 0
      Fits a = RefusesOnly k a.replies

      refuses : (why : Refusal) → Fits (refused (w.nodes x) i why)
      refuses why = own k i why same

      by : (request : Request B) → Fits (ask x (w.nodes x) i request)
      by (Submit b) =
          let m = tail_commits x (longer_for (w.nodes x) i b) in
          submit_cases Fits x (w.nodes x) i b refuses
          (λ kept head next. inl (due_refuses_none B m.committed m.pending))
          (λ k mark bears held. inl (repeat_refuses_none (w.nodes x) i k))
      by (Read at) = read_cases Fits x (w.nodes x) i at refuses (λ low le. inl refl)
      by (Open at) = open_cases Fits x (w.nodes x) i at refuses (λ low le. inl refl)
      by (Close s) = close_cases Fits x (w.nodes x) i s refuses (inl refl)

  -- .. however the step ended
  asked_went : (k x i : ℕ) (request : Request B) (went : StepResult) → i ≡ k →
      RefusesOnly k (as_completed x (w.nodes x) (ask x (w.nodes x) i request) went).replies
  asked_went k x i request Answered same = asked k x i request same
  asked_went k x i request StoppedBefore same = inl refl
  asked_went k x i request StoppedAfter same = inl refl

  -- these replies of an outcome refuse nothing
  abbrev Quiet : Outcome B → Type 0
  Quiet o = has_refusal o.replies ≡ false

  -- a step that refuses nothing, however it ended
  quiet_went : (x : ℕ) (a : Answer B) (went : StepResult) → has_refusal a.replies ≡ false →
      Quiet (as_completed x (w.nodes x) a went)
  quiet_went x a Answered quiet = quiet
  quiet_went x a StoppedBefore quiet = refl
  quiet_went x a StoppedAfter quiet = refl

  -- .. or was dropped, where the node does not run
  quiet_dispatched : (x : ℕ) (f : MachineState B → Answer B) (went : StepResult) →
      has_refusal (f (w.nodes x)).replies ≡ false → Quiet (dispatched w x f went)
  quiet_dispatched x f went quiet =
      let n = w.nodes x in
      cond_both n.running (as_completed x n (f n) went)
      (answers x (dropped_for n reason.NotRunning)) Quiet
      (λ up. quiet_went x (f n) went quiet) (λ down. refl)

  -- what a node answers to a frame refuses nothing
  quiet_frame : (x : ℕ) (n : MachineState B) (frame : Message B) →
      has_refusal (receive x n frame).replies ≡ false
  quiet_frame x n (Forward to e from k b) =
      forward_cases (λ a. has_refusal a.replies ≡ false) x n to e from k b (λ why. refl)
      (λ here now is. take_forward_cases (λ a. has_refusal a.replies ≡ false) x n k b
      (λ next. refl) refl)
  quiet_frame x n (Ack to e from committed have) =
      let m = acked n committed have in
      ack_cases (λ a. has_refusal a.replies ≡ false) x n to e from committed have (λ why. refl)
      (λ here now is. take_ack_cases (λ a. has_refusal a.replies ≡ false) x n committed have
      (λ low. due_refuses_none B m.committed m.pending) refl)

  -- so does the delivery of one
  quiet_delivered : (it : Option (Message B)) (went : StepResult) → Quiet (delivered w it went)
  quiet_delivered None went = refl
  quiet_delivered (Some frame) went =
      let x = addressee frame in
      quiet_dispatched x (λ n. receive x n frame) went (quiet_frame x (w.nodes x) frame)

  -- a tend
  quiet_tend : (n : MachineState B) (rises : Bool) (gives_up : ℕ) →
      has_refusal (tend n rises gives_up).replies ≡ false
  quiet_tend n false gives_up = refl
  quiet_tend n true gives_up = refl

  -- each event refuses at most its own request
  event_refuses : (k : ℕ) (e : SystemEvent B) → HasNumber k e →
      RefusesOnly k (outcome w cs e).replies
  event_refuses k (Ask x i request went) same =
      let n = w.nodes x in
      cond_both n.running (as_completed x n (ask x n i request) went)
      (answers x (refused n i refusal.NotRunning)) (λ o. RefusesOnly k o.replies)
      (λ up. asked_went k x i request went same)
      (λ down. own k i refusal.NotRunning same)
  event_refuses k (Tick x went) is = inl (quiet_dispatched x (λ n. tick x n) went
      (tick_cases (λ a. has_refusal a.replies ≡ false) x (w.nodes x) refl refl))
  event_refuses k (Tend x rises gives_up went) is =
      inl (quiet_dispatched x (λ n. tend n rises gives_up) went
      (quiet_tend (w.nodes x) rises gives_up))
  event_refuses k (Notice x e went) is =
      let n = w.nodes x in
      let m = adopted x n e (at_epoch cs e) in
      inl (cond_both (nat_lt e (length cs))
      (dispatched w x (λ n. notice x n e (at_epoch cs e)) went) nothing Quiet
      (λ within. quiet_dispatched x (λ n. notice x n e (at_epoch cs e)) went
      (notice_cases (λ a. has_refusal a.replies ≡ false) x n e (at_epoch cs e) (λ why. refl)
      (λ later. due_refuses_none B m.committed m.pending)))
      (λ beyond. refl))
  event_refuses k (Deliver p went) is = inl (quiet_delivered (place w.frames p) went)
  event_refuses k (Start x went) is =
      let n = w.nodes x in
      inl (cond_both n.running (answers x (dropped_for n reason.Running))
      (as_completed x n (silent (started x n)) went) Quiet (λ up. refl)
      (λ down. quiet_went x (silent (started x n)) went refl))
  event_refuses k (Stop x) is =
      let n = w.nodes x in
      inl (cond_both n.running (stops x n) (answers x (dropped_for n reason.NotRunning)) Quiet
      (λ up. refl) (λ down. refl))
  event_refuses k Lost is = inl refl

-- ---- what a run accepts

module _ {A : Type 0} where
  -- the batch has this place
  abbrev IsAt : ℕ → Marked (ℕ × A) → Type 0
  IsAt k p = p.content.0 ≡ k

  -- the events from place k on have the numbers of their places, and so have their batches
  abbrev pub AreNumbered : ℕ → List (SystemEvent (ℕ × A)) → Type 0
  AreNumbered k [] = Unit {0}
  AreNumbered k (e ∷ es) =
      (HasNumber k e × AllByRecursion (IsAt k) (handed_by e)) × AreNumbered (suc k) es

  -- a refusal is of a request from k on, of which none of these batches is
  abbrev pub RefusedIsNot : ℕ → List (Marked (ℕ × A)) → Response (ℕ × A) → Type 0
  RefusedIsNot k B (Refused i why) = (k ≤ i)
      × AllByRecursion (λ (p : Marked (ℕ × A)). p.content.0 ≢ i) B
  RefusedIsNot k B reply = Unit {0}

  -- replies that refuse nothing say nothing
  quiet_replies : (k : ℕ) (B : List (Marked (ℕ × A))) (replies : List (Response (ℕ × A))) →
      has_refusal replies ≡ false → AllByRecursion (RefusedIsNot k B) replies
  quiet_replies k B [] is = tt
  quiet_replies k B (Committed i n ∷ replies) is = (tt, quiet_replies k B replies is)
  quiet_replies k B (Shows i n l ∷ replies) is = (tt, quiet_replies k B replies is)
  quiet_replies k B (Opened i n ∷ replies) is = (tt, quiet_replies k B replies is)
  quiet_replies k B (Closed i n ∷ replies) is = (tt, quiet_replies k B replies is)
  quiet_replies k B (Refused i why ∷ replies) is = absurd (false≢true (sym is))

  module _ (cs : List (List ℕ)) where
    -- what holds of the batches of an event holds of those that it has accepted
    accepted_have : (P : Marked (ℕ × A) → Type 0) (w : SystemState (ℕ × A))
        (e : SystemEvent (ℕ × A)) →
        AllByRecursion P (handed_by e) → AllByRecursion P (accepted_by cs w e)
    accepted_have P w e each =
        cond_both (has_refusal (outcome w cs e).replies) [] (handed_by e) (AllByRecursion P)
        (λ _. tt) (λ _. each)

    -- accepted batches have places from k on
    accepted_from : (k : ℕ) (es : List (SystemEvent (ℕ × A))) (w : SystemState (ℕ × A)) →
        AreNumbered k es
        → AllByRecursion (λ (p : Marked (ℕ × A)). k ≤ p.content.0) (accepted cs es w)
    accepted_from k [] w are = tt
    accepted_from k (e ∷ es) w are =
        let next = state_after cs w e in
        every_append (λ (p : Marked (ℕ × A)). k ≤ p.content.0) (accepted_by cs w e)
        (accepted cs es next)
        (accepted_have (λ p. k ≤ p.content.0) w e
        (every_map (IsAt k) (λ p. k ≤ p.content.0) (handed_by e)
        (λ p is. omega (arith, is)) are.0.1))
        (every_map (λ (p : Marked (ℕ × A)). suc k ≤ p.content.0) (λ p. k ≤ p.content.0)
        (accepted cs es next)
        (λ p le. omega (arith, le)) (accepted_from (suc k) es next are.1))

    module _ (k : ℕ) (e : SystemEvent (ℕ × A)) (es : List (SystemEvent (ℕ × A)))
        (w : SystemState (ℕ × A)) (are : AreNumbered k (e ∷ es)) where
      -- the batches that are accepted after the event
      abbrev rest : List (Marked (ℕ × A))
      rest = accepted cs es (state_after cs w e)

      -- a later refusal is of another request than this event's
      later : (reply : Response (ℕ × A)) → RefusedIsNot (suc k) rest reply →
          RefusedIsNot k (accepted_by cs w e ++ rest) reply
      later (Refused i why) is = (
        omega (arith, is.0),
        every_append (λ (p : Marked (ℕ × A)). p.content.0 ≢ i) (accepted_by cs w e) rest
            (accepted_have (λ p. p.content.0 ≢ i) w e
            (every_map (IsAt k) (λ p. p.content.0 ≢ i) (handed_by e)
            (λ p at same. omega (arith, at, same, is.0)) are.0.1)) is.1,
      )
      later (Committed i n) is = tt
      later (Shows i n l) is = tt
      later (Opened i n) is = tt
      later (Closed i n) is = tt

      -- where the event refuses its own request, it accepts nothing
      now : AllByRecursion (RefusedIsNot k (accepted_by cs w e ++ rest)) (outcome w cs e).replies
      now =
          let replies = (outcome w cs e).replies in
          let lacks : AllByRecursion (λ (p : Marked (ℕ × A)). p.content.0 ≢ k) rest =
          every_map (λ (p : Marked (ℕ × A)). suc k ≤ p.content.0) (λ p. p.content.0 ≢ k) rest
          (λ p le same. omega (arith, le, same))
          (accepted_from (suc k) es (state_after cs w e) are.1)
          in
          ⊎_elim (quiet_replies k (accepted_by cs w e ++ rest) replies)
          (λ (one : (why : Refusal) × (replies ≡ Refused k why ∷ [])).
          let none : accepted_by cs w e ≡ [] =
          cond-true (has_refusal replies) [] (handed_by e) (ap has_refusal one.1) in
          subst (λ l. AllByRecursion (RefusedIsNot k (accepted_by cs w e ++ rest)) l) (sym one.1) (
            (
              omega arith,
              subst (λ l. AllByRecursion (λ (p : Marked (ℕ × A)). p.content.0 ≢ k) (l ++ rest))
                  (sym none) lacks,
            ),
            tt,
          ))
          (event_refuses cs w k e are.0.0)

    -- no refused request has a batch among those that the run accepts
    pub refused_is_not : (k : ℕ) (es : List (SystemEvent (ℕ × A))) (w : SystemState (ℕ × A)) →
        AreNumbered k es → AllByRecursion (RefusedIsNot k (accepted cs es w))
        (flat_map (λ (o : Outcome (ℕ × A)). o.replies) (outcomes cs es w))
    refused_is_not k [] w are = tt
    refused_is_not k (e ∷ es) w are =
        let next = state_after cs w e in
        let all = accepted_by cs w e ++ accepted cs es next in
        let replies = flat_map (λ (o : Outcome (ℕ × A)). o.replies) (outcomes cs es next) in
        every_append (RefusedIsNot k all) (outcome w cs e).replies replies (now k e es w are)
        (every_map (RefusedIsNot (suc k) (accepted cs es next)) (RefusedIsNot k all) replies
        (later k e es w are) (refused_is_not (suc k) es next are.1))

  -- a shorter list of these batches has none either
  part_is_not : (k : ℕ) (l m : List (Marked (ℕ × A))) (reply : Response (ℕ × A)) → Part l m →
      RefusedIsNot k m reply → RefusedIsNot k l reply
  part_is_not k l m (Refused i why) part is = (is.0, part_has l m part is.1)
    where
      part_has : (l m : List (Marked (ℕ × A))) → Part l m
          → AllByRecursion (λ (p : Marked (ℕ × A)). p.content.0 ≢ i) m →
          AllByRecursion (λ (p : Marked (ℕ × A)). p.content.0 ≢ i) l
      part_has [] m part each = tt
      part_has (x ∷ l) [] part each = absurd part
      part_has (x ∷ l) (y ∷ m) (inl part) each = (
        subst (λ (p : Marked (ℕ × A)). p.content.0 ≢ i)
            (sym part.0) each.0,
        part_has l m part.1 each.1,
      )
      part_has (x ∷ l) (y ∷ m) (inr part) each = part_has (x ∷ l) m part each.1
  part_is_not k l m (Committed i n) part is = tt
  part_is_not k l m (Shows i n b) part is = tt
  part_is_not k l m (Opened i n) part is = tt
  part_is_not k l m (Closed i n) part is = tt

  -- so of all replies
  pub parts_are_not : (k : ℕ) (l m : List (Marked (ℕ × A))) (replies : List (Response (ℕ × A)))
      → Part l m →
      AllByRecursion (RefusedIsNot k m) replies → AllByRecursion (RefusedIsNot k l) replies
  parts_are_not k l m replies part each =
      every_map (RefusedIsNot k m) (RefusedIsNot k l) replies
      (λ reply is. part_is_not k l m reply part is) each
