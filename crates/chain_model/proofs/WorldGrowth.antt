-- A run only adds to a world.
use Rattle.std.proofs.Common.{◌≡◌, ℕ, List, [], ◌∷◌, ◌++◌, length, Option, Some, None, ◌==◌}
use Rattle.std.proofs.Common.{nat_lt, sym, refl, subst, arith, eqb-true}
use Rattle.std.proofs.lemmas.Bool.{cond_both}
use Rattle.kv_types.specs.{IsPrefix, place}
use Rattle.configurations.specs.{at_epoch}
use Rattle.chain_model.specs.declared.refusal.Refusal.TheVariants as refusal
use Rattle.chain_model.specs.declared.drop_reason.DropReason.TheVariants as reason
use Rattle.chain_model.specs.declared.drop_reason.DropReason.{DropReason}
use Rattle.chain_model.specs.Messages.{Message, addressee}
use Rattle.chain_model.specs.Machine.{Answer, MachineState, dropped_for, refused, silent, started}
use Rattle.chain_model.specs.Machine.{stopped}
use Rattle.chain_model.specs.Rules.{ask, notice, receive, tend, tick}
use Rattle.chain_model.specs.System.{Answered, Ask, Deliver, SystemEvent, Lost, Notice, Outcome}
use Rattle.chain_model.specs.System.{Start}
use Rattle.chain_model.specs.System.{Stop, StoppedAfter, StoppedBefore, Tend, Tick, StepResult}
use Rattle.chain_model.specs.System.{SystemState}
use Rattle.chain_model.specs.System.{after, answers, as_completed, first_state, delivered}
use Rattle.chain_model.specs.System.{state_after}
use Rattle.chain_model.specs.System.{if_running, nothing, outcome, reached, run, stops, dispatched}
use Rattle.chain_model.specs.System.{with_node}
use Rattle.chain_model.specs.Growth.{StaysRunning, Grows, OnlyGrows}
use Rattle.kv_types.specs.ListsLemmas.{begins_more, begins_refl, begins_trans}
use Rattle.chain_model.proofs.Growth.{ask_goes_on, grows_refl, grows_trans, notice_goes_on}
use Rattle.chain_model.proofs.Growth.{receive_goes_on, tend_goes_on, tick_goes_on}

-- a stop keeps the persistent state
stopped_grows : {A : Type 0} (n m : MachineState A) → Grows n m → Grows n (stopped m)
stopped_grows n m g = record { list = g.list; epoch = g.epoch; floor = g.floor; kept = g.kept }

-- a start keeps the persistent state
started_grows : {A : Type 0} (x : ℕ) (n : MachineState A) → Grows n (started x n)
started_grows x n = record {
  list = begins_refl n.list;
  epoch = omega arith;
  floor = omega arith;
  kept = omega arith;
}

module _ {A : Type 0} (w : SystemState A) where
  -- each node is later after this outcome
  abbrev AllGrow : Outcome A → Type 0
  AllGrow o = (y : ℕ) → Grows (w.nodes y) ((after w o).nodes y)

  -- an outcome that leaves one node later
  put_grows : (x : ℕ) (o : Outcome A) (m : MachineState A) → o.acted_on ≡ Some (x, m)
      → Grows (w.nodes x) m → AllGrow o
  put_grows x o m is g y =
      subst (λ c. Grows (w.nodes y) (with_node w.nodes c y)) (sym is)
      (cond_both {A = MachineState A} (x == y) m (w.nodes y) (λ n. Grows (w.nodes y) n)
      (λ same. subst (λ z. Grows (w.nodes z) m) (eqb-true x y same) g)
      (λ not. grows_refl (w.nodes y)))

  -- a step, however it ended
  went_grows : (x : ℕ) (a : Answer A) (went : StepResult) → Grows (w.nodes x) a.node
      → AllGrow (as_completed x (w.nodes x) a went)
  went_grows x a Answered g = put_grows x (answers x a) a.node refl g
  went_grows x a StoppedBefore g = put_grows x (stops x (w.nodes x)) (stopped (w.nodes x)) refl
      (stopped_grows (w.nodes x) (w.nodes x) (grows_refl (w.nodes x)))
  went_grows x a StoppedAfter g = put_grows x (stops x a.node) (stopped a.node) refl
      (stopped_grows (w.nodes x) a.node g)

  -- a drop
  drops_grow : (x : ℕ) (why : DropReason) → AllGrow (answers x (dropped_for (w.nodes x) why))
  drops_grow x why = put_grows x (answers x (dropped_for (w.nodes x) why)) (w.nodes x) refl
      (grows_refl (w.nodes x))

  -- a step of a node that runs, or not
  running_grows : (x : ℕ) (f g : MachineState A → Answer A) (went : StepResult)
      → StaysRunning (w.nodes x) (f (w.nodes x)) → Grows (w.nodes x) (g (w.nodes x)).node
      → AllGrow (if_running w x f g went)
  running_grows x f g went goes otherwise =
      let n = w.nodes x in
      cond_both n.running (as_completed x n (f n) went) (answers x (g n)) AllGrow
      (λ up. went_grows x (f n) went goes.grows)
      (λ down. put_grows x (answers x (g n)) (g n).node refl otherwise)

  -- a step that is dropped by a node that does not run
  takes_grows : (x : ℕ) (f : MachineState A → Answer A) (went : StepResult)
      → StaysRunning (w.nodes x) (f (w.nodes x)) → AllGrow (dispatched w x f went)
  takes_grows x f went goes = running_grows x f (λ n. dropped_for n reason.NotRunning) went goes
      (grows_refl (w.nodes x))

  -- nothing to do
  nothing_grows : AllGrow nothing
  nothing_grows y = grows_refl (w.nodes y)

  -- a frame that is delivered
  delivered_grows : (o : Option (Message A)) (went : StepResult) → AllGrow (delivered w o went)
  delivered_grows None went = nothing_grows
  delivered_grows (Some f) went = takes_grows (addressee f) (λ n. receive (addressee f) n f) went
      (receive_goes_on (addressee f) (w.nodes (addressee f)) f)

  -- every event
  outcome_grows : (cs : List (List ℕ)) (e : SystemEvent A) → AllGrow (outcome w cs e)
  outcome_grows cs (Ask x i q went) = running_grows x (λ n. ask x n i q)
      (λ n. refused n i refusal.NotRunning) went (ask_goes_on x (w.nodes x) i q)
      (grows_refl (w.nodes x))
  outcome_grows cs (Tick x went) = takes_grows x (λ n. tick x n) went (tick_goes_on x (w.nodes x))
  outcome_grows cs (Tend x rises gives_up went) = takes_grows x (λ n. tend n rises gives_up)
      went (tend_goes_on (w.nodes x) rises gives_up)
  outcome_grows cs (Notice x e went) =
      cond_both (nat_lt e (length cs)) (dispatched w x (λ n. notice x n e (at_epoch cs e)) went)
      nothing AllGrow
      (λ in_range. takes_grows x (λ n. notice x n e (at_epoch cs e)) went
      (notice_goes_on x (w.nodes x) e (at_epoch cs e)))
      (λ beyond. nothing_grows)
  outcome_grows cs (Deliver p went) = delivered_grows (place w.frames p) went
  outcome_grows cs (Start x went) =
      let n = w.nodes x in
      cond_both n.running (answers x (dropped_for n reason.Running))
      (as_completed x n (silent (started x n)) went) AllGrow
      (λ up. drops_grow x reason.Running)
      (λ down. went_grows x (silent (started x n)) went (started_grows x n))
  outcome_grows cs (Stop x) =
      let n = w.nodes x in
      cond_both n.running (stops x n) (answers x (dropped_for n reason.NotRunning)) AllGrow
      (λ up. put_grows x (stops x n) (stopped n) refl (stopped_grows n n (grows_refl n)))
      (λ down. drops_grow x reason.NotRunning)
  outcome_grows cs Lost = nothing_grows

module _ {A : Type 0} (cs : List (List ℕ)) where
  -- nodes only grow in a run
  runs_grow : (es : List (SystemEvent A)) (w : SystemState A) (y : ℕ)
      → Grows (w.nodes y) ((run cs es w).nodes y)
  runs_grow [] w y = grows_refl (w.nodes y)
  runs_grow (e ∷ es) w y = grows_trans (outcome_grows w cs e y)
      (runs_grow es (state_after cs w e) y)

  -- frames only grow in a run
  frames_grow : (es : List (SystemEvent A)) (w : SystemState A) → IsPrefix w.frames
      (run cs es w).frames
  frames_grow [] w = begins_refl w.frames
  frames_grow (e ∷ es) w = begins_trans (begins_more w.frames (outcome w cs e).frames)
      (frames_grow es (state_after cs w e))

  -- replies only grow in a run
  replies_grow : (es : List (SystemEvent A)) (w : SystemState A) → IsPrefix w.replies
      (run cs es w).replies
  replies_grow [] w = begins_refl w.replies
  replies_grow (e ∷ es) w = begins_trans (begins_more w.replies (outcome w cs e).replies)
      (replies_grow es (state_after cs w e))

  -- a run of more events continues from the world of the first
  pub run_append : (es fs : List (SystemEvent A)) (w : SystemState A) → run cs (es ++ fs) w ≡ run cs
      fs
      (run cs es w)
  run_append [] fs w = refl
  run_append (e ∷ es) fs w = run_append es fs (state_after cs w e)

  -- a longer run extends a shorter one
  pub only_grows : (es fs : List (SystemEvent A)) → OnlyGrows cs es fs
  only_grows es fs =
      let w = reached cs es in
      let is : reached cs (es ++ fs) ≡ run cs fs w = run_append es fs (first_state cs) in
      record {
        nodes = λ x. subst (λ (v : SystemState A). Grows (w.nodes x) (v.nodes x)) (sym is)
            (runs_grow fs w x);
        frames = subst (λ (v : SystemState A). IsPrefix w.frames v.frames) (sym is)
            (frames_grow fs w);
        replies = subst (λ (v : SystemState A). IsPrefix w.replies v.replies) (sym is)
            (replies_grow fs w);
      }
