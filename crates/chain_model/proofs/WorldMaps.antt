-- A run does not look into the contents of batches: it goes with every map of them.
use Rattle.std.proofs.Common.{◌≡◌, ℕ, List, [], ◌∷◌, length, map, option_map, Option, Some, None}
use Rattle.std.proofs.Common.{◌==◌, nat_lt, sym, refl, ◌∙◌, ap, ap₂}
use Rattle.std.proofs.lemmas.List.{map-append}
use Rattle.kv_types.specs.{place}
use Rattle.configurations.specs.{at_epoch}
use Rattle.chain_model.specs.declared.refusal.Refusal.TheVariants as refusal
use Rattle.chain_model.specs.declared.drop_reason.DropReason.TheVariants as reason
use Rattle.chain_model.specs.Messages.{Ack, Forward, Message}
use Rattle.chain_model.specs.Machine.{Answer, MachineState, dropped_for, refused, silent, started}
use Rattle.chain_model.specs.Rules.{ask, notice, receive, tend, tick}
use Rattle.chain_model.specs.System.{Answered, Ask, Deliver, SystemEvent, Lost, Notice, Outcome}
use Rattle.chain_model.specs.System.{Start}
use Rattle.chain_model.specs.System.{Stop, StoppedAfter, StoppedBefore, Tend, Tick, StepResult}
use Rattle.chain_model.specs.System.{SystemState}
use Rattle.chain_model.specs.System.{after, answers, as_completed, delivered, state_after}
use Rattle.chain_model.specs.System.{if_running}
use Rattle.chain_model.specs.System.{nothing, outcome, outcomes, run, stops, dispatched, with_node}
use Rattle.chain_model.specs.Maps.{answer_map, event_map, frame_map, marked_map, node_map}
use Rattle.chain_model.specs.Maps.{outcome_map}
use Rattle.chain_model.specs.Maps.{place_map, reply_map, request_map, world_map}
use Rattle.chain_model.proofs.NodeMaps.{ask_map, notice_map, receive_map}
use Rattle.chain_model.proofs.SubmitMaps.{cond_of, map-place_of}
use Rattle.chain_model.proofs.NodeMaps.{started_map, tend_map, tick_map}

module _ {A B : Type 0} (f : A → B) where
  -- a step, however it ended
  went_map : (x : ℕ) (n : MachineState A) (a : Answer A) (a' : Answer B) (went : StepResult)
      → answer_map f a ≡ a' → outcome_map f (as_completed x n a went) ≡ as_completed x
      (node_map f n)
      a' went
  went_map x n a a' Answered e = ap (answers x) e
  went_map x n a a' StoppedBefore e = refl
  went_map x n a a' StoppedAfter e = ap (λ (k : Answer B). stops x k.node) e

  -- a step of a node that runs, or not
  running_map : (w : SystemState A) (x : ℕ) (g h : MachineState A → Answer A)
      (g' h' : MachineState B → Answer B)
      (went : StepResult) → ((n : MachineState A) → answer_map f (g n) ≡ g' (node_map f n))
      → ((n : MachineState A) → answer_map f (h n) ≡ h' (node_map f n))
      → outcome_map f (if_running w x g h went) ≡ if_running (world_map f w) x g' h' went
  running_map w x g h g' h' went each others =
      let n = w.nodes x in
      let n' = node_map f n in
      cond_of (outcome_map f) n.running n.running (as_completed x n (g n) went) (answers x (h n))
      (as_completed x n' (g' n') went) (answers x (h' n')) refl
      (went_map x n (g n) (g' n') went (each n))
      (ap (answers x) (others n))

  -- a step that is dropped by a node that does not run
  takes_map : (w : SystemState A) (x : ℕ) (g : MachineState A → Answer A)
      (g' : MachineState B → Answer B)
      (went : StepResult) → ((n : MachineState A) → answer_map f (g n) ≡ g' (node_map f n))
      → outcome_map f (dispatched w x g went) ≡ dispatched (world_map f w) x g' went
  takes_map w x g g' went each = running_map w x g (λ n. dropped_for n reason.NotRunning) g'
      (λ n. dropped_for n reason.NotRunning) went each (λ n. refl)

  -- a frame that is delivered
  delivered_map : (w : SystemState A) (o : Option (Message A)) (went : StepResult)
      → outcome_map f (delivered w o went) ≡ delivered (world_map f w)
      (option_map (frame_map f) o) went
  delivered_map w None went = refl
  delivered_map w (Some (Forward to e p k b)) went =
      takes_map w to (λ n. receive to n (Forward to e p k b))
      (λ n. receive to n (Forward to e p k (marked_map f b))) went
      (λ n. receive_map f to n (Forward to e p k b))
  delivered_map w (Some (Ack to e p c have)) went =
      takes_map w to (λ n. receive to n (Ack to e p c have))
      (λ n. receive to n (Ack to e p c have)) went (λ n. receive_map f to n (Ack to e p c have))

  -- an outcome goes with the map
  pub outcome_maps : (cs : List (List ℕ)) (w : SystemState A) (e : SystemEvent A)
      → outcome_map f (outcome w cs e) ≡ outcome (world_map f w) cs (event_map f e)
  outcome_maps cs w (Ask x i q went) =
      running_map w x (λ n. ask x n i q) (λ n. refused n i refusal.NotRunning)
      (λ n. ask x n i (request_map f q)) (λ n. refused n i refusal.NotRunning) went
      (λ n. ask_map f x n i q) (λ n. refl)
  outcome_maps cs w (Tick x went) = takes_map w x (λ n. tick x n) (λ n. tick x n) went
      (λ n. tick_map f x n)
  outcome_maps cs w (Tend x rises gives_up went) = takes_map w x (λ n. tend n rises gives_up)
      (λ n. tend n rises gives_up) went (λ n. tend_map f x n rises gives_up)
  outcome_maps cs w (Notice x e went) =
      let v = world_map f w in
      cond_of (outcome_map f) (nat_lt e (length cs)) (nat_lt e (length cs))
      (dispatched w x (λ n. notice x n e (at_epoch cs e)) went) nothing
      (dispatched v x (λ n. notice x n e (at_epoch cs e)) went) nothing refl
      (takes_map w x (λ n. notice x n e (at_epoch cs e)) (λ n. notice x n e (at_epoch cs e)) went
      (λ n. notice_map f x n e (at_epoch cs e)))
      refl
  outcome_maps cs w (Deliver p went) = delivered_map w (place w.frames p) went
      ∙ ap (λ o. delivered (world_map f w) o went) (sym (map-place_of (frame_map f) w.frames p))
  outcome_maps cs w (Start x went) =
      let n = w.nodes x in
      let n' = node_map f n in
      cond_of (outcome_map f) n.running n.running (answers x (dropped_for n reason.Running))
      (as_completed x n (silent (started x n)) went)
      (answers x (dropped_for n' reason.Running))
      (as_completed x n' (silent (started x n')) went) refl
      refl
      (went_map x n (silent (started x n)) (silent (started x n')) went
      (ap silent (started_map f x n)))
  outcome_maps cs w (Stop x) =
      let n = w.nodes x in
      let n' = node_map f n in
      cond_of (outcome_map f) n.running n.running (stops x n)
      (answers x (dropped_for n reason.NotRunning)) (stops x n')
      (answers x (dropped_for n' reason.NotRunning)) refl refl refl
  outcome_maps cs w Lost = refl

  -- the world after an event commutes with the map
  with_node_map : (nodes : ℕ → MachineState A) (o : Option (ℕ × MachineState A)) (y : ℕ)
      → node_map f (with_node nodes o y) ≡ with_node (λ x. node_map f (nodes x)) (place_map f o) y
  with_node_map nodes None y = refl
  with_node_map nodes (Some at) y = cond_of (node_map f) (at.0 == y) (at.0 == y) at.1 (nodes y)
      (node_map f at.1) (node_map f (nodes y)) refl refl refl

  -- the world after an outcome
  after_map : (w : SystemState A) (o : Outcome A) → world_map f (after w o) ≡ after (world_map f w)
      (outcome_map f o)
  after_map w o = λ j. record {
    nodes = λ y. with_node_map w.nodes o.acted_on y j;
    frames = map-append (frame_map f) w.frames o.frames j;
    replies = map-append (reply_map f) w.replies o.replies j;
  }

  -- the world after an event
  happens_map : (cs : List (List ℕ)) (w : SystemState A) (e : SystemEvent A) → world_map f
      (state_after cs w e)
      ≡ state_after cs (world_map f w) (event_map f e)
  happens_map cs w e = after_map w (outcome w cs e) ∙ ap (after (world_map f w))
      (outcome_maps cs w e)

  -- a run commutes with the map
  pub run_map : (cs : List (List ℕ)) (es : List (SystemEvent A)) (w : SystemState A)
      → world_map f (run cs es w) ≡ run cs (map (event_map f) es) (world_map f w)
  run_map cs [] w = refl
  run_map cs (e ∷ es) w = run_map cs es (state_after cs w e) ∙ ap (run cs (map (event_map f) es))
      (happens_map cs w e)

  -- the outcomes of a run
  pub outcomes_map : (cs : List (List ℕ)) (es : List (SystemEvent A)) (w : SystemState A)
      → map (outcome_map f) (outcomes cs es w) ≡ outcomes cs (map (event_map f) es) (world_map f w)
  outcomes_map cs [] w = refl
  outcomes_map cs (e ∷ es) w =
      ap₂ (λ (o : Outcome B) (os : List (Outcome B)). o ∷ os) (outcome_maps cs w e)
      (outcomes_map cs es (state_after cs w e) ∙ ap (outcomes cs (map (event_map f) es))
      (happens_map cs w e))
