-- What a run sends and replies is what its events send and reply.
use Rattle.std.proofs.Common.{◌≡◌, suc, ℕ, List, [], ◌∷◌, ◌++◌, length, flat_map, sym, refl, ◌∙◌}
use Rattle.std.proofs.Common.{ap, subst, Some, None, ◌==◌, eqb-true, eq-eqb, append_assoc}
use Rattle.std.proofs.Common.{append-nil}
use Rattle.std.proofs.lemmas.Bool.{cond_both, cond-true}
use Rattle.chain_model.specs.Machine.{MachineState}
use Rattle.chain_model.specs.System.{SystemEvent, Outcome, SystemState, first_state, state_after}
use Rattle.chain_model.specs.System.{outcome, outcomes}
use Rattle.chain_model.specs.System.{reached, run, with_node}
use Rattle.chain_model.specs.Outcomes.{RunIsOutcomes}

module _ {A : Type 0} (cs : List (List ℕ)) where
  -- one outcome for each event
  one_each : (es : List (SystemEvent A)) (w : SystemState A) → length (outcomes cs es w) ≡ length es
  one_each [] w = refl
  one_each (e ∷ es) w = ap suc (one_each es (state_after cs w e))

  -- frames of a run are those of its outcomes
  frames_of : (es : List (SystemEvent A)) (w : SystemState A) → (run cs es w).frames ≡ w.frames ++
      flat_map
      (λ (o : Outcome A). o.frames) (outcomes cs es w)
  frames_of [] w = sym (append-nil w.frames)
  frames_of (e ∷ es) w = frames_of es (state_after cs w e)
      ∙ append_assoc w.frames (outcome w cs e).frames (flat_map (λ (o : Outcome A). o.frames)
      (outcomes cs es (state_after cs w e)))

  -- replies of a run are those of its outcomes
  replies_of : (es : List (SystemEvent A)) (w : SystemState A)
      → (run cs es w).replies ≡ w.replies ++ flat_map (λ (o : Outcome A). o.replies)
      (outcomes cs es w)
  replies_of [] w = sym (append-nil w.replies)
  replies_of (e ∷ es) w = replies_of es (state_after cs w e) ∙ append_assoc w.replies
      (outcome w cs e).replies (flat_map (λ (o : Outcome A). o.replies)
      (outcomes cs es (state_after cs w e)))

  -- a run event by event
  pub outcomes_append : (es fs : List (SystemEvent A)) (w : SystemState A)
      → outcomes cs (es ++ fs) w ≡ outcomes cs es w ++ outcomes cs fs (run cs es w)
  outcomes_append [] fs w = refl
  outcomes_append (e ∷ es) fs w =
      ap (λ os. outcome w cs e ∷ os) (outcomes_append es fs (state_after cs w e))

  -- the node that handled an event is as the outcome says
  node_after : (w : SystemState A) (e : SystemEvent A) (x : ℕ) (n : MachineState A)
      → (outcome w cs e).acted_on ≡ Some (x, n) → (state_after cs w e).nodes x ≡ n
  node_after w e x n is =
      subst (λ c. with_node w.nodes c x ≡ n) (sym is)
      (cond-true (x == x) n (w.nodes x) (eq-eqb x x refl))

  -- no other node changes
  others_after : (w : SystemState A) (e : SystemEvent A) (x y : ℕ) (n : MachineState A)
      → (outcome w cs e).acted_on ≡ Some (x, n) → (x ≡ y → ⊥) → (state_after cs w e).nodes y ≡
      w.nodes y
  others_after w e x y n is other =
      subst (λ c. with_node w.nodes c y ≡ w.nodes y) (sym is)
      (cond_both {A = MachineState A} (x == y) n (w.nodes y) (λ m. m ≡ w.nodes y)
      (λ same. absurd (other (eqb-true x y same))) (λ not. refl))

  -- an event that no node handled changes none
  none_after : (w : SystemState A) (e : SystemEvent A) (y : ℕ) → (outcome w cs e).acted_on ≡ None
      → (state_after cs w e).nodes y ≡ w.nodes y
  none_after w e y is = subst (λ c. with_node w.nodes c y ≡ w.nodes y) (sym is) refl

  -- a run is made of its outcomes
  pub run_is_outcomes : (es : List (SystemEvent A)) → RunIsOutcomes cs es
  run_is_outcomes es = record {
    one_each = one_each es (first_state cs);
    frames = frames_of es (first_state cs);
    replies = replies_of es (first_state cs);
    node = node_after (reached cs es);
    others = others_after (reached cs es);
    nowhere = none_after (reached cs es);
  }
