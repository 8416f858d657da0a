-- A run as the list of its events' outcomes. Definitions without a source are this store's profile.
use Rattle.std.specs.Prelude.{◌≡◌, ℕ, List, length, flat_map, Some, None}
use Rattle.configurations.specs.{Configurations}
use Rattle.chain_model.specs.Machine.{MachineState}
use Rattle.chain_model.specs.System.{SystemEvent, Outcome, outcome, state_after, reached, node_of}
use Rattle.chain_model.specs.System.{outcomes}
use Rattle.chain_model.specs.System.{first_state}

-- Each event has one outcome. The frames and replies of a run are those of the outcomes, in order.
pub record RunIsOutcomes {A : Type 0} (cs : Configurations) (events : List (SystemEvent A)) : Type 0
  where
    pub one_each : length (outcomes cs events (first_state cs)) ≡ length events
    pub frames : (reached cs events).frames
        ≡ flat_map (λ (o : Outcome A). o.frames) (outcomes cs events (first_state cs))
    pub replies : (reached cs events).replies
        ≡ flat_map (λ (o : Outcome A). o.replies) (outcomes cs events (first_state cs))
    -- the node that handled the event is as the outcome says, and no other node has changed
    pub node : (event : SystemEvent A) (x : ℕ) (n : MachineState A)
        → (outcome (reached cs events) cs event).acted_on ≡ Some (x, n)
        → (state_after cs (reached cs events) event).nodes x ≡ n
    pub others : (event : SystemEvent A) (x y : ℕ) (n : MachineState A)
        → (outcome (reached cs events) cs event).acted_on ≡ Some (x, n) → (x ≡ y → ⊥)
        → (state_after cs (reached cs events) event).nodes y ≡ node_of cs events y
    -- an event that no node handled changes none
    pub nowhere : (event : SystemEvent A) (y : ℕ)
        → (outcome (reached cs events) cs event).acted_on ≡ None
        → (state_after cs (reached cs events) event).nodes y ≡ node_of cs events y
