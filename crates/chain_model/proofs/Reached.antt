-- What is reached from the beginning: there all holds, lists only grow, so it holds after every
-- run.
use Rattle.std.proofs.Common.{◌≡◌, ℕ, ◌<◌, List, [], ◌∷◌, ◌++◌, length, true, refl, ◌∙◌, subst}
use Rattle.std.proofs.Common.{arith, append_assoc, append-nil, ap, eq-eqb, inl}
use Rattle.kv_types.specs.{Marked}
use Rattle.configurations.specs.{at_epoch, is_tail}
use Rattle.chain_model.specs.System.{SystemEvent, SystemState, first_state, state_after, reached}
use Rattle.chain_model.specs.System.{run}
use Rattle.kv_types.specs.ListsLemmas.{begins_nil, begins_refl}
use Rattle.chain_model.proofs.Configuration.{IsChain}
use Rattle.chain_model.proofs.Marks.{taken_nil}
use Rattle.chain_model.proofs.Submitted.{WasHandedIn, accepted, accepted_append}
use Rattle.chain_model.proofs.Submitted.{accepted_by, accepted_part, among_part, handed, was_behind}
use Rattle.chain_model.proofs.Invariant.{WorldOk}
use Rattle.chain_model.proofs.WorldGrowth.{run_append}
use Rattle.chain_model.proofs.Worlds.{Along, EventOk, TailsIn, Told, run_ok}

-- a chain has epoch 0
some_epoch : (cs : List (List ℕ)) → IsChain cs → 0 < length cs
some_epoch [] w = absurd w
some_epoch (c ∷ cs) w = omega arith

-- a configuration that is not empty has a tail
some_tail : (c : List ℕ) → 0 < length c → (t : ℕ) × (is_tail c t ≡ true)
some_tail [] l = absurd (omega arith)
some_tail (y ∷ []) l = (y, eq-eqb y y refl)
some_tail (y ∷ z ∷ c) l = some_tail (z ∷ c) (omega arith)

-- so has the first one
first_tail : (cs : List (List ℕ)) → IsChain cs → (t : ℕ) × (is_tail (at_epoch cs 0) t ≡ true)
first_tail [] w = absurd w
first_tail (c ∷ cs) w = some_tail c w.1

-- all holds at the beginning
pub start_world_ok : {A : Type 0} (cs : List (List ℕ)) → IsChain cs →
    (events : List (SystemEvent A))
    → TailsIn cs events (first_state cs) → WorldOk cs events [] (first_state cs)
start_world_ok cs lawful events tails = record {
  nodes = λ x. record {
    sound = record {
      in_range = some_epoch cs lawful;
      knows = refl;
      behind = λ z before k. begins_nil [];
      safe = λ y k. begins_nil [];
      known = let t = first_tail cs lawful in (0, (omega arith, λ first. first, tails t.0 t.1));
      kept_le = omega arith;
      floor_le = omega arith;
      committed_le = omega arith;
      handed = taken_nil [];
    };
    pending = tt;
    tail = λ up t. refl;
    snapshots = tt;
    rising = tt;
    resend = λ up t. omega arith;
  };
  frames = tt;
  replies = tt;
}

-- What is reached.
module _ {A : Type 0} (cs : List (List ℕ)) (lawful : IsChain cs) (events : List (SystemEvent A))
  where
    -- the list of a tail, at any time of the run, is committed
    tails_in : (before later : List (SystemEvent A)) → before ++ later ≡ events
        → TailsIn cs events (run cs before (first_state cs))
    tails_in before later e t is = record {
      before = before;
      later = later;
      whole = e;
      tail = t;
      is = is;
      epoch = refl;
      begins = begins_refl _;
    }

    -- so all worlds on the way are as they should be
    along : (before later : List (SystemEvent A)) → before ++ later ≡ events
        → Along cs lawful events later (run cs before (first_state cs))
    along before [] e = tt
    along before (f ∷ later) e =
        let next : before ++ (f ∷ []) ++ later ≡ events = append_assoc before (f ∷ []) later ∙ e in
        let is : run cs (before ++ f ∷ []) (first_state cs) ≡ state_after cs
        (run cs before (first_state cs)) f = run_append cs before (f ∷ []) (first_state cs) in (
          subst (λ (v : SystemState A). TailsIn cs events v) is
              (tails_in (before ++ f ∷ []) later next),
          subst (λ (v : SystemState A). Along cs lawful events later v) is
              (along (before ++ f ∷ []) later next),
        )

    -- the batches that were accepted before an event are answers where it submits them again
    told_at : (before later : List (SystemEvent A)) (f : SystemEvent A)
        → before ++ f ∷ later ≡ events
        → EventOk cs lawful events (accepted cs before (first_state cs)) f
    told_at before later f e = record {
      submits = λ i b is. subst (λ es. WasHandedIn es i b) e
          (was_behind before (f ∷ later) i b (inl is));
      again = λ i b is a m among bears same. record {
        before = before;
        later = f ∷ later;
        whole = e;
        earlier = among_part a (accepted cs before (first_state cs)) (handed before)
            (accepted_part cs before (first_state cs)) among;
        mark = m;
        bears = bears;
        batch = b;
        submits = inl is;
        same = same;
      };
    }

    -- so are those of every event on the way
    told_in : (before later : List (SystemEvent A)) → before ++ later ≡ events
        → Told cs lawful events later (accepted cs before (first_state cs))
        (run cs before (first_state cs))
    told_in before [] e = tt
    told_in before (f ∷ later) e =
        let w = run cs before (first_state cs) in
        let next : before ++ (f ∷ []) ++ later ≡ events = append_assoc before (f ∷ []) later ∙ e in
        let is : run cs (before ++ f ∷ []) (first_state cs) ≡ state_after cs w f =
        run_append cs before (f ∷ []) (first_state cs) in
        let so_far : accepted cs (before ++ f ∷ []) (first_state cs)
        ≡ accepted cs before (first_state cs) ++ accepted_by cs w f =
        accepted_append cs before (f ∷ []) (first_state cs)
        ∙ ap (λ l. accepted cs before (first_state cs) ++ l) (append-nil (accepted_by cs w f)) in (
          told_at before later f e,
          subst (λ (l : List (Marked A)). Told cs lawful events later l (state_after cs w f)) so_far
              (subst (λ (v : SystemState A). Told cs lawful events later
              (accepted cs (before ++ f ∷ []) (first_state cs)) v) is
              (told_in (before ++ f ∷ []) later next)),
        )

    pub reached_ok : WorldOk cs events (accepted cs events (first_state cs)) (reached cs events)
    reached_ok =
        run_ok cs lawful events events [] (first_state cs) (told_in [] events refl)
        (along [] events refl)
        (start_world_ok cs lawful events (tails_in [] events refl))
