-- A step of a world, by what its event was found to deliver.
use Rattle.std.proofs.Common.{◌≡◌, ℕ, suc, ◌+◌, ◌≤◌, List, [], ◌∷◌, ◌++◌, length, true, false}
use Rattle.std.proofs.Common.{Bool, Result, Ok, Err, refl, sym, ap, ap₂, subst, ◌∙◌, arith}
use Rattle.std.specs.Prelude.{MatchResult, OnErr, OnOk}
use Rattle.std.specs.List.{AllZip}
use Rattle.std.specs.Result.{IsErrAnd}
use Rattle.disk.specs.declared.disk.Disk.{Ghosts}
use Rattle.std.proofs.lemmas.Bool.{false≢true}
use Rattle.std.proofs.lemmas.List.{map-append}
use Rattle.std.proofs.lemmas.List.Elements.{All-push, All-weaker}
use Rattle.kv_types.specs.declared.bounds.TheConstants.{MAX_NUMBER}
use Rattle.kv_types.specs.declared.Limits.{Limits}
use Rattle.kv_types.specs.{Edits}
use Rattle.configurations.specs.{Configurations}
use Rattle.chain_model.specs.{SystemState, first_state, node_of}
use Rattle.link_messages.specs.Stream.{OneSpelling}
use Rattle.carriers.specs.declared.Carrier.{Ghosts as Carriers}
use Rattle.carriers.specs.declared.Delivery.{Delivery}
use Rattle.carriers.specs.declared.Delivery.TheVariants as delivery
use Rattle.carriers.specs.{HasCarried, unless_lost}
use Rattle.lab.specs.declared.delivery.Posted.{Posted}
use Rattle.events.specs.declared.EventContent.{EventContent}
use Rattle.events.specs.declared.EventKind.{EventKind}
use Rattle.carriers.specs.declared.NodeInput.{NodeInput}
use Rattle.lab.specs.declared.report.Line.{Line}
use Rattle.lab.specs.declared.report.Line.TheVariants as line
use Rattle.lab.specs.declared.sim_node.SimNode.{SimNode}
use Rattle.lab.specs.declared.world.World.{World}
use Rattle.lab.specs.Events.{NamesNode}
use Rattle.lab.specs.Deliveries.{Brings}
use Rattle.lab.specs.SimNodes.{Choice, HasArrived, StateRefines}
use Rattle.lab.specs.Posting.{FramesFollow}
use Rattle.lab.specs.Traces.{modelled_from}
use Rattle.lab.specs.Transmissions.{frame_sent, replies_sent}
use Rattle.lab.specs.Worlds.{FollowRun, HasApplied, HasBegunEvent, HasFollowed, HasKept, HasNoNode}
use Rattle.lab.specs.Worlds.{HasRun, HaveLimits, NodesRefine, PostedRefines, RunRefines}
use Rattle.lab.specs.Worlds.{SimNodeRefines, WorldHasEnded, WorldKeepsLimits, WorldRun}
use Rattle.lab.specs.Worlds.{asked_after, extended, outcome_after}
use Rattle.lab.proofs.Arrivals.{RepliesArrive}
use Rattle.lab.proofs.Found.{delivery_lost, found_of, lost_loses, sent_unaltered}
use Rattle.lab.proofs.Growing.{follow_limited, length-steps, nodes-push, run-push}
use Rattle.lab.proofs.Moves.{HasStepped, limited}
use Rattle.lab.proofs.Transmissions.{carried_both}
use Rattle.lab.proofs.Worlds.{AlwaysInOrder, FitsDelivery, Grows, IsNext, lost_after, node_after}
use Rattle.lab.proofs.Worlds.{nothing_after, refined_after}

-- an event's place is one more than there are steps
place_of : {D C : Type 0} {g : Ghosts D} (h : Carriers C) (world : World D C g) (past : WorldRun) →
    HasRun h world past → (n i : ℕ) →
    n ≡ world.steps.len → n + 1 ≤ MAX_NUMBER → i ≡ n + 1 → IsNext past.events i
place_of h world past run n i long fits is = record {
  at = omega (
    arith,
    is,
    long,
    world.steps.ok.0,
    ap length run.kept,
    length-steps past world.nodes.items world.frames.items run.made,
  );
  fits = subst (λ (k : ℕ). k ≤ MAX_NUMBER) (sym is) fits;
}

-- A world began an event, which changed its nodes, its frames and its carrier, and then it kept the
-- lines of that.
module _ {D C : Type 0} {g : Ghosts D} (h : Carriers C) (old begun mid new : World D C g)
    (event : EventContent) (begins : HasBegunEvent old begun event) (lost : Bool)
    (lines : List Line)
    (moves : mid ≡ record begun { nodes = mid.nodes; frames = mid.frames; carrier = mid.carrier })
    (keeps : HasKept mid new lost lines)
    (stay : HaveLimits old.nodes.items old.limits → HaveLimits mid.nodes.items old.limits) where
  delivers : mid ≡ record old {
    nodes = mid.nodes;
    frames = mid.frames;
    carrier = mid.carrier;
    events = begun.events;
    ended = true;
  }
  delivers = moves ∙ ap (λ (w : World D C g). record w {
    nodes = mid.nodes;
    frames = mid.frames;
    carrier = mid.carrier;
  }) begins.others

  -- what it is then
  abbrev now : World D C g
  now = record old {
    nodes = mid.nodes;
    frames = mid.frames;
    carrier = mid.carrier;
    events = begun.events;
    lost = new.lost;
    steps = new.steps;
    ended = false;
  }

  so : new ≡ now
  so = keeps.others ∙ ap (λ (w : World D C g). record w {
    lost = new.lost;
    steps = new.steps;
    ended = false;
  }) delivers

  -- it has the limits that it had
  pub keeps_limits : WorldKeepsLimits old new
  keeps_limits limits has = record {
    given = ap (λ (w : World D C g). w.limits) so ∙ has.given;
    nodes = subst (λ (w : World D C g). HaveLimits w.nodes.items limits) (sym so)
        (subst (λ (own : Limits). HaveLimits mid.nodes.items own) has.given
        (stay
        (subst (λ (own : Limits). HaveLimits old.nodes.items own) (sym has.given) has.nodes)));
  }

  -- and has run one event more, where its nodes and frames refine that
  pub followed_so : (past : WorldRun) → HasRun h old past → (choice : Choice) →
      choice.lost ≡ lost → ((h.loses → ⊥) → HasArrived choice) → h.is_faithful mid.carrier →
      RunRefines mid.nodes.items mid.frames.items (extended past event choice lines) →
      FollowRun past event choice old.nodes.items mid.nodes.items →
      FramesFollow (outcome_after past event choice).acted_on old.frames.items mid.frames.items →
      HasCarried h old.carrier mid.carrier
      (asked_after past old.frames.items event choice) → HasFollowed h old new past event
  followed_so past run choice lost_so arrives faithful ran follow posts carries =
      let limits = old.limits in
      let cs = past.configs in
      let came = run.came in
      let machines = node_of cs (modelled_from 1 (past.events ++ event ∷ [])
      (past.choices ++ choice ∷ [])) in
      subst (λ (w : World D C g). HasFollowed h old w past event) (sym so) (record {
        choice = choice;
        lines = lines;
        run = record {
          configs = run.configs;
          kept = keeps.kept ∙ ap (λ (w : World D C g). w.steps.items ++ lines ∷ []) delivers
              ∙ ap (λ (l : List (List Line)). l ++ lines ∷ []) run.kept;
          taken = begins.taken ∙ ap (λ (l : List EventContent). l ++ event ∷ []) run.taken;
          lost = keeps.noted ∙ ap (λ (w : World D C g). w.lost.items ++ lost ∷ []) delivers
              ∙ ap₂ (λ (l : List Bool) (b : Bool). l ++ b ∷ []) run.lost (sym lost_so)
              ∙ sym (map-append (λ (c : Choice). c.lost) past.choices (choice ∷ []));
          carrier = faithful;
          arrives = λ loses_not. All-push HasArrived past.choices choice (run.arrives loses_not)
              (arrives loses_not);
          made = ran;
          came = record {
            first = came.first;
            created = came.created;
            follow = nodes-push cs event choice limits 1 (suc (length past.events)) past.events
                past.choices (first_state cs) came.first old.nodes.items mid.nodes.items
                run.made.trace.one_each (omega arith) came.follow follow
                (stay (follow_limited cs limits 1 past.events past.choices (first_state cs)
                came.first old.nodes.items came.follow came.created.limits))
                (subst (λ (v : SystemState Edits). NodesRefine v.nodes mid.nodes.items)
                (run-push cs event choice 1 (suc (length past.events)) past.events past.choices
                (first_state cs) run.made.trace.one_each (omega arith))
                (All-weaker (SimNodeRefines machines ran.disks)
                (λ sim. StateRefines g.is_honest g.state sim.state sim.id (machines sim.id))
                (λ sim refined_at. refined_at.is) mid.nodes.items ran.each));
          };
        };
        nodes = follow;
        posted = posts;
        carried = carries;
      })

-- a world ends with an error
pub ends_with : {T E : Type 0} (P : E → Type 0) (R : T → Type 0) (Q : Type 0) (r : Result T E) →
    IsErrAnd r P → Q → MatchResult r R (λ _. Q)
ends_with P R Q (Ok v) is ends = absurd is
ends_with P R Q (Err e) is ends = ends

-- a world ends where it could not keep the lines of an event
pub ends_so : {D C : Type 0} {g : Ghosts D} {T E : Type 0} (r : Result T E) (mid new : World D C g)
    (lost : Bool) (lines : List Line) → mid.ended ≡ true → OnOk r (HasKept mid new lost lines) →
    OnErr r (new.ended ≡ mid.ended) →
    MatchResult r (λ _. WorldHasEnded new → ⊥) (λ _. WorldHasEnded new)
ends_so {D = D} {C = C} {g = g} (Ok v) mid new lost lines ended keeps fails =
    λ ends. false≢true (sym (ap (λ (w : World D C g). w.ended) keeps.others) ∙ ends)
ends_so (Err e) mid new lost lines ended keeps fails = fails ∙ ended

-- what was found on the way of the event in place i is a delivery of it, by a faithful carrier
abbrev IsFoundFor : {D C : Type 0} {g : Ghosts D} → Carriers C → World D C g → ℕ → EventKind
    → Delivery → Type 0
IsFoundFor h world i kind found = h.is_faithful world.carrier →
    FitsDelivery world.configs world.frames.items i kind found

-- The next event of a world, which names a node of it or none, by what was found on its way.
module _ {D C : Type 0} {g : Ghosts D} (h : Carriers C) (in_order : AlwaysInOrder)
    (one : OneSpelling) (old begun : World D C g) (event : EventContent) (begins : HasBegunEvent old
    begun event)
    (n i : ℕ)
    (long : n ≡ begun.steps.len) (few : n + 1 ≤ MAX_NUMBER) (at : i ≡ n + 1) (found : Delivery)
    (lent : List Posted) (same : lent ≡ begun.frames.items)
    (after : C) (brought : Brings h begun.carrier after begun.configs lent i event.kind found)
    (is_named : NamesNode old.configs event.kind) (past : WorldRun) (run : HasRun h old past) where
  pub next : IsNext past.events i
  next = place_of h old past run n i
      (long ∙ ap (λ (w : World D C g). w.steps.len) begins.others) few at

  abbrev sims : List (SimNode D g)
  sims = old.nodes.items

  abbrev posted : List Posted
  posted = old.frames.items

  here : IsFoundFor h begun i event.kind found
  here = λ carries frames each. found_of begun.configs lent i event.kind brought.got found
      brought.brought frames (λ _. (
        one,
        subst (λ (l : List Posted). AllZip PostedRefines l frames) (sym same) each,
        brought.carried.unaltered carries,
      ))

  -- it fits the configurations of the run, and so does the node that the event names
  fits : FitsDelivery past.configs posted i event.kind found
  fits = subst (λ (cs : Configurations). FitsDelivery cs posted i event.kind found) run.configs
      (subst (λ (w : World D C g). IsFoundFor h w i event.kind found) begins.others here
      run.carrier)

  -- its carrier is faithful
  carried : h.is_faithful begun.carrier
  carried = subst (λ (w : World D C g). h.is_faithful w.carrier) (sym begins.others) run.carrier

  names : NamesNode past.configs event.kind
  names = subst (λ (cs : Configurations). NamesNode cs event.kind) run.configs is_named

  -- and stays so
  stays : h.is_faithful after
  stays = brought.carried.faithful.1 carried

  -- it was asked for what the event sends
  asked_so : (lost : Bool) → delivery_lost found ≡ lost →
      HasCarried h old.carrier after (frame_sent posted i event.kind (unless_lost lost))
  asked_so lost is = subst (λ (b : Bool).
      HasCarried h old.carrier after (frame_sent posted i event.kind (unless_lost b))) is
      (subst (λ (w : World D C g). HasCarried h w.carrier after
      (frame_sent w.frames.items i event.kind (unless_lost (delivery_lost found)))) begins.others
      (subst (λ (l : List Posted). HasCarried h begun.carrier after
      (frame_sent l i event.kind (unless_lost (delivery_lost found)))) same
      (subst (HasCarried h begun.carrier after) (sent_unaltered begun.configs lent i event.kind
      brought.got found brought.brought (brought.carried.unaltered carried)) brought.carried)))

  -- what it is then, where no node did anything
  abbrev pub idle : World D C g
  idle = record begun { carrier = after }

  -- an event for which no node does anything is applied where its line is kept
  passed_after : (lost : Bool) (line : Line) → delivery_lost found ≡ lost →
      Grows in_order past sims posted run.made i next event h.loses lost sims posted
      (frame_sent posted i event.kind (unless_lost lost)) (line ∷ []) → (new : World D C g) →
      HasKept idle new lost (line ∷ []) → HasApplied h old new past event
  passed_after lost line is grows new keeps =
      let nodes : idle.nodes.items ≡ sims =
      ap (λ (v : World D C g). v.nodes.items) begins.others in
      let frames : idle.frames.items ≡ posted =
      ap (λ (v : World D C g). v.frames.items) begins.others in
      record {
        follows = λ _. followed_so h old begun idle new event begins lost (line ∷ []) refl keeps
            (λ has. subst (λ (l : List (SimNode D g)). HaveLimits l old.limits) (sym nodes) has)
            past run grows.choice grows.lost_so grows.arrives stays
            (subst (λ (l : List (SimNode D g)). RunRefines l idle.frames.items
            (extended past event grows.choice (line ∷ []))) (sym nodes)
            (subst (λ (l : List Posted). RunRefines sims l
            (extended past event grows.choice (line ∷ []))) (sym frames) grows.ran))
            (subst (λ (l : List (SimNode D g)). FollowRun past event grows.choice sims l)
            (sym nodes) grows.nodes)
            (subst (λ (l : List Posted). FramesFollow (outcome_after past event
            grows.choice).acted_on posted l) (sym frames) grows.frames)
            (subst (HasCarried h old.carrier after) (sym grows.sent)
            (asked_so lost is));
        nothing = λ other. absurd (other names);
      }

  -- so is one that has nothing to deliver
  pub nothing_applied : found ≡ delivery.Nothing → (new : World D C g) →
      HasKept idle new false (line.Nothing ∷ []) → HasApplied h old new past event
  nothing_applied is = passed_after false line.Nothing (ap delivery_lost is)
      (nothing_after in_order past sims posted run.made i next event h.loses found fits is)

  -- and one that was lost
  pub lost_applied : found ≡ delivery.Lost → (new : World D C g) →
      HasKept idle new true (line.Lost ∷ []) → HasApplied h old new past event
  lost_applied is = passed_after true line.Lost (ap delivery_lost is)
      (lost_after in_order past sims posted run.made i next event h.loses found fits is
      (lost_loses h.loses begun.configs lent i event.kind brought.got found is brought.carried.lost
      brought.brought))

  module _ (x : ℕ) (node_input : NodeInput) (is : found ≡ delivery.To x node_input) where
    -- one that is for a node is applied by the node's step, of whose lines so much arrives
    pub delivered_after : (mid new : World D C g) (given lines : List Line) →
        mid ≡ record begun { nodes = mid.nodes; frames = mid.frames; carrier = mid.carrier } →
        (h.is_faithful after → h.is_faithful mid.carrier) →
        HasStepped begun.nodes.items begun.frames.items x node_input event begun.limits given
        mid.nodes.items mid.frames.items → (h.is_faithful after →
        RepliesArrive h.loses (HasCarried h after mid.carrier) x given lines) →
        HasKept mid new false lines → HasApplied h old new past event
    delivered_after mid new given lines moves remains takes arrive keeps =
        let stepped = subst (λ (w : World D C g). HasStepped w.nodes.items w.frames.items x
        node_input event w.limits given mid.nodes.items mid.frames.items) begins.others takes in
        let heard = arrive stays in
        let grows = refined_after in_order past sims posted run.made i next event h.loses found fits
        x node_input is (HasCarried h after mid.carrier) old.limits given lines
        mid.nodes.items mid.frames.items stepped heard in
        record {
          follows = λ _. followed_so h old begun mid new event begins false lines moves keeps
              (limited sims x node_input event.fault old.limits stepped.did mid.nodes.items
              stepped.took) past run grows.choice grows.lost_so grows.arrives
              (remains stays) grows.ran grows.nodes grows.frames
              (subst (HasCarried h old.carrier mid.carrier) (sym grows.sent)
              (carried_both h old.carrier after mid.carrier
              (frame_sent posted i event.kind (unless_lost false)) (replies_sent x heard.told given)
              (asked_so false (ap delivery_lost is)) heard.asked));
          nothing = λ other. absurd (other names);
        }

    -- the world has the node that one is for
    pub ignored_after : HasNoNode begun.nodes.items x → (new : World D C g) →
        HasApplied h old new past event
    ignored_after none new = absurd (node_after in_order past sims posted run.made i next event
        h.loses found fits x node_input is names
        (subst (λ (w : World D C g). HasNoNode w.nodes.items x) begins.others none))
