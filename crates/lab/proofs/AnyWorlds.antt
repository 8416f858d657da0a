-- What a step does in any world, by what its event was found to bring.
use Rattle.std.proofs.Common.{◌≡◌, ◌≤◌, ◌+◌, ◌∙◌, ℕ, suc, Bool, Err, List, Ok, Result, ap, arith}
use Rattle.std.proofs.Common.{◌∷◌, [], ◌++◌, get_or, inl, inr, length, length-append}
use Rattle.std.proofs.Common.{map, refl, subst, sym, ◌⊎◌}
use Rattle.std.specs.List.{remove}
use Rattle.std.specs.Prelude.{◌↔◌, OnErr, OnOk}
use Rattle.std.proofs.Math.Seq.{take-length}
use Rattle.std.proofs.lemmas.List.{same_from_push}
use Rattle.std.proofs.lemmas.Result.{on_err_weaker, on_ok_weaker}
use Rattle.disk.specs.declared.disk.Disk.{Ghosts}
use Rattle.chain_core.specs.declared.Sent.{Sent}
use Rattle.carriers.specs.{HasCarried}
use Rattle.carriers.specs.declared.Carrier.{Ghosts as Carriers}
use Rattle.carriers.specs.declared.Delivery.{Delivery}
use Rattle.carriers.specs.declared.Delivery.TheVariants as delivery
use Rattle.carriers.specs.declared.NodeInput.{NodeInput}
use Rattle.events.specs.declared.EventContent.{EventContent}
use Rattle.lab.specs.declared.delivery.Posted.{Posted}
use Rattle.lab.specs.declared.input.StepOutcome.{StepOutcome}
use Rattle.lab.specs.declared.report.Line.{Line}
use Rattle.lab.specs.declared.report.Line.TheVariants as line
use Rattle.lab.specs.declared.sim_node.SimNode.{SimNode}
use Rattle.lab.specs.declared.world.World.{World}
use Rattle.lab.specs.Arrivals.{RepliesFollow, replies_carried, replies_heard}
use Rattle.lab.specs.Deliveries.{Brings}
use Rattle.lab.specs.Events.{epoch_in}
use Rattle.lab.specs.LinesSoFar.{BringsNext, EventAddsLines, HasPartlyKept, IsPassedOver}
use Rattle.lab.specs.LinesSoFar.{KeepsLines, LeavesNodes, LosesCarried, MovesAtMostOne}
use Rattle.lab.specs.LinesSoFar.{StepIsRefused, StepsOnce, configs_of, events_so_far, frames_of}
use Rattle.lab.specs.LinesSoFar.{lines_so_far, lost_so_far, next_place, nodes_of, sent_so_far}
use Rattle.lab.specs.OutcomeLines.{own_lines, replies_by, sent_by}
use Rattle.lab.specs.Posting.{HasPosted, HasPostedPart}
use Rattle.lab.specs.Worlds.{HasBegunEvent, HasKept, HasMoved, HaveLimits, IsIndexOf}
use Rattle.lab.specs.Worlds.{WorldKeepsLimits}
use Rattle.lab.proofs.LinesSoFarLemmas.{keeps_begun, keeps_partly}
use Rattle.lab.proofs.Standing.{stands_so}
use Rattle.lab.proofs.WorldSteps.{keeps_limits}

-- all of a list is posted
pub posted_whole : (x : ℕ) (old new : List Posted) (sent : List Sent) → HasPosted old x sent new →
    HasPostedPart old x sent new
posted_whole x old new sent posted = (
  length sent,
  subst (λ (l : List Sent). HasPosted old x l new)
      (sym (take-length sent)) posted,
)

module _ {D C : Type 0} {g : Ghosts D} (h : Carriers C) (event : EventContent) where
  -- no event was added
  pub moves_none : (world : World D C g) → MovesAtMostOne h event world world
  moves_none world = λ lines more. absurd (omega (
    arith,
    ap length more,
    length-append (lines_so_far world) (lines ∷ []),
  ))

  -- a step that was answered does all this
  pub steps_once : {T E : Type 0} (r : Result T E) (old new : World D C g) →
      OnOk r (EventAddsLines event old new) → OnOk r (MovesAtMostOne h event old new) →
      OnOk r (LosesCarried h.loses event old new) → OnOk r (WorldKeepsLimits old new) →
      OnOk r (h.is_faithful new.carrier ↔ h.is_faithful old.carrier) →
      OnOk r (StepsOnce h event old new)
  steps_once (Ok x) old new adds moves loses limits carrier = record {
    adds = adds;
    moves = moves;
    loses = loses;
    limits = limits;
    carrier = carrier;
  }
  steps_once (Err e) old new adds moves loses limits carrier = tt

  -- ---- a step that was refused

  -- it began no event
  pub refused_none : (old new : World D C g) → KeepsLines event old new →
      nodes_of new ≡ nodes_of old → frames_of new ≡ frames_of old → StepIsRefused h event old new
  refused_none old new keeps nodes frames = record { keeps = keeps; left = inl (nodes, frames) }

  -- it began the event, of which there are no lines
  pub refused_begun : (old begun new : World D C g) → HasBegunEvent old begun event →
      events_so_far new ≡ events_so_far begun → lines_so_far new ≡ lines_so_far begun →
      lost_so_far new ≡ lost_so_far begun → configs_of new ≡ configs_of begun →
      LeavesNodes h event old new → StepIsRefused h event old new
  refused_begun old begun new begins events lines lost configs left = record {
    keeps = keeps_begun old begun new event begins events lines lost configs;
    left = left;
  }

  -- or its lines could not be kept
  pub refused_partly : {T E : Type 0} (r : Result T E) (old begun mid new : World D C g)
      (lines : List Line) → HasBegunEvent old begun event → OnErr r (HasPartlyKept mid new lines) →
      events_so_far mid ≡ events_so_far begun → lines_so_far mid ≡ lines_so_far begun →
      lost_so_far mid ≡ lost_so_far begun → configs_of mid ≡ configs_of begun →
      (nodes_of new ≡ nodes_of mid → frames_of new ≡ frames_of mid →
      LeavesNodes h event old new) → OnErr r (StepIsRefused h event old new)
  refused_partly r old begun mid new lines begins refused events same lost configs left =
      on_err_weaker r (λ partly. record {
        keeps = keeps_partly old begun mid event begins events same lost configs new lines partly;
        left = left (ap (λ (w : World D C g). nodes_of w) partly.others)
            (ap (λ (w : World D C g). frames_of w) partly.others);
      }) refused

  -- .. of an event that no node took
  pub refused_idle : {T E : Type 0} (r : Result T E) (old begun mid new : World D C g)
      (lines : List Line) → HasBegunEvent old begun event → OnErr r (HasPartlyKept mid new lines) →
      mid ≡ record begun { carrier = mid.carrier } → OnErr r (StepIsRefused h event old new)
  refused_idle r old begun mid new lines begins refused idle = refused_partly r old begun mid new
      lines begins refused (ap (λ (w : World D C g). events_so_far w) idle)
      (ap (λ (w : World D C g). lines_so_far w) idle)
      (ap (λ (w : World D C g). lost_so_far w) idle)
      (ap (λ (w : World D C g). configs_of w) idle) (λ nodes frames. inl (
        nodes ∙ ap (λ (w : World D C g). nodes_of w) idle
            ∙ ap (λ (w : World D C g). nodes_of w) begins.others,
        frames ∙ ap (λ (w : World D C g). frames_of w) idle
            ∙ ap (λ (w : World D C g). frames_of w) begins.others,
      ))

  -- what an event added are the lines that were kept behind it
  added : (old begun mid new : World D C g) (lines shown : List Line) →
      HasBegunEvent old begun event → lines_so_far new ≡ lines_so_far mid ++ lines ∷ [] →
      lines_so_far mid ≡ lines_so_far begun →
      lines_so_far new ≡ lines_so_far old ++ shown ∷ [] → lines ≡ shown
  added old begun mid new lines shown begins kept same is =
      (same_from_push (lines_so_far old) (lines_so_far old) lines shown
      (ap (λ (l : List (List Line)). l ++ lines ∷ [])
      (sym (same ∙ ap (λ (w : World D C g). lines_so_far w) begins.others))
      ∙ sym kept ∙ is)).1

  -- A world began an event, the next of its list, of which this was found by this carrier.
  module _ (old begun : World D C g) (begins : HasBegunEvent old begun event) (n i : ℕ)
      (long : n ≡ begun.steps.len) (at : i ≡ n + 1) (found : Delivery) (lent : List Posted)
      (same : lent ≡ begun.frames.items)
      (after : C)
      (brought : Brings h begun.carrier after begun.configs lent i event.kind found) where
    place_now : i ≡ next_place old
    place_now = omega (
      arith,
      at,
      long,
      begun.steps.ok.0,
      ap (λ (w : World D C g). length w.steps.items) begins.others,
    )

    brings : BringsNext h event old after found
    brings = subst (λ (w : World D C g). BringsNext h event w after found) begins.others
        (subst (λ (k : ℕ). Brings h begun.carrier after begun.configs (frames_of begun) k event.kind
        found) (place_now ∙ next_same)
        (subst (λ (l : List Posted). Brings h begun.carrier after begun.configs l i event.kind
        found) same brought))
      where
        next_same : next_place old ≡ next_place begun
        next_same = ap (λ (w : World D C g). next_place w) (sym begins.others)

    stays_faithful : h.is_faithful after ↔ h.is_faithful old.carrier
    stays_faithful = brings.carried.faithful

    -- ---- no node took it

    abbrev idle : World D C g
    idle = record begun { carrier = after }

    moves_not : {T E : Type 0} (r : Result T E) (new : World D C g) (lost : Bool)
        (lines : List Line) → OnOk r (HasKept idle new lost lines) →
        IsPassedOver (nodes_of begun) found lines → OnOk r (MovesAtMostOne h event old new)
    moves_not r new lost lines keeps says = on_ok_weaker r (λ kept shown is. inl (record {
      it = found;
      brought = subst (λ (c : C). BringsNext h event old c found)
          (sym (ap (λ (w : World D C g). w.carrier) kept.others)) brings;
      says = subst (IsPassedOver (nodes_of old) found)
          (added old begun idle new lines shown begins kept.kept refl is)
          (subst (λ (w : World D C g). IsPassedOver (nodes_of w) found lines) begins.others says);
      nodes = ap (λ (w : World D C g). nodes_of w) kept.others
          ∙ ap (λ (w : World D C g). nodes_of w) begins.others;
      frames = ap (λ (w : World D C g). frames_of w) kept.others
          ∙ ap (λ (w : World D C g). frames_of w) begins.others;
    })) keeps

    idle_limits : {T E : Type 0} (r : Result T E) (new : World D C g) (lost : Bool)
        (lines : List Line) → OnOk r (HasKept idle new lost lines) →
        OnOk r (WorldKeepsLimits old new)
    idle_limits r new lost lines keeps = on_ok_weaker r (λ kept. keeps_limits h old begun idle new
        event begins lost lines refl kept (λ has. subst (λ (l : List (SimNode D g)).
        HaveLimits l old.limits) (sym (ap (λ (w : World D C g). nodes_of w) begins.others)) has))
        keeps

    idle_carrier : {T E : Type 0} (r : Result T E) (new : World D C g) (lost : Bool)
        (lines : List Line) → OnOk r (HasKept idle new lost lines) →
        OnOk r (h.is_faithful new.carrier ↔ h.is_faithful old.carrier)
    idle_carrier r new lost lines keeps = on_ok_weaker r (λ kept.
        subst (λ (c : C). h.is_faithful c ↔ h.is_faithful old.carrier)
        (sym (ap (λ (w : World D C g). w.carrier) kept.others)) stays_faithful) keeps

    pub idle_steps : {T E : Type 0} (r : Result T E) (new : World D C g) (lost : Bool)
        (lines : List Line) → OnOk r (HasKept idle new lost lines) →
        IsPassedOver (nodes_of begun) found lines → OnOk r (EventAddsLines event old new) →
        OnOk r (LosesCarried h.loses event old new) → OnOk r (StepsOnce h event old new)
    idle_steps r new lost lines keeps says adds loses = steps_once r old new adds
        (moves_not r new lost lines keeps says) loses (idle_limits r new lost lines keeps)
        (idle_carrier r new lost lines keeps)

    -- ---- node x was to take it

    module _ (x : ℕ) (node_input : NodeInput) (is : found ≡ delivery.To x node_input) where
      brings_to : BringsNext h event old after (delivery.To x node_input)
      brings_to = subst (BringsNext h event old after) is brings

      -- it was lost, or nothing was done
      pub lost_left : (new : World D C g) (index : ℕ) → IsIndexOf (nodes_of begun) index x →
          frames_of new ≡ frames_of begun → (nodes_of new ≡ nodes_of begun)
          ⊎ (nodes_of new ≡ remove (nodes_of begun) index) → LeavesNodes h event old new
      lost_left new index there frames nodes =
          let were = ap (λ (w : World D C g). nodes_of w) begins.others in
          let sent = frames ∙ ap (λ (w : World D C g). frames_of w) begins.others in
          elim nodes [
            | inl all ↦ inl (all ∙ were, sent)
            | inr less ↦ inr (inl (record {
              x = x;
              node_input = node_input;
              mid = after;
              brought = brings_to;
              index = index;
              at = subst (λ (l : List (SimNode D g)). IsIndexOf l index x) were there;
              nodes = less ∙ ap (λ (l : List (SimNode D g)). remove l index) were;
              frames = sent;
            }))
          ]

      -- it took the event
      module _ (mid : World D C g) (did : StepOutcome)
          (took : HasMoved (nodes_of begun) x node_input event.fault begun.limits did
          (nodes_of mid)) where
        took_so : (now : List (SimNode D g)) → now ≡ nodes_of mid →
            HasMoved (nodes_of old) x node_input event.fault old.limits did now
        took_so now same_nodes = subst (λ (w : World D C g). HasMoved (nodes_of w) x node_input
            event.fault w.limits did now) begins.others
            (subst (λ (l : List (SimNode D g)). HasMoved (nodes_of begun) x node_input event.fault
            begun.limits did l) (sym same_nodes) took)

        -- and of its frames so many are posted
        pub part_left : (new : World D C g) → nodes_of new ≡ nodes_of mid →
            HasPostedPart (frames_of begun) x (sent_by did) (frames_of new) →
            LeavesNodes h event old new
        part_left new nodes posted = inr (inr (record {
          x = x;
          node_input = node_input;
          did = did;
          mid = after;
          brought = brings_to;
          took = took_so (nodes_of new) nodes;
          sends = subst (λ (w : World D C g). HasPostedPart (frames_of w) x (sent_by did)
              (frames_of new)) begins.others posted;
        }))

        module _ (lines : List Line)
            (posted : HasPosted (frames_of begun) x (sent_by did) (frames_of mid))
            (follow : RepliesFollow (HasCarried h after mid.carrier) x (replies_by did)
            (own_lines x (epoch_in event.kind) (sent_so_far begun) did) lines) where
          pub took_refused : {T E : Type 0} (r : Result T E) (new : World D C g) →
              OnErr r (HasPartlyKept mid new lines) →
              mid ≡ record begun { nodes = mid.nodes; frames = mid.frames; carrier = mid.carrier } →
              OnErr r (StepIsRefused h event old new)
          took_refused r new refused moves = refused_partly r old begun mid new lines begins
              refused (ap (λ (w : World D C g). events_so_far w) moves)
              (ap (λ (w : World D C g). lines_so_far w) moves)
              (ap (λ (w : World D C g). lost_so_far w) moves)
              (ap (λ (w : World D C g). configs_of w) moves) (λ nodes frames. part_left new nodes
              (subst (HasPostedPart (frames_of begun) x (sent_by did)) (sym frames)
              (posted_whole x (frames_of begun) (frames_of mid) (sent_by did) posted)))

          moves_one : {T E : Type 0} (r : Result T E) (new : World D C g) (lost : Bool) →
              OnOk r (HasKept mid new lost lines) → lines_so_far mid ≡ lines_so_far begun →
              OnOk r (MovesAtMostOne h event old new)
          moves_one r new lost keeps same_lines = on_ok_weaker r (λ kept shown shows.
              let now = took_so (nodes_of new) (ap (λ (w : World D C g). nodes_of w) kept.others) in
              let before = ap (λ (w : World D C g). sent_so_far w) begins.others in
              let follows : RepliesFollow (HasCarried h after new.carrier) x (replies_by did)
              (own_lines x (epoch_in event.kind) (sent_so_far old) did) shown = record {
                each = follow.each;
                of = follow.of;
                asked = subst (λ (c : C). HasCarried h after c (replies_carried x follow.each))
                    (sym (ap (λ (w : World D C g). w.carrier) kept.others)) follow.asked;
                lines = sym (added old begun mid new lines shown begins kept.kept same_lines shows)
                    ∙ follow.lines
                    ∙ ap (λ (k : ℕ). own_lines x (epoch_in event.kind) k did
                    ++ map (λ reply. line.Replied reply) (replies_heard follow.each)) before;
              } in
              inr (record {
                x = x;
                node_input = node_input;
                did = did;
                mid = after;
                brought = brings_to;
                took = now;
                sends = subst (HasPosted (frames_of old) x (sent_by did))
                    (sym (ap (λ (w : World D C g). frames_of w) kept.others))
                    (subst (λ (w : World D C g). HasPosted (frames_of w) x (sent_by did)
                    (frames_of mid)) begins.others posted);
                follow = follows;
                stands = stands_so x (epoch_in event.kind) (sent_so_far old) did
                    (HasCarried h after new.carrier) shown follows
                    (get_or (nodes_of old) now.index now.sim).state now.sim.state
                    now.dispatched.stands;
              })) keeps

          pub node_steps : {T E : Type 0} (r : Result T E) (new : World D C g) (lost : Bool) →
              OnOk r (HasKept mid new lost lines) →
              mid ≡ record begun { nodes = mid.nodes; frames = mid.frames; carrier = mid.carrier } →
              (h.is_faithful mid.carrier ↔ h.is_faithful after) →
              (HaveLimits (nodes_of begun) begun.limits → HaveLimits (nodes_of mid) begun.limits) →
              OnOk r (EventAddsLines event old new) → OnOk r (LosesCarried h.loses event old new) →
              OnOk r (StepsOnce h event old new)
          node_steps r new lost keeps moves carries limited adds loses = steps_once r old new adds
              (moves_one r new lost keeps (ap (λ (w : World D C g). lines_so_far w) moves)) loses
              (on_ok_weaker r (λ kept. keeps_limits h old begun mid new event begins lost lines
              moves kept (subst (λ (w : World D C g). HaveLimits (nodes_of w) w.limits →
              HaveLimits (nodes_of mid) w.limits) begins.others limited)) keeps)
              (on_ok_weaker r (λ kept. subst (λ (c : C). h.is_faithful c
              ↔ h.is_faithful old.carrier)
              (sym (ap (λ (w : World D C g). w.carrier) kept.others))
              (λ now. stays_faithful.0 (carries.0 now), λ was. carries.1 (stays_faithful.1 was)))
              keeps)
