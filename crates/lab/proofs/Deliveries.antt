-- The outcome of what an event delivers, by the kind of event.
use Rattle.std.proofs.Common.{◌≡◌, ℕ, Bool, List, length, map, Option, Some, None, refl, sym}
use Rattle.std.proofs.Common.{ap, subst, ◌∙◌}
use Rattle.std.proofs.lemmas.Bool.{cond-true, cond-false, false≢true, le-ltb, lt-ltb}
use Rattle.std.specs.Prelude.{nat_lt}
use Rattle.kv_types.specs.{BatchContent, Edits, Span, place}
use Rattle.disk.specs.declared.Fault.{Fault}
use Rattle.disk.specs.declared.Junk.{Junk}
use Rattle.configurations.specs.{Configurations, at_epoch}
use Rattle.chain_model.specs.{Message as ModelFrame}
use Rattle.chain_model.specs.{dropped_for, silent}
use Rattle.chain_model.specs.{started, stopped, SystemState, Answered, StoppedBefore, outcome}
use Rattle.chain_model.specs.{answers, stops, delivered, nothing, Response}
use Rattle.chain_model.specs.declared.DropReason.TheVariants as reason
use Rattle.chain_model.specs as request
use Rattle.link_messages.specs.declared.Frame.{Frame}
use Rattle.link_messages.specs.declared.Frame.TheVariants as frame
use Rattle.chain_core.specs.declared.Input.{Input}
use Rattle.chain_core.specs.declared.Input.TheVariants as input
use Rattle.chain_core.specs.{frame_as}
use Rattle.node.specs.declared.Stop.TheVariants.{Disk}
use Rattle.node.specs.{replies_to_response}
use Rattle.disk.specs.declared.Disk.{Ghosts}
use Rattle.carriers.specs.declared.NodeInput.{NodeInput}
use Rattle.lab.specs.declared.input.StepOutcome.{StepOutcome}
use Rattle.events.specs.declared.EventKind.{EventKind}
use Rattle.events.specs.declared.EventKind.TheVariants.{Submit, Get, Rows, Open, Close}
use Rattle.events.specs.declared.EventKind.TheVariants.{Deliver, Notice, Tick, Tend, Start}
use Rattle.events.specs.declared.EventKind.TheVariants.{Stop}
use Rattle.lab.specs.declared.node_state.NodeState.{NodeState}
use Rattle.lab.specs.declared.report.Line.TheVariants as line
use Rattle.lab.specs.Events.{arriving, reply_line, line_cause}
use Rattle.carriers.specs.{input_of}
use Rattle.lab.specs.Deliveries.{IsDeliveryOf, HasNoDelivery}
use Rattle.lab.specs.Outcomes.{HasStarted, Starts, Fails, RunsOn, HasStopped, Stops, RestsOn}
use Rattle.lab.specs.Outcomes.{OutcomeRefines, input_junk}
use Rattle.lab.specs.Disks.{junk_of}
use Rattle.lab.specs.SimNodes.{Choice}
use Rattle.lab.proofs.AnswerLines.{notice_turns}
use Rattle.lab.proofs.Outcomes.{IsOutcome, IsTraced, as_plain, chosen, drop_traced, given}
use Rattle.lab.proofs.Outcomes.{stop_traced, told_fits, with_fault}
use Rattle.lab.proofs.Rises.{no_answer, no_start, no_stop}
use Rattle.lab.proofs.Tends.{tended}

-- each kind has the lines of replies that the node has
abbrev RepliesSo : EventKind → Input → Type 0
RepliesSo kind inp = (r : request.Response Edits) → reply_line kind r
    ≡ map (λ reply. line.Replied reply) (replies_to_response inp r)

submit_replies : (x i : ℕ) (batch : BatchContent) →
    RepliesSo (Submit x batch) (input.Submit i batch)
submit_replies x i batch (Response.Committed j k) = refl
submit_replies x i batch (Response.Shows j s l) = refl
submit_replies x i batch (Response.Opened j s) = refl
submit_replies x i batch (Response.Closed j s) = refl
submit_replies x i batch (Response.Refused j why) = refl

get_replies : (x i : ℕ) (key : List ℕ) (at : Option ℕ) →
    RepliesSo (Get x key at) (input.Get i key at)
get_replies x i key at (Response.Committed j k) = refl
get_replies x i key at (Response.Shows j s l) = refl
get_replies x i key at (Response.Opened j s) = refl
get_replies x i key at (Response.Closed j s) = refl
get_replies x i key at (Response.Refused j why) = refl

rows_replies : (x i : ℕ) (range : Span) (at : Option ℕ) →
    RepliesSo (Rows x range at) (input.Rows i range at)
rows_replies x i range at (Response.Committed j k) = refl
rows_replies x i range at (Response.Shows j s l) = refl
rows_replies x i range at (Response.Opened j s) = refl
rows_replies x i range at (Response.Closed j s) = refl
rows_replies x i range at (Response.Refused j why) = refl

open_replies : (x i : ℕ) (at : Option ℕ) → RepliesSo (Open x at) (input.Open i at)
open_replies x i at (Response.Committed j k) = refl
open_replies x i at (Response.Shows j s l) = refl
open_replies x i at (Response.Opened j s) = refl
open_replies x i at (Response.Closed j s) = refl
open_replies x i at (Response.Refused j why) = refl

close_replies : (x i number : ℕ) → RepliesSo (Close x number) (input.Close i number)
close_replies x i number (Response.Committed j k) = refl
close_replies x i number (Response.Shows j s l) = refl
close_replies x i number (Response.Opened j s) = refl
close_replies x i number (Response.Closed j s) = refl
close_replies x i number (Response.Refused j why) = refl

forward_replies : (p epoch from number : ℕ) (batch : BatchContent) →
    RepliesSo (Deliver p) (input.Forward epoch from number batch)
forward_replies p epoch from number batch (Response.Committed j k) = refl
forward_replies p epoch from number batch (Response.Shows j s l) = refl
forward_replies p epoch from number batch (Response.Opened j s) = refl
forward_replies p epoch from number batch (Response.Closed j s) = refl
forward_replies p epoch from number batch (Response.Refused j why) = refl

ack_replies : (p epoch from committed have : ℕ) →
    RepliesSo (Deliver p) (input.Ack epoch from committed have)
ack_replies p epoch from committed have (Response.Committed j k) = refl
ack_replies p epoch from committed have (Response.Shows j s l) = refl
ack_replies p epoch from committed have (Response.Opened j s) = refl
ack_replies p epoch from committed have (Response.Closed j s) = refl
ack_replies p epoch from committed have (Response.Refused j why) = refl

notice_replies : (x epoch : ℕ) (ids : List ℕ) →
    RepliesSo (Notice x epoch) (input.Notice epoch ids)
notice_replies x epoch ids (Response.Committed j k) = refl
notice_replies x epoch ids (Response.Shows j s l) = refl
notice_replies x epoch ids (Response.Opened j s) = refl
notice_replies x epoch ids (Response.Closed j s) = refl
notice_replies x epoch ids (Response.Refused j why) = refl

tick_replies : (x : ℕ) → RepliesSo (Tick x) input.Tick
tick_replies x (Response.Committed j k) = refl
tick_replies x (Response.Shows j s l) = refl
tick_replies x (Response.Opened j s) = refl
tick_replies x (Response.Closed j s) = refl
tick_replies x (Response.Refused j why) = refl

module _ {D : Type 0} {g : Ghosts D} (cs : Configurations) (w : SystemState Edits) (i x : ℕ)
    (it : Fault) (struck : Bool) (heard : List Bool) (old new : NodeState D g) (did : StepOutcome)
  where
    -- the choice in a step that the node does not stop by itself
    abbrev plain : Choice
    plain = chosen heard Answered struck Disk

    -- a frame in a place is delivered to its addressee
    to_addressee : (p : ℕ) (sent : Frame) (f : ModelFrame Edits) (choice : Choice) →
        place w.frames p ≡ Some f → frame_as x sent ≡ Some f →
        outcome w cs (arriving i (Deliver p) choice) ≡ delivered w (frame_as x sent) choice.went
    to_addressee p sent f choice there same =
        ap (λ (o : Option (ModelFrame Edits)). delivered w o choice.went) (there ∙ sym same)

    deliver : (p : ℕ) (sent : Frame) (f : ModelFrame Edits) → place w.frames p ≡ Some f →
        frame_as x sent ≡ Some f → OutcomeRefines g.is_honest g.state it struck x (w.nodes x)
        (input_of sent) old new did →
        IsOutcome cs w i x (Deliver p) it struck heard new did
    deliver p (frame.Forward epoch from number batch) f there same was =
        given cs w i x (Deliver p) it struck heard (input.Forward epoch from number batch) new did
        (λ choice. to_addressee p (frame.Forward epoch from number batch) f choice there same)
        (λ choice. refl) (λ choice. (refl, refl)) (forward_replies p epoch from number batch) was
    deliver p (frame.Ack epoch from committed have) f there same was =
        given cs w i x (Deliver p) it struck heard (input.Ack epoch from committed have) new did
        (λ choice. to_addressee p (frame.Ack epoch from committed have) f choice there same)
        (λ choice. refl) (λ choice. (refl, refl)) (ack_replies p epoch from committed have) was
    deliver p (frame.Notice epoch config) f there same was = absurd (cc)
    deliver p (frame.Submit request batch) f there same was = absurd (cc)
    deliver p (frame.Get request at key) f there same was = absurd (cc)
    deliver p (frame.Rows request at range) f there same was = absurd (cc)
    deliver p (frame.Open request at) f there same was = absurd (cc)
    deliver p (frame.Close request number) f there same was = absurd (cc)
    deliver p (frame.Committed request number) f there same was = absurd (cc)
    deliver p (frame.Value request number value) f there same was = absurd (cc)
    deliver p (frame.RowsAre request number page) f there same was = absurd (cc)
    deliver p (frame.Opened request number) f there same was = absurd (cc)
    deliver p (frame.Refused request why) f there same was = absurd (cc)
    deliver p (frame.Closed request number) f there same was = absurd (cc)

    start : HasStarted g.is_honest g.state it struck x (w.nodes x) new did →
        IsOutcome cs w i x (Start x) it struck heard new did
    start (Starts off is traced) =
        let o = answers x (silent (started x (w.nodes x))) in
        as_plain cs w i x (Start x) it new did plain (refl, refl) refl (no_start traced) o
        (started x (w.nodes x)) (cond-false _ _ _ off) refl is
        (subst (λ (d : StepOutcome). IsTraced x (with_fault (Start x) it) plain d o) (sym traced)
        (record {
          frames = refl;
          traced = λ n. refl;
          counted = λ n. refl;
          fits = λ stops. absurd (false≢true stops);
          ends = refl;
          told = tt;
        }))
    start (Fails off by is) =
        as_plain cs w i x (Start x) it new did (chosen heard StoppedBefore struck by.cause) (
          refl,
          refl,
        ) refl
        (no_stop by.told) (stops x (w.nodes x)) (stopped (w.nodes x)) (cond-false _ _ _ off) refl is
        (subst (λ (d : StepOutcome). IsTraced x (with_fault (Start x) it)
        (chosen heard StoppedBefore struck by.cause) d (stops x (w.nodes x))) (sym by.told)
        (stop_traced x (with_fault (Start x) it) (chosen heard StoppedBefore struck by.cause)
        (line_cause it struck by.cause) (w.nodes x) refl by.device
        (told_fits it struck by.cause by.environmental)))
    start (RunsOn up is traced) =
        let o = answers x (dropped_for (w.nodes x) reason.Running) in
        as_plain cs w i x (Start x) it new did plain (refl, refl) refl (no_answer traced.1) o
        (w.nodes x)
        (cond-true _ _ _ up) refl is
        (subst (λ (d : StepOutcome). IsTraced x (with_fault (Start x) it) plain d o) (sym traced.1)
        (drop_traced x (with_fault (Start x) it) plain (w.nodes x) reason.Running traced.0
        traced.2 refl))

    stop : (junk : Junk) → HasStopped g.is_honest g.state x (w.nodes x) new did →
        IsOutcome cs w i x (Stop x junk) it struck heard new did
    stop junk (Stops up is traced) =
        as_plain cs w i x (Stop x junk) it new did plain (refl, refl) refl (no_stop traced)
        (stops x (w.nodes x)) (stopped (w.nodes x)) (cond-true _ _ _ up) refl is
        (subst (λ (d : StepOutcome). IsTraced x (with_fault (Stop x junk) it) plain d
        (stops x (w.nodes x))) (sym traced)
        (stop_traced x (with_fault (Stop x junk) it) plain None (w.nodes x) refl
        (λ e. refl) tt))
    stop junk (RestsOn off is traced) =
        let o = answers x (dropped_for (w.nodes x) reason.NotRunning) in
        as_plain cs w i x (Stop x junk) it new did plain (refl, refl) refl (no_answer traced.1) o
        (w.nodes x)
        (cond-false _ _ _ off) refl is
        (subst (λ (d : StepOutcome). IsTraced x (with_fault (Stop x junk) it) plain d o)
        (sym traced.1)
        (drop_traced x (with_fault (Stop x junk) it) plain (w.nodes x) reason.NotRunning
        traced.0 traced.2 refl))

    -- the outcome of the input that an event delivers is the event's
    pub refined : (kind : EventKind) (node_input : NodeInput) → IsDeliveryOf cs w.frames i kind x
        node_input →
        OutcomeRefines g.is_honest g.state it struck x (w.nodes x) node_input old new did →
        IsOutcome cs w i x kind it struck heard new did
    refined (Submit node batch) node_input brings was =
        subst (λ (y : ℕ). IsOutcome cs w i x (Submit y batch) it struck heard new did) brings.0
        (given cs w i x (Submit x batch) it struck heard (input.Submit i batch) new did (λ choice.
        refl)
        (λ choice. refl) (λ choice. (refl, refl)) (submit_replies x i batch)
        (subst (λ (k : NodeInput). OutcomeRefines g.is_honest g.state it struck x
        (w.nodes x) k old new did) brings.1 was))
    refined (Get node key at) node_input brings was =
        subst (λ (y : ℕ). IsOutcome cs w i x (Get y key at) it struck heard new did) brings.0
        (given cs w i x (Get x key at) it struck heard (input.Get i key at) new did (λ choice. refl)
        (λ choice. refl) (λ choice. (refl, refl)) (get_replies x i key at)
        (subst (λ (k : NodeInput). OutcomeRefines g.is_honest g.state it struck x
        (w.nodes x) k old new did) brings.1 was))
    refined (Rows node range at) node_input brings was =
        subst (λ (y : ℕ). IsOutcome cs w i x (Rows y range at) it struck heard new did) brings.0
        (given cs w i x (Rows x range at) it struck heard (input.Rows i range at) new did
        (λ choice. refl) (λ choice. refl) (λ choice. (refl, refl)) (rows_replies x i range at)
        (subst (λ (k : NodeInput). OutcomeRefines g.is_honest g.state it struck x
        (w.nodes x) k old new did) brings.1 was))
    refined (Open node at) node_input brings was =
        subst (λ (y : ℕ). IsOutcome cs w i x (Open y at) it struck heard new did) brings.0
        (given cs w i x (Open x at) it struck heard (input.Open i at) new did (λ choice. refl)
        (λ choice. refl) (λ choice. (refl, refl)) (open_replies x i at)
        (subst (λ (k : NodeInput). OutcomeRefines g.is_honest g.state it struck x
        (w.nodes x) k old new did) brings.1 was))
    refined (Close node number) node_input brings was =
        subst (λ (y : ℕ). IsOutcome cs w i x (Close y number) it struck heard new did) brings.0
        (given cs w i x (Close x number) it struck heard (input.Close i number) new did (λ choice.
        refl)
        (λ choice. refl) (λ choice. (refl, refl)) (close_replies x i number)
        (subst (λ (k : NodeInput). OutcomeRefines g.is_honest g.state it struck x
        (w.nodes x) k old new did) brings.1 was))
    refined (Deliver p) node_input brings was =
        deliver p brings.it brings.frame brings.there brings.same
        (subst (λ (k : NodeInput). OutcomeRefines g.is_honest g.state it struck x
        (w.nodes x) k old new did) brings.is was)
    refined (Notice node epoch) node_input brings was =
        let ids = at_epoch cs epoch in
        subst (λ (y : ℕ). IsOutcome cs w i x (Notice y epoch) it struck heard new did) brings.same
        (given cs w i x (Notice x epoch) it struck heard (input.Notice epoch ids) new did
        (λ choice. cond-true (nat_lt epoch (length cs)) _ _
        (lt-ltb epoch (length cs) brings.within)) (λ choice. refl)
        (λ choice. (notice_turns x (w.nodes x) epoch ids choice, refl))
        (notice_replies x epoch ids)
        (subst (λ (k : NodeInput). OutcomeRefines g.is_honest g.state it struck x
        (w.nodes x) k old new did) brings.is was))
    refined (Tick node) node_input brings was =
        subst (λ (y : ℕ). IsOutcome cs w i x (Tick y) it struck heard new did) brings.0
        (given cs w i x (Tick x) it struck heard input.Tick new did (λ choice. refl)
        (λ choice. refl) (λ choice. (refl, refl)) (tick_replies x)
        (subst (λ (k : NodeInput). OutcomeRefines g.is_honest g.state it struck x
        (w.nodes x) k old new did) brings.1 was))
    refined (Tend node) node_input brings was =
        subst (λ (y : ℕ). IsOutcome cs w i x (Tend y) it struck heard new did) brings.0
        (tended cs w i x it struck heard old new did
        (subst (λ (k : NodeInput). OutcomeRefines g.is_honest g.state it struck x (w.nodes x) k
        old new did) brings.1 was))
    refined (Start node) node_input brings was =
        subst (λ (y : ℕ). IsOutcome cs w i x (Start y) it struck heard new did) brings.0
        (start (subst (λ (k : NodeInput). OutcomeRefines g.is_honest g.state it struck x
        (w.nodes x) k
        old new did) brings.1 was))
    refined (Stop node junk) node_input brings was =
        subst (λ (y : ℕ). IsOutcome cs w i x (Stop y junk) it struck heard new did) brings.0
        (stop junk (subst (λ (k : NodeInput). OutcomeRefines g.is_honest g.state it struck x
        (w.nodes x) k old new did)
        brings.1 was))

-- an event without a frame or a configuration does nothing
pub nothing_done : (cs : Configurations) (w : SystemState Edits) (i : ℕ) (kind : EventKind)
    (choice : Choice) → HasNoDelivery cs w.frames kind →
    outcome w cs (arriving i kind choice) ≡ nothing
nothing_done cs w i (Deliver p) choice brings =
    ap (λ (o : Option (ModelFrame Edits)). delivered w o choice.went) brings
nothing_done cs w i (Notice node epoch) choice brings =
    cond-false (nat_lt epoch (length cs)) _ _ (le-ltb epoch (length cs) brings)
nothing_done cs w i kind choice brings = absurd brings

-- the junk of a stop is that of its input
pub junk_same : (cs : Configurations) (frames : List (ModelFrame Edits)) (i x : ℕ)
    (kind : EventKind) (node_input : NodeInput) →
    IsDeliveryOf cs frames i kind x node_input → input_junk node_input ≡ junk_of kind
junk_same cs frames i x (Submit node batch) node_input brings = ap input_junk brings.1
junk_same cs frames i x (Get node key at) node_input brings = ap input_junk brings.1
junk_same cs frames i x (Rows node range at) node_input brings = ap input_junk brings.1
junk_same cs frames i x (Open node at) node_input brings = ap input_junk brings.1
junk_same cs frames i x (Close node number) node_input brings = ap input_junk brings.1
junk_same cs frames i x (Deliver p) node_input brings =
    ap input_junk brings.is ∙ none_with brings.it
  where
    none_with : (it : Frame) → input_junk (input_of it) ≡ None
    none_with (frame.Forward epoch from number batch) = refl
    none_with (frame.Ack epoch from committed have) = refl
    none_with _ = refl
junk_same cs frames i x (Notice node epoch) node_input brings = ap input_junk brings.is
junk_same cs frames i x (Tick node) node_input brings = ap input_junk brings.1
junk_same cs frames i x (Tend node) node_input brings = ap input_junk brings.1
junk_same cs frames i x (Start node) node_input brings = ap input_junk brings.1
junk_same cs frames i x (Stop node junk) node_input brings = ap input_junk brings.1
