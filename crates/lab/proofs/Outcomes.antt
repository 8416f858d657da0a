-- The outcome of a step refines an event of the model's world, and has its lines.
use Rattle.std.proofs.Common.{◌≡◌, ℕ, List, [], ◌∷◌, ◌++◌, length, map, Option, Some}
use Rattle.std.proofs.Common.{true, false, cond, inl, inr, refl, sym, ap, ap₂, subst, ◌∙◌}
use Rattle.std.proofs.lemmas.List.{map-append}
use Rattle.std.specs.Prelude.{Bool, IfSome}
use Rattle.std.proofs.lemmas.Bool.{cond-true, cond-false, false≢true}
use Rattle.kv_types.specs.{Edits}
use Rattle.disk.specs.declared.Fault.{Fault}
use Rattle.disk.specs.declared.Fault.TheVariants as fault
use Rattle.disk.specs.{IsEnvironmental}
use Rattle.configurations.specs.{Configurations}
use Rattle.chain_model.specs.{Answer, dropped_for, stopped, SystemState, Outcome}
use Rattle.chain_model.specs.{StepResult, Answered, StoppedBefore, StoppedAfter, outcome, answers}
use Rattle.chain_model.specs.{stops, as_completed}
use Rattle.chain_model.specs.declared.DropReason.{DropReason}
use Rattle.chain_model.specs as request
use Rattle.chain_core.specs.declared.Input.{Input}
use Rattle.chain_core.specs.declared.Input.TheVariants as input
use Rattle.chain_core.specs.declared.Sent.{Sent}
use Rattle.chain_core.specs.{AreFrames, answer_to, frame_as, Machine}
use Rattle.engine.specs.Tended.TheVariants as tended
use Rattle.node.specs.declared.Output.{Output}
use Rattle.node.specs.declared.Reply.{Reply}
use Rattle.node.specs.declared.Stop.{Stop as Cause}
use Rattle.node.specs.declared.Stop.TheVariants.{Disk, Memory}
use Rattle.node.specs.{replies_of, replies_to_response}
use Rattle.disk.specs.declared.Disk.{Ghosts}
use Rattle.lab.specs.declared.input.StepOutcome.{StepOutcome}
use Rattle.lab.specs.declared.input.StepOutcome.TheVariants as done
use Rattle.events.specs.declared.EventContent.{EventContent}
use Rattle.events.specs.declared.EventKind.{EventKind}
use Rattle.lab.specs.declared.node_state.NodeState.{NodeState}
use Rattle.lab.specs.declared.report.Line.{Line}
use Rattle.lab.specs.declared.report.Line.TheVariants as line
use Rattle.lab.specs.Events.{RiseFits, dropped_lines, epoch_in, frame_lines, lines_of_event}
use Rattle.lab.specs.Events.{arriving, modelled, turn_trace}
use Rattle.lab.specs.Events.{reply_line, reply_lines, reported_cause, line_cause}
use Rattle.lab.specs.SimNodes.{StateRefines, Choice}
use Rattle.lab.specs.Outcomes.{down_answer, IsAnswer, IsDrop, HasAnswered}
use Rattle.lab.specs.Outcomes.{HasHandled, Answers, Ends, Rests, StopsByItself}
use Rattle.lab.specs.OutcomeLines.{adopted_lines, outcome_lines, sent_by}
use Rattle.lab.specs.Worlds.{frames_of_step}
use Rattle.lab.proofs.AnswerLines.{TurnsSo, answered_lines, counts_answer, lines_same}
use Rattle.lab.proofs.AnswerLines.{no_adoption}
use Rattle.lab.proofs.Rises.{ChoosesNoRise, IsNoTend, RaisesAsTold, no_answer, no_rise, no_stop}

-- ---- outcomes

-- a node that stops by itself stops for its device or for memory
abbrev pub CauseFits : EventContent → Choice → Outcome Edits → Type 0
CauseFits event choice o =
    o.stopped ≡ true → IfSome (reported_cause event.kind event.fault choice)
    (IsEnvironmental Disk Memory)

-- the node stopped where its doing says so, with the cause that was chosen: for its device where
-- the fault struck
abbrev pub StopsSo : EventContent → Choice → StepOutcome → Outcome Edits → Type 0
StopsSo event choice (done.Answered output) o =
    (o.stopped ≡ false) × (output.dropped ≡ o.dropped)
StopsSo event choice (done.Started epoch count committed) o = o.stopped ≡ false
StopsSo event choice (done.Tended did) o = o.stopped ≡ false
StopsSo event choice (done.Stopped traced) o =
    (o.stopped ≡ true)
    × (reported_cause event.kind event.fault choice ≡ traced)
    × (choice.struck ≡ true → choice.cause ≡ Disk)

-- what a tend told is what was chosen
abbrev pub TellsChosen : Choice → StepOutcome → Type 0
TellsChosen choice (done.Tended did) = choice.tended ≡ did
TellsChosen choice (done.Answered output) = Unit {0}
TellsChosen choice (done.Started epoch count committed) = Unit {0}
TellsChosen choice (done.Stopped traced) = Unit {0}

-- the event of this kind with this fault
abbrev pub with_fault : EventKind → Fault → EventContent
with_fault kind it = record { kind = kind; fault = it }

-- an event's outcome with its lines: the node that it was for, and the state of that node now,
-- where the fault struck or did not; it was not lost, and its replies were heard so
pub record IsOutcome {D : Type 0} {g : Ghosts D} (cs : Configurations)
    (w : SystemState Edits)
    (i x : ℕ)
    (kind : EventKind) (it : Fault) (struck : Bool) (heard : List Bool) (new : NodeState D g)
    (did : StepOutcome) : Type 0 where
  pub choice : Choice
  pub chose : choice.struck ≡ struck
  pub arrives : choice.lost ≡ false
  pub heard_so : choice.told ≡ heard
  pub tends : RiseFits kind choice (outcome w cs (modelled i kind choice))
  pub risen : RaisesAsTold x (w.nodes x) new choice did
  pub node : Machine
  pub came : (outcome w cs (modelled i kind choice)).acted_on ≡ Some (x, node)
  pub is : StateRefines g.is_honest g.state new x node
  pub frames : AreFrames (sent_by did) (outcome w cs (modelled i kind choice)).frames
  pub traced : (n : ℕ) → outcome_lines x (epoch_in kind) n did
      ≡ lines_of_event n (with_fault kind it) choice (outcome w cs (modelled i kind choice))
  pub counted : (n : ℕ) → frames_of_step (outcome_lines x (epoch_in kind) n did)
      ≡ length (outcome w cs (modelled i kind choice)).frames
  pub fits : CauseFits (with_fault kind it) choice (outcome w cs (modelled i kind choice))
  pub ends : StopsSo (with_fault kind it) choice did (outcome w cs (modelled i kind choice))
  pub told : TellsChosen choice did

-- what a node's doing is at an outcome
pub record IsTraced (x : ℕ) (event : EventContent) (choice : Choice) (did : StepOutcome)
    (o : Outcome Edits)
    : Type 0 where
  pub frames : AreFrames (sent_by did) o.frames
  pub traced : (n : ℕ) → outcome_lines x (epoch_in event.kind) n did
      ≡ lines_of_event n event choice o
  pub counted : (n : ℕ) → frames_of_step (outcome_lines x (epoch_in event.kind) n did)
      ≡ length o.frames
  pub fits : CauseFits event choice o
  pub ends : StopsSo event choice did o
  pub told : TellsChosen choice did

-- an event that arrives, of which these replies are heard
abbrev pub chosen : List Bool → StepResult → Bool → Cause → Choice
chosen heard went struck cause =
    record {
      went = went;
      struck = struck;
      cause = cause;
      tended = tended.Idle;
      rises = false;
      gives_up = 0;
      lost = false;
      told = heard;
    }

module _ {D : Type 0} {g : Ghosts D} (cs : Configurations) (w : SystemState Edits) (i x : ℕ)
    (kind : EventKind) (it : Fault) (new : NodeState D g) (did : StepOutcome) where
  -- with this choice the outcome is this one
  pub as_chosen : (choice : Choice) → choice.lost ≡ false →
      (o : Outcome Edits) (n : Machine) → RiseFits kind choice o → RaisesAsTold x (w.nodes
      x) new choice did →
      outcome w cs (modelled i kind choice) ≡ o → o.acted_on ≡ Some (x, n) →
      StateRefines g.is_honest g.state new x n → IsTraced x (with_fault kind it) choice did o →
      IsOutcome cs w i x kind it choice.struck choice.told new did
  as_chosen choice arrives o n tends risen is_o came is tells =
      let same = sym is_o in
      let all = subst (λ (p : Outcome Edits). IsTraced x (with_fault kind it) choice did p)
      same tells in
      record {
        choice = choice;
        chose = refl;
        arrives = arrives;
        heard_so = refl;
        tends = subst (RiseFits kind choice) same tends;
        risen = risen;
        node = n;
        came = ap (λ (p : Outcome Edits). p.acted_on) is_o ∙ came;
        is = is;
        frames = all.frames;
        traced = all.traced;
        counted = all.counted;
        fits = all.fits;
        ends = all.ends;
        told = all.told;
      }

  -- so it is where nothing rises
  pub as_plain : (choice : Choice) → ChoosesNoRise choice → choice.lost ≡ false →
      IsNoTend did →
      (o : Outcome Edits) (n : Machine) →
      outcome w cs (modelled i kind choice) ≡ o → o.acted_on ≡ Some (x, n) →
      StateRefines g.is_honest g.state new x n → IsTraced x (with_fault kind it) choice did o →
      IsOutcome cs w i x kind it choice.struck choice.told new did
  as_plain choice none arrives other o n =
      as_chosen choice arrives o n (no_rise kind choice o none) (λ answer is. absurd (other answer
      is))

-- ---- answers and stops

-- an input's answer has the lines of the model's
module _ (x : ℕ) (event : EventContent) (inp : Input) (choice : Choice) (a : Answer Edits)
    (output : Output) (is : IsAnswer inp a output) where
  answer_lines : (n : ℕ) → outcome_lines x (epoch_in event.kind) n (done.Answered output)
      ≡ answered_lines x (epoch_in event.kind) n a (replies_of inp a.replies)
  answer_lines n =
      ap₂ (λ (d : Option DropReason) (f : List Line). dropped_lines d
      ++ (adopted_lines x (epoch_in event.kind) d
      ++ (f ++ map (λ reply. line.Replied reply) output.replies)))
      is.dropped (lines_same n output.frames a.frames is.frames)
      ∙ ap (λ (rs : List Reply). answered_lines x (epoch_in event.kind) n a rs) is.replied

  answer_traced : TurnsSo x event.kind choice a →
      (reply_lines event.kind a.replies
      ≡ map (λ reply. line.Replied reply) (replies_of inp a.replies)) →
      IsTraced x event choice (done.Answered output) (answers x a)
  answer_traced starts replies = record {
    frames = is.frames;
    traced = λ n. answer_lines n
        ∙ ap₂ (λ (s r : List Line). dropped_lines a.dropped ++ (s ++ (frame_lines n a.frames ++ r)))
        (sym starts) (sym replies);
    counted = λ n. ap frames_of_step (answer_lines n)
        ∙ counts_answer x (epoch_in event.kind) n a (replies_of inp a.replies);
    fits = λ stops. absurd (false≢true stops);
    ends = (refl, is.dropped);
    told = tt;
  }

-- a stop has a line with its cause
pub stop_traced : (x : ℕ) (event : EventContent) (choice : Choice) (traced : Option Cause)
    (n : Machine) → reported_cause event.kind event.fault choice ≡ traced →
    (choice.struck ≡ true → choice.cause ≡ Disk) → IfSome traced (IsEnvironmental Disk Memory) →
    IsTraced x event choice (done.Stopped traced) (stops x n)
stop_traced x event choice traced n is device of_machine = record {
  frames = refl;
  traced = λ m. ap (λ (c : Option Cause). line.Stopped x c ∷ []) (sym is);
  counted = λ m. refl;
  fits = λ stops. subst (λ (c : Option Cause). IfSome c
      (IsEnvironmental Disk Memory)) (sym is) of_machine;
  ends = (refl, is, device);
  told = tt;
}

-- the cause that is told is that of the stop, or none
pub told_fits : (it : Fault) (struck : Bool) (cause : Cause) → IsEnvironmental Disk Memory cause →
    IfSome (line_cause it struck cause) (IsEnvironmental Disk Memory)
told_fits fault.None struck cause is = is
told_fits (fault.Fail call) struck cause is = is
told_fits (fault.Stop call junk) true cause is = tt
told_fits (fault.Stop call junk) false cause is = is

-- a drop has a line with its reason
pub drop_traced : (x : ℕ) (event : EventContent) (choice : Choice) (n : Machine)
    (why : DropReason) (output : Output) → IsDrop why output →
    turn_trace event.kind choice (answers x (dropped_for n why)) ≡ [] →
    IsTraced x event choice (done.Answered output) (answers x (dropped_for n why))
drop_traced x event choice n why output is starts =
    answer_traced x event input.Tick choice (dropped_for n why) output (record {
      dropped = is.dropped;
      frames = ap (map (λ (it : Sent). frame_as it.to it.frame)) is.frames;
      replied = is.replied;
    }) (starts ∙ sym (no_adoption x (epoch_in event.kind) why)) refl

-- ---- inputs

-- replies have the same lines in the model and at the node
shows_so : (inp : Input) (kind : EventKind) (replies : List (request.Response Edits)) →
    ((r : request.Response Edits) → reply_line kind r
    ≡ map (λ reply. line.Replied reply) (replies_to_response inp r)) →
    reply_lines kind replies ≡ map (λ reply. line.Replied reply) (replies_of inp replies)
shows_so inp kind [] each = refl
shows_so inp kind (r ∷ replies) each =
    ap₂ (λ (a b : List Line). a ++ b) (each r) (shows_so inp kind replies each)
    ∙ sym (map-append (λ reply. line.Replied reply) (replies_to_response inp r)
    (replies_of inp replies))

-- an input, as the model has it
module _ {D : Type 0} {g : Ghosts D} (cs : Configurations) (w : SystemState Edits) (i x : ℕ)
    (kind : EventKind) (it : Fault) (struck : Bool) (heard : List Bool) (inp : Input)
    (new : NodeState D g)
    (did : StepOutcome)
    (at : (choice : Choice) → outcome w cs (arriving i kind choice)
    ≡ cond (w.nodes x).running
    (as_completed x (w.nodes x) (answer_to x (w.nodes x) inp) choice.went)
    (answers x (down_answer (w.nodes x) inp)))
    (causes : (choice : Choice) →
    reported_cause kind it choice ≡ line_cause it choice.struck choice.cause)
    (turns : (choice : Choice) → TurnsSo x kind choice (answer_to x (w.nodes x) inp)
    × TurnsSo x kind choice (down_answer (w.nodes x) inp))
    (replies : (r : request.Response Edits) → reply_line kind r
    ≡ map (λ reply. line.Replied reply) (replies_to_response inp r)) where
  runs : (choice : Choice) → (w.nodes x).running ≡ true → outcome w cs (arriving i kind choice)
      ≡ as_completed x (w.nodes x) (answer_to x (w.nodes x) inp) choice.went
  runs choice up = at choice ∙ cond-true _ _ _ up

  rests : (choice : Choice) → (w.nodes x).running ≡ false → outcome w cs (arriving i kind choice)
      ≡ answers x (down_answer (w.nodes x) inp)
  rests choice off = at choice ∙ cond-false _ _ _ off

  -- the node answers so
  tells : (a : Answer Edits) → (traced : HasAnswered did (IsAnswer inp a)) →
      TurnsSo x kind (chosen heard Answered struck Disk) a →
      IsTraced x (with_fault kind it) (chosen heard Answered struck Disk) did (answers x a)
  tells a traced turn = subst (λ (d : StepOutcome). IsTraced x (with_fault kind it)
      (chosen heard Answered struck Disk) d (answers x a))
      (sym traced.1)
      (answer_traced x (with_fault kind it) inp (chosen heard Answered struck Disk) a traced.0
      traced.2
      turn (shows_so inp kind a.replies replies))

  -- .. or stops so
  ends : (went : StepResult) (n : Machine) (stop : StopsByItself it struck did) →
      IsTraced x (with_fault kind it) (chosen heard went struck stop.cause) did (stops x n)
  ends went n stop =
      let choice = chosen heard went struck stop.cause in
      subst (λ (d : StepOutcome). IsTraced x (with_fault kind it) choice d (stops x n))
      (sym stop.told)
      (stop_traced x (with_fault kind it) choice (line_cause it struck stop.cause) n (causes choice)
      stop.device (told_fits it struck stop.cause stop.environmental))

  pub given : HasHandled g.is_honest g.state it struck x (w.nodes x) inp new did →
      IsOutcome cs w i x kind it struck heard new did
  given (Answers up is traced) =
      as_plain cs w i x kind it new did (chosen heard Answered struck Disk) (refl, refl) refl
      (no_answer traced.1) (answers x (answer_to x (w.nodes x) inp))
      (answer_to x (w.nodes x) inp).node
      (runs (chosen heard Answered struck Disk) up) refl is
      (tells (answer_to x (w.nodes x) inp) traced (turns (chosen heard Answered struck Disk)).0)
  given (Ends up stop (inl before)) =
      as_plain cs w i x kind it new did (chosen heard StoppedBefore struck stop.cause) (refl, refl)
      refl
      (no_stop stop.told) (stops x (w.nodes x)) (stopped (w.nodes x))
      (runs (chosen heard StoppedBefore struck stop.cause) up) refl before
      (ends StoppedBefore (w.nodes x) stop)
  given (Ends up stop (inr behind)) =
      as_plain cs w i x kind it new did (chosen heard StoppedAfter struck stop.cause) (refl, refl)
      refl
      (no_stop stop.told) (stops x (answer_to x (w.nodes x) inp).node)
      (stopped (answer_to x (w.nodes x) inp).node)
      (runs (chosen heard StoppedAfter struck stop.cause) up) refl behind
      (ends StoppedAfter (answer_to x (w.nodes x) inp).node stop)
  given (Rests off is traced) =
      as_plain cs w i x kind it new did (chosen heard Answered struck Disk) (refl, refl) refl
      (no_answer traced.1) (answers x (down_answer (w.nodes x) inp))
      (down_answer (w.nodes x) inp).node
      (rests (chosen heard Answered struck Disk) off) refl
      (subst (λ (n : Machine). StateRefines g.is_honest g.state new x n) (sym (rests_same inp)) is)
      (tells (down_answer (w.nodes x) inp) traced (turns (chosen heard Answered struck Disk)).1)
    where
      rests_same : (inp : Input) → (down_answer (w.nodes x) inp).node ≡ w.nodes x
      rests_same (input.Submit request batch) = refl
      rests_same (input.Get request key at) = refl
      rests_same (input.Rows request range at) = refl
      rests_same (input.Open request at) = refl
      rests_same (input.Close request number) = refl
      rests_same (input.Forward epoch from number batch) = refl
      rests_same (input.Ack epoch from committed have) = refl
      rests_same (input.Notice epoch ids) = refl
      rests_same input.Tick = refl
