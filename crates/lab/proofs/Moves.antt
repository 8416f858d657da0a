-- A node of a world that took an input, between the others.
use Rattle.std.specs.Global.{Box}
use Rattle.std.proofs.Common.{◌≡◌, ℕ, zero, suc, ◌<◌, List, [], ◌∷◌, arith, length, get_or}
use Rattle.std.proofs.Common.{slice_set, Bool, inl, inr, true}
use Rattle.std.proofs.Common.{refl, sym, ap, subst, ◌∙◌}
use Rattle.std.proofs.lemmas.Bool.{false≢true}
use Rattle.std.proofs.Math.Seq.{map-set_same}
use Rattle.std.proofs.lemmas.List.{get_or_default, length-set}
use Rattle.std.proofs.lemmas.List.Elements.{All-get_or, All-set}
use Rattle.std.specs.List.{insert, remove}
use Rattle.std.specs.Prelude.{All, Err, IfOk, Ok, OnOk, Result}
use Rattle.kv_types.specs.declared.Limits.{Limits}
use Rattle.disk.specs.declared.Disk.{Ghosts}
use Rattle.disk.specs.declared.Fault.{Fault}
use Rattle.disk.specs.declared.Junk.{Junk}
use Rattle.chain_model.specs.{stopped}
use Rattle.chain_model.specs.Rules.{tend}
use Rattle.chain_core.specs.{Machine}
use Rattle.engine.specs.Tended.{Tended}
use Rattle.engine.specs.{Facts, facts_of}
use Rattle.node.specs.declared.Node.{Node}
use Rattle.node.specs.{disk_of, engine_of, facts_for, has_risen}
use Rattle.carriers.specs.declared.NodeInput.{NodeInput}
use Rattle.carriers.specs.declared.NodeInput.TheVariants as to_node
use Rattle.lab.specs.declared.input.StepOutcome.{StepOutcome}
use Rattle.lab.specs.declared.node_state.NodeState.{NodeState}
use Rattle.lab.specs.declared.node_state.NodeState.TheVariants.{Up, Down}
use Rattle.lab.specs.declared.sim_node.SimNode.{SimNode}
use Rattle.lab.specs.Disks.{IsCrashOf}
use Rattle.lab.specs.Dispatches.{HasDispatched}
use Rattle.lab.specs.Outcomes.{HasCrashed, HasTended, Halts, IsTendedAnswer}
use Rattle.lab.specs.Outcomes.{StateFollows, Tends, TendsNot, has_struck_in, rises_in}
use Rattle.lab.specs.SimNodes.{Choice, StateHasLimits, StateRefines, disk_in}
use Rattle.lab.specs.LinesSoFar.{sim_node_ids}
use Rattle.lab.specs.declared.delivery.Posted.{Posted}
use Rattle.events.specs.declared.EventContent.{EventContent}
use Rattle.lab.specs.declared.report.Line.{Line}
use Rattle.lab.specs.Events.{epoch_in}
use Rattle.lab.specs.OutcomeLines.{outcome_lines, sent_by}
use Rattle.lab.specs.Posting.{HasPosted}
use Rattle.lab.specs.Worlds.{HasMoved, HaveLimits, IsIndexOf, TendsAsChosen}
use Rattle.lab.proofs.Outcomes.{TellsChosen}
use Rattle.lab.proofs.Rises.{RaisesAsTold}

-- what holds of an answer follows from two facts on it
pub if_ok_both : {T E P : Type 0} {Q R : T → Type 0} (r : Result T E) → OnOk r P → IfOk r Q →
    (P → (v : T) → Q v → R v) → IfOk r R
if_ok_both (Ok v) first second both = both first v second
if_ok_both (Err e) first second both = tt

-- an element that is taken out and put back is set
put_back : {A : Type 0} (xs : List A) (i : ℕ) (y : A) → i < length xs →
    insert (remove xs i) i y ≡ slice_set xs i y
put_back [] i y within = absurd (omega arith)
put_back (x ∷ xs) zero y within = refl
put_back (x ∷ xs) (suc i) y within = ap (λ l. x ∷ l) (put_back xs i y (omega arith))

-- a state that refines a machine has an honest disk
pub honest_of : {D : Type 0} {g : Ghosts D} (it : NodeState D g) (x : ℕ) (n : Machine) →
    StateRefines g.is_honest g.state it x n → g.is_honest (disk_in it)
honest_of (Up node) x n is = is.honest
honest_of (Down disk) x n is = is.0

-- a running node that was stopped is down, and its disk is a crash of the one that it had
pub crash_of : {D : Type 0} {g : Ghosts D} (junk : Junk) (own : Box (Node D g))
    (old new : NodeState D g) → g.is_honest (disk_in old) → old ≡ Up own →
    StateFollows g.is_honest g.state g.failures g.past old (to_node.Stop junk) new →
    IsCrashOf g.state g.failures g.past junk (disk_of own.value) (disk_in new)
crash_of {D = D} {g = g} junk own old new honest runs follows =
    crashed new (subst (λ (m : NodeState D g).
    StateFollows g.is_honest g.state g.failures g.past m
    (to_node.Stop junk) new) runs follows
    (subst (λ (m : NodeState D g). g.is_honest (disk_in m)) runs honest))
  where
    crashed : (left : NodeState D g)
        → HasCrashed g.state g.failures g.past junk (disk_of own.value) left →
        IsCrashOf g.state g.failures g.past junk (disk_of own.value) (disk_in left)
    crashed (Up other) has = absurd has
    crashed (Down disk) has = has

-- a running node that tended, and runs on, did and raised what was chosen
pub tended_so : {D : Type 0} {g : Ghosts D} (it : Fault) (struck : Bool) (x : ℕ) (n : Machine)
    (old new : NodeState D g) (did : StepOutcome) (choice : Choice) →
    StateRefines g.is_honest g.state old x n → HasTended g.is_honest g.state it struck x n old new
    did →
    TellsChosen choice did → RaisesAsTold x n new choice did →
    (was now : Box (Node D g)) → old ≡ Up was → new ≡ Up now →
    TendsAsChosen choice was.value now.value
tended_so {D = D} {g = g} it struck x n old new did choice before (Tends up is told) chose risen
    was now ran runs =
    let answer = told.0 in
    let said : choice.tended ≡ answer = subst (λ (d : StepOutcome). TellsChosen choice d) told.1
    chose in
    let facts : facts_of (engine_of was.value) ≡ facts_for x n =
    (subst (λ (m : NodeState D g). StateRefines g.is_honest g.state m x n) ran before).facts in
    record {
      did = subst (λ (d : Tended). IsTendedAnswer (Up was) (Up now) d) (sym said)
          (subst (λ (m : NodeState D g). IsTendedAnswer (Up was) m answer) runs
          (subst (λ (m : NodeState D g). IsTendedAnswer m new answer) ran told.2));
      rises = risen answer told.1 ∙ ap (rises_in x n) runs
          ∙ ap (λ (f : Facts). has_risen f (facts_of (engine_of now.value))) (sym facts);
    }
tended_so {D = D} {g = g} it struck x n old new did choice before (Halts up stop gives_up is) chose
    risen was now ran runs =
    absurd (elim is [
      | inl stays ↦ false≢true (subst (λ (m : NodeState D g). StateRefines g.is_honest g.state m x
          (stopped n)) runs stays).core.running
      | inr raised ↦ false≢true (subst (λ (m : NodeState D g). StateRefines g.is_honest g.state m x
          (stopped (tend n true gives_up).node)) runs raised).core.running
    ])
tended_so {D = D} {g = g} it struck x n old new did choice before (TendsNot off is answered) chose
    risen was now ran runs =
    absurd (false≢true (sym off ∙ (subst (λ (m : NodeState D g). StateRefines g.is_honest g.state m
    x n) runs is).core.running))

module _ {D : Type 0} {g : Ghosts D} where
  -- Node x took this input for this event: the frames that it sent are posted, and these are its
  -- lines.
  pub record HasStepped (sims : List (SimNode D g)) (posted : List Posted) (x : ℕ)
      (node_input : NodeInput)
      (event : EventContent) (given : Limits) (lines : List Line) (now : List (SimNode D g))
      (more : List Posted)
      : Type 0 where
    pub did : StepOutcome
    pub took : HasMoved sims x node_input event.fault given did now
    pub sent : HasPosted posted x (sent_by did) more
    pub traced : lines ≡ outcome_lines x (epoch_in event.kind) (length posted) did

  -- whether the fault struck between these states of a node
  abbrev pub struck_by : Fault → SimNode D g → SimNode D g → Bool
  struck_by it was now = has_struck_in g.past it (disk_in was.state) now.state

  -- a node that was taken out was replaced by its new state, which was put in at its place
  pub moved : (old out new : List (SimNode D g)) (i x : ℕ) (was now : SimNode D g)
      (node_input : NodeInput) (it : Fault) (limits : Limits) (did : StepOutcome) →
      IsIndexOf old i x → was ≡ get_or old i was → out ≡ remove old i →
      new ≡ insert out i now → now.id ≡ x →
      HasDispatched g limits it node_input was.state now.state did →
      HasMoved old x node_input it limits did new
  moved old out new i x was now node_input it limits did at own left put id took = record {
    index = i;
    at = at;
    sim = now;
    others = put ∙ ap (λ (l : List (SimNode D g)). insert l i now) left
        ∙ put_back old i now at.within;
    id = id;
    dispatched = subst (λ (s : SimNode D g).
        HasDispatched g limits it node_input s.state now.state did)
        (own ∙ get_or_default old i was now at.within) took;
  }

  -- each node that is up has the limits that it had
  pub limited : (old : List (SimNode D g)) (x : ℕ) (node_input : NodeInput) (it : Fault)
      (limits : Limits)
      (did : StepOutcome) (now : List (SimNode D g)) → HasMoved old x node_input it limits did now →
      HaveLimits old limits → HaveLimits now limits
  limited old x node_input it limits did now t all =
      let Has : SimNode D g → Type 0 = λ sim. StateHasLimits sim.state limits in
      subst (λ (l : List (SimNode D g)). All Has l) (sym t.others) (All-set Has old t.index t.sim
      (t.dispatched.limits (All-get_or Has old t.index t.sim t.at.within all)) all)

  -- .. and its id
  pub same_ids : (old : List (SimNode D g)) (x : ℕ) (node_input : NodeInput) (it : Fault)
      (limits : Limits)
      (did : StepOutcome) (now : List (SimNode D g)) → HasMoved old x node_input it limits did now →
      sim_node_ids now ≡ sim_node_ids old
  same_ids old x node_input it limits did now t =
      ap sim_node_ids t.others
      ∙ map-set_same (λ (s : SimNode D g). s.id) old t.index t.sim t.sim
      (t.id ∙ sym (t.at.id t.sim))

  -- .. and there are as many nodes as before
  pub as_many : (old : List (SimNode D g)) (x : ℕ) (node_input : NodeInput) (it : Fault)
      (limits : Limits)
      (did : StepOutcome) (now : List (SimNode D g)) → HasMoved old x node_input it limits did now →
      length now ≡ length old
  as_many old x node_input it limits did now t = ap length t.others ∙ length-set old t.index t.sim
