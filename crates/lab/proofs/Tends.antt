-- A tend of a simulated node, as an event of the model: what rose in it, and what was given up.
use Rattle.std.specs.Global.{Box}
use Rattle.std.proofs.Common.{◌≡◌, ℕ, Bool, true, false, inl, inr, refl, sym, ap, subst, ◌∙◌}
use Rattle.std.proofs.Common.{arith, List, Some}
use Rattle.std.proofs.lemmas.Bool.{cond-true, cond-false, false≢true}
use Rattle.kv_types.specs.{Edits}
use Rattle.disk.specs.declared.Disk.{Ghosts}
use Rattle.disk.specs.declared.Fault.{Fault}
use Rattle.chain_model.specs.declared.DropReason.TheVariants as reason
use Rattle.configurations.specs.{Configurations}
use Rattle.chain_model.specs.{Answered, Outcome, StoppedAfter, StoppedBefore}
use Rattle.chain_model.specs.{StepResult, SystemState, answers, as_completed, dropped_for, outcome}
use Rattle.chain_model.specs.{stopped, stops}
use Rattle.chain_model.specs.Rules.{tend}
use Rattle.chain_core.specs.{Machine}
use Rattle.engine.specs.Tended.{Tended}
use Rattle.engine.specs.Tended.TheVariants as idle
use Rattle.engine.specs.{Facts, facts_of}
use Rattle.node.specs.declared.Node.{Node}
use Rattle.node.specs.declared.Stop.{Stop as Cause}
use Rattle.node.specs.declared.Stop.TheVariants.{Disk}
use Rattle.node.specs.{engine_of, facts_for, has_risen}
use Rattle.events.specs.declared.EventKind.TheVariants.{Tend}
use Rattle.lab.specs.declared.input.StepOutcome.{StepOutcome}
use Rattle.lab.specs.declared.input.StepOutcome.TheVariants as done
use Rattle.lab.specs.declared.node_state.NodeState.{NodeState}
use Rattle.lab.specs.declared.node_state.NodeState.TheVariants.{Up, Down}
use Rattle.lab.specs.Events.{RiseFits, arriving, line_cause}
use Rattle.lab.specs.Outcomes.{Halts, HasTended, IsTendedAnswer, StopsByItself, Tends, TendsNot}
use Rattle.lab.specs.Outcomes.{rises_in, tended_in}
use Rattle.lab.specs.SimNodes.{Choice, StateRefines}
use Rattle.lab.proofs.Outcomes.{IsOutcome, IsTraced, as_chosen, as_plain, chosen, drop_traced}
use Rattle.lab.proofs.Outcomes.{stop_traced, told_fits, with_fault}
use Rattle.lab.proofs.Rises.{no_answer, no_rise, no_stop}

-- what a tend is chosen to have given up: where the floor rose, so many batches
abbrev given_up : Bool → ℕ → ℕ
given_up true kept = kept
given_up false kept = 0

-- where the floor did not rise, it is the same tend whatever is given up
same_tend : (n : Machine) (rises : Bool) (kept : ℕ) →
    tend n rises (given_up rises kept) ≡ tend n rises kept
same_tend n true kept = refl
same_tend n false kept = refl

-- a machine that gives up what it kept in a tend keeps as much
kept_again : (n : Machine) (kept : ℕ) →
    (tend n true (tend n true kept).node.kept).node.kept ≡ (tend n true kept).node.kept
kept_again n kept = omega arith

tend_again : (n : Machine) (kept : ℕ) →
    (tend n true (tend n true kept).node.kept).node ≡ (tend n true kept).node
tend_again n kept =
    ap (λ (k : ℕ). record (tend n true kept).node { kept = k }) (kept_again n kept)

module _ {D : Type 0} {g : Ghosts D} (cs : Configurations) (w : SystemState Edits) (i x : ℕ)
    (it : Fault) (struck : Bool) (heard : List Bool) (old new : NodeState D g) (did : StepOutcome)
  where
    -- the machine of the node
    abbrev machine : Machine
    machine = w.nodes x

    -- the choice in a tend that went so
    abbrev chosen_tend : StepResult → Cause → Tended → Bool → ℕ → Choice
    chosen_tend went cause answer rises gives_up = record {
      went = went;
      struck = struck;
      cause = cause;
      tended = answer;
      rises = rises;
      gives_up = gives_up;
      lost = false;
      told = heard;
    }

    -- a tend of a running node is that of its machine
    ran : (choice : Choice) → machine.running ≡ true →
        outcome w cs (arriving i (Tend x) choice)
        ≡ as_completed x machine (tend machine choice.rises choice.gives_up) choice.went
    ran choice up = cond-true _ _ _ up

    -- the kept number of the machine behind it is what was given up
    fits_risen : (rises : Bool) (kept : ℕ) (choice : Choice) (o : Outcome Edits)
        (n : Machine) → choice.rises ≡ rises → choice.gives_up ≡ given_up rises kept →
        o.acted_on ≡ Some (x, n) → (rises ≡ true → kept ≡ n.kept) → RiseFits (Tend x) choice o
    fits_risen true kept choice o n rises gives_up after is = record {
      rises = λ _. record {
        node = x;
        machine = n;
        tend = refl;
        after = after;
        gives_up = gives_up ∙ is refl;
      };
      rests = λ rests. absurd (false≢true (sym rests ∙ rises));
    }
    fits_risen false kept choice o n rises gives_up after is =
        no_rise (Tend x) choice o (rises, gives_up)

    -- the node ran, and its facts say what rose
    tends_so : (now : Box (Node D g)) (answer : Tended) → new ≡ Up now → machine.running ≡ true →
        StateRefines g.is_honest g.state (Up now) x (tended_in x machine (Up now)).node →
        did ≡ done.Tended answer → IsOutcome cs w i x (Tend x) it struck heard new did
    tends_so now answer is_up up is traced =
        let facts = facts_of (engine_of now.value) in
        let rises = has_risen (facts_for x machine) facts in
        let choice = chosen_tend Answered Disk answer rises (given_up rises facts.kept) in
        let same = same_tend machine rises facts.kept in
        let a = tend machine rises facts.kept in
        as_chosen cs w i x (Tend x) it new did choice refl (answers x a) a.node
        (fits_risen rises facts.kept choice (answers x a) a.node refl refl refl
        (λ _. ap (λ (f : Facts). f.kept) is.facts))
        (λ told _. ap (rises_in x machine) (sym is_up))
        (ran choice up ∙ ap (answers x) same) refl
        (subst (λ (s : NodeState D g). StateRefines g.is_honest g.state s x a.node) (sym is_up) is)
        (subst (λ (d : StepOutcome). IsTraced x (with_fault (Tend x) it) choice d (answers x a))
        (sym traced) (silent_traced rises))
      where
        silent_traced : (rises : Bool) →
            let facts = facts_of (engine_of now.value) in
            IsTraced x (with_fault (Tend x) it)
            (chosen_tend Answered Disk answer rises (given_up rises facts.kept))
            (done.Tended answer) (answers x (tend machine rises facts.kept))
        silent_traced true = record {
          frames = refl;
          traced = λ n. refl;
          counted = λ n. refl;
          fits = λ stops. absurd (false≢true stops);
          ends = refl;
          told = refl;
        }
        silent_traced false = record {
          frames = refl;
          traced = λ n. refl;
          counted = λ n. refl;
          fits = λ stops. absurd (false≢true stops);
          ends = refl;
          told = refl;
        }

    -- the node stopped by itself, and is such a machine
    halts_so : (by : StopsByItself it struck did) (choice : Choice) (n : Machine) →
        choice.struck ≡ struck → choice.cause ≡ by.cause →
        IsTraced x (with_fault (Tend x) it) choice did (stops x n)
    halts_so by choice n is_struck is_cause =
        subst (λ (d : StepOutcome). IsTraced x (with_fault (Tend x) it) choice d (stops x n))
        (sym by.told)
        (stop_traced x (with_fault (Tend x) it) choice (line_cause it struck by.cause) n
        (ap (λ (b : Bool). line_cause it b choice.cause) is_struck
        ∙ ap (line_cause it struck) is_cause)
        (λ strikes. is_cause ∙ by.device (sym is_struck ∙ strikes))
        (told_fits it struck by.cause by.environmental))

    pub tended : HasTended g.is_honest g.state it struck x machine old new did →
        IsOutcome cs w i x (Tend x) it struck heard new did
    tended (Tends up is traced) = by_state old new refl is traced.2
      where
        by_state : (was now : NodeState D g) → new ≡ now →
            StateRefines g.is_honest g.state now x (tended_in x machine now).node →
            IsTendedAnswer was now traced.0 → IsOutcome cs w i x (Tend x) it struck heard new did
        by_state (Up was) (Up now) same is told = tends_so now traced.0 same up is traced.1
        by_state (Up was) (Down disk) same is told = absurd told
        by_state (Down disk) now same is told = absurd told
    tended (Halts up by gives_up (inl before)) =
        let choice = chosen heard StoppedBefore struck by.cause in
        as_plain cs w i x (Tend x) it new did choice (refl, refl) refl (no_stop by.told)
        (stops x machine) (stopped machine) (ran choice up) refl before
        (halts_so by choice machine refl refl)
    tended (Halts up by gives_up (inr behind)) =
        let m = (tend machine true gives_up).node in
        let choice = chosen_tend StoppedAfter by.cause idle.Idle true m.kept in
        as_chosen cs w i x (Tend x) it new did choice refl (stops x m) (stopped m)
        (fits_risen true m.kept choice (stops x m) (stopped m) refl refl refl (λ _. refl))
        (λ told is. absurd (no_stop by.told told is))
        (ran choice up ∙ ap (stops x) (tend_again machine gives_up)) refl behind
        (halts_so by choice m refl refl)
    tended (TendsNot off is traced) =
        let choice = chosen heard Answered struck Disk in
        let o = answers x (dropped_for machine reason.NotRunning) in
        as_plain cs w i x (Tend x) it new did choice (refl, refl) refl (no_answer traced.1) o
        machine
        (cond-false _ _ _ off) refl is
        (subst (λ (d : StepOutcome). IsTraced x (with_fault (Tend x) it) choice d o)
        (sym traced.1)
        (drop_traced x (with_fault (Tend x) it) choice machine reason.NotRunning
        traced.0 traced.2 refl))
