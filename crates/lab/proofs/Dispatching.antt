-- A node that takes an input, by the state that it had.
use Rattle.std.specs.Global.{Box}
use Rattle.std.proofs.Common.{◌≡◌, ◌↔◌, ◌⊎◌, ℕ, Bool, [], None, Option, true}
use Rattle.std.proofs.Common.{Err, Ok, Result, false, inl, refl, subst, sym, ◌∙◌}
use Rattle.std.specs.Prelude.{IfOk, IsSome}
use Rattle.kv_types.specs.declared.Limits.{Limits}
use Rattle.chain_core.specs.{Machine}
use Rattle.chain_model.specs.declared.DropReason.{DropReason}
use Rattle.disk.specs.declared.Fault.{Fault}
use Rattle.disk.specs.declared.Junk.{Junk}
use Rattle.disk.specs.declared.disk.Disk.{Ghosts}
use Rattle.disk.specs.{HasStruck, IsArmed, IsEnvironmental, IsLastLeft, KeepsDisk, State, contents}
use Rattle.engine.specs.{Facts, facts_of}
use Rattle.node.specs.declared.Node.{Node}
use Rattle.node.specs.declared.Output.{Output}
use Rattle.node.specs.declared.Stop.{Stop as Cause}
use Rattle.node.specs.declared.Stop.TheVariants.{Disk, Memory}
use Rattle.node.specs.Starts.{StartRefusal}
use Rattle.node.specs.{HasLongFile, IsReady, NodeRefines, answer_to_tend, engine_of}
use Rattle.carriers.specs.declared.NodeInput.{NodeInput}
use Rattle.carriers.specs.declared.NodeInput.TheVariants as to_node
use Rattle.lab.specs.declared.input.StepOutcome.{StepOutcome}
use Rattle.lab.specs.declared.input.StepOutcome.TheVariants as done
use Rattle.lab.specs.declared.node_state.NodeState.{NodeState}
use Rattle.lab.specs.declared.node_state.NodeState.TheVariants.{Up, Down}
use Rattle.lab.specs.Disks.{HasGrown, junk_at_end}
use Rattle.lab.specs.Events.{line_cause}
use Rattle.lab.specs.Dispatches.{CountsFailures, HasDispatched, IsOutcomeOf, StandsByOutcome}
use Rattle.lab.specs.Outcomes.{DiskFits, DropsResting, HasCrashed, IsAnswerAtRest}
use Rattle.lab.specs.Outcomes.{IncidentsFit, IsDrop, IsIgnored}
use Rattle.lab.specs.Outcomes.{OutcomeRefines, Rests, RestsOn, StateFollows}
use Rattle.lab.specs.Outcomes.{StopsByItself, TendsNot, has_struck_in, input_junk}
use Rattle.lab.specs.SimNodes.{IsDown, StateIsReady, StateIsSound, StateRefines, disk_in}
use Rattle.lab.specs.Stops.{IsDownAfter, StopsWithDisk}
use Rattle.lab.proofs.Dispatches.{counts_so, tells_none, tells_own}
use Rattle.lab.proofs.Faults.{IsSpent, disk_fits, explained, grown_end, idle_in, occurred_end}
use Rattle.lab.proofs.Faults.{spent, stopped_so, struck_at}

-- the box, if it held this
abbrev pub holding : {A : Type 0} → Box A → A → Box A
holding boxed own = record { ptr = boxed.ptr; alloc = boxed.alloc; value = own }

-- a node that is up is ready where it says so, and one that is down is
pub ready_up : {D : Type 0} {g : Ghosts D} (node : Box (Node D g)) → IsReady node.value →
    StateIsReady (Up node)
ready_up node ready other same =
    let is : node ≡ other = cc in
    subst (λ (it : Box (Node _ _)). IsReady it.value) is ready

pub ready_down : {D : Type 0} (g : Ghosts D) (disk : Box D) → StateIsReady {g = g} (Down disk)
ready_down g disk other same = absurd cc

-- what has P has Q
pub each_answer : {T E : Type 0} {P Q : T → Type 0} (result : Result T E) →
    ((x : T) → P x → Q x) → IfOk result P → IfOk result Q
each_answer (Ok x) so has = so x has
each_answer (Err e) so has = tt

-- the same, where the input and the state before it are known
pub dispatched_as : {D : Type 0} {g : Ghosts D} {old new : NodeState D g} {did : StepOutcome}
    {own : NodeInput} (limits : Limits) (it : Fault) {node_input : NodeInput}
    {was : NodeState D g} → node_input ≡ own → was ≡ old →
    HasDispatched g limits it own old new did → HasDispatched g limits it node_input was new did
dispatched_as {g = g} {new = new} {did = did} {own = own} limits it {was = was} is state took =
    subst (λ (k : NodeInput). HasDispatched g limits it k was new did) (sym is)
    (subst (λ (m : NodeState _ g). HasDispatched g limits it own m new did) (sym state) took)

-- the same of a node that is up, by the node that its box gives
pub in_box : {D : Type 0} (g : Ghosts D) (limits : Limits) (it : Fault) (node_input : NodeInput)
    (old : Box (Node D g)) (own : Node D g) (new : NodeState D g) (did : StepOutcome) →
    own ≡ old.value → HasDispatched g limits it node_input (Up (holding old own)) new did →
    HasDispatched g limits it node_input (Up old) new did
in_box g limits it node_input old own new did is took =
    subst (λ (v : Node _ g). HasDispatched g limits it node_input (Up (holding old v)) new did)
    is took

-- .. of one that is down, by the disk that its box gives
pub in_disk_box : {D : Type 0} (g : Ghosts D) (limits : Limits) (it : Fault)
    (node_input : NodeInput) (old : Box D) (own : D) (new : NodeState D g) (did : StepOutcome) →
    own ≡ old.value → HasDispatched g limits it node_input (Down (holding old own)) new did →
    HasDispatched g limits it node_input (Down old) new did
in_disk_box g limits it node_input old own new did is took =
    subst (λ (d : _). HasDispatched g limits it node_input (Down (holding old d)) new did) is took

-- .. and of one that came up so, by the node that was put into its box
pub into_box : {D : Type 0} (g : Ghosts D) (limits : Limits) (it : Fault) (node_input : NodeInput)
    (old : NodeState D g) (new : Box (Node D g)) (own : Node D g) (did : StepOutcome) →
    new.value ≡ own → HasDispatched g limits it node_input old (Up (holding new own)) did →
    HasDispatched g limits it node_input old (Up new) did
into_box g limits it node_input old new own did is took =
    subst (λ (v : Node _ g). HasDispatched g limits it node_input old (Up (holding new v)) did)
    (sym is) took

-- a node that answered and did nothing else has taken its input
pub answered_only : {D : Type 0} (g : Ghosts D) (limits : Limits) (it : Fault)
    (node_input : NodeInput)
    (old : NodeState D g) (output : Output) → StateIsReady old →
    IsOutcomeOf old node_input (done.Answered output) → IsDown old ⊎ IsSome output.dropped →
    IsIgnored old node_input →
    ((x : ℕ) (n : Machine) → StateRefines g.is_honest g.state old x n →
    OutcomeRefines g.is_honest g.state it (has_struck_in g.past it (disk_in old) old) x n
    node_input old old (done.Answered output)) →
    StateFollows g.is_honest g.state g.failures g.past old node_input old →
    HasDispatched g limits it node_input old old (done.Answered output)
answered_only g limits it node_input old output ready outcome may ignored refines follows = record {
  ready = ready;
  outcome = outcome;
  stands = (λ down. down, λ down. down);
  follows = follows;
  tells = λ own stops. absurd cc;
  counts = refl;
  limits = λ has. has;
  refines = refines;
  disk = λ honest. record {
    spared = idle_in g it old;
    count = refl;
    same = λ down. refl;
  };
  explains = λ honest starts cause stops. absurd cc;
  only = λ sound reliable stops. absurd cc;
  grows = λ x n r. ([], refl);
  occurred = λ honest. inl (may, refl, refl);
  forgets = λ honest unarmed. unarmed ignored;
}

-- what is dropped has a reason
pub some_drop : (why : DropReason) (output : Output) → IsDrop why output → IsSome output.dropped
some_drop why output is = subst (λ (d : Option DropReason). IsSome d) (sym is.dropped) refl

-- a node that is down takes what does not start it
pub answered_at_rest : {D : Type 0} (g : Ghosts D) (limits : Limits) (it : Fault)
    (node_input : NodeInput) (disk : Box D)
    (output : Output) → (node_input ≡ to_node.Start → ⊥) → IsAnswerAtRest node_input output →
    HasDispatched g limits it node_input (Down disk) (Down disk) (done.Answered output)
answered_at_rest g limits it (to_node.Step inp) disk output other is =
    answered_only g limits it (to_node.Step inp) (Down disk) output (ready_down g disk)
    is (inl tt) tt
    (λ x n r. Rests r.2 r (output, refl, is n)) refl
answered_at_rest g limits it (to_node.BadFrame why) disk output other is =
    answered_only g limits it (to_node.BadFrame why) (Down disk) output (ready_down g disk)
    is (inl tt) tt
    (λ x n r. DropsResting r.2 r (output, refl, is)) refl
answered_at_rest g limits it to_node.Tend disk output other is =
    answered_only g limits it to_node.Tend (Down disk) output (ready_down g disk)
    is (inl tt) tt
    (λ x n r. TendsNot r.2 r (output, refl, is)) refl
answered_at_rest g limits it to_node.Start disk output other is = absurd (other refl)
answered_at_rest g limits it (to_node.Stop junk) disk output other is =
    answered_only g limits it (to_node.Stop junk) (Down disk) output (ready_down g disk)
    is (inl tt) tt
    (λ x n r. RestsOn r.2 r (output, refl, is)) refl

-- the disk of a state that refines a machine, or is sound, is honest
pub honest_in : {D : Type 0} (g : Ghosts D) (it : NodeState D g) (x : ℕ) (n : Machine) →
    StateRefines g.is_honest g.state it x n → g.is_honest (disk_in it)
honest_in g (Up node) x n r = r.honest
honest_in g (Down disk) x n r = r.0

honest_of : {D : Type 0} (g : Ghosts D) (it : NodeState D g) → StateIsSound g it →
    g.is_honest (disk_in it)
honest_of g (Up node) sound = sound.2.honest
honest_of g (Down disk) sound = sound

-- a state that refines a machine is sound
pub sound : {D : Type 0} (g : Ghosts D) (it : NodeState D g) (x : ℕ) (n : Machine) →
    StateRefines g.is_honest g.state it x n → StateIsSound g it
sound g (Up node) x n r = (x, n, r)
sound g (Down disk) x n r = r.0

-- a node that tended refines its machine also once it was armed, by the facts that it tells then
pub tends_armed : {D : Type 0} (g : Ghosts D) (x : ℕ) (n : Machine) (node armed : Node D g) →
    let m = (answer_to_tend x n (facts_of (engine_of node))).node in
    NodeRefines g.is_honest g.state node x m → NodeRefines g.is_honest g.state armed x m →
    NodeRefines g.is_honest g.state armed x
    (answer_to_tend x n (facts_of (engine_of armed))).node
tends_armed g x n node armed is refines =
    subst (λ (f : Facts). NodeRefines g.is_honest g.state armed x (answer_to_tend x n f).node)
    (is.facts ∙ sym refines.facts) refines

-- two tests of one fact answer the same
same_test : (a b : Bool) {P : Type 0} → (a ≡ true) ↔ P → (b ≡ true) ↔ P → a ≡ b
same_test true true is so = refl
same_test true false is so = sym (so.1 (is.0 refl))
same_test false true is so = is.1 (so.0 refl)
same_test false false is so = refl

-- A node that was in this state stopped by itself, once its disk was armed with the fault, and the
-- calls of its step left this disk, which then crashed.
module _ {D : Type 0} (g : Ghosts D) (it : Fault) (was new : NodeState D g) (did : StepOutcome)
    (armed left : D) (stop : Cause) (has_failed cause : Type 0)
    (IsKept : State → State → Type 0) (arms : IsArmed g it (disk_in was) armed)
    (keeps : KeepsDisk g armed left has_failed cause IsKept) (to : has_failed → stop ≡ Disk)
    (from : stop ≡ Disk → has_failed) (stops : StopsWithDisk g left stop it new did)
  where
    abbrev struck : Bool
    struck = has_struck_in g.past it (disk_in was) new

    spent_so : g.is_honest (disk_in was) → IsSpent g (struck_at g it (disk_in was) left) has_failed
        cause (disk_in was) left
    spent_so honest = spent g it (disk_in was) armed left has_failed cause IsKept arms keeps honest

    -- the disk that it left is honest
    pub honest_left : g.is_honest (disk_in was) → g.is_honest left
    honest_left honest = (spent_so honest).honest

    told : (b : Bool) → ((b ≡ true) ↔ HasStruck g.incidents g.past left) →
        did ≡ done.Stopped (line_cause it b stop)
    told b strikes = subst (λ (t : Bool). did ≡ done.Stopped (line_cause it t stop))
        (same_test stops.struck b stops.strikes strikes) stops.told

    down : (b : Bool) → ((b ≡ true) ↔ HasStruck g.incidents g.past left) →
        IsDownAfter g left (junk_at_end it b) new
    down b strikes = subst (λ (t : Bool). IsDownAfter g left (junk_at_end it t) new)
        (same_test stops.struck b stops.strikes strikes) stops.down

    crashes : (b : Bool) → ((b ≡ true) ↔ HasStruck g.incidents g.past left) → g.is_honest left →
        HasCrashed g.state g.failures g.past (junk_at_end it b) left new
        × IsLastLeft (g.past left) (g.state left)
    crashes b strikes honest = ((down b strikes).crashes honest, stops.last honest)

    -- it stopped for its device or for memory: for its device where the fault struck
    pub halts_so : g.is_honest (disk_in was) → IsEnvironmental Disk Memory stop →
        StopsByItself it struck did
    halts_so honest = stopped_so g it (disk_in was) left stop new did has_failed cause
        (spent_so honest) to from told crashes

    -- so it took an input that does not stop it
    pub halted : (given : Limits) (node_input : NodeInput) → input_junk node_input ≡ None →
        ((told : Option Cause) → IsOutcomeOf was node_input (done.Stopped told)) →
        ((x : ℕ) (n : Machine) → StateRefines g.is_honest g.state was x n →
        OutcomeRefines g.is_honest g.state it struck x n node_input was new did) →
        (StateIsSound g was → cause → HasLongFile (g.state (disk_in was))) →
        StateFollows g.is_honest g.state g.failures g.past was node_input new →
        ((x : ℕ) (n : Machine) → StateRefines g.is_honest g.state was x n →
        HasGrown g.past (disk_in was) left) →
        (g.is_honest (disk_in was) → node_input ≡ to_node.Start →
        StartRefusal stop (contents (g.state (disk_in was)))) →
        HasDispatched g given it node_input was new did
    halted given node_input unstopped outcome refines long follows grows explains =
        record {
          ready = stops.down.ready;
          outcome = subst (IsOutcomeOf was node_input) (sym stops.told) (outcome _);
          stands = subst (λ (d : StepOutcome). StandsByOutcome was d new) (sym stops.told)
              stops.down.is;
          follows = follows;
          tells = λ own. tells_none it stops.struck stop did stops.told;
          counts = subst (λ (j : Option Junk). CountsFailures j did (g.failures (disk_in was))
              (g.failures (disk_in new))) (sym unstopped)
              (counts_so it stops.struck stop did stops.told g (disk_in was) armed left
              (disk_in new) has_failed cause IsKept arms keeps to from stops.down.count);
          limits = λ _. stops.down.limits given;
          explains = λ honest starts own told.
              subst (λ (k : Cause). StartRefusal k (contents (g.state (disk_in was))))
              (tells_own it stops.struck stop did stops.told own told) (explains honest starts);
          refines = refines;
          disk = λ honest. subst (λ (j : Option Junk).
              DiskFits g.state g.failures g.past j it struck did (disk_in was) new) (sym unstopped)
              (disk_fits g it (disk_in was) left stop new did has_failed cause (spent_so honest)
              to from told crashes);
          only = λ is reliable. explained g it (disk_in was) left stop new did has_failed cause
              (spent_so (honest_of g was is)) to from told crashes reliable (long is);
          grows = λ x n r. grown_end g it (disk_in was) left stop new did has_failed cause
              (spent_so (honest_in g was x n r)) to from told crashes (grows x n r);
          occurred = λ honest. subst (λ (j : Option Junk).
              IncidentsFit g.state g.past g.incidents j it struck did (disk_in was) new)
              (sym unstopped)
              (occurred_end g it (disk_in was) left stop new did has_failed cause (spent_so honest)
              to from told crashes armed has_failed cause IsKept arms keeps honest
              (λ b strikes. (down b strikes).occurred));
          forgets = λ honest _. stops.down.forgets (honest_left honest);
        }
