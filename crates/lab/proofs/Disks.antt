-- The disk behind an outcome of its node.
use Rattle.std.proofs.Common.{◌≡◌, ℕ, ◌+◌, ◌^◌, ◌-◌, ◌<◌, ◌≤◌, Bool, List, Option, Some, None}
use Rattle.std.proofs.Common.{true, false, ap, inl, inr, length, ◌⊎◌}
use Rattle.std.specs.Prelude.{IsSome}
use Rattle.std.proofs.Common.{cond, ◌==◌, refl, sym, subst, ◌∙◌, eq-eqb, eqb-true, arith}
use Rattle.std.proofs.lemmas.Bool.{cond_both, cond-true, cond-false, false≢true}
use Rattle.kv_types.specs.{Edits}
use Rattle.disk.specs.{State, struck_call}
use Rattle.disk.specs.declared.Fault.{Fault}
use Rattle.disk.specs.declared.Fault.TheVariants as fault
use Rattle.disk.specs.declared.Junk.{Junk}
use Rattle.chain_model.specs.{Outcome}
use Rattle.chain_core.specs.{Machine}
use Rattle.chain_model.specs.declared.DropReason.{DropReason}
use Rattle.node.specs.declared.Output.{Output}
use Rattle.node.specs.declared.Stop.{Stop as Cause}
use Rattle.node.specs.declared.Stop.TheVariants.{Disk, Damaged, Memory, NotCreated, OldFormat}
use Rattle.node.specs.{HasLongFile}
use Rattle.disk.specs.declared.Disk.{Ghosts}
use Rattle.lab.specs.declared.input.StepOutcome.{StepOutcome}
use Rattle.lab.specs.declared.input.StepOutcome.TheVariants as done
use Rattle.events.specs.declared.EventContent.{EventContent}
use Rattle.events.specs.declared.EventKind.{EventKind}
use Rattle.events.specs.declared.EventKind.TheVariants.{Stop}
use Rattle.lab.specs.declared.node_state.NodeState.{NodeState}
use Rattle.lab.specs.declared.node_state.NodeState.TheVariants.{Up, Down}
use Rattle.lab.specs.Outcomes.{HasCrashed, DiskEnds, DiskFits, DiskStays, IsExplained}
use Rattle.lab.specs.Outcomes.{IncidentsFit, has_struck_in}
use Rattle.lab.specs.Disks.{junk_of, HasGrown, IsCrashOf, IsEndOf, IsStopOf, DiskFollows}
use Rattle.lab.specs.Disks.{StaysReliable}
use Rattle.lab.specs.Disks.{DisksFollow, HasIncidentsOf}
use Rattle.lab.specs.Disks.{before_crash, has_reached, junk_at_end, past_of_step}
use Rattle.lab.specs.Events.{reported_cause, line_cause}
use Rattle.lab.specs.SimNodes.{Choice, StateRefines, IsDown, disk_in}
use Rattle.lab.specs.SimNodes.{IsUnarmed}
use Rattle.lab.proofs.Faults.{idle}
use Rattle.lab.proofs.Outcomes.{StopsSo}

-- a count of failures that may rise
abbrev pub MayRise : {D : Type 0} → Ghosts D → D → Type 0
MayRise g disk = g.failures disk < 2 ^ 64 - 1

-- ---- one disk

-- a disk failed only as the fault struck, or as a file of it was long
abbrev FailsOnly : {D : Type 0} → Ghosts D → D → Choice → Type 0
FailsOnly g old choice =
    StaysReliable g old → choice.cause ≡ Disk → (choice.struck ≡ true) ⊎ HasLongFile (g.state old)

module _ {D : Type 0} {g : Ghosts D} where
  crash_of : (junk : Junk) (old : D) (new : NodeState D g) →
      HasCrashed g.state g.failures g.past junk old new →
      IsCrashOf g.state g.failures g.past junk old (disk_in new)
  crash_of junk old (Up node) crashed = absurd crashed
  crash_of junk old (Down disk) crashed = crashed

  -- a node that stopped by itself left such an end of its disk
  end_of : (junk : Junk) (choice : Choice) (old new : D) →
      DiskEnds g.state g.failures g.past junk choice.struck choice.cause old new → MayRise g old →
      FailsOnly g old choice → IsEndOf g junk choice old new
  end_of junk choice old new ends may only = record {
    failed = λ is. (ends.failed is).below may;
    others = ends.others;
    only = only;
    left = ends.left;
    crashes = ends.crashes;
    last = ends.last;
  }

module _ {D : Type 0} (g : Ghosts D) where
  -- no call failed but for one of a node that stopped by itself
  at_end : (junk : Junk) (struck : Bool) (cause : Cause) (old new : D) →
      DiskEnds g.state g.failures g.past junk struck cause old new → MayRise g old →
      g.failures new ≤ g.failures old + 1
  at_end junk struck Disk old new left may = omega (arith, (left.failed refl).below may)
  at_end junk struck Damaged old new left may = omega (arith, left.others (λ e. cc))
  at_end junk struck Memory old new left may = omega (arith, left.others (λ e. cc))
  at_end junk struck NotCreated old new left may = omega (arith, left.others (λ e. cc))
  at_end junk struck OldFormat old new left may = omega (arith, left.others (λ e. cc))

module _ {D : Type 0} {g : Ghosts D} where
  pub at_most_one : (junk : Option Junk) (it : Fault) (struck : Bool)
      (did : StepOutcome) (old : D) (new : NodeState D g) →
      DiskFits g.state g.failures g.past junk it struck did old new → MayRise g old →
      g.failures (disk_in new) ≤ g.failures old + 1
  at_most_one junk it struck (done.Answered output) old new left may = omega (arith, left.count)
  at_most_one junk it struck (done.Started epoch count committed) old new left may =
      omega (arith, left.count)
  at_most_one junk it struck (done.Tended did) old new left may = omega (arith, left.count)
  at_most_one None it struck (done.Stopped None) old new left may =
      at_end g (junk_at_end it struck) struck Disk old (disk_in new) left.1 may
  at_most_one (Some junk) it struck (done.Stopped None) old new left may =
      omega (arith, (crash_of junk old new left).count)
  at_most_one junk it struck (done.Stopped (Some cause)) old new left may =
      at_end g (junk_at_end it struck) struck cause old (disk_in new) left.1 may

  module _ (old : D) (new : NodeState D g) (may : MayRise g old) where
    -- a node stopped by itself for the cause that was chosen, whatever of it was told
    ended_by : (it : Fault) (choice : Choice) (traced : Option Cause) →
        line_cause it choice.struck choice.cause ≡ traced →
        (choice.struck ≡ true → choice.cause ≡ Disk) →
        DiskFits g.state g.failures g.past None it choice.struck (done.Stopped traced) old new →
        (StaysReliable g old → IsExplained (g.state old) choice.struck (done.Stopped traced)) →
        IsEndOf g (junk_at_end it choice.struck) choice old (disk_in new)
    ended_by it choice traced is device left why =
        end_of (junk_at_end it choice.struck) choice old (disk_in new)
        (ends it choice.struck device
        (subst (λ (c : Option Cause). DiskFits g.state g.failures g.past None it choice.struck
        (done.Stopped c) old new) (sym is) left)) may
        (λ stays fails. only it choice.struck fails
        (subst (λ (c : Option Cause). IsExplained (g.state old) choice.struck (done.Stopped c))
        (sym is)
        (why stays)))
      where
        cause : Cause
        cause = choice.cause

        only : (it : Fault) (struck : Bool) → cause ≡ Disk →
            IsExplained (g.state old) struck (done.Stopped (line_cause it struck cause)) →
            (struck ≡ true) ⊎ HasLongFile (g.state old)
        only fault.None struck fails why = why (ap (λ (c : Cause). done.Stopped (Some c)) fails)
        only (fault.Fail call) struck fails why =
            why (ap (λ (c : Cause). done.Stopped (Some c)) fails)
        only (fault.Stop call junk) false fails why =
            why (ap (λ (c : Cause). done.Stopped (Some c)) fails)
        only (fault.Stop call junk) true fails why = inl refl

        ends : (it : Fault) (struck : Bool) → (struck ≡ true → cause ≡ Disk) →
            DiskFits g.state g.failures g.past None it struck
            (done.Stopped (line_cause it struck cause)) old new →
            DiskEnds g.state g.failures g.past (junk_at_end it struck) struck cause old
            (disk_in new)
        ends fault.None struck device left = left.1
        ends (fault.Fail call) struck device left = left.1
        ends (fault.Stop call junk) false device left = left.1
        ends (fault.Stop call junk) true device left =
            subst (λ (c : Cause). DiskEnds g.state g.failures g.past junk true c old (disk_in new))
            (sym (device refl)) left.1

    -- a stop is that of the event, or by itself for the cause that was chosen
    stop_of : (kind : EventKind) (it : Fault) (choice : Choice) (traced : Option Cause) →
        reported_cause kind it choice ≡ traced → (choice.struck ≡ true → choice.cause ≡ Disk) →
        DiskFits g.state g.failures g.past (junk_of kind) it choice.struck
        (done.Stopped traced) old new →
        (StaysReliable g old → IsExplained (g.state old) choice.struck (done.Stopped traced)) →
        IsStopOf g (junk_of kind) it choice old (disk_in new)
    stop_of (Stop x junk) it choice traced is device left why = crash_of junk old new
        (subst (λ (c : Option Cause). DiskFits g.state g.failures g.past
        (Some junk) it choice.struck
        (done.Stopped c) old new) (sym is) left)
    stop_of kind it choice traced is device left why =
        ended_by it choice traced is device left why

    -- a state that refines a machine which does not run is down
    rests_so : (m : NodeState D g) (x : ℕ) (n : Machine) → StateRefines g.is_honest g.state m x n →
        n.running ≡ false → IsDown m
    rests_so (Up node) x n is off = absurd (false≢true (sym off ∙ is.core.running))
    rests_so (Down disk) x n is off = tt

    -- a node that stopped is down
    is_down : (m : NodeState D g) (junk : Option Junk) (it : Fault) (struck : Bool)
        (traced : Option Cause) →
        DiskFits g.state g.failures g.past junk it struck (done.Stopped traced) old m → IsDown m
    is_down (Up node) (Some junk) it struck None left = absurd left
    is_down (Down disk) (Some junk) it struck None left = tt
    is_down m None it struck None left = left.0
    is_down m junk it struck (Some cause) left = left.0

    -- the call of a fault was reached in a step, by the states that the disk of this node has had
    abbrev ReachedBy : Fault → Bool → List State → Type 0
    ReachedBy it struck past =
        struck ≡ has_reached (struck_call it) (length (g.past old)) (length past)

    -- .. all of them, where it did not stop
    reached_now : (m : NodeState D g) (it : Fault) (struck : Bool) →
        struck ≡ has_struck_in g.past it old m → DiskStays g.failures struck old m →
        ReachedBy it struck (g.past (disk_in m))
    reached_now (Up node) it struck is stays = is
    reached_now (Down disk) it struck is stays =
        stays.spared ∙ sym (subst (λ (d : D). has_reached (struck_call it)
        (length (g.past old)) (length (g.past d)) ≡ false) (sym (stays.same tt))
        (idle it (length (g.past old))))

    -- .. those before the crash, where it stopped
    reached_then : (m : NodeState D g) (it : Fault) (struck : Bool) → IsDown m →
        struck ≡ has_struck_in g.past it old m →
        ReachedBy it struck (before_crash (g.past (disk_in m)))
    reached_then (Up node) it struck down is = absurd down
    reached_then (Down disk) it struck down is = is

    module _ (event : EventContent) (choice : Choice) (o : Outcome Edits) (x : ℕ)
        (n : Machine) where
      -- the fault struck, then, as the count of calls says
      abbrev pub StruckSo : Type 0
      StruckSo = choice.struck ≡ has_struck_in g.past event.fault old new

      -- .. in a step that ended so
      abbrev ReachedIn : Bool → Type 0
      ReachedIn stopped =
          ReachedBy event.fault choice.struck (past_of_step stopped (g.past (disk_in new)))

      answered_so : StruckSo → o.stopped ≡ false → DiskStays g.failures choice.struck old new →
          ReachedIn o.stopped
      answered_so struck ends stays = subst (λ (b : Bool). ReachedIn b) (sym ends)
          (reached_now new event.fault choice.struck struck stays)

      -- a node that may rest is down, or dropped its input
      rests_at : (output : Output) → StateRefines g.is_honest g.state new x n →
          output.dropped ≡ o.dropped → IsDown new ⊎ IsSome output.dropped →
          (n.running ≡ false) ⊎ IsSome o.dropped
      rests_at output is same (inl down) = inl (off_of new is down)
        where
          off_of : (m : NodeState D g) → StateRefines g.is_honest g.state m x n → IsDown m →
              n.running ≡ false
          off_of (Up node) r down = absurd down
          off_of (Down disk) r down = r.2
      rests_at output is same (inr dropped) =
          inr (subst (λ (d : Option DropReason). IsSome d) same dropped)

      -- the incidents of a step are those of its event
      occurred_as : {A B : Type 0} → (A → B) → (ends stops : Bool) → stops ≡ ends →
          HasIncidentsOf g.state g.past g.incidents A (junk_of event.kind) event.fault
          choice.struck ends old (disk_in new) →
          HasIncidentsOf g.state g.past g.incidents B
          (junk_of event.kind) event.fault choice.struck stops old
          (disk_in new)
      occurred_as {A} {B} to ends stops is m =
          subst (λ (b : Bool). HasIncidentsOf g.state g.past g.incidents B (junk_of event.kind)
          event.fault choice.struck b old (disk_in new)) (sym is) (by m)
        where
          by : HasIncidentsOf g.state g.past g.incidents A
              (junk_of event.kind) event.fault choice.struck ends
              old (disk_in new) →
              HasIncidentsOf g.state g.past g.incidents B (junk_of event.kind) event.fault
              choice.struck ends old (disk_in new)
          by (inl rests) = inl (to rests.0, rests.1, rests.2)
          by (inr works) = inr works

      -- where it struck, the node stopped, and for its device
      pub stops_so : (did : StepOutcome) → StopsSo event choice did o →
          DiskFits g.state g.failures g.past
          (junk_of event.kind) event.fault choice.struck did old new →
          choice.struck ≡ true → (o.stopped ≡ true) × (choice.cause ≡ Disk)
      stops_so (done.Answered output) ends left e = absurd (false≢true (sym left.spared ∙ e))
      stops_so (done.Started epoch count committed) ends left e =
          absurd (false≢true (sym left.spared ∙ e))
      stops_so (done.Tended did) ends left e = absurd (false≢true (sym left.spared ∙ e))
      stops_so (done.Stopped traced) ends left e = (ends.0, ends.2 e)

      -- what the node left is what the event's outcome leaves
      pub follows : (did : StepOutcome) → StateRefines g.is_honest g.state new x n → StruckSo →
          StopsSo event choice did o →
          DiskFits g.state g.failures g.past
          (junk_of event.kind) event.fault choice.struck did old new →
          IncidentsFit g.state g.past g.incidents
          (junk_of event.kind) event.fault choice.struck did old new →
          (StaysReliable g old → IsExplained (g.state old) choice.struck did) → HasGrown g.past old
          (disk_in new) →
          DiskFollows g event choice o n old (disk_in new)
      follows (done.Answered output) is struck ends left occurred why grown = record {
        grows = grown;
        occurred = occurred_as (λ may. rests_at output is ends.1 may) false o.stopped ends.0
            occurred;
        fault = answered_so struck ends.0 left;
        stops = λ stops. absurd (false≢true (sym ends.0 ∙ stops));
        count = λ _. left.count;
        rests = λ _. λ off. left.same (rests_so new x n is off);
      }
      follows (done.Started epoch count committed) is struck ends left occurred why grown = record {
        grows = grown;
        occurred = occurred_as (λ none. absurd none) false o.stopped ends occurred;
        fault = answered_so struck ends left;
        stops = λ stops. absurd (false≢true (sym ends ∙ stops));
        count = λ _. left.count;
        rests = λ _. λ off. left.same (rests_so new x n is off);
      }
      follows (done.Tended did) is struck ends left occurred why grown = record {
        grows = grown;
        occurred = occurred_as (λ none. absurd none) false o.stopped ends occurred;
        fault = answered_so struck ends left;
        stops = λ stops. absurd (false≢true (sym ends ∙ stops));
        count = λ _. left.count;
        rests = λ _. λ off. left.same (rests_so new x n is off);
      }
      follows (done.Stopped traced) is struck ends left occurred why grown = record {
        grows = grown;
        occurred = occurred_as (λ none. absurd none) true o.stopped ends.0 occurred;
        fault = subst (λ (b : Bool). ReachedIn b) (sym ends.0)
            (reached_then new event.fault choice.struck
            (is_down new (junk_of event.kind) event.fault choice.struck traced left) struck);
        stops = λ _. stop_of event.kind event.fault choice traced ends.1 ends.2 left why;
        count = λ goes. absurd (false≢true (sym goes ∙ ends.0));
        rests = λ goes. absurd (false≢true (sym goes ∙ ends.0));
      }

-- ---- all disks

-- the disks, where node x has this one
abbrev pub with_disk : {D : Type 0} → (ℕ → D) → ℕ → D → ℕ → D
with_disk disks x own y = cond (y == x) own (disks y)

-- node x has it
pub disk_here : {D : Type 0} (disks : ℕ → D) (x : ℕ) (own : D) → with_disk disks x own x ≡ own
disk_here disks x own = cond-true (x == x) own (disks x) (eq-eqb x x refl)

-- .. and the others have theirs
pub disk_elsewhere : {D : Type 0} (disks : ℕ → D) (x : ℕ) (own : D) (y : ℕ) → (y == x) ≡ false →
    with_disk disks x own y ≡ disks y
disk_elsewhere disks x own y other = cond-false (y == x) own (disks y) other

module _ {D : Type 0} {g : Ghosts D} where
  -- what the node that an event was for left is what the event leaves of all disks
  pub all_follow : (event : EventContent) (choice : Choice) (o : Outcome Edits) (x : ℕ)
      (n : Machine)
      (disks : ℕ → D) (own : D) → o.acted_on ≡ Some (x, n) →
      DiskFollows g event choice o n (disks x) own →
      DisksFollow g event choice o disks (with_disk disks x own)
  all_follow event choice o x n disks own came follow = record {
    at = λ y m is.
        let both : Some (x, n) ≡ Some (y, m) = sym came ∙ is in
        let same : (x, n) ≡ (y, m) = cc in
        subst (λ (q : ℕ × Machine). DiskFollows g event choice o q.1
        (disks q.0)
        (with_disk disks x own q.0)) same
        (subst (λ (d : D). DiskFollows g event choice o n
        (disks x) d)
        (sym (disk_here disks x own)) follow);
    others = λ y none. cond_both (y == x) own (disks y) (λ (d : D). d ≡ disks y)
        (λ same. absurd (none n (subst (λ (z : ℕ). o.acted_on ≡ Some (z, n))
        (sym (eqb-true y x same)) came))) (λ other. refl);
  }

  -- an event that was for none leaves them
  pub none_follow : (event : EventContent) (choice : Choice) (o : Outcome Edits)
      (disks : ℕ → D) →
      o.acted_on ≡ None → DisksFollow g event choice o disks disks
  none_follow event choice o disks none = record {
    at = λ x n is.
        let both : None ≡ Some (x, n) = sym none ∙ is in
        absurd (cc);
    others = λ x other. refl;
  }

module _ {D : Type 0} (g : Ghosts D) where
  -- no disk has a fault, if this one has none
  pub none_armed : (disks : ℕ → D) (x : ℕ) (own : D) → ((y : ℕ) → IsUnarmed g (disks y)) →
      IsUnarmed g own → (y : ℕ) → IsUnarmed g (with_disk disks x own y)
  none_armed disks x own others is y =
      cond_both (y == x) own (disks y) (IsUnarmed g) (λ same. is) (λ other. others y)

  -- no disk failed more often than there are events
  pub few_more : (disks : ℕ → D) (x : ℕ) (own : D) (k m : ℕ) → m ≡ k + 1 →
      ((y : ℕ) → g.failures (disks y) ≤ k) → g.failures own ≤ g.failures (disks x) + 1 →
      (y : ℕ) → g.failures (with_disk disks x own y) ≤ m
  few_more disks x own k m more few own_few y =
      cond_both (y == x) own (disks y) (λ (d : D). g.failures d ≤ m)
      (λ same. omega (arith, few x)) (λ other. omega (arith, few y))
