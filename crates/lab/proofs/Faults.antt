-- What a fault makes of the disk that was armed with it, once a step made its calls.
use Rattle.std.proofs.Common.{◌≡◌, ◌↔◌, ℕ, zero, suc, ◌+◌, ◌≤◌, Bool, List, [], ◌∷◌, ◌++◌, Option}
use Rattle.std.proofs.Common.{Some, None}
use Rattle.std.proofs.Common.{length, ap₂}
use Rattle.std.proofs.Common.{true, false, refl, sym, ap, subst, ◌∙◌, arith, le-leb, leb-true}
use Rattle.std.proofs.Common.{◌⊎◌, inl, inr}
use Rattle.std.proofs.lemmas.Bool.{false≢true}
use Rattle.disk.specs.declared.Fault.{Fault}
use Rattle.disk.specs.declared.Fault.TheVariants as fault
use Rattle.disk.specs.declared.Junk.{Junk}
use Rattle.disk.specs.declared.Incident.{Incident}
use Rattle.disk.specs.declared.Incident.TheVariants.{Armed, Crashed}
use Rattle.disk.specs.declared.disk.Disk.{Ghosts}
use Rattle.disk.specs.{HasStruck, HasStruckBy, IsArmed, IsLastLeft, IsSame, KeepsDisk, RisesByOne}
use Rattle.disk.specs.{AllLeave, AlwaysLeaves, Contents, IsEnvironmental, State}
use Rattle.disk.specs.{AllLeave as later}
use Rattle.disk.specs.{Incidents, armed_after, fault_of, struck_call}
use Rattle.node.specs.declared.Stop.{Stop as Cause}
use Rattle.node.specs.declared.Stop.TheVariants.{Disk, Damaged, Memory, NotCreated, OldFormat}
use Rattle.lab.specs.declared.input.StepOutcome.{StepOutcome}
use Rattle.lab.specs.declared.input.StepOutcome.TheVariants as done
use Rattle.lab.specs.declared.node_state.NodeState.{NodeState}
use Rattle.lab.specs.declared.node_state.NodeState.TheVariants.{Up, Down}
use Rattle.node.specs.{HasLongFile, disk_of}
use Rattle.lab.specs.Disks.{HasGrown, HasIncidents, before_crash, has_reached, junk_at_end}
use Rattle.lab.specs.Disks.{incidents_of_step}
use Rattle.lab.specs.Events.{line_cause}
use Rattle.lab.specs.Outcomes.{DiskEnds, DiskFits, HasCrashed, IsExplained, StopsByItself}
use Rattle.lab.specs.Outcomes.{IncidentsFit, has_struck_in}
use Rattle.lab.specs.SimNodes.{IsDown, disk_in}

-- ---- the call that a fault strikes

-- a call is reached exactly where the fault that strikes it, armed then, has struck
reached_is : (call : Option ℕ) (before now : ℕ) →
    (has_reached call before now ≡ true) ↔ HasStruckBy (armed_after before call) now
reached_is None before now = (λ e. false≢true e, λ has. absurd has)
reached_is (Some call) before now =
    (λ e. leb-true (before + call) now e, λ has. le-leb (before + call) now has)

-- no fault has struck before a call was made since it was armed
not_yet : (it : Fault) (calls now : ℕ) → now ≤ calls →
    HasStruckBy (armed_after calls (struck_call it)) now → ⊥
not_yet fault.None calls now none has = has
not_yet (fault.Fail zero) calls now none has = has
not_yet (fault.Fail (suc n)) calls now none has = omega (arith, has, none)
not_yet (fault.Stop zero junk) calls now none has = has
not_yet (fault.Stop (suc n) junk) calls now none has = omega (arith, has, none)

-- a test fails whose fact does not hold
not_true : (b : Bool) → (b ≡ true → ⊥) → b ≡ false
not_true true none = absurd (none refl)
not_true false none = refl

-- .. and a disk has reached none of its calls
idle_by : (it : Fault) (calls now : ℕ) → now ≤ calls
    → has_reached (struck_call it) calls now ≡ false
idle_by it calls now none = not_true (has_reached (struck_call it) calls now)
    (λ e. not_yet it calls now none ((reached_is (struck_call it) calls now).0 e))

pub idle : (it : Fault) (calls : ℕ) → has_reached (struck_call it) calls calls ≡ false
idle it calls = idle_by it calls calls (omega arith)

-- there are no more states before a crash than in all
no_longer : (past : List State) → length (before_crash past) ≤ length past
no_longer [] = omega arith
no_longer (left ∷ before) = omega arith

-- no fault strikes a node that stays as it is
pub idle_in : {D : Type 0} (g : Ghosts D) (it : Fault) (old : NodeState D g) →
    has_struck_in g.past it (disk_in old) old ≡ false
idle_in g it (Up node) = idle it (length (g.past (disk_of node.value)))
idle_in g it (Down disk) =
    idle_by it (length (g.past disk.value)) (length (before_crash (g.past disk.value)))
    (no_longer (g.past disk.value))

-- a test holds, or else what follows where it fails
true_or : (b : Bool) {P : Type 0} → (b ≡ false → P) → (b ≡ true) ⊎ P
true_or true fails = inl refl
true_or false fails = inr (fails refl)

-- two states with the same slots are the same
pub same_state : {old new : State} → IsSame old new → old ≡ new
same_state same = λ i. λ file. (sym (same file)) i

-- ---- the states that a disk has had

-- those that came since are in front of the others
grown_by : (P : Contents → Type 0) (past since : List State) → AllLeave P past since →
    (more : List State) × (since ≡ more ++ past)
grown_by P past since (later.None) = ([], refl)
grown_by P past since (later.Then now between only rest) =
    let more = grown_by P past between rest in
    (now ∷ more.0, ap (λ (l : List State). now ∷ l) more.1)

-- a disk that was armed, and whose calls left this one, has grown
pub grown_since : {D : Type 0} (g : Ghosts D) (P : Contents → Type 0) (old armed left new : D) →
    g.past armed ≡ g.past old → AlwaysLeaves g armed left P → g.past new ≡ g.past left →
    HasGrown g.past old new
grown_since g P old armed left new arms leaves same =
    let more = grown_by P (g.past armed) (g.past left) leaves.later in
    (more.0, same ∙ more.1 ∙ ap (λ (l : List State). more.0 ++ l) arms)

-- .. and a crash adds one state
pub crash_grows : {D : Type 0} (g : Ghosts D) (junk : Junk) (old left : D) (new : NodeState D g) →
    HasCrashed g.state g.failures g.past junk left new → HasGrown g.past old left →
    HasGrown g.past old (disk_in new)
crash_grows g junk old left (Up node) crashed grown = absurd crashed
crash_grows g junk old left (Down disk) crashed grown =
    let now = crashed.moment.0 in
    (now ∷ grown.0, crashed.moment.2 ∙ ap (λ (l : List State). now ∷ l) grown.1)

-- ---- the calls of a step

-- what the calls of a step left of a disk that was armed with a fault, which struck or did not
pub record IsSpent {D : Type 0} (g : Ghosts D) (struck : Bool) (has_failed cause : Type 0)
    (old left : D) : Type 0 where
  pub honest : g.is_honest left
  pub strikes : (struck ≡ true) ↔ HasStruck g.incidents g.past left
  pub spared : (has_failed → ⊥) → struck ≡ false
  pub failed : has_failed → RisesByOne (g.failures old) (g.failures left)
  pub count : (has_failed → ⊥) → g.failures left ≡ g.failures old
  pub only : g.is_reliable old → has_failed → (struck ≡ true) ⊎ cause

module _ {D : Type 0} (g : Ghosts D) (it : Fault) (old : D) where
  -- whether it struck, once the disk is this one
  abbrev pub struck_at : D → Bool
  struck_at now = has_reached (struck_call it) (length (g.past old)) (length (g.past now))

  pub spent : (armed left : D) (has_failed cause : Type 0) (IsKept : State → State → Type 0) →
      IsArmed g it old armed → KeepsDisk g armed left has_failed cause IsKept →
      g.is_honest old → IsSpent g (struck_at left) has_failed cause old left
  spent armed left has_failed cause IsKept arms keeps honest = record {
    honest = keeps.honest.1 (arms.honest.1 honest);
    strikes = strikes;
    spared = λ works. not_true (struck_at left)
        (λ e. keeps.spared fresh works (strikes.0 e));
    failed = λ fails. subst (λ (n : ℕ). RisesByOne n (g.failures left)) arms.count
        (keeps.failed fails);
    count = λ works. keeps.count works ∙ arms.count;
    only = λ reliable. λ fails. true_or (struck_at left)
        (λ missed. keeps.only (arms.reliable reliable)
        (λ has. false≢true (sym missed ∙ strikes.1 has)) fails);
  }
    where
      at : fault_of (g.incidents armed) ≡ armed_after (length (g.past old)) (struck_call it)
      at = ap fault_of (arms.incidents honest)

      strikes : (struck_at left ≡ true) ↔ HasStruck g.incidents g.past left
      strikes = subst (λ (o : Option ℕ). (struck_at left ≡ true)
          ↔ HasStruckBy o (length (g.past left)))
          (sym (ap fault_of keeps.fault ∙ at))
          (reached_is (struck_call it) (length (g.past old)) (length (g.past left)))

      fresh : HasStruck g.incidents g.past armed → ⊥
      fresh has = not_yet it (length (g.past old)) (length (g.past old)) (omega arith)
          (subst (λ (n : ℕ). HasStruckBy (armed_after (length (g.past old)) (struck_call it)) n)
          (ap length arms.past)
          (subst (λ (o : Option ℕ). HasStruckBy o (length (g.past armed))) at has))

  -- it struck none whose calls did not fail, nor does the one that it was armed with then
  pub stays_so : (armed left new : D) (F C : Type 0) (IsKept : State → State → Type 0)
      {last : Fault} → IsArmed g it old armed → KeepsDisk g armed left F C IsKept → (F → ⊥) →
      IsArmed g last left new → g.is_honest old →
      (struck_at new ≡ false) × (g.failures new ≡ g.failures old)
  stays_so armed left new F C IsKept arms keeps works again honest =
      let left_so = spent armed left F C IsKept arms keeps honest in (
        subst (λ (past : List State). has_reached (struck_call it) (length (g.past old))
            (length past) ≡ false) (sym again.past) (left_so.spared works),
        again.count ∙ left_so.count works,
      )

  -- ---- a step that stopped the node

  -- what a crash leaves had had as many calls before
  after_crash : (junk : Junk) (left : D) (new : NodeState D g) →
      HasCrashed g.state g.failures g.past junk left new →
      struck_at left ≡ has_struck_in g.past it old new
  after_crash junk left (Up node) crashed = absurd crashed
  after_crash junk left (Down disk) crashed =
      ap (λ (l : List State). has_reached (struck_call it) (length (g.past old))
      (length (before_crash l))) (sym crashed.moment.2)

  -- .. and the same past
  pub before_is : (junk : Junk) (left : D) (new : NodeState D g) →
      HasCrashed g.state g.failures g.past junk left new →
      g.past left ≡ before_crash (g.past (disk_in new))
  before_is junk left (Up node) crashed = absurd crashed
  before_is junk left (Down disk) crashed =
      ap (λ (l : List State). before_crash l) (sym crashed.moment.2)

  -- a step that did not stop the node leaves the incidents of its fault
  pub occurred_so : (struck : Bool) (armed left new : D) (F C : Type 0)
      (IsKept : State → State → Type 0) → IsArmed g it old armed →
      KeepsDisk g armed left F C IsKept → IsArmed g fault.None left new → g.is_honest old →
      HasIncidents g.state g.past g.incidents (incidents_of_step it struck false
      (length (g.past old)) (length (g.past new)) (g.incidents old)) new
  occurred_so struck armed left new F C IsKept arms keeps ends honest =
      let is = keeps.honest.1 (arms.honest.1 honest) in
      record {
        occurred = ends.incidents is ∙ ap₂ (λ (n : ℕ) (l : Incidents). (n, Armed None) ∷ l)
            (ap length (sym ends.past)) (keeps.fault ∙ arms.incidents honest);
        last = ends.last is;
      }

  -- a disk that crashed is of a node that is down
  is_down : (junk : Junk) (left : D) (new : NodeState D g) →
      HasCrashed g.state g.failures g.past junk left new → IsDown new
  is_down junk left (Up node) crashed = absurd crashed
  is_down junk left (Down disk) crashed = tt

  -- a node stopped by itself and left this disk, which then crashed
  ends_by : (junk : Junk) (struck : Bool) (cause : Cause) (left : D) (new : NodeState D g) →
      HasCrashed g.state g.failures g.past junk left new →
      IsLastLeft (g.past left) (g.state left) →
      (cause ≡ Disk → RisesByOne (g.failures old) (g.failures left)) →
      ((cause ≡ Disk → ⊥) → g.failures left ≡ g.failures old) →
      DiskEnds g.state g.failures g.past junk struck cause old (disk_in new)
  ends_by junk struck cause left (Up node) crashed last failed others = absurd crashed
  ends_by junk struck cause left (Down disk) crashed last failed others = record {
    failed = λ is. subst (λ (n : ℕ). RisesByOne (g.failures old) n) (sym crashed.count) (failed is);
    others = λ other. crashed.count ∙ others other;
    left = g.state left;
    crashes = crashed.crashes;
    last = subst (λ (l : List State). IsLastLeft (before_crash l) (g.state left))
        (sym crashed.moment.2) last;
  }

  -- .. and tells what the fault lets it tell
  tells : (fault_of : Fault) (struck : Bool) (stop : Cause) (new : NodeState D g) →
      (struck ≡ true → stop ≡ Disk) → IsDown new →
      DiskEnds g.state g.failures g.past (junk_at_end fault_of struck) struck stop old
      (disk_in new) →
      DiskFits g.state g.failures g.past None fault_of struck
      (done.Stopped (line_cause fault_of struck stop)) old new
  tells fault.None struck stop new device down ends = (down, ends)
  tells (fault.Fail call) struck stop new device down ends = (down, ends)
  tells (fault.Stop call junk) false stop new device down ends = (down, ends)
  tells (fault.Stop call junk) true stop new device down ends = (
    down,
    subst (λ (c : Cause). DiskEnds g.state g.failures g.past junk true c old (disk_in new))
        (device refl) ends,
  )

  -- a cause that is reported is that of the stop
  same_cause : (fault_of : Fault) (struck : Bool) (stop cause : Cause) →
      line_cause fault_of struck stop ≡ Some cause → stop ≡ cause
  same_cause fault.None struck stop cause is = cc
  same_cause (fault.Fail call) struck stop cause is = cc
  same_cause (fault.Stop call junk) false stop cause is = cc
  same_cause (fault.Stop call junk) true stop cause is = absurd (cc)

  module _ (left : D) (stop : Cause) (new : NodeState D g) (did : StepOutcome)
      (has_failed cause : Type 0)
      (was : IsSpent g (struck_at left) has_failed cause old left) (to : has_failed → stop ≡ Disk)
      (from : stop ≡ Disk → has_failed)
      (told : (struck : Bool) → ((struck ≡ true) ↔ HasStruck g.incidents g.past left) →
      did ≡ done.Stopped (line_cause it struck stop))
      (crashes : (struck : Bool) → ((struck ≡ true) ↔ HasStruck g.incidents g.past left) →
      g.is_honest left →
      HasCrashed g.state g.failures g.past (junk_at_end it struck) left new
      × IsLastLeft (g.past left) (g.state left))
    where
      -- whether the fault struck, once all is done
      abbrev struck : Bool
      struck = has_struck_in g.past it old new

      crashed : HasCrashed g.state g.failures g.past (junk_at_end it (struck_at left)) left
          new
      crashed = (crashes (struck_at left) was.strikes was.honest).0

      same : struck_at left ≡ struck
      same = after_crash (junk_at_end it (struck_at left)) left new crashed

      device : struck ≡ true → stop ≡ Disk
      device e = is_disk stop
          (λ other. false≢true (sym (was.spared (λ fails. other (to fails))) ∙ same ∙ e))
        where
          is_disk : (cause : Cause) → ((cause ≡ Disk → ⊥) → ⊥) → cause ≡ Disk
          is_disk Disk none = refl
          is_disk Damaged none = absurd (none (λ e. cc))
          is_disk Memory none = absurd (none (λ e. cc))
          is_disk NotCreated none = absurd (none (λ e. cc))
          is_disk OldFormat none = absurd (none (λ e. cc))

      says : did ≡ done.Stopped (line_cause it struck stop)
      says = subst (λ (b : Bool). did ≡ done.Stopped (line_cause it b stop)) same
          (told (struck_at left) was.strikes)

      pub stopped_so : IsEnvironmental Disk Memory stop → StopsByItself it struck did
      stopped_so environmental = record {
        cause = stop;
        environmental = environmental;
        device = device;
        told = says;
      }

      pub disk_fits : DiskFits g.state g.failures g.past None it struck did old new
      disk_fits = subst (λ (d : StepOutcome). DiskFits g.state g.failures g.past None it
          struck d
          old new) (sym says)
          (tells it struck stop new device
          (is_down (junk_at_end it (struck_at left)) left new crashed)
          (subst (λ (b : Bool). DiskEnds g.state g.failures g.past (junk_at_end it b) b stop old
          (disk_in new))
          same
          (ends_by (junk_at_end it (struck_at left)) (struck_at left) stop left new crashed
          (crashes (struck_at left) was.strikes was.honest).1
          (λ is. was.failed (from is)) (λ other. was.count (λ fails. other (to fails))))))

      -- its disk has the incidents of that
      pub occurred_end : (armed : D) (F C : Type 0) (IsKept : State → State → Type 0) →
          IsArmed g it old armed → KeepsDisk g armed left F C IsKept → g.is_honest old →
          ((b : Bool) → ((b ≡ true) ↔ HasStruck g.incidents g.past left) → g.is_honest left →
          HasIncidents g.state g.past g.incidents
          ((length (g.past left), Crashed (junk_at_end it b)) ∷ g.incidents left) (disk_in new)) →
          IncidentsFit g.state g.past g.incidents None it struck did old new
      occurred_end armed F C IsKept arms keeps honest stamped =
          let so = stamped (struck_at left) was.strikes was.honest in
          subst (λ (d : StepOutcome).
          IncidentsFit g.state g.past g.incidents None it struck d old new)
          (sym says) (inr (record {
            occurred = so.occurred ∙ ap₂ (λ (m : ℕ × Incident) (l : Incidents). m ∷ l)
                (ap₂ (λ (n : ℕ) (b : Bool). (n, Crashed (junk_at_end it b)))
                (ap length (before_is (junk_at_end it (struck_at left)) left new crashed)) same)
                (keeps.fault ∙ arms.incidents honest);
            last = so.last;
          }))

      -- its disk has grown by what the step left, and by the crash
      pub grown_end : HasGrown g.past old left → HasGrown g.past old (disk_in new)
      grown_end grown = crash_grows g (junk_at_end it (struck_at left)) old left new crashed grown

      -- it stopped for its disk as the fault struck, or as a file was long
      pub explained : g.is_reliable old → (cause → HasLongFile (g.state old)) →
          IsExplained (g.state old) struck did
      explained reliable long is =
          let all : done.Stopped (line_cause it struck stop) ≡ done.Stopped (Some Disk) =
          sym says ∙ is in
          let told_so : line_cause it struck stop ≡ Some Disk = cc in
          elim (was.only reliable (from (same_cause it struck stop Disk told_so))) as
          (λ _. (struck ≡ true) ⊎ HasLongFile (g.state old)) [
            | inl e ↦ inl (sym same ∙ e)
            | inr why ↦ inr (long why)
          ]
