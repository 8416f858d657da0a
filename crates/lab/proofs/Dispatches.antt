-- What a node that stopped by itself tells, and how often its disk has failed, whatever the disk.
use Rattle.std.proofs.Common.{◌≡◌, ◌∙◌, ℕ, Bool, None, Some, false, inl, inr, refl, subst}
use Rattle.std.proofs.Common.{sym, true}
use Rattle.disk.specs.declared.Fault.{Fault}
use Rattle.disk.specs.declared.Fault.TheVariants as fault
use Rattle.disk.specs.declared.disk.Disk.{Ghosts}
use Rattle.disk.specs.{IsArmed, KeepsDisk, RisesByOne, State}
use Rattle.node.specs.declared.Stop.{Stop as Cause}
use Rattle.node.specs.declared.Stop.TheVariants.{Disk, Damaged, Memory, NotCreated, OldFormat}
use Rattle.lab.specs.declared.input.StepOutcome.{StepOutcome}
use Rattle.lab.specs.declared.input.StepOutcome.TheVariants as done
use Rattle.lab.specs.Dispatches.{CountsFailures, StopsMachine}
use Rattle.lab.specs.Events.{line_cause}

-- only a fault that may stop its machine lets a node name no cause
names_none : (it : Fault) (struck : Bool) (stop : Cause) →
    done.Stopped (line_cause it struck stop) ≡ done.Stopped None → StopsMachine it
names_none fault.None struck stop is = absurd cc
names_none (fault.Fail call) struck stop is = absurd cc
names_none (fault.Stop call junk) struck stop is = tt

-- a cause that it names is that for which it stopped
names_own : (it : Fault) (struck : Bool) (stop cause : Cause) →
    done.Stopped (line_cause it struck stop) ≡ done.Stopped (Some cause) → stop ≡ cause
names_own fault.None struck stop cause is = cc
names_own (fault.Fail call) struck stop cause is = cc
names_own (fault.Stop call junk) false stop cause is = cc
names_own (fault.Stop call junk) true stop cause is = absurd cc

module _ (before now : ℕ) where
  count_of : (stop : Cause) → (stop ≡ Disk → RisesByOne before now) →
      ((stop ≡ Disk → ⊥) → now ≡ before) → CountsFailures None (done.Stopped (Some stop)) before now
  count_of Disk rises same = rises refl
  count_of Damaged rises same = same (λ is. cc)
  count_of Memory rises same = same (λ is. cc)
  count_of NotCreated rises same = same (λ is. cc)
  count_of OldFormat rises same = same (λ is. cc)

  count_of_none : (stop : Cause) → (stop ≡ Disk → RisesByOne before now) →
      ((stop ≡ Disk → ⊥) → now ≡ before) → CountsFailures None (done.Stopped None) before now
  count_of_none Disk rises same = inl (rises refl)
  count_of_none Damaged rises same = inr (same (λ is. cc))
  count_of_none Memory rises same = inr (same (λ is. cc))
  count_of_none NotCreated rises same = inr (same (λ is. cc))
  count_of_none OldFormat rises same = inr (same (λ is. cc))

  -- the disk failed once more exactly where the node stopped for it, which it tells or not
  counted : (it : Fault) (struck : Bool) (stop : Cause) → (stop ≡ Disk → RisesByOne before now) →
      ((stop ≡ Disk → ⊥) → now ≡ before) →
      CountsFailures None (done.Stopped (line_cause it struck stop)) before now
  counted fault.None struck stop rises same = count_of stop rises same
  counted (fault.Fail call) struck stop rises same = count_of stop rises same
  counted (fault.Stop call junk) false stop rises same = count_of stop rises same
  counted (fault.Stop call junk) true stop rises same = count_of_none stop rises same

module _ (it : Fault) (struck : Bool) (stop : Cause) (did : StepOutcome)
    (told : did ≡ done.Stopped (line_cause it struck stop)) where
  pub tells_none : did ≡ done.Stopped None → StopsMachine it
  tells_none is = names_none it struck stop (sym told ∙ is)

  pub tells_own : (cause : Cause) → did ≡ done.Stopped (Some cause) → stop ≡ cause
  tells_own cause is = names_own it struck stop cause (sym told ∙ is)

  -- a disk was armed, the calls of a step left another one, and a crash another one again, which
  -- has failed as often
  pub counts_so : {D : Type 0} (g : Ghosts D) (old armed left new : D) (has_failed cause : Type 0)
      (IsKept : State → State → Type 0) → IsArmed g it old armed →
      KeepsDisk g armed left has_failed cause IsKept → (has_failed → stop ≡ Disk) →
      (stop ≡ Disk → has_failed) → g.failures new ≡ g.failures left →
      CountsFailures None did (g.failures old) (g.failures new)
  counts_so g old armed left new has_failed cause IsKept arms keeps to from crashed =
      subst (λ (d : StepOutcome). CountsFailures None d (g.failures old) (g.failures new))
      (sym told) (counted (g.failures old) (g.failures new) it struck stop
      (λ is. subst (λ (n : ℕ). RisesByOne (g.failures old) n) (sym crashed)
      (subst (λ (n : ℕ). RisesByOne n (g.failures left)) arms.count (keeps.failed (from is))))
      (λ other. crashed ∙ keeps.count (λ fails. other (to fails)) ∙ arms.count))

-- so it has where no call failed, and it was armed again
pub counts_same : {D : Type 0} (g : Ghosts D) {it last : Fault} (old armed left new : D)
    {has_failed cause : Type 0} {IsKept : State → State → Type 0} → IsArmed g it old armed →
    KeepsDisk g armed left has_failed cause IsKept → (has_failed → ⊥) →
    IsArmed g last left new → g.failures new ≡ g.failures old
counts_same g old armed left new arms keeps works again =
    again.count ∙ keeps.count works ∙ arms.count
