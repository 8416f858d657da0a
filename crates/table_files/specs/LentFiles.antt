-- What calls that only read make of a disk: a relation that adds up over any number of them.
use Rattle.disk.specs.declared.Disk.{Ghosts}
use Rattle.std.specs.Prelude.{◌≡◌, ◌↔◌, ◌⊎◌, IsErrOf, ℕ, ◌+◌, ◌-◌, ◌^◌, ◌<◌, ◌≤◌, List, length}
use Rattle.std.specs.Prelude.{Option, Some, None}
use Rattle.std.specs.Prelude.{Result, Ok, Err, IsSomeAnd}
use Rattle.std.proofs.Common.{ap, inl, inr, refl, sym, subst, ◌∙◌, arith, ⊎_elim}
use Rattle.std.proofs.lemmas.Bool.{cases_lt}
use Rattle.disk.specs.{State, Contents, IsSame, IsStill, KeepsDisk}
use Rattle.disk.specs.{HasStruck, HasStruckBy, RisesByOne, fault_of}
use Rattle.disk.specs.{AllLeave}
use Rattle.disk.specs.Faults.{Counts}
use Rattle.disk.specs.declared.DiskError.{DiskError}
use Rattle.disk.specs.declared.DiskError.TheVariants as device
use Rattle.disk.specs.Moments.{AllLeave as later}
use Rattle.disk.specs.StillLemmas.{still, still_more}
use Rattle.table_format.specs.declared.FileError.{FileError}
use Rattle.table_format.specs.declared.FileError.TheVariants as reading

-- the count of failures shows that no call failed: it stayed, below its last value
abbrev pub ShowsNoFailure : ℕ → ℕ → Type 0
ShowsNoFailure before now = (now ≡ before) × (before < 2 ^ 64 - 1)

-- what any number of calls that only read may make of the disk
pub record KeepsFiles {D : Type 0} (g : Ghosts D) (old new : D) : Type 0 where
  -- the disk is honest exactly if it was
  pub honest : g.is_honest new ↔ g.is_honest old
  -- the files of an honest disk are the same
  pub same : g.is_honest old → IsSame (g.state old) (g.state new)
  -- a crash at any moment leaves only what it might have left before
  pub still : IsStill g old new
  -- no fault was armed, and no crash came: a fault that is armed stays armed
  pub fault : g.incidents new ≡ g.incidents old
  -- the count of failures never falls
  pub count : g.failures old ≤ g.failures new
  -- a reliable disk whose fault has not struck has not failed
  pub unfailing : g.is_honest old → g.is_reliable old → (HasStruck g.incidents g.past new → ⊥) →
      (g.failures new ≡ g.failures old) × g.is_reliable new
  -- while no call failed, a reliable disk stays reliable
  pub reliable : g.is_reliable old → ShowsNoFailure (g.failures old) (g.failures new) →
      g.is_reliable new
  -- and a fault has not struck that had not
  pub spared : (HasStruck g.incidents g.past old → ⊥) →
      ShowsNoFailure (g.failures old) (g.failures new) → HasStruck g.incidents g.past new → ⊥

-- one call is counted at most
pub one_call : {T : Type 0} (result : Result T DiskError) (before now : ℕ) →
    Counts result before now → now ≤ before + 1
one_call (Ok x) before now counts = omega (arith, counts)
one_call (Err device.Failed) before now counts = omega (arith, counts)
one_call (Err device.NoFile) before now counts = omega (arith, counts)
one_call (Err device.Short) before now counts = omega (arith, counts)
one_call (Err device.Memory) before now counts = omega (arith, counts)

-- moments are never taken back
past_grows : (P : Contents → Type 0) (past since : List State) → AllLeave P past since →
    length past ≤ length since
past_grows P past since (later.None) = omega arith
past_grows P past since (later.Then now between only rest) =
    let h = past_grows P past between rest in omega arith

-- nor is a strike
stays_struck : (at then : Option ℕ) (before now : ℕ) → then ≡ at → before ≤ now →
    HasStruckBy at before → HasStruckBy then now
stays_struck at None before now same le struck = let e : None ≡ at = same in
    subst (λ (o : Option ℕ). IsSomeAnd o (λ n. n ≤ before)) (sym e) struck
stays_struck at (Some n) before now same le struck =
    let h : n ≤ before =
    subst (λ (o : Option ℕ). IsSomeAnd o (λ n. n ≤ before)) (sym same) struck in
    omega arith

module _ {D : Type 0} (g : Ghosts D) where
  -- no call at all
  pub keeps_files_itself : (a : D) → KeepsFiles g a a
  keeps_files_itself a = record {
    honest = ((λ h. h), (λ h. h));
    same = λ h file. refl;
    still = λ h. still (g.state a) (g.past a);
    fault = refl;
    count = omega arith;
    unfailing = λ h r n. (refl, r);
    reliable = λ r n. r;
    spared = λ n e. n;
  }

  struck_stays : (a b : D) → KeepsFiles g a b → g.is_honest a →
      HasStruck g.incidents g.past a → HasStruck g.incidents g.past b
  struck_stays a b k h struck =
      stays_struck (fault_of (g.incidents a)) (fault_of (g.incidents b)) (length (g.past a))
      (length (g.past b))
      (ap fault_of k.fault)
      (past_grows _ (g.past a) (g.past b) (k.still h).later) struck

  -- some calls, and some more
  pub keeps_files_through : (a b c : D) → KeepsFiles g a b → KeepsFiles g b c → KeepsFiles g a c
  keeps_files_through a b c k m = record {
    honest = ((λ h. k.honest.0 (m.honest.0 h)), (λ h. m.honest.1 (k.honest.1 h)));
    same = λ h file. m.same (k.honest.1 h) file ∙ k.same h file;
    still = λ h. still_more (k.still h) (m.still (k.honest.1 h));
    fault = m.fault ∙ k.fault;
    count = let p = k.count in let q = m.count in omega arith;
    unfailing = λ h r n.
        let first = k.unfailing h r (λ s. n (struck_stays b c m (k.honest.1 h) s)) in
        let then = m.unfailing (k.honest.1 h) first.1 n in
        (then.0 ∙ first.0, then.1);
    reliable = λ r e.
        let p = k.count in
        let q = m.count in
        let first : ShowsNoFailure (g.failures a) (g.failures b) = (omega (arith, e), e.1) in
        m.reliable (k.reliable r first) (omega (arith, e), omega (arith, e));
    spared = λ n e.
        let p = k.count in
        let q = m.count in
        let first : ShowsNoFailure (g.failures a) (g.failures b) = (omega (arith, e), e.1) in
        m.spared (k.spared n first) (omega (arith, e), omega (arith, e));
  }

  never_falls : (before now : ℕ) → RisesByOne before now → before ≤ now
  never_falls before now rises =
      ⊎_elim (λ lt. omega (arith, rises.below lt)) (λ ge. omega (arith, rises.last ge))
      (cases_lt before (2 ^ 64 - 1))

  -- one call, which failed or not
  pub keeps_files_by : {F : Type 0} (a b : D) → F ⊎ (F → ⊥) → KeepsDisk g a b F ⊥ IsSame →
      IsStill g a b → KeepsFiles g a b
  keeps_files_by a b (inl failed) k calm = record {
    honest = k.honest;
    same = k.files;
    still = calm;
    fault = k.fault;
    count = never_falls (g.failures a) (g.failures b) (k.failed failed);
    unfailing = λ h r n. absurd (k.only r n failed);
    reliable = λ r e. absurd (omega (arith, (k.failed failed).below e.1, e.0));
    spared = λ n e s. absurd (omega (arith, (k.failed failed).below e.1, e.0));
  }
  keeps_files_by a b (inr works) k calm = record {
    honest = k.honest;
    same = k.files;
    still = calm;
    fault = k.fault;
    count = omega (arith, k.count works);
    unfailing = λ h r n. (k.count works, k.reliable r works);
    reliable = λ r e. k.reliable r works;
    spared = λ n e. k.spared n works;
  }

-- a call reports a failure of the device or not
pub reports_or_not : {T : Type 0} (result : Result T FileError) →
    IsErrOf result reading.Disk ⊎ (IsErrOf result reading.Disk → ⊥)
reports_or_not (Ok x) = inr (λ e. cc)
reports_or_not (Err reading.Disk) = inl refl
reports_or_not (Err reading.Damaged) = inr (λ e. cc)
reports_or_not (Err reading.Memory) = inr (λ e. cc)

-- so a call of `CachedDisk::block`, by its clauses `kept` and `still`
pub keeps_files_after : {D T : Type 0} (g : Ghosts D) (a b : D) (result : Result T FileError) →
    KeepsDisk g a b (IsErrOf result reading.Disk) ⊥ IsSame → IsStill g a b → KeepsFiles g a b
keeps_files_after g a b result k calm = keeps_files_by g a b (reports_or_not result) k calm
