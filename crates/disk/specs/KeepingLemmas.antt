-- What several calls on a disk keep, one behind another.
use Rattle.std.proofs.Common.{◌≡◌, ◌↔◌, Result, Ok, Err, ◌∙◌, refl, subst}
use Rattle.disk.specs.declared.disk.Disk.{Ghosts}
use Rattle.disk.specs.Calls.{RisesByOne}
use Rattle.disk.specs.Lent.{KeepsDisk}
use Rattle.disk.specs.States.{IsSame, State}

module _ {D : Type 0} (g : Ghosts D) {first cause : Type 0} {R : State → State → Type 0} where
  -- a call whose failure is told in other words, and which keeps a weaker relation
  pub kept_as : {old new : D} {told : Type 0} {Q : State → State → Type 0} → (first ↔ told) →
      ((a b : State) → R a b → Q a b) → KeepsDisk g old new first cause R →
      KeepsDisk g old new told cause Q
  kept_as {old = old} {new = new} same weaker kept = record {
    honest = kept.honest;
    failed = λ fails. kept.failed (same.1 fails);
    count = λ works. kept.count (λ fails. works (same.0 fails));
    only = λ reliable spared fails. kept.only reliable spared (same.1 fails);
    reliable = λ reliable works. kept.reliable reliable (λ fails. works (same.0 fails));
    files = λ honest. weaker (g.state old) (g.state new) (kept.files honest);
    fault = kept.fault;
    spared = λ spared works. kept.spared spared (λ fails. works (same.0 fails));
  }

  -- a call that cannot fail for its cause
  pub kept_but : {old new : D} {other : Type 0} → (cause → other) →
      KeepsDisk g old new first cause R → KeepsDisk g old new first other R
  kept_but so kept = record {
    honest = kept.honest;
    failed = kept.failed;
    count = kept.count;
    only = λ reliable spared fails. so (kept.only reliable spared fails);
    reliable = kept.reliable;
    files = kept.files;
    fault = kept.fault;
    spared = kept.spared;
  }

  -- a call that did not fail, and one behind it
  pub kept_behind : {old mid new : D} {told other : Type 0} {S Q : State → State → Type 0} →
      ((a b c : State) → R a b → S b c → Q a c) → KeepsDisk g old mid first other R → (first → ⊥) →
      KeepsDisk g mid new told cause S → KeepsDisk g old new told cause Q
  kept_behind {old = old} {mid = mid} {new = new} both before works kept = record {
    honest = (
      λ honest. before.honest.0 (kept.honest.0 honest),
      λ honest. kept.honest.1 (before.honest.1 honest),
    );
    failed = λ fails. subst (λ k. RisesByOne k (g.failures new)) (before.count works)
        (kept.failed fails);
    count = λ end. kept.count end ∙ before.count works;
    only = λ reliable spared fails. kept.only (before.reliable reliable works) spared fails;
    reliable = λ reliable end. kept.reliable (before.reliable reliable works) end;
    files = λ honest. both (g.state old) (g.state mid) (g.state new) (before.files honest)
        (kept.files (before.honest.1 honest));
    fault = kept.fault ∙ before.fault;
    spared = λ spared end. kept.spared (before.spared spared works) end;
  }

-- no call
pub unchanged : {D : Type 0} (g : Ghosts D) {cause : Type 0} {R : State → State → Type 0} {disk : D}
    → ((a : State) → R a a) → KeepsDisk g disk disk ⊥ cause R
unchanged g {disk = disk} same = record {
  honest = (λ honest. honest, λ honest. honest);
  failed = λ fails. absurd fails;
  count = λ works. refl;
  only = λ reliable spared fails. absurd fails;
  reliable = λ reliable works. reliable;
  files = λ honest. same (g.state disk);
  fault = refl;
  spared = λ spared works. spared;
}

-- a result that is an answer reports no failure
pub answered : {T E : Type 0} (result : Result T E) {x : T} {e : E} → result ≡ Ok x →
    result ≡ Err e → ⊥
answered result ok err = cc

-- neither of two calls failed
pub neither : {first told : Type 0} → (first → ⊥) → (told → ⊥) → first ↔ told
neither works ends = (λ fails. absurd (works fails), λ fails. absurd (ends fails))

-- files that stay the same
pub same_files : (disk : State) → IsSame disk disk
same_files disk file = refl

-- files that stay the same twice stay the same
pub same_then_same : (old mid new : State) → IsSame old mid → IsSame mid new → IsSame old new
same_then_same old mid new before after other = after other ∙ before other
