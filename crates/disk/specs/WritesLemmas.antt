-- Calls that write to one file, one behind another.
use Rattle.std.proofs.Common.{◌≡◌, ◌↔◌, ℕ, refl, subst}
use Rattle.disk.specs.declared.disk.Disk.{Ghosts}
use Rattle.disk.specs.BesideLemmas.{at_join, at_more, at_start, same_but_join}
use Rattle.disk.specs.KeepingLemmas.{kept_as, kept_behind, kept_but, neither, unchanged}
use Rattle.disk.specs.Lent.{AlwaysLeaves, KeepsDisk, WritesInto}
use Rattle.disk.specs.Moments.{IsLeftAt, Passes}
use Rattle.disk.specs.States.{IsSameBut}

module _ {D : Type 0} (g : Ghosts D) (file : ℕ) where
  -- no call
  pub writes_nothing : (disk : D) {told cause : Type 0} → (told → ⊥)
      → WritesInto g file disk disk told cause
  writes_nothing disk works = record {
    kept = kept_as g (neither (λ fails. fails) works) (λ old new is. is)
        (unchanged g (λ state other apart. refl));
    any_moment = λ honest. at_start (λ left. Unit {0}) file (g.state disk) (g.past disk)
        (λ left now. tt);
  }

  -- calls whose failure is told in other words, and whose cause implies another
  pub writes_as : {old new : D} {first told cause other : Type 0} → first ↔ told
      → (cause → other) → WritesInto g file old new first cause
      → WritesInto g file old new told other
  writes_as same so w = record {
    kept = kept_but g so (kept_as g same (λ old new is. is) w.kept);
    any_moment = w.any_moment;
  }

  -- calls that did not fail, and others behind them
  pub writes_behind : {old mid new : D} {first told cause more other : Type 0} → (first → ⊥)
      → (more → other) → WritesInto g file old mid first cause
      → WritesInto g file mid new told more → WritesInto g file old new told other
  writes_behind {old = old} {mid = mid} {new = new} works so before w = record {
    kept = kept_but g so (kept_behind g (same_but_join file) before.kept works w.kept);
    any_moment = λ honest. at_join (λ left. Unit {0}) file
        (g.state old) (g.state mid) (g.state new) (g.past old) (g.past mid) (g.past new)
        (before.any_moment honest) (before.kept.files honest)
        (w.any_moment (before.kept.honest.1 honest));
  }

  -- calls that did not fail, whatever is told of others
  pub writes_done : {old new : D} {first told cause other : Type 0} → (first → ⊥) → (told → ⊥)
      → WritesInto g file old new first cause → WritesInto g file old new told other
  writes_done {new = new} works ends w =
      writes_behind works (λ why. why) w (writes_nothing new ends)

  -- one call of the disk on the file
  pub call_writes : {old new : D} {told : Type 0} → KeepsDisk g old new told ⊥ (IsSameBut file)
      → (g.is_honest old → Passes (g.past old) (g.state old) (g.past new) (g.state new))
      → WritesInto g file old new told ⊥
  call_writes {old = old} {new = new} kept passes = record {
    kept = kept;
    any_moment = λ honest. at_more (λ left. Unit {0}) file
        (g.state old) (g.state old) (g.state new) (g.past old) (g.past old) (g.past new)
        (at_start (λ left. Unit {0}) file (g.state old) (g.past old) (λ left now. tt))
        (passes honest) (kept.files honest) (λ left now. tt);
  }

-- calls on a file, and others on it behind them, leave each other file as it was
pub moments_join : {D : Type 0} (g : Ghosts D) {own file : ℕ} → own ≡ file → {old mid new : D}
    {first cause told other : Type 0} → WritesInto g own old mid first cause
    → WritesInto g file mid new told other → g.is_honest old
    → AlwaysLeaves g old new (IsLeftAt (g.state old) file (λ left. Unit {0}))
moments_join g {file = file} is {old = old} {mid = mid} {new = new} {first = first} {cause = cause}
    before w honest =
    let same = subst (λ (f : ℕ). WritesInto g f old mid first cause) is before in
    at_join (λ left. Unit {0}) file (g.state old) (g.state mid) (g.state new)
    (g.past old) (g.past mid) (g.past new) (same.any_moment honest) (same.kept.files honest)
    (w.any_moment (same.kept.honest.1 honest))
