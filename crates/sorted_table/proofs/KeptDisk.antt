-- What a call keeps of a disk where it makes no call of the disk, or reports as another call does.
use Rattle.std.proofs.Common.{ℕ, List, refl}
use Rattle.disk.specs.{Incidents, IsSame, State}
use Rattle.disk.specs.Calls.{KeepsBy}

module _ {D : Type 0} {honest : D → Type 0} {state : D → State} {failures : D → ℕ}
    {reliable : D → Type 0} {past : D → List State} {incidents : D → Incidents} where
  -- no call was made
  pub kept_uncalled : {F : Type 0} (disk : D) → (F → ⊥) →
      KeepsBy honest state failures reliable past incidents disk disk F ⊥ IsSame
  kept_uncalled disk works = record {
    honest = (λ is. is, λ is. is);
    failed = λ fails. absurd (works fails);
    count = λ _. refl;
    only = λ is spared fails. works fails;
    reliable = λ is _. is;
    files = λ is file. refl;
    fault = refl;
    spared = λ spared _. spared;
  }

  -- two answers report a failure of the device alike
  pub kept_alike : {F G : Type 0} (old new : D) → (F → G) → (G → F) →
      KeepsBy honest state failures reliable past incidents old new F ⊥ IsSame →
      KeepsBy honest state failures reliable past incidents old new G ⊥ IsSame
  kept_alike old new to back k = record {
    honest = k.honest;
    failed = λ fails. k.failed (back fails);
    count = λ works. k.count (λ fails. works (to fails));
    only = λ is spared fails. k.only is spared (back fails);
    reliable = λ is works. k.reliable is (λ fails. works (to fails));
    files = k.files;
    fault = k.fault;
    spared = λ spared works. k.spared spared (λ fails. works (to fails));
  }
