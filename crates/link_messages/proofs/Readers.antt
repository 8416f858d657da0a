-- Truth values, and what may be there, are read back as they were spelled.
use Rattle.std.proofs.Common.{◌≡◌, ℕ, zero, suc, Bool, true, false, cond}
use Rattle.std.proofs.Common.{List}
use Rattle.std.proofs.Common.{[], ◌∷◌, ◌++◌, Option, Some, None, IfSome, refl}
use Rattle.std.proofs.Common.{ap, subst}
use Rattle.byte_fields.specs.{◌>>=◌, Reader, mapped}
use Rattle.byte_fields.specs.FieldsLemmas.{IsBytes, IsBytes-rest, bind_some, some_is, BeginsWith}
use Rattle.byte_fields.specs.FieldsLemmas.{BeginsWith-then}
use Rattle.link_messages.specs.Spelling.{truth, optional}
use Rattle.link_messages.specs.Reading.{truth_at}
use Rattle.link_messages.specs.Reading.{optional_at}
use Rattle.byte_fields.specs.ReadersLemmas.{Reads}

truth_takes : (bytes : List ℕ) (x : Bool × List ℕ) → IsBytes bytes → truth_at bytes ≡ Some x
    → BeginsWith bytes (truth x.0) x.1 × Unit {0}
unfolding truth_at
truth_takes [] x fits e = absurd cc
truth_takes (zero ∷ bytes) x fits e =
    let found : Bool × List ℕ = (false, bytes) in
    subst (λ (y : Bool × List ℕ). BeginsWith (0 ∷ bytes) (truth y.0) y.1
    × Unit {0}) (some_is found x e)
    (record { parts = refl; rest_fits = IsBytes-rest 0 bytes fits }, tt)
truth_takes (suc zero ∷ bytes) x fits e =
    let found : Bool × List ℕ = (true, bytes) in
    subst (λ (y : Bool × List ℕ). BeginsWith (1 ∷ bytes) (truth y.0) y.1
    × Unit {0}) (some_is found x e)
    (record { parts = refl; rest_fits = IsBytes-rest 1 bytes fits }, tt)
truth_takes (suc (suc b) ∷ bytes) x fits e = absurd cc

truth_again : (b : Bool) (rest : List ℕ) → truth_at (truth b ++ rest) ≡ Some (b, rest)
unfolding truth_at
truth_again true rest = refl
truth_again false rest = refl

pub truth_reads : Reads (λ b. Unit {0}) truth truth_at
truth_reads = record { takes = truth_takes; again = λ b rest is. truth_again b rest }

optional_takes : {A : Type 0} {Is : A → Type 0} {spell : A → List ℕ} {read : Reader A}
    → Reads Is spell read → (bytes : List ℕ) (there : Bool × List ℕ) (x : Option A × List ℕ)
    → BeginsWith bytes (truth there.0) there.1
    → cond there.0 (mapped Some read there.1) (Some (None, there.1)) ≡ Some x
    → BeginsWith bytes (optional spell x.0) x.1 × IfSome x.0 Is
optional_takes {A} {Is} {spell} {read} r bytes (true, after) x t e =
    let a = bind_some (read after) (λ a. Some (Some a.0, a.1)) x e in
    let u = r.takes after a.0 t.rest_fits a.1 in
    let whole = BeginsWith-then bytes (1 ∷ []) after (spell a.0.0) a.0.1 t u.0 in
    let found : Option A × List ℕ = (Some a.0.0, a.0.1) in
    subst (λ (y : Option A × List ℕ). BeginsWith bytes (optional spell y.0) y.1 × IfSome y.0 Is)
    (some_is found x a.2) (whole, u.1)
optional_takes {A} {Is} {spell} {read} r bytes (false, after) x t e =
    let found : Option A × List ℕ = (None, after) in
    subst (λ (y : Option A × List ℕ). BeginsWith bytes (optional spell y.0) y.1 × IfSome y.0 Is)
    (some_is found x e) (t, tt)

optional_again : {A : Type 0} {Is : A → Type 0} {spell : A → List ℕ} {read : Reader A}
    → Reads Is spell read → (o : Option A) (rest : List ℕ) → IfSome o Is
    → optional_at read (optional spell o ++ rest) ≡ Some (o, rest)
unfolding truth_at
optional_again {A} {Is} {spell} {read} r None rest is = refl
optional_again {A} {Is} {spell} {read} r (Some a) rest is =
    ap (λ (o : Option (A × List ℕ)). o >>= λ a. Some (Some a.0, a.1)) (r.again a rest is)

pub optional_reads : {A : Type 0} {Is : A → Type 0} {spell : A → List ℕ} {read : Reader A}
    → Reads Is spell read
    → Reads (λ (o : Option A). IfSome o Is) (optional spell) (optional_at read)
optional_reads {A} {Is} {spell} {read} r =
    record {
      takes = λ bytes x fits e.
          let there = bind_some (truth_at bytes)
          (λ there. cond there.0 (mapped Some read there.1) (Some (None, there.1))) x e in
          let t = truth_takes bytes there.0 fits there.1 in
          optional_takes r bytes there.0 x t.0 there.2;
      again = optional_again r;
    }
