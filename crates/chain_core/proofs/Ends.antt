-- A configuration has one head and one tail, and a tail has no successor.
use Rattle.std.proofs.Common.{◌≡◌, ℕ, List, [], ◌∷◌, Bool, true, false, Some, ◌==◌, refl, subst}
use Rattle.std.proofs.Common.{arith, eqb-true}
use Rattle.std.specs.Prelude.{IsSome, if◌then◌else◌}
use Rattle.std.proofs.lemmas.Bool.{false≢true, true≢false}
use Rattle.std.proofs.lemmas.Bool.Decides.{nat_tests}
use Rattle.configurations.specs.{is_head, is_tail, successor}
use Rattle.kv_types.specs.{AllDifferent, has}

same_test : (y z x : ℕ) → (y == z) ≡ true → (z == x) ≡ (y == x)
same_test y z x e =
    let is : y ≡ z = grind (arith, nat_tests) in subst (λ (m : ℕ). (m == x) ≡ (y == x)) is refl

-- x is the head where the head is x
pub one_head : (c : List ℕ) (z x : ℕ) → is_head c z ≡ true → (z == x) ≡ is_head c x
one_head [] z x h = absurd (false≢true h)
one_head (y ∷ c) z x h = same_test y z x h

-- x is the tail where the tail is x
pub one_tail : (c : List ℕ) (z x : ℕ) → is_tail c z ≡ true → (z == x) ≡ is_tail c x
one_tail [] z x h = absurd (false≢true h)
one_tail (y ∷ []) z x h = same_test y z x h
one_tail (y ∷ w ∷ c) z x h = one_tail (w ∷ c) z x h

neither : (b t : Bool) → (if b then true else t) ≡ false → (b ≡ false) × (t ≡ false)
neither true t h = absurd (true≢false h)
neither false t h = (refl, h)

absent_no_tail : (c : List ℕ) (x : ℕ) → has c x ≡ false → is_tail c x ≡ false
absent_no_tail [] x h = refl
absent_no_tail (y ∷ []) x h = (neither (y == x) false h).0
absent_no_tail (y ∷ z ∷ c) x h =
    absent_no_tail (z ∷ c) x (neither (y == x) (has (z ∷ c) x) h).1

-- a node with a successor is no tail
pub no_tail_before : (c : List ℕ) (x : ℕ) → AllDifferent c → IsSome (successor c x) →
    is_tail c x ≡ false
no_tail_before [] x different some = absurd (false≢true some)
no_tail_before (y ∷ []) x different some = absurd (false≢true some)
no_tail_before (y ∷ z ∷ c) x different some =
    go (y == x) refl (no_tail_before (z ∷ c) x different.1) some
  where
    go : (b : Bool) → (y == x) ≡ b →
        (IsSome (successor (z ∷ c) x) → is_tail (z ∷ c) x ≡ false) →
        IsSome (if b then Some z else successor (z ∷ c) x) → is_tail (z ∷ c) x ≡ false
    go true e later h =
        absent_no_tail (z ∷ c) x
        (subst (λ (w : ℕ). has (z ∷ c) w ≡ false) (eqb-true y x e) different.0)
    go false e later h = later h
