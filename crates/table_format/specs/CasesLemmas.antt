-- Truth values of tests, and what they say.
use Rattle.std.proofs.Common.{◌≡◌, ℕ, zero, suc, ◌<◌, refl, sym, ◌∙◌, arith, Bool, true, false, not}
use Rattle.std.proofs.Common.{eqb}
use Rattle.std.proofs.lemmas.Bool.{eqb-true}

-- what is true where a test is false
pub off : (b : Bool) → true ≡ not b → b ≡ true → ⊥
off true e h = absurd cc
off false e h = absurd cc

-- what is false where a test is true
pub on : (b : Bool) → false ≡ not b → b ≡ true
on true e = refl
on false e = absurd cc

-- a test for 0 that fails: the number is greater
pub not_empty : (n : ℕ) (b : Bool) → b ≡ eqb n 0 → b ≡ false → 0 < n
not_empty zero b is off = absurd (cc (is, off))
not_empty (suc n) b is off = omega arith

-- a test for 0 that holds: the number is 0
pub is_nothing : (n : ℕ) (b : Bool) → b ≡ eqb n 0 → b ≡ true → n ≡ 0
is_nothing n b is on = eqb-true n 0 (sym is ∙ on)
