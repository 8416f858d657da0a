-- The order in which requests are pending.
use Rattle.std.proofs.Common.{◌≡◌, ◌≤◌, ◌<◌, ℕ, ◌==◌, nat_le, nat_lt, false, sym, ◌∙◌, arith}
use Rattle.std.proofs.Common.{eq-eqb, eqb-true, le-leb, leb-false, leb-true, ltb-false, ltb-true}
use Rattle.std.specs.Prelude.{IsTrue}
use Rattle.std.proofs.lemmas.Bool.{cond_both, false≢true, lt-ltb}
use Rattle.chain_model.specs.Rules.{is_prior}

-- a request that is prior has no greater number, and where the numbers are the same no greater
-- request
pub prior_parts : (p q : ℕ × ℕ) → IsTrue (is_prior p q) → (p.0 ≤ q.0) × (p.0 ≡ q.0 → p.1 ≤ q.1)
prior_parts p q =
    cond_both (p.0 == q.0) (nat_le p.1 q.1) (nat_lt p.0 q.0)
    (λ t. IsTrue t → (p.0 ≤ q.0) × (p.0 ≡ q.0 → p.1 ≤ q.1))
    (λ same is.
    let here : p.0 ≡ q.0 = eqb-true p.0 q.0 same in
    (omega (arith, here), λ _. leb-true p.1 q.1 is))
    (λ other is.
    let less : p.0 < q.0 = ltb-true p.0 q.0 is in
    (omega (arith, less), λ e. absurd (omega (arith, less, e))))

-- such a request is prior
pub prior_from : (p q : ℕ × ℕ) → p.0 ≤ q.0 → (p.0 ≡ q.0 → p.1 ≤ q.1) → IsTrue (is_prior p q)
prior_from p q number request =
    cond_both (p.0 == q.0) (nat_le p.1 q.1) (nat_lt p.0 q.0) IsTrue
    (λ same. le-leb p.1 q.1 (request (eqb-true p.0 q.0 same)))
    (λ other.
    let apart : p.0 ≡ q.0 → ⊥ = λ e. false≢true (sym other ∙ eq-eqb p.0 q.0 e) in
    lt-ltb p.0 q.0 (grind (arith, number, apart)))

-- of two requests one is prior to the other
pub prior_other : (p q : ℕ × ℕ) → is_prior p q ≡ false → IsTrue (is_prior q p)
prior_other p q =
    cond_both (p.0 == q.0) (nat_le p.1 q.1) (nat_lt p.0 q.0)
    (λ t. t ≡ false → IsTrue (is_prior q p))
    (λ same not.
    let here : p.0 ≡ q.0 = eqb-true p.0 q.0 same in
    let less : q.1 < p.1 = leb-false p.1 q.1 not in
    prior_from q p (omega (arith, here)) (λ _. omega (arith, less)))
    (λ other not.
    prior_from q p (ltb-false p.0 q.0 not)
    (λ e. absurd (false≢true (sym other ∙ eq-eqb p.0 q.0 (sym e)))))

-- a request that is prior to another is prior to those to which that one is
pub prior_trans : (p q r : ℕ × ℕ) → IsTrue (is_prior p q) → IsTrue (is_prior q r)
    → IsTrue (is_prior p r)
prior_trans p q r first second =
    let a = prior_parts p q first in
    let b = prior_parts q r second in
    prior_from p r (omega (arith, a.0, b.0))
    (λ e.
    let same : p.0 ≡ q.0 = omega (arith, a.0, b.0, e) in
    let next : q.0 ≡ r.0 = omega (arith, a.0, b.0, e) in
    omega (arith, a.1 same, b.1 next))

-- a request of a lesser number is prior
pub prior_below : (p : ℕ × ℕ) (k i : ℕ) → p.0 < k → IsTrue (is_prior p (k, i))
prior_below p k i less =
    prior_from p (k, i) (omega (arith, less)) (λ e. absurd (omega (arith, less, e)))

-- the least request is prior to each
pub prior_least : (p : ℕ × ℕ) → 1 ≤ p.0 → IsTrue (is_prior (1, 0) p)
prior_least p least = prior_from (1, 0) p least (λ _. omega arith)
