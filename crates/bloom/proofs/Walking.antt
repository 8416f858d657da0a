-- A walk over the probes of a key, step by step.
use Rattle.std.proofs.Common.{◌≡◌, ◌+◌, ◌-◌, ◌*◌, ◌%◌, ◌<◌, ◌≤◌, ℕ, List, length}
use Rattle.std.proofs.Common.{ap, ap₂, sym, subst, ◌∙◌, arith}
use Rattle.std.proofs.Math.Nat.{add-mod_right, mod-eq_of_lt, mod-add-mod, add-mod-mod}
use Rattle.bloom.specs.declared.hashes.Probes.{Probes}
use Rattle.bloom.specs.Filters.{probe_of}
use Rattle.bloom.specs.Probes.{IsAtProbe}

-- a sum of two remainders is less than twice as large as what they are reduced by
pub reduced : (a b n : ℕ) → a < n → b < n → n - b ≤ a → a - (n - b) ≡ (a + b) % n
reduced a b n low short over =
    let whole : a + b ≡ a - (n - b) + n = omega (arith, low, short, over) in
    let less : a - (n - b) < n = omega (arith, low) in
    sym (ap (λ x. x % n) whole ∙ add-mod_right (a - (n - b)) n ∙ mod-eq_of_lt less)

pub small : (a b n : ℕ) → a < n - b → a + b ≡ (a + b) % n
small a b n room = let less : a + b < n = omega (arith, room) in sym (mod-eq_of_lt less)

-- the probe behind probe i
pub next_probe : (bits : ℕ) (hashes : ℕ × ℕ) (i place step : ℕ) → place ≡ probe_of bits hashes i →
    step ≡ hashes.1 % bits → (place + step) % bits ≡ probe_of bits hashes (i + 1)
next_probe bits hashes i place step at by =
    let here = hashes.0 + i * hashes.1 in
    let sum : here + hashes.1 ≡ hashes.0 + (i + 1) * hashes.1 = omega arith in
    ap₂ (λ a b. (a + b) % bits) at by
    ∙ mod-add-mod here bits (hashes.1 % bits)
    ∙ add-mod-mod here hashes.1 bits
    ∙ ap (λ x. x % bits) sum

-- the walk begins at probe 0
pub begun : (filter : List ℕ) (words hashes : ℕ × ℕ) (bits : ℕ) (probes : Probes) →
    bits ≡ 8 * length filter → hashes ≡ words → IsAtProbe bits hashes 0 probes →
    IsAtProbe (8 * length filter) words 0 probes
begun filter words hashes bits probes size are at =
    subst (λ (w : ℕ × ℕ). IsAtProbe (8 * length filter) w 0 probes) are
    (subst (λ (n : ℕ). IsAtProbe n hashes 0 probes) size at)
