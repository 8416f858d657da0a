-- The filter of some keys covers them.
use Rattle.std.proofs.Common.{◌+◌, ◌*◌, ◌<◌, ℕ, List, length, get_or, refl, inr, arith}
use Rattle.std.proofs.lemmas.Nat.{mod_below}
use Rattle.std.proofs.lemmas.List.{get_or_default}
use Rattle.bloom.specs.Filters.{IsFilter, CoversAll, first_hash, second_hash, probe}

pub covers_each : (keys : List (List ℕ)) (filter : List ℕ) → IsFilter keys filter →
    CoversAll filter keys
covers_each keys filter is k d within =
    let key = get_or keys k d in
    let bits = 8 * length filter in
    let some : 0 < bits = omega (arith, is.len) in
    inr (λ i few. (is.exact (probe bits key i)
    (mod_below (first_hash key + i * second_hash key) bits some)).1
    (key, (k, within, get_or_default keys k key d within), (i, few, refl)))
