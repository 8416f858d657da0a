use Rattle.std.proofs.Common.{◌≡◌, ◌⊎◌, ◌+◌, ◌*◌, ◌<◌, ℕ, List, [], length, get_or, ap, sym, subst}
use Rattle.std.proofs.Common.{◌∙◌, arith}
use Rattle.std.specs.Prelude.{◌↔◌}
use Rattle.std.proofs.lemmas.List.{get_or-map, length-map, with_items_is}
use Rattle.bloom.specs.Filters.{HasBit, IsProbeOf, hashes_of}
use Rattle.bloom.proofs.Putting.{HasKeys, one_key, all_keys}
use Rattle.bloom.proofs.filter.build_hashed.Goals as goal

-- one key more
pub loop-of_key-preserved : goal.loop-of_key-preserved
loop-of_key-preserved c = λ keys are.
    let i = c.loop-of_key.of_key-index in
    let old = c.loop-of_key.filter.items in
    let new = c.put.new.filter in
    let value : c.deref_mut.result.now ≡ old = c.deref_mut.ensures.value in
    let same : length new ≡ length old = c.put.ensures.len ∙ ap length value in
    let few : length c.args.hashes.now ≡ length keys = ap length are ∙ length-map keys hashes_of in
    let within : i < length keys = omega (arith, c.loop-of_key-test.true, few) in
    let is : c.of_key-item.result ≡ hashes_of (get_or keys i []) =
    c.of_key-item.is ∙ ap (λ (hashes : List (ℕ × ℕ)). get_or hashes i c.of_key-item.result) are
    ∙ get_or-map hashes_of keys i [] c.of_key-item.result within in
    let put = subst (λ (b : List ℕ). (p : ℕ) → p < 8 * length b →
    HasBit new p ↔ (HasBit b p ⊎ IsProbeOf (8 * length b) c.of_key-item.result p)) value
    c.put.ensures.put in
    let whole = with_items_is c.loop-of_key.filter new (same ∙ sym c.loop-of_key.filter.ok.0) in
    subst (λ (f : List ℕ). HasKeys keys (i + 1) f) (sym whole)
    (one_key keys i old new c.of_key-item.result within is (c.loop-of_key.invariant keys are) same
    put)

pub returns : goal.returns
returns c = λ keys are.
    let few : length c.args.hashes.now ≡ length keys = ap length are ∙ length-map keys hashes_of in
    all_keys keys c.loop-of_key.of_key-index c.loop-of_key.filter.items
    (omega (arith, c.loop-of_key-test.false, few)) (c.loop-of_key.invariant keys are)
