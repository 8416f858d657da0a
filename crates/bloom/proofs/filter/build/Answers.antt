use Rattle.std.proofs.Common.{◌≡◌, ◌⊎◌, ◌+◌, ◌*◌, ◌<◌, ℕ, List, [], length, get_or, ap, sym, subst}
use Rattle.std.proofs.Common.{◌∙◌}
use Rattle.std.specs.Prelude.{◌↔◌}
use Rattle.std.proofs.lemmas.List.{get_or_default, with_items_is}
use Rattle.bloom.specs.Filters.{HasBit, IsProbeOf, hashes_of}
use Rattle.bloom.proofs.Covering.{covers_each}
use Rattle.bloom.proofs.Putting.{HasKeys, all_zero, no_keys, one_key, all_keys}
use Rattle.bloom.proofs.filter.build.Goals as goal

pub loop-key-init : goal.loop-key-init
loop-key-init c =
    no_keys c.args.keys.now c.in_ok-filter.filter.items
    (sym c.in_ok-filter.filter.ok.0 ∙ c.in_ok-filter.ensures.len ∙ c.bytes_for.ensures)
    (all_zero _ c.in_ok-filter.ensures.items)

-- one key more
pub loop-key-preserved : goal.loop-key-preserved
loop-key-preserved c =
    let keys = c.args.keys.now in
    let i = c.loop-key.key-index in
    let old = c.loop-key.filter.items in
    let new = c.put.new.filter in
    let value : c.deref_mut.result.now ≡ old = c.deref_mut.ensures.value in
    let same : length new ≡ length old = c.put.ensures.len ∙ ap length value in
    let key : c.as_bytes.result.now ≡ get_or keys i [] =
    c.as_bytes.ensures.bytes ∙ c.key-item.is
    ∙ get_or_default keys i c.key-item.result [] c.loop-key-test.true in
    let put = subst (λ (b : List ℕ). (p : ℕ) → p < 8 * length b →
    HasBit new p ↔ (HasBit b p ⊎ IsProbeOf (8 * length b) c.of.result p)) value c.put.ensures.put in
    let whole = with_items_is c.loop-key.filter new (same ∙ sym c.loop-key.filter.ok.0) in
    subst (λ (f : List ℕ). HasKeys keys (i + 1) f) (sym whole)
    (one_key keys i old new c.of.result c.loop-key-test.true
    (c.of.ensures ∙ ap hashes_of key) c.loop-key.invariant same put)

pub returns-clause-filter : goal.returns-clause-filter
returns-clause-filter c =
    all_keys c.args.keys.now c.loop-key.key-index c.loop-key.filter.items c.loop-key-test.false
    c.loop-key.invariant

pub returns-clause-covers : goal.returns-clause-covers
returns-clause-covers c =
    covers_each c.args.keys.now c.loop-key.filter.items
    (all_keys c.args.keys.now c.loop-key.key-index c.loop-key.filter.items c.loop-key-test.false
    c.loop-key.invariant)
