use Rattle.std.proofs.Common.{◌≡◌, ◌∙◌, refl, sym, ap, subst, Some, None}
use Rattle.std.proofs.lemmas.Result.{on_ok_weaker}
use Rattle.std.specs.BTreeMap.Entry.{entry_key, entry_map_ref, entry_value}
use Rattle.std.specs.BTreeMap.Entry.{map_with_value, MatchEntry}
use Rattle.std.specs.BTreeMap.{get, get_key, ContainsKey}
use Rattle.byte_fields.specs.{stored_cmp}
use Rattle.memtable.specs.Versions.{all_of, with_version}
use Rattle.memtable.specs.Maps.{found}
use Rattle.memtable.proofs.Puts.{entered}
use Rattle.memtable.proofs.put.put.Goals as goal

-- the key had versions
pub returns-in-Occupied-clause-puts : goal.returns-in-Occupied-clause-puts
returns-in-Occupied-clause-puts c =
    let e = c.in_ok-entry.ensures in
    let own = c.args.key in
    let w = c.push.new.self in
    let same = sym e.same_map ∙ ap (λ x. (entry_map_ref x).ghost_name) c.in-Occupied.is in
    let ends = c.map-in-Occupied-2-1.given.1 same in
    let had = ap found (sym c.into_mut.ensures.value ∙ (ap entry_value (sym c.in-Occupied.is)
    ∙ e.value)) in
    on_ok_weaker c.push.result (λ all. entered c.args.map.now _ _ own own w
    c.args.version refl
    (ends ∙ ap (λ x. map_with_value x w) (sym c.in-Occupied.is)) (e.update.0 w).0
    (all ∙ ap (λ xs. with_version xs c.args.version) had)) c.push.ensures.all

-- the key is new
pub returns-in-Vacant-clause-puts : goal.returns-in-Vacant-clause-puts
returns-in-Vacant-clause-puts c =
    let e = c.in_ok-entry.ensures in
    let map = c.args.map.now in
    let own = c.args.key in
    let w = c.insert.result.now in
    let same = sym e.same_map ∙ ap (λ x. (entry_map_ref x).ghost_name) c.in-Vacant.is in
    let ends = c.map-in-Vacant-2-1.given.1 same in
    let none : get stored_cmp map own ≡ None = subst (λ x. MatchEntry x
    (ContainsKey stored_cmp map own × (get_key stored_cmp map own ≡ Some (entry_key x)))
    (get stored_cmp map own ≡ None)) c.in-Vacant.is e.found in
    entered map _ _ own own w c.args.version refl
    (ends ∙ ap (λ x. map_with_value x w) (sym c.in-Vacant.is)) (e.update.0 w).0
    (ap all_of c.insert.ensures.value ∙ (c.new.ensures.all
    ∙ ap (λ o. with_version (found o) c.args.version) (sym none)))
