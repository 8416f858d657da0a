use Rattle.std.proofs.Common.{subst, sym, refl}
use Rattle.std.specs.BTreeMap.Range.{IsUpToEnd}
use Rattle.std.specs.Range.Bound.{bound_map}
use Rattle.byte_fields.specs.{stored_cmp}
use Rattle.merge_iter.specs.declared.direction.Direction.TheVariants.{Backward}
use Rattle.merge_iter.specs.{IsFirst}
use Rattle.memtable.specs.Maps.{MapHolds}
use Rattle.memtable.specs.Places.{maybe_position}
use Rattle.memtable.proofs.Steps.{back_none, back_some}
use Rattle.memtable.proofs.place.back.Goals as goal

pub returns-in_err-key-clause-first : goal.returns-in_err-key-clause-first
returns-in_err-key-clause-first c rising =
    subst (λ o. IsFirst Backward (λ entry. MapHolds c.args.map.now entry × IsUpToEnd
    stored_cmp (bound_map (λ x. x.now) c.args.end) entry.key) (maybe_position o))
    (sym c.from_residual.ensures)
    (back_none c.args.map.now _ _ (c.range.ensures.in_range tt) (c.in_err-key.ensures.steps.0))

pub returns-clause-first : goal.returns-clause-first
returns-clause-first c rising = back_some c.args.map.now _ _ _ c.in_ok-key.key.now
    c.in_ok-key.versions.now 0 rising (c.range.ensures.in_range tt) c.in_ok-key.ensures.steps refl
