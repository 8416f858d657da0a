use Rattle.std.proofs.Common.{rules, subst, sym}
use Rattle.std.specs.BTreeMap.Range.{IsFromStart}
use Rattle.std.specs.Range.Bound.{bound_map}
use Rattle.byte_fields.specs.{stored_cmp}
use Rattle.merge_iter.specs.declared.direction.Direction.TheVariants.{Forward}
use Rattle.merge_iter.specs.{IsFirst}
use Rattle.memtable.specs.Maps.{MapHolds}
use Rattle.memtable.specs.Places.{maybe_position}
use Rattle.memtable.proofs.Steps.{front_none, front_some}
use Rattle.memtable.proofs.place.front.Goals as goal

pub returns-in_err-key-clause-first : goal.returns-in_err-key-clause-first
returns-in_err-key-clause-first c rising =
    subst (λ o. IsFirst Forward (λ entry. MapHolds c.args.map.now entry × IsFromStart
    stored_cmp (bound_map (λ x. x.now) c.args.start) entry.key) (maybe_position o))
    (sym c.from_residual.ensures)
    (front_none c.args.map.now _ _ (c.range.ensures.in_range tt) (c.in_err-key.ensures.steps.0))

pub returns-clause-first : goal.returns-clause-first
returns-clause-first c rising = front_some c.args.map.now _ _ _ c.in_ok-key.key.now
    c.in_ok-key.versions.now c.len-at.result rising (c.range.ensures.in_range tt)
    c.in_ok-key.ensures.steps (search rules)
