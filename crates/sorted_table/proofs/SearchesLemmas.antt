-- Truth values of comparisons with a spot.
use Rattle.std.proofs.Common.{◌≡◌, Bool, true, false, sym, ◌∙◌, ap}
use Rattle.std.specs.declared.cmp.Ordering.{Ordering}
use Rattle.std.specs.declared.cmp.Ordering.TheVariants.{Less, Equal, Greater}
use Rattle.std.specs.Ordering.{is_lt}
use Rattle.kv_types.specs.{Entry}
use Rattle.merge_iter.specs.{EntryPrecedes, entry_cmp}
use Rattle.merge_iter.specs.declared.Direction.TheVariants.{Forward}

less_by : (o : Ordering) → is_lt o ≡ true → o ≡ Less
less_by Less e = cc
less_by Equal e = absurd cc
less_by Greater e = absurd cc

pub early_by : (entry place : Entry) (b : Bool) → b ≡ is_lt (entry_cmp entry place) → b ≡ true
    → EntryPrecedes Forward entry place
early_by entry place b is e = less_by (entry_cmp entry place) (sym is ∙ e)

pub late_by : (entry place : Entry) (b : Bool) → b ≡ is_lt (entry_cmp entry place) → b ≡ false
    → EntryPrecedes Forward entry place → ⊥
late_by entry place b is e h =
    let both : true ≡ false = sym (ap is_lt h) ∙ sym is ∙ e in
    absurd cc
