use Rattle.std.proofs.Common.{◌≡◌, ◌∙◌, ℕ, List, Option, Some, None, eqb, sym}
use Rattle.std.specs.List.{position}
use Rattle.std.specs.Prelude.{is_some}
use Rattle.kv_types.specs.Snapshots.{is_open}
use Rattle.engine.proofs.Removals.{none_found, place_found}
use Rattle.engine.proofs.snapshots.has.Goals as goal

-- a search that found a place says that the number is open
there : (number : ℕ) (numbers : List ℕ) (place : Option ℕ) → position (eqb number) numbers ≡ place
    → is_some place ≡ is_open number numbers
there number numbers (Some place) is = sym (place_found number numbers place is).0.1
there number numbers None is = sym (none_found number numbers is).0

pub returns : goal.returns
returns c =
    c.is_some.ensures ∙ there c.args.number c.args.numbers.now.items c.place_of-place.result
    (sym c.place_of-place.ensures)
