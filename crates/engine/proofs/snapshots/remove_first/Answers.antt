use Rattle.std.proofs.Common.{◌∙◌, ◌<◌, ℕ, List, arith, sym}
use Rattle.std.specs.VecDeque.{deque_len}
use Rattle.engine.proofs.Removals.{none_found, place_found}
use Rattle.engine.proofs.snapshots.remove_first.Goals as goal

-- the number stands at the place that was found
pub returns-in-Some : goal.returns-in-Some
returns-in-Some c =
    let numbers = c.args.numbers.now in
    let found = place_found c.args.number numbers.items c.in-Some.place
    (sym c.place_of-place.ensures ∙ c.in-Some.is) in
    let within = found.1 in
    let there : c.in-Some.place < deque_len numbers = omega (arith, within, numbers.ok.0) in
    ◌∙◌ {A = List ℕ} (rw (c.remove.ensures.succeeds 0 there) at c.remove.ensures.items) found.0.0

-- it is not there
pub returns-in_default : goal.returns-in_default
returns-in_default c =
    (none_found c.args.number c.args.numbers.now.items
    (sym c.place_of-place.ensures ∙ c.in_default.is)).1
