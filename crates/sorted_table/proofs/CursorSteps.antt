-- Steps of a cursor over a table come nearer to the end.
use Rattle.std.proofs.Common.{◌≡◌, ℕ, zero, suc, ◌+◌, ◌≤◌, ◌<◌, List, [], ◌∷◌, length, take, drop}
use Rattle.std.proofs.Common.{Option}
use Rattle.std.proofs.Common.{Some, None, Bool, false, Result, Ok, Err, OnOk, refl, sym, ap, subst}
use Rattle.std.proofs.Common.{◌∙◌, arith}
use Rattle.std.specs.Option.{ForSome}
use Rattle.std.specs.List.{slice_get}
use Rattle.merge_iter.specs.declared.Direction.{Direction}
use Rattle.merge_iter.specs.declared.Direction.TheVariants.{Forward, Backward}
use Rattle.table_format.specs.declared.IndexLine.{IndexLine}
use Rattle.sorted_table.specs.declared.block_place.BlockPlace.{BlockPlace}
use Rattle.sorted_table.specs.LineSizes.{IsBounded, block_size, blocks_size, place_left, steps_left}
use Rattle.sorted_table.specs.LineSizesLemmas.{size_from, size_upto}
use Rattle.sorted_table.specs.TableCursors.{HasEntered}

line_within : (lines : List IndexLine) (n : ℕ) → 1 ≤ block_size (slice_get lines n)
    → n < length lines
line_within [] n some = absurd (omega (arith, some))
line_within (l ∷ lines) zero some = omega arith
line_within (l ∷ lines) (suc n) some = let below = line_within lines n some in omega (arith, below)

-- a place is in the block of a line that there is
pub within_lines : (lines : List IndexLine) (place : BlockPlace) → IsBounded lines place
    → place.line < length lines
within_lines lines place bounded =
    let within = place.within in
    line_within lines place.line (omega (arith, bounded, within))

-- into the next block
fewer_ahead : (lines : List IndexLine) (p : BlockPlace) (n : ℕ) (place : Option BlockPlace)
    → n ≡ p.line + 1 → HasEntered lines n Forward place → ForSome place (IsBounded lines)
    → steps_left lines place Forward < place_left lines p Forward
fewer_ahead lines p n None line entered bounded =
    let within = p.within in omega (arith, within)
fewer_ahead lines p n (Some q) line entered bounded =
    let within = p.within in
    let few = bounded q refl in
    let at = entered.1 in
    let here : blocks_size (drop q.line lines) ≡ blocks_size (drop (p.line + 1) lines) =
    ap (λ k. blocks_size (drop k lines)) (entered.0 ∙ line) in
    omega (arith, within, few, at, here, size_from lines q.line (q.line + 1) refl)

-- into the block before
fewer_behind : (lines : List IndexLine) (p : BlockPlace) (n : ℕ) (place : Option BlockPlace)
    → p.line ≡ n + 1 → HasEntered lines n Backward place → ForSome place (IsBounded lines)
    → steps_left lines place Backward < place_left lines p Backward
fewer_behind lines p n None line entered bounded = omega arith
fewer_behind lines p n (Some q) line entered bounded =
    let few = bounded q refl in
    let at = entered.1 in
    let next : q.line + 1 ≡ p.line = omega (arith, line, entered.0) in
    let here : blocks_size (take (q.line + 1) lines) ≡ blocks_size (take p.line lines) =
    ap (λ k. blocks_size (take k lines)) next in
    omega (arith, few, at, here, size_upto lines q.line (q.line + 1) refl)

-- ---- the same of results

steps_by : {R E : Type 0} (result : Result R E) (way : Direction) (lines after : List IndexLine)
    (was : Option BlockPlace) (p : BlockPlace) (n : ℕ) (failed : Bool) (place : Option BlockPlace)
    → after ≡ lines → was ≡ Some p → ForSome place (IsBounded after)
    → OnOk result ((failed ≡ false) × HasEntered lines n way place)
    → (HasEntered lines n way place → ForSome place (IsBounded lines)
    → steps_left lines place way < place_left lines p way)
    → OnOk result (steps_left after place way < steps_left lines was way)
steps_by (Ok x) way lines after was p n failed place same is bounded entered fewer =
    let less = fewer entered.1 (subst (λ l. ForSome place (IsBounded l)) same bounded) in
    subst (λ l. steps_left l place way < steps_left lines was way) (sym same)
    (subst (λ o. steps_left lines place way < steps_left lines o way) (sym is) less)
steps_by (Err e) way lines after was p n failed place same is bounded entered fewer = tt

pub ends_ahead : {R E : Type 0} (result : Result R E) (lines after : List IndexLine)
    (was : Option BlockPlace) (p : BlockPlace) (n : ℕ) (failed : Bool) (place : Option BlockPlace)
    → after ≡ lines → was ≡ Some p → n ≡ p.line + 1 → ForSome place (IsBounded after)
    → OnOk result ((failed ≡ false) × HasEntered lines n Forward place)
    → OnOk result (steps_left after place Forward < steps_left lines was Forward)
ends_ahead result lines after was p n failed place same is line bounded entered =
    steps_by result Forward lines after was p n failed place same is bounded entered
    (fewer_ahead lines p n place line)

pub ends_behind : {R E : Type 0} (result : Result R E) (lines after : List IndexLine)
    (was : Option BlockPlace) (p : BlockPlace) (n : ℕ) (failed : Bool) (place : Option BlockPlace)
    → after ≡ lines → was ≡ Some p → p.line ≡ n + 1 → ForSome place (IsBounded after)
    → OnOk result ((failed ≡ false) × HasEntered lines n Backward place)
    → OnOk result (steps_left after place Backward < steps_left lines was Backward)
ends_behind result lines after was p n failed place same is line bounded entered =
    steps_by result Backward lines after was p n failed place same is bounded entered
    (fewer_behind lines p n place line)
