-- The bytes of the blocks before, at and behind a line.
use Rattle.std.proofs.Common.{◌≡◌, ℕ, zero, suc, ◌+◌, ◌≤◌, List, [], ◌∷◌, take, drop}
use Rattle.std.proofs.Common.{Some, None, Option, refl, sym, ap, ◌∙◌, arith}
use Rattle.std.specs.Option.{ForSome}
use Rattle.std.specs.List.{slice_get}
use Rattle.std.proofs.lemmas.List.Sums.{sum_by-cons}
use Rattle.merge_iter.specs.declared.Direction.{Direction}
use Rattle.merge_iter.specs.declared.Direction.TheVariants.{Forward, Backward}
use Rattle.table_format.specs.declared.IndexLine.{IndexLine}
use Rattle.sorted_table.specs.declared.block_place.BlockPlace.{BlockPlace}
use Rattle.sorted_table.specs.LineSizes.{IsBounded, block_size, blocks_size, place_left, steps_left}

abbrev len_of : IndexLine → ℕ
len_of line = line.len

-- from a line on: its block, and those behind it
pub size_from : (lines : List IndexLine) (i j : ℕ) → j ≡ i + 1
    → blocks_size (drop i lines) ≡ block_size (slice_get lines i) + blocks_size (drop j lines)
size_from [] zero zero is = refl
size_from [] zero (suc j) is = refl
size_from [] (suc i) zero is = refl
size_from [] (suc i) (suc j) is = refl
size_from (l ∷ lines) zero zero is = absurd (omega (arith, is))
size_from (l ∷ lines) zero (suc j) is =
    let none : j ≡ 0 = omega (arith, is) in
    sum_by-cons len_of l lines ∙ ap (λ n. l.len + blocks_size (drop n lines)) (sym none)
size_from (l ∷ lines) (suc i) zero is = absurd (omega (arith, is))
size_from (l ∷ lines) (suc i) (suc j) is = size_from lines i j (omega (arith, is))

-- up to a line: those before it, and its block
pub size_upto : (lines : List IndexLine) (i j : ℕ) → j ≡ i + 1
    → blocks_size (take j lines) ≡ blocks_size (take i lines) + block_size (slice_get lines i)
size_upto [] i zero is = absurd (omega (arith, is))
size_upto [] zero (suc j) is = refl
size_upto [] (suc i) (suc j) is = refl
size_upto (l ∷ lines) i zero is = absurd (omega (arith, is))
size_upto (l ∷ lines) zero (suc j) is =
    let none : j ≡ 0 = omega (arith, is) in
    ap (λ n. blocks_size (l ∷ take n lines)) none ∙ omega (arith, sum_by-cons len_of l [])
size_upto (l ∷ lines) (suc i) (suc j) is =
    let below = size_upto lines i j (omega (arith, is)) in
    omega (arith, below, sum_by-cons len_of l (take i lines), sum_by-cons len_of l (take j lines))

-- all: those before a line, and those from it on
pub size_parts : (lines : List IndexLine) (i : ℕ)
    → blocks_size lines ≡ blocks_size (take i lines) + blocks_size (drop i lines)
size_parts [] zero = refl
size_parts [] (suc i) = refl
size_parts (l ∷ lines) zero = omega arith
size_parts (l ∷ lines) (suc i) =
    let below = size_parts lines i in
    omega (arith, below, sum_by-cons len_of l (take i lines), sum_by-cons len_of l lines)

-- no more steps are left than all blocks have bytes
pub place_left_within : (lines : List IndexLine) (place : BlockPlace) (way : Direction)
    → IsBounded lines place → place_left lines place way ≤ blocks_size lines
place_left_within lines place Forward bounded =
    omega (
      arith,
      bounded,
      size_from lines place.line (place.line + 1) refl,
      size_parts lines place.line,
    )
place_left_within lines place Backward bounded =
    let within = place.within in
    omega (
      arith,
      bounded,
      within,
      size_upto lines place.line (place.line + 1) refl,
      size_parts lines (place.line + 1),
    )

-- no more steps are left than the blocks have bytes
pub steps_within : (lines : List IndexLine) (place : Option BlockPlace) (way : Direction)
    → ForSome place (IsBounded lines) → steps_left lines place way ≤ blocks_size lines
steps_within lines None way bounded = omega arith
steps_within lines (Some place) way bounded = place_left_within lines place way (bounded place refl)
