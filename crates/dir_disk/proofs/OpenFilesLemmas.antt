-- What a search of the open files finds.
use Rattle.std.proofs.Common.{◌≡◌, List, Bool, false, arith}
use Rattle.std.specs.Prelude.{All, None}
use Rattle.std.specs.List.{position}
use Rattle.std.proofs.lemmas.Grind.{common_steps}
use Rattle.std.proofs.lemmas.List.Sums.{fails_before_first}

-- where a search finds no element, none passes its test
pub none_found : {X : Type 0} (p : X → Bool) (xs : List X) → position p xs ≡ None →
    All (λ x. p x ≡ false) xs
none_found p xs none =
    λ i d within. fails_before_first p xs i d (grind (arith, common_steps, none, within))
