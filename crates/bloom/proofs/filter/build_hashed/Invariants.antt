use Rattle.std.proofs.Common.{◌≡◌, ℕ, List}
use Rattle.std.specs.Prelude.{map}
use Rattle.bloom.specs.Filters.{hashes_of}
use Rattle.bloom.proofs.Putting.{HasKeys}
use Rattle.bloom.proofs.filter.build_hashed.Given as goal

-- so many keys are put
abbrev pub invariant-loop-of_key : goal.invariant-loop-of_key
invariant-loop-of_key l = (keys : List (List ℕ)) → l.hashes ≡ map hashes_of keys →
    HasKeys keys l.of_key-index l.filter.items
