-- The tests of a list of configurations in the code.
use Rattle.std.specs.Prelude.{ℕ, List, [], ◌∷◌, length, nat_lt, Bool, true, ◌&&◌}
use Rattle.configurations.specs.NodeLists.{Configurations}
use Rattle.kv_types.specs.{is_part}

-- the test holds of each configuration and the next one
abbrev pub each_later : (List ℕ → List ℕ → Bool) → Configurations → Bool
each_later test [] = true
each_later test (c ∷ []) = true
each_later test (c ∷ d ∷ cs) = test c d && each_later test (d ∷ cs)

-- the later one has fewer nodes
abbrev pub is_smaller : List ℕ → List ℕ → Bool
is_smaller c d = nat_lt (length d) (length c)

-- the later one is the other with nodes left out, order kept
abbrev pub is_in_order : List ℕ → List ℕ → Bool
is_in_order c d = is_part d c
