-- The one node of a store that stands alone.
use Rattle.std.specs.Prelude.{◌≡◌, ℕ, List, [], ◌∷◌}

-- the node of a store that stands alone, and its configuration, which has no other
abbrev pub IsAloneAs : ℕ → List ℕ → Type 0
IsAloneAs id ids = (id ≡ 1) × (ids ≡ 1 ∷ [])
