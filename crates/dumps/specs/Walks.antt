-- All rows of a map, and the first of them that a walk by pages has passed.
use Rattle.std.specs.Prelude.{◌≡◌, ℕ, List, [], ◌∷◌, ◌++◌, false, None}
use Rattle.kv_types.specs.declared.bounds.TheConstants.{MAX_ROWS}
use Rattle.kv_types.specs.{Row}
use Rattle.kv_types.specs.Pages.{IsWalk, Map}
use Rattle.kv_types.specs.{Span}

-- the keys from this one on, as many of them at once as an answer has
abbrev pub all_from : List ℕ → Span
all_from key = record { from = key; to = None; backward = false; limit = MAX_ROWS }

-- all rows of the map, in the order of their keys
abbrev pub AreRowsOf : Map → List Row → Type 0
AreRowsOf map rows = IsWalk map (all_from []) rows

-- where the next page begins behind these rows: at the least key, where none was read, or at the
-- last row that was read, which it has again
pub data StartsPage : List ℕ → ℕ → List Row → Type 0 where
  First : StartsPage [] 0 []
  Behind : (before : List Row) (last : Row) → StartsPage last.key 1 (before ++ last ∷ [])

-- these rows were read, the first of them all
pub record HasReadRows (all : List Row) (from : List ℕ) (known : ℕ) (rows : List Row) : Type 0 where
  pub left : List Row
  pub split : all ≡ rows ++ left
  pub at : StartsPage from known rows

-- these are the first rows of the map, behind which the next page begins here
pub record AreFirstRows (map : Map) (from : List ℕ) (known : ℕ) (rows : List Row) : Type 0 where
  pub all : List Row
  pub is_all : AreRowsOf map all
  pub walked : HasReadRows all from known rows
