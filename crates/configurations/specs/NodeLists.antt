-- Configurations (lists of node ids, from head to tail), neighbours in them, and lists of them.
-- Definitions without a source are this store's profile.
use Rattle.std.specs.Prelude.{◌≡◌, ◌⊎◌, ℕ, zero, suc, ◌<◌, ◌≤◌, List, [], ◌∷◌, length, All}
use Rattle.std.specs.Prelude.{Option, Some, None, Bool, true, false, if◌then◌else◌, ◌==◌, ◌&&◌}
use Rattle.std.specs.Prelude.{nat_lt}
use Rattle.kv_types.specs.{AllDifferent, Part, has, is_part}

-- a list of configurations, which the configuration service reports one after another (van Renesse
-- and Schneider 2004, section 3)
abbrev pub Configurations : Type 0
Configurations = List (List ℕ)

-- whether x is the head, its first node (van Renesse and Schneider 2004, section 3)
abbrev pub is_head : List ℕ → ℕ → Bool
is_head [] x = false
is_head (y ∷ c) x = y == x

-- whether x is the tail, its last node (van Renesse and Schneider 2004, section 3)
abbrev pub is_tail : List ℕ → ℕ → Bool
is_tail [] x = false
is_tail (y ∷ []) x = y == x
is_tail (y ∷ z ∷ c) x = is_tail (z ∷ c) x

-- the node just before x (van Renesse and Schneider 2004, section 3)
abbrev pub predecessor : List ℕ → ℕ → Option ℕ
predecessor [] x = None
predecessor (y ∷ []) x = None
predecessor (y ∷ z ∷ c) x = if z == x then Some y else predecessor (z ∷ c) x

-- the node just after x (van Renesse and Schneider 2004, section 3)
abbrev pub successor : List ℕ → ℕ → Option ℕ
successor [] x = None
successor (y ∷ []) x = None
successor (y ∷ z ∷ c) x = if y == x then Some z else successor (z ∷ c) x

-- x precedes y in the configuration (van Renesse and Schneider 2004, section 3)
abbrev pub IsBeforeIn : List ℕ → ℕ → ℕ → Type 0
IsBeforeIn [] x y = ⊥
IsBeforeIn (z ∷ c) x y = ((z ≡ x) × (has c y ≡ true)) ⊎ IsBeforeIn c x y

-- whether d is c with at least one node left out, order kept
abbrev pub leaves_out : List ℕ → List ℕ → Bool
leaves_out d c = is_part d c && nat_lt (length d) (length c)

-- the configuration of an epoch, which is its place in the list of configurations, from 0; beyond
-- the list it has no node
abbrev pub at_epoch : Configurations → ℕ → List ℕ
at_epoch [] e = []
at_epoch (c ∷ cs) zero = c
at_epoch (c ∷ cs) (suc e) = at_epoch cs e

-- the last configuration
abbrev pub last_of : Configurations → List ℕ
last_of [] = []
last_of (c ∷ []) = c
last_of (c ∷ d ∷ cs) = last_of (d ∷ cs)

-- a node's id is from 1 to 65,535
abbrev pub IsId : ℕ → Type 0
IsId x = (1 ≤ x) × (x ≤ 65535)

-- d is c with at least one node left out, order kept, and is not empty
pub record Shrinks (c d : List ℕ) : Type 0 where
  pub part : Part d c
  pub shorter : length d < length c
  pub not_empty : 0 < length d

-- A lawful list of configurations: 1 to 16 of them. The first has 1 to 16 different ids, and each
-- later one leaves out at least one node of the one before.
pub record Lawful (configurations : Configurations) : Type 0 where
  pub at_least_one : 1 ≤ length configurations
  pub at_most_16 : length configurations ≤ 16
  pub nodes : 1 ≤ length (at_epoch configurations 0)
  pub at_most_16_nodes : length (at_epoch configurations 0) ≤ 16
  pub ids : All IsId (at_epoch configurations 0)
  pub different : AllDifferent (at_epoch configurations 0)
  pub shrinks : (e : ℕ) → suc e < length configurations
      → Shrinks (at_epoch configurations e) (at_epoch configurations (suc e))
