-- What a configuration is, and the test of it. (Lists of them: `Lawful` of NodeLists.)
use Rattle.std.specs.Prelude.{ℕ, ◌≤◌, List, [], ◌∷◌, length, All, Bool, true, ◌&&◌, not, nat_le}
use Rattle.std.specs.Prelude.{◌↔◌, IsTrue}
use Rattle.std.specs.List.{list_all}
use Rattle.configurations.specs.NodeLists.{IsId}
use Rattle.kv_types.specs.{AllDifferent, has}

-- 1 to 16 different node ids
pub record IsConfig (ids : List ℕ) : Type 0 where
  pub some : 1 ≤ length ids
  pub few : length ids ≤ 16
  pub each : All IsId ids
  pub different : AllDifferent ids

-- ---- the test

-- whether a number is a node's id
abbrev pub is_id : ℕ → Bool
is_id n = nat_le 1 n && nat_le n 65535

-- whether no number stands in the list twice
abbrev pub all_differ : List ℕ → Bool
all_differ [] = true
all_differ (n ∷ ns) = not (has ns n) && all_differ ns

-- whether numbers are a configuration
abbrev pub is_config : List ℕ → Bool
is_config ns = nat_le 1 (length ns) && nat_le (length ns) 16 && list_all is_id ns && all_differ ns

-- the test succeeds exactly for the configurations
abbrev pub TestDecidesConfig : Type 0
TestDecidesConfig = (ids : List ℕ) → IsTrue (is_config ids) ↔ IsConfig ids
