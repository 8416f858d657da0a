-- The reasons for which ids are no configuration, or configurations no lawful list.
use Rattle.std.specs.Prelude.{◌≡◌, ℕ, suc, ◌<◌, ◌≤◌, List, [], length, All}
use Rattle.configurations.specs.NodeLists.{Configurations, IsId, at_epoch}
use Rattle.kv_types.specs.{AllDifferent, Part}
use Rattle.configurations.specs.declared.error.ConfigError.{ConfigError}
use Rattle.configurations.specs.declared.error.ConfigError.TheVariants as fault

-- the refusal applies to a list of ids
abbrev pub IdsHave : ConfigError → List ℕ → Type 0
IdsHave fault.Empty ids = ids ≡ []
IdsHave fault.Repeated ids = AllDifferent ids → ⊥
IdsHave fault.NotSmaller ids = ⊥
IdsHave fault.NotInOrder ids = ⊥
IdsHave fault.TooMany ids = 16 < length ids
IdsHave fault.BadId ids = All IsId ids → ⊥
IdsHave fault.Memory ids = ⊥

-- the relation holds of some configuration and the next one
abbrev pub HasPair : Configurations → (List ℕ → List ℕ → Type 0) → Type 0
HasPair cs Are = (e : ℕ) × (suc e < length cs) × Are (at_epoch cs e) (at_epoch cs (suc e))

-- the refusal applies to a list of configurations
abbrev pub ListHas : ConfigError → Configurations → Type 0
ListHas fault.Empty cs = cs ≡ []
ListHas fault.Repeated cs = ⊥
ListHas fault.NotSmaller cs = HasPair cs (λ before after. length before ≤ length after)
ListHas fault.NotInOrder cs = HasPair cs (λ before after. Part after before → ⊥)
ListHas fault.TooMany cs = 16 < length cs
ListHas fault.BadId cs = ⊥
ListHas fault.Memory cs = ⊥

-- the place of a refusal in the order of tests
abbrev pub fault_number : ConfigError → ℕ
fault_number fault.Empty = 1
fault_number fault.Repeated = 2
fault_number fault.NotSmaller = 3
fault_number fault.NotInOrder = 4
fault_number fault.TooMany = 5
fault_number fault.BadId = 6
fault_number fault.Memory = 7

-- the refusal applies, and none of a lesser place does
pub record IsLeast (Has : ConfigError → Type 0) (e : ConfigError) : Type 0 where
  pub has : Has e
  pub least : (other : ConfigError) → fault_number other < fault_number e → Has other → ⊥
