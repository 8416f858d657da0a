-- What stands in the files of a store, and the facts beside its list of batches.
use Rattle.std.specs.Prelude.{ℕ, List}
use Rattle.disk.specs.{State}

-- The node of a store and its configuration, the configuration's number in the list of
-- configurations, the least number that can be read, and the number of batches trimmed from the
-- front of the logs.
pub record Facts : Type 0 where
  pub id : ℕ
  pub epoch : ℕ
  pub ids : List ℕ
  pub floor : ℕ
  pub kept : ℕ

-- the facts of a new store
abbrev pub first_facts : ℕ → List ℕ → Facts
first_facts x ids = record { id = x; epoch = 0; ids = ids; floor = 0; kept = 0 }

-- a store owns its disk: a call of it may change any file
abbrev pub IsOwned : State → State → Type 0
IsOwned old new = Unit {0}
