-- The entries that a store has in memory.
use Rattle.std.specs.Prelude.{ℕ, ◌≤◌}
use Rattle.kv_types.specs.{Entry}
use Rattle.memtable.specs.declared.Memtable.{Memtable}
use Rattle.memtable.specs.{HasFailedAdd, TableHolds}

-- the memtable has not failed, and its entries have at most this number
pub record IsNumberedTo (memtable : Memtable) (count : ℕ) : Type 0 where
  pub works : HasFailedAdd memtable → ⊥
  pub below : (entry : Entry) → TableHolds memtable entry → entry.number ≤ count
