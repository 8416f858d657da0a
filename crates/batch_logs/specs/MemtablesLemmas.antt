-- The numbers of a memtable's entries.
use Rattle.std.proofs.Common.{ℕ}
use Rattle.kv_types.specs.{Entry}
use Rattle.memtable.specs.declared.Memtable.{Memtable}
use Rattle.memtable.specs.{HasFailedAdd, TableHolds}
use Rattle.batch_logs.specs.Memtables.{IsNumberedTo}

-- where a memtable has no entry, none has a number above any
pub none_numbered : (table : Memtable) → (HasFailedAdd table → ⊥) →
    ((entry : Entry) → TableHolds table entry → ⊥) → (count : ℕ) → IsNumberedTo table count
none_numbered table works empty count =
    record { works = works; below = λ entry holds. absurd (empty entry holds) }
