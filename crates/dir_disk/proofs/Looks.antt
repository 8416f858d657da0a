-- A call of an honest disk that only looks, and none.
use Rattle.std.proofs.Common.{◌+◌, ◌≤◌, ℕ, Result, Ok, Err, arith}
use Rattle.disk.specs.{IsSame, KeepsDisk, fault_of}
use Rattle.disk.specs.Faults.{CallPasses, Counts}
use Rattle.disk.specs.StillLemmas.{still, still_same}
use Rattle.disk.specs.declared.Disk.{Ghosts}
use Rattle.disk.specs.declared.error.DiskError.{DiskError}
use Rattle.disk.specs.declared.error.DiskError.TheVariants as device
use Rattle.dir_disk.specs.Disks.{LooksOnce}

-- one call is counted at most
counted_once : {T : Type 0} (result : Result T DiskError) (before now : ℕ) →
    Counts result before now → now ≤ before + 1
counted_once (Ok x) before now counts = omega (arith, counts)
counted_once (Err device.Failed) before now counts = omega (arith, counts)
counted_once (Err device.NoFile) before now counts = omega (arith, counts)
counted_once (Err device.Short) before now counts = omega (arith, counts)
counted_once (Err device.Memory) before now counts = omega (arith, counts)

module _ {D : Type 0} (g : Ghosts D) where
  -- no call
  pub looks_never : (disk : D) → LooksOnce g disk disk
  looks_never disk = record {
    still = λ honest. still (g.state disk) (g.past disk);
    calls = λ honest. omega arith;
  }

  -- one call
  pub looked_once : {T told : Type 0} (result : Result T DiskError) (old new : D) →
      KeepsDisk g old new told ⊥ IsSame →
      (g.is_honest old → CallPasses (g.past old) (g.past new) (fault_of (g.incidents old))
      (g.is_reliable old) result (g.state old) (g.state new) (λ _. IsSame (g.state old))) →
      LooksOnce g old new
  looked_once result old new kept passes = record {
    still = λ honest. still_same (still (g.state old) (g.past old)) (passes honest).moment
        (kept.files honest);
    calls = λ honest. counted_once result _ _ (passes honest).counts;
  }
