use Rattle.table_files.proofs.cached_disk.CachedDiskCrash.crash.Goals as goal

-- no block is kept
pub invariant_of-self : goal.invariant_of-self
invariant_of-self g c = record {
  checked = λ honest file place format part holds.
      absurd (c.clear.ensures file place format part holds);
}
