use Rattle.table_files.proofs.cached_disk.CachedDisk.new.Goals as goal

-- the cache has no block
pub invariant_of-result : goal.invariant_of-result
invariant_of-result g c = record {
  checked = λ honest file place format part holds. absurd
      (c.in-Ok.ensures file place format part holds);
}
