use Rattle.table_files.proofs.BlocksStay.{blocks_stay}
use Rattle.table_files.proofs.cached_disk.CachedDiskDisk.read.Goals as goal

-- the files are as they were
pub invariant_of-self : goal.invariant_of-self
invariant_of-self g c = record {
  checked = λ honest.
      let old = c.args.self.now in
      let was = c.read.ensures.kept.disk.honest.0 honest in
      blocks_stay (g.D.Disk.state old.disk) (g.D.Disk.state c.read.new.self) old.cache old.cache
      (old.checked was) (c.read.ensures.kept.disk.files was)
      (λ file place format part holds. holds);
}
