use Rattle.table_files.proofs.BlocksStay.{blocks_beside}
use Rattle.table_files.proofs.cached_disk.CachedDiskDisk.cut.Goals as goal

-- no block of the file is kept, and the other files are as they were
pub invariant_of-self : goal.invariant_of-self
invariant_of-self g c = record {
  checked = λ honest.
      let old = c.args.self.now in
      let was = c.cut.ensures.kept.disk.honest.0 honest in
      blocks_beside (g.D.Disk.state old.disk) (g.D.Disk.state c.cut.new.self) old.cache
      c.forget.new.self c.args.file (old.checked was) (c.cut.ensures.kept.disk.files was)
      c.forget.ensures.keeps c.forget.ensures.gone;
}
