use Rattle.std.proofs.Common.{◌≡◌, ◌⊎◌, subst, arith}
use Rattle.std.specs.Prelude.{Contains}
use Rattle.batch_logs.proofs.JoinedLogs.{batch_among, each_here, part_of}
use Rattle.batch_logs.proofs.batch_logs.BatchLogs.batch.Goals as goal

-- the log's part has the batch
pub returns : goal.returns
returns g c = record {
  reads = c.batch_in.ensures.reads;
  found = λ first batches honest h each.
      let disk = g.D.Disk.state c.args.disk.now in
      let self = c.args.self.now in
      let one = c.log_with-one.result.now in
      let among : Contains self.older.items one ⊎ (self.newest ≡ one) =
      subst (λ l. Contains l one ⊎ (self.newest ≡ one)) c.deref.ensures.value
      c.log_with-one.ensures.among in
      let part = part_of disk self first batches one h among in
      let behind = c.log_with-one.ensures.has.0 in
      batch_among disk first c.args.number batches one part c.batch_in.result
      (omega (arith, behind, c.get.ensures.same))
      (c.batch_in.ensures.found part.here honest part.log
      (each_here disk first batches one part each));
}
