use Rattle.std.proofs.Common.{rules}
use Rattle.disk.specs.StillLemmas.{still, still_sync}
use Rattle.manifest.proofs.opening.sync_slot.Goals as goal

-- a sync leaves nothing new
pub returns-in-Err-clause-reads : goal.returns-in-Err-clause-reads
returns-in-Err-clause-reads g c = record {
  kept = search rules;
  causes = search rules;
  still = λ honest.
      still_sync c.sync.result c.args.file
      (still (g.D.Disk.state c.args.disk.now) (g.D.Disk.past c.args.disk.now))
      (c.sync.ensures.passes honest).moment (c.sync.ensures.syncs honest);
}

pub returns-in-Ok-clause-reads : goal.returns-in-Ok-clause-reads
returns-in-Ok-clause-reads g c = record {
  kept = search rules;
  causes = search rules;
  still = λ honest.
      still_sync c.sync.result c.args.file
      (still (g.D.Disk.state c.args.disk.now) (g.D.Disk.past c.args.disk.now))
      (c.sync.ensures.passes honest).moment (c.sync.ensures.syncs honest);
}

pub returns-in-Ok-2-clause-reads : goal.returns-in-Ok-2-clause-reads
returns-in-Ok-2-clause-reads g c = record {
  kept = search rules;
  causes = search rules;
  still = λ honest.
      still_sync c.sync.result c.args.file
      (still (g.D.Disk.state c.args.disk.now) (g.D.Disk.past c.args.disk.now))
      (c.sync.ensures.passes honest).moment (c.sync.ensures.syncs honest);
}
