use Rattle.std.proofs.Common.{rules}
use Rattle.disk.specs.StillLemmas.{still, still_same}
use Rattle.manifest.proofs.head.fills.Goals as goal

-- a read leaves nothing new
pub returns-in-Ok-clause-reads : goal.returns-in-Ok-clause-reads
returns-in-Ok-clause-reads g c = record {
  kept = search rules;
  causes = search rules;
  still = λ honest.
      still_same (still (g.D.Disk.state c.args.disk.now) (g.D.Disk.past c.args.disk.now))
      (c.read.ensures.passes honest).moment (c.read.ensures.kept.disk.files honest);
}

pub returns-in-Err-Failed-clause-reads : goal.returns-in-Err-Failed-clause-reads
returns-in-Err-Failed-clause-reads g c = record {
  kept = search rules;
  causes = search rules;
  still = λ honest.
      still_same (still (g.D.Disk.state c.args.disk.now) (g.D.Disk.past c.args.disk.now))
      (c.read.ensures.passes honest).moment (c.read.ensures.kept.disk.files honest);
}

pub returns-in-Err-Memory-clause-reads : goal.returns-in-Err-Memory-clause-reads
returns-in-Err-Memory-clause-reads g c = record {
  kept = search rules;
  causes = search rules;
  still = λ honest.
      still_same (still (g.D.Disk.state c.args.disk.now) (g.D.Disk.past c.args.disk.now))
      (c.read.ensures.passes honest).moment (c.read.ensures.kept.disk.files honest);
}

pub returns-in-Err-clause-reads : goal.returns-in-Err-clause-reads
returns-in-Err-clause-reads g c = record {
  kept = search rules;
  causes = search rules;
  still = λ honest.
      still_same (still (g.D.Disk.state c.args.disk.now) (g.D.Disk.past c.args.disk.now))
      (c.read.ensures.passes honest).moment (c.read.ensures.kept.disk.files honest);
}
