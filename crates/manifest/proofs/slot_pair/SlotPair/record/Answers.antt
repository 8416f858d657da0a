use Rattle.record_log.specs.{IsExpected}
use Rattle.manifest.proofs.Records.{either_since, recorded, machine_only, errors_of}
use Rattle.manifest.proofs.slot_pair.SlotPair.record.Goals as goal

-- at every moment the log has the old records or the new ones
pub returns-clause-changes : goal.returns-clause-changes
returns-clause-changes g c = record {
  -- after Ok it has the new ones
  done = λ id records honest h.
      recorded _ (g.D.Disk.state c.args.disk.now) (g.D.Disk.state c.append.new.disk)
      (g.D.Disk.past c.args.disk.now) (g.D.Disk.past c.append.new.disk) c.args.self.now
      c.append.new.self id records c.args.one.now h c.append.result c.append.ensures.told
      (c.append.ensures.appended records honest h.log)
      (c.append.ensures.any_moment records honest h.log)
      (c.append.ensures.kept.files honest);
  any_moment = λ id records honest h.
      either_since (g.D.Disk.state c.args.disk.now) c.args.self.now id records c.args.one.now h
      (g.D.Disk.state c.append.new.disk) (g.D.Disk.past c.args.disk.now)
      (g.D.Disk.past c.append.new.disk) (c.append.ensures.any_moment records honest h.log);
}

-- and it is refused by the machine alone
pub returns-clause-met : goal.returns-clause-met
returns-clause-met g c = λ id records honest h short.
    machine_only _ c.args.self.now.log c.append.new.self c.args.one.now c.append.result
    c.append.ensures.told h.at.works short
    (errors_of _ IsExpected c.append.result (c.append.ensures.appended records honest h.log))
