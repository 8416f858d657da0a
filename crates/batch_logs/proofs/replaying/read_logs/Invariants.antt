use Rattle.std.proofs.Common.{take}
use Rattle.batch_logs.specs.Replaying.{AreInLine, AreReadLogs}
use Rattle.batch_logs.proofs.ReadLogs.{HasSynced}
use Rattle.batch_logs.proofs.replaying.read_logs.Given as goal

-- the logs of the lines that the loop has passed are open, and their batches were read
abbrev pub invariant-loop-line : goal.invariant-loop-line
invariant-loop-line g l = record {
  synced : HasSynced g.D.Disk (take l.line-index l.lines) l.fn.disk l.disk;
  line : AreInLine (take l.line-index l.lines) l.before l.count l.logs.items l.memtable;
  read : g.D.Disk.is_honest l.fn.disk → AreReadLogs (g.D.Disk.state l.fn.disk)
      (g.D.Disk.state l.disk) (take l.line-index l.lines) l.before l.flushed l.count l.logs.items
      l.memtable;
}
