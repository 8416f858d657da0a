use Rattle.std.proofs.Common.{take}
use Rattle.store_files.proofs.Settles.{HaveSynced}
use Rattle.store_files.proofs.settling.sync_tables.Given as goal

-- the files of the lines that the loop has passed are synced
abbrev pub invariant-loop-line : goal.invariant-loop-line
invariant-loop-line g l = record {
  done : HaveSynced g.D.Disk l.fn.disk l.disk (take l.line-index l.lines);
}
