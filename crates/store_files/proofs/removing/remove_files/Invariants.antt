use Rattle.std.proofs.Common.{take}
use Rattle.store_files.proofs.Removes.{HaveGone}
use Rattle.store_files.proofs.removing.remove_files.Given as goal

-- the files that the loop has passed are removed
abbrev pub invariant-loop-file : goal.invariant-loop-file
invariant-loop-file g l = record {
  gone : HaveGone g.D.Disk l.fn.disk l.disk l.files (take l.file-index l.files);
}
