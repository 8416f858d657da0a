use Rattle.store_files.proofs.Removals.{HaveRemoved}
use Rattle.store_files.proofs.settling.remove_others.Given as goal

-- the files that the loop has passed are removed, but those that are kept
abbrev pub invariant-loop-file : goal.invariant-loop-file
invariant-loop-file g l = record {
  done : HaveRemoved g.D.Disk l.fn.disk l.disk l.kept l.file-iterator.rest.items;
}
