use Rattle.std.proofs.Common.{◌≡◌, length}
use Rattle.table_files.proofs.StartWalks.{StartsWalked}
use Rattle.table_files.proofs.block.starts_in.Given as goal

abbrev pub invariant-loop-done : goal.invariant-loop-done
invariant-loop-done l = record {
  walked : StartsWalked l.format l.block l.initial.rest l.rest l.starts.items;
  number : length l.starts.items ≡ l._done;
}
