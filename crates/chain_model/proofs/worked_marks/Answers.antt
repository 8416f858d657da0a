use Rattle.std.proofs.Common.{refl}
use Rattle.chain_model.proofs.worked_marks.Goals as goal

pub returns : goal.returns
returns c = record {
  old = refl;
  old_and_no_head = refl;
  old_and_removed = refl;
  once = refl;
  waits = refl;
  found = refl;
  unaware = refl;
  stopped = refl;
}
