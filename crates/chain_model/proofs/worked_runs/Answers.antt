use Rattle.std.proofs.Common.{refl}
use Rattle.chain_model.proofs.worked_runs.Goals as goal

pub returns : goal.returns
returns c = record {
  repeated = refl;
  resent = refl;
  read = refl;
  unaware = refl;
  left_out = refl;
  new_tail = refl;
  skipped = refl;
  stopped = refl;
  floor = refl;
  new_successor = refl;
  removed = refl;
  adopts_on = refl;
  sends_16 = refl;
  waits = refl;
  forgets = refl;
  news = refl;
  started = refl;
  answered = refl;
  tended = refl;
  trimmed = refl;
  rose = refl;
  floor_of_two = refl;
  kept_of_two = refl;
}
