use Rattle.std.proofs.Common.{refl}
use Rattle.kv_types.proofs.laws.bounds_are.Goals as goal

pub returns : goal.returns
returns c = record {
  key = refl;
  value = refl;
  edits = refl;
  batch = refl;
  rows = refl;
  page = refl;
  overhead = refl;
  cache = refl;
  number = refl;
}
