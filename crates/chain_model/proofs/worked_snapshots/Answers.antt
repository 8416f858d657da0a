use Rattle.std.proofs.Common.{refl}
use Rattle.chain_model.proofs.worked_snapshots.Goals as goal

pub returns : goal.returns
returns c = record {
  full = refl;
  twice = refl;
  named = refl;
  stays = refl;
  removed = refl;
  floor = refl;
  kept = refl;
}
