use Rattle.manifest.proofs.Outlasting.{version_is_left, version_stays}
use Rattle.manifest.proofs.laws.held_versions_are_left.Goals as goal

pub returns : goal.returns
returns c = record {
  left = version_is_left;
  same = version_stays;
}
