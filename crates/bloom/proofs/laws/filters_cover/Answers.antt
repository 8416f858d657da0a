use Rattle.bloom.proofs.Covering.{covers_each}
use Rattle.bloom.proofs.laws.filters_cover.Goals as goal

pub returns : goal.returns
returns c = covers_each
