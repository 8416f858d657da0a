use Rattle.std.proofs.Common.{refl}
use Rattle.scripts.proofs.Beginnings.{no_text}
use Rattle.scripts.proofs.extent.Extent.new.Goals as goal

pub returns-clause-extent : goal.returns-clause-extent
returns-clause-extent c = no_text _ refl refl
