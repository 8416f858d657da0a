use Rattle.std.proofs.Common.{refl}
use Rattle.table_format.proofs.laws.sizes_are.Goals as goal

pub returns : goal.returns
returns c = record { of_block = refl; of_blocks = refl; of_footer = refl }
