use Rattle.table_files.specs.BlockReads.{known_block_answered}
use Rattle.table_files.proofs.laws.known_blocks_are_answered.Goals as goal

pub returns : goal.returns
returns c = known_block_answered
