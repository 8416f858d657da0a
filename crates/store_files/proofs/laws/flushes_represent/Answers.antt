use Rattle.store_files.proofs.FlushedFiles.{flushes_represent}
use Rattle.store_files.proofs.laws.flushes_represent.Goals as goal

pub returns : goal.returns
returns c = flushes_represent c.flushes_keep.ensures.list
