use Rattle.store_files.proofs.FlushedFiles.{longer_logs_represent}
use Rattle.store_files.proofs.laws.longer_logs_represent.Goals as goal

pub returns : goal.returns
returns c = longer_logs_represent c.appends_keep.ensures
