use Rattle.std.proofs.Common.{length}
use Rattle.batch_logs.proofs.batch_logs.+log_with.Given as goal

-- one log fewer
abbrev pub decreases-log_with : goal.decreases-log_with
decreases-log_with l = length l.older.now
