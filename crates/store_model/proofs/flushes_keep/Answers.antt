use Rattle.store_model.proofs.Flushes.{flush_keeps, flush_leaves}
use Rattle.store_model.proofs.Trims.{flush_adds_log}
use Rattle.store_model.proofs.flushes_keep.Goals as goal

pub returns-clause-list : goal.returns-clause-list
returns-clause-list c = λ l store table after ok flush edited.
    flush_keeps l store table after ok flush edited

pub returns-clause-merge : goal.returns-clause-merge
returns-clause-merge c = λ l store table after plan ok flush edited way.
    flush_leaves l store table after ok flush edited plan way

pub returns-clause-logs : goal.returns-clause-logs
returns-clause-logs c = λ l store after later ok logs. flush_adds_log l store after later ok logs
