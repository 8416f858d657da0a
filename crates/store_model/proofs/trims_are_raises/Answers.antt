use Rattle.store_model.proofs.Trims.{trim_is_raise, trim_leaves_logs}
use Rattle.store_model.proofs.trims_are_raises.Goals as goal

pub returns-clause-raise : goal.returns-clause-raise
returns-clause-raise c = λ l store floor later ok logs up short.
    trim_is_raise l store floor later ok logs up short

pub returns-clause-logs : goal.returns-clause-logs
returns-clause-logs c = λ store floor later logs. trim_leaves_logs store floor later logs
