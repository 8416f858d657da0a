use Rattle.std.proofs.Common.{◌∙◌, sym}
use Rattle.store_files.proofs.NewestLog.{before_last}
use Rattle.store_files.proofs.opening.count_before.Goals as goal

-- the last log is the newest
pub returns-in-Some : goal.returns-in-Some
returns-in-Some c =
    c.saturating_sub.ensures
    ∙ before_last c.args.logs.now c.in-Some.line.now (sym c.in-Some.ensures.value)
