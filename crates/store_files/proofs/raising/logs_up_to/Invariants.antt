use Rattle.std.proofs.Common.{◌≡◌, ◌++◌, length}
use Rattle.store_files.specs.Raising.{obsolete_logs}
use Rattle.store_files.proofs.raising.logs_up_to.Given as goal

-- the files that were found, and those that the logs behind give up
abbrev pub invariant-loop-rest : goal.invariant-loop-rest
invariant-loop-rest l = l.gone.items ++ obsolete_logs l.floor l.rest ≡ obsolete_logs l.floor l.logs

abbrev pub decreases-loop-rest : goal.decreases-loop-rest
decreases-loop-rest l = length l.rest
