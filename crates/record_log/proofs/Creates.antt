-- Where a log is created.
use Rattle.std.proofs.Common.{ℕ, List, Option, Some, None}
use Rattle.std.specs.Prelude.{IsNone}
use Rattle.disk.specs.{IsLeftAt, IsSameBut, LeavesSince, Passes, State}
use Rattle.disk.specs.BesideLemmas.{at_more, at_start, same_but_join}
use Rattle.record_log.specs.Logs.{EndsInRange}

-- a file that is absent ends in range
pub absent_ends : (bytes : Option (List ℕ)) → IsNone bytes → EndsInRange bytes
absent_ends None none = tt
absent_ends (Some it) none = absurd cc

-- what a crash leaves of the other files during calls on one
abbrev pub SparesDuring : ℕ → State → List State → State → List State → Type 0
SparesDuring file old past new since =
    LeavesSince old past new since (IsLeftAt old file (λ left. Unit {0}))

-- after one such call
pub one_call : (file : ℕ) (old new : State) (past since : List State) → Passes past old since new
    → IsSameBut file old new → SparesDuring file old past new since
one_call file old new past since passes spares =
    at_more (λ left. Unit {0}) file old old new past past since
    (at_start (λ left. Unit {0}) file old past (λ left now. tt)) passes spares (λ left now. tt)

-- and after another one behind it
pub then_call : (file : ℕ) (old mid new : State) (past so_far since : List State)
    → Passes past old so_far mid → IsSameBut file old mid → Passes so_far mid since new
    → IsSameBut file mid new → SparesDuring file old past new since
then_call file old mid new past so_far since first before passes spares =
    at_more (λ left. Unit {0}) file old mid new past so_far since
    (one_call file old mid past so_far first before) passes
    (same_but_join file old mid new before spares) (λ left now. tt)
