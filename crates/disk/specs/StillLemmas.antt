-- Calls that leave nothing new at any moment.
use Rattle.std.proofs.Common.{ℕ, List, Result}
use Rattle.disk.specs.declared.error.DiskError.{DiskError}
use Rattle.disk.specs.States.{State, IsCrashOutcome, IsSame}
use Rattle.disk.specs.Calls.{SyncOutcome}
use Rattle.disk.specs.Moments.{AreLeftOf, LeavesSince, Passes}
use Rattle.disk.specs.BesideLemmas.{narrows_of}
use Rattle.disk.specs.MomentsLemmas.{none_yet, stays, join, weaker, same_narrows, sync_narrows}

-- before the first call
pub still : (disk : State) (past : List State) → LeavesSince disk past disk past
    (IsCrashOutcome disk)
still disk past = none_yet (IsCrashOutcome disk) disk past (λ left at. at)

-- what leaves nothing new leaves nothing new of these files
pub spares_still : {old new : State} {past since : List State} (kept : List ℕ) →
    LeavesSince old past new since (IsCrashOutcome old) →
    LeavesSince old past new since (AreLeftOf kept old)
spares_still {old} {new} {past} {since} kept run =
    weaker (IsCrashOutcome old) (AreLeftOf kept old) old past new since
    (λ left at file has. at file) run

module _ {old mid new : State} {past so_far since : List State} where
  -- one call more that changes nothing
  pub still_same : LeavesSince old past mid so_far (IsCrashOutcome old) →
      Passes so_far mid since new → IsSame mid new →
      LeavesSince old past new since (IsCrashOutcome old)
  still_same run passes same =
      stays (IsCrashOutcome old) old mid new past so_far since run passes
      (same_narrows mid new same)

  -- a sync more
  pub still_sync : {T : Type 0} (result : Result T DiskError) (file : ℕ) →
      LeavesSince old past mid so_far (IsCrashOutcome old) → Passes so_far mid since new →
      SyncOutcome mid file result new → LeavesSince old past new since (IsCrashOutcome old)
  still_sync result file run passes syncs =
      stays (IsCrashOutcome old) old mid new past so_far since run passes
      (sync_narrows result mid new file syncs)

  -- the calls of one part, and those of the next
  pub still_more : LeavesSince old past mid so_far (IsCrashOutcome old) →
      LeavesSince mid so_far new since (IsCrashOutcome mid) →
      LeavesSince old past new since (IsCrashOutcome old)
  still_more run more =
      join (IsCrashOutcome old) old mid new past so_far since run
      (weaker (IsCrashOutcome mid) (IsCrashOutcome old) mid so_far new since run.now more)

  -- .. and behind them those that leave nothing new of these files
  pub spares_more : (kept : List ℕ) → LeavesSince old past mid so_far (IsCrashOutcome old) →
      LeavesSince mid so_far new since (AreLeftOf kept mid) →
      LeavesSince old past new since (AreLeftOf kept old)
  spares_more kept run more =
      join (AreLeftOf kept old) old mid new past so_far since (spares_still kept run)
      (weaker (AreLeftOf kept mid) (AreLeftOf kept old) mid so_far new since
      (λ left at file has. narrows_of old mid run.now file (left file) (at file has)) more)
