-- How moments add up over several calls.
use Rattle.std.proofs.Common.{◌≡◌, ◌≢◌, ℕ, List, Option, Result, Ok, Err, sym, subst, inl, inr}
use Rattle.disk.specs.declared.error.DiskError.{DiskError}
use Rattle.disk.specs.declared.error.DiskError.TheVariants.{Failed, NoFile, Short, Memory}
use Rattle.disk.specs.States.{Slot, State, Contents, IsFileOutcome, IsSame}
use Rattle.disk.specs.Calls.{FailureLeaves, SyncOutcome}
use Rattle.disk.specs.Moments.{OnlyLeaves, Passes, AllLeave, LeavesSince}
use Rattle.disk.specs.Moments.{AllLeave as later}
use Rattle.disk.specs.StepsLemmas.{syncs_only}
use Rattle.std.proofs.lemmas.Bool.{cases_eq}

-- a state that leaves nothing new, file by file
abbrev pub Narrows : State → State → Type 0
Narrows old new =
    (file : ℕ) (left : Option (List ℕ)) → IsFileOutcome (new file) left
    → IsFileOutcome (old file) left

-- where nothing new is left, P stays
pub narrowed : (P : Contents → Type 0) (old new : State) → Narrows old new → OnlyLeaves P old
    → OnlyLeaves P new
narrowed P old new narrows only = λ left now.
    only left (λ file. narrows file (left file) (now file))

-- the same state leaves the same
pub same_narrows : (old new : State) → IsSame old new → Narrows old new
same_narrows old new same file left now =
    subst (λ (slot : Slot). IsFileOutcome slot left) (same file) now

-- a sync leaves nothing new, whatever it answers
pub sync_narrows : {T : Type 0} (result : Result T DiskError) (old new : State) (file : ℕ)
    → SyncOutcome old file result new → Narrows old new
sync_narrows result old new file w other left now = elim (cases_eq other file) [
  | inl here ↦ subst (λ (f : ℕ). IsFileOutcome (old f) left) (sym here)
      (syncs_only (λ l. IsFileOutcome (old file) l) result old new file w (λ l at. at) left
      (subst (λ (f : ℕ). IsFileOutcome (new f) left) here now))
  | inr apart ↦ subst (λ (slot : Slot). IsFileOutcome slot left)
      (syncs_others result w other apart) now
]
  where
    fails_others : (e : DiskError) → FailureLeaves e old file (old file) new → (other : ℕ)
        → other ≢ file → new other ≡ old other
    fails_others Failed f other apart = f.others other apart
    fails_others NoFile f other apart = f other
    fails_others Short f other apart = f other
    fails_others Memory f other apart = f other

    syncs_others : {T : Type 0} (result : Result T DiskError) → SyncOutcome old file result new
        → (other : ℕ) → other ≢ file → new other ≡ old other
    syncs_others (Ok x) w other apart = w.1.others other apart
    syncs_others (Err e) w other apart = fails_others e w.0 other apart

module _ (P : Contents → Type 0) where
  -- before the first call
  pub none_yet : (old : State) (past : List State) → OnlyLeaves P old
      → LeavesSince old past old past P
  none_yet old past only = record { first = only; later = later.None; now = only }

  -- one call more
  pub one_call_more : (old mid new : State) (past so_far since : List State)
      → LeavesSince old past mid so_far P → Passes so_far mid since new → OnlyLeaves P new
      → LeavesSince old past new since P
  one_call_more old mid new past so_far since run (inl stays) only =
      record {
        first = run.first;
        later = subst (λ (s : List State). AllLeave P past s) (sym stays.0) run.later;
        now = only;
      }
  one_call_more old mid new past so_far since run (inr more) only =
      let here : OnlyLeaves P more.0 =
      narrowed P new more.0 (same_narrows new more.0 (λ file. more.1 file)) only in
      record {
        first = run.first;
        later = subst (λ (s : List State). AllLeave P past s) (sym more.2)
            (later.Then more.0 so_far here run.later);
        now = only;
      }

  -- one call more that leaves nothing new
  pub stays : (old mid new : State) (past so_far since : List State)
      → LeavesSince old past mid so_far P → Passes so_far mid since new → Narrows mid new
      → LeavesSince old past new since P
  stays old mid new past so_far since run passes narrows =
      one_call_more old mid new past so_far since run passes (narrowed P mid new narrows run.now)

  -- some calls more
  later_join : (past so_far since : List State) → AllLeave P past so_far → AllLeave P so_far since
      → AllLeave P past since
  later_join past so_far since before (later.None) = before
  later_join past so_far since before (later.Then now between only rest) =
      later.Then now between only (later_join past so_far between before rest)

  -- the calls of one part, and those of the next
  pub join : (old mid new : State) (past so_far since : List State)
      → LeavesSince old past mid so_far P → LeavesSince mid so_far new since P
      → LeavesSince old past new since P
  join old mid new past so_far since run more =
      record {
        first = run.first;
        later = later_join past so_far since run.later more.later;
        now = more.now;
      }

-- what has P has Q
pub weaker : (P Q : Contents → Type 0) (old : State) (past : List State) (new : State)
    (since : List State) → ((left : Contents) → P left → Q left)
    → LeavesSince old past new since P → LeavesSince old past new since Q
weaker P Q old past new since so run =
    record {
      first = λ left at. so left (run.first left at);
      later = each past since run.later;
      now = λ left at. so left (run.now left at);
    }
  where
    each : (past since : List State) → AllLeave P past since → AllLeave Q past since
    each past since (later.None) = later.None
    each past since (later.Then now between only rest) =
        later.Then now between (λ left at. so left (only left at)) (each past between rest)
