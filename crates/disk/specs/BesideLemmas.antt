-- Moments over calls on one file, and over calls beside the files that are named.
use Rattle.std.proofs.Common.{◌≡◌, ◌≢◌, ℕ, List, Option, Result, sym, ap, subst, ◌∙◌}
use Rattle.std.proofs.Common.{false, arith, eqb, eq-eqb, inl, inr, refl}
use Rattle.std.specs.Prelude.{if◌then◌else◌, ◌==◌}
use Rattle.std.proofs.lemmas.Bool.{cases_eq}
use Rattle.std.proofs.lemmas.Bool.Decides.{nat_tests}
use Rattle.disk.specs.declared.error.DiskError.{DiskError}
use Rattle.disk.specs.States.{Slot, State, Contents, IsFileOutcome, IsCrashOutcome, IsSameBut}
use Rattle.disk.specs.States.{contents, seen}
use Rattle.disk.specs.Calls.{SyncOutcome}
use Rattle.disk.specs.Moments.{OnlyLeaves, Passes, LeavesSince, LooksAt, IsUnnamed}
use Rattle.disk.specs.Moments.{IsLeftAt}
use Rattle.disk.specs.StepsLemmas.{Only, read_is_outcome}
use Rattle.disk.specs.MomentsLemmas.{Narrows, none_yet, one_call_more, stays, join, weaker}
use Rattle.disk.specs.MomentsLemmas.{sync_narrows}

-- the contents with this file exchanged
abbrev pub exchanged : Contents → ℕ → Option (List ℕ) → Contents
exchanged left file bytes other = if other == file then bytes else left other

-- the exchanged file
pub exchanged_here : (left : Contents) (file : ℕ) (bytes : Option (List ℕ)) (other : ℕ)
    → other ≡ file → exchanged left file bytes other ≡ bytes
exchanged_here left file bytes other here = rw (eq-eqb other file here) refl

-- numbers that differ fail the test
neq_eqb : (a b : ℕ) → (a ≡ b → ⊥) → eqb a b ≡ false
neq_eqb a b apart = grind (arith, nat_tests)

-- and the others
pub exchanged_there : (left : Contents) (file : ℕ) (bytes : Option (List ℕ)) (other : ℕ)
    → other ≢ file → exchanged left file bytes other ≡ left other
exchanged_there left file bytes other apart = rw (neq_eqb other file apart) refl

-- what this file may hold, beside the others as they read, is an outcome
exchanged_may : (disk : State) (file : ℕ) (bytes : Option (List ℕ))
    → IsFileOutcome (disk file) bytes → IsCrashOutcome disk (exchanged (contents disk) file bytes)
exchanged_may disk file bytes at other = elim (cases_eq other file) [
  | inl here ↦ subst (IsFileOutcome (disk other))
      (sym (exchanged_here (contents disk) file bytes other here))
      (subst (λ (f : ℕ). IsFileOutcome (disk f) bytes) (sym here) at)
  | inr apart ↦ subst (IsFileOutcome (disk other))
      (sym (exchanged_there (contents disk) file bytes other apart)) (read_is_outcome (disk other))
]

-- a state that leaves nothing new leaves nothing new of each file
pub narrows_of : (old new : State) → OnlyLeaves (IsCrashOutcome old) new → Narrows old new
narrows_of old new only file left now =
    subst (IsFileOutcome (old file)) (exchanged_here (contents new) file left file refl)
    (only (exchanged (contents new) file left) (exchanged_may new file left now) file)

module _ (Names : Contents → ℕ → Type 0) (P : Contents → Type 0) (looks : LooksAt Names P) where
  -- an outcome after a call beside P was one before it, with that file as it read
  pub spared : (old new : State) (file : ℕ) → IsSameBut file old new → IsUnnamed Names old file
      → OnlyLeaves P old → OnlyLeaves P new
  spared old new file spares unnamed only left now =
      let was = exchanged left file (seen (old file)) in
      let may : IsCrashOutcome old was = λ other. elim (cases_eq other file) [
        | inl here ↦ subst (IsFileOutcome (old other))
            (sym (exchanged_here left file (seen (old file)) other here
            ∙ ap (λ (f : ℕ). seen (old f)) (sym here))) (read_is_outcome (old other))
        | inr apart ↦ subst (IsFileOutcome (old other))
            (sym (exchanged_there left file (seen (old file)) other apart))
            (subst (λ (slot : Slot). IsFileOutcome slot (left other)) (spares other apart)
            (now other))
      ] in
      looks was left (λ other named. elim (cases_eq other file) [
        | inl here ↦ absurd (unnamed was may (subst (Names was) here named))
        | inr apart ↦ sym (exchanged_there left file (seen (old file)) other apart)
      ]) (only was may)

  -- so such a call keeps P at every moment
  pub beside : (old mid new : State) (past so_far since : List State) (file : ℕ)
      → LeavesSince old past mid so_far P → Passes so_far mid since new → IsSameBut file mid new
      → IsUnnamed Names mid file → LeavesSince old past new since P
  beside old mid new past so_far since file run passes spares unnamed =
      one_call_more P old mid new past so_far since run passes
      (spared mid new file spares unnamed run.now)

-- ---- one file

-- two calls that keep all files but one keep them
pub same_but_join : (file : ℕ) (old mid new : State) → IsSameBut file old mid
    → IsSameBut file mid new → IsSameBut file old new
same_but_join file old mid new first next other apart = next other apart ∙ first other apart

-- the outcomes of one file have Q, and the other files are as they were
pub left_at : (Q : Option (List ℕ) → Type 0) (file : ℕ) (old new : State) → IsSameBut file old new
    → Only Q (new file) → OnlyLeaves (IsLeftAt old file Q) new
left_at Q file old new spares only left now =
    record {
      here = only (left file) (now file);
      others = λ other apart.
          subst (λ (slot : Slot). IsFileOutcome slot (left other)) (spares other apart) (now other);
    }

-- before the first call
pub at_start : (Q : Option (List ℕ) → Type 0) (file : ℕ) (old : State) (past : List State)
    → Only Q (old file) → LeavesSince old past old past (IsLeftAt old file Q)
at_start Q file old past only =
    none_yet (IsLeftAt old file Q) old past (left_at Q file old old (λ other apart. refl) only)

-- one call more on the file
pub at_more : (Q : Option (List ℕ) → Type 0) (file : ℕ) (old mid new : State)
    (past so_far since : List State) → LeavesSince old past mid so_far (IsLeftAt old file Q)
    → Passes so_far mid since new → IsSameBut file old new → Only Q (new file)
    → LeavesSince old past new since (IsLeftAt old file Q)
at_more Q file old mid new past so_far since run passes spares after =
    one_call_more (IsLeftAt old file Q) old mid new past so_far since run passes
    (left_at Q file old new spares after)

-- a sync of it
pub at_sync : {T : Type 0} (Q : Option (List ℕ) → Type 0) (file : ℕ) (result : Result T DiskError)
    (old mid new : State) (past so_far since : List State)
    → LeavesSince old past mid so_far (IsLeftAt old file Q) → Passes so_far mid since new
    → SyncOutcome mid file result new → LeavesSince old past new since (IsLeftAt old file Q)
at_sync Q file result old mid new past so_far since run passes w =
    stays (IsLeftAt old file Q) old mid new past so_far since run passes
    (sync_narrows result mid new file w)

-- what has Q has R
pub at_weaker : (Q R : Option (List ℕ) → Type 0) (file : ℕ) (old : State) (past : List State)
    (new : State) (since : List State) → ((left : Option (List ℕ)) → Q left → R left)
    → LeavesSince old past new since (IsLeftAt old file Q)
    → LeavesSince old past new since (IsLeftAt old file R)
at_weaker Q R file old past new since so run =
    weaker (IsLeftAt old file Q) (IsLeftAt old file R) old past new since
    (λ left at. record { here = so (left file) at.here; others = at.others }) run

-- the calls of one part on the file, and those of the next
pub at_join : (Q : Option (List ℕ) → Type 0) (file : ℕ) (old mid new : State)
    (past so_far since : List State) → LeavesSince old past mid so_far (IsLeftAt old file Q)
    → IsSameBut file old mid → LeavesSince mid so_far new since (IsLeftAt mid file Q)
    → LeavesSince old past new since (IsLeftAt old file Q)
at_join Q file old mid new past so_far since run spares more =
    join (IsLeftAt old file Q) old mid new past so_far since run
    (weaker (IsLeftAt mid file Q) (IsLeftAt old file Q) mid so_far new since
    (λ left at. record {
      here = at.here;
      others = λ other apart. subst (λ (slot : Slot). IsFileOutcome slot (left other))
          (spares other apart) (at.others other apart);
    }) more)
