-- What a crash may leave after a call, by what it may leave before it.
use Rattle.std.proofs.Common.{ℕ, List, [], Option, Some, None, Result}
use Rattle.std.proofs.Common.{Ok, Err, refl, sym, subst, inl, inr}
use Rattle.std.proofs.Common.{◌≡◌, ap, ◌∙◌, length}
use Rattle.disk.specs.declared.pending_write.PendingWrite.{PendingWrite}
use Rattle.disk.specs.declared.error.DiskError.{DiskError}
use Rattle.disk.specs.declared.error.DiskError.TheVariants.{Failed, NoFile, Short, Memory}
use Rattle.disk.specs.States.{Slot, Absent, Fresh, Kept, State, IsFileOutcome}
use Rattle.disk.specs.States.{IsUnsynced, IsDurable, seen, synced, written}
use Rattle.disk.specs.Calls.{FailureLeaves, WriteOutcome, SyncOutcome}
use Rattle.disk.specs.PlacesLemmas.{same_bytes}

-- each outcome has P
abbrev pub Only : (Option (List ℕ) → Type 0) → Slot → Type 0
Only P slot = (left : Option (List ℕ)) → IsFileOutcome slot left → P left

-- the outcomes after a refusal
pub fails_only : (P : Option (List ℕ) → Type 0) (e : DiskError) (old new : State) (file : ℕ)
    (slot : Slot) → FailureLeaves e old file slot new → Only P (old file) → Only P slot → Only P
    (new file)
fails_only P Failed old new file slot f before behind =
    λ left now. elim (f.leaves left now) [ inl was ↦ before left was | inr is ↦ behind left is ]
fails_only P NoFile old new file slot f before behind =
    λ left now. before left (subst (λ (s : Slot). IsFileOutcome s left) (f file) now)
fails_only P Short old new file slot f before behind =
    λ left now. before left (subst (λ (s : Slot). IsFileOutcome s left) (f file) now)
fails_only P Memory old new file slot f before behind =
    λ left now. before left (subst (λ (s : Slot). IsFileOutcome s left) (f file) now)

-- the outcomes after a write, whatever it answers
pub writes_only : {T : Type 0} (P : Option (List ℕ) → Type 0) (result : Result T DiskError)
    (old new : State) (file at : ℕ) (bytes : List ℕ) → WriteOutcome old file at bytes result new
    → Only P (old file) → Only P (written at bytes (old file)) → Only P (new file)
writes_only P (Ok x) old new file at bytes w before behind =
    λ left now. behind left (subst (λ (s : Slot). IsFileOutcome s left) w.2.here now)
writes_only P (Err e) old new file at bytes w before behind =
    fails_only P e old new file (written at bytes (old file)) w.0 before behind

-- a sync leaves no outcome that wasn't one before
synced_only : (P : Option (List ℕ) → Type 0) (slot : Slot) → Only P slot → Only P (synced slot)
synced_only P (Absent back) before left now = before left now
synced_only P (Fresh bytes back) before left now = before left tt
synced_only P (Kept bytes kept touches) before (Some c) now =
    before (Some c) (λ place stays. now place (λ no_touch. no_touch))
synced_only P (Kept bytes kept touches) before None now = absurd now

-- the outcomes after a sync, whatever it answers
pub syncs_only : {T : Type 0} (P : Option (List ℕ) → Type 0) (result : Result T DiskError)
    (old new : State) (file : ℕ) → SyncOutcome old file result new → Only P (old file) → Only P
    (new file)
syncs_only P (Ok x) old new file w before =
    λ left now. synced_only P (old file) before left
    (subst (λ (s : Slot). IsFileOutcome s left) w.1.here now)
syncs_only P (Err e) old new file w before =
    fails_only P e old new file (old file) w.0 before before

-- a crash leaves a durable file unchanged
pub sure_only : (P : Option (List ℕ) → Type 0) (bytes : List ℕ) → P (Some bytes)
    → Only P (Kept bytes bytes [])
sure_only P bytes p (Some c) now =
    subst (λ (b : List ℕ). P (Some b))
    (sym (same_bytes c bytes (λ place. now place (λ no_touch. no_touch)))) p
sure_only P bytes p None now = absurd now

-- a crash leaves durable content exactly
pub sure_left : (slot : Slot) (left : Option (List ℕ)) → IsDurable slot → IsFileOutcome slot left
    → left ≡ seen slot
sure_left (Absent back) left sure (inl gone) = gone
sure_left (Absent back) left sure (inr is) = is ∙ sure
sure_left (Fresh bytes back) left sure now = absurd sure
sure_left (Kept bytes kept touches) None sure now = absurd now
sure_left (Kept bytes kept touches) (Some c) sure now =
    ap Some (same_bytes c bytes (λ place. now place (λ unsynced.
    subst (λ (t : List PendingWrite). IsUnsynced (length kept) t place) sure.1 unsynced)))

-- the content that a read returns is an outcome
pub read_is_outcome : (slot : Slot) → IsFileOutcome slot (seen slot)
read_is_outcome (Absent back) = inl refl
read_is_outcome (Fresh bytes back) = tt
read_is_outcome (Kept bytes kept touches) = λ place synced. refl
