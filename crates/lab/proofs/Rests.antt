-- What a disk that crashed represents.
use Rattle.std.proofs.Common.{◌≡◌, ◌⊎◌, ℕ, inl, inr, sym, subst}
use Rattle.kv_types.specs.{Edits}
use Rattle.disk.specs.declared.Junk.{Junk}
use Rattle.disk.specs.{Slot, State, Contents, contents, IsDurable, DurableIsLeft, IsCrashOutcome}
use Rattle.disk.specs.{CrashOutcome, CrashedIsDurable}
use Rattle.chain_model.specs.{Answer, stopped}
use Rattle.chain_core.specs.{Machine}
use Rattle.node.specs.{DiskRefines, DiskAlwaysRefines, StopRefines}

module _ (left_exactly : DurableIsLeft) (always_sure : CrashedIsDurable) where
  -- a disk that crashed represents what it reads as
  crashed_rests : (junk : Junk) (old new : State) (x : ℕ) (n : Machine) → CrashOutcome junk old new
      →
      DiskRefines (contents new) x n → DiskAlwaysRefines new x (stopped n)
  crashed_rests junk old new x n crashes r left now =
      let is_sure : (file : ℕ) → IsDurable (new file) = λ file.
      subst (λ (slot : Slot). IsDurable slot) (sym (crashes file)) (always_sure junk (old file)) in
      let same : contents new ≡ left = λ j. λ file.
      (sym (left_exactly new left file (is_sure file) now)) j in
      subst (λ (l : Contents). DiskRefines l x (stopped n)) same r

  -- a crash leaves what represents the node as before the step or as after it
  pub rests_as : (junk : Junk) (old new : State) (x : ℕ) (n : Machine) (a : Answer Edits) →
      CrashOutcome junk old new → IsCrashOutcome old (contents new) → StopRefines old x n a →
      DiskAlwaysRefines new x (stopped n) ⊎ DiskAlwaysRefines new x (stopped a.node)
  rests_as junk old new x n a crashes allowed stops = elim (stops (contents new) allowed) [
    | inl before ↦ inl (crashed_rests junk old new x n crashes before)
    | inr behind ↦ inr (crashed_rests junk old new x a.node crashes behind)
  ]
