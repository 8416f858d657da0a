-- What a crash leaves at each moment of the four calls that write bytes behind a gate.
use Rattle.std.proofs.Common.{◌≡◌, ℕ, List, [], ◌∷◌, Option, Result, refl, ap, ◌∙◌}
use Rattle.disk.specs.declared.DiskError.{DiskError}
use Rattle.disk.specs.{IsLeftAt, IsSameBut, LeavesSince, Passes, State, SyncOutcome}
use Rattle.disk.specs.{WriteOutcome, synced, written}
use Rattle.disk.specs.BesideLemmas.{at_start, at_more, at_sync, same_but_join}
use Rattle.record_log.specs.Gate.{IsGatedWrite, IsPartlyOpened}
use Rattle.record_log.proofs.Gates.{at_first, first_write, second_write}

-- A write behind the gate of a file, and the disk before the calls.
module _ {D : Type 0} (state : D → State) (past : D → List State) (gate at : ℕ)
    (bytes all : List ℕ) (file : ℕ) (d0 : D)
    (w : IsGatedWrite (state d0 file) gate at bytes all) where
  abbrev Way : Option (List ℕ) → Type 0
  Way = IsPartlyOpened (state d0 file) gate at bytes all

  -- on the way since the first call began
  abbrev Leaves : D → Type 0
  Leaves new = LeavesSince (state d0) (past d0) (state new) (past new) (IsLeftAt
      (state d0) file Way)

  module _ {T : Type 0} (d1 : D) (wrote : Result T DiskError)
      (w1 : WriteOutcome (state d0) file at bytes wrote (state d1))
      (others1 : IsSameBut file (state d0) (state d1))
      (passes1 : Passes (past d0) (state d0) (past d1) (state d1)) where
    pub after_write : Leaves d1
    after_write =
        at_more Way file (state d0) (state d0) (state d1) (past d0) (past d0) (past d1)
        (at_start Way file (state d0) (past d0) (at_first (state d0 file) gate at bytes all w))
        passes1 others1
        (first_write (state d0 file) gate at bytes all w file wrote (state d0) (state d1) refl w1)

    module _ (d2 : D) (synced1 : Result T DiskError)
        (w2 : SyncOutcome (state d1) file synced1 (state d2))
        (passes2 : Passes (past d1) (state d1) (past d2) (state d2)) where
      pub after_sync : Leaves d2
      after_sync =
          at_sync Way file synced1 (state d0) (state d1) (state d2) (past d0) (past d1) (past d2)
          after_write passes2 w2

      module _ (is1 : state d1 file ≡ written at bytes (state d0 file))
          (is2 : state d2 file ≡ synced (state d1 file))
          (others2 : IsSameBut file (state d1) (state d2))
          (d3 : D) (opened : Result T DiskError)
          (w3 : WriteOutcome (state d2) file gate (1 ∷ []) opened (state d3))
          (others3 : IsSameBut file (state d2) (state d3))
          (passes3 : Passes (past d2) (state d2) (past d3) (state d3)) where
        pub after_gate : Leaves d3
        after_gate =
            at_more Way file (state d0) (state d2) (state d3) (past d0) (past d2) (past d3)
            after_sync passes3
            (same_but_join file (state d0) (state d2) (state d3)
            (same_but_join file (state d0) (state d1) (state d2) others1 others2) others3)
            (second_write (state d0 file) gate at bytes all w file opened (state d2) (state d3)
            (is2 ∙ ap synced is1) w3)

        pub after_last : (d4 : D) (synced2 : Result T DiskError) →
            SyncOutcome (state d3) file synced2 (state d4) →
            Passes (past d3) (state d3) (past d4) (state d4) → Leaves d4
        after_last d4 synced2 w4 passes4 =
            at_sync Way file synced2 (state d0) (state d3) (state d4) (past d0) (past d3) (past d4)
            after_gate passes4 w4
