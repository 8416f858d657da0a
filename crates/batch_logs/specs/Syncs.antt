-- What an opening of logs makes of the files of a store: it syncs some, and changes none.
use Rattle.std.specs.Prelude.{◌≡◌, ◌≢◌, ◌⊎◌, ℕ, List, Some, All}
use Rattle.disk.specs.{IsFileOutcome, State, seen}
use Rattle.record_log.specs.{IsDurableAs}
use Rattle.version_edits.specs.declared.line.LogLine.{LogLine}

-- a crash leaves of each file only what it might have left before
abbrev pub AddsNothing : State → State → Type 0
AddsNothing old new =
    (file : ℕ) (left : _) → IsFileOutcome (new file) left → IsFileOutcome (old file) left

-- the file is as it was, or durably has the bytes that it had
abbrev pub SlotSettles : State → State → ℕ → Type 0
SlotSettles old new file =
    (new file ≡ old file)
    ⊎ ((bytes : List ℕ) × (seen (old file) ≡ Some bytes) × IsDurableAs new file bytes)

-- the files but those of these logs are as they were
abbrev pub SparesAllBut : List LogLine → State → State → Type 0
SparesAllBut lines old new =
    (file : ℕ) → All (λ line. line.file ≢ file) lines → new file ≡ old file

-- the files of these logs settle, and the others are as they were
pub record LogsSettle (lines : List LogLine) (old new : State) : Type 0 where
  pub others : SparesAllBut lines old new
  pub each : (file : ℕ) → SlotSettles old new file
