-- What an opening makes of the files of a store: those that are named are made durable, and the
-- others are removed.
use Rattle.std.specs.Prelude.{◌≡◌, ℕ, List, Some, All, IsSome, IsNone, Contains}
use Rattle.disk.specs.{State, seen}
use Rattle.record_log.specs.{IsDurableAs}
use Rattle.manifest.specs.declared.TableLine.{TableLine}
use Rattle.batch_logs.specs.Syncs.{SlotSettles}

-- ---- syncs

-- the files of these lines durably have the bytes that they had, and each other settles at most
pub record AreSynced (old new : State) (lines : List TableLine) : Type 0 where
  pub named : All (λ line. (bytes : List ℕ) × (seen (old line.file) ≡ Some bytes)
      × IsDurableAs new line.file bytes) lines
  pub each : (file : ℕ) → SlotSettles old new file

-- each file reads as before
abbrev pub IsReadAlike : State → State → Type 0
IsReadAlike old new = (file : ℕ) → seen (new file) ≡ seen (old file)

-- the files of these lines exist
abbrev pub AreThere : State → List TableLine → Type 0
AreThere disk lines = All (λ line. IsSome (seen (disk line.file))) lines

-- ---- removals

-- these files are as they were
abbrev pub SparesFiles : List ℕ → State → State → Type 0
SparesFiles kept old new = (file : ℕ) → Contains kept file → new file ≡ old file

-- no other file exists
abbrev pub AreAlone : List ℕ → State → Type 0
AreAlone kept disk = (file : ℕ) → (Contains kept file → ⊥) → IsNone (seen (disk file))

-- these files read as before
abbrev pub AreReadAlike : List ℕ → State → State → Type 0
AreReadAlike kept old new = (file : ℕ) → Contains kept file → seen (new file) ≡ seen (old file)

-- these files read as before, and the others were removed
pub record AreSwept (kept : List ℕ) (old new : State) : Type 0 where
  pub alike : AreReadAlike kept old new
  pub alone : AreAlone kept new
