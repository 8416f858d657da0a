-- A file that is written anew behind its gate, and its gate then opened.
use Rattle.std.specs.Prelude.{◌≡◌, ◌⊎◌, ℕ, ◌<◌, List, ◌∷◌, ◌++◌, length, Bool, true, false}
use Rattle.std.specs.Prelude.{◌+◌, ◌^◌, IsErrOf, IsSomeAnd, MatchResult, Result}
use Rattle.disk.specs.{IsEnvironmental}
use Rattle.disk.specs.declared.Disk.{Ghosts}
use Rattle.disk.specs.declared.DiskError.{DiskError}
use Rattle.disk.specs.declared.DiskError.TheVariants as device
use Rattle.disk.specs.{AlwaysLeaves, EndsOutOfRange, IsLeftAt, IsSameBut, KeepsDisk, State}
use Rattle.disk.specs.{MakesCalls}
use Rattle.record_log.specs.{IsClosed, IsDurableAs}

-- a file whose gate is as is said: open, with bytes behind it, or closed
abbrev pub HasGate : Bool → List ℕ → Type 0
HasGate true bytes = (behind : List ℕ) × (bytes ≡ 1 ∷ behind) × (0 < length behind)
HasGate false bytes = IsClosed bytes

-- What a crash may leave on the way: a closed gate, or what was there, or the new bytes behind an
-- open gate. More bytes may follow.
abbrev pub IsReplaced : List ℕ → List ℕ → List ℕ → Type 0
IsReplaced was behind left = IsClosed left ⊎ (((rest : List ℕ) × (left ≡ was ++ rest))
    ⊎ ((rest : List ℕ) × (left ≡ 1 ∷ (behind ++ rest))))

-- the calls of the disk that close a gate: a sync, and before it a write where the gate is open
abbrev pub closing_calls : Bool → ℕ
closing_calls true = 2
closing_calls false = 1

-- the file's gate is closed, and a crash leaves it as it is
pub record IsClosedFile (disk : State) (file : ℕ) : Type 0 where
  pub bytes : List ℕ
  pub sure : IsDurableAs disk file bytes
  pub closed : IsClosed bytes

-- if an honest disk durably has bytes in the file, with such a gate, this is said of them
abbrev pub IfGated : {D : Type 0} → Ghosts D → D → ℕ → Bool → (List ℕ → Type 0) → Type 0
IfGated g disk file is_open IsSaid = (was : List ℕ) → g.is_honest disk →
    IsDurableAs (g.state disk) file was → HasGate is_open was → IsSaid was

-- a crash at any moment since the call began leaves the file on the way from its bytes to these
-- ones, and of other files what it might have left before
abbrev pub LeavesReplaced : {D : Type 0} → Ghosts D → (disk later : D) → ℕ → (was behind : List ℕ) →
    Type 0
LeavesReplaced g disk later file was behind = AlwaysLeaves g disk later
    (IsLeftAt (g.state disk) file (λ left. IsSomeAnd left (IsReplaced was behind)))

-- what a call promises that makes a file these bytes behind an open gate, where it was so
pub record ReplacesFile {D : Type 0} (g : Ghosts D) (disk later : D) (file : ℕ) (behind : List ℕ)
    (WasSo : List ℕ → State → Type 0) (count : ℕ) (result : Result (Unit {0}) DiskError)
    : Type 0 where
  -- a device that works fails only where the bytes would end past the greatest place, and no other
  -- file changes
  pub kept : KeepsDisk g disk later (IsErrOf result device.Failed)
      (EndsOutOfRange 1 (length behind)) (IsSameBut file)
  -- the file durably has the bytes then, or the refusal is external
  pub done : (was : List ℕ) → g.is_honest disk → WasSo was (g.state disk) → MatchResult result
      (λ _. IsDurableAs (g.state later) file (1 ∷ behind) × (1 + length behind < 2 ^ 63))
      (IsEnvironmental device.Failed device.Memory)
  -- a crash at any moment leaves the file on the way to them
  pub any_moment : (was : List ℕ) → g.is_honest disk → WasSo was (g.state disk) →
      LeavesReplaced g disk later file was behind
  -- so often it calls the disk
  pub calls : MakesCalls g count disk later result
