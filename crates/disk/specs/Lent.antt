-- The effect of a call on a disk that is passed to it, and of arming it with a fault.
use Rattle.disk.specs.declared.disk.Disk.{Ghosts}
use Rattle.std.specs.Prelude.{◌≡◌, ◌↔◌, ◌∷◌, ℕ, length}
use Rattle.disk.specs.declared.fault.Fault.{Fault}
use Rattle.disk.specs.declared.incident.Incident.TheVariants.{Armed}
use Rattle.disk.specs.States.{State, Contents, IsCrashOutcome, IsSame, IsSameBut}
use Rattle.disk.specs.Moments.{IsLastLeft, IsLeftAt, LeavesSince}
use Rattle.disk.specs.Calls.{KeepsBy}
use Rattle.disk.specs.Faults.{struck_call}

-- The disk is honest exactly if it was, and its count of failures rises exactly where `has_failed`.
-- A reliable disk whose fault has not struck fails only for this cause, and otherwise stays
-- reliable. The last argument relates the files of an honest disk before and after the call.
abbrev pub KeepsDisk : {D : Type 0} → Ghosts D → (old new : D) → (has_failed cause : Type 0) →
    (State → State → Type 0) → Type 0
KeepsDisk g = KeepsBy g.is_honest g.state g.failures g.is_reliable g.past g.incidents

-- a crash at any moment since the call began leaves only contents with P
abbrev pub AlwaysLeaves : {D : Type 0} → Ghosts D → (old new : D) → (Contents → Type 0) → Type 0
AlwaysLeaves g old new P = LeavesSince (g.state old) (g.past old) (g.state new) (g.past new) P

-- a crash at any moment since the call began leaves only what it might have left before
abbrev pub IsStill : {D : Type 0} → Ghosts D → (old new : D) → Type 0
IsStill g old new = g.is_honest old → AlwaysLeaves g old new (IsCrashOutcome (g.state old))

-- what calls promise that write to one file
pub record WritesInto {D : Type 0} (g : Ghosts D) (file : ℕ) (old new : D)
    (has_failed cause : Type 0) : Type 0 where
  -- no other file changes, and a device that works fails only for this cause
  pub kept : KeepsDisk g old new has_failed cause (IsSameBut file)
  -- a crash at any moment since they began leaves each other file as it was
  pub any_moment : g.is_honest old → AlwaysLeaves g old new (IsLeftAt (g.state old) file
      (λ left. Unit {0}))

-- the disk was armed with this fault, and is the same otherwise
pub record IsArmed {D : Type 0} (g : Ghosts D) (fault : Fault) (old new : D) : Type 0 where
  pub honest : g.is_honest new ↔ g.is_honest old
  pub count : g.failures new ≡ g.failures old
  pub reliable : g.is_reliable old → g.is_reliable new
  pub same : g.is_honest old → IsSame (g.state old) (g.state new)
  pub past : g.past new ≡ g.past old
  -- the latest state of its past is the one that it has
  pub last : g.is_honest old → IsLastLeft (g.past new) (g.state new)
  pub incidents : g.is_honest old →
      g.incidents new ≡ (length (g.past old), Armed (struck_call fault)) ∷ g.incidents old
