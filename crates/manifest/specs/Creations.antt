-- What a creation leaves that is cut short, and a look at it that changes nothing.
use Rattle.std.specs.Prelude.{◌↔◌, ◌≤◌, ℕ, Bool, length, IsTrue, IsSome, IfSome}
use Rattle.std.specs.Prelude.{Result, MatchResult}
use Rattle.disk.specs.{Contents, IsEnvironmental, IsSame, IsStill, KeepsDisk}
use Rattle.disk.specs.declared.Disk.{Ghosts}
use Rattle.disk.specs.declared.error.DiskError.{DiskError}
use Rattle.disk.specs.declared.error.DiskError.TheVariants.{Failed, Memory}
use Rattle.manifest.specs.Slots.{IsNotCreated}

-- a file that a creation makes: a slot, or the first log
abbrev pub IsCreationFile : ℕ → Type 0
IsCreationFile file = (1 ≤ file) × (file ≤ 3)

-- the first log has no record, or is absent
abbrev pub HasNoRecord : Contents → Type 0
HasNoRecord left = IfSome (left 3) (λ bytes. length bytes ≤ 1)

-- nothing is there but files that a creation makes, and the log has no record
pub record HasOnlyCreationFiles (left : Contents) : Type 0 where
  pub files : (file : ℕ) → IsSome (left file) → IsCreationFile file
  pub log : HasNoRecord left

-- A creation that was cut short may have left this: no slot is open, and nothing else is there. So
-- no batch is; and so it is of a disk without files.
abbrev pub WasCutShort : Contents → Type 0
WasCutShort left = IsNotCreated left × HasOnlyCreationFiles left

-- a look answers whether this holds, or is refused for the device or for want of memory
abbrev pub FindsWhether : Type 0 → Result Bool DiskError → Type 0
FindsWhether P result = MatchResult result (λ is. IsTrue is ↔ P) (IsEnvironmental Failed Memory)

-- Calls that only look at a disk, and keep the device: no file changes, and a crash at any moment
-- leaves only what it might have left before.
pub record OnlyLooks {D : Type 0} (g : Ghosts D) (old new : D) (has_failed : Type 0) : Type 0 where
  pub kept : KeepsDisk g old new has_failed ⊥ IsSame
  pub still : IsStill g old new
