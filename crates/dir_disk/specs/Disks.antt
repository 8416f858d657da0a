-- Disks over a folder and over another disk, as callers see them.
use Rattle.std.specs.Prelude.{◌≡◌, ◌⊎◌, ◌==◌, ℕ, List, Bool, IsSome, None, cond, true}
use Rattle.std.specs.Prelude.{[], ◌∷◌, is_some, string_bytes}
use Rattle.std.specs.Prelude.{Result, IsErrOf, MatchResult, ◌-◌, ◌^◌, ◌<◌, ◌≤◌}
use Rattle.std.specs.List.{list_any}
use Rattle.std.specs.declared.alloc.Global.{Global}
use Rattle.std.specs.declared.string.String.{String}
use Rattle.disk.specs.{Absent, CallsAtMost, Incidents, IsSame, IsStill, KeepsDisk, RisesByOne}
use Rattle.disk.specs.{State, seen}
use Rattle.disk.specs.Calls.{IsRefusalOf}
use Rattle.disk.specs.declared.Disk.{Ghosts}
use Rattle.disk.specs.declared.error.DiskError.{DiskError}
use Rattle.disk.specs.declared.error.DiskError.TheVariants.{Failed}
use Rattle.disk.specs.declared.Junk.TheVariants.{Bytes}
use Rattle.disk.specs.declared.Incident.TheVariants.{Crashed}
use Rattle.dir_disk.specs.declared.folder.DirDisk.{DirDisk}
use Rattle.dir_disk.specs.declared.open_files.OpenFiles.{OpenFiles}
use Rattle.dir_disk.specs.declared.unchanged.Unchanged.{Unchanged}
use Rattle.dir_disk.specs.Open.{IsSetUpAs}

-- the path of the folder
abbrev pub disk_folder : {R : Type 0} → DirDisk R → String Global
disk_folder disk = disk.folder

-- whether calls may change the folder's files
abbrev pub may_change : {R : Type 0} → DirDisk R → Bool
may_change disk = disk.writes

-- the system is called no more: the path is empty, or what was synced may be lost
abbrev pub is_shut : {R : Type 0} → DirDisk R → Bool
is_shut disk = disk.is_shut

-- the disk is so
abbrev pub IsShut : {R : Type 0} → DirDisk R → Type 0
IsShut disk = is_shut disk ≡ true

-- a disk of the folder at this path
abbrev pub IsFolderAt : {R : Type 0} → List ℕ → DirDisk R → Type 0
IsFolderAt path disk = string_bytes (disk_folder disk) ≡ path

-- the files of the folder that are open
abbrev pub open_files : {R : Type 0} → DirDisk R → OpenFiles
open_files disk = disk.files

-- the disk has a lock on its folder
abbrev pub HasLock : {R : Type 0} → DirDisk R → Type 0
HasLock disk = IsSome disk.lock

-- a disk of the folder at this path, with its lock, that may change its files and has not failed
pub record IsLockedFolder {R : Type 0} (path : List ℕ) (disk : DirDisk R) : Type 0 where
  pub folder : IsFolderAt path disk
  pub locked : HasLock disk
  pub writes : may_change disk ≡ true
  pub works : disk.failures.count ≡ 0

-- a test as a byte
abbrev pub test_byte : Bool → ℕ
test_byte test = cond test 1 0

-- What is noted of a folder. It claims no honesty, so these are no faults and no crashes: they tell
-- of its lock, of its path and whether its files may be changed, and no call changes them.
abbrev pub folder_incidents : {R : Type 0} → DirDisk R → Incidents
folder_incidents disk = (
  0,
  Crashed (Bytes (test_byte (is_some disk.lock) ∷ test_byte disk.writes
      ∷ string_bytes (disk_folder disk))),
) ∷ []

-- the disk of which nothing is changed
abbrev pub disk_below : {D : Type 0} → Unchanged D → D
disk_below disk = disk.inner.disk

-- the files of it that were removed
abbrev pub files_left_out : {D : Type 0} → Unchanged D → List ℕ
files_left_out disk = disk.removed.items

-- a file is one of those that were removed
abbrev pub is_left_out : List ℕ → ℕ → Bool
is_left_out removed file = list_any (λ it. it == file) removed

-- what is shown of a disk: its files without those that were removed
abbrev pub shown_state : List ℕ → State → State
shown_state removed state file = cond (is_left_out removed file) (Absent None) (state file)

-- a file is there, or the refusal says why not
abbrev pub FindsFile : State → ℕ → Result (Unit {0}) DiskError → Type 0
FindsFile state file result =
    MatchResult result (λ _. IsSome (seen (state file))) (λ e. IsRefusalOf e state file 0)

-- The count is one more where this answer reports a failure, and else the same. At its last value
-- each answer reports one.
pub record CountsFailure {T : Type 0} (result : Result T DiskError) (before now : ℕ) : Type 0 where
  pub failed : IsErrOf result Failed → RisesByOne before now
  pub count : (IsErrOf result Failed → ⊥) → now ≡ before
  pub last : 2 ^ 64 - 1 ≤ before → IsErrOf result Failed

-- This answer is not counted yet: the count is the same. At its last value it reports a failure.
pub record IsUncounted {T : Type 0} (result : Result T DiskError) (before now : ℕ) : Type 0 where
  pub count : now ≡ before
  pub last : 2 ^ 64 - 1 ≤ before → IsErrOf result Failed

-- what a call keeps of a folder whose answer is not counted yet: it stays set up as it was, and
-- where it is shut a failure is reported
pub record KeepsUncounted {R T : Type 0} (old new : DirDisk R) (result : Result T DiskError)
    : Type 0 where
  pub counts : IsUncounted result old.failures.count new.failures.count
  pub same : IsSetUpAs old new
  pub works : is_shut new ≡ is_shut old
  pub shut : IsShut old → IsErrOf result Failed

-- What each call keeps of a folder: failures are counted, and it stays set up as it was. Where it
-- is shut it stays so, and each answer is a failure; for this alone it comes to be so.
pub record KeepsFolder {R T : Type 0} (old new : DirDisk R) (result : Result T DiskError)
    (Shuts : Type 0) : Type 0 where
  pub counts : CountsFailure result old.failures.count new.failures.count
  pub same : IsSetUpAs old new
  pub shut : IsShut old → IsErrOf result Failed × IsShut new
  pub shuts : IsShut new → IsShut old ⊎ Shuts

-- What a call keeps of the disk inside that only looks at it: the files of an honest disk, and the
-- incidents of any. That disk has failed exactly where the call is `Failed` below the last count.
abbrev pub KeepsInner : {D T : Type 0} → Ghosts D → (old new : Unchanged D) → Result T DiskError →
    Type 0
KeepsInner g old new result =
    KeepsDisk g (disk_below old) (disk_below new)
    (IsErrOf result Failed × (old.failures.count < 2 ^ 64 - 1)) ⊥ IsSame

-- what a call that only looks keeps: failures are counted, and the disk inside is only looked at
pub record KeepsBelow {D T : Type 0} (g : Ghosts D) (old new : Unchanged D)
    (result : Result T DiskError) : Type 0 where
  pub counts : CountsFailure result old.failures.count new.failures.count
  pub same : KeepsInner g old new result

-- an honest disk was called once at most, and a crash at any moment since then leaves only what it
-- might have left before
pub record LooksOnce {D : Type 0} (g : Ghosts D) (old new : D) : Type 0 where
  pub still : IsStill g old new
  pub calls : CallsAtMost g 1 old new

-- what a call keeps that only fails: failures are counted, and the disk inside stays as it is
pub record LeavesBelow {D T : Type 0} (old new : Unchanged D) (result : Result T DiskError)
    : Type 0 where
  pub counts : CountsFailure result old.failures.count new.failures.count
  pub same : disk_below new ≡ disk_below old
