-- What is written of the store of a folder, which is only read, and how the words `dump ..` end.
use Rattle.std.specs.Prelude.{◌≡◌, ◌≢◌, ◌⊎◌, ℕ, List, [], Err, Ok, Option, false}
use Rattle.disk.specs.declared.Disk.{Ghosts}
use Rattle.dir_disk.specs.declared.folder.DirDisk.{DirDisk}
use Rattle.dir_disk.specs.declared.unchanged.Unchanged.{Unchanged}
use Rattle.dir_disk.specs.Disks.{IsFolderAt, disk_below, may_change}
use Rattle.lab.specs.Stop.TheVariants as stop
use Rattle.store_texts.specs.Writing.{AppendsPart}
use Rattle.dumps.specs.declared.dump_error.DumpError.{DumpError}
use Rattle.dumps.specs.Dumped.{BeginsStoreOf, IsSomeBegun, IsSomeDump, LeavesDevice, WritesStoreOf}
use Rattle.program.specs.declared.folder_failure.DumpFailure.{DumpFailure}
use Rattle.program.specs.declared.folder_failure.DumpFailure.TheVariants.{Memory, Store}
use Rattle.program.specs.FolderFailures.{dump_failure_line, dump_failure_of}
use Rattle.program.specs.Runs.{UsageIsReported}

-- ---- the folder

-- a disk of the folder at this path, whose files may only be read
pub record IsFolderToRead {R : Type 0} (path : List ℕ) (disk : DirDisk R) : Type 0 where
  pub folder : IsFolderAt path disk
  pub reads : may_change disk ≡ false

-- The store of the folder at this path was read from a disk that changes nothing, of which no
-- failure was counted, and its text was written.
pub record IsDumpOfFolder {R : Type 0} (g : Ghosts (Unchanged (DirDisk R))) (path : List ℕ)
    (old_out new_out : Option (List ℕ)) : Type 0 where
  pub disk : Unchanged (DirDisk R)
  pub below : IsFolderToRead path (disk_below disk)
  pub left : Unchanged (DirDisk R)
  pub kept : LeavesDevice g disk (Ok left)
  pub written : WritesStoreOf g disk old_out new_out

-- It was read from such a disk, and a beginning of its text was written. A failure of the disk was
-- counted exactly where this failure is the device's. Where it is that no store was created, or one
-- of the old format, nothing was written; and the text ends at the end of a line, unless the output
-- took no more.
pub record IsBegunOfFolder {R : Type 0} (g : Ghosts (Unchanged (DirDisk R))) (path : List ℕ)
    (old_out new_out : Option (List ℕ)) (failure : DumpFailure) : Type 0 where
  pub disk : Unchanged (DirDisk R)
  pub below : IsFolderToRead path (disk_below disk)
  pub refused : DumpError × Unchanged (DirDisk R)
  pub cause : failure ≡ dump_failure_of refused.0
  pub kept : LeavesDevice g disk (Err refused)
  pub begun : BeginsStoreOf g disk old_out new_out refused.0
  pub some : IsSomeBegun old_out new_out refused.0

-- why there is no disk of the folder at this path: the path is empty, or memory was wanting
abbrev pub IsUnreadFor : List ℕ → DumpFailure → Type 0
IsUnreadFor path failure =
    ((failure ≡ Store stop.NotCreated) × (path ≡ []))
    ⊎ ((failure ≡ Store stop.Memory) × (path ≢ []))

-- why the store of the folder at this path was not written out whole: there is no disk of it, and
-- nothing was written; or a beginning of its text was
abbrev pub DumpHasFailed : {R : Type 0} → Ghosts (Unchanged (DirDisk R)) → List ℕ →
    (old_out new_out : Option (List ℕ)) → DumpFailure → Type 0
DumpHasFailed g path old_out new_out failure =
    (IsUnreadFor path failure × (new_out ≡ old_out))
    ⊎ IsBegunOfFolder g path old_out new_out failure

-- ---- the status

-- the store of the folder at this path was written out whole, and the path is not empty
pub record DumpIsWritten {R : Type 0} (g : Ghosts (Unchanged (DirDisk R))) (path : List ℕ)
    (old_out new_out old_err new_err : Option (List ℕ)) (answer : ℕ) : Type 0 where
  pub status : answer ≡ 0
  pub path_is : path ≢ []
  pub wrote : IsSomeDump old_out new_out
  pub from : IsDumpOfFolder g path old_out new_out
  pub quiet : new_err ≡ old_err

-- it was not, and the line that says why was told, or a beginning of it
pub record DumpIsReported {R : Type 0} (g : Ghosts (Unchanged (DirDisk R))) (path : List ℕ)
    (old_out new_out old_err new_err : Option (List ℕ)) (answer : ℕ) : Type 0 where
  pub status : answer ≡ 1
  pub failure : DumpFailure
  pub failed : DumpHasFailed g path old_out new_out failure
  pub told : AppendsPart old_err new_err (dump_failure_line failure)

-- how a dump of the folder at this path ends
abbrev pub DumpEndsFor : {R : Type 0} → Ghosts (Unchanged (DirDisk R)) → List ℕ →
    (old_out new_out old_err new_err : Option (List ℕ)) → ℕ → Type 0
DumpEndsFor g path old_out new_out old_err new_err answer =
    DumpIsWritten g path old_out new_out old_err new_err answer
    ⊎ DumpIsReported g path old_out new_out old_err new_err answer

-- memory was wanting for the words: that was told, or a beginning of it, and nothing was written
pub record WordsWantMemory (old_out new_out old_err new_err : Option (List ℕ)) (answer : ℕ)
    : Type 0 where
  pub status : answer ≡ 1
  pub none : new_out ≡ old_out
  pub told : AppendsPart old_err new_err (dump_failure_line Memory)

-- how the words `dump ..` end: as a dump of some folder, for want of memory, or with the usage
abbrev pub DumpOrUsage : {R : Type 0} → Ghosts (Unchanged (DirDisk R)) →
    (old_out new_out old_err new_err : Option (List ℕ)) → ℕ → Type 0
DumpOrUsage g old_out new_out old_err new_err answer =
    ((path : List ℕ) × DumpEndsFor g path old_out new_out old_err new_err answer)
    ⊎ (WordsWantMemory old_out new_out old_err new_err answer
    ⊎ UsageIsReported old_out new_out old_err new_err answer)
