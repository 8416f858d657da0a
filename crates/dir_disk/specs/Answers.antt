-- What the system answered, as an answer of the disk.
use Rattle.std.specs.Prelude.{◌≡◌, ◌⊎◌, Bool, Result, Ok, Err, false}
use Rattle.std.specs.Fs.{IsFile, file_type, metadata_len}
use Rattle.std.specs.IoError.{error_kind}
use Rattle.std.specs.declared.fs.attrs.Metadata.{Metadata}
use Rattle.std.specs.declared.fs.locks.TryLockError.{TryLockError}
use Rattle.std.specs.declared.fs.locks.TryLockError.TheVariants as try
use Rattle.std.specs.declared.io.Error.{Error}
use Rattle.std.specs.declared.io.ErrorKind.TheVariants.{NotFound, OutOfMemory, UnexpectedEof}
use Rattle.disk.specs.{IsEnvironmental}
use Rattle.disk.specs.declared.error.DiskError.{DiskError}
use Rattle.disk.specs.declared.error.DiskError.TheVariants.{Failed, Memory, NoFile, Short}
use Rattle.dir_disk.specs.declared.lock.LockError.{LockError}
use Rattle.dir_disk.specs.declared.lock.LockError.TheVariants as lock
use Rattle.dir_disk.specs.declared.answers.EntryKind.{EntryKind}
use Rattle.dir_disk.specs.declared.answers.EntryKind.TheVariants as kind

-- the system says that nothing has this name
abbrev pub IsMissing : Error → Type 0
IsMissing e = error_kind e ≡ NotFound

-- what is at a path: a file with its length, something else, or nothing; each other error stays
abbrev pub IsKindAnswer : Result Metadata Error → Result EntryKind Error → Type 0
IsKindAnswer (Ok it) answer = (IsFile (file_type it) × (answer ≡ Ok (kind.File (metadata_len it))))
    ⊎ ((IsFile (file_type it) → ⊥) × (answer ≡ Ok kind.Other))
IsKindAnswer (Err e) answer = (IsMissing e × (answer ≡ Ok kind.Absent))
    ⊎ ((IsMissing e → ⊥) × (answer ≡ Err e))

-- the file that was opened; one that was not to be created may be missing, and each other error is
-- a failure of the device
abbrev pub IsOpeningAnswer : {T : Type 0} → Bool → Result T Error → Result T DiskError → Type 0
IsOpeningAnswer creates (Ok file) answer = answer ≡ Ok file
IsOpeningAnswer creates (Err e) answer = ((IsMissing e × (creates ≡ false)) × (answer ≡ Err NoFile))
    ⊎ ((IsMissing e → creates ≡ false → ⊥) × (answer ≡ Err Failed))

-- why a file is not reached: for the device, for memory, or since it is absent and is not created
abbrev pub IsReachRefusal : Bool → DiskError → Type 0
IsReachRefusal creates e = IsEnvironmental Failed Memory e ⊎ ((e ≡ NoFile) × (creates ≡ false))

-- bytes were read; the file may end before them, and each other error is a failure of the device
abbrev pub IsReadingAnswer : Result (Unit {0}) Error → Result (Unit {0}) DiskError → Type 0
IsReadingAnswer (Ok x) answer = answer ≡ Ok x
IsReadingAnswer (Err e) answer = ((error_kind e ≡ UnexpectedEof) × (answer ≡ Err Short))
    ⊎ ((error_kind e ≡ UnexpectedEof → ⊥) × (answer ≡ Err Failed))

-- a file was removed; it may be missing, and each other error is a failure of the device
abbrev pub IsRemovalAnswer : Result (Unit {0}) Error → Result (Unit {0}) DiskError → Type 0
IsRemovalAnswer (Ok x) answer = answer ≡ Ok x
IsRemovalAnswer (Err e) answer = (IsMissing e × (answer ≡ Err NoFile))
    ⊎ ((IsMissing e → ⊥) × (answer ≡ Err Failed))

-- a listing was refused for want of memory, and each other error is a failure of the device
abbrev pub IsListingFault : Error → DiskError → Type 0
IsListingFault e answer = ((error_kind e ≡ OutOfMemory) × (answer ≡ Memory))
    ⊎ ((error_kind e ≡ OutOfMemory → ⊥) × (answer ≡ Failed))

-- a lock was refused: another user has it, or the system failed
abbrev pub lock_error : TryLockError → LockError
lock_error try.WouldBlock = lock.InUse
lock_error (try.Error e) = lock.Failed
