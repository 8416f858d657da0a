-- How the store of a folder is taken over from format 1, and how the words `upgrade ..` end.
use Rattle.std.specs.Prelude.{◌≡◌, ◌≢◌, ◌⊎◌, ℕ, List, ◌∷◌, ◌++◌, [], codes, Option}
use Rattle.std.specs.Prelude.{IsErrOf, Result, Ok, Err}
use Rattle.std.specs.Io.KnownBytes.{Appends}
use Rattle.disk.specs.declared.Disk.{Ghosts}
use Rattle.disk.specs.{KeepsDisk, contents}
use Rattle.dir_disk.specs.declared.folder.DirDisk.{DirDisk}
use Rattle.dir_disk.specs.Disks.{IsLockedFolder}
use Rattle.engine.specs.EngineError.{EngineError}
use Rattle.engine.specs.EngineError.TheVariants as engine
use Rattle.engine.specs.declared.upgrading.Upgraded.{Upgraded}
use Rattle.engine.specs.declared.upgrading.Upgraded.TheVariants as upgraded
use Rattle.engine.specs.{ExplainsUpgrade, IsFoundAs, IsUpgradeRefusal, SparesOthers}
use Rattle.lab.specs.Stop.TheVariants as stop
use Rattle.store_texts.specs.Writing.{AppendsPart}
use Rattle.program.specs.declared.folder_failure.UpgradeFailure.{UpgradeFailure}
use Rattle.program.specs.declared.folder_failure.UpgradeFailure.TheVariants.{Memory, Output, Store}
use Rattle.program.specs.FolderFailures.{upgrade_failure_line, upgrade_failure_of}
use Rattle.program.specs.Runs.{UsageIsReported}

-- what is said of a store that was upgraded, or was not of format 1
abbrev pub upgraded_line : Upgraded → List ℕ
upgraded_line upgraded.Done = codes "upgraded" ++ 10 ∷ []
upgraded_line upgraded.Already = codes "already format 2" ++ 10 ∷ []

-- a folder without a lock has no store to be upgraded, or the environment failed
abbrev pub HasNoUpgrade : EngineError → Type 0
HasNoUpgrade e = (e ≡ engine.NotCreated) ⊎ (e ≡ engine.Disk) ⊎ (e ≡ engine.Memory)

-- What was said of an upgrade: what was found, or a beginning of that, or nothing, where it was
-- refused for this.
abbrev pub UpgradeIsSaid : (Upgraded → Type 0) → (EngineError → Type 0) →
    (old_out new_out : Option (List ℕ)) → Result (Unit {0}) UpgradeFailure → Type 0
UpgradeIsSaid IsFound Explains old_out new_out (Ok x) =
    (found : Upgraded) × IsFound found × Appends old_out new_out (upgraded_line found)
UpgradeIsSaid IsFound Explains old_out new_out (Err failure) =
    ((e : EngineError) × (failure ≡ upgrade_failure_of e) × Explains e × (new_out ≡ old_out))
    ⊎ ((failure ≡ Output) × ((found : Upgraded) × IsFound found
    × AppendsPart old_out new_out (upgraded_line found)))

-- An upgrade of the store of the folder at this path, whose lock was held. It failed for the disk
-- exactly where that counts a failure, and changed no file but slots.
pub record IsUpgradeOfFolder {R : Type 0} (g : Ghosts (DirDisk R)) (path : List ℕ)
    (old_out new_out : Option (List ℕ)) (result : Result (Unit {0}) UpgradeFailure)
    : Type 0 where
  pub some : path ≢ []
  pub disk : DirDisk R
  pub below : IsLockedFolder path disk
  pub later : DirDisk R
  pub kept : KeepsDisk g disk later (IsErrOf result (Store stop.Disk)) ⊥ SparesOthers
  pub said : UpgradeIsSaid
      (λ found. g.is_honest disk → IsFoundAs (contents (g.state disk)) (g.state later) found)
      (λ e. IsUpgradeRefusal e
      × (g.is_honest disk → ExplainsUpgrade e (contents (g.state disk))))
      old_out new_out result

-- the folder's lock was not to be had, for this, and nothing was printed
abbrev pub HasNoLock : (old_out new_out : Option (List ℕ)) → Result (Unit {0}) UpgradeFailure →
    Type 0
HasNoLock old_out new_out result = (e : EngineError) × (result ≡ Err (upgrade_failure_of e))
    × HasNoUpgrade e × (new_out ≡ old_out)

-- what was printed of an upgrade of the folder at this path
abbrev pub UpgradeIsPrinted : {R : Type 0} → Ghosts (DirDisk R) → List ℕ →
    (old_out new_out : Option (List ℕ)) → Result (Unit {0}) UpgradeFailure → Type 0
UpgradeIsPrinted g path old_out new_out result =
    IsUpgradeOfFolder g path old_out new_out result ⊎ HasNoLock old_out new_out result

-- the store is of format 2, and it was printed what it was
pub record UpgradeHasAnswered {R : Type 0} (g : Ghosts (DirDisk R)) (path : List ℕ)
    (old_out new_out old_err new_err : Option (List ℕ)) (answer : ℕ) : Type 0 where
  pub status : answer ≡ 0
  pub printed : UpgradeIsPrinted g path old_out new_out (Ok tt)
  pub quiet : new_err ≡ old_err

-- it was not upgraded, or not told, and the line that says why was told, or a beginning of it
pub record UpgradeIsReported {R : Type 0} (g : Ghosts (DirDisk R)) (path : List ℕ)
    (old_out new_out old_err new_err : Option (List ℕ)) (answer : ℕ) : Type 0 where
  pub status : answer ≡ 1
  pub failure : UpgradeFailure
  pub printed : UpgradeIsPrinted g path old_out new_out (Err failure)
  pub told : AppendsPart old_err new_err (upgrade_failure_line failure)

-- how an upgrade of the folder at this path ends
abbrev pub UpgradeEndsFor : {R : Type 0} → Ghosts (DirDisk R) → List ℕ →
    (old_out new_out old_err new_err : Option (List ℕ)) → ℕ → Type 0
UpgradeEndsFor g path old_out new_out old_err new_err answer =
    UpgradeHasAnswered g path old_out new_out old_err new_err answer
    ⊎ UpgradeIsReported g path old_out new_out old_err new_err answer

-- memory was wanting for the words: that was told, or a beginning of it, and nothing was printed
pub record UpgradeWantsMemory (old_out new_out old_err new_err : Option (List ℕ)) (answer : ℕ)
    : Type 0 where
  pub status : answer ≡ 1
  pub none : new_out ≡ old_out
  pub told : AppendsPart old_err new_err (upgrade_failure_line Memory)

-- how the words `upgrade ..` end: as an upgrade of some folder, where memory is wanting, or with
-- the usage
abbrev pub UpgradeOrUsage : {R : Type 0} → Ghosts (DirDisk R) →
    (old_out new_out old_err new_err : Option (List ℕ)) → ℕ → Type 0
UpgradeOrUsage g old_out new_out old_err new_err answer =
    ((path : List ℕ) × UpgradeEndsFor g path old_out new_out old_err new_err answer)
    ⊎ (UpgradeWantsMemory old_out new_out old_err new_err answer
    ⊎ UsageIsReported old_out new_out old_err new_err answer)
