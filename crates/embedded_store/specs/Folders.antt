-- A store in a folder.
use Rattle.std.specs.Prelude.{◌≡◌, ℕ, List, true}
use Rattle.disk.specs.declared.Disk.{Ghosts}
use Rattle.dir_disk.specs.declared.folder.DirDisk.{DirDisk}
use Rattle.dir_disk.specs.Disks.{IsFolderAt, IsLockedFolder, may_change}
use Rattle.embedded_store.specs.declared.store.EmbeddedStore.{EmbeddedStore}
use Rattle.embedded_store.specs.Stores.{store_disk}

-- a disk of the folder at this path that may change its files and has not failed
pub record IsWorkingFolder {R : Type 0} (path : List ℕ) (disk : DirDisk R) : Type 0 where
  pub folder : IsFolderAt path disk
  pub writes : may_change disk ≡ true
  pub works : disk.failures.count ≡ 0

-- the store's disk is the folder at this path, with its lock
abbrev pub IsStoreOfFolder : {R : Type 0} {g : Ghosts (DirDisk R)} → List ℕ →
    EmbeddedStore (DirDisk R) g → Type 0
IsStoreOfFolder path store = IsLockedFolder path (store_disk store)
