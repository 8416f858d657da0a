-- The files of a folder that are open.
use Rattle.std.specs.Prelude.{◌≡◌, ℕ, List, [], ◌∷◌, ◌++◌, All}
use Rattle.dir_disk.specs.declared.folder.DirDisk.{DirDisk}
use Rattle.dir_disk.specs.declared.open_file.OpenFile.{OpenFile}
use Rattle.dir_disk.specs.declared.open_files.OpenFiles.{OpenFiles}

-- the latest of the open files has this number
pub record IsLatest (number : ℕ) (open_files : OpenFiles) : Type 0 where
  pub before : List OpenFile
  pub file : OpenFile
  pub ends : open_files.files.items ≡ before ++ file ∷ []
  pub numbered : file.number ≡ number

-- no open file has this number
abbrev pub IsNotOpen : ℕ → OpenFiles → Type 0
IsNotOpen number open_files =
    All (λ (it : OpenFile). it.number ≡ number → ⊥) open_files.files.items

-- the same folder, whose files may be changed or not as before, under the same lock
pub record IsSetUpAs {R : Type 0} (old new : DirDisk R) : Type 0 where
  pub folder : new.folder ≡ old.folder
  pub writes : new.writes ≡ old.writes
  pub lock : new.lock ≡ old.lock

-- the same disk, but for the names of files that it has made
pub record IsSameButForNames {R : Type 0} (old new : DirDisk R) : Type 0 where
  pub set_up : IsSetUpAs old new
  pub files : new.files ≡ old.files
  pub works : new.is_shut ≡ old.is_shut
  pub failures : new.failures ≡ old.failures
