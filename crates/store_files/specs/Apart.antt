-- Which files of an open store are apart from each other.
use Rattle.std.specs.Prelude.{◌≡◌, ◌≢◌, ◌⊎◌, ℕ, ◌<◌, ◌≤◌, true, List, Contains, IsNone}
use Rattle.disk.specs.{State, seen}
use Rattle.kv_types.specs.{BatchContent}
use Rattle.store_model.specs.{LevelTable}
use Rattle.version_edits.specs.Versions.{names_log}
use Rattle.store_files.specs.declared.store_files.StoreFiles.{StoreFiles}
use Rattle.batch_logs.specs.BatchLogs.{newest_file}
use Rattle.store_files.specs.OpenFiles.{AreUsableFiles, FilesAreRead, WereMeantToHold}
use Rattle.store_files.specs.OpenFiles.{known_version}
use Rattle.store_files.specs.Tending.{tended_files}

-- the file is no slot, none that is free, and not that of the newest log
pub record IsTableApart (files : StoreFiles) (file : ℕ) : Type 0 where
  pub late : 3 ≤ file
  pub early : file < files.free_file
  pub no_log : file ≢ newest_file files.logs

-- the version names the newest log, whose file is none that is free
pub record IsLogNamed (files : StoreFiles) : Type 0 where
  pub named : names_log (known_version files).version.logs (newest_file files.logs) ≡ true
  pub early : newest_file files.logs < files.free_file

-- the file is a slot, or one that is free
abbrev pub IsSlotOrFree : StoreFiles → ℕ → Type 0
IsSlotOrFree files file = (file < 3) ⊎ (files.free_file ≤ file)

-- The files of tables are apart from those that an append and a tend change, and no file exists
-- from the first free one on.
pub record OpenFilesAreApart : Type 0 where
  pub tables : (disk : State) (files : StoreFiles) (list : List BatchContent)
      (read : FilesAreRead disk files list) (table : LevelTable) → Contains read.tables table →
      IsTableApart files table.file
  pub log : (files : StoreFiles) → AreUsableFiles files → IsLogNamed files
  pub tended : (disk : State) (files : StoreFiles) (list : List BatchContent) →
      FilesAreRead disk files list → (file : ℕ) → Contains (tended_files files) file →
      IsSlotOrFree files file
  pub unused : (disk : State) (files : StoreFiles) (list : List BatchContent) →
      WereMeantToHold disk files list → (file : ℕ) → files.free_file ≤ file →
      IsNone (seen (disk file))
