-- What open files hold, by what their disk reads and what a crash of it leaves.
use Rattle.std.specs.Prelude.{List}
use Rattle.kv_types.specs.{BatchContent}
use Rattle.disk.specs.{Contents, IsSame, OnlyLeaves, State, contents}
use Rattle.store_files.specs.declared.store_files.StoreFiles.{StoreFiles}
use Rattle.store_files.specs.Files.{Facts}
use Rattle.store_files.specs.OpenFiles.{FilesHold, IsAsMeant, WereMeantToHold, known_facts}
use Rattle.store_files.specs.OpenFiles.{known_version}
use Rattle.store_files.specs.StoreFiles.{FilesRepresent, WereMeant}

-- what open files hold in this sense, their disk represents in that one as it reads and as each
-- crash leaves it; and on a disk with the same files they hold the same
pub record AreLeftAsHeld (Hold : State → StoreFiles → List BatchContent → Type 0)
    (Represent : Facts → List BatchContent → Contents → Type 0) : Type 0 where
  pub reads : (disk : State) (files : StoreFiles) (list : List BatchContent) →
      Hold disk files list → Represent (known_facts files) list (contents disk)
  pub crash : (disk : State) (files : StoreFiles) (list : List BatchContent) →
      Hold disk files list → OnlyLeaves (Represent (known_facts files) list) disk
  pub stays : (old new : State) (files : StoreFiles) (list : List BatchContent) →
      IsSame old new → Hold old files list → Hold new files list

-- So it is with what open files hold, and with what they were meant to hold. A disk whose files
-- hold a list is as it was meant to be.
pub record HeldFilesAreLeft : Type 0 where
  pub held : AreLeftAsHeld FilesHold FilesRepresent
  pub meant : AreLeftAsHeld WereMeantToHold WereMeant
  pub as_is : (disk : State) (files : StoreFiles) (list : List BatchContent) →
      FilesHold disk files list →
      IsAsMeant disk disk (known_version files).version files.tables
