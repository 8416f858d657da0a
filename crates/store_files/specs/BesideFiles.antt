-- Files that no version names: what open files hold does not depend on them.
use Rattle.std.specs.Prelude.{◌≡◌, ℕ, ◌≤◌, List, Contains, IsNone}
use Rattle.disk.specs.{Contents, IsFileOutcome, State, seen}
use Rattle.kv_types.specs.{BatchContent}
use Rattle.version_edits.specs.declared.line.TheConstants.{MAX_NEXT}
use Rattle.store_files.specs.declared.store_files.StoreFiles.{StoreFiles}
use Rattle.store_files.specs.OpenFiles.{FilesHold, WereMeantToHold, known_facts, known_version}
use Rattle.store_files.specs.Openings.{kept_files}
use Rattle.store_files.specs.StoreFiles.{FilesRepresent, WereMeant}

-- the open files with another first free one
abbrev pub with_free : StoreFiles → ℕ → StoreFiles
with_free files free = record files { free_file = free }

-- the file is a slot, or their version names it
abbrev pub IsNamedFile : StoreFiles → ℕ → Type 0
IsNamedFile files file = Contains (kept_files (known_version files).version) file

-- The named files of the second disk are as the first has them, no file exists from this number on,
-- and the version's next file is not above it.
pub record HasSameNamed (files : StoreFiles) (free : ℕ) (old new : State) : Type 0 where
  pub named : (file : ℕ) → IsNamedFile files file → new file ≡ old file
  pub unused : (file : ℕ) → free ≤ file → IsNone (seen (new file))
  pub above : (known_version files).version.next_file ≤ free
  pub few : free ≤ MAX_NEXT

-- a crash left of the named files what it might have left when the disk had this state
abbrev pub IsNamedLeft : StoreFiles → State → Contents → Type 0
IsNamedLeft files disk left =
    (file : ℕ) → IsNamedFile files file → IsFileOutcome (disk file) (left file)

-- What open files hold, they hold with any first free file from which on none exists, whatever
-- became of the files that they do not name; and what a crash leaves of them represents it.
pub record OtherFilesAreFree : Type 0 where
  pub held : (old new : State) (files : StoreFiles) (free : ℕ) (list : List BatchContent)
      (was : FilesHold old files list) → HasSameNamed files free old new →
      (now : FilesHold new (with_free files free) list)
      × (now.known.tables ≡ was.known.tables)
  pub left : (disk : State) (files : StoreFiles) (list : List BatchContent) (left : Contents) →
      FilesHold disk files list → IsNamedLeft files disk left →
      FilesRepresent (known_facts files) list left
  pub meant : (old new : State) (files : StoreFiles) (free : ℕ) (list : List BatchContent)
      (was : WereMeantToHold old files list) → HasSameNamed files free old new →
      (now : WereMeantToHold new (with_free files free) list)
      × (now.hold.known.tables ≡ was.hold.known.tables)
  pub meant_left : (disk : State) (files : StoreFiles) (list : List BatchContent)
      (left : Contents) → WereMeantToHold disk files list → IsNamedLeft files disk left →
      WereMeant (known_facts files) list left
