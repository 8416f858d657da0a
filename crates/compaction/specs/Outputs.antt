-- The outputs of a merge: what their writer knows, and what their files have.
use Rattle.std.specs.Prelude.{◌≡◌, ◌≢◌, ◌⊎◌, ℕ, ◌+◌, ◌<◌, ◌≤◌, List, [], ◌∷◌, ◌++◌, length, All}
use Rattle.std.specs.Prelude.{true, false, Option, Some, None, IfSome, IsNone, IsTrue}
use Rattle.std.specs.Prelude.{map, Contains}
use Rattle.std.specs.List.{AllZip}
use Rattle.std.specs.Option.{option_map}
use Rattle.disk.specs.{IsEnvironmental}
use Rattle.disk.specs.declared.Disk.{Ghosts}
use Rattle.disk.specs.{AlwaysLeaves, Contents, IsFileOutcome, KeepsDisk, State, seen}
use Rattle.kv_types.specs.{Entry}
use Rattle.version_edits.specs.declared.TableLine.{TableLine}
use Rattle.version_edits.specs.declared.line.TheConstants.{MAX_LINES, MAX_NEXT}
use Rattle.version_edits.specs.Versions.{are_once}
use Rattle.version_edits.specs.{IsTableLine}
use Rattle.table_builder.specs.declared.Finished.{Finished}
use Rattle.table_builder.specs.{Builds, HoldsTable, data_size, first_entry}
use Rattle.table_format.specs.{last_entry}
use Rattle.table_format.specs.declared.sizes.TheConstants.{MAX_DATA}
use Rattle.compaction.specs.declared.error.MergeError.{MergeError}
use Rattle.compaction.specs.declared.error.MergeError.TheVariants as merge
use Rattle.compaction.specs.declared.open_output.OpenOutput.{OpenOutput}
use Rattle.compaction.specs.declared.writer.OutputWriter.{OutputWriter}
use Rattle.compaction.specs.Survivors.{is_dropped}
use Rattle.compaction.specs.WrittenTables.{Written, cut_before}

-- ---- what the writer knows

-- the writer knows the key and the number of the entry that came last
abbrev pub KnowsBefore : OutputWriter → Option Entry → Type 0
KnowsBefore writer None = writer.has_before ≡ false
KnowsBefore writer (Some entry) = (writer.has_before ≡ true)
    × (writer.key ≡ entry.key) × (writer.number ≡ entry.number)

-- the file of the open table, if there is one
abbrev pub open_file : OutputWriter → Option ℕ
open_file writer = option_map (λ it. it.file) writer.current

-- the file is that of an output, complete or open
abbrev pub IsOutputFile : OutputWriter → ℕ → Type 0
IsOutputFile writer file = (open_file writer ≡ Some file)
    ⊎ Contains (map (λ line. line.file) writer.closed.items) file

-- the rules by which it drops, cuts and writes are the same
pub record KeepsRules (old new : OutputWriter) : Type 0 where
  pub floor : new.floor ≡ old.floor
  pub target : new.target ≡ old.target
  pub level : new.level ≡ old.level
  pub deeper : new.deeper ≡ old.deeper

-- ---- complete tables

-- the line of a finished table of this level in this file
abbrev pub finished_line : ℕ → ℕ → Finished → TableLine
finished_line level file done = record {
  level = level;
  file = file;
  length = done.length;
  least = done.least;
  greatest = done.greatest;
}

-- The file of the line durably represents the entries, which run from the line's least key to its
-- greatest.
pub record IsOutput (disk : State) (level : ℕ) (line : TableLine) (entries : List Entry)
    : Type 0 where
  pub at : line.level ≡ level
  pub table : HoldsTable (disk line.file) entries
  pub len : line.length ≡ length table.bytes
  pub least : IfSome (first_entry entries) (λ entry. line.least ≡ entry.key)
  pub greatest : IfSome (last_entry entries) (λ entry. line.greatest ≡ entry.key)
  pub proper : IsTableLine line

-- ---- under way

-- the builder of the open table has these entries, and its file the blocks that are closed
abbrev pub HoldsOpen : State → Option OpenOutput → List Entry → Type 0
HoldsOpen disk None entries = entries ≡ []
HoldsOpen disk (Some it) entries = Builds (disk it.file) it.builder entries

-- each file of an output has a number below the next one, and no two have the same
pub record HaveOwnNumbers (writer : OutputWriter) (next_file : ℕ) : Type 0 where
  pub closed : All (λ line. line.file < next_file) writer.closed.items
  pub once : IsTrue (are_once (map (λ line. line.file) writer.closed.items))
  pub current : IfSome (open_file writer) (λ file. (file < next_file)
      × All (λ line. line.file ≢ file) writer.closed.items)

-- what is written so far stands in the files of the writer
pub record WriterHolds (disk : State) (next_file : ℕ) (writer : OutputWriter) (it : Written)
    : Type 0 where
  pub before : KnowsBefore writer it.before
  pub closed : AllZip (IsOutput disk writer.level) writer.closed.items it.closed
  pub current : HoldsOpen disk writer.current it.opened
  pub numbered : HaveOwnNumbers writer next_file

-- no file exists with a number from this one on
abbrev pub AreUnused : State → ℕ → Type 0
AreUnused disk next_file = (file : ℕ) → next_file ≤ file → IsNone (seen (disk file))

-- ---- the device

-- the file is that of the open table
abbrev pub IsOpenFile : OutputWriter → ℕ → Type 0
IsOpenFile writer file = open_file writer ≡ Some file

-- the writer may change the file: it is that of the open table, or has a number from this one on
abbrev pub IsOwnFile : OutputWriter → ℕ → ℕ → Type 0
IsOwnFile writer next_file file = IsOpenFile writer file ⊎ (next_file ≤ file)

-- The writer used file numbers from the first of these on, up to the second, at most so many and
-- within their limit. Its files are those of before, or have such numbers.
pub record UsesNumbers (most : ℕ) (old : OutputWriter) (next_old : ℕ) (new : OutputWriter)
    (next_new : ℕ) : Type 0 where
  pub rises : next_old ≤ next_new
  pub within : next_new ≤ next_old + most
  pub few : next_old ≤ MAX_NEXT → next_new ≤ MAX_NEXT
  pub own : (file : ℕ) → IsOwnFile new next_new file → IsOwnFile old next_old file
  pub outputs : (file : ℕ) → IsOutputFile new file → IsOutputFile old file ⊎ (next_old ≤ file)

-- all files but these are as they were
abbrev pub IsSameBeyond : (ℕ → Type 0) → State → State → Type 0
IsSameBeyond own old new = (file : ℕ) → (own file → ⊥) → new file ≡ old file

-- a crash left of all files but these what it might have left when the disk had this state
abbrev pub IsLeftBeyond : (ℕ → Type 0) → State → Contents → Type 0
IsLeftBeyond own disk left = (file : ℕ) → (own file → ⊥) → IsFileOutcome (disk file) (left file)

-- Calls that write to these files alone. They fail only for this cause or where an armed fault
-- struck. A crash at any moment since they began leaves each other file as it was.
pub record WritesOnly {D : Type 0} (g : Ghosts D) (own : ℕ → Type 0) (old new : D)
    (has_failed cause : Type 0) : Type 0 where
  pub kept : KeepsDisk g old new has_failed cause (IsSameBeyond own)
  pub any_moment : g.is_honest old → AlwaysLeaves g old new (IsLeftBeyond own (g.state old))

-- nothing that may have been written is in the files of the writer
abbrev pub HoldsNothing : {D : Type 0} → Ghosts D → D → ℕ → OutputWriter → Type 0
HoldsNothing g disk next_file writer =
    (it : Written) → g.is_honest disk → WriterHolds (g.state disk) next_file writer it → ⊥

-- nothing is in the files of the writer, or a file exists with a number from the next one on
abbrev pub IsAstray : {D : Type 0} → Ghosts D → D → ℕ → OutputWriter → Type 0
IsAstray g disk next_file writer =
    (it : Written) → g.is_honest disk → WriterHolds (g.state disk) next_file writer it
    → AreUnused (g.state disk) next_file → ⊥

-- ---- why an entry has no place

-- one more output is one table too many, beside so many of the version, or has no number
abbrev pub HasNoPlace : ℕ → ℕ → ℕ → Type 0
HasNoPlace tables next_file closed = (MAX_LINES ≤ tables + closed) ⊎ (MAX_NEXT ≤ next_file)

-- with the entry, these have more data than a table may have
abbrev pub PassesTableLimit : List Entry → Entry → Type 0
PassesTableLimit entries entry = MAX_DATA < data_size (entries ++ entry ∷ [])

-- the entry wants a table more, which has no place, or makes the open one too large
abbrev pub LacksRoom : ℕ → ℕ → Written → Entry → Type 0
LacksRoom tables next_file it entry =
    ((it.opened ≡ []) × HasNoPlace tables next_file (length it.closed))
    ⊎ PassesTableLimit it.opened entry

-- why an entry that is not dropped was not written
abbrev pub WriteRefusal : ℕ → ℕ → Written → Entry → MergeError → Type 0
WriteRefusal tables next_file it entry e =
    IsEnvironmental merge.Disk merge.Memory e ⊎ ((e ≡ merge.Full) ×
    LacksRoom tables next_file it entry)

-- the writer does not drop the next entry, which has no place behind what was written
abbrev pub WantsRoom : ℕ → ℕ → OutputWriter → Written → Entry → Type 0
WantsRoom tables next_file writer it entry =
    (is_dropped writer.floor writer.deeper.items it.before entry ≡ false)
    × LacksRoom tables next_file (cut_before writer.target it entry) entry

-- why the next entry was neither dropped nor written
abbrev pub PutRefusal : ℕ → ℕ → OutputWriter → Written → Entry → MergeError → Type 0
PutRefusal tables next_file writer it entry e =
    IsEnvironmental merge.Disk merge.Memory e ⊎ ((e ≡ merge.Full) ×
    WantsRoom tables next_file writer it entry)
