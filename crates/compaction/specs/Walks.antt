-- A merge under way: the union of its inputs is walked, and what it has shown is written.
use Rattle.std.specs.Prelude.{◌≡◌, ◌⊎◌, ◌≤◌, ◌<◌, ◌+◌, ℕ, List, length, map, All, Contains, Result}
use Rattle.std.specs.Prelude.{IsErrOf, MatchResult}
use Rattle.disk.specs.{IsEnvironmental}
use Rattle.disk.specs.declared.Disk.{Ghosts}
use Rattle.kv_types.specs.{Entry}
use Rattle.merge_iter.specs.declared.Cursor.{Ghosts as CursorGhosts}
use Rattle.merge_iter.specs.declared.Direction.TheVariants.{Forward}
use Rattle.merge_iter.specs.{Broken, EntryPrecedes, IsAlike, IsIntact, Off, On, Position}
use Rattle.table_format.specs.{AreRising, CanFollow}
use Rattle.store_model.specs.{LevelTable, tables_entries}
use Rattle.compaction.specs.declared.error.MergeError.{MergeError}
use Rattle.compaction.specs.declared.error.MergeError.TheVariants as merge
use Rattle.compaction.specs.declared.writer.OutputWriter.{OutputWriter}
use Rattle.compaction.specs.Outputs.{AreUnused, IsOpenFile, IsOwnFile, KeepsRules, UsesNumbers}
use Rattle.compaction.specs.Outputs.{WantsRoom, WriterHolds, WritesOnly}
use Rattle.compaction.specs.Survivors.{IsSortedUnion}
use Rattle.compaction.specs.WrittenTables.{Written, written_of}

-- ---- walks

-- the entries are those of the set that a walk meets before this position
abbrev pub AreMetBefore : (Entry → Type 0) → List Entry → Position → Type 0
AreMetBefore has entries (On here) =
    has here × CanFollow entries here
    × ((other : Entry) → has other → EntryPrecedes Forward other here → Contains entries other)
AreMetBefore has entries Off = (other : Entry) → has other → Contains entries other
AreMetBefore has entries Broken = ⊥

-- a walk over the set has met these entries, and stands at this position
pub record HasWalked (has : Entry → Type 0) (entries : List Entry) (at : Position) : Type 0 where
  pub each : All has entries
  pub before : AreMetBefore has entries at

-- ---- the union of the inputs

-- the files of tables
abbrev pub table_files : List LevelTable → List ℕ
table_files tables = map (λ t. t.file) tables

-- what a writer has written of these entries, by its rules
abbrev pub written_by : OutputWriter → List Entry → Written
written_by writer entries = written_of writer.floor writer.deeper.items writer.target entries

-- the second disk is honest, and has these files as the first has
abbrev pub HasSameFiles : {F : Type 0} → Ghosts F → List ℕ → F → F → Type 0
HasSameFiles d files a b =
    d.is_honest b × ((file : ℕ) → Contains files file → d.state b file ≡ d.state a file)

module _ {U F : Type 0} (u : CursorGhosts U F) (d : Ghosts F) where
  -- what the union does over one source it does over any other with these files as the first has
  abbrev pub ReadsOnly : List ℕ → U → Type 0
  ReadsOnly files union =
      (a b : F) → (d.is_honest a → HasSameFiles d files a b) → u.suits union a b

  -- the union is sound over each source with these files as this one has, and no part is damaged
  abbrev pub IsIntactOn : List ℕ → U → F → Type 0
  IsIntactOn files union source =
      (other : F) → HasSameFiles d files source other → IsIntact u union other

  -- The union holds the entries of the inputs, as the files were meant, and reads these files
  -- alone. The entries before its place were met in order, and what the merge leaves of them is
  -- written. The writer's files are none of the inputs'.
  pub record IsWalking (meant : u.Meant) (files : F) (next_file : ℕ) (union : U)
      (writer : OutputWriter) (inputs : List LevelTable) : Type 0 where
    pub honest : d.is_honest files
    pub sound : u.is_sound meant union files
    pub alike : IsAlike (u.holds meant union files) (tables_entries inputs)
    pub reads : ReadsOnly (table_files inputs) union
    pub apart : (file : ℕ) → Contains (table_files inputs) file →
        IsOwnFile writer next_file file → ⊥
    pub met : List Entry
    pub walked : HasWalked (tables_entries inputs) met (u.position union)
    pub rising : AreRising met
    pub writes : WriterHolds (d.state files) next_file writer (written_by writer met)
    pub unused : AreUnused (d.state files) next_file

  -- no merge is under way with this union and this writer
  abbrev pub IsNoWalk : F → ℕ → U → OutputWriter → Type 0
  IsNoWalk files next_file union writer =
      (meant : u.Meant) (inputs : List LevelTable) →
      IsWalking meant files next_file union writer inputs → ⊥

-- Other calls left the inputs and the writer's tables as they were. They used file numbers, or
-- none.
pub record LeavesWalk {F : Type 0} (d : Ghosts F) (old new : F) (next_file later : ℕ)
    (writer : OutputWriter) (inputs : List LevelTable) : Type 0 where
  pub sources : HasSameFiles d (table_files inputs) old new
  pub closed : All (λ line. d.state new line.file ≡ d.state old line.file) writer.closed.items
  pub current : (file : ℕ) → IsOpenFile writer file → d.state new file ≡ d.state old file
  pub number : next_file ≤ later
  pub unused : AreUnused (d.state new) later

-- ---- refusals

-- Behind the entries of the inputs that were met before, at most so many are met, and one of them,
-- which is not dropped, wants a place that there is not, where this is the next file.
pub record FindsNoRoom (tables next_file before count : ℕ) (writer : OutputWriter)
    (inputs : List LevelTable) : Type 0 where
  pub met : List Entry
  pub entry : Entry
  pub walked : HasWalked (tables_entries inputs) met (On entry)
  pub rising : AreRising met
  pub behind : before ≤ length met
  pub within : length met < before + count
  pub full : WantsRoom tables next_file writer (written_by writer met) entry

-- why a merge did not go on by so many entries, where its inputs are intact or not
abbrev pub StepRefusal : Type 0 → (tables next_file before count : ℕ) → OutputWriter →
    List LevelTable → MergeError → Type 0
StepRefusal intact tables next_file before count writer inputs e =
    IsEnvironmental merge.Disk merge.Memory e ⊎ (((e ≡ merge.Damaged) × (intact → ⊥))
    ⊎ ((e ≡ merge.Full) × FindsNoRoom tables next_file before count writer inputs))

-- A step met so many entries more of these inputs, or all that were left.
pub record MeetsMore (inputs : List LevelTable) (before after : List Entry) (count : ℕ)
    (left : Type 0) : Type 0 where
  pub most : length after ≤ length before + count
  pub all : (length after ≡ length before + count) ⊎ (left → ⊥)
  pub union : (left → ⊥) → IsSortedUnion inputs after

-- ---- the calls

module _ {U F : Type 0} (u : CursorGhosts U F) (d : Ghosts F) where
  -- So many entries of the inputs came to the writer, beside so many tables of the version. Where a
  -- merge was under way, it is so after Ok, and its inputs are as intact as they were.
  pub record AdvancesWalk (tables steps : ℕ) (old : F) (next_old : ℕ) (union_old : U)
      (writer_old : OutputWriter) (new : F) (next_new : ℕ) (union_new : U)
      (writer_new : OutputWriter) (result : Result (Unit {0}) MergeError) : Type 0 where
    -- the calls write to the writer's files alone, as they are before or are begun
    pub writes : WritesOnly d (IsOwnFile writer_old next_old) old new (IsErrOf result merge.Disk)
        (IsNoWalk u d old next_old union_old writer_old)
    pub rules : KeepsRules writer_old writer_new
    pub numbers : UsesNumbers steps writer_old next_old writer_new next_new
    -- Where a merge was under way, no file exists with a number from the next one on, whatever the
    -- answer is.
    pub unused : (meant : u.Meant) (inputs : List LevelTable) →
        IsWalking u d meant old next_old union_old writer_old inputs →
        AreUnused (d.state new) next_new
    pub walks : (meant : u.Meant) (inputs : List LevelTable) →
        (was : IsWalking u d meant old next_old union_old writer_old inputs) →
        MatchResult result
        (λ _. (now : IsWalking u d meant new next_new union_new writer_new inputs)
        × (length now.met ≡ length was.met + steps)
        × (IsIntactOn u d (table_files inputs) union_old old →
        IsIntactOn u d (table_files inputs) union_new new))
        (StepRefusal (IsIntactOn u d (table_files inputs) union_old old) tables next_new
        (length was.met) steps writer_old inputs)
