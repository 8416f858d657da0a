-- What is written of a store: its numbers, all rows of the map at its count, and how many they are.
use Rattle.std.specs.Prelude.{◌≡◌, ◌≢◌, ◌⊎◌, ◌<◌, ℕ, List, [], ◌∷◌, ◌++◌, Option, length, codes}
use Rattle.std.specs.Prelude.{slice_index, take}
use Rattle.std.specs.Prelude.{Result, Ok, Err, IfErr, IsErrAnd}
use Rattle.std.specs.List.{flat_map}
use Rattle.std.specs.Fmt.{decimal}
use Rattle.std.specs.Io.KnownBytes.{Appends}
use Rattle.kv_types.specs.{Row}
use Rattle.kv_types.specs.{BatchContent, map_of}
use Rattle.disk.specs.{Contents, IsSame, IsStill, KeepsDisk, State, contents}
use Rattle.disk.specs.declared.Disk.{Ghosts}
use Rattle.engine.specs.declared.Engine.{Engine}
use Rattle.manifest.specs.{ManifestRepresents, NodeVersion}
use Rattle.engine.specs.{AreAlone, AreReadAlike, AreShut, EngineReads, EngineWasMeant, Facts}
use Rattle.engine.specs.{FilesRepresent, IsDamaged, IsNotCreated, IsOldStore, IsOwned, SparesNamed}
use Rattle.engine.specs.{WereMeant}
use Rattle.engine.specs.{kept_files, table_count}
use Rattle.node.specs.declared.stop.Stop.TheVariants as stop
use Rattle.store_texts.specs.Writing.{AppendsPart}
use Rattle.store_texts.specs.Texts.{printed_row, store_text}
use Rattle.dumps.specs.declared.dump_error.DumpError.{DumpError}
use Rattle.dumps.specs.declared.dump_error.DumpError.TheVariants.{Store, Write}
use Rattle.dumps.specs.Walks.{AreFirstRows, AreRowsOf}

-- the line of a row
abbrev pub row_line : Row → List ℕ
row_line row = printed_row row ++ 10 ∷ []

-- the line of the numbers of a store with these facts, so many batches and tables
abbrev pub store_line : Facts → ℕ → List ℕ → List ℕ
store_line facts count tables =
    store_text facts.id facts.epoch count facts.floor facts.kept tables ++ 10 ∷ []

-- the line behind the rows: so many of them, at this number
abbrev pub count_line : ℕ → ℕ → List ℕ
count_line count at =
    codes "rows " ++ (decimal count ++ (codes " at " ++ (decimal at ++ 10 ∷ [])))

-- the text of a store with these facts, so many batches and tables, and these rows
abbrev pub dump_text : Facts → ℕ → List ℕ → List Row → List ℕ
dump_text facts count tables rows = store_line facts count tables
    ++ (flat_map row_line rows ++ count_line (length rows) count)

-- these are the numbers of tables of each level of an engine
pub record AreTableCounts {D : Type 0} {g : Ghosts D} (engine : Engine D g) (tables : List ℕ)
    : Type 0 where
  pub levels : length tables ≡ 7
  pub each : (level : ℕ) → level < 7 → slice_index tables level ≡ table_count engine level

-- ---- which lists an engine shows

-- the engine reads this list, or was meant to: each answer of it is one of the list
abbrev pub ShowsList : {D : Type 0} (g : Ghosts D) → Engine D g → List BatchContent → Type 0
ShowsList g engine list = EngineReads g engine list ⊎ EngineWasMeant g engine list

-- what it read of a list, or was meant to, it still does
pub record StillShows {D : Type 0} (g : Ghosts D) (old new : Engine D g) (list : List BatchContent)
    : Type 0 where
  pub reads : EngineReads g old list → EngineReads g new list
  pub meant : EngineWasMeant g old list → EngineWasMeant g new list

-- ---- rows

-- Rows were read and written, so many of them. They are the first ones of the map of each list that
-- is shown, up to this number.
pub record AreWritten (IsShown : List BatchContent → Type 0) (at : ℕ) (from : List ℕ)
    (known count : ℕ) (old new : Option (List ℕ)) : Type 0 where
  pub rows : List Row
  pub counted : count ≡ length rows
  pub wrote : Appends old new (flat_map row_line rows)
  pub first : (list : List BatchContent) → IsShown list →
      AreFirstRows (map_of (take at list)) from known rows

-- rows were written, so many of them: all of the map of each list that is shown
pub record AreAllWritten (IsShown : List BatchContent → Type 0) (at count : ℕ)
    (old new : Option (List ℕ)) : Type 0 where
  pub rows : List Row
  pub counted : count ≡ length rows
  pub wrote : Appends old new (flat_map row_line rows)
  pub all : (list : List BatchContent) → IsShown list → AreRowsOf (map_of (take at list)) rows

-- A beginning of the text of rows was written before a refusal for this, the first ones of each
-- list that is shown. It is all of that text, unless the output took no more.
pub record AreBegun (IsShown : List BatchContent → Type 0) (at : ℕ) (old new : Option (List ℕ))
    (error : DumpError) : Type 0 where
  pub rows : List Row
  pub part : AppendsPart old new (flat_map row_line rows)
  pub whole : error ≢ Write → Appends old new (flat_map row_line rows)
  pub first : (list : List BatchContent) → IsShown list →
      (left : List Row) × AreRowsOf (map_of (take at list)) (rows ++ left)

-- ---- the text of a store

-- nothing of the text of a store was written, or its first line and those of so many first rows
abbrev pub EndsAtLine : Facts → ℕ → List ℕ → List Row → (old new : Option (List ℕ)) → Type 0
EndsAtLine facts count tables rows old new =
    (new ≡ old)
    ⊎ ((first : ℕ)
    × Appends old new (store_line facts count tables ++ flat_map row_line (take first rows)))

-- A beginning of the text of a store was written before it was refused for this. It ends at the end
-- of a line, unless the output took no more.
pub record IsCutText (facts : Facts) (count : ℕ) (tables : List ℕ) (rows : List Row)
    (old new : Option (List ℕ)) (error : DumpError) : Type 0 where
  pub part : AppendsPart old new (dump_text facts count tables rows)
  pub whole : error ≢ Write → EndsAtLine facts count tables rows old new

-- the text of a store: of facts, and of the map of a list of batches, with the numbers of tables of
-- seven levels
pub record IsDumpText (facts : Facts) (list : List BatchContent) (text : List ℕ) : Type 0 where
  pub tables : List ℕ
  pub levels : length tables ≡ 7
  pub rows : List Row
  pub is_all : AreRowsOf (map_of list) rows
  pub is : text ≡ dump_text facts (length list) tables rows

-- exactly the text of a store was written: of facts, and of the map of a list of batches
pub record IsDumpOf (facts : Facts) (list : List BatchContent) (old new : Option (List ℕ))
    : Type 0 where
  pub text : List ℕ
  pub is : IsDumpText facts list text
  pub wrote : Appends old new text

-- A beginning of it was written before a refusal for this. It ends at the end of a line, unless the
-- output took no more.
pub record IsBegunDump (facts : Facts) (list : List BatchContent) (old new : Option (List ℕ))
    (error : DumpError) : Type 0 where
  pub text : List ℕ
  pub is : IsDumpText facts list text
  pub part : AppendsPart old new text
  pub whole : error ≢ Write → EndsAtLine facts (length list) is.tables is.rows old new

-- where the disk is honest, exactly the text was written of each store that its files represent, or
-- were meant to
pub record WritesStoreOf {D : Type 0} (g : Ghosts D) (disk : D) (old new : Option (List ℕ))
    : Type 0 where
  pub read : (facts : Facts) (list : List BatchContent) → g.is_honest disk →
      FilesRepresent facts list (contents (g.state disk)) → IsDumpOf facts list old new
  pub meant : (facts : Facts) (list : List BatchContent) → g.is_honest disk →
      WereMeant facts list (contents (g.state disk)) → IsDumpOf facts list old new

-- where the disk is honest, a beginning of the text was written of each store that its files were
-- meant to represent, before it was refused for this
abbrev pub BeginsStoreOf : {D : Type 0} → Ghosts D → D → (old new : Option (List ℕ)) → DumpError →
    Type 0
BeginsStoreOf g disk old new error = (facts : Facts) (list : List BatchContent) →
    g.is_honest disk → WereMeant facts list (contents (g.state disk)) →
    IsBegunDump facts list old new error

-- Exactly the text of these facts, so many batches, tables that are so many, and some rows was
-- written: all rows of each list that is shown.
pub record IsDumpFor (IsShown : List BatchContent → Type 0) (AreCounts : List ℕ → Type 0)
    (facts : Facts) (count : ℕ) (old new : Option (List ℕ)) : Type 0 where
  pub tables : List ℕ
  pub counts : AreCounts tables
  pub rows : List Row
  pub wrote : Appends old new (dump_text facts count tables rows)
  pub all : (list : List BatchContent) → IsShown list → AreRowsOf (map_of (take count list)) rows

-- A beginning of such a text was written before a refusal for this, and one of the text of each
-- list that is shown.
pub record IsBegunFor (IsShown : List BatchContent → Type 0) (AreCounts : List ℕ → Type 0)
    (facts : Facts) (count : ℕ) (old new : Option (List ℕ)) (error : DumpError) : Type 0 where
  pub tables : List ℕ
  pub counts : AreCounts tables
  pub rows : List Row
  pub cut : IsCutText facts count tables rows old new error
  pub of : (list : List BatchContent) → IsShown list → (all : List Row)
      × AreRowsOf (map_of (take count list)) all
      × IsCutText facts count tables all old new error

-- exactly the text of some store was written
pub record IsSomeDump (old new : Option (List ℕ)) : Type 0 where
  pub facts : Facts
  pub count : ℕ
  pub tables : List ℕ
  pub levels : length tables ≡ 7
  pub rows : List Row
  pub wrote : Appends old new (dump_text facts count tables rows)

-- no store was created, or one of the old format
abbrev pub IsOfUnopened : DumpError → Type 0
IsOfUnopened error = (error ≡ Store stop.NotCreated) ⊎ (error ≡ Store stop.OldFormat)

-- A beginning of the text of some store was written before a refusal for this: nothing, where that
-- is that no store was created, or one of the old format.
pub record IsSomeBegun (old new : Option (List ℕ)) (error : DumpError) : Type 0 where
  pub facts : Facts
  pub count : ℕ
  pub tables : List ℕ
  pub levels : length tables ≡ 7
  pub rows : List Row
  pub cut : IsCutText facts count tables rows old new error
  pub none : IsOfUnopened error → new ≡ old

-- ---- refusals

-- refused for want of memory, or since the output takes no more
abbrev pub IsOfOutput : DumpError → Type 0
IsOfOutput error = (error ≡ Store stop.Memory) ⊎ (error ≡ Write)

-- refused for one of these, or for the device
abbrev pub IsDumpRefusal : DumpError → Type 0
IsDumpRefusal error = (error ≡ Store stop.Disk) ⊎ IsOfOutput error

-- refused for anything but that no store was created, or one of the old format
abbrev pub IsOfOpened : DumpError → Type 0
IsOfOpened error = (error ≡ Store stop.NotCreated → ⊥) × (error ≡ Store stop.OldFormat → ⊥)

-- a text was refused: nothing of it was written, where memory was short; or a beginning of it,
-- where the output took no more
abbrev pub RefusesText : List ℕ → (old new : Option (List ℕ)) → DumpError → Type 0
RefusesText text old new error =
    ((error ≡ Store stop.Memory) × (new ≡ old)) ⊎ ((error ≡ Write) × AppendsPart old new text)

-- a text was written, or refused
abbrev pub WritesText : {T : Type 0} → List ℕ → (old new : Option (List ℕ)) → Result T DumpError
    → Type 0
WritesText text old new (Ok x) = Appends old new text
WritesText text old new (Err error) = RefusesText text old new error

-- a store was refused for the device, for want of memory or since the output took no more, and a
-- beginning of its text was written
abbrev pub IsCutDump : Facts → List BatchContent → (old new : Option (List ℕ)) → DumpError → Type 0
IsCutDump facts list old new error = IsDumpRefusal error × IsBegunDump facts list old new error

-- why no store was opened, by the content of the disk
abbrev pub UnopenedRefusal : Contents → DumpError → Type 0
UnopenedRefusal left (Store stop.Disk) = Unit {0}
UnopenedRefusal left (Store stop.Damaged) = IsDamaged left
UnopenedRefusal left (Store stop.Memory) = Unit {0}
UnopenedRefusal left (Store stop.NotCreated) = IsNotCreated left
UnopenedRefusal left (Store stop.OldFormat) = IsOldStore left
UnopenedRefusal left Write = ⊥

-- No store was opened, the content of the disk explains it, and nothing was written. A disk whose
-- files open as none, or that is refused for them, is returned as it was.
pub record IsNotOpened {D : Type 0} (g : Ghosts D) (disk : D) (old new : Option (List ℕ))
    (result : Result D (DumpError × D)) : Type 0 where
  pub refused : IsErrAnd result (λ it. UnopenedRefusal (contents (g.state disk)) it.0)
  pub none : new ≡ old
  pub still : IfErr result (λ it. AreShut (contents (g.state disk)) ⊎ (IsDumpRefusal it.0 → ⊥) →
      IsStill g disk it.1)

-- ---- the disk

-- A disk was only read: a failure is counted exactly where this is so, its files stay as they were,
-- and a crash at any moment leaves what it might have left before.
pub record DiskIsOnlyRead {D : Type 0} (g : Ghosts D) (old new : D) (has_failed : Type 0)
    : Type 0 where
  pub kept : KeepsDisk g old new has_failed ⊥ IsSame
  pub still : IsStill g old new

-- the disk behind an answer, or beside a refusal
abbrev pub disk_of_dump : {D : Type 0} → Result D (DumpError × D) → D
disk_of_dump (Ok disk) = disk
disk_of_dump (Err refused) = refused.1

-- the disk that is returned is the device that it was: a failure is counted exactly where the
-- answer names the device
abbrev pub LeavesDevice : {D : Type 0} → Ghosts D → D → Result D (DumpError × D) → Type 0
LeavesDevice g disk result = KeepsDisk g disk (disk_of_dump result)
    (IsErrAnd result (λ refused. refused.0 ≡ Store stop.Disk)) ⊥ IsOwned

-- The files are those of the store that was opened: the slots represented a version, the files that
-- it names read as before, and there is no other.
pub record AreOpenedFiles (old new : State) : Type 0 where
  pub version : NodeVersion
  pub was : ManifestRepresents version (contents old)
  pub alike : AreReadAlike (kept_files version.version) old new
  pub alone : AreAlone (kept_files version.version) new

-- the disk that is returned has these files, and a store was created; or no store was opened
abbrev pub HasOpenedFiles : {D : Type 0} → Ghosts D → D → (old new : Option (List ℕ)) →
    Result D (DumpError × D) → Type 0
HasOpenedFiles g disk old new (Ok left) = AreOpenedFiles (g.state disk) (g.state left)
HasOpenedFiles g disk old new (Err refused) =
    (AreOpenedFiles (g.state disk) (g.state refused.1) × IsOfOpened refused.0)
    ⊎ IsNotOpened g disk old new (Err refused)

-- A crash at any moment of the dump leaves of the files that the version of the slots names what it
-- might have left before. An honest disk is returned with the files of the store that was opened.
pub record ReturnsFiles {D : Type 0} (g : Ghosts D) (disk : D) (old new : Option (List ℕ))
    (result : Result D (DumpError × D)) : Type 0 where
  pub named : SparesNamed g disk (disk_of_dump result)
  pub files : g.is_honest disk → HasOpenedFiles g disk old new result
