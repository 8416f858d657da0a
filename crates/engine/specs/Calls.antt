-- What the calls of an engine answer, and what they make of its disk.
use Rattle.std.specs.Prelude.{◌≡◌, ◌⊎◌, ◌↔◌, ℕ, ◌<◌, ◌≤◌, List, [], length, true, false}
use Rattle.std.specs.Prelude.{None, Result, Ok, Err, IsErrOf, IfOk, IsErrAnd, MatchResult, OnOk}
use Rattle.byte_fields.specs.{StoredKey}
use Rattle.kv_types.specs.Snapshots.{is_open}
use Rattle.kv_types.specs.declared.bounds.TheConstants.{MAX_NUMBER}
use Rattle.kv_types.specs.declared.Limits.{Limits}
use Rattle.kv_types.specs.{BatchContent, Entry, all_entries}
use Rattle.disk.specs.declared.Disk.{Ghosts}
use Rattle.disk.specs.{AlwaysLeaves, Contents, IsEnvironmental, IsSame, IsStill, KeepsDisk, State}
use Rattle.disk.specs.{contents}
use Rattle.compaction.specs.{turn_key}
use Rattle.engine.specs.declared.engine.Engine.{Engine}
use Rattle.store_tables.specs.declared.error.EngineError.{EngineError}
use Rattle.store_tables.specs.declared.error.EngineError.TheVariants as engine
use Rattle.engine.specs.Engines.{EngineHolds, EngineReads, EngineWasMeant, HasEnded, HasOnlyFiles}
use Rattle.engine.specs.Snapshots.{IsReadable}
use Rattle.engine.specs.Engines.{LookUps, engine_disk, engine_files, engine_version, facts_of}
use Rattle.engine.specs.Engines.{least_read, look_ups}
use Rattle.engine.specs.Tends.{TendsStore, TendedStore, TendsAsPlanned, TendsInOrder}
use Rattle.engine.specs.Tends.{IsTendRefusal, tended_store}
use Rattle.engine.specs.declared.snapshots.TheConstants.{MAX_SNAPSHOTS}
use Rattle.store_files.specs.declared.tended.Tended.{Tended}
use Rattle.store_tables.specs.Errors.{EndsEngine, IsEnd}
use Rattle.manifest.specs.{IsNotCreated, IsOldStore, ManifestRepresents}
use Rattle.store_files.specs.Files.{Facts, IsOwned, first_facts}
use Rattle.store_files.specs.Settling.{AreReadAlike}
use Rattle.store_files.specs.StoreFiles.{FilesRepresent, HasFirstFiles, IsDamaged, IsOneOf, OpensAs}
use Rattle.store_files.specs.StoreFiles.{WereMeant, WereOneOf}

-- ---- refusals of any disk

-- the call ended the engine, or an earlier one had
abbrev pub IsEndOrAfter : EngineError → Type 0
IsEndOrAfter e = IsEnd e ⊎ (e ≡ engine.Failed)

-- why a batch is not appended to this many: the engine has ended, or no number is left
abbrev pub IsAppendRefusal : ℕ → EngineError → Type 0
IsAppendRefusal count e = IsEndOrAfter e ⊎ ((e ≡ engine.Exhausted) × (MAX_NUMBER ≤ count))

-- ---- which reads are refused

-- The answer to a read at this number. Only where the number can be read it answers, or is refused
-- for the device, for damage or for memory.
abbrev pub IsReadableAnswer : {T : Type 0} → LookUps → ℕ → Result T EngineError → Type 0
IsReadableAnswer told at (Ok x) = IsReadable told.facts.floor told.committed at
IsReadableAnswer told at (Err engine.TooOld) = at < told.facts.floor
IsReadableAnswer told at (Err engine.NotCommitted) = told.committed < at
IsReadableAnswer told at (Err engine.Disk) = IsReadable told.facts.floor told.committed at
IsReadableAnswer told at (Err engine.Damaged) = IsReadable told.facts.floor told.committed at
IsReadableAnswer told at (Err engine.Memory) = IsReadable told.facts.floor told.committed at
IsReadableAnswer told at (Err engine.Failed) = Unit {0}
IsReadableAnswer told at (Err engine.NotCreated) = ⊥
IsReadableAnswer told at (Err engine.NoSuchSnapshot) = ⊥
IsReadableAnswer told at (Err engine.TooManySnapshots) = ⊥
IsReadableAnswer told at (Err engine.Exhausted) = ⊥
IsReadableAnswer told at (Err engine.OldFormat) = ⊥

-- ---- which reads need no disk

-- Memory has an entry of the key that is seen at the number: a batch of the list edits the key, up
-- to the number, and is none of the first `flushed` ones, whose entries are in tables.
pub record MemoryHas (list : List BatchContent) (flushed at : ℕ) (key : StoredKey) : Type 0 where
  pub entry : Entry
  pub is_key : entry.key ≡ key
  pub edited : all_entries list entry
  pub seen : entry.number ≤ at
  pub in_memory : flushed < entry.number

-- ---- which snapshots are refused

-- a snapshot at this number may be opened: it can be read, and fewer than may be are open
abbrev pub MayOpen : LookUps → ℕ → Type 0
MayOpen told at =
    IsReadable told.facts.floor told.committed at × (length told.snapshots < MAX_SNAPSHOTS)

-- The answer to an opening of a snapshot at this number. `TooManySnapshots` is answered only where
-- the number can be read, and `Memory` only where nothing else is in the way.
abbrev pub IsOpenAnswer : {T : Type 0} → LookUps → ℕ → Result T EngineError → Type 0
IsOpenAnswer told at (Ok x) = MayOpen told at
IsOpenAnswer told at (Err engine.TooOld) = at < told.facts.floor
IsOpenAnswer told at (Err engine.NotCommitted) = told.committed < at
IsOpenAnswer told at (Err engine.TooManySnapshots) =
    IsReadable told.facts.floor told.committed at × (length told.snapshots ≡ MAX_SNAPSHOTS)
IsOpenAnswer told at (Err engine.Memory) = MayOpen told at
IsOpenAnswer told at (Err engine.Failed) = Unit {0}
IsOpenAnswer told at (Err engine.Disk) = ⊥
IsOpenAnswer told at (Err engine.Damaged) = ⊥
IsOpenAnswer told at (Err engine.NotCreated) = ⊥
IsOpenAnswer told at (Err engine.NoSuchSnapshot) = ⊥
IsOpenAnswer told at (Err engine.Exhausted) = ⊥
IsOpenAnswer told at (Err engine.OldFormat) = ⊥

-- the answer to a closing of a snapshot at this number, which takes no memory
abbrev pub IsCloseAnswer : {T : Type 0} → LookUps → ℕ → Result T EngineError → Type 0
IsCloseAnswer told number (Ok x) = is_open number told.snapshots ≡ true
IsCloseAnswer told number (Err e) =
    ((e ≡ engine.NoSuchSnapshot) × (is_open number told.snapshots ≡ false)) ⊎ (e ≡ engine.Failed)

-- files that represent a list are not damaged
abbrev pub IsNoDamage : {T : Type 0} → Result T EngineError → Type 0
IsNoDamage result = IsErrOf result engine.Damaged → ⊥

-- ---- what a call keeps

-- what a tend of an engine works on
abbrev pub tended_of : {D : Type 0} {g : Ghosts D} → Engine D g → TendedStore D
tended_of engine = tended_store engine.store engine.merge engine.turn

-- the merge that is under way stays, and so do the keys last taken from each level
pub record MergeStays {D : Type 0} {g : Ghosts D} (old new : Engine D g) : Type 0 where
  pub merge : new.merge ≡ old.merge
  pub turn : new.turn ≡ old.turn

-- no merge is under way, and no key was taken from any level
pub record HasNoMerge {D : Type 0} {g : Ghosts D} (engine : Engine D g) : Type 0 where
  pub none : engine.merge ≡ None
  pub turns : (level : ℕ) → turn_key engine.turn level ≡ None

-- An engine that has ended answers `Failed`, and no other does. External refusals and `Damaged` end
-- it, and no others do; those others change nothing.
pub record KeepsEngine {D T : Type 0} (g : Ghosts D) (old new : Engine D g)
    (result : Result T EngineError) (cause : Type 0) (IsKept : State → State
    → Type 0) : Type 0 where
  pub disk : KeepsDisk g (engine_disk old) (engine_disk new)
      (IsErrOf result engine.Disk) cause IsKept
  pub closed : IsErrOf result engine.Failed ↔ HasEnded old
  pub ends : HasEnded new ↔ (HasEnded old ⊎ EndsEngine result)
  pub refusal : IsErrAnd result (λ e. IsEnd e → ⊥) → new ≡ old

-- the disk represents this list after the call, where it represented that one before, and was meant
-- to, where it was meant to represent that one
pub record ListFollows {D T : Type 0} (g : Ghosts D) (old new : Engine D g)
    (list more : List BatchContent) (result : Result T EngineError) : Type 0 where
  pub reads : EngineReads g old list → OnOk result (EngineReads g new more)
  pub holds : EngineHolds g old list → OnOk result (EngineHolds g new more)
  pub meant : EngineWasMeant g old list → OnOk result (EngineWasMeant g new more)

-- a crash at any moment since the call began leaves files of one of two stores
abbrev pub IsOldOrNewSince : {D : Type 0} → Ghosts D → D → D → Facts → List BatchContent → Facts →
    List BatchContent → Type 0
IsOldOrNewSince g old new facts list facts' list' =
    AlwaysLeaves g old new (IsOneOf facts list facts' list')

-- what a read of an engine promises
pub record ReadsEngine {D T : Type 0} (g : Ghosts D) (old new : Engine D g)
    (result : Result T EngineError) : Type 0 where
  -- no file changes, and a device that works never fails
  pub keeps : KeepsEngine g old new result ⊥ IsSame
  -- what the engine tells stays, and what a tend works on
  pub told : look_ups new ≡ look_ups old
  pub work : tended_of new ≡ tended_of old
  -- and so does its list
  pub kept : (list : List BatchContent) → ListFollows g old new list list result
  -- a crash at any moment leaves what it might have left before
  pub still : IsStill g (engine_disk old) (engine_disk new)

-- what a call promises that changes the open snapshots of an engine
pub record ChangesSnapshots {D : Type 0} (g : Ghosts D) (old new : Engine D g)
    (after : LookUps → LookUps) (result : Result (Unit {0}) EngineError) : Type 0 where
  -- no file changes, and the device never fails
  pub keeps : KeepsEngine g old new result ⊥ IsSame
  -- what the engine tells changes so, or stays where the call is refused
  pub told : MatchResult result (λ _. look_ups new ≡ after (look_ups old))
      (λ _. look_ups new ≡ look_ups old)
  -- what a tend works on stays
  pub work : tended_of new ≡ tended_of old
  -- its list stays
  pub kept : (list : List BatchContent) → ListFollows g old new list list result
  -- and its disk is the same
  pub disk : engine_disk new ≡ engine_disk old

-- what a call promises that writes to the disk of an engine, whose list it makes this one
pub record ChangesList {D T : Type 0} (g : Ghosts D) (old new : Engine D g)
    (result : Result T EngineError) (cause : Type 0) (IsKept : State → State → Type 0)
    (facts : Facts) (after : List BatchContent → List BatchContent) : Type 0 where
  -- a device that works fails only for this cause, and its files change only so
  pub keeps : KeepsEngine g old new result cause IsKept
  -- behind an answer the engine has the new list, where it had the old one
  pub list : (list : List BatchContent) → ListFollows g old new list (after list) result
  -- a crash at any moment, whatever the call answers, leaves files of the old list, or of the new
  -- one and these facts
  pub any_moment : (list : List BatchContent) → EngineHolds g old list → IsOldOrNewSince g
      (engine_disk old) (engine_disk new) (facts_of old) list facts (after list)
  -- where they were meant to be of the old list, it leaves files that were meant to be of either
  pub meant : (list : List BatchContent) → EngineWasMeant g old list → AlwaysLeaves g
      (engine_disk old) (engine_disk new) (WereOneOf (facts_of old) list facts (after list))

-- an engine has ended if it had, a tend works on the same, and it reads and holds each list that it
-- did, or was meant to
pub record StaysAsItWas {D : Type 0} (g : Ghosts D) (old new : Engine D g) : Type 0 where
  pub ended : HasEnded new ↔ HasEnded old
  pub work : tended_of new ≡ tended_of old
  pub reads : (list : List BatchContent) → EngineReads g old list → EngineReads g new list
  pub holds : (list : List BatchContent) → EngineHolds g old list → EngineHolds g new list
  pub meant : (list : List BatchContent) → EngineWasMeant g old list → EngineWasMeant g new list

-- this is said of each list that the engine reads, and of each that it was meant to
pub record OfEachList {D : Type 0} (g : Ghosts D) (engine : Engine D g)
    (IsSaid : List BatchContent → Type 0) : Type 0 where
  pub reads : (list : List BatchContent) → EngineReads g engine list → IsSaid list
  pub meant : (list : List BatchContent) → EngineWasMeant g engine list → IsSaid list

-- ---- a tend

-- the disk reads as no files of the engine
abbrev pub IsAdrift : {D : Type 0} (g : Ghosts D) → Engine D g → Type 0
IsAdrift g engine = (list : List BatchContent) → EngineReads g engine list → ⊥

-- what a tend of any disk did
abbrev pub IsTendOf : {D : Type 0} {g : Ghosts D} → Engine D g → Engine D g → Tended → Type 0
IsTendOf old new = TendsStore (look_ups old).limits (least_read old) (tended_of old) (tended_of new)

-- it did the first that was due
abbrev pub IsTendAnswer : {D : Type 0} {g : Ghosts D} → Engine D g → Engine D g → Tended → Type 0
IsTendAnswer old new =
    TendsInOrder (look_ups old).limits (least_read old) (tended_of old) (tended_of new)

-- A tend does what is due: of files that hold a list, or else it is refused for the environment;
-- and of files that were meant to, or else it may be refused for damage of an input of the merge
-- too, where no rewrite and no flush is due. Of both a merge goes as it was planned.
pub record TendsAsDue {D : Type 0} (g : Ghosts D) (old new : Engine D g)
    (result : Result Tended EngineError) : Type 0 where
  pub reads : (list : List BatchContent) → EngineReads g old list →
      MatchResult result (IsTendAnswer old new) (IsEnvironmental engine.Disk engine.Memory)
  pub meant : (list : List BatchContent) → EngineWasMeant g old list →
      MatchResult result (IsTendAnswer old new)
      (IsTendRefusal (look_ups old).limits (g.state (engine_disk old)) (tended_of old))
  pub planned : OfEachList g old (λ list. IfOk result (TendsAsPlanned g (look_ups old).limits
      (least_read old) old.files new.files (tended_of old) (tended_of new)))

-- two engines tell the same of their tends
abbrev pub TendsAlike : {D : Type 0} {g : Ghosts D} → Engine D g → Engine D g → Type 0
TendsAlike {D} {g} old new = (other : Engine D g) (answer : Tended) →
    (IsTendAnswer new other answer → IsTendAnswer old other answer)
    × (IsTendAnswer other old answer → IsTendAnswer other new answer)

-- ---- the calls that are given a disk

-- the disk that such a call has handed on, or back
abbrev pub disk_after : {D : Type 0} {g : Ghosts D} → Result (Engine D g) (EngineError × D) → D
disk_after (Ok engine) = engine_disk engine
disk_after (Err refused) = refused.1

-- The disk that such a call has handed on, or back, is the device that it was; any of its files may
-- have changed.
abbrev pub KeepsOwnedDisk : {D : Type 0} (g : Ghosts D) → D →
    Result (Engine D g) (EngineError × D) → Type 0
KeepsOwnedDisk g disk result =
    KeepsDisk g disk (disk_after result) (IsErrAnd result (λ refused. refused.0 ≡ engine.Disk)) ⊥
    IsOwned

-- a store without batches and without a merge, of node x in the first configuration, with these
-- limits; its disk has the files of a new store, and no other
pub record IsNewEngine {D : Type 0} {g : Ghosts D} (x : ℕ) (ids : List ℕ) (limits : Limits)
    (engine : Engine D g) : Type 0 where
  pub works : HasEnded engine → ⊥
  pub told : look_ups engine ≡ record {
    facts = first_facts x ids;
    count = 0;
    committed = 0;
    limits = limits;
    snapshots = [];
  }
  pub files : g.is_honest (engine_disk engine) → HasFirstFiles (g.state (engine_disk engine)) x ids
  pub rests : HasNoMerge engine

-- an opened engine has these limits, no open snapshot and no merge, and knows only the batches
-- up to the floor to be committed; its disk has no file that its version does not name
pub record IsJustOpened {D : Type 0} {g : Ghosts D} (given : Limits) (engine : Engine D g) : Type 0
  where
    pub works : HasEnded engine → ⊥
    pub committed : (look_ups engine).committed ≡ (look_ups engine).facts.floor
    pub limits : (look_ups engine).limits ≡ given
    pub snapshots : (look_ups engine).snapshots ≡ []
    pub swept : HasOnlyFiles g engine (engine_files engine)
    pub rests : HasNoMerge engine

-- the engine tells these facts, and its disk represents them and the list
pub record IsEngineOf {D : Type 0} (g : Ghosts D) (told : Facts) (list : List BatchContent)
    (engine : Engine D g) : Type 0 where
  pub facts : facts_of engine ≡ told
  pub holds : EngineHolds g engine list

-- the engine tells these facts, and its disk was meant to represent them and the list
pub record IsMeantEngineOf {D : Type 0} (g : Ghosts D) (told : Facts) (list : List BatchContent)
    (engine : Engine D g) : Type 0 where
  pub facts : facts_of engine ≡ told
  pub meant : EngineWasMeant g engine list

-- Of files that represent these facts and the list, an opening has an engine of both, or an
-- external refusal. Of files that were meant to, an engine that is opened was meant to read both.
pub record OpensEngineFor {D : Type 0} (g : Ghosts D) (facts : Facts) (list : List BatchContent)
    (left : Contents) (result : Result (Engine D g) (EngineError × D)) : Type 0 where
  pub whole : FilesRepresent facts list left →
      MatchResult result (IsEngineOf g facts list)
      (λ refused. IsEnvironmental engine.Disk engine.Memory refused.0)
  pub meant : WereMeant facts list left → IfOk result (IsMeantEngineOf g facts list)

-- the files open as what the engine tells
abbrev pub IsOpened : {D : Type 0} {g : Ghosts D} → Contents → Engine D g → Type 0
IsOpened left engine = OpensAs left (facts_of engine) (look_ups engine).count

-- the slots represented the version that the engine knows, and its files read as before
pub record HasOpened {D : Type 0} (g : Ghosts D) (old : State) (engine : Engine D g) : Type 0 where
  pub version : ManifestRepresents (engine_version engine) (contents old)
  pub alike : AreReadAlike (engine_files engine) old (g.state (engine_disk engine))

-- why a store was not opened, by its files
abbrev pub ExplainsRefusal : EngineError → Contents → Type 0
ExplainsRefusal engine.Disk left = Unit {0}
ExplainsRefusal engine.Damaged left = IsDamaged left
ExplainsRefusal engine.Memory left = Unit {0}
ExplainsRefusal engine.NotCreated left = IsNotCreated left
ExplainsRefusal engine.Failed left = ⊥
ExplainsRefusal engine.TooOld left = ⊥
ExplainsRefusal engine.NotCommitted left = ⊥
ExplainsRefusal engine.NoSuchSnapshot left = ⊥
ExplainsRefusal engine.TooManySnapshots left = ⊥
ExplainsRefusal engine.Exhausted left = ⊥
ExplainsRefusal engine.OldFormat left = IsOldStore left
