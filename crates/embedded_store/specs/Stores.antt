-- A store that stands alone: the list of its batches, and what its calls make of it.
use Rattle.std.specs.Prelude.{◌≡◌, ◌⊎◌, ℕ, ◌+◌, ◌<◌, List, [], ◌∷◌, ◌++◌, length, take, false}
use Rattle.std.specs.Prelude.{Option, Some, None, Result, Ok, Err, IsErrOf, OnOk}
use Rattle.kv_types.specs.{BatchContent, Span, stored_span}
use Rattle.kv_types.specs.declared.Limits.{Limits}
use Rattle.disk.specs.{AlwaysLeaves, IsEnvironmental, IsSameBut}
use Rattle.disk.specs.declared.Disk.{Ghosts}
use Rattle.kv_types.specs.Snapshots.{is_open}
use Rattle.engine.specs.EngineError.{EngineError}
use Rattle.engine.specs.EngineError.TheVariants as engine
use Rattle.engine.specs.declared.Engine.{Engine}
use Rattle.engine.specs.declared.snapshots.TheConstants.{MAX_SNAPSHOTS}
use Rattle.engine.specs.{EngineHolds, EngineWasMeant, HasNearlyFullLog, IsOldOrNewSince}
use Rattle.engine.specs.{HasEnded, KeepsEngine, LookUps, MergeStays, OneIsDamagedIn, WereOneOf}
use Rattle.engine.specs.{engine_disk, engine_version, facts_of, look_ups, newest_log_file}
use Rattle.embedded_store.specs.declared.store.EmbeddedStore.{EmbeddedStore}

module _ {D : Type 0} {g : Ghosts D} where
  -- the engine of a store
  abbrev pub store_engine : EmbeddedStore D g → Engine D g
  store_engine store = store.engine

  -- the disk that it owns
  abbrev pub store_disk : EmbeddedStore D g → D
  store_disk store = engine_disk store.engine

-- ---- the batches

-- the store works, and holds this list of batches, as its disk reads and as a crash leaves it
abbrev pub HoldsBatches : {D : Type 0} (g : Ghosts D) → EmbeddedStore D g → List BatchContent →
    Type 0
HoldsBatches g store list = EngineHolds g (store_engine store) list

-- the store works, and its files were meant to have this list of batches, also as a crash leaves
-- them: they would, had no table a damaged block
abbrev pub StoreWasMeant : {D : Type 0} (g : Ghosts D) → EmbeddedStore D g → List BatchContent →
    Type 0
StoreWasMeant g store list = EngineWasMeant g (store_engine store) list

-- the store holds this list, or was meant to: each answer of it is one of the list
abbrev pub ShowsBatches : {D : Type 0} (g : Ghosts D) → EmbeddedStore D g → List BatchContent →
    Type 0
ShowsBatches g store list = HoldsBatches g store list ⊎ StoreWasMeant g store list

-- the first batches, so many of them; or all, where no number is given
abbrev pub first_batches : Option ℕ → List BatchContent → List BatchContent
first_batches None list = list
first_batches (Some at) list = take at list

-- ---- a write

-- one batch more, which is committed
abbrev pub with_one_written : LookUps → LookUps
with_one_written told = record told { count = told.count + 1; committed = told.count + 1 }

-- What a call promises that writes a batch or none: which list the store holds behind an answer,
-- and the longest that a crash leaves.
pub record WritesAtMost {D T : Type 0} (g : Ghosts D) (old new : EmbeddedStore D g)
    (result : Result T EngineError) (behind longest : List BatchContent → List BatchContent)
    : Type 0 where
  -- no file but the newest log changes, and a device that works fails only where that is full
  pub keeps : KeepsEngine g (store_engine old) (store_engine new) result
      (HasNearlyFullLog (store_engine old)) (IsSameBut (newest_log_file (store_engine old)))
  -- the merge that is under way stays
  pub merging : MergeStays (store_engine old) (store_engine new)
  -- behind an answer the store holds that list
  pub list : (list : List BatchContent) → HoldsBatches g old list →
      OnOk result (HoldsBatches g new (behind list))
  -- a crash at any moment, whatever the call answers, leaves the list as it was or the longest
  pub any_moment : (list : List BatchContent) → HoldsBatches g old list → IsOldOrNewSince g
      (store_disk old) (store_disk new) (facts_of (store_engine old)) list
      (facts_of (store_engine old)) (longest list)
  -- where blocks of tables are damaged, both are so of the list that was meant
  pub meant : (list : List BatchContent) → StoreWasMeant g old list →
      OnOk result (StoreWasMeant g new (behind list))
  pub meant_at_any_moment : (list : List BatchContent) → StoreWasMeant g old list → AlwaysLeaves g
      (store_disk old) (store_disk new) (WereOneOf (facts_of (store_engine old)) list
      (facts_of (store_engine old)) (longest list))

-- the list with this batch behind it
abbrev pub with_batch : BatchContent → List BatchContent → List BatchContent
with_batch batch list = list ++ batch ∷ []

-- what a write of this batch promises
abbrev pub WritesBatch : {D T : Type 0} (g : Ghosts D) → EmbeddedStore D g → EmbeddedStore D g →
    BatchContent → Result T EngineError → Type 0
WritesBatch g old new batch result =
    WritesAtMost g old new result (with_batch batch) (with_batch batch)

-- ---- reads

-- the number that is read, where this one is asked for: the newest, where none is
abbrev pub read_number : LookUps → Option ℕ → ℕ
read_number told None = told.count
read_number told (Some at) = at

-- Why a read at this number, or at the newest, is refused of a store that holds its batches: for
-- the environment; below the floor, where no snapshot is; or above the newest number.
abbrev pub IsReadRefusal : LookUps → Option ℕ → EngineError → Type 0
IsReadRefusal told None e = IsEnvironmental engine.Disk engine.Memory e
IsReadRefusal told (Some at) e =
    IsEnvironmental engine.Disk engine.Memory e
    ⊎ ((e ≡ engine.TooOld) × (at < told.facts.floor) × (is_open at told.snapshots ≡ false))
    ⊎ ((e ≡ engine.NotCommitted) × (told.count < at))

-- of each list that the store shows: the call is refused for damage only where a file of a table
-- whose keys meet the range does not read as it was meant to
abbrev pub MeetsDamageIn : {D T : Type 0} (g : Ghosts D) → EmbeddedStore D g → Span →
    Result T EngineError → Type 0
MeetsDamageIn g store range result =
    (list : List BatchContent) → ShowsBatches g store list → IsErrOf result engine.Damaged →
    OneIsDamagedIn (stored_span range) (g.state (store_disk store))
    (engine_version (store_engine store)).version.tables

-- ---- snapshots

-- whether the call answered, without its answer
abbrev pub whether : {T : Type 0} → Result T EngineError → Result (Unit {0}) EngineError
whether (Ok answer) = Ok tt
whether (Err e) = Err e

-- why a snapshot at the newest number is refused: an earlier call ended the store; as many are open
-- as may be; or fewer are, and memory was wanting
abbrev pub IsSnapshotRefusal : LookUps → EngineError → Type 0
IsSnapshotRefusal told e =
    (e ≡ engine.Failed) ⊎ ((e ≡ engine.Memory) × (length told.snapshots < MAX_SNAPSHOTS))
    ⊎ ((e ≡ engine.TooManySnapshots) × (length told.snapshots ≡ MAX_SNAPSHOTS))

-- ---- an opening

-- a store that was just opened works, has these limits and no snapshot
pub record IsFreshStore {D : Type 0} {g : Ghosts D} (given : Limits) (store : EmbeddedStore D g)
    : Type 0 where
  pub works : HasEnded (store_engine store) → ⊥
  pub limits : (look_ups (store_engine store)).limits ≡ given
  pub snapshots : (look_ups (store_engine store)).snapshots ≡ []
