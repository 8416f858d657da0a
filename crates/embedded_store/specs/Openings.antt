-- What an opening finds on a disk: a store that stands alone, nothing, or files that are none.
use Rattle.std.specs.Prelude.{◌≡◌, ◌⊎◌, ℕ, List, [], ◌∷◌, Contains}
use Rattle.std.specs.Prelude.{Result, Ok, Err, IfErr, IfOk, IsErrAnd, MatchResult}
use Rattle.kv_types.specs.{BatchContent}
use Rattle.disk.specs.{Contents, IsEnvironmental, IsStill, KeepsDisk, State, contents, seen}
use Rattle.disk.specs.declared.Disk.{Ghosts}
use Rattle.manifest.specs.{HasOnlyCreationFiles, ManifestRepresents, WasCutShort}
use Rattle.engine.specs.EngineError.TheVariants as engine
use Rattle.engine.specs.declared.Engine.{Engine}
use Rattle.engine.specs.{AreAlone, Facts, FilesRepresent, HasFirstFiles, HasOnlyFiles, IsDamaged}
use Rattle.engine.specs.{AreShut, IsNotCreated, IsOldStore, IsOpened, IsOwned, OpensAs}
use Rattle.engine.specs.{SparesNamed, StaysAsItWas, StillLeavesOneOf}
use Rattle.engine.specs.{engine_disk, engine_files, engine_version, facts_of, first_facts}
use Rattle.engine.specs.{WereMeant, kept_files, look_ups, with_committed}
use Rattle.embedded_store.specs.declared.error.OpenError.{OpenError}
use Rattle.embedded_store.specs.declared.error.OpenError.TheVariants.{InUse, OfChain, Store}
use Rattle.embedded_store.specs.declared.store.EmbeddedStore.{EmbeddedStore}
use Rattle.embedded_store.specs.Alone.{IsAloneAs}
use Rattle.embedded_store.specs.Stores.{HoldsBatches, StoreWasMeant, store_disk, store_engine}

-- these are the facts of a store that stands alone
abbrev pub StandsAlone : Facts → Type 0
StandsAlone facts = IsAloneAs facts.id facts.ids

-- refused for the device or for want of memory
abbrev pub IsOfEnvironment : OpenError → Type 0
IsOfEnvironment = IsEnvironmental (Store engine.Disk) (Store engine.Memory)

-- refused for the folder itself: another user has locked it, or it can't be made or locked
abbrev pub IsOfFolder : OpenError → Type 0
IsOfFolder e = (e ≡ InUse) ⊎ IsOfEnvironment e

-- refused for files that are none of a store, or those of one in the old format
abbrev pub IsOfNoStore : OpenError → Type 0
IsOfNoStore e = (e ≡ Store engine.Damaged) ⊎ (e ≡ Store engine.NotCreated)
    ⊎ (e ≡ Store engine.OldFormat)

-- refused for a disk, whatever it claims
abbrev pub IsOfDisk : OpenError → Type 0
IsOfDisk e = (e ≡ OfChain) ⊎ (IsOfEnvironment e ⊎ IsOfNoStore e)

-- refused for a folder, or for it as a disk
abbrev pub IsOfOpening : OpenError → Type 0
IsOfOpening e = (e ≡ InUse) ⊎ IsOfDisk e

-- no opening makes a store of the files: they open as none, and are not what a creation may have
-- left that was cut short
abbrev pub AreNoStore : Contents → Type 0
AreNoStore left = AreShut left × (WasCutShort left → ⊥)

-- The files open as a store that does not stand alone. Those of its version read as before on the
-- disk that is returned, which has no other.
pub record IsOfChain (left : Contents) (now : State) : Type 0 where
  pub facts : Facts
  pub count : ℕ
  pub opens : OpensAs left facts count
  pub other : StandsAlone facts → ⊥
  pub alike : (file : ℕ) → Contains (kept_files opens.version) file → seen (now file) ≡ left file
  pub swept : AreAlone (kept_files opens.version) now

-- why a disk with this content, and then this state, has no store for those who embed it
abbrev pub ExplainsOpening : Contents → State → OpenError → Type 0
ExplainsOpening left now InUse = ⊥
ExplainsOpening left now OfChain = IsOfChain left now
ExplainsOpening left now (Store engine.Disk) = Unit {0}
ExplainsOpening left now (Store engine.Memory) = Unit {0}
ExplainsOpening left now (Store engine.Damaged) = IsDamaged left
ExplainsOpening left now (Store engine.NotCreated) =
    IsNotCreated left × (HasOnlyCreationFiles left → ⊥)
ExplainsOpening left now (Store engine.Failed) = ⊥
ExplainsOpening left now (Store engine.TooOld) = ⊥
ExplainsOpening left now (Store engine.NotCommitted) = ⊥
ExplainsOpening left now (Store engine.NoSuchSnapshot) = ⊥
ExplainsOpening left now (Store engine.TooManySnapshots) = ⊥
ExplainsOpening left now (Store engine.Exhausted) = ⊥
ExplainsOpening left now (Store engine.OldFormat) = IsOldStore left

module _ {D : Type 0} {g : Ghosts D} where
  -- the disk that an opening received: the store has it, or the refusal returns it
  abbrev pub disk_of_opening : Result (EmbeddedStore D g) (OpenError × D) → D
  disk_of_opening (Ok store) = store_disk store
  disk_of_opening (Err refused) = refused.1

  -- the store tells these facts, and holds the list
  pub record IsStoreOf (known : Facts) (list : List BatchContent) (store : EmbeddedStore D g)
      : Type 0 where
    pub facts : facts_of (store_engine store) ≡ known
    pub holds : HoldsBatches g store list

  -- Files of these facts and the list open as a store that holds the list, or the device or memory
  -- refuses that; or the store is one of a chain.
  abbrev pub OpensAsStore : Facts → List BatchContent → Result (EmbeddedStore D g) (OpenError × D) →
      Type 0
  OpensAsStore facts list result =
      MatchResult result (λ store. StandsAlone facts × IsStoreOf facts list store)
      (λ refused. IsOfEnvironment refused.0
      ⊎ ((refused.0 ≡ OfChain) × (StandsAlone facts → ⊥)))

  -- a store that stands alone tells these facts, and was meant to hold the list
  pub record IsMeantStoreOf (known : Facts) (list : List BatchContent) (store : EmbeddedStore D g)
      : Type 0 where
    pub alone : StandsAlone known
    pub facts : facts_of (store_engine store) ≡ known
    pub was : StoreWasMeant g store list

  -- a new store: it stands alone, has no batches, and its disk has the files of a new store and no
  -- other
  pub record IsFirstStore (store : EmbeddedStore D g) : Type 0 where
    pub facts : facts_of (store_engine store) ≡ first_facts 1 (1 ∷ [])
    pub holds : HoldsBatches g store []
    pub files : HasFirstFiles (g.state (store_disk store)) 1 (1 ∷ [])

  -- a new store, or the device or memory refuses that
  abbrev pub CreatesStore : Result (EmbeddedStore D g) (OpenError × D) → Type 0
  CreatesStore result =
      MatchResult result IsFirstStore (λ refused. IsOfEnvironment refused.0)

  -- the content opens as the store, which stands alone and knows the version of the slots; its
  -- files read as before, and its disk has no other
  pub record IsOpenedAs (left : Contents) (store : EmbeddedStore D g) : Type 0 where
    pub opened : IsOpened left (store_engine store)
    pub version : ManifestRepresents (engine_version (store_engine store)) left
    pub alone : StandsAlone (facts_of (store_engine store))
    pub alike : (file : ℕ) → Contains (engine_files (store_engine store)) file →
        contents (g.state (store_disk store)) file ≡ left file
    pub swept : HasOnlyFiles g (store_engine store) (engine_files (store_engine store))

  -- what the content is of which an opening made a store: that of the store, or what a creation may
  -- have left that was cut short, and then the store is a new one
  abbrev pub IsOpenedFrom : Contents → EmbeddedStore D g → Type 0
  IsOpenedFrom left store = IsOpenedAs left store ⊎ (WasCutShort left × IsFirstStore store)

  -- the store is the one over this engine, all of whose batches are committed
  pub record IsStoreOver (engine : Engine D g) (store : EmbeddedStore D g) : Type 0 where
    pub told : look_ups (store_engine store)
        ≡ with_committed (look_ups engine) (look_ups engine).count
    pub disk : store_disk store ≡ engine_disk engine
    pub stays : StaysAsItWas g engine (store_engine store)

  -- the engine is one that stands alone, and the store is over it; or the disk is returned
  abbrev pub IsOwnStore : Engine D g → Result (EmbeddedStore D g) (OpenError × D) → Type 0
  IsOwnStore engine result =
      MatchResult result (λ store. StandsAlone (facts_of engine) × IsStoreOver engine store)
      (λ refused. (refused.0 ≡ OfChain) × (StandsAlone (facts_of engine) → ⊥)
      × (refused.1 ≡ engine_disk engine))

module _ {D : Type 0} (g : Ghosts D) where
  -- the opening keeps the device, which failed exactly where it refuses for it
  abbrev pub KeepsOpenedDisk : D → Result (EmbeddedStore D g) (OpenError × D) → Type 0
  KeepsOpenedDisk disk result = KeepsDisk g disk (disk_of_opening result)
      (IsErrAnd result (λ refused. refused.0 ≡ Store engine.Disk)) ⊥ IsOwned

  -- What an opening leaves of the files: where it is refused, all if it says that they are no
  -- store, or if none makes a store of them; and those that the version of the slots names.
  pub record LeavesFound (disk : D) (result : Result (EmbeddedStore D g) (OpenError × D)) : Type 0
    where
      pub refused : IfErr result (λ refused. IsOfNoStore refused.0
          ⊎ AreNoStore (contents (g.state disk)) → IsStill g disk refused.1)
      pub named : SparesNamed g disk (disk_of_opening result)

  -- what an opening promises of an honest disk with this content
  pub record OpensContents (disk : D) (left : Contents)
      (result : Result (EmbeddedStore D g) (OpenError × D)) : Type 0 where
    -- a store that is there is opened
    pub opened : (facts : Facts) (list : List BatchContent) → FilesRepresent facts list left →
        OpensAsStore facts list result
    -- so is one of whose tables blocks alone are damaged, and it is none that was created anew
    pub meant : (facts : Facts) (list : List BatchContent) → WereMeant facts list left →
        IfOk result (IsMeantStoreOf facts list)
    -- what a creation left that was cut short is created anew
    pub created : WasCutShort left → CreatesStore result
    -- a store says what it was made of, and a refusal why it is none
    pub told : MatchResult result (IsOpenedFrom left)
        (λ refused. ExplainsOpening left (g.state refused.1) refused.0)
    -- no store that was created is created again, also where blocks of its tables are damaged
    pub any_moment : (facts : Facts) (list : List BatchContent) (facts' : Facts)
        (list' : List BatchContent) →
        StillLeavesOneOf g disk (disk_of_opening result) facts list facts' list'
