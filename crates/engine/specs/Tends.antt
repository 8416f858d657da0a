-- A tend of an engine's files: what is due, and what it did.
use Rattle.std.specs.Prelude.{◌≡◌, ◌≢◌, ◌⊎◌, ◌==◌, ◌&&◌, ℕ, List, [], if◌then◌else◌}
use Rattle.std.specs.Prelude.{IsErrOf, Option, Result, Some, None, option_map}
use Rattle.std.specs.List.{find}
use Rattle.std.specs.Option.{option_and_then, option_map_or, option_or}
use Rattle.disk.specs.declared.Disk.{Ghosts}
use Rattle.disk.specs.{State}
use Rattle.byte_fields.specs.{StoredKey}
use Rattle.kv_types.specs.{BatchContent}
use Rattle.kv_types.specs.declared.Limits.{Limits}
use Rattle.version_edits.specs.declared.TableLine.{TableLine}
use Rattle.version_edits.specs.declared.TableName.{TableName}
use Rattle.version_edits.specs.{StoreVersion}
use Rattle.manifest.specs.{Change}
use Rattle.store_model.specs.{LevelTable, MergePlan}
use Rattle.compaction.specs.declared.Merge.{Merge}
use Rattle.compaction.specs.declared.Plan.{Plan}
use Rattle.compaction.specs.declared.Turn.{Turn}
use Rattle.compaction.specs.{picked, turn_key}
use Rattle.compaction.specs.Merges.{begun_number, target_of}
use Rattle.store_tables.specs.declared.error.EngineError.{EngineError}
use Rattle.store_tables.specs.declared.error.EngineError.TheVariants as engine
use Rattle.store_files.specs.declared.store_files.StoreFiles.{StoreFiles}
use Rattle.store_files.specs.declared.tended.Tended.{Tended}
use Rattle.store_files.specs.declared.tended.Tended.TheVariants as tended
use Rattle.store_files.specs.BesideFiles.{with_free}
use Rattle.store_files.specs.Merging.{IsMergedBy, replaced_files}
use Rattle.store_files.specs.OpenFiles.{WereMeantToHold, known_facts, known_version}
use Rattle.store_files.specs.Raising.{IsRaisedBy, facts_with_floor, obsolete_files}
use Rattle.store_files.specs.Removing.{AreAbsent}
use Rattle.store_files.specs.TendKeeps.{OfEitherFacts}
use Rattle.store_files.specs.Tending.{FlushIsDue, IsTend, IsWorkAnswer, RewriteIsDue}
use Rattle.table_files.specs.{inner_disk}
use Rattle.table_files.specs.declared.cached_disk.CachedDisk.{CachedDisk}
use Rattle.engine.specs.DamagedInputs.{AnInputIsDamaged, names_of_inputs}
use Rattle.engine.specs.MergeParts.{CanEndNow, HasNoLeftovers, IsAdvanced, IsEditOf, IsNewMerge}
use Rattle.engine.specs.MergeParts.{IsPartRefusal, IsTendedFile, KeepsPart, LacksMergeRoom}
use Rattle.engine.specs.MergeParts.{PartMayFail, StepsOn}
use Rattle.engine.specs.MergeParts.{UsesUpTo, free_behind}
use Rattle.engine.specs.UnderWay.{HoldsWithMerge, IsMergeOf, WasMeantWithMerge}

-- ---- whose turn it is

-- the greatest key of the one table that the plan takes from its level, if it takes one alone
abbrev pub key_of_plan : Plan → List TableLine → Option StoredKey
key_of_plan plan lines = option_and_then (λ file. option_map (λ line. line.greatest)
    (find (λ line. line.level == plan.level && line.file == file) lines)) plan.file

-- the keys last taken from each level, after the table of the plan is
abbrev pub turn_after : Plan → List TableLine → (ℕ → Option StoredKey) → ℕ → Option StoredKey
turn_after plan lines turn level =
    if level == plan.level then option_or (key_of_plan plan lines) (turn level) else turn level

-- ---- what a tend works on

-- the open files of a store, the merge that is under way over them, if there is one, and whose turn
-- it is
pub record TendedStore (D : Type 0) : Type 0 where
  pub store : StoreFiles
  pub merge : Option (Merge D)
  pub turn : Turn

-- part of a merge is next: neither a rewrite nor a flush is due
abbrev pub MergesAreNext : ℕ → StoreFiles → Type 0
MergesAreNext limit store = (RewriteIsDue store → ⊥) × (FlushIsDue limit store → ⊥)

module _ {D : Type 0} where
  -- this store, with this merge and this turn
  abbrev pub tended_store : StoreFiles → Option (Merge D) → Turn → TendedStore D
  tended_store store merge turn = record { store = store; merge = merge; turn = turn }

  -- their version
  abbrev pub tended_version : TendedStore D → StoreVersion
  tended_version it = (known_version it.store).version

  -- the plan of the merge that is due
  abbrev pub due_plan : Limits → TendedStore D → Option Plan
  due_plan limits it = picked limits.l0 limits.level (turn_key it.turn) (tended_version it)

  -- the names of the inputs of the merge that is next: of the one under way, or else of the one
  -- that is due
  abbrev pub next_inputs : Limits → TendedStore D → List TableName
  next_inputs limits it = option_map_or (λ merge. merge.gone.items) it.merge
      (option_map_or (λ plan. names_of_inputs plan (tended_version it).tables)
      (due_plan limits it) [])

  -- ---- the parts of a merge

  -- no merge was under way, and one begins that was due: the floor is this number, the turn of its
  -- table is over, and an output is complete from so many bytes of data on as the limits say
  pub record MergeBegins (limits : Limits) (floor : ℕ) (plan : Plan) (old new : TendedStore D)
      (merge : Merge D) : Type 0 where
    pub none : old.merge ≡ None
    pub due : due_plan limits old ≡ Some plan
    pub raised : IsRaisedBy floor old.store new.store
    pub turn : (level : ℕ) → turn_key new.turn level
        ≡ turn_after plan (tended_version old).tables (turn_key old.turn) level
    pub is : new.merge ≡ Some merge
    pub first : begun_number merge ≡ new.store.free_file
    pub target : target_of merge ≡ limits.table

  -- What the next part of a merge under way did of any files, and what is left of the merge. Only
  -- numbers of files were used; or its edit is recorded; or it is given up, and the files are as
  -- before it began, but for the floor, which rose then, and for what was flushed since.
  pub data ContinuesMerge (old new : StoreFiles) (was : Merge D) (left : Option (Merge D))
      (answer : Tended) : Type 0 where
    HasStepped : (now : Merge D) → IsAdvanced old new was now → left ≡ Some now →
        answer ≡ tended.Worked → ContinuesMerge old new was left answer
    EndsByEdit : (edit : Change) (used : ℕ) → UsesUpTo old.free_file used →
        IsMergedBy edit (with_free old used) new → left ≡ None → answer ≡ tended.Worked →
        ContinuesMerge old new was left answer
    IsGivenUp : (used : ℕ) → UsesUpTo old.free_file used →
        new ≡ with_free old (free_behind (begun_number was) (with_free old used)) →
        left ≡ None → answer ≡ tended.Full → ContinuesMerge old new was left answer

  -- What a tend of merges did of any disk. It is full only where a merge is given up, and at rest
  -- only where none is due.
  pub data HasMerged (limits : Limits) (floor : ℕ) (old new : TendedStore D) (answer : Tended)
      : Type 0 where
    HasBegun : (plan : Plan) (merge : Merge D) → MergeBegins limits floor plan old new merge →
        answer ≡ tended.Worked → HasMerged limits floor old new answer
    HasContinued : (was : Merge D) → old.merge ≡ Some was → new.turn ≡ old.turn →
        ContinuesMerge old.store new.store was new.merge answer →
        HasMerged limits floor old new answer
    HasRested : old.merge ≡ None → due_plan limits old ≡ None → new ≡ old →
        answer ≡ tended.Idle → HasMerged limits floor old new answer

  -- ---- a tend

  -- a rewrite of the manifest or a flush was done, or lacks a place, and no part of a merge
  pub record StoreIsTended (old new : TendedStore D) (answer : Tended) : Type 0 where
    pub some : answer ≢ tended.Idle
    pub did : IsTend old.store new.store answer
    pub merge : new.merge ≡ old.merge
    pub turn : new.turn ≡ old.turn

  -- What a tend of any disk did: it rewrote or flushed, or did part of a merge, or nothing. So it
  -- is full only where those lack a place, or a merge is given up.
  pub data TendsStore (limits : Limits) (floor : ℕ) (old new : TendedStore D) (answer : Tended)
      : Type 0 where
    OfStore : StoreIsTended old new answer → TendsStore limits floor old new answer
    OfMerge : HasMerged limits floor old new answer → TendsStore limits floor old new answer

  -- what it did was due: a rewrite or a flush, or part of a merge where neither of those is
  abbrev pub WasDue : {limits : Limits} {floor : ℕ} {old new : TendedStore D} {answer : Tended}
      → TendsStore limits floor old new answer → Type 0
  WasDue {limits = limits} {old = old} {new = new} {answer = answer} (OfStore did) =
      IsWorkAnswer limits.log old.store new.store answer
  WasDue {limits = limits} {old = old} (OfMerge did) = MergesAreNext limits.log old.store

  -- a tend does the first that is due: a rewrite, a flush, or part of a merge
  abbrev pub TendsInOrder : Limits → ℕ → (old new : TendedStore D) → Tended → Type 0
  TendsInOrder limits floor old new answer =
      (it : TendsStore limits floor old new answer) × WasDue it

-- Why a tend of files with damaged blocks is refused: for the environment; or, where neither a
-- rewrite nor a flush is due, for damage of a file of an input of the merge that is next.
abbrev pub IsTendRefusal : {D : Type 0} → Limits → State → TendedStore D → EngineError → Type 0
IsTendRefusal limits disk it =
    IsPartRefusal (MergesAreNext limits.log it.store
    × AnInputIsDamaged disk (next_inputs limits it))

module _ {D : Type 0} (g : Ghosts D) where
  -- ---- what it keeps

  -- What a tend keeps of the files, the store and the merge, for which the floor may rise to this
  -- number.
  abbrev pub KeepsTended : Limits → ℕ → (a b : CachedDisk D g) → (old new : TendedStore D) →
      Result Tended EngineError → Type 0
  KeepsTended limits floor a b old new result =
      KeepsPart g (IsTendedFile old.store old.merge floor)
      (OfEitherFacts (known_facts old.store) (facts_with_floor old.store floor))
      (PartMayFail g a old.store old.merge)
      (AnInputIsDamaged (g.state (inner_disk a)) (next_inputs limits old))
      (HoldsWithMerge g a old.store old.merge) (WasMeantWithMerge g a old.store old.merge)
      (λ _. HoldsWithMerge g b new.store new.merge)
      (λ _. WasMeantWithMerge g b new.store new.merge) a b old.store new.store result

  -- ---- what it did of files that hold a list, or were meant to

  -- One of the next entries has no place, or all are merged and the version would have too many
  -- tables. No file is left that the merge wrote.
  pub record AbandonsFull (a b : CachedDisk D g) (old : StoreFiles) (was : Merge D) (used : ℕ)
      (tables : List LevelTable) (plan : MergePlan) (before : IsMergeOf g a old tables was plan)
      : Type 0 where
    pub why : LacksMergeRoom g a old was tables plan before used
        ⊎ (CanEndNow g a old was tables plan before × IsEditOf old plan (target_of was) None)
    pub removed : HasNoLeftovers g (begun_number was) (with_free old used) b

  -- How a merge of this plan went on: by so many entries, others of which are left; by all that
  -- were left, so that the version has the outputs in the places of the inputs, whose files are
  -- gone; or it was given up.
  abbrev pub ContinuesByPlan : (a b : CachedDisk D g) {old new : StoreFiles} {was : Merge D}
      {left : Option (Merge D)} {answer : Tended} → ContinuesMerge old new was left answer →
      (tables : List LevelTable) (plan : MergePlan) → IsMergeOf g a old tables was plan → Type 0
  ContinuesByPlan a b {old = old} {new = new} {was = was} (HasStepped now on left is) tables plan
      before = StepsOn g a b old new was now tables plan before
  ContinuesByPlan a b {old = old} {was = was} (EndsByEdit edit used few merged left is) tables plan
      before =
      IsEditOf (with_free old used) plan (target_of was) (Some edit)
      × CanEndNow g a old was tables plan before
      × AreAbsent (replaced_files edit) (g.state (inner_disk b))
  ContinuesByPlan a b {old = old} {was = was} (IsGivenUp used few freed left is) tables plan
      before = AbandonsFull a b old was used tables plan before

  -- What the next part of a merge did of any files, and of those over which it was under way.
  pub record ContinuesAsPlanned (a b : CachedDisk D g) (old new : StoreFiles) (was : Merge D)
      (left : Option (Merge D)) (answer : Tended) : Type 0 where
    pub did : ContinuesMerge old new was left answer
    pub planned : (tables : List LevelTable) (plan : MergePlan)
        (before : IsMergeOf g a old tables was plan) → ContinuesByPlan a b did tables plan before

  -- Where a tend did part of a merge, it is of the plan that is due, none of its inputs' entries is
  -- merged yet, and the logs that were given up are gone; or it is of the plan that is under way.
  abbrev pub IsAsPlanned : {limits : Limits} {floor : ℕ} {old new : TendedStore D}
      {answer : Tended} → (a b : CachedDisk D g) → TendsStore limits floor old new answer → Type 0
  IsAsPlanned a b (OfStore did) = Unit {0}
  IsAsPlanned {floor = floor} {old = old} {new = new} a b
      (OfMerge (HasBegun plan merge begins is)) =
      IsNewMerge g plan b new.store merge
      × AreAbsent (obsolete_files old.store floor) (g.state (inner_disk b))
  IsAsPlanned {old = old} a b (OfMerge (HasContinued was some turn on)) =
      (tables : List LevelTable) × (plan : MergePlan)
      × (before : IsMergeOf g a old.store tables was plan)
      × ContinuesByPlan a b on tables plan before
  IsAsPlanned a b (OfMerge (HasRested none due same is)) = Unit {0}

  -- so a tend did
  abbrev pub TendsAsPlanned : Limits → ℕ → (a b : CachedDisk D g) → (old new : TendedStore D) →
      Tended → Type 0
  TendsAsPlanned limits floor a b old new answer =
      (it : TendsStore limits floor old new answer) × IsAsPlanned a b it

  -- files that were meant to hold a list refuse a tend for damage only where merges are next
  abbrev pub RefusesTend : Limits → CachedDisk D g → StoreFiles → Result Tended EngineError →
      Type 0
  RefusesTend limits a old result = (list : List BatchContent) → g.is_honest (inner_disk a) →
      WereMeantToHold (g.state (inner_disk a)) old list →
      IsErrOf result engine.Damaged → MergesAreNext limits.log old

  -- ---- both

  -- What a tend of merges did of any files, and of those that were meant to hold a list.
  pub record MergesByPlan (limits : Limits) (floor : ℕ) (a b : CachedDisk D g)
      (old new : TendedStore D) (answer : Tended) : Type 0 where
    pub did : HasMerged limits floor old new answer
    pub planned : (list : List BatchContent) → g.is_honest (inner_disk a) →
        WasMeantWithMerge g a old.store old.merge list → IsAsPlanned a b (OfMerge did)

  -- What a tend did of any files, and of those that were meant to hold a list, without the merge
  -- and with it.
  pub record TendsByPlan (limits : Limits) (floor : ℕ) (a b : CachedDisk D g)
      (old new : TendedStore D) (answer : Tended) : Type 0 where
    pub did : TendsStore limits floor old new answer
    pub in_order : (list : List BatchContent) → g.is_honest (inner_disk a) →
        WereMeantToHold (g.state (inner_disk a)) old.store list → WasDue did
    pub planned : (list : List BatchContent) → g.is_honest (inner_disk a) →
        WasMeantWithMerge g a old.store old.merge list → IsAsPlanned a b did
