-- The parts of a merge as an engine does them: what each keeps of the open files, and what it made
-- of the merge.
use Rattle.std.specs.Prelude.{◌≡◌, ◌⊎◌, ℕ, ◌+◌, ◌≤◌, List, [], IsErrOf, IfErr, IfOk, MatchResult}
use Rattle.std.specs.Prelude.{Contains, IfSome, IsNone, IsSomeAnd, OnOk, Option, Some, None, Result}
use Rattle.std.specs.Prelude.{Bool, Err, Ok, false, length, map, max, min, true}
use Rattle.std.specs.List.{AllZip}
use Rattle.disk.specs.declared.Disk.{Ghosts}
use Rattle.disk.specs.{AlwaysLeaves, IsEnvironmental, KeepsDisk, seen}
use Rattle.byte_fields.specs.{StoredKey}
use Rattle.kv_types.specs.{BatchContent, Entry}
use Rattle.version_edits.specs.{IsFit, StoreVersion}
use Rattle.manifest.specs.{Change, HasFullSlot, counting_file, spare_file}
use Rattle.store_model.specs.{IsMerged, LevelTable, MergePlan}
use Rattle.compaction.specs.declared.error.MergeError.{MergeError}
use Rattle.compaction.specs.declared.error.MergeError.TheVariants as merging
use Rattle.compaction.specs.declared.Merge.{Merge}
use Rattle.compaction.specs.declared.Plan.{Plan}
use Rattle.compaction.specs.{AreWrittenTables, IsLineOf, IsSortedUnion, model_plan, picked}
use Rattle.compaction.specs.{range_of}
use Rattle.compaction.specs.Leftovers.{IsLeftover}
use Rattle.compaction.specs.Merges.{HasEntriesLeft, HasTooManyTables, begun_number, merge_change}
use Rattle.compaction.specs.Merges.{table_name, target_of}
use Rattle.compaction.specs.Outputs.{IsOpenFile, IsSameBeyond, UsesNumbers}
use Rattle.compaction.specs.Walks.{FindsNoRoom}
use Rattle.store_tables.specs.declared.error.EngineError.{EngineError}
use Rattle.store_tables.specs.declared.error.EngineError.TheVariants as engine
use Rattle.store_tables.specs.Errors.{IsEnd}
use Rattle.store_files.specs.declared.store_files.StoreFiles.{StoreFiles}
use Rattle.store_files.specs.declared.tended.Tended.{Tended}
use Rattle.store_files.specs.declared.tended.Tended.TheVariants as tended
use Rattle.store_files.specs.Files.{Facts, IsOwned}
use Rattle.store_files.specs.BesideFiles.{with_free}
use Rattle.store_files.specs.Merging.{HeldWithOutputs, IsMergedBy, MeantWithOutputs, replaced_files}
use Rattle.store_files.specs.OpenFiles.{AreUsableFiles, FilesHold, WereMeantToHold, batch_count}
use Rattle.store_files.specs.OpenFiles.{known_facts, known_version}
use Rattle.store_files.specs.Raising.{IsRaisedBy, facts_with_floor, obsolete_files, raised_files}
use Rattle.store_files.specs.Removing.{AreAbsent}
use Rattle.store_files.specs.StoreFiles.{FilesRepresent, WereMeant}
use Rattle.store_files.specs.TendKeeps.{OfEitherFacts}
use Rattle.table_files.specs.{inner_disk}
use Rattle.table_files.specs.declared.cached_disk.CachedDisk.{CachedDisk}
use Rattle.engine.specs.declared.merging.Progress.{Progress}
use Rattle.engine.specs.declared.merging.Progress.TheVariants as progress
use Rattle.engine.specs.DamagedInputs.{AnInputIsDamaged, names_of_inputs}
use Rattle.engine.specs.LentFiles.{files_ghosts, union_ghosts}
use Rattle.engine.specs.UnderWay.{HoldsWithMerge, IsMergeOf, WasMeantWithMerge}

-- the greatest number of entries that one tend merges
abbrev pub step_length : ℕ
step_length = 256

-- one step of a merge used file numbers from the first of these on, up to the second
abbrev pub UsesUpTo : (free used : ℕ) → Type 0
UsesUpTo free used = (free ≤ used) × (used ≤ free + step_length)

-- ---- which files a part of a merge may change

-- The files of a merge under way: the slots of the manifest, the files of numbers from the first
-- free one on, those that the merge has written, that of its open output, and its inputs.
pub data IsMergeFile {D : Type 0} (store : StoreFiles) (merge : Option (Merge D)) (file : ℕ)
    : Type 0 where
  IsSlot : (file ≡ counting_file store.manifest) ⊎ (file ≡ spare_file store.manifest) →
      IsMergeFile store merge file
  IsFree : store.free_file ≤ file → IsMergeFile store merge file
  IsWritten : IsSomeAnd merge (λ it. IsLeftover (begun_number it) store.free_file
      (known_version store).version file) → IsMergeFile store merge file
  IsOpened : IsSomeAnd merge (λ it. IsOpenFile it.writer file) → IsMergeFile store merge file
  IsInput : IsSomeAnd merge (λ it. Contains (map (λ one. one.file) it.gone.items) file) →
      IsMergeFile store merge file

-- The files that a tend may change: those of a merge under way, and the logs up to the floor to
-- which a merge that begins raises it.
pub data IsTendedFile {D : Type 0} (store : StoreFiles) (merge : Option (Merge D)) (floor : ℕ)
    (file : ℕ) : Type 0 where
  IsOfMerge : IsMergeFile store merge file → IsTendedFile store merge floor file
  IsObsolete : Contains (obsolete_files store floor) file → IsTendedFile store merge floor file

-- ---- what is kept

-- why a part of a merge is refused, of files that were meant to hold a list: for the environment,
-- or for this damage
abbrev pub IsPartRefusal : Type 0 → EngineError → Type 0
IsPartRefusal damage e =
    IsEnvironmental engine.Disk engine.Memory e ⊎ ((e ≡ engine.Damaged) × damage)

-- What a part of a merge keeps: it changes these files alone and this of the facts. `Held` and
-- `Meant` say of a list what the open files have of it before, and `Holds` and `IsMeant` behind an
-- answer: the first of each where no block is damaged.
pub record KeepsPart {D T : Type 0} (g : Ghosts D) (touched : ℕ → Type 0)
    (OfFacts : (Facts → Type 0) → Type 0) (cause damage : Type 0)
    (Held Meant : List BatchContent → Type 0) (Holds IsMeant : T → List BatchContent → Type 0)
    (a b : CachedDisk D g) (old new : StoreFiles) (result : Result T EngineError) : Type 0 where
  -- a device that works fails only for this cause
  pub kept : KeepsDisk (files_ghosts g) a b (IsErrOf result engine.Disk) cause IsOwned
  -- each file but these is as it was
  pub touches : g.is_honest (inner_disk a) →
      IsSameBeyond touched (g.state (inner_disk a)) (g.state (inner_disk b))
  -- so many batches stay, and the facts change so
  pub numbers : (batch_count new ≡ batch_count old) × OfFacts (λ facts. known_facts new ≡ facts)
  -- where it answers, the open files are usable
  pub usable : OnOk result (AreUsableFiles new)
  -- it is refused for `Disk`, `Damaged` or `Memory` alone
  pub refused : IfErr result IsEnd
  -- files that held a list hold it, and it is refused for `Disk` or `Memory` alone
  pub held : (list : List BatchContent) → g.is_honest (inner_disk a) → Held list →
      MatchResult result (λ answer. Holds answer list)
      (IsEnvironmental engine.Disk engine.Memory)
  -- a crash at any moment leaves files that represent it
  pub any_moment : (list : List BatchContent) → g.is_honest (inner_disk a) → Held list →
      AlwaysLeaves g (inner_disk a) (inner_disk b)
      (λ left. OfFacts (λ facts. FilesRepresent facts list left))
  -- so it is with files that were meant to hold one, but that this damage may refuse it too
  pub meant : (list : List BatchContent) → g.is_honest (inner_disk a) → Meant list →
      MatchResult result (λ answer. IsMeant answer list) (IsPartRefusal damage)
  pub meant_moment : (list : List BatchContent) → g.is_honest (inner_disk a) → Meant list →
      AlwaysLeaves g (inner_disk a) (inner_disk b)
      (λ left. OfFacts (λ facts. WereMeant facts list left))

module _ {D : Type 0} (g : Ghosts D) where
  -- a device that works fails where the slot that counts is full, or the files hold no list with
  -- this merge
  abbrev pub PartMayFail : CachedDisk D g → StoreFiles → Option (Merge D) → Type 0
  PartMayFail files store merge = HasFullSlot store.manifest
      ⊎ ((list : List BatchContent) → g.is_honest (inner_disk files) →
      HoldsWithMerge g files store merge list → ⊥)

  -- a file of an input of the merge does not read as it was meant to
  abbrev pub HasDamagedInput : CachedDisk D g → Merge D → Type 0
  HasDamagedInput files merge = AnInputIsDamaged (g.state (inner_disk files)) merge.gone.items

  -- What a part keeps that leaves the facts as they are, and of the merge what `now` says of its
  -- answer.
  abbrev pub KeepsMerge : {T : Type 0} → Type 0 → (T → Option (Merge D)) → Option (Merge D) →
      (a b : CachedDisk D g) → (old new : StoreFiles) → Result T EngineError → Type 0
  KeepsMerge damage now was a b old new result =
      KeepsPart g (IsMergeFile old was) (λ IsSaid. IsSaid (known_facts old))
      (PartMayFail a old was) damage (HoldsWithMerge g a old was) (WasMeantWithMerge g a old was)
      (λ answer. HoldsWithMerge g b new (now answer))
      (λ answer. WasMeantWithMerge g b new (now answer)) a b old new result

  -- what the begin of a merge of this plan keeps behind a rise of the floor to this number
  abbrev pub KeepsBegun : Plan → ℕ → (a b : CachedDisk D g) → (old new : StoreFiles) →
      Result (Merge D) EngineError → Type 0
  KeepsBegun plan floor a b old new result =
      KeepsPart g (Contains (raised_files old floor))
      (OfEitherFacts (known_facts old) (facts_with_floor old floor)) (HasFullSlot old.manifest)
      (AnInputIsDamaged (g.state (inner_disk a))
      (names_of_inputs plan (known_version old).version.tables))
      (FilesHold (g.state (inner_disk a)) old) (WereMeantToHold (g.state (inner_disk a)) old)
      (λ merge. HoldsWithMerge g b new (Some merge))
      (λ merge. WasMeantWithMerge g b new (Some merge)) a b old new result

-- ---- refusals

-- The error of a store for that of a merge. One that lacks room is none, and one that has failed is
-- never kept.
abbrev pub error_of_merge : MergeError → EngineError
error_of_merge merging.Disk = engine.Disk
error_of_merge merging.Damaged = engine.Damaged
error_of_merge merging.Memory = engine.Memory
error_of_merge merging.Failed = engine.Damaged
error_of_merge merging.Full = engine.Damaged

-- the answer of a store for that of a merge
abbrev pub answer_of_merge : {T : Type 0} → Result T MergeError → Result T EngineError
answer_of_merge (Ok x) = Ok x
answer_of_merge (Err e) = Err (error_of_merge e)

-- ---- a merge begins

-- the plan is picked in the version of the files, for some limits and turn
pub record IsPicked (store : StoreFiles) (plan : Plan) : Type 0 where
  pub most : ℕ
  pub base : ℕ
  pub turn : ℕ → Option StoredKey
  pub is : picked most base turn (known_version store).version ≡ Some plan

-- the merge of the plan's inputs is under way, and none of their entries is merged yet
pub record IsNewMerge {D : Type 0} (g : Ghosts D) (plan : Plan) (files : CachedDisk D g)
    (store : StoreFiles) (merge : Merge D) : Type 0 where
  pub tables : List LevelTable
  pub lines : AllZip IsLineOf (known_version store).version.tables tables
  pub range : _
  pub joint : range_of plan (known_version store).version.tables ≡ Some range
  pub under_way : IsMergeOf g files store tables merge (model_plan plan range tables)
  pub none : under_way.merging.walk.met ≡ []

-- A merge began behind a rise of the floor to this number: that of the plan, where the files were
-- meant to hold a list. The logs that were given up are gone.
pub record IsBegunBy {D : Type 0} (g : Ghosts D) (plan : Plan) (floor : ℕ) (a b : CachedDisk D g)
    (old new : StoreFiles) (merge : Merge D) : Type 0 where
  pub raised : IsRaisedBy floor old new
  pub first : begun_number merge ≡ new.free_file
  pub begun : (list : List BatchContent) → g.is_honest (inner_disk a) →
      WereMeantToHold (g.state (inner_disk a)) old list → IsNewMerge g plan b new merge
  pub gone : g.is_honest (inner_disk a) →
      AreAbsent (obsolete_files old floor) (g.state (inner_disk b))

-- ---- a merge goes on

-- how a merge went on that answers so
abbrev pub progress_after : Result Bool MergeError → Result Progress EngineError
progress_after (Ok true) = Ok progress.More
progress_after (Ok false) = Ok progress.Done
progress_after (Err merging.Disk) = Err engine.Disk
progress_after (Err merging.Damaged) = Err engine.Damaged
progress_after (Err merging.Memory) = Err engine.Memory
progress_after (Err merging.Failed) = Err engine.Damaged
progress_after (Err merging.Full) = Ok progress.Full

-- what is left of a merge that went on: nothing where it has no room
abbrev pub merge_after : {D : Type 0} → Merge D → Progress → Option (Merge D)
merge_after now progress.More = Some now
merge_after now progress.Done = Some now
merge_after now progress.Full = None

-- what a merge that went on made of any files: numbers of files were used, and it gives up what it
-- did, and completes its outputs as it did
pub record IsAdvanced {D : Type 0} (old new : StoreFiles) (was now : Merge D) : Type 0 where
  pub store : new ≡ with_free old new.free_file
  pub numbers : UsesNumbers step_length was.writer old.free_file now.writer new.free_file
  pub first : begun_number now ≡ begun_number was
  pub gone : now.gone ≡ was.gone
  pub target : target_of now ≡ target_of was

-- So many entries more of the inputs are merged, and others are left.
pub record StepsOn {D : Type 0} (g : Ghosts D) (a b : CachedDisk D g) (old new : StoreFiles)
    (was now : Merge D) (tables : List LevelTable) (plan : MergePlan)
    (before : IsMergeOf g a old tables was plan) : Type 0 where
  pub after : IsMergeOf g b new tables now plan
  pub met : length after.merging.walk.met ≡ length before.merging.walk.met + step_length
  pub left : HasEntriesLeft (union_ghosts g) (files_ghosts g) now

-- The inputs have no more entries than so many behind those that are merged.
pub record CanEndNow {D : Type 0} (g : Ghosts D) (a : CachedDisk D g) (old : StoreFiles)
    (was : Merge D) (tables : List LevelTable) (plan : MergePlan)
    (before : IsMergeOf g a old tables was plan) : Type 0 where
  pub entries : List Entry
  pub all : IsSortedUnion plan.inputs entries
  pub few : length entries ≤ length before.merging.walk.met + step_length

module _ {D : Type 0} (g : Ghosts D) where
  -- one of the next entries wants a place that there is not, with this free file
  abbrev pub LacksMergeRoom : (a : CachedDisk D g) → (old : StoreFiles) (was : Merge D)
      (tables : List LevelTable) (plan : MergePlan) → IsMergeOf g a old tables was plan → ℕ → Type 0
  LacksMergeRoom a old was tables plan before free =
      FindsNoRoom (length (known_version old).version.tables) free
      (length before.merging.walk.met) step_length was.writer plan.inputs

  -- How a merge of this plan went on: so many entries more are merged and others are left, or all
  -- are merged, or one of the next wants a place that there is not.
  abbrev pub HasProgress : (a b : CachedDisk D g) → (old new : StoreFiles) → (was now : Merge D) →
      (tables : List LevelTable) (plan : MergePlan) → IsMergeOf g a old tables was plan →
      Progress → Type 0
  HasProgress a b old new was now tables plan before progress.More =
      StepsOn g a b old new was now tables plan before
  HasProgress a b old new was now tables plan before progress.Done =
      IsMergeOf g b new tables now plan
      × (HasEntriesLeft (union_ghosts g) (files_ghosts g) now → ⊥)
      × CanEndNow g a old was tables plan before
  HasProgress a b old new was now tables plan before progress.Full =
      LacksMergeRoom a old was tables plan before new.free_file

  -- so it went on, where it was under way by any plan
  abbrev pub AdvancesPlanned : (a b : CachedDisk D g) → (old new : StoreFiles) →
      (was now : Merge D) → Result Progress EngineError → Type 0
  AdvancesPlanned a b old new was now result =
      (tables : List LevelTable) (plan : MergePlan) (before : IsMergeOf g a old tables was plan) →
      IfOk result (HasProgress a b old new was now tables plan before)

-- ---- a merge ends

-- The answer to a merge that made this edit, or was refused: the edit, where the version may take
-- it; none, where the version would have too many tables; or what stands in the way.
abbrev pub IsCheckedEdit : StoreVersion → Result Change MergeError →
    Result (Option Change) EngineError → Type 0
IsCheckedEdit version (Ok edit) result =
    MatchResult result (λ made. (made ≡ Some edit) × IsFit version edit)
    (λ e. (e ≡ engine.Memory) ⊎ ((e ≡ engine.Damaged) × (IsFit version edit → ⊥)))
IsCheckedEdit version (Err why) result =
    MatchResult result (λ made. (made ≡ None) × (why ≡ merging.Full))
    (λ e. (e ≡ error_of_merge why) × (why ≡ merging.Full → ⊥))

-- the files hold the list and the disk has the outputs of this edit, or they hold the list where
-- there is no edit
abbrev pub HoldEdit : {D : Type 0} (g : Ghosts D) → CachedDisk D g → StoreFiles → Option Change →
    List BatchContent → Type 0
HoldEdit g files store None list = FilesHold (g.state (inner_disk files)) store list
HoldEdit g files store (Some edit) list =
    HeldWithOutputs (g.state (inner_disk files)) store list edit

-- so it is with files that were meant to hold it
abbrev pub WereMeantEdit : {D : Type 0} (g : Ghosts D) → CachedDisk D g → StoreFiles →
    Option Change → List BatchContent → Type 0
WereMeantEdit g files store None list = WereMeantToHold (g.state (inner_disk files)) store list
WereMeantEdit g files store (Some edit) list =
    MeantWithOutputs (g.state (inner_disk files)) store list edit

-- what the completion of its last output keeps
abbrev pub KeepsCompleted : {D : Type 0} (g : Ghosts D) → (a b : CachedDisk D g) → StoreFiles →
    Merge D → Result (Option Change) EngineError → Type 0
KeepsCompleted g a b store was result =
    KeepsPart g (IsMergeFile store (Some was)) (λ IsSaid. IsSaid (known_facts store))
    (PartMayFail g a store (Some was)) ⊥ (HoldsWithMerge g a store (Some was))
    (WasMeantWithMerge g a store (Some was)) (HoldEdit g b store) (WereMeantEdit g b store)
    a b store store result

-- the edit is that of a merge of this plan, or with its outputs, which so many bytes of data
-- complete, the version would have too many tables
abbrev pub IsEditOf : StoreFiles → MergePlan → ℕ → Option Change → Type 0
IsEditOf store plan target None =
    HasTooManyTables (known_version store).version plan (known_facts store).floor target
IsEditOf store plan target (Some edit) =
    (outputs : List LevelTable) × AreWrittenTables (known_facts store).floor target plan outputs
    × IsMerged (known_facts store).floor plan outputs
    × AllZip IsLineOf edit.tables_added outputs
    × (edit ≡ merge_change (known_version store).version store.free_file
    (map table_name plan.inputs) edit.tables_added)

-- ---- a merge is given up

-- the first free file behind a merge that is given up: where it began, or behind what a flush took
-- since
abbrev pub free_behind : ℕ → StoreFiles → ℕ
free_behind first store = min (max first (known_version store).version.next_file) store.free_file

-- what the end of a merge that used numbers of files from this one on made of the open files: their
-- version is the one after the edit, or, where there is none, the merge was given up
abbrev pub IsEndedBy : ℕ → StoreFiles → StoreFiles → Option Change → Type 0
IsEndedBy first old new None = new ≡ with_free old (free_behind first old)
IsEndedBy first old new (Some edit) = IsMergedBy edit old new

-- the merge began with a number that no slot has, and this is so of the list
abbrev pub BeganLate : {D : Type 0} → Merge D → (List BatchContent → Type 0) →
    List BatchContent → Type 0
BeganLate merge IsSaid list = (3 ≤ begun_number merge) × IsSaid list

-- what it keeps that a merge is given up, where it began with a number that no slot has
abbrev pub KeepsAbandoned : {D : Type 0} (g : Ghosts D) → Merge D → (a b : CachedDisk D g) →
    (old new : StoreFiles) → Result (Unit {0}) EngineError → Type 0
KeepsAbandoned g merge a b old new result =
    KeepsPart g (IsLeftover (begun_number merge) old.free_file (known_version old).version)
    (λ IsSaid. IsSaid (known_facts old)) ⊥ ⊥ (BeganLate merge (HoldsWithMerge g a old None))
    (BeganLate merge (WasMeantWithMerge g a old None)) (λ _. HoldsWithMerge g b new None)
    (λ _. WasMeantWithMerge g b new None) a b old new result

-- the files that a merge wrote, which used numbers from this one on, are gone
abbrev pub HasNoLeftovers : {D : Type 0} (g : Ghosts D) → ℕ → StoreFiles → CachedDisk D g → Type 0
HasNoLeftovers g first store files =
    (file : ℕ) → IsLeftover first store.free_file (known_version store).version file →
    IsNone (seen (g.state (inner_disk files) file))

-- ---- what an end did

-- what a tend answers where a merge ends by this edit, or is given up
abbrev pub ended_answer : Option Change → Tended
ended_answer None = tended.Full
ended_answer (Some edit) = tended.Worked

-- What the end of a merge did of any files, and of those over which it was under way by a plan.
pub record MergeHasEnded {D : Type 0} (g : Ghosts D) (a b : CachedDisk D g) (old new : StoreFiles)
    (was : Merge D) (answer : Tended) : Type 0 where
  pub made : Option Change
  pub told : answer ≡ ended_answer made
  pub ended : IsEndedBy (begun_number was) old new made
  pub edit : (tables : List LevelTable) (plan : MergePlan) → IsMergeOf g a old tables was plan →
      IsEditOf old plan (target_of was) made
  pub removed : g.is_honest (inner_disk a) → made ≡ None →
      HasNoLeftovers g (begun_number was) old b
  pub inputs_gone : g.is_honest (inner_disk a) →
      IfSome made (λ it. AreAbsent (replaced_files it) (g.state (inner_disk b)))
