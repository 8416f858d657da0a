-- An engine over the files that it holds, and what its calls keep.
use Rattle.std.proofs.Common.{◌≡◌, ℕ, List, [], Option, Some, None, Result, Ok, Err, inl, inr}
use Rattle.std.proofs.Common.{refl}
use Rattle.std.proofs.Common.{sym, ap, subst, ◌∙◌}
use Rattle.std.specs.Prelude.{◌⊎◌, IfErr, IsErrAnd, IsErrOf, OnOk}
use Rattle.kv_types.specs.declared.Limits.{Limits}
use Rattle.kv_types.specs.{BatchContent}
use Rattle.disk.specs.declared.Disk.{Ghosts}
use Rattle.disk.specs.{Contents, IsEnvironmental, IsSame}
use Rattle.disk.specs.{KeepsDisk, LeavesSince, OnlyLeaves, State}
use Rattle.disk.specs.MomentsLemmas.{none_yet}
use Rattle.engine.specs.declared.engine.Engine.{Engine}
use Rattle.store_tables.specs.declared.error.EngineError.{EngineError}
use Rattle.store_files.specs.declared.store_files.StoreFiles.{StoreFiles}
use Rattle.store_tables.specs.declared.error.EngineError.TheVariants as engine
use Rattle.engine.specs.Calls.{ExplainsRefusal, KeepsEngine, ListFollows, IsAdrift, IsNoDamage}
use Rattle.disk.specs.KeepingLemmas.{answered, kept_as, neither}
use Rattle.store_tables.specs.RefusalLemmas.{on_ok, passed_on, refuses}
use Rattle.engine.specs.Calls.{disk_after}
use Rattle.engine.specs.Engines.{EngineHolds, EngineReads, EngineWasMeant, HasEnded, IsInMemory}
use Rattle.engine.specs.Engines.{IsNearlyFull, LookUps, WasMeantInMemory, engine_disk, facts_of}
use Rattle.engine.specs.LentFiles.{files_ghosts}
use Rattle.engine.specs.UnderWay.{HoldsWithMerge, MergesOfEngineLast, WasMeantWithMerge}
use Rattle.table_files.specs.{inner_disk}
use Rattle.table_files.specs.declared.cached_disk.CachedDisk.{CachedDisk}
use Rattle.engine.proofs.Results.{closed_by, ends_by, is_refused, no_refusal, of_refusal, off_of}
use Rattle.engine.proofs.Merges.{held_same, meant_same}
use Rattle.compaction.specs.declared.Merge.{Merge}
use Rattle.store_tables.specs.Errors.{IsEnd}
use Rattle.store_files.specs.Files.{Facts}
use Rattle.store_files.specs.HeldFiles.{HeldFilesAreLeft}
use Rattle.store_files.specs.OpenFiles.{FilesHold, OpeningRefusal, WereMeantToHold}
use Rattle.store_files.specs.StoreFiles.{FilesRepresent, IsOneOf, StillLeavesOneOf}
use Rattle.store_files.specs.StoreFiles.{WereOneOf}
use Rattle.engine.specs.MergeParts.{PartMayFail}

-- ---- what is kept

-- what is kept of files is kept of their disk
pub kept_inside : {D : Type 0} (g : Ghosts D) (a b : CachedDisk D g) {told cause : Type 0}
    {IsKept : State → State → Type 0} → KeepsDisk (files_ghosts g) a b told cause IsKept →
    KeepsDisk g (inner_disk a) (inner_disk b) told cause IsKept
kept_inside g a b kept = record {
  honest = kept.honest;
  failed = kept.failed;
  count = kept.count;
  only = kept.only;
  reliable = kept.reliable;
  files = kept.files;
  fault = kept.fault;
  spared = kept.spared;
}

-- a call of an engine that works, whose store is refused for the device, damage or memory, ends it
pub refused_keeps : {D T U : Type 0} (g : Ghosts D) (old new : Engine D g)
    (called : Result U EngineError) (e : EngineError) (result : Result T EngineError)
    {cause : Type 0} {IsKept : State → State → Type 0} → called ≡ Err e →
    IsErrAnd result (λ s. s ≡ e) → IsEnd e → (HasEnded old → ⊥) → HasEnded new →
    KeepsDisk (files_ghosts g) old.files new.files (IsErrOf called engine.Disk) cause IsKept →
    KeepsEngine g old new result cause IsKept
refused_keeps g old new called e result was told end works ended kept =
    let causes = of_refusal result (λ _. Unit {0}) IsEnd
    (refuses result (λ _. Unit {0}) IsEnd told end) in
    let off = off_of old.has_ended works in
    record {
      disk = kept_as g (passed_on called e result was told) (λ a b same. same)
          (kept_inside g old.files new.files kept);
      closed = closed_by result old.has_ended off causes;
      ends = ends_by result old.has_ended new.has_ended off (ended ∙ sym (is_refused result e told))
          causes;
      refusal = λ other. absurd (no_refusal result causes other);
    }

-- one whose store answers leaves it at work
pub answered_keeps : {D T U : Type 0} (g : Ghosts D) (old new : Engine D g)
    (called : Result U EngineError) (x : U) (answer : T) {cause : Type 0}
    {IsKept : State → State → Type 0} → called ≡ Ok x → (HasEnded old → ⊥) →
    (HasEnded new → ⊥) →
    KeepsDisk (files_ghosts g) old.files new.files (IsErrOf called engine.Disk) cause IsKept →
    KeepsEngine g old new (Ok answer) cause IsKept
answered_keeps g old new called x answer was works on kept = record {
  disk = kept_as g (neither (answered called was) (λ fails. absurd cc)) (λ a b same. same)
      (kept_inside g old.files new.files kept);
  closed = (λ failed. absurd cc, λ h. absurd (works h));
  ends = (
    λ h. absurd (on h),
    λ one. elim one [
      | inl h ↦ absurd (works h)
      | inr none ↦ absurd none
    ],
  );
  refusal = λ told. absurd told;
}

-- look-ups with equal facts and counts are equal
pub told_alike : {facts is : Facts} {count number committed : ℕ} {limits : Limits}
    {snapshots : List ℕ} → facts ≡ is → count ≡ number →
    ◌≡◌ {A = LookUps} (record {
      facts = facts;
      count = count;
      committed = committed;
      limits = limits;
      snapshots = snapshots;
    }) (record {
      facts = is;
      count = number;
      committed = committed;
      limits = limits;
      snapshots = snapshots;
    })
told_alike facts count = rw (facts, count) refl

-- an engine with these facts and so many batches, of which none is known to be committed, and
-- without snapshots
pub told_of : {facts is : Facts} {count number : ℕ} {limits : Limits} {snapshots : List ℕ} →
    facts ≡ is → count ≡ number → snapshots ≡ [] →
    ◌≡◌ {A = LookUps}
    (record { facts = facts; count = count; committed = 0; limits = limits; snapshots = snapshots })
    (record { facts = is; count = number; committed = 0; limits = limits; snapshots = [] })
told_of facts count none = rw (facts, count, none) refl

-- ---- openings

-- damage is no external refusal
not_external : IsEnvironmental engine.Disk engine.Memory engine.Damaged → ⊥
not_external (inl is) = cc
not_external (inr is) = cc

-- a refusal that is external is no damage
pub no_damage : {T : Type 0} (result : Result T EngineError) →
    IfErr result (IsEnvironmental engine.Disk engine.Memory) →
    IsNoDamage result
no_damage (Ok x) why = λ damaged. cc
no_damage (Err e) why = λ damaged.
    let is : e ≡ engine.Damaged = cc in
    not_external (subst (IsEnvironmental engine.Disk engine.Memory) is why)

-- a refusal to open files says what is wrong with them
pub explains : (e : EngineError) (left : Contents) → OpeningRefusal e left →
    ((facts : Facts) (list : List BatchContent) → FilesRepresent facts list left →
    IsEnvironmental engine.Disk engine.Memory e) → ExplainsRefusal e left
explains engine.Disk left told opens = tt
explains engine.Damaged left told opens = record {
  created = told.0;
  old = told.1;
  no_store = λ facts list files. not_external (opens facts list files);
  shut = told.2;
}
explains engine.Memory left told opens = tt
explains engine.NotCreated left told opens = told
explains engine.Failed left told opens = told
explains engine.TooOld left told opens = told
explains engine.NotCommitted left told opens = told
explains engine.NoSuchSnapshot left told opens = told
explains engine.TooManySnapshots left told opens = told
explains engine.Exhausted left told opens = told
explains engine.OldFormat left told opens = told

-- ---- an engine

-- an engine that reads a list holds it in its files
pub held_of : {D : Type 0} (g : Ghosts D) (engine : Engine D g) (list : List BatchContent) →
    EngineReads g engine list → FilesHold (g.state (engine_disk engine)) engine.store list
unfolding IsInMemory
held_of g engine list r = r.inside.held

-- and its merge is under way over them
pub merged_of : {D : Type 0} (g : Ghosts D) (engine : Engine D g) (list : List BatchContent) →
    EngineReads g engine list → HoldsWithMerge g engine.files engine.store engine.merge list
unfolding IsInMemory
merged_of g engine list r = r.inside

-- and its files were meant to hold what it was
pub were_meant : {D : Type 0} (g : Ghosts D) (engine : Engine D g) (list : List BatchContent) →
    EngineWasMeant g engine list →
    WereMeantToHold (g.state (engine_disk engine)) engine.store list
unfolding WasMeantInMemory
were_meant g engine list m = m.inside.was

-- with a merge under way over them
pub meant_with_merge : {D : Type 0} (g : Ghosts D) (engine : Engine D g)
    (list : List BatchContent) → EngineWasMeant g engine list →
    WasMeantWithMerge g engine.files engine.store engine.merge list
unfolding WasMeantInMemory
meant_with_merge g engine list m = m.inside

-- where a tend of its files may fail, they are nearly full, or the disk has none of the engine
pub may_fail : {D : Type 0} (g : Ghosts D) (engine : Engine D g) →
    PartMayFail g engine.files engine.store engine.merge → IsNearlyFull engine ⊎ IsAdrift g engine
may_fail g engine (inl full) = inl (inr full)
may_fail g engine (inr none) = inr (λ list r. none list r.honest (merged_of g engine list r))

module _ {D : Type 0} (g : Ghosts D) (laws : HeldFilesAreLeft) where
  -- ---- what it holds

  -- what it holds, it was meant to
  pub meant_as_held : (engine : Engine D g) (list : List BatchContent) →
      EngineReads g engine list → WereMeantToHold (g.state (engine_disk engine)) engine.store list
  meant_as_held engine list r =
      let disk = g.state (engine_disk engine) in
      let held = held_of g engine list r in
      record { meant = disk; hold = held; disk_is = laws.as_is disk engine.store list held }

  -- with its merge
  merge_as_held : (files : CachedDisk D g) (store : StoreFiles) (merge : Option (Merge D))
      (list : List BatchContent) → HoldsWithMerge g files store merge list →
      WasMeantWithMerge g files store merge list
  merge_as_held files store None list h =
      let disk = g.state (inner_disk files) in
      record {
        was = record { meant = disk; hold = h.held; disk_is = laws.as_is disk store list h.held };
        merges = tt;
      }
  merge_as_held files store (Some merge) list h =
      let disk = g.state (inner_disk files) in
      record {
        was = record { meant = disk; hold = h.held; disk_is = laws.as_is disk store list h.held };
        merges = record { plan = h.merges.plan; under_way = h.merges.under_way };
      }

  pub meant_merge_as_held : (engine : Engine D g) (list : List BatchContent) →
      EngineReads g engine list →
      WasMeantWithMerge g engine.files engine.store engine.merge list
  meant_merge_as_held engine list r =
      merge_as_held engine.files engine.store engine.merge list (merged_of g engine list r)

  is_inside : (engine : Engine D g) (list : List BatchContent) →
      HoldsWithMerge g engine.files engine.store engine.merge list → IsInMemory g engine list
  unfolding IsInMemory
  is_inside engine list h = h

  -- an engine whose store holds the list reads it
  pub reads_of : (engine : Engine D g) (list : List BatchContent) →
      g.is_honest (engine_disk engine) → (HasEnded engine → ⊥) →
      HoldsWithMerge g engine.files engine.store engine.merge list → EngineReads g engine list
  reads_of engine list honest works h =
      let disk = g.state (engine_disk engine) in
      record {
        honest = honest;
        works = works;
        represents = laws.held.reads disk engine.store list h.held;
        count = h.held.known.count;
        inside = is_inside engine list h;
      }

  -- all of it is durable
  pub holds_of : (engine : Engine D g) (list : List BatchContent) → EngineReads g engine list →
      EngineHolds g engine list
  holds_of engine list r = record {
    reads = r;
    crash = laws.held.crash (g.state (engine_disk engine)) engine.store list
        (held_of g engine list r);
  }

  -- ---- damaged tables

  -- an engine whose store was meant to hold the list
  pub meant_of : (engine : Engine D g) (list : List BatchContent) →
      g.is_honest (engine_disk engine) → (HasEnded engine → ⊥) →
      WasMeantWithMerge g engine.files engine.store engine.merge list →
      EngineWasMeant g engine list
  unfolding WasMeantInMemory
  meant_of engine list honest works w =
      let disk = g.state (engine_disk engine) in
      record {
        honest = honest;
        works = works;
        represents = laws.meant.reads disk engine.store list w.was;
        crash = laws.meant.crash disk engine.store list w.was;
        count = w.was.hold.known.count;
        inside = w;
      }

  -- ---- calls of an engine

  -- an answer leaves an engine that holds what its store holds, or was meant to
  pub goes_to : {T : Type 0} (old new : Engine D g) (list more : List BatchContent)
      (result : Result T EngineError) →
      (g.is_honest (engine_disk old) → g.is_honest (engine_disk new)) →
      OnOk result (HasEnded new → ⊥) →
      (g.is_honest (engine_disk old) → HoldsWithMerge g old.files old.store old.merge list →
      OnOk result (HoldsWithMerge g new.files new.store new.merge more)) →
      (g.is_honest (engine_disk old) → WasMeantWithMerge g old.files old.store old.merge list →
      OnOk result (WasMeantWithMerge g new.files new.store new.merge more)) →
      ListFollows g old new list more result
  goes_to old new list more (Ok x) honest works held were =
      let next : EngineReads g old list → EngineReads g new more = λ r.
      reads_of new more (honest r.honest) works (held r.honest (merged_of g old list r)) in
      record {
        reads = next;
        holds = λ h. holds_of new more (next h.reads);
        meant = λ m. meant_of new more (honest m.honest) works
            (were m.honest (meant_with_merge g old list m));
      }
  goes_to old new list more (Err e) honest works held were =
      record { reads = λ r. tt; holds = λ h. tt; meant = λ m. tt }

  -- the disk, the store and the merge of an engine are the same
  pub record IsAsBefore (old new : Engine D g) : Type 0 where
    pub store : new.store ≡ old.store
    pub merge : new.merge ≡ old.merge
    pub honest : g.is_honest (engine_disk old) → g.is_honest (engine_disk new)
    pub same : g.is_honest (engine_disk old) →
        IsSame (g.state (engine_disk old)) (g.state (engine_disk new))

  module _ (lasts : MergesOfEngineLast g) where
    -- what the old engine held, the new one holds
    stays_held : (old new : Engine D g) (list : List BatchContent) → IsAsBefore old new →
        g.is_honest (engine_disk old) → HoldsWithMerge g old.files old.store old.merge list →
        HoldsWithMerge g new.files new.store new.merge list
    stays_held old new list as_before honest held =
        subst (λ (s : StoreFiles). HoldsWithMerge g new.files s new.merge list)
        (sym as_before.store)
        (subst (λ (m : Option (Merge D)). HoldsWithMerge g new.files old.store m list)
        (sym as_before.merge) (held_same g lasts old.files new.files (as_before.honest honest)
        (as_before.same honest) old.store old.merge list held))

    -- and what it was meant to hold
    stays_meant : (old new : Engine D g) (list : List BatchContent) → IsAsBefore old new →
        g.is_honest (engine_disk old) → WasMeantWithMerge g old.files old.store old.merge list →
        WasMeantWithMerge g new.files new.store new.merge list
    stays_meant old new list as_before honest w =
        subst (λ (s : StoreFiles). WasMeantWithMerge g new.files s new.merge list)
        (sym as_before.store)
        (subst (λ (m : Option (Merge D)). WasMeantWithMerge g new.files old.store m list)
        (sym as_before.merge) (meant_same g lasts old.files new.files (as_before.honest honest)
        (as_before.same honest) old.store old.merge list w))

    pub reads_on : (old new : Engine D g) (list : List BatchContent) → IsAsBefore old new →
        (HasEnded new → ⊥) → EngineReads g old list → EngineReads g new list
    reads_on old new list as_before works r =
        reads_of new list (as_before.honest r.honest) works
        (stays_held old new list as_before r.honest (merged_of g old list r))

    -- an answer leaves the list
    pub goes_on : {T : Type 0} (old new : Engine D g) (list : List BatchContent)
        (result : Result T EngineError) → IsAsBefore old new → OnOk result (HasEnded new → ⊥) →
        ListFollows g old new list list result
    goes_on old new list result as_before works =
        goes_to old new list list result as_before.honest works
        (λ honest held. on_ok result (stays_held old new list as_before honest held))
        (λ honest w. on_ok result (stays_meant old new list as_before honest w))

  -- ---- moments

  -- no call leaves what the engine holds
  pub none_since : (engine : Engine D g) (list : List BatchContent) → EngineReads g engine list →
      (past : List State) → LeavesSince (g.state (engine_disk engine)) past
      (g.state (engine_disk engine)) past (FilesRepresent (facts_of engine) list)
  none_since engine list r past =
      none_yet (FilesRepresent (facts_of engine) list) (g.state (engine_disk engine)) past
      (holds_of engine list r).crash

-- a refusal that returns the disk as it was leaves what it left
pub still_refused : {D : Type 0} (g : Ghosts D) (P : Contents → Type 0) (disk : D)
    (result : Result (Engine D g) (EngineError × D)) (e told : EngineError × D) → result ≡ Err e →
    e ≡ told → told.1 ≡ disk → OnlyLeaves P (g.state disk) →
    LeavesSince (g.state disk) (g.past disk) (g.state (disk_after result))
    (g.past (disk_after result)) P
still_refused {D = D} g P disk result e told is same given only =
    let back : disk_after result ≡ disk =
    ap (λ (r : Result (Engine D g) (EngineError × D)). disk_after r) is
    ∙ ap (λ (p : EngineError × D). p.1) same ∙ given in
    subst (λ (d : D). LeavesSince (g.state disk) (g.past disk) (g.state d) (g.past d) P) (sym back)
    (none_yet P (g.state disk) (g.past disk) only)

-- moments since a disk are those since an equal one
pub leaves_since_same : {D : Type 0} (g : Ghosts D) {disk was new : D} (facts : Facts)
    (list : List BatchContent) (facts' : Facts) (list' : List BatchContent) → was ≡ disk →
    (OnlyLeaves (IsOneOf facts list facts' list') (g.state was) →
    LeavesSince (g.state was) (g.past was) (g.state new) (g.past new)
    (IsOneOf facts list facts' list')) →
    (OnlyLeaves (WereOneOf facts list facts' list') (g.state was) →
    LeavesSince (g.state was) (g.past was) (g.state new) (g.past new)
    (WereOneOf facts list facts' list')) →
    StillLeavesOneOf g disk new facts list facts' list'
leaves_since_same {D = D} g {new = new} facts list facts' list' is whole meant =
    subst (λ (d : D). StillLeavesOneOf g d new facts list facts' list') is
    (record { whole = whole; meant = meant })
