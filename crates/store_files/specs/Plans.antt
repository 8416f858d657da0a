-- Planned merges that can end in the store of open files, and calls that keep them so.
use Rattle.std.specs.Prelude.{List, OnOk, Result, ◌≤◌}
use Rattle.disk.specs.declared.Disk.{Ghosts}
use Rattle.disk.specs.{State}
use Rattle.kv_types.specs.{BatchContent}
use Rattle.store_model.specs.{IsUnderWay, MergePlan}
use Rattle.store_tables.specs.declared.error.EngineError.{EngineError}
use Rattle.store_files.specs.declared.flushing.Flushed.{Flushed}
use Rattle.store_files.specs.declared.store_files.StoreFiles.{StoreFiles}
use Rattle.store_files.specs.OpenFiles.{FilesHold, WereMeantToHold, known_store}
use Rattle.store_files.specs.Tending.{HeldAndSpilled, MeantAndSpilled}

-- ---- files in whose store a merge can end

-- the open files hold the list, and the merge of the plan can end in their store
pub record HoldWithPlan (disk : State) (files : StoreFiles) (list : List BatchContent)
    (plan : MergePlan) : Type 0 where
  pub held : FilesHold disk files list
  pub can_end : IsUnderWay (known_store files held.known.tables) plan

-- the open files were meant to hold the list, and the merge of the plan can end in their store
pub record MeantWithPlan (disk : State) (files : StoreFiles) (list : List BatchContent)
    (plan : MergePlan) : Type 0 where
  pub was : WereMeantToHold disk files list
  pub can_end : IsUnderWay (known_store files was.hold.known.tables) plan

-- the merge can end in the store of files that held the list before their entries were spilled
pub record SpilledWithPlan (disk : State) (files : StoreFiles) (list : List BatchContent)
    (it : Flushed) (plan : MergePlan) : Type 0 where
  pub spilled : HeldAndSpilled disk files list it
  pub can_end : IsUnderWay (known_store files spilled.held.known.tables) plan

-- so it is with files that were meant to hold the list
pub record MeantSpilledWithPlan (disk : State) (files : StoreFiles) (list : List BatchContent)
    (it : Flushed) (plan : MergePlan) : Type 0 where
  pub spilled : MeantAndSpilled disk files list it
  pub can_end : IsUnderWay (known_store files spilled.meant.hold.known.tables) plan

-- ---- calls that keep plans

-- Where files had a list in the first of these senses, or were meant to in the second, and a merge
-- could end in their store, it can end in that of the files after an answer, with this list.
pub record KeepPlans {D T : Type 0} (g : Ghosts D)
    (Held WereHeld : State → List BatchContent → MergePlan → Type 0)
    (after : List BatchContent → List BatchContent) (disk later : D) (old new : StoreFiles)
    (result : Result T EngineError) : Type 0 where
  -- numbers of files may be used, and none is free again
  pub free : old.free_file ≤ new.free_file
  pub held : (list : List BatchContent) (plan : MergePlan) → g.is_honest disk →
      Held (g.state disk) list plan → OnOk result (HoldWithPlan (g.state later) new (after list)
      plan)
  pub meant : (list : List BatchContent) (plan : MergePlan) → g.is_honest disk →
      WereHeld (g.state disk) list plan → OnOk result (MeantWithPlan (g.state later) new
      (after list) plan)

-- a call of open files keeps plans
abbrev pub KeepsPlans : {D T : Type 0} → Ghosts D → (List BatchContent → List BatchContent) →
    (disk later : D) → (old new : StoreFiles) → Result T EngineError → Type 0
KeepsPlans g after disk later old new result =
    KeepPlans g (λ state list plan. HoldWithPlan state old list plan)
    (λ state list plan. MeantWithPlan state old list plan) after disk later old new result

-- an installation of a spilled table keeps plans
abbrev pub InstallKeepsPlans : {D T : Type 0} → Ghosts D → Flushed → (disk later : D) →
    (old new : StoreFiles) → Result T EngineError → Type 0
InstallKeepsPlans g made disk later old new result =
    KeepPlans g (λ state list plan. SpilledWithPlan state old list made plan)
    (λ state list plan. MeantSpilledWithPlan state old list made plan) (λ list. list) disk later
    old new result
