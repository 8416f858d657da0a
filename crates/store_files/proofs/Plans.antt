-- Planned merges in stores.
use Rattle.std.proofs.Common.{◌≡◌, ◌≤◌, List, Result, arith, subst, sym}
use Rattle.std.specs.Prelude.{IsErrAnd}
use Rattle.disk.specs.declared.Disk.{Ghosts}
use Rattle.disk.specs.{State}
use Rattle.kv_types.specs.{BatchContent}
use Rattle.store_model.specs.{AreAlikeDeeper, IsUnderWay, LevelTable, MergePlan, PlanFits}
use Rattle.store_model.specs.{StoreState}
use Rattle.store_tables.specs.declared.error.EngineError.{EngineError}
use Rattle.store_files.specs.declared.store_files.StoreFiles.{StoreFiles}
use Rattle.store_files.specs.Plans.{KeepPlans}
use Rattle.store_files.proofs.TendKeeps.{refusal_on_ok}

-- a merge can end in a store with the same tables, and no fewer batches in them
pub ends_in : (a b : StoreState) (plan : MergePlan) → a.flushed ≤ b.flushed → b.tables ≡ a.tables →
    IsUnderWay a plan → IsUnderWay b plan
ends_in a b plan more same it = record {
  base = it.base;
  base_flushed = let base = it.base_flushed in omega (arith, base, more);
  fits = subst (λ (t : List LevelTable). PlanFits it.base plan t) (sym same) it.fits;
  alike = subst (λ (t : List LevelTable). AreAlikeDeeper plan.tables t) (sym same) it.alike;
}

-- a call that is refused keeps plans
pub refused_plans : {D T : Type 0} (g : Ghosts D)
    {Held WereHeld : State → List BatchContent → MergePlan → Type 0}
    {after : List BatchContent → List BatchContent} {disk later : D} {old new : StoreFiles}
    (result : Result T EngineError) (e : EngineError) → IsErrAnd result (λ s. s ≡ e) →
    old.free_file ≤ new.free_file → KeepPlans g Held WereHeld after disk later old new result
refused_plans g result e told free = record {
  free = free;
  held = λ list plan honest it. refusal_on_ok result _ _ told;
  meant = λ list plan honest it. refusal_on_ok result _ _ told;
}
