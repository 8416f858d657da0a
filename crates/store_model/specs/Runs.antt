-- The runs of a store: every list, store and merge under way that its steps can reach.
use Rattle.std.specs.Prelude.{◌≡◌, ℕ, List, [], ◌∷◌, ◌++◌, Option, Some, None}
use Rattle.kv_types.specs.{BatchContent}
use Rattle.store_model.specs.Tables.{LevelTable}
use Rattle.store_model.specs.Stores.{StoreState, empty_store}
use Rattle.store_model.specs.Steps.{AreEdited, IsFlush, IsMerged, IsPlanned, IsRaise, MergePlan}
use Rattle.store_model.specs.Steps.{flushed_store, raised_store, with_tables}

-- steps from the empty store reach this list of batches, this store, and this merge under way
pub data IsReached : List BatchContent → StoreState → Option MergePlan → Type 0 where
  Created : IsReached [] empty_store None
  Appended : (batches : List BatchContent) (store : StoreState) (plan : Option MergePlan)
      (batch : BatchContent) → IsReached batches store plan
      → IsReached (batches ++ batch ∷ []) store plan
  Flushed : (batches : List BatchContent) (store : StoreState) (plan : Option MergePlan)
      (table : LevelTable) (after : List LevelTable) → IsReached batches store plan
      → IsFlush batches store table → AreEdited [] (table ∷ []) store.tables after
      → IsReached batches (flushed_store batches store after) plan
  -- a merge is planned for the tables of now; it begins with a rise of the floor
  Begun : (batches : List BatchContent) (store : StoreState) (was : Option MergePlan)
      (floor kept : ℕ) (plan : MergePlan) → IsReached batches store was
      → IsRaise batches store floor kept → IsPlanned plan → plan.tables ≡ store.tables
      → IsReached batches (raised_store store floor kept) (Some plan)
  -- it ends at the floor of now
  Ended : (batches : List BatchContent) (store : StoreState) (plan : MergePlan)
      (outputs after : List LevelTable) → IsReached batches store (Some plan)
      → IsMerged store.floor plan outputs → AreEdited plan.inputs outputs store.tables after
      → IsReached batches (with_tables store after) None
  -- a stop forgets it, and so does a merge that needs too many files
  Forgotten : (batches : List BatchContent) (store : StoreState) (plan : Option MergePlan)
      → IsReached batches store plan → IsReached batches store None
