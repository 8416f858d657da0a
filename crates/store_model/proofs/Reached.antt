-- After every run the store represents its list.
use Rattle.std.proofs.Common.{◌≡◌, inl, inr, ℕ, zero, suc, List, [], ◌∷◌, take, Contains}
use Rattle.std.proofs.Common.{Option, Some, None, IfSome, refl, arith}
use Rattle.kv_types.specs.{BatchContent, stored_map_of}
use Rattle.kv_types.specs.Entries.{ViewsAreStored}
use Rattle.store_model.specs.Tables.{LevelTable}
use Rattle.store_model.specs.Stores.{StoreRepresents, StoreState, empty_store}
use Rattle.store_model.specs.Steps.{AreEdited, IsFlush, IsUnderWay, MergePlan}
use Rattle.store_model.specs.Steps.{flushed_store, raised_store}
use Rattle.store_model.specs.Runs.{IsReached, Created, Appended, Flushed, Begun, Ended, Forgotten}
use Rattle.store_model.specs.PlacesLemmas.{contains_none}
use Rattle.store_model.specs.StoresLemmas.{entry_within}
use Rattle.store_model.proofs.Grows.{append_keeps, raise_keeps}
use Rattle.store_model.proofs.Flushes.{flush_keeps, flush_leaves}
use Rattle.store_model.proofs.Plans.{plan_under_way}
use Rattle.store_model.proofs.MergeViews.{merge_keeps}

empty_map : (at : ℕ) (key : List ℕ) → stored_map_of (take at []) key ≡ None
empty_map zero key = refl
empty_map (suc at) key = refl

pub empty_represents : StoreRepresents [] empty_store
empty_represents =
    let none : (t : LevelTable) → Contains [] t → ⊥ = λ t c. contains_none t c in
    record {
      tables = record {
        ranges = λ t c. absurd (none t c);
        numbers = λ a h. absurd (none h.0 h.1);
        unique = λ t u c. absurd (none t c);
        newer = λ t u c. absurd (none t c);
        disjoint = λ t u c. absurd (none t c);
      };
      kept_floor = omega arith;
      kept_current = omega arith;
      current_flushed = omega arith;
      flushed_count = omega arith;
      floor_count = omega arith;
      views = λ at high short key. inr (
        λ other seen same. elim seen.0 [
          | inl h ↦ none h.0 h.1
          | inr g ↦
              let le = entry_within [] other g.2 in
              let lt = g.1 in
              absurd (omega (arith, le, lt))
        ],
        empty_map at key,
      );
      real = λ at high short entry shown. elim shown.newest.seen.0 [
        | inl h ↦ absurd (none h.0 h.1)
        | inr g ↦
            let le = entry_within [] entry g.2 in
            let lt = g.1 in
            absurd (omega (arith, le, lt))
      ];
    }

-- a merge under way, if there is one, can end
abbrev CanEnd : StoreState → Option MergePlan → Type 0
CanEnd store plan = IfSome plan (λ it. IsUnderWay store it)

flush_can_end : (l : List BatchContent) (store : StoreState) (plan : Option MergePlan)
    (table : LevelTable) (after : List LevelTable) → StoreRepresents l store
    → IsFlush l store table → AreEdited [] (table ∷ []) store.tables after → CanEnd store plan
    → CanEnd (flushed_store l store after) plan
flush_can_end l store None table after ok flush edited way = tt
flush_can_end l store (Some plan) table after ok flush edited way =
    flush_leaves l store table after ok flush edited plan way

-- a plan for the tables does not look at the floor
pub raised_way : (store : StoreState) (floor kept : ℕ) (plan : MergePlan) → IsUnderWay store plan
    → IsUnderWay (raised_store store floor kept) plan
raised_way store floor kept plan way = record {
  base = way.base;
  base_flushed = way.base_flushed;
  fits = way.fits;
  alike = way.alike;
}

pub reached : ViewsAreStored
    → (l : List BatchContent) (store : StoreState) (plan : Option MergePlan)
    → IsReached l store plan → StoreRepresents l store × CanEnd store plan
reached law _ _ _ Created = (empty_represents, tt)
reached law _ _ _ (Appended l store plan batch r) =
    let ok = reached law l store plan r in (append_keeps law l store batch ok.0, ok.1)
reached law _ _ _ (Flushed l store plan table after r flush edited) =
    let ok = reached law l store plan r in (
      flush_keeps l store table after ok.0 flush edited,
      flush_can_end l store plan table after ok.0 flush edited ok.1,
    )
reached law _ _ _ (Begun l store was floor kept plan r rise planned is) =
    let ok = reached law l store was r in (
      raise_keeps l store floor kept ok.0 rise,
      raised_way store floor kept plan (plan_under_way store plan ok.0.tables planned is),
    )
reached law _ _ _ (Ended l store plan outputs after r merged edited) =
    let ok = reached law l store (Some plan) r in
    (merge_keeps l store plan store.floor outputs after ok.0 ok.1 merged edited (omega arith), tt)
reached law _ _ _ (Forgotten l store plan r) = ((reached law l store plan r).0, tt)
