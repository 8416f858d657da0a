-- A merge that is planned for the tables of a store can end in it.
use Rattle.std.proofs.Common.{◌≡◌, ◌⊎◌, inl, inr, ℕ, zero, suc, ◌<◌, Contains, sym, ◌∙◌, subst}
use Rattle.std.proofs.Common.{arith}
use Rattle.store_model.specs.Keys.{AreDisjointRanges}
use Rattle.store_model.specs.Tables.{AreLeveled, LevelTable}
use Rattle.store_model.specs.Stores.{StoreState}
use Rattle.store_model.specs.Steps.{IsPlanned, IsUnderWay, MergePlan, PlanFits}

zero_or_more : (n : ℕ) → (n ≡ 0) ⊎ (0 < n)
zero_or_more zero = inl (omega arith)
zero_or_more (suc n) = inr (omega arith)

module _ (flushed : ℕ) (plan : MergePlan) (ok : AreLeveled flushed plan.tables)
    (planned : IsPlanned plan) where
  -- of a level from 1 on one table is an input, and does not overlap the others
  others_beside : (t : LevelTable) → Contains plan.tables t → t.level ≡ plan.level → 0 < plan.level
      → Contains plan.inputs t ⊎ AreDisjointRanges plan.range t.range
  others_beside t in_t at pos =
      let one = planned.one pos in
      let one_at = one.2 in
      elim (ok.disjoint one.0 t (planned.there one.0 one.1) in_t (one_at ∙ sym at)
      (omega (arith, one_at, pos))) [
        | inl is ↦ inl (subst (λ z. Contains plan.inputs z) is one.1)
        | inr side ↦ inr (subst (λ z. AreDisjointRanges z t.range) one.3 side)
      ]

  plan_fits : PlanFits flushed plan plan.tables
  plan_fits = record {
    there = planned.there;
    levels = λ t in_t. elim (planned.levels t in_t) [
      | inl at ↦ inl (at, planned.joint t in_t at)
      | inr at ↦ inr (at, planned.needed t in_t at)
    ];
    early = λ a h. ok.numbers a (h.0, planned.there h.0 h.1, h.2);
    upper = λ t in_t at. elim (zero_or_more plan.level) [
      | inl is ↦ inl (planned.all is t in_t (at ∙ is))
      | inr pos ↦ elim (others_beside t in_t at pos)
          [ inl taken ↦ inl taken | inr side ↦ inr (inr side) ]
    ];
    lower = planned.overlapping;
  }

pub plan_under_way : (store : StoreState) (plan : MergePlan)
    → AreLeveled store.flushed store.tables → IsPlanned plan → plan.tables ≡ store.tables
    → IsUnderWay store plan
plan_under_way store plan ok planned is = record {
  base = store.flushed;
  base_flushed = omega arith;
  fits = subst (λ z. PlanFits store.flushed plan z) is
      (plan_fits store.flushed plan (subst (λ z. AreLeveled store.flushed z) (sym is) ok) planned);
  alike = record {
    to = λ t in_t pos. subst (λ z. Contains z t) is in_t;
    back = λ t in_t pos. subst (λ z. Contains z t) (sym is) in_t;
  };
}
