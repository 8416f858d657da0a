-- The worked example: which merges are planned.
use Rattle.std.proofs.Common.{◌≡◌, ◌⊎◌, inl, [], ◌∷◌, refl, arith}
use Rattle.store_model.specs.Keys.{AreDisjointRanges, RangeLiesIn}
use Rattle.store_model.specs.Steps.{IsPlanned}
use Rattle.store_model.specs.Examples.{PlanExamples, a_table, b_table, both_keys, first_key}
use Rattle.store_model.specs.Examples.{merge_of}
use Rattle.store_model.specs.Examples.{key_a, key_b}
use Rattle.store_model.specs.PlacesLemmas.{contains_it, contains_none, for_one, for_two}
use Rattle.store_model.proofs.ExampleEntries.{other_key}
use Rattle.store_model.proofs.ExampleStores.{a_not_a}

level_5 : IsPlanned (merge_of 5 first_key (a_table 5 ∷ []))
level_5 = record {
  level = omega arith;
  there = λ t in_t. in_t;
  levels = for_one (λ t. (t.level ≡ 5) ⊎ (t.level ≡ 6)) (a_table 5) (inl refl);
  all = λ zero. absurd (omega (arith, zero));
  one = λ pos. (a_table 5, contains_it (a_table 5), refl, refl);
  joint = for_one (λ t. t.level ≡ 5 → RangeLiesIn t.range first_key) (a_table 5)
      (λ at. (a_not_a, a_not_a));
  least = (a_table 5, contains_it (a_table 5), refl, refl);
  greatest = (a_table 5, contains_it (a_table 5), refl, refl);
  overlapping = λ t in_t at. inl in_t;
  needed = for_one (λ t. t.level ≡ 6 → AreDisjointRanges first_key t.range → ⊥) (a_table 5)
      (λ at. absurd (omega (arith, at)));
}

level_6 : IsPlanned (merge_of 6 first_key (a_table 6 ∷ [])) → ⊥
level_6 p = let le = p.level in absurd (omega (arith, le))

too_great : IsPlanned (merge_of 0 both_keys (a_table 0 ∷ b_table 1 ∷ [])) → ⊥
too_great p =
    let end = p.greatest in
    for_two (λ t. t.level ≡ 0 → t.range.greatest ≡ key_b → ⊥) (a_table 0) (b_table 1)
    (λ at is. other_key key_a key_b refl is) (λ at is. absurd (omega (arith, at)))
    end.0 end.1 end.2 end.3

too_small : IsPlanned (merge_of 0 both_keys (b_table 0 ∷ a_table 1 ∷ [])) → ⊥
too_small p =
    let end = p.least in
    for_two (λ t. t.level ≡ 0 → t.range.least ≡ key_a → ⊥) (b_table 0) (a_table 1)
    (λ at is. other_key key_b key_a refl is) (λ at is. absurd (omega (arith, at)))
    end.0 end.1 end.2 end.3

no_upper : IsPlanned (merge_of 0 first_key (a_table 1 ∷ [])) → ⊥
no_upper p =
    let end = p.least in
    for_one (λ t. t.level ≡ 0 → ⊥) (a_table 1) (λ at. absurd (omega (arith, at))) end.0 end.1 end.2

pub plan_examples : PlanExamples
plan_examples = record {
  level_5 = level_5;
  level_6 = level_6;
  too_great = too_great;
  too_small = too_small;
  no_upper = no_upper;
  nothing = λ p. contains_none p.least.0 p.least.1;
}
