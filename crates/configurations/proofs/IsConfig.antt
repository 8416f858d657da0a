-- The test of a configuration is passed by exactly the configurations.
use Rattle.std.proofs.Common.{◌≡◌, ◌≤◌, ℕ, List, [], ◌∷◌, refl, ap, true, false, not}
use Rattle.std.proofs.Common.{arith, length, Bool, inl, inr}
use Rattle.std.specs.Prelude.{All, nat_le}
use Rattle.std.specs.List.{list_all}
use Rattle.std.proofs.lemmas.Bool.{cases_Bool, and_parts}
use Rattle.std.proofs.lemmas.Bool.Decides.{nat_tests}
use Rattle.std.proofs.lemmas.List.Elements.{All-nil, All-cons, All-head, All-tail}
use Rattle.configurations.specs.NodeLists.{IsId}
use Rattle.kv_types.specs.{AllDifferent, has}
use Rattle.configurations.specs.Configs.{IsConfig, is_id, all_differ, is_config}
use Rattle.configurations.specs.Refusals.{IdsHave}
use Rattle.configurations.specs.declared.error.ConfigError.{ConfigError}
use Rattle.configurations.specs.declared.error.ConfigError.TheVariants as fault

all_ids : (ids : List ℕ) → All IsId ids → list_all is_id ids ≡ true
all_ids [] each = refl
all_ids (x ∷ ids) each =
    let is = All-head IsId x ids each in
    let least : nat_le 1 x ≡ true = grind (arith, nat_tests, is.0) in
    let greatest : nat_le x 65535 ≡ true = grind (arith, nat_tests, is.1) in
    rw (least, greatest) (all_ids ids (All-tail IsId x ids each))

differ : (ids : List ℕ) → AllDifferent ids → all_differ ids ≡ true
differ [] all = refl
differ (x ∷ ids) all = rw all.0 (differ ids all.1)

-- a configuration passes
pub config_is : (ids : List ℕ) → IsConfig ids → is_config ids ≡ true
config_is ids is =
    let some : nat_le 1 (length ids) ≡ true = grind (arith, nat_tests, is.some) in
    let few : nat_le (length ids) 16 ≡ true = grind (arith, nat_tests, is.few) in
    rw (some, few, all_ids ids is.each) (differ ids is.different)

id_from : (x : ℕ) → is_id x ≡ true → IsId x
id_from x e =
    let p = and_parts (nat_le 1 x) (nat_le x 65535) e in
    (grind (arith, nat_tests, p.0), grind (arith, nat_tests, p.1))

ids_from : (ids : List ℕ) → list_all is_id ids ≡ true → All IsId ids
ids_from [] e = All-nil IsId
ids_from (x ∷ ids) e =
    let p = and_parts (is_id x) (list_all is_id ids) e in
    All-cons IsId x ids (id_from x p.0) (ids_from ids p.1)

unlike : (b : Bool) → not b ≡ true → b ≡ false
unlike true e = absurd (grind (arith, nat_tests))
unlike false e = refl

differ_from : (ids : List ℕ) → all_differ ids ≡ true → AllDifferent ids
differ_from [] e = tt
differ_from (x ∷ ids) e =
    let p = and_parts (not (has ids x)) (all_differ ids) e in
    (unlike (has ids x) p.0, differ_from ids p.1)

-- the parts of the test
record Parts (ids : List ℕ) : Type 0 where
  some : 1 ≤ length ids
  few : length ids ≤ 16
  each : list_all is_id ids ≡ true
  apart : all_differ ids ≡ true

parts : (ids : List ℕ) → is_config ids ≡ true → Parts ids
parts ids e = record {
  some = grind (arith, nat_tests);
  few = grind (arith, nat_tests);
  each = grind (arith, nat_tests);
  apart = grind (arith, nat_tests);
}

-- what passes is a configuration
pub config_from : (ids : List ℕ) → is_config ids ≡ true → IsConfig ids
config_from ids e =
    let p = parts ids e in
    record {
      some = p.some;
      few = p.few;
      each = ids_from ids p.each;
      different = differ_from ids p.apart;
    }

-- a configuration has no fault
pub no_fault : (ids : List ℕ) (e : ConfigError) → IdsHave e ids → IsConfig ids → ⊥
no_fault ids fault.Empty h is = absurd (omega (arith, is.some, ap length h))
no_fault ids fault.Repeated h is = h is.different
no_fault ids fault.NotSmaller h is = h
no_fault ids fault.NotInOrder h is = h
no_fault ids fault.TooMany h is = absurd (omega (arith, h, is.few))
no_fault ids fault.BadId h is = h is.each
no_fault ids fault.Memory h is = h

-- ids with a fault do not pass
pub no_config : (ids : List ℕ) (e : ConfigError) → IdsHave e ids → is_config ids ≡ false
no_config ids e h = elim (cases_Bool (is_config ids)) [
  | inl t ↦ absurd (no_fault ids e h (config_from ids t))
  | inr f ↦ f
]
