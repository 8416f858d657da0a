-- The words of limits, and the numbers that they may be.
use Rattle.std.specs.Prelude.{Bool, find, nat_le}
use Rattle.kv_types.specs.Limits.{IsInRange, is_allowed, limit_range}
use Rattle.kv_types.specs.declared.LimitName.TheVariants.{Cache, L0, Level, Log, Table}
use Rattle.kv_types.specs.declared.LimitName.{LimitName}
use Rattle.std.proofs.Common.{List, Some, ap, arith, inl, inr, refl, subst, true, ℕ, ◌<◌, ◌^◌, ◌∷◌}
use Rattle.std.proofs.Common.{◌≡◌, ◌≤◌, []}
use Rattle.script_words.specs.declared.limits.ScriptLimits.{ScriptLimits}
use Rattle.std.proofs.lemmas.Bool.{and_parts, cases_Bool}
use Rattle.std.specs.Str.{bytes_eq}
use Rattle.std.proofs.lemmas.Slice.Eq.{bytes_eq-Decides}
use Rattle.std.proofs.lemmas.Grind.{common_steps}
use Rattle.script_words.specs.Limits.{limit_named, limit_word, limits_with}
use Rattle.std.proofs.lemmas.Bool.Decides.{nat_tests}
use Rattle.std.specs.Option.{option_map_or}

-- a limit is that of its word
pub named_by : (name : LimitName) → limit_named (limit_word name) ≡ Some name
named_by Log = refl
named_by L0 = refl
named_by Table = refl
named_by Level = refl
named_by Cache = refl

-- an option has one value
pub one_name : (a b : LimitName) → Some a ≡ Some b → a ≡ b
one_name a b same = ap (λ o. option_map_or (λ name. name) o a) same

found_passes : (p : LimitName → Bool) (names : List LimitName) (name : LimitName)
    → find p names ≡ Some name → p name ≡ true
found_passes p [] name is = grind (arith, common_steps)
found_passes p (first ∷ names) name is = elim (cases_Bool (p first)) [
  | inl t ↦ subst (λ (it : LimitName). p it ≡ true) (one_name first name (rw t at is)) t
  | inr f ↦ found_passes p names name (rw f at is)
]

-- a word by which a limit is found is its word
pub word_of_limit : (word : List ℕ) (name : LimitName) → limit_named word ≡ Some name
    → word ≡ limit_word name
word_of_limit word name is =
    (bytes_eq-Decides word (limit_word name)).0
    (found_passes (λ it. bytes_eq word (limit_word it))
    (Log ∷ L0 ∷ Table ∷ Level ∷ Cache ∷ []) name is)

-- a number that a limit may be is not above its range
within : (name : LimitName) (number : ℕ) → is_allowed name number ≡ true
    → number ≤ (limit_range name).1
within name number allowed =
    let both = and_parts (nat_le (limit_range name).0 number) (nat_le number (limit_range name).1)
    allowed in
    grind (arith, nat_tests, both.1)

greatest_is_small : (name : LimitName) → (limit_range name).1 < 2 ^ 63
greatest_is_small Log = omega arith
greatest_is_small L0 = omega arith
greatest_is_small Table = omega arith
greatest_is_small Level = omega arith
greatest_is_small Cache = omega arith

-- a number that a limit may be is one that a script may name
pub is_small : (name : LimitName) (number : ℕ) → is_allowed name number ≡ true → number < 2 ^ 63
is_small name number allowed =
    omega (arith, within name number allowed, greatest_is_small name)

-- each of the limits may be its number
abbrev pub HasRanges : ScriptLimits → Type 0
HasRanges limits = IsInRange limits.log limits.l0 limits.table limits.level limits.cache

-- each of the limits may be its number where one is set
pub with_ranges : (limits : ScriptLimits) (name : LimitName) (number : ℕ)
    → is_allowed name number ≡ true → HasRanges limits
    → HasRanges (limits_with limits name number)
with_ranges limits Log number allowed are = record {
  log_range = allowed;
  l0_range = are.l0_range;
  table_range = are.table_range;
  level_range = are.level_range;
  cache_range = are.cache_range;
}
with_ranges limits L0 number allowed are = record {
  log_range = are.log_range;
  l0_range = allowed;
  table_range = are.table_range;
  level_range = are.level_range;
  cache_range = are.cache_range;
}
with_ranges limits Table number allowed are = record {
  log_range = are.log_range;
  l0_range = are.l0_range;
  table_range = allowed;
  level_range = are.level_range;
  cache_range = are.cache_range;
}
with_ranges limits Level number allowed are = record {
  log_range = are.log_range;
  l0_range = are.l0_range;
  table_range = are.table_range;
  level_range = allowed;
  cache_range = are.cache_range;
}
with_ranges limits Cache number allowed are = record {
  log_range = are.log_range;
  l0_range = are.l0_range;
  table_range = are.table_range;
  level_range = are.level_range;
  cache_range = allowed;
}
