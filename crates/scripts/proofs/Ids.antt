-- The words of a configuration: numbers that are different ids, 1 to 16 of them.
use Rattle.std.proofs.Common.{◌≡◌, ◌≢◌, subst, ◌<◌, ◌^◌, ℕ, inl, inr, List, [], ◌∷◌, refl}
use Rattle.std.proofs.Common.{true, false, arith, map}
use Rattle.std.specs.Prelude.{All}
use Rattle.std.specs.List.{list_all}
use Rattle.std.specs.Fmt.{decimal}
use Rattle.std.proofs.lemmas.Bool.{cases_Bool}
use Rattle.std.proofs.lemmas.List.Elements.{All-head, All-tail}
use Rattle.configurations.specs.NodeLists.{IsId}
use Rattle.configurations.specs.Configs.{IsConfig, TestDecidesConfig, is_config}
use Rattle.configurations.specs.declared.ConfigError.{ConfigError}
use Rattle.script_words.specs.declared.error.ScriptError.{ScriptError}
use Rattle.script_words.specs.Words.{is_number, has_fault}
use Rattle.scripts.specs.Faults.{numbers_of}
use Rattle.script_words.specs.WordsLemmas.{number_word, number_back, number_faultless}
use Rattle.script_words.specs.declared.error.ScriptError.TheVariants.{BadConfiguration, OutOfMemory}
use Rattle.configurations.specs.declared.ConfigError.TheVariants as fault
use Rattle.script_words.specs.declared.error.ScriptError.TheVariants as script

-- what the words of ids are
pub record AreRead (ids : List ℕ) : Type 0 where
  pub none : has_fault (map decimal ids) ≡ false
  pub numbers : list_all is_number (map decimal ids) ≡ true
  pub back : numbers_of (map decimal ids) ≡ ids

pub ids_read : (ids : List ℕ) → All IsId ids → AreRead ids
ids_read [] each = record { none = refl; numbers = refl; back = refl }
ids_read (x ∷ ids) each =
    let is = All-head IsId x ids each in
    let small : x < 2 ^ 63 = omega (arith, is.1) in
    let read = number_word x small in
    let r = ids_read ids (All-tail IsId x ids each) in
    record {
      none = rw (number_faultless (decimal x) read) r.none;
      numbers = rw read r.numbers;
      back = rw (number_back x small, r.back) refl;
    }

-- ids that are refused, but for want of memory, are no configuration
pub no_config_of : TestDecidesConfig → (ids numbers : List ℕ) (error : ConfigError)
    (said : ScriptError) → ids ≡ numbers → (IsConfig ids → error ≡ fault.Memory) →
    (error ≡ fault.Memory → said ≡ script.OutOfMemory) →
    (error ≢ fault.Memory → said ≡ script.BadConfiguration) →
    said ≢ script.OutOfMemory → (said ≡ script.BadConfiguration) × (is_config numbers ≡ false)
no_config_of decides ids numbers error said same each memory bad other =
    let no_memory : error ≢ fault.Memory = λ is. other (memory is) in (
      bad no_memory,
      subst (λ (l : List ℕ). is_config l ≡ false) same (elim (cases_Bool (is_config ids)) [
        | inl t ↦ absurd (no_memory (each ((decides ids).0 t)))
        | inr f ↦ f
      ]),
    )
