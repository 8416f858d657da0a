-- A lawful list of configurations, and the next one behind it.
use Rattle.std.proofs.Common.{◌≡◌, ◌+◌, ◌<◌, ◌≤◌, ℕ, zero, suc, List, [], ◌∷◌, ◌++◌, length, refl}
use Rattle.std.proofs.Common.{◌∙◌, arith, true, false, Option, Some, None, inl, inr, length-append}
use Rattle.std.proofs.Common.{Err, Ok, map}
use Rattle.std.specs.Prelude.{nat_lt, ◌≢◌, if◌then◌else◌, IfSome, MatchResult, Result}
use Rattle.std.specs.Fmt.{decimal}
use Rattle.std.specs.List.{list_all}
use Rattle.std.proofs.lemmas.Bool.{and_parts, cases_Bool}
use Rattle.std.proofs.lemmas.Bool.Decides.{nat_tests}
use Rattle.kv_types.specs.{Part, is_part, has}
use Rattle.configurations.specs.Refusals.{ListHas}
use Rattle.configurations.specs.NodeLists.{Configurations, Lawful, Shrinks, at_epoch}
use Rattle.configurations.specs.NodeLists.{last_of, leaves_out}
use Rattle.configurations.specs.Configs.{IsConfig, TestDecidesConfig, is_config}
use Rattle.configurations.specs.declared.ConfigError.{ConfigError}
use Rattle.script_words.specs.declared.error.ScriptError.{ScriptError}
use Rattle.script_words.specs.declared.error.ScriptError.TheVariants.{BadConfiguration, OutOfMemory}
use Rattle.scripts.specs.declared.statement.ParserState.{ParserState}
use Rattle.script_words.specs.Words.{before_fault, has_fault, is_number}
use Rattle.scripts.specs.Faults.{config_fault, may_follow, numbers_of}
use Rattle.scripts.specs.Scripts.{MayFollow, up_to}
use Rattle.configurations.specs.declared.ConfigError.TheVariants as fault

-- the test of a part decides
abbrev pub DecidesPart : Type 0
DecidesPart = (d c : List ℕ) → (is_part d c ≡ true → Part d c) × (Part d c → is_part d c ≡ true)

-- ---- the places of a list, and one more

old_at : (cs : Configurations) (d : List ℕ) (e : ℕ) → e < length cs
    → at_epoch (cs ++ d ∷ []) e ≡ at_epoch cs e
old_at [] d e within = absurd (omega (arith, within))
old_at (c ∷ cs) d zero within = refl
old_at (c ∷ cs) d (suc e) within = old_at cs d e (omega (arith, within))

new_at : (cs : Configurations) (d : List ℕ) → at_epoch (cs ++ d ∷ []) (length cs) ≡ d
new_at [] d = refl
new_at (c ∷ cs) d = new_at cs d

last_at : (c : List ℕ) (cs : Configurations) → last_of (c ∷ cs) ≡ at_epoch (c ∷ cs) (length cs)
last_at c [] = refl
last_at c (x ∷ cs) = last_at x cs

-- each later configuration of a lawful list has fewer nodes
falls : (cs : Configurations) → Lawful cs → (e : ℕ) → e < length cs
    → e + length (at_epoch cs e) ≤ 16
falls cs lawful zero within = omega (arith, lawful.at_most_16_nodes)
falls cs lawful (suc e) within =
    omega (arith, falls cs lawful e (omega (arith, within)), (lawful.shrinks e within).shorter)

-- ---- what may follow makes a lawful list

next_shrinks : DecidesPart → (c d : List ℕ) → IsConfig d → leaves_out d c ≡ true → Shrinks c d
next_shrinks decides c d is follows =
    let both = and_parts (is_part d c) (nat_lt (length d) (length c)) follows in
    record {
      part = (decides d c).0 both.0;
      shorter = grind (arith, nat_tests, both.1);
      not_empty = is.some;
    }

shrinks_at : (c : List ℕ) (cs : Configurations) (d : List ℕ) → Lawful (c ∷ cs)
    → Shrinks (last_of (c ∷ cs)) d → (e : ℕ) → suc e < length ((c ∷ cs) ++ d ∷ [])
    → Shrinks (at_epoch ((c ∷ cs) ++ d ∷ []) e) (at_epoch ((c ∷ cs) ++ d ∷ []) (suc e))
shrinks_at c cs d lawful shrinks e within = elim (cases_Bool (nat_lt (suc e) (length (c ∷ cs)))) [
  | inl t ↦
      let inside : suc e < length (c ∷ cs) = grind (arith, nat_tests) in
      rw (old_at (c ∷ cs) d e (omega (arith, inside)), old_at (c ∷ cs) d (suc e) inside)
      (lawful.shrinks e inside)
  | inr f ↦
      let beyond : length (c ∷ cs) ≤ suc e = grind (arith, nat_tests) in
      let last : e ≡ length cs =
      omega (arith, beyond, within, length-append (c ∷ cs) (d ∷ [])) in
      rw (last, old_at (c ∷ cs) d (length cs) (omega arith), ← last_at c cs, new_at cs d) shrinks
]

lawful_behind : DecidesPart → (cs : Configurations) (d : List ℕ) → Lawful cs → IsConfig d
    → leaves_out d (last_of cs) ≡ true → Lawful (cs ++ d ∷ [])
lawful_behind decides [] d lawful is follows = absurd (omega (arith, lawful.at_least_one))
lawful_behind decides (c ∷ cs) d lawful is follows =
    let shrinks = next_shrinks decides (last_of (c ∷ cs)) d is follows in
    let few : length cs + length (last_of (c ∷ cs)) ≤ 16 =
    rw (last_at c cs) (falls (c ∷ cs) lawful (length cs) (omega arith)) in
    let size = length-append (c ∷ cs) (d ∷ []) in
    record {
      at_least_one = omega (arith, size);
      at_most_16 = omega (arith, size, few, shrinks.shorter, shrinks.not_empty);
      nodes = lawful.nodes;
      at_most_16_nodes = lawful.at_most_16_nodes;
      ids = lawful.ids;
      different = lawful.different;
      shrinks = shrinks_at c cs d lawful shrinks;
    }

lawful_alone : (d : List ℕ) → IsConfig d → Lawful (d ∷ [])
lawful_alone d is = record {
  at_least_one = omega arith;
  at_most_16 = omega arith;
  nodes = is.some;
  at_most_16_nodes = is.few;
  ids = is.each;
  different = is.different;
  shrinks = λ e within. absurd (omega (arith, within));
}

-- ---- what makes a lawful list may follow

follows_of : DecidesPart → (c : List ℕ) (cs : Configurations) (d : List ℕ)
    → Lawful ((c ∷ cs) ++ d ∷ []) → leaves_out d (last_of (c ∷ cs)) ≡ true
follows_of decides c cs d lawful =
    let shrinks = lawful.shrinks (length cs) (omega (arith, length-append (c ∷ cs) (d ∷ []))) in
    let own : Shrinks (last_of (c ∷ cs)) d =
    rw (old_at (c ∷ cs) d (length cs) (omega arith), ← last_at c cs, new_at cs d) at shrinks in
    let less : nat_lt (length d) (length (last_of (c ∷ cs))) ≡ true =
    grind (arith, nat_tests, own.shorter) in
    rw ((decides d (last_of (c ∷ cs))).1 own.part, less) refl

-- ---- as the reader asks

-- the list of a new configuration is lawful exactly where it may follow
pub lawful_next : DecidesPart → TestDecidesConfig → (before : Option Configurations)
    (d : List ℕ) → IfSome before Lawful → IsConfig d → may_follow before d ≡ true
    → Lawful (up_to before d)
lawful_next decides test None d lawful is follows = lawful_alone d is
lawful_next decides test (Some cs) d lawful is follows =
    lawful_behind decides cs d lawful is (and_parts (is_config d) _ follows).1

pub next_follows : DecidesPart → TestDecidesConfig → (before : Option Configurations)
    (d : List ℕ) → IfSome before Lawful → IsConfig d → Lawful (up_to before d)
    → may_follow before d ≡ true
next_follows decides test None d own is lawful = (test d).1 is
next_follows decides test (Some []) d own is lawful = absurd (omega (arith, own.at_least_one))
next_follows decides test (Some (c ∷ cs)) d own is lawful =
    rw ((test d).1 is) (follows_of decides c cs d lawful)

pub may : TestDecidesConfig → (before : Option Configurations) (d : List ℕ)
    → may_follow before d ≡ true → MayFollow before d
may test None d follows = (test d).0 follows
may test (Some cs) d follows =
    let both = and_parts (is_config d) _ follows in ((test d).0 both.0, both.1)

-- what is no configuration may follow nothing
pub none_follows : (before : Option Configurations) (d : List ℕ) → is_config d ≡ false
    → may_follow before d ≡ false
none_follows None d bad = bad
none_follows (Some cs) d bad = rw bad refl

-- nothing is wrong with a lawful list
pub not_refused : (cs : Configurations) → Lawful cs → (e : ConfigError) → ListHas e cs → ⊥
not_refused cs lawful fault.Empty has =
    let none : length cs ≡ 0 = rw has refl in
    absurd (omega (arith, none, lawful.at_least_one))
not_refused cs lawful fault.Repeated has = has
not_refused cs lawful fault.NotSmaller (e, within, more) =
    absurd (omega (arith, more, (lawful.shrinks e within).shorter))
not_refused cs lawful fault.NotInOrder (e, within, apart) =
    apart (lawful.shrinks e within).part
not_refused cs lawful fault.TooMany has = absurd (omega (arith, has, lawful.at_most_16))
not_refused cs lawful fault.BadId has = has
not_refused cs lawful fault.Memory has = has

-- a list that is refused has a configuration that may not follow
pub refused_next : DecidesPart → TestDecidesConfig → (before : Option Configurations)
    (d : List ℕ) (e : ConfigError) → IfSome before Lawful → IsConfig d
    → ListHas e (up_to before d) → may_follow before d ≡ false
refused_next decides test before d e own is has = elim (cases_Bool (may_follow before d)) [
  | inl t ↦ absurd (not_refused (up_to before d)
      (lawful_next decides test before d own is t) e has)
  | inr f ↦ f
]

-- ---- the words of a line

-- where its words are numbers without a fault, before a run has begun, its fault is that of its ids
config_fault_is : (before : ParserState) (args : List (List ℕ)) (ids : List ℕ)
    → list_all is_number (before_fault args) ≡ true → has_fault args ≡ false
    → before.begun ≡ false → numbers_of args ≡ ids
    → config_fault before args
    ≡ (if may_follow before.configs ids then None else Some BadConfiguration)
config_fault_is before args ids each none rests numbers = rw (each, none, rests, numbers) refl

-- what the reader answers for ids that are a configuration
pub config_read : (before : ParserState) (args : List (List ℕ)) (ids : List ℕ)
    → list_all is_number (before_fault args) ≡ true → has_fault args ≡ false
    → before.begun ≡ false → numbers_of args ≡ ids → args ≡ map decimal ids
    → (result : Result Configurations ScriptError) → MatchResult result
    (λ configs. (may_follow before.configs ids ≡ true) × MayFollow before.configs ids
    × (configs ≡ up_to before.configs ids))
    (λ e. e ≢ OutOfMemory → (e ≡ BadConfiguration) × (may_follow before.configs ids ≡ false))
    → MatchResult result (λ configs. (config_fault before args ≡ None)
    × ((ns : List ℕ) × (args ≡ map decimal ns) × (numbers_of args ≡ ns)
    × MayFollow before.configs ns × (configs ≡ up_to before.configs ns))
    × (before.begun ≡ false))
    (λ e. e ≢ OutOfMemory → config_fault before args ≡ Some e)
config_read before args ids each none rests numbers words (Ok configs) (follows, may, is) = (
  config_fault_is before args ids each none rests numbers ∙ rw follows refl,
  (ids, words, numbers, may, is),
  rests,
)
config_read before args ids each none rests numbers words (Err e) bad = λ other.
    config_fault_is before args ids each none rests numbers
    ∙ rw ((bad other).1, (bad other).0) refl

-- .. and for those that are none
pub config_refused : (before : ParserState) (args : List (List ℕ)) (ids : List ℕ)
    (e : ScriptError) → list_all is_number (before_fault args) ≡ true → has_fault args ≡ false
    → before.begun ≡ false → numbers_of args ≡ ids
    → (e ≢ OutOfMemory → (e ≡ BadConfiguration) × (is_config ids ≡ false)) → e ≢ OutOfMemory
    → config_fault before args ≡ Some e
config_refused before args ids e each none rests numbers bad other =
    config_fault_is before args ids each none rests numbers
    ∙ rw (none_follows before.configs ids (bad other).1, (bad other).0) refl
