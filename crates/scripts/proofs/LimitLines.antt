-- A line that sets a limit.
use Rattle.std.proofs.Common.{◌≡◌, ◌∙◌, ◌<◌, ◌^◌, ℕ, List, [], ◌∷◌, length, get_or, map, Bor, None}
use Rattle.std.proofs.Common.{Option, Some, ap, arith, codes, false, refl, true}
use Rattle.std.specs.Prelude.{is_some}
use Rattle.std.specs.Fmt.{decimal}
use Rattle.kv_types.specs.declared.LimitName.{LimitName}
use Rattle.scripts.specs.declared.statement.ParserState.{ParserState}
use Rattle.script_words.specs.Words.{before_fault, has_fault}
use Rattle.kv_types.specs.Limits.{is_allowed}
use Rattle.script_words.specs.Limits.{SetsLimit, limit_named, limit_word, limits_with}
use Rattle.scripts.specs.Faults.{after_words, limit_fault, limits_after, words_fault}
use Rattle.script_words.specs.LimitsLemmas.{word_of_limit}
use Rattle.script_words.specs.WordsLemmas.{number_back, number_word}

-- the only two words
pub two_words : (words : List (Bor (List ℕ))) (d : Bor (List ℕ)) (v w : List ℕ)
    → length words ≡ 2 → (get_or words 0 d).now ≡ v → (get_or words 1 d).now ≡ w
    → map (λ w. w.now) words ≡ v ∷ w ∷ []
two_words [] d v w two e f = absurd (omega (arith, two))
two_words (a ∷ []) d v w two e f = absurd (omega (arith, two))
two_words (a ∷ b ∷ []) d v w two e f = rw (e, f) refl
two_words (a ∷ b ∷ c ∷ ws) d v w two e f = absurd (omega (arith, two))

none_there : {A : Type 0} (o : Option A) → is_some o ≡ false → o ≡ None
none_there None free = refl
none_there (Some x) free = absurd cc

-- words that set one, before a configuration
pub sets_one : (before : ParserState) (args : List (List ℕ)) (word : List ℕ) (name : LimitName)
    (number : ℕ) → args ≡ word ∷ decimal number ∷ [] → before_fault args ≡ args
    → has_fault args ≡ false → number < 2 ^ 63 → limit_named word ≡ Some name
    → is_allowed name number ≡ true → is_some before.configs ≡ false
    → (limit_fault before args ≡ None) × SetsLimit (codes "limit" ∷ args) name number
    × (limits_after before.limits args ≡ limits_with before.limits name number)
    × (before.configs ≡ None)
sets_one before args word name number e front none small named allowed free =
    let back = number_back number small in
    let parts : args ≡ limit_word name ∷ decimal number ∷ [] =
    e ∙ ap (λ w. w ∷ decimal number ∷ []) (word_of_limit word name named) in (
      rw (front, none, e, number_word number small, free, back, named, allowed) refl,
      (ap (λ (ws : List (List ℕ)). codes "limit" ∷ ws) parts, allowed),
      rw (e, back, named) refl,
      none_there before.configs free,
    )

-- and what then stands before the next line
pub is_limit_line : (before : ParserState) (words args : List (List ℕ)) (name : LimitName)
    (number : ℕ) → words ≡ codes "limit" ∷ args → limit_fault before args ≡ None
    → SetsLimit (codes "limit" ∷ args) name number
    → limits_after before.limits args ≡ limits_with before.limits name number
    → before.configs ≡ None
    → (words_fault before words ≡ None) × (SetsLimit words name number × (before.configs ≡ None))
    × (after_words before words
    ≡ record before { limits = limits_with before.limits name number })
is_limit_line before words args name number is good sets same free =
    (rw is good, (rw is sets, free), rw (is, same) refl)
