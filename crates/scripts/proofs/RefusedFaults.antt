-- Where faults may not be spelled, a script without a fault spells none.
use Rattle.std.proofs.lemmas.List.Elements.{All-cons, All-nil}
use Rattle.scripts.specs.Laws.{AreFaultless, FaultsAreRefused, is_faultless}
use Rattle.script_words.specs.declared.error.ScriptError.TheVariants.{BadFault, BadNumber}
use Rattle.script_words.specs.declared.error.ScriptError.TheVariants.{LineTooLong}
use Rattle.script_words.specs.declared.error.ScriptError.TheVariants.{WrongNumberOfWords}
use Rattle.std.specs.Prelude.{Bool, Option, codes, if◌then◌else◌, nat_lt, not, ◌&&◌, ◌==◌}
use Rattle.std.proofs.Common.{List, None, Some, [], ap, arith, false, inl, inr, length, refl, subst}
use Rattle.std.proofs.Common.{suc, sym, true, ℕ, ◌∙◌, ◌∷◌, ◌≡◌}
use Rattle.scripts.specs.declared.statement.ParserState.{ParserState}
use Rattle.script_words.specs.declared.error.ScriptError.{ScriptError}
use Rattle.scripts.specs.Faults.{after_line, after_words, config_fault, junk_fault, limit_fault}
use Rattle.scripts.specs.Faults.{limit_words_fault, line_fault, numbered_fault, script_fault}
use Rattle.scripts.specs.Faults.{spelling_fault, start, words_fault}
use Rattle.script_words.specs.Words.{before_fault, begins_fault, from_fault, has_fault, is_number}
use Rattle.std.specs.Str.{bytes_eq}
use Rattle.std.proofs.lemmas.Slice.Eq.{bytes_eq-Decides}
use Rattle.std.proofs.lemmas.Bool.{cases_Bool}
use Rattle.std.proofs.lemmas.Grind.{common_steps}
use Rattle.scripts.specs.Statements.{fault_of_words}
use Rattle.script_words.specs.FaultWords.{fault_word, is_fault, may_bear_fault}
use Rattle.script_words.specs.FaultWordsLemmas.{faultless_before}
use Rattle.scripts.specs.Scripts.{is_skipped}
use Rattle.std.specs.List.{list_all}
use Rattle.std.specs.Option.{option_map_or, option_or}
use Rattle.script_words.specs.Lines.{words_of}

abbrev bad_if : Bool → Option ScriptError
bad_if b = if b then Some BadFault else None

abbrev good_if : Bool → Option ScriptError
good_if b = if b then None else Some BadFault

none_is_none : (e : ScriptError) → Some e ≡ None → ⊥
none_is_none e same = absurd (grind (arith, common_steps))

both_none : (a b : Option ScriptError) → option_or a b ≡ None → (a ≡ None) × (b ≡ None)
both_none None b is = (refl, is)
both_none (Some e) b is = absurd (none_is_none e is)

-- ---- a statement

never : (one two : Bool) → (one && two && false) ≡ false
never true true = refl
never true false = refl
never false two = refl

-- words of a fault are refused
word_free : (name : List ℕ) (words : List (List ℕ)) → fault_word false name words ≡ None
    → words ≡ []
word_free name [] is = refl
word_free name (w ∷ ws) is =
    let bad : fault_word false name (w ∷ ws) ≡ Some BadFault =
    ap good_if (never (may_bear_fault name) (is_fault (w ∷ ws))) in
    absurd (none_is_none BadFault (sym bad ∙ is))

has_free : (args : List (List ℕ)) → from_fault args ≡ [] → has_fault args ≡ false
has_free [] is = refl
has_free (w ∷ ws) is = elim (cases_Bool (begins_fault w)) [
  | inl t ↦ absurd (omega (arith, ap length (rw t at is)))
  | inr f ↦ rw f (has_free ws (rw f at is))
]

-- the word for what a stop leaves is refused
junk_free : (stop two : Bool) → bad_if (stop && two && true) ≡ None → not (stop && two) ≡ true
junk_free true true is = absurd (none_is_none BadFault is)
junk_free true false is = refl
junk_free false two is = refl

spelled_free : (faults : Bool) (name : List ℕ) (args : List (List ℕ)) → faults ≡ false
    → spelling_fault faults name args ≡ None → is_faultless (name ∷ args) ≡ true
spelled_free true name args off is = absurd (cc)
spelled_free false name args off is =
    let both = both_none (junk_fault false name (before_fault args))
    (fault_word false name (from_fault args))
    (both_none (fault_of_words (name ∷ before_fault args)) _ is).1 in
    let none : has_fault args ≡ false = has_free args (word_free name (from_fault args) both.1) in
    let bare : junk_fault false name args ≡ None =
    subst (λ (ws : List (List ℕ)). junk_fault false name ws ≡ None)
    (sym (faultless_before args (sym none))) both.0 in
    rw none (junk_free (bytes_eq name (codes "stop")) (length args == 2) bare)

-- ---- a configuration, and a limit

some_fault : (c : Bool) → ◌≡◌ {A = Option ScriptError} (if c then Some BadNumber else Some BadFault)
    None → ⊥
some_fault true is = none_is_none BadNumber is
some_fault false is = none_is_none BadFault is

config_free : (before : ParserState) (args : List (List ℕ)) → config_fault before args ≡ None
    → has_fault args ≡ false
config_free before args is = elim (cases_Bool (has_fault args)) [
  | inl t ↦ absurd (some_fault (not (list_all is_number (before_fault args))) (rw t at is))
  | inr f ↦ f
]

limit_bad : (before : ParserState) (words : List (List ℕ))
    → limit_words_fault before true words ≡ None → ⊥
limit_bad before [] is = none_is_none WrongNumberOfWords is
limit_bad before (name ∷ []) is = none_is_none WrongNumberOfWords is
limit_bad before (name ∷ word ∷ []) is = some_fault (not (is_number word)) is
limit_bad before (name ∷ word ∷ more ∷ words) is = none_is_none WrongNumberOfWords is

limit_free : (before : ParserState) (args : List (List ℕ)) → limit_fault before args ≡ None
    → has_fault args ≡ false
limit_free before args is = elim (cases_Bool (has_fault args)) [
  | inl t ↦ absurd (limit_bad before (before_fault args) (rw t at is))
  | inr f ↦ f
]

-- ---- a line

named_free : (name : List ℕ) (args : List (List ℕ)) → bytes_eq name (codes "stop") ≡ false
    → has_fault args ≡ false → is_faultless (name ∷ args) ≡ true
named_free name args other none = rw (none, other) refl

no_stop : (name word : List ℕ) → bytes_eq name word ≡ true
    → bytes_eq word (codes "stop") ≡ false → bytes_eq name (codes "stop") ≡ false
no_stop name word same other =
    subst (λ (n : List ℕ). bytes_eq n (codes "stop") ≡ false)
    (sym ((bytes_eq-Decides name word).0 same)) other

words_free : (before : ParserState) (words : List (List ℕ)) → before.faults ≡ false
    → words_fault before words ≡ None → is_faultless words ≡ true
words_free before [] off is = refl
words_free before (name ∷ args) off is = elim (cases_Bool (bytes_eq name (codes "config"))) [
  | inl t ↦ named_free name args (no_stop name (codes "config") t refl)
      (config_free before args (rw t at is))
  | inr f ↦ elim (cases_Bool (bytes_eq name (codes "limit"))) [
    | inl t ↦ named_free name args (no_stop name (codes "limit") t refl)
        (limit_free before args (rw (f, t) at is))
    | inr g ↦ spelled_free before.faults name args off
        (both_none (spelling_fault before.faults name args) _ (rw (f, g) at is)).0
  ]
]

line_free : (before : ParserState) (line : List ℕ) → before.faults ≡ false
    → line_fault before line ≡ None → is_skipped line ≡ false
    → is_faultless (words_of line) ≡ true
line_free before line off is reads = elim (cases_Bool (nat_lt 262144 (length line))) [
  | inl t ↦ absurd (none_is_none LineTooLong (rw t at is))
  | inr f ↦ words_free before (words_of line) off (rw (f, reads) at is)
]

-- ---- line by line

keeps_words : (before : ParserState) (words : List (List ℕ))
    → (after_words before words).faults ≡ before.faults
keeps_words before [] = refl
keeps_words before (name ∷ args) = elim (cases_Bool (bytes_eq name (codes "config"))) [
  | inl t ↦ rw t refl
  | inr f ↦ elim (cases_Bool (bytes_eq name (codes "limit"))) [
    | inl t ↦ rw (f, t) refl
    | inr g ↦ rw (f, g) refl
  ]
]

keeps_line : (before : ParserState) (line : List ℕ)
    → (after_line before line).faults ≡ before.faults
keeps_line before line = elim (cases_Bool (is_skipped line)) [
  | inl t ↦ rw t refl
  | inr f ↦ rw f (keeps_words before (words_of line))
]

first_none : (n : ℕ) (o : Option ScriptError) (later : Option (ℕ × ScriptError))
    → option_map_or (λ e. Some (n, e)) o later ≡ None → (o ≡ None) × (later ≡ None)
first_none n None later is = (refl, is)
first_none n (Some e) later is = absurd (grind (arith, common_steps))

lines_free : (before : ParserState) (n : ℕ) (lines : List (List ℕ)) → before.faults ≡ false
    → script_fault before n lines ≡ None → AreFaultless lines
lines_free before n [] off is = All-nil _
lines_free before n (line ∷ lines) off is =
    let both = first_none n (numbered_fault before n line)
    (script_fault (after_line before line) (suc n) lines) is in
    All-cons (λ line. is_skipped line ≡ false → is_faultless (words_of line) ≡ true) line lines
    (line_free before line off (both_none (line_fault before line) _ both.0).0)
    (lines_free (after_line before line) (suc n) lines (keeps_line before line ∙ off) both.1)

pub faults_refused : FaultsAreRefused
faults_refused lines is = lines_free (start false) 1 lines refl is
