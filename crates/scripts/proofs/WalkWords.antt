-- The words of a walk, as they are told apart, and their least fault.
use Rattle.std.proofs.Common.{◌≡◌, ℕ, ◌≤◌, ◌<◌, ◌^◌, List, [], ◌∷◌, length, map, get_or, Bool}
use Rattle.std.proofs.Common.{true, false, ◌&&◌, Option, Some, None, MatchOption, Bor, refl, sym}
use Rattle.std.proofs.Common.{ap, subst, arith, ◌∙◌, IfSome, Ok}
use Rattle.kv_types.specs.{Span}
use Rattle.std.specs.Fmt.{decimal}
use Rattle.std.specs.Str.Parse.{digits_value}
use Rattle.script_words.specs.Words.{AreBytes, bound_text, bytes_text}
use Rattle.script_words.specs.Words.{is_bound, is_byte_string, is_number}
use Rattle.script_words.specs.declared.error.ScriptError.TheVariants.{BadBytes, BadNumber}
use Rattle.scripts.specs.Reading.{ReadsCommand}
use Rattle.scripts.specs.Statements.{NumberCanBeSaid, number_words, walk_name}
use Rattle.scripts.specs.declared.command.Command.TheVariants.{Rows}
use Rattle.scripts.proofs.ReadBack.{fault_of_walk, rows_fault}

-- a word of a line
abbrev pub Word : Type 0
Word = Bor (List ℕ)

-- the words behind the name: a node, a key, a bound, a limit, and a number or none
abbrev pub WalkWords : Type 0
WalkWords = Bor Word × Bor Word × Bor Word × Bor Word × Option (Bor Word)

-- the word for the number, if there is one
abbrev pub last_word : Option (Bor Word) → List (List ℕ)
last_word None = []
last_word (Some word) = word.now.now ∷ []

-- a line has these words and no others
pub record AreWords (args : List Word) (t : WalkWords) : Type 0 where
  pub words : map (λ w. w.now) args ≡
      t.0.now.now ∷ t.1.now.now ∷ t.2.now.now ∷ t.3.now.now ∷ last_word t.4

pub four_words : (args : List Word) (d : Word) (t r : WalkWords) → 4 ≤ length args
    → length args < 5 → t ≡ r → r.0.now ≡ get_or args 0 d → r.1.now ≡ get_or args 1 d
    → r.2.now ≡ get_or args 2 d → r.3.now ≡ get_or args 3 d → r.4 ≡ None → AreWords args t
four_words (a ∷ b ∷ c ∷ e ∷ []) d t r most few is node from to limit at =
    subst (AreWords (a ∷ b ∷ c ∷ e ∷ [])) (sym is)
    (record { words = rw (node, from, to, limit, at) refl })
four_words (a ∷ b ∷ c ∷ e ∷ x ∷ args) d t r most few is node from to limit at =
    absurd (omega (arith, few))
four_words (a ∷ b ∷ c ∷ []) d t r most few is node from to limit at = absurd (omega (arith, most))
four_words (a ∷ b ∷ []) d t r most few is node from to limit at = absurd (omega (arith, most))
four_words (a ∷ []) d t r most few is node from to limit at = absurd (omega (arith, most))
four_words [] d t r most few is node from to limit at = absurd (omega (arith, most))

pub five_words : (args : List Word) (d : Word) (t r : WalkWords) (last : Bor Word)
    → 5 ≤ length args → length args < 6 → t ≡ r → r.0.now ≡ get_or args 0 d
    → r.1.now ≡ get_or args 1 d → r.2.now ≡ get_or args 2 d → r.3.now ≡ get_or args 3 d
    → r.4 ≡ Some last → last.now ≡ get_or args 4 d → AreWords args t
five_words (a ∷ b ∷ c ∷ e ∷ x ∷ []) d t r last most few is node from to limit at word =
    subst (AreWords (a ∷ b ∷ c ∷ e ∷ x ∷ [])) (sym is)
    (record { words = rw (node, from, to, limit, at, word) refl })
five_words (a ∷ b ∷ c ∷ e ∷ x ∷ y ∷ args) d t r last most few is node from to limit at word =
    absurd (omega (arith, few))
five_words (a ∷ b ∷ c ∷ e ∷ []) d t r last most few is node from to limit at word =
    absurd (omega (arith, most))
five_words (a ∷ b ∷ c ∷ []) d t r last most few is node from to limit at word =
    absurd (omega (arith, most))
five_words (a ∷ b ∷ []) d t r last most few is node from to limit at word =
    absurd (omega (arith, most))
five_words (a ∷ []) d t r last most few is node from to limit at word =
    absurd (omega (arith, most))
five_words [] d t r last most few is node from to limit at word = absurd (omega (arith, most))

-- ---- what was read of them

pub none_so : {A : Type 0} (N : Type 0) (P : A → Type 0) (o : Option A) → o ≡ None
    → MatchOption o N P → N
none_so N P None is so = so
none_so N P (Some x) is so = absurd cc

pub some_so : {A : Type 0} (N : Type 0) (P : A → Type 0) (o : Option A) (x : A) → o ≡ Some x
    → MatchOption o N P → P x
some_so N P None x is so = absurd cc
some_so N P (Some y) x is so = let same : y ≡ x = cc in subst P same so

-- the last word spells this number, or there is neither
pub record SpellsLast (word : Option (Bor Word)) (at : Option ℕ) : Type 0 where
  pub spelled : last_word word ≡ number_words at
  pub said : NumberCanBeSaid at
  pub number : (b : Bor Word) → word ≡ Some b → is_number b.now.now ≡ true

pub spells_none : (word : Option (Bor Word)) (at : Option ℕ) → word ≡ None → at ≡ None
    → SpellsLast word at
spells_none None None blank none = record { spelled = refl; said = tt; number = λ b is. absurd cc }
spells_none (Some b) at blank none = absurd cc
spells_none None (Some n) blank none = absurd cc

-- what a number's word is
abbrev pub IsNumberWord : List ℕ → ℕ → Type 0
IsNumberWord w n =
    (is_number w ≡ true) × (n < 2 ^ 63) × (w ≡ decimal n) × (digits_value 10 w ≡ n)

pub spells_some : (word : Option (Bor Word)) (b : Bor Word) (at : Option ℕ) → word ≡ Some b
    → (at ≡ None → ⊥) → MatchOption at (is_number b.now.now ≡ false) (IsNumberWord b.now.now)
    → SpellsLast word at
spells_some None b at is some read = absurd cc
spells_some (Some w) b None is some read = absurd (some refl)
spells_some (Some w) b (Some n) is some read =
    let same : w ≡ b = cc in
    record {
      spelled = ap (λ (x : Bor Word). x.now.now ∷ []) same ∙ ap (λ (l : List ℕ). l ∷ []) read.2;
      said = read.1;
      number = λ o here.
          let also : o ≡ b = cc in
          subst (λ (x : Bor Word). is_number x.now.now ≡ true) (sym also) read.0;
    }

-- ---- their least fault

pub walk_read : (args : List Word) (t : WalkWords) (at : Option ℕ) → AreWords args t
    → SpellsLast t.4 at → is_number t.0.now.now ≡ true → is_number t.3.now.now ≡ true
    → is_byte_string t.1.now.now ≡ true → is_bound t.2.now.now ≡ true
    → fault_of_walk (map (λ w. w.now) args) ≡ None
walk_read args (n, f, u, l, None) at are last node limit from to =
    rw (are.words, node, limit, from, to) refl
walk_read args (n, f, u, l, Some b) at are last node limit from to =
    rw (are.words, node, limit, last.number b refl, from, to) refl

bad_texts : (args : List Word) (t : WalkWords) (at : Option ℕ) (x y : Bool) → AreWords args t
    → SpellsLast t.4 at → is_number t.0.now.now ≡ true → is_number t.3.now.now ≡ true
    → is_byte_string t.1.now.now ≡ x → is_bound t.2.now.now ≡ y → (x && y) ≡ false
    → fault_of_walk (map (λ w. w.now) args) ≡ Some BadBytes
bad_texts args (n, f, u, l, None) at false y are last node limit from to bad =
    rw (are.words, node, limit, from) refl
bad_texts args (n, f, u, l, Some b) at false y are last node limit from to bad =
    rw (are.words, node, limit, last.number b refl, from) refl
bad_texts args (n, f, u, l, None) at true false are last node limit from to bad =
    rw (are.words, node, limit, from, to) refl
bad_texts args (n, f, u, l, Some b) at true false are last node limit from to bad =
    rw (are.words, node, limit, last.number b refl, from, to) refl
bad_texts args t at true true are last node limit from to bad = absurd cc

pub walk_bad_bytes : (args : List Word) (t : WalkWords) (at : Option ℕ) → AreWords args t
    → SpellsLast t.4 at → is_number t.0.now.now ≡ true → is_number t.3.now.now ≡ true
    → (is_byte_string t.1.now.now && is_bound t.2.now.now) ≡ false
    → fault_of_walk (map (λ w. w.now) args) ≡ Some BadBytes
walk_bad_bytes args t at are last node limit bad =
    bad_texts args t at (is_byte_string t.1.now.now) (is_bound t.2.now.now) are last node limit refl
    refl bad

pub walk_bad_last : (args : List Word) (t : WalkWords) (b : Bor Word) → AreWords args t
    → t.4 ≡ Some b → is_number b.now.now ≡ false → is_number t.0.now.now ≡ true
    → is_number t.3.now.now ≡ true → fault_of_walk (map (λ w. w.now) args) ≡ Some BadNumber
walk_bad_last args (n, f, u, l, None) b are is bad node limit = absurd cc
walk_bad_last args (n, f, u, l, Some w) b are is bad node limit =
    let same : w ≡ b = cc in
    let last = subst (λ (x : Bor Word). is_number x.now.now ≡ false) (sym same) bad in
    rw (are.words, node, limit, last) refl

pub walk_bad_node : (args : List Word) (t : WalkWords) → AreWords args t
    → is_number t.0.now.now ≡ false → fault_of_walk (map (λ w. w.now) args) ≡ Some BadNumber
walk_bad_node args (n, f, u, l, None) are bad = rw (are.words, bad) refl
walk_bad_node args (n, f, u, l, Some b) are bad = rw (are.words, bad) refl

pub walk_bad_limit : (args : List Word) (t : WalkWords) → AreWords args t
    → is_number t.0.now.now ≡ true → is_number t.3.now.now ≡ false
    → fault_of_walk (map (λ w. w.now) args) ≡ Some BadNumber
walk_bad_limit args (n, f, u, l, None) are node bad = rw (are.words, node, bad) refl
walk_bad_limit args (n, f, u, l, Some b) are node bad = rw (are.words, node, bad) refl

-- ---- their spelling

pub walk_spelled : (args : List Word) (t : WalkWords) (at : Option ℕ) (node limit : ℕ)
    (from : List ℕ) (to : Option (List ℕ)) → AreWords args t → SpellsLast t.4 at
    → t.0.now.now ≡ decimal node → t.3.now.now ≡ decimal limit → t.1.now.now ≡ bytes_text from
    → t.2.now.now ≡ bound_text to → map (λ w. w.now) args
    ≡ decimal node ∷ bytes_text from ∷ bound_text to ∷ decimal limit ∷ number_words at
walk_spelled args t at node limit from to are last is_node is_limit is_from is_to =
    rw (are.words, is_node, is_limit, is_from, is_to, last.spelled) refl

-- what two words are that spell bounds
abbrev pub AreBounds : List ℕ → List ℕ → List ℕ → Option (List ℕ) → Type 0
AreBounds v w from to =
    (is_byte_string v ≡ true) × (is_bound w ≡ true) × AreBytes from × IfSome to AreBytes
    × (v ≡ bytes_text from) × (w ≡ bound_text to)

-- the words are read as the walk that they spell
pub walk_is_read : (backward : Bool) (args : List Word) (t : WalkWords) (at : Option ℕ)
    (node limit : ℕ) (from : List ℕ) (to : Option (List ℕ)) (range : Span)
    → range ≡ record { from = from; to = to; backward = backward; limit = limit }
    → AreWords args t → SpellsLast t.4 at → IsNumberWord t.0.now.now node
    → IsNumberWord t.3.now.now limit → AreBounds t.1.now.now t.2.now.now from to
    → ReadsCommand (walk_name backward ∷ map (λ w. w.now) args) (Ok (Rows node range at))
walk_is_read backward args t at node limit from to range is are last n l bounds =
    subst (λ (s : Span). ReadsCommand (walk_name backward ∷ map (λ w. w.now) args)
    (Ok (Rows node s at))) (sym is) (
      rw (rows_fault backward (map (λ w. w.now) args))
          (walk_read args t at are last n.0 l.0 bounds.0 bounds.1),
      (n.1, (bounds.2, bounds.3, l.1), last.said),
      ap (λ (ws : List (List ℕ)). walk_name backward ∷ ws)
          (walk_spelled args t at node limit from to are last n.2 l.2 bounds.4 bounds.5),
    )
