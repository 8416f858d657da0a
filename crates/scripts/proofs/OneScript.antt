-- Lines spell one script at most.
use Rattle.std.proofs.Common.{◌≡◌, ◌≤◌, ℕ, suc, List, [], ◌∷◌, ◌++◌, codes, subst, refl, sym, ap}
use Rattle.std.proofs.Common.{◌∙◌, inl, inr, arith, true, false, map}
use Rattle.std.specs.Prelude.{if◌then◌else◌, ◌⊎◌, ◌||◌, Bool, Option, Some, None}
use Rattle.std.specs.Str.{bytes_eq}
use Rattle.std.specs.Fmt.{decimal}
use Rattle.events.specs.declared.EventKind.{EventKind}
use Rattle.configurations.specs.NodeLists.{Configurations}
use Rattle.kv_types.specs.declared.LimitName.{LimitName}
use Rattle.script_words.specs.declared.limits.ScriptLimits.{ScriptLimits}
use Rattle.scripts.specs.declared.setup.Setup.{Setup}
use Rattle.scripts.specs.declared.statement.Action.{Action}
use Rattle.scripts.specs.declared.statement.Action.TheVariants.{Settle, Show}
use Rattle.scripts.specs.declared.statement.Statement.{Statement}
use Rattle.scripts.specs.Actions.{action_of}
use Rattle.scripts.specs.Events.{SpellsEvent}
use Rattle.scripts.specs.Faults.{numbers_of}
use Rattle.scripts.specs.Laws.{AreAlike, ScriptsDiffer}
use Rattle.script_words.specs.Limits.{SetsLimit, default_limits, limit_named, limit_word}
use Rattle.script_words.specs.Limits.{limits_with}
use Rattle.scripts.specs.Scripts.{IsBody, IsOtherStatement, IsScriptWith, IsStatement, MayFollow}
use Rattle.scripts.specs.Scripts.{NamesOneNode, SetsUp, begins, is_skipped, statement, up_to}
use Rattle.script_words.specs.Lines.{words_of}
use Rattle.scripts.proofs.EventNames.{name_of, of_name}
use Rattle.script_words.specs.WordsLemmas.{one_number}
use Rattle.scripts.proofs.EventWords.{one_whole, opens}
use Rattle.scripts.proofs.Ids.{ids_read}
use Rattle.script_words.specs.LimitsLemmas.{is_small, named_by, one_name}
use Rattle.scripts.proofs.ReadScripts.{each_id, statement_letter}
use Rattle.scripts.proofs.FirstBytes.{first_byte, not_skipped}
use Rattle.events.specs.declared.EventContent.{EventContent}

-- ---- what kind of line words are, by their first one

-- the number of a name of no event, or 0
abbrev name_number : List ℕ → ℕ
name_number name =
    if bytes_eq name (codes "flow") then 1 else
    if bytes_eq name (codes "settle") then 2 else
    if bytes_eq name (codes "show") then 3 else
    if bytes_eq name (codes "limit") then 4 else
    if bytes_eq name (codes "config") then 5 else 0

-- .. of the first of some words
abbrev words_number : List (List ℕ) → ℕ
words_number [] = 6
words_number (name ∷ words) = name_number name

-- the second of some words
abbrev second_word : List (List ℕ) → List ℕ
second_word [] = []
second_word (name ∷ []) = []
second_word (name ∷ word ∷ words) = word

-- the third of some words
abbrev third_word : List (List ℕ) → List ℕ
third_word [] = []
third_word (name ∷ words) = second_word words

-- all words but the first
abbrev later_words : List (List ℕ) → List (List ℕ)
later_words [] = []
later_words (name ∷ words) = words

-- an event's name has no number
event_number : (what : EventKind) → name_number (name_of what) ≡ 0
event_number = of_name (λ name. name_number name ≡ 0) (record {
  submit = refl;
  once = refl;
  get = refl;
  rows = refl;
  back = refl;
  opening = refl;
  closing = refl;
  deliver = refl;
  notice = refl;
  tick = refl;
  tend = refl;
  start = refl;
  stop = refl;
})

-- words of an event have no number
event_words : (words : List (List ℕ)) (event : EventContent) → SpellsEvent words event
    → words_number words ≡ 0
event_words words event spells =
    let front = opens event.kind spells.first spells.kind in
    let is : words ≡ name_of event.kind ∷ (front.0 ++ spells.behind) = rw front.1 at spells.parts in
    rw is (event_number event.kind)

-- ---- words say one statement at most

-- what words say that settle or show a node
pub record SaysNode (words : List (List ℕ)) (action : Action) (node number : ℕ) : Type 0 where
  pub kind : words_number words ≡ number
  pub word : second_word words ≡ decimal node
  pub settles : number ≡ 2 → action ≡ Settle node
  pub shows : number ≡ 3 → action ≡ Show node
  pub either : (number ≡ 2) ⊎ (number ≡ 3)

says_node : (cs : Configurations) (words : List (List ℕ)) (action : Action)
    (is : NamesOneNode cs words action) → (number : ℕ) × SaysNode words action is.node number
says_node cs words action is = of_said is.said
  where
    of_said : ((action ≡ Settle is.node) × (words ≡ codes "settle" ∷ decimal is.node ∷ []))
        ⊎ ((action ≡ Show is.node) × (words ≡ codes "show" ∷ decimal is.node ∷ []))
        → (number : ℕ) × SaysNode words action is.node number
    of_said (inl said) = (
      2,
      record {
        kind = rw said.1 refl;
        word = rw said.1 refl;
        settles = λ _. said.0;
        shows = λ e. absurd (omega (arith, e));
        either = inl refl;
      },
    )
    of_said (inr said) = (
      3,
      record {
        kind = rw said.1 refl;
        word = rw said.1 refl;
        settles = λ e. absurd (omega (arith, e));
        shows = λ _. said.0;
        either = inr refl;
      },
    )

one_said : (words : List (List ℕ)) (a b : Action) (node number : ℕ) → SaysNode words a node number
    → SaysNode words b node number → (number ≡ 2) ⊎ (number ≡ 3) → a ≡ b
one_said words a b node number says other (inl two) = says.settles two ∙ sym (other.settles two)
one_said words a b node number says other (inr three) = says.shows three ∙ sym (other.shows three)

one_node : (cs : Configurations) (words : List (List ℕ)) (a b : Action)
    → NamesOneNode cs words a → NamesOneNode cs words b → a ≡ b
one_node cs words a b is other =
    let says = says_node cs words a is in
    let says_other = says_node cs words b other in
    let node : other.node ≡ is.node = one_number other.node is.node other.small is.small
    (sym says_other.1.word ∙ says.1.word) in
    let number : says_other.0 ≡ says.0 = sym says_other.1.kind ∙ says.1.kind in
    let moved : SaysNode words b is.node says.0 =
    subst (λ (n : ℕ). SaysNode words b n says.0) node
    (subst (λ (k : ℕ). SaysNode words b other.node k) number says_other.1) in
    one_said words a b is.node says.0 says.1 moved says.1.either

-- the number of words of no event
other_number : (cs : Configurations) (words : List (List ℕ)) (action : Action)
    → IsOtherStatement cs words action → 1 ≤ words_number words
other_number cs words action (inl is) = rw is.1 (omega arith)
other_number cs words action (inr is) =
    let says = says_node cs words action is in of_number says.1.kind says.1.either
  where
    of_number : {n k : ℕ} → n ≡ k → (k ≡ 2) ⊎ (k ≡ 3) → 1 ≤ n
    of_number e (inl two) = omega (arith, e, two)
    of_number e (inr three) = omega (arith, e, three)

-- a flow is no word of a node
no_flow : (cs : Configurations) (words : List (List ℕ)) (action : Action)
    → words ≡ codes "flow" ∷ [] → NamesOneNode cs words action → ⊥
no_flow cs words action is named =
    let says = says_node cs words action named in
    let one : words_number words ≡ 1 = rw is refl in
    of_number (sym one ∙ says.1.kind) says.1.either
  where
    of_number : {k : ℕ} → 1 ≡ k → (k ≡ 2) ⊎ (k ≡ 3) → ⊥
    of_number e (inl two) = absurd (omega (arith, e, two))
    of_number e (inr three) = absurd (omega (arith, e, three))

one_other : (cs : Configurations) (words : List (List ℕ)) (a b : Action)
    → IsOtherStatement cs words a → IsOtherStatement cs words b → a ≡ b
one_other cs words a b (inl is) (inl other) = is.0 ∙ sym other.0
one_other cs words a b (inl is) (inr other) = absurd (no_flow cs words b is.1 other)
one_other cs words a b (inr is) (inl other) = absurd (no_flow cs words a other.1 is)
one_other cs words a b (inr is) (inr other) = one_node cs words a b is other

one_statement : (cs : Configurations) (words : List (List ℕ)) (a b : Action)
    → IsStatement cs words a → IsStatement cs words b → a ≡ b
one_statement cs words a b (inl is) (inl other) = one_other cs words a b is other
one_statement cs words a b (inl is) (inr (event, spells, _, _, _)) =
    absurd (omega (arith, other_number cs words a is, event_words words event spells))
one_statement cs words a b (inr (event, spells, _, _, _)) (inl other) =
    absurd (omega (arith, other_number cs words b other, event_words words event spells))
one_statement cs words a b (inr (event, spells, _, _, is))
    (inr (other, spells_other, _, _, same)) =
    is ∙ ap action_of (one_whole event other words spells spells_other) ∙ sym same

-- ---- line by line

-- a statement's line is not skipped
stated_line : (cs : Configurations) (line : List ℕ) (action : Action)
    → IsStatement cs (words_of line) action → is_skipped line ≡ true → ⊥
stated_line cs line action is skips =
    let letter = statement_letter cs (words_of line) action is in
    no_truth (sym skips ∙ not_skipped line (first_byte (words_of line)) refl letter)
  where
    no_truth : true ≡ false → ⊥
    no_truth e = absurd (cc)

-- a line of words that begin with a letter is not skipped
lettered_line : (line : List ℕ) → 97 ≤ first_byte (words_of line) → is_skipped line ≡ true → ⊥
lettered_line line letter skips =
    no_truth (sym skips ∙ not_skipped line (first_byte (words_of line)) refl letter)
  where
    no_truth : true ≡ false → ⊥
    no_truth e = absurd (cc)

-- a limit is no configuration
no_config : (words : List (List ℕ)) (name : LimitName) (number : ℕ) (ids : List ℕ)
    → SetsLimit words name number → words ≡ codes "config" ∷ map decimal ids → ⊥
no_config words name number ids sets is =
    let four : words_number words ≡ 4 = rw sets.0 refl in
    let five : words_number words ≡ 5 = rw is refl in
    absurd (omega (arith, four, five))

-- words are one list of ids at most
one_ids : (words : List (List ℕ)) (a b : List ℕ) (configs : Option Configurations)
    → words ≡ codes "config" ∷ map decimal a → words ≡ codes "config" ∷ map decimal b
    → MayFollow configs a → MayFollow configs b → a ≡ b
one_ids words a b configs is other follows follows_other =
    sym (ids_read a (each_id configs a follows)).back
    ∙ (ap (λ (ws : List (List ℕ)). numbers_of (later_words ws)) (sym is ∙ other)
    ∙ (ids_read b (each_id configs b follows_other)).back)

-- a configuration is no statement
no_statement : (cs : Configurations) (words : List (List ℕ)) (action : Action) (ids : List ℕ)
    → IsStatement cs words action → words ≡ codes "config" ∷ map decimal ids → ⊥
no_statement cs words action ids (inl (inl said)) is =
    let one : words_number words ≡ 1 = rw said.1 refl in
    let five : words_number words ≡ 5 = rw is refl in
    absurd (omega (arith, one, five))
no_statement cs words action ids (inl (inr said)) is =
    let says = says_node cs words action said in
    let five : words_number words ≡ 5 = rw is refl in
    of_number (sym five ∙ says.1.kind) says.1.either
  where
    of_number : {k : ℕ} → 5 ≡ k → (k ≡ 2) ⊎ (k ≡ 3) → ⊥
    of_number e (inl two) = absurd (omega (arith, e, two))
    of_number e (inr three) = absurd (omega (arith, e, three))
no_statement cs words action ids (inr (event, spells, _, _, _)) is =
    let five : words_number words ≡ 5 = rw is refl in
    absurd (omega (arith, event_words words event spells, five))

-- the same lines behind the same configurations
one_behind : (cs : Configurations) (begun : Bool) (n : ℕ) (lines : List (List ℕ))
    (c d : Configurations) (a b : List Statement) → IsBody cs begun n lines c a
    → IsBody cs begun n lines d b → (c ≡ d) × (a ≡ b)
one_behind cs begun n [] c d a b are other = (are.0 ∙ sym other.0, are.1 ∙ sym other.1)
one_behind cs begun n (line ∷ lines) c d a b (inl are) (inl other) =
    one_behind cs begun (suc n) lines c d a b are.1 other.1
one_behind cs begun n (line ∷ lines) c d a b (inl are) (inr (inl (ids, e, _, _, _))) =
    absurd (lettered_line line (rw e (omega arith)) are.0)
one_behind cs begun n (line ∷ lines) c d a b (inl are) (inr (inr (action, rest, is, _, _))) =
    absurd (stated_line cs line action is are.0)
one_behind cs begun n (line ∷ lines) c d a b (inr (inl (ids, e, _, _, _))) (inl other) =
    absurd (lettered_line line (rw e (omega arith)) other.0)
one_behind cs begun n (line ∷ lines) c d a b (inr (inr (action, rest, is, _, _))) (inl other) =
    absurd (stated_line cs line action is other.0)
one_behind cs begun n (line ∷ lines) c d a b (inr (inl (ids, e, follows, _, are)))
    (inr (inl (second, f, follows_second, _, other))) =
    let same = one_ids (words_of line) second ids (Some cs) f e follows_second follows in
    one_behind (up_to (Some cs) ids) begun (suc n) lines c d a b are
    (subst (λ (it : List ℕ). IsBody (up_to (Some cs) it) begun (suc n) lines d b) same other)
one_behind cs begun n (line ∷ lines) c d a b (inr (inl (ids, e, _, _, _)))
    (inr (inr (action, rest, is, _, _))) =
    absurd (no_statement cs (words_of line) action ids is e)
one_behind cs begun n (line ∷ lines) c d a b (inr (inr (action, rest, is, _, _)))
    (inr (inl (ids, e, _, _, _))) = absurd (no_statement cs (words_of line) action ids is e)
one_behind cs begun n (line ∷ lines) c d a b (inr (inr (action, rest, is, same, are)))
    (inr (inr (second, behind, is_second, same_b, other))) =
    let one = one_statement cs (words_of line) second action is_second is in
    let more = one_behind cs (begun || begins action) (suc n) lines c d rest behind are
    (subst (λ (it : Action). IsBody cs (begun || begins it) (suc n) lines d behind) one other)
    in (
      more.0,
      same ∙ (ap (λ (l : List Statement). statement n action ∷ l) more.1
          ∙ (ap (λ (it : Action). statement n it ∷ behind) (sym one) ∙ sym same_b)),
    )

abbrev words_of_limit : LimitName → ℕ → List (List ℕ)
words_of_limit name number = codes "limit" ∷ limit_word name ∷ decimal number ∷ []

-- words set one limit at most, to one number
one_limit : (words : List (List ℕ)) (a b : LimitName) (m n : ℕ) → SetsLimit words a m
    → SetsLimit words b n → (limits : ScriptLimits)
    → limits_with limits a m ≡ limits_with limits b n
one_limit words a b m n sets other limits =
    let same : words_of_limit a m ≡ words_of_limit b n = sym sets.0 ∙ other.0 in
    let name : a ≡ b = one_name a b (sym (named_by a)
    ∙ (ap (λ (ws : List (List ℕ)). limit_named (second_word ws)) same ∙ named_by b)) in
    let number : m ≡ n = one_number m n (is_small a m sets.1) (is_small b n other.1)
    (ap third_word same) in
    ap (λ (name : LimitName). limits_with limits name m) name
    ∙ ap (λ (number : ℕ). limits_with limits b number) number

alike : (one other : Setup) (limits : ScriptLimits) (a b : Configurations) → a ≡ b
    → SetsUp one limits a → SetsUp other limits b → AreAlike one other
alike one other limits a b same up up_other = record {
  configs = up.configs ∙ (same ∙ sym up_other.configs);
  script = limits;
  limits = up.limits;
  others = up_other.limits;
}

-- the same lines behind the same limits
one_with : (limits : ScriptLimits) (n : ℕ) (lines : List (List ℕ)) (one other : Setup)
    (a b : List Statement) → IsScriptWith limits n lines one a → IsScriptWith limits n lines other b
    → AreAlike one other × (a ≡ b)
one_with limits n [] one other a b is is_other = absurd is
one_with limits n (line ∷ lines) one other a b (inl is) (inl is_other) =
    one_with limits (suc n) lines one other a b is.1 is_other.1
one_with limits n (line ∷ lines) one other a b (inl is) (inr (inl (name, number, sets, _))) =
    absurd (lettered_line line (rw sets.0 (omega arith)) is.0)
one_with limits n (line ∷ lines) one other a b (inl is) (inr (inr (ids, all, e, _, _, _))) =
    absurd (lettered_line line (rw e (omega arith)) is.0)
one_with limits n (line ∷ lines) one other a b (inr (inl (name, number, sets, _))) (inl is_other) =
    absurd (lettered_line line (rw sets.0 (omega arith)) is_other.0)
one_with limits n (line ∷ lines) one other a b (inr (inr (ids, all, e, _, _, _))) (inl is_other) =
    absurd (lettered_line line (rw e (omega arith)) is_other.0)
one_with limits n (line ∷ lines) one other a b (inr (inl (name, number, sets, more)))
    (inr (inl (name_b, number_b, sets_b, more_b))) =
    let same = one_limit (words_of line) name_b name number_b number sets_b sets limits in
    one_with (limits_with limits name number) (suc n) lines one other a b more
    (subst (λ (it : ScriptLimits). IsScriptWith it (suc n) lines other b) same more_b)
one_with limits n (line ∷ lines) one other a b (inr (inl (name, number, sets, _)))
    (inr (inr (ids, all, e, _, _, _))) = absurd (no_config (words_of line) name number ids sets e)
one_with limits n (line ∷ lines) one other a b (inr (inr (ids, all, e, _, _, _)))
    (inr (inl (name, number, sets, _))) = absurd (no_config (words_of line) name number ids sets e)
one_with limits n (line ∷ lines) one other a b (inr (inr (ids, all, e, is, up, are)))
    (inr (inr (ids_b, all_b, e_b, is_b, up_b, are_b))) =
    let same : ids_b ≡ ids = one_ids (words_of line) ids_b ids None e_b e is_b is in
    let more = one_behind (ids ∷ []) false (suc n) lines all all_b a b are
    (subst (λ (l : List ℕ). IsBody (l ∷ []) false (suc n) lines all_b b) same are_b) in
    (alike one other limits all all_b more.0 up up_b, more.1)

pub one_script : ScriptsDiffer
one_script lines one other a b is is_other =
    one_with default_limits 1 lines one other a b is is_other
