-- A script has no fault, where its lines are neither too long nor too many.
use Rattle.std.proofs.Common.{◌≡◌, ◌+◌, ◌≤◌, ℕ, suc, List, [], ◌∷◌, ◌++◌, codes, subst, refl, sym}
use Rattle.std.proofs.Common.{◌∙◌, inl, inr, arith, true, false, Bool, map, length, Option, Some}
use Rattle.std.proofs.Common.{None}
use Rattle.std.specs.Prelude.{All, IfSome, nat_lt, ◌||◌, ◌<◌, ◌^◌, ◌⊎◌}
use Rattle.std.specs.Str.{bytes_eq}
use Rattle.std.specs.Fmt.{decimal}
use Rattle.std.proofs.lemmas.Bool.Decides.{nat_tests}
use Rattle.std.proofs.lemmas.List.Elements.{All-head, All-tail}
use Rattle.events.specs.{epoch_in}
use Rattle.events.specs.{node_in, NamesNode}
use Rattle.kv_types.specs.{has}
use Rattle.configurations.specs.NodeLists.{Configurations, IsId, at_epoch}
use Rattle.configurations.specs.Configs.{TestDecidesConfig}
use Rattle.scripts.specs.declared.statement.Action.{Action}
use Rattle.scripts.specs.declared.statement.Action.TheVariants.{Settle, Show}
use Rattle.scripts.specs.Reading.{IsOfOneNode}
use Rattle.kv_types.specs.declared.LimitName.{LimitName}
use Rattle.kv_types.specs.declared.LimitName.TheVariants.{Cache, Log, L0, Table, Level}
use Rattle.script_words.specs.declared.limits.ScriptLimits.{ScriptLimits}
use Rattle.scripts.specs.declared.setup.Setup.{Setup}
use Rattle.scripts.specs.declared.statement.ParserState.{ParserState}
use Rattle.scripts.specs.declared.statement.Statement.{Statement}
use Rattle.script_words.specs.Words.{before_fault, begins_fault}
use Rattle.scripts.specs.Events.{SpellsEvent}
use Rattle.scripts.specs.Actions.{action_of}
use Rattle.script_words.specs.Limits.{SetsLimit, default_limits, limit_word, limits_with}
use Rattle.scripts.specs.Scripts.{IsBody, IsScriptWith, IsStatement, MayFollow, NamesEpoch, begins}
use Rattle.scripts.specs.Scripts.{is_skipped, up_to}
use Rattle.script_words.specs.Lines.{words_of}
use Rattle.scripts.specs.Faults.{statement_fault, words_fault, line_fault, after_words, after_line}
use Rattle.scripts.specs.Faults.{epoch_fault, may_follow, node_fault, script_fault}
use Rattle.script_words.specs.FaultWordsLemmas.{faultless_before}
use Rattle.scripts.proofs.Items.{begins_by_name}
use Rattle.scripts.proofs.Notices.{known_epoch}
use Rattle.scripts.proofs.Placing.{is_of_place, of_one_node}
use Rattle.script_words.specs.WordsLemmas.{number_back, number_faultless, number_word}
use Rattle.scripts.proofs.Ids.{ids_read}
use Rattle.script_words.specs.LimitsLemmas.{is_small, named_by}
use Rattle.scripts.proofs.EventNames.{lettered, name_of, no_config, no_limit}
use Rattle.scripts.proofs.EventWords.{divides, divided_read, opens}
use Rattle.scripts.specs.Laws.{AreFaultless, ScriptsAreRead, is_faultless}
use Rattle.scripts.proofs.FirstBytes.{first_byte, not_skipped}
use Rattle.events.specs.declared.EventContent.{EventContent}

-- ---- a line that is a statement has no fault

-- words that may stand where faults may be spelled or not
abbrev Allows : Bool → List (List ℕ) → Type 0
Allows faults words = faults ≡ false → is_faultless words ≡ true

-- .. and lines
abbrev AllowsLines : Bool → List (List ℕ) → Type 0
AllowsLines faults lines = faults ≡ false → AreFaultless lines

abbrev IsFaultlessLine : List ℕ → Type 0
IsFaultlessLine line = is_skipped line ≡ false → is_faultless (words_of line) ≡ true

first_allows : (faults : Bool) (line : List ℕ) (lines : List (List ℕ)) →
    AllowsLines faults (line ∷ lines) → is_skipped line ≡ false → Allows faults (words_of line)
first_allows faults line lines allows reads =
    λ no. All-head IsFaultlessLine line lines (allows no) reads

later_allow : (faults : Bool) (line : List ℕ) (lines : List (List ℕ)) →
    AllowsLines faults (line ∷ lines) → AllowsLines faults lines
later_allow faults line lines allows = λ no. All-tail IsFaultlessLine line lines (allows no)

abbrev behind_configs : Bool → Configurations → Bool → ScriptLimits → ParserState
behind_configs faults cs begun limits =
    record { configs = Some cs; begun = begun; limits = limits; faults = faults }

-- before the configuration, behind these limits
abbrev before_configs : Bool → ScriptLimits → ParserState
before_configs faults limits =
    record { configs = None; begun = false; limits = limits; faults = faults }

-- what is to be said of the words of a line with such an action
pub record IsPassed (faults : Bool) (cs : Configurations) (begun : Bool) (limits : ScriptLimits)
    (words : List (List ℕ)) (action : Action) : Type 0
  where
    pub good : words_fault (behind_configs faults cs begun limits) words ≡ None
    pub after : after_words (behind_configs faults cs begun limits) words
        ≡ behind_configs faults cs (begun || begins action) limits
    pub letter : 97 ≤ first_byte words

free : (cs : Configurations) (node : Option ℕ) → IfSome node (λ x. has (at_epoch cs 0) x ≡ true) →
    node_fault (Some cs) node ≡ None
free cs None is = refl
free cs (Some x) is = rw is refl

known : (cs : Configurations) (epoch : Option ℕ) → IfSome epoch (λ e. e < length cs) →
    epoch_fault epoch (Some cs) ≡ None
known cs None is = refl
known cs (Some epoch) is = known_epoch cs epoch is

good_statement : (faults : Bool) (cs : Configurations) (begun : Bool) (limits : ScriptLimits)
    (event : EventContent) (name : List ℕ) (args : List (List ℕ)) →
    Allows faults (name ∷ args) →
    SpellsEvent (name ∷ args) event →
    NamesNode cs event.kind → NamesEpoch cs event.kind
    → statement_fault (behind_configs faults cs begun limits) name args ≡ None
good_statement faults cs begun limits event name args allows spells named told =
    let d = divides event name args spells in
    is_of_place (behind_configs faults cs begun limits) name args event.kind
    (divided_read faults event name args allows d) d.kind_said d.kind
    ∙ rw (known cs (epoch_in event.kind) told) (free cs (node_in event.kind) named)

passes : (faults : Bool) (cs : Configurations) (begun : Bool) (limits : ScriptLimits)
    (event : EventContent) (words : List (List ℕ)) (action : Action) (name : List ℕ)
    (args : List (List ℕ)) → Allows faults words →
    words ≡ name ∷ args → bytes_eq name (codes "config") ≡ false →
    bytes_eq name (codes "limit") ≡ false → 97 ≤ first_byte (name ∷ args) →
    SpellsEvent words event → NamesNode cs event.kind → NamesEpoch cs event.kind →
    action ≡ action_of event → IsPassed faults cs begun limits words action
passes faults cs begun limits event words action name args allows e other third letter spells
    named told is =
    let own = subst (λ (ws : List (List ℕ)). SpellsEvent ws event) e spells in
    let fits = subst (λ (ws : List (List ℕ)). Allows faults ws) e allows in
    let goes = begins_by_name cs name args action (inr (event, own, named, told, is)) in
    record {
      good = rw (e, other, third)
          (good_statement faults cs begun limits event name args fits own named told);
      after = rw (e, other, third, ← goes) refl;
      letter = rw e letter;
    }

event_passes : (faults : Bool) (cs : Configurations) (begun : Bool) (limits : ScriptLimits)
    (event : EventContent) (words : List (List ℕ)) (action : Action) → Allows faults words →
    SpellsEvent words event →
    NamesNode cs event.kind → NamesEpoch cs event.kind → action ≡ action_of event →
    IsPassed faults cs begun limits words action
event_passes faults cs begun limits event words action allows spells named told same =
    let front = opens event.kind spells.first spells.kind in
    let args = front.0 ++ spells.behind in
    let is : words ≡ name_of event.kind ∷ args = rw front.1 at spells.parts in
    passes faults cs begun limits event words action (name_of event.kind) args allows is
    (no_config event.kind) (no_limit event.kind) (lettered event.kind args) spells named told same

-- a node that is settled or shown
one_node_stands : (faults : Bool) (cs : Configurations) (begun : Bool) (limits : ScriptLimits)
    (node : ℕ) → node < 2 ^ 63 → has (at_epoch cs 0) node ≡ true → (name : List ℕ) →
    IsOfOneNode name →
    statement_fault (behind_configs faults cs begun limits) name (decimal node ∷ []) ≡ None
one_node_stands faults cs begun limits node small there name of_one =
    let read = number_word node small in
    let alone = number_faultless (decimal node) read in
    of_one_node (behind_configs faults cs begun limits) name (decimal node ∷ []) (decimal node) node
    of_one
    (rw alone refl) (rw alone refl) read (number_back node small)
    ∙ free cs (Some node) there

pub statement_passes : (faults : Bool) (cs : Configurations) (begun : Bool)
    (limits : ScriptLimits) (words : List (List ℕ)) (action : Action) → Allows faults words →
    IsStatement cs words action →
    IsPassed faults cs begun limits words action
statement_passes faults cs begun limits words action allows (inl (inl is)) = record {
  good = rw is.1 refl;
  after = rw (is.0, is.1) refl;
  letter = rw is.1 (omega arith);
}
statement_passes faults cs begun limits words action allows (inl (inr is)) = one_node_passes is.said
  where
    one_node_passes : ((action ≡ Settle is.node)
        × (words ≡ codes "settle" ∷ decimal is.node ∷ []))
        ⊎ ((action ≡ Show is.node) × (words ≡ codes "show" ∷ decimal is.node ∷ [])) →
        IsPassed faults cs begun limits words action
    one_node_passes (inl said) = record {
      good = rw said.1 (one_node_stands faults cs begun limits is.node is.small is.there
          (codes "settle") (inl refl));
      after = rw (said.0, said.1) refl;
      letter = rw said.1 (omega arith);
    }
    one_node_passes (inr said) = record {
      good = rw said.1 (one_node_stands faults cs begun limits is.node is.small is.there
          (codes "show") (inr refl));
      after = rw (said.0, said.1) refl;
      letter = rw said.1 (omega arith);
    }
statement_passes faults cs begun limits words action allows
    (inr (event, spells, named, told, same)) =
    event_passes faults cs begun limits event words action allows spells named told same

-- a statement begins with a letter
pub statement_letter : (cs : Configurations) (words : List (List ℕ)) (action : Action) →
    IsStatement cs words action → 97 ≤ first_byte words
statement_letter cs words action is =
    (statement_passes true cs false default_limits words action (λ no. absurd (cc)) is).letter

-- ---- line by line

short_line : (line : List ℕ) → length line ≤ 262144 → nat_lt 262144 (length line) ≡ false
short_line line short = grind (arith, nat_tests)

few_lines : (n : ℕ) → n ≤ 100000 → nat_lt 100000 n ≡ false
few_lines n few = grind (arith, nat_tests)

passed : (before after : ParserState) (n : ℕ) (line : List ℕ) (lines : List (List ℕ)) → n ≤ 100000 →
    line_fault before line ≡ None → after_line before line ≡ after →
    script_fault after (suc n) lines ≡ None → script_fault before n (line ∷ lines) ≡ None
passed before after n line lines few good later rest = rw (good, few_lines n few, later) rest

skipped : (before : ParserState) (n : ℕ) (line : List ℕ) (lines : List (List ℕ)) →
    length line ≤ 262144 → n ≤ 100000 → is_skipped line ≡ true →
    script_fault before (suc n) lines ≡ None → script_fault before n (line ∷ lines) ≡ None
skipped before n line lines short few skip rest =
    passed before before n line lines few (rw (short_line line short, skip) refl) (rw skip refl)
    rest

stated : (before after : ParserState) (n : ℕ) (line : List ℕ) (lines : List (List ℕ)) →
    length line ≤ 262144 → n ≤ 100000 → 97 ≤ first_byte (words_of line) →
    words_fault before (words_of line) ≡ None → after_words before (words_of line) ≡ after →
    script_fault after (suc n) lines ≡ None → script_fault before n (line ∷ lines) ≡ None
stated before after n line lines short few letter good later rest =
    let reads = not_skipped line (first_byte (words_of line)) refl letter in
    passed before after n line lines few (rw (short_line line short, reads) good)
    (rw reads later) rest

abbrev AreShort : List (List ℕ) → Type 0
AreShort lines = All (λ line. length line ≤ 262144) lines

-- ids that may be the next configuration are one, and the test says so
pub each_id : (configs : Option Configurations) (ids : List ℕ) → MayFollow configs ids
    → All IsId ids
each_id None ids is = is.each
each_id (Some cs) ids is = is.0.each

tested : TestDecidesConfig → (configs : Option Configurations) (ids : List ℕ)
    → MayFollow configs ids → may_follow configs ids ≡ true
tested decides None ids is = (decides ids).1 is
tested decides (Some cs) ids is = rw ((decides ids).1 is.0) is.1

-- a configuration, before a run has begun
config_good : TestDecidesConfig → (before : ParserState) (ids : List ℕ)
    (words : List (List ℕ)) → MayFollow before.configs ids → before.begun ≡ false →
    words ≡ codes "config" ∷ map decimal ids → (words_fault before words ≡ None)
    × (after_words before words
    ≡ record before { configs = Some (up_to before.configs ids) })
config_good decides before ids words follows rests e =
    let r = ids_read ids (each_id before.configs ids follows) in
    let front : map decimal ids ≡ before_fault (map decimal ids) =
    faultless_before (map decimal ids) (sym r.none) in (
      rw (
        e,
        ← front,
        r.numbers,
        r.none,
        rests,
        r.back,
        tested decides before.configs ids follows,
      ) refl,
      rw (e, r.back) refl,
    )

behind_read : TestDecidesConfig → (faults : Bool) (cs : Configurations) (begun : Bool)
    (limits : ScriptLimits) (n : ℕ) (lines : List (List ℕ)) (all : Configurations)
    (statements : List Statement) → AllowsLines faults lines → AreShort lines →
    n + length lines ≤ 100001 → IsBody cs begun n lines all statements →
    script_fault (behind_configs faults cs begun limits) n lines ≡ None
behind_read decides faults cs begun limits n [] all statements allows short few are = refl
behind_read decides faults cs begun limits n (line ∷ lines) all statements allows short few
    (inl more) =
    skipped (behind_configs faults cs begun limits) n line lines
    (All-head (λ l. length l ≤ 262144) line lines short) (omega (arith, few)) more.0
    (behind_read decides faults cs begun limits (suc n) lines all statements
    (later_allow faults line lines allows)
    (All-tail (λ l. length l ≤ 262144) line lines short) (omega (arith, few)) more.1)
behind_read decides faults cs begun limits n (line ∷ lines) all statements allows short few
    (inr (inl (ids, e, follows, rests, more))) =
    let now = up_to (Some cs) ids in
    let good = config_good decides (behind_configs faults cs begun limits) ids (words_of line)
    follows rests e in
    stated (behind_configs faults cs begun limits) (behind_configs faults now begun limits) n line
    lines (All-head (λ l. length l ≤ 262144) line lines short) (omega (arith, few))
    (rw e (omega arith)) good.0 good.1
    (behind_read decides faults now begun limits (suc n) lines all statements
    (later_allow faults line lines allows)
    (All-tail (λ l. length l ≤ 262144) line lines short) (omega (arith, few)) more)
behind_read decides faults cs begun limits n (line ∷ lines) all statements allows short few
    (inr (inr (action, rest, is, same, more))) =
    let reads = not_skipped line (first_byte (words_of line)) refl
    (statement_letter cs (words_of line) action is) in
    let p = statement_passes faults cs begun limits (words_of line) action
    (first_allows faults line lines allows reads) is in
    let later = begun || begins action in
    stated (behind_configs faults cs begun limits) (behind_configs faults cs later limits) n line
    lines (All-head (λ l. length l ≤ 262144) line lines short) (omega (arith, few)) p.letter
    p.good p.after
    (behind_read decides faults cs later limits (suc n) lines all rest
    (later_allow faults line lines allows)
    (All-tail (λ l. length l ≤ 262144) line lines short) (omega (arith, few)) more)

-- the word of a limit begins no fault
begins_none : (name : LimitName) → begins_fault (limit_word name) ≡ false
begins_none Log = refl
begins_none L0 = refl
begins_none Table = refl
begins_none Level = refl
begins_none Cache = refl

-- a limit
limit_good : (faults : Bool) (limits : ScriptLimits) (name : LimitName) (number : ℕ)
    (words : List (List ℕ)) → SetsLimit words name number
    → (words_fault (before_configs faults limits) words ≡ None)
    × (after_words (before_configs faults limits) words
    ≡ before_configs faults (limits_with limits name number))
limit_good faults limits name number words (e, allowed) =
    let small = is_small name number allowed in
    let read = number_word number small in
    let alone = number_faultless (decimal number) read in
    let back = number_back number small in (
      rw (e, begins_none name, alone, read, back, named_by name, allowed) refl,
      rw (e, back, named_by name) refl,
    )

lines_read : TestDecidesConfig → (faults : Bool) (limits : ScriptLimits) (n : ℕ)
    (lines : List (List ℕ)) (setup : Setup) (statements : List Statement) →
    AllowsLines faults lines → AreShort lines → n + length lines ≤ 100001 →
    IsScriptWith limits n lines setup statements →
    script_fault (before_configs faults limits) n lines ≡ None
lines_read decides faults limits n [] setup statements allows short few is = absurd is
lines_read decides faults limits n (line ∷ lines) setup statements allows short few (inl more) =
    skipped (before_configs faults limits) n line lines
    (All-head (λ l. length l ≤ 262144) line lines short) (omega (arith, few)) more.0
    (lines_read decides faults limits (suc n) lines setup statements
    (later_allow faults line lines allows)
    (All-tail (λ l. length l ≤ 262144) line lines short) (omega (arith, few)) more.1)
lines_read decides faults limits n (line ∷ lines) setup statements allows short few
    (inr (inl (name, number, sets, more))) =
    let good = limit_good faults limits name number (words_of line) sets in
    let after = limits_with limits name number in
    stated (before_configs faults limits) (before_configs faults after) n line lines
    (All-head (λ l. length l ≤ 262144) line lines short) (omega (arith, few))
    (rw sets.0 (omega arith)) good.0 good.1
    (lines_read decides faults after (suc n) lines setup statements
    (later_allow faults line lines allows)
    (All-tail (λ l. length l ≤ 262144) line lines short) (omega (arith, few)) more)
lines_read decides faults limits n (line ∷ lines) setup statements allows short few
    (inr (inr (ids, all, e, is, up, more))) =
    let good = config_good decides (before_configs faults limits) ids (words_of line) is refl e in
    stated (before_configs faults limits) (behind_configs faults (ids ∷ []) false limits) n line
    lines (All-head (λ l. length l ≤ 262144) line lines short) (omega (arith, few))
    (rw e (omega arith)) good.0 good.1
    (behind_read decides faults (ids ∷ []) false limits (suc n) lines all statements
    (later_allow faults line lines allows)
    (All-tail (λ l. length l ≤ 262144) line lines short) (omega (arith, few)) more)

pub script_read : TestDecidesConfig → ScriptsAreRead
script_read decides faults lines setup statements short few allows is =
    lines_read decides faults default_limits 1 lines setup statements allows short
    (omega (arith, few)) is
