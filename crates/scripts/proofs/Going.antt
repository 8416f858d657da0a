-- How a script goes on by one line.
use Rattle.std.proofs.Common.{◌≡◌, ◌+◌, ◌++◌, ℕ, suc, List, [], ◌∷◌, refl, sym, ap, subst, Option}
use Rattle.std.proofs.Common.{Some, None, Ok, inl, inr, add-one, append_assoc, true, false, arith}
use Rattle.std.proofs.Common.{Bool}
use Rattle.std.specs.Prelude.{All, IfSome, ◌||◌}
use Rattle.std.proofs.lemmas.List.Elements.{All-nil, All-cons}
use Rattle.std.proofs.lemmas.Grind.{common_steps}
use Rattle.std.specs.Option.{option_map_or}
use Rattle.kv_types.specs.{has}
use Rattle.configurations.specs.NodeLists.{Configurations, at_epoch}
use Rattle.events.specs.{NamesNode, node_in}
use Rattle.script_words.specs.declared.limits.ScriptLimits.{ScriptLimits}
use Rattle.scripts.specs.declared.setup.Setup.{Setup}
use Rattle.scripts.specs.declared.statement.ParserState.{ParserState}
use Rattle.scripts.specs.declared.statement.LineItem.{LineItem}
use Rattle.scripts.specs.declared.statement.LineItem.TheVariants.{Skipped, Limit, Config, Asks}
use Rattle.scripts.specs.declared.statement.Statement.{Statement}
use Rattle.scripts.specs.Actions.{error_of}
use Rattle.scripts.specs.declared.statement.Action.TheVariants.{Event, Flow, Invalid, Settle, Show}
use Rattle.kv_types.specs.declared.KvError.{KvError}
use Rattle.scripts.specs.declared.statement.Action.{Action}
use Rattle.scripts.specs.Scripts.{IsBody, IsScriptWith, IsStatement, Names, SetsUp, begins}
use Rattle.scripts.specs.Scripts.{statement}
use Rattle.script_words.specs.Lines.{words_of}
use Rattle.script_words.specs.Limits.{limits_with}
use Rattle.scripts.specs.Faults.{script_fault}
use Rattle.scripts.specs.Reading.{IsItem, after_item, statements_of, ReadsNext}
use Rattle.script_words.specs.LimitsLemmas.{HasRanges, with_ranges}
use Rattle.script_words.proofs.Numbers.{taken}
use Rattle.events.specs.declared.EventContent.{EventContent}

-- lines that may stand behind configurations, if there were some
abbrev pub IsRest : Option Configurations → Bool → ScriptLimits → ℕ → List (List ℕ) → Setup
    → List Statement → Type 0
IsRest None begun limits n lines setup statements = IsScriptWith limits n lines setup statements
IsRest (Some own) begun limits n lines setup statements =
    (all : Configurations) × SetsUp setup limits all × IsBody own begun n lines all statements

-- .. and then
abbrev pub IsRestOf : ParserState → ℕ → List (List ℕ) → Setup → List Statement → Type 0
IsRestOf before n lines setup statements =
    IsRest before.configs before.begun before.limits n lines setup statements

filled : (own : Configurations) → Some own ≡ None → ⊥
filled own e = grind (arith, common_steps)

one_of : (own cs : Configurations) → Some own ≡ Some cs → cs ≡ own
one_of own cs at = sym (ap (λ o. option_map_or (λ x. x) o []) at)

abbrev state_of : Bool → Option Configurations → Bool → ScriptLimits → ParserState
state_of faults configs begun limits =
    record { configs = configs; begun = begun; limits = limits; faults = faults }

go : (faults : Bool) (before : Option Configurations) (begun : Bool) (limits : ScriptLimits)
    (n : ℕ) (line : List ℕ) (lines : List (List ℕ)) (setup : Setup) (rest : List Statement)
    (item : LineItem) → IsItem (state_of faults before begun limits) line item
    → IsRestOf (after_item (state_of faults before begun limits) item) (suc n) lines setup rest
    → IsRest before begun limits n (line ∷ lines) setup (statements_of n item ++ rest)
go faults None begun limits n line lines setup rest Skipped is more = inl (is, more)
go faults (Some own) begun limits n line lines setup rest Skipped is (all, up, are) =
    (all, up, inl (is, are))
go faults None begun limits n line lines setup rest (Limit name number) (sets, free) more =
    inr (inl (name, number, sets, more))
go faults (Some own) begun limits n line lines setup rest (Limit name number) (sets, free) more =
    absurd (filled own free)
go faults None begun limits n line lines setup rest (Config new) (ids, words, follows, one, rests)
    (all, up, are) =
    let there : IsBody (ids ∷ []) false (suc n) lines all rest = rw (one, rests) at are in
    inr (inr (ids, all, words, follows, up, there))
go faults (Some own) begun limits n line lines setup rest (Config new)
    (ids, words, follows, one, rests) (all, up, are) =
    (all, up, inr (inl (ids, words, follows, rests, rw one at are)))
go faults None begun limits n line lines setup rest (Asks action) (found, at, is) more =
    absurd (filled found (sym at))
go faults (Some own) begun limits n line lines setup rest (Asks action) (found, at, is)
    (all, up, are) =
    let own_is = subst (λ (it : Configurations). IsStatement it (words_of line) action)
    (one_of own found at) is in
    (all, up, inr (inr (action, rest, own_is, refl, are)))

-- one line more in front
pub goes_on : (before : ParserState) (n : ℕ) (line : List ℕ) (lines : List (List ℕ)) (setup : Setup)
    (rest : List Statement) (item : LineItem) → IsItem before line item
    → IsRestOf (after_item before item) (suc n) lines setup rest
    → IsRestOf before n (line ∷ lines) setup (statements_of n item ++ rest)
goes_on before n line lines setup rest item is more =
    go before.faults before.configs before.begun before.limits n line lines setup rest item is more

-- the statements' events name nodes of the configuration
has_name : (cs : Configurations) (event : EventContent) (o : Option KvError)
    → NamesNode cs event.kind → Names cs (option_map_or (λ e. Invalid e) o (Event event))
has_name cs event None e = e
has_name cs event (Some x) e = tt

names : (cs : Configurations) (words : List (List ℕ)) (action : Action)
    → IsStatement cs words action → Names cs action
names cs words action (inl (inl is)) = rw is.0 tt
names cs words action (inl (inr is)) = elim is.said [
  | inl said ↦ rw said.0 is.there
  | inr said ↦ rw said.0 is.there
]
names cs words action (inr (event, spells, named, told, same)) =
    rw same (has_name cs event (error_of event.kind) named)

abbrev pub AllName : Configurations → List Statement → Type 0
AllName cs ss = All (λ it. Names cs it.action) ss

-- configurations keep the first one
same_first : (c : List ℕ) (cs : Configurations) (begun : Bool) (n : ℕ) (lines : List (List ℕ))
    (all : Configurations) (ss : List Statement) → IsBody (c ∷ cs) begun n lines all ss
    → at_epoch all 0 ≡ c
same_first c cs begun n [] all ss are = rw are.0 refl
same_first c cs begun n (line ∷ lines) all ss (inl more) =
    same_first c cs begun (suc n) lines all ss more.1
same_first c cs begun n (line ∷ lines) all ss (inr (inl (ids, _, _, _, more))) =
    same_first c (cs ++ ids ∷ []) begun (suc n) lines all ss more
same_first c cs begun n (line ∷ lines) all ss (inr (inr (action, rest, _, _, more))) =
    same_first c cs (begun || begins action) (suc n) lines all rest more

-- .. and so nodes have their names at all of them
first_names : (cs all : Configurations) (action : Action) → at_epoch all 0 ≡ at_epoch cs 0
    → Names cs action → Names all action
first_names cs all (Event event) same is = first_has (node_in event.kind) is
  where
    first_has : (node : Option ℕ) → IfSome node (λ x. has (at_epoch cs 0) x ≡ true)
        → IfSome node (λ x. has (at_epoch all 0) x ≡ true)
    first_has None is = tt
    first_has (Some x) is = rw same is
first_names cs all (Invalid e) same is = tt
first_names cs all Flow same is = tt
first_names cs all (Settle node) same is = rw same is
first_names cs all (Show node) same is = rw same is

behind : (c : List ℕ) (cs : Configurations) (begun : Bool) (n : ℕ) (lines : List (List ℕ))
    (all : Configurations) (ss : List Statement) → IsBody (c ∷ cs) begun n lines all ss
    → AllName all ss
behind c cs begun n [] all ss are = rw are.1 (All-nil _)
behind c cs begun n (line ∷ lines) all ss (inl more) =
    behind c cs begun (suc n) lines all ss more.1
behind c cs begun n (line ∷ lines) all ss (inr (inl (ids, _, _, _, more))) =
    behind c (cs ++ ids ∷ []) begun (suc n) lines all ss more
behind c cs begun n (line ∷ lines) all ss (inr (inr (action, rest, is, same, more))) =
    let first = same_first c cs (begun || begins action) (suc n) lines all rest more in
    rw same (All-cons (λ it. Names all it.action) (statement n action) rest
    (first_names (c ∷ cs) all action first (names (c ∷ cs) (words_of line) action is))
    (behind c cs (begun || begins action) (suc n) lines all rest more))

pub all_name : (limits : ScriptLimits) (n : ℕ) (lines : List (List ℕ)) (setup : Setup)
    (ss : List Statement) → IsScriptWith limits n lines setup ss → AllName setup.configs ss
all_name limits n [] setup ss e = absurd e
all_name limits n (line ∷ lines) setup ss (inl more) =
    all_name limits (suc n) lines setup ss more.1
all_name limits n (line ∷ lines) setup ss (inr (inl (name, number, sets, more))) =
    all_name (limits_with limits name number) (suc n) lines setup ss more
all_name limits n (line ∷ lines) setup ss (inr (inr (ids, all, words, follows, up, more))) =
    rw up.configs (behind ids [] false (suc n) lines all ss more)

-- one line is taken
pub takes_on : (before after : ParserState) (n : ℕ) (line : List ℕ) (lines : List (List ℕ))
    (old new : List Statement) (goal : Setup → List Statement → Type 0)
    → ReadsNext before after n line old new (Ok tt)
    → ((setup : Setup) (rest : List Statement)
    → IsRestOf before n (line ∷ lines) setup rest → goal setup (old ++ rest))
    → (setup : Setup) (rest : List Statement) → IsRestOf after (n + 1) lines setup rest
    → goal setup (new ++ rest)
takes_on before after n line lines old new goal (
  good,
  few,
  later,
  (
    item,
    is,
    same,
    added,
  ),
) found setup rest more =
    rw (added, append_assoc) (found setup (statements_of n item ++ rest)
    (goes_on before n line lines setup rest item is (rw (same, add-one) at more)))

-- a line keeps the limits, or sets one to a number that it may be
keeps_ranges : (before : ParserState) (line : List ℕ) (item : LineItem) → IsItem before line item
    → HasRanges before.limits → HasRanges (after_item before item).limits
keeps_ranges before line Skipped is are = are
keeps_ranges before line (Limit name number) (sets, free) are =
    with_ranges before.limits name number sets.1 are
keeps_ranges before line (Config cs) is are = are
keeps_ranges before line (Asks action) is are = are

pub ranged : (before after : ParserState) (n : ℕ) (line : List ℕ) (old new : List Statement)
    → ReadsNext before after n line old new (Ok tt) → HasRanges before.limits
    → HasRanges after.limits
ranged before after n line old new (good, few, later, (item, is, same, added)) are =
    rw same (keeps_ranges before line item is are)

pub keeps_fault : (before after : ParserState) (n : ℕ) (line : List ℕ) (lines : List (List ℕ))
    (old new : List Statement) → ReadsNext before after n line old new (Ok tt)
    → script_fault after (n + 1) lines ≡ script_fault before n (line ∷ lines)
keeps_fault before after n line lines old new (good, few, later, taken) = rw (
  good,
  later,
  add-one,
) refl
