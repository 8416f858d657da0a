-- Where a statement stands, and the node that it names.
use Rattle.std.proofs.Common.{◌≡◌, ◌<◌, ◌^◌, ℕ, List, [], ◌∷◌, refl, ◌∙◌, codes, Option, is_none}
use Rattle.std.proofs.Common.{Some, None, Ok, Err, inl, inr, true, false, arith, map, ap, subst}
use Rattle.std.proofs.Common.{sym, length, Bool}
use Rattle.std.specs.Prelude.{◌==◌, ◌≢◌, IfErr, MatchResult, Result}
use Rattle.std.proofs.lemmas.Bool.Decides.{nat_tests}
use Rattle.std.proofs.lemmas.Bool.{cases_Bool}
use Rattle.std.proofs.lemmas.Grind.{common_steps}
use Rattle.std.specs.Str.{bytes_eq}
use Rattle.std.specs.Str.Parse.{digits_value}
use Rattle.std.specs.Fmt.{decimal}
use Rattle.kv_types.specs.{has, mark_of}
use Rattle.kv_types.specs.declared.mark.Mark.{Mark}
use Rattle.configurations.specs.NodeLists.{Configurations, at_epoch}
use Rattle.disk.specs.declared.Fault.{Fault}
use Rattle.events.specs.declared.EventKind.{EventKind}
use Rattle.events.specs.declared.EventKind.TheVariants.{Submit, Get, Deliver, Tick}
use Rattle.events.specs.declared.EventKind.TheVariants.{Tend, Start, Stop}
use Rattle.events.specs.declared.EventKind.TheVariants.{Rows, Open, Close, Notice}
use Rattle.events.specs.{epoch_in}
use Rattle.events.specs.{node_in, NamesNode}
use Rattle.scripts.specs.declared.command.Command.{Command}
use Rattle.script_words.specs.declared.error.ScriptError.{ScriptError}
use Rattle.script_words.specs.declared.error.ScriptError.TheVariants.{OutOfPlace, BadFault}
use Rattle.script_words.specs.declared.error.ScriptError.TheVariants.{OutOfMemory}
use Rattle.script_words.specs.declared.error.ScriptError.TheVariants.{BadNumber, WrongNumberOfWords}
use Rattle.scripts.specs.declared.statement.ParserState.{ParserState}
use Rattle.scripts.specs.declared.statement.LineItem.TheVariants.{Config}
use Rattle.scripts.specs.declared.statement.Action.{Action}
use Rattle.scripts.specs.declared.statement.Action.TheVariants.{Event, Flow, Settle, Show}
use Rattle.script_words.specs.Words.{before_fault, from_fault, is_number}
use Rattle.scripts.specs.Statements.{CanBeSaid, IsSpelled, fault_of_words, submit_name, walk_name}
use Rattle.scripts.specs.Actions.{action_of}
use Rattle.scripts.specs.Events.{SpellsEvent, bears_fault}
use Rattle.script_words.specs.FaultWords.{fault_word, may_bear_fault, ReadsFaultAs}
use Rattle.scripts.specs.Faults.{node_named, node_fault, statement_fault, config_fault, numbers_of}
use Rattle.scripts.specs.Faults.{epoch_named, place_fault, spelling_fault, junk_fault}
use Rattle.scripts.specs.Reading.{IsOfOneNode, Places, PlacesNode, ReadsWords, what_of}
use Rattle.scripts.specs.Scripts.{MayFollow, NamesEpoch, up_to}
use Rattle.script_words.specs.FaultWordsLemmas.{split_words}
use Rattle.scripts.proofs.EventNames.{name_of, named, of_submit, of_walk}
use Rattle.scripts.proofs.ReadBack.{event_read}
use Rattle.script_words.specs.WordsLemmas.{number_back}
use Rattle.events.specs.declared.EventContent.{EventContent}
use Rattle.scripts.specs.declared.command.Command.TheVariants as command

-- a submit is no delivery, and no notice
submit_no_delivery : (mark : Option Mark) → bytes_eq (submit_name mark) (codes "deliver") ≡ false
submit_no_delivery = of_submit (λ name. bytes_eq name (codes "deliver") ≡ false) refl refl

submit_no_notice : (mark : Option Mark) → bytes_eq (submit_name mark) (codes "notice") ≡ false
submit_no_notice = of_submit (λ name. bytes_eq name (codes "notice") ≡ false) refl refl

-- a walk is no delivery, and no notice
no_delivery : (backward : Bool) → bytes_eq (walk_name backward) (codes "deliver") ≡ false
no_delivery = of_walk (λ name. bytes_eq name (codes "deliver") ≡ false) refl refl

no_notice : (backward : Bool) → bytes_eq (walk_name backward) (codes "notice") ≡ false
no_notice = of_walk (λ name. bytes_eq name (codes "notice") ≡ false) refl refl

-- the node that the words of an event name is that of the event
pub names : (what : EventKind) (words : List (List ℕ)) → CanBeSaid what → IsSpelled what words
    → node_named words ≡ node_in what
names (Submit n batch) words said e =
    rw (e, submit_no_delivery (mark_of batch), number_back n said.0) refl
names (Get n key None) words said e = rw (e, number_back n said.0) refl
names (Get n key (Some at)) words said e = rw (e, number_back n said.0) refl
names (Rows n range at) words said e =
    rw (e, no_delivery range.backward, number_back n said.0) refl
names (Open n at) words said e = rw (e, number_back n said.0) refl
names (Close n number) words said e = rw (e, number_back n said.0) refl
names (Deliver place) words said e = rw e refl
names (Notice n epoch) words said e = rw (e, number_back n said.0) refl
names (Tick n) words said e = rw (e, number_back n said) refl
names (Tend n) words said e = rw (e, number_back n said) refl
names (Start n) words said e = rw (e, number_back n said) refl
names (Stop n junk) words said (inl e) = rw (e.1, number_back n said.0) refl
names (Stop n junk) words said (inr e) = rw (e.2, number_back n said.0) refl

-- .. and so is the epoch
epochs : (what : EventKind) (words : List (List ℕ)) → CanBeSaid what → IsSpelled what words
    → epoch_named words ≡ epoch_in what
epochs (Submit n batch) words said e = rw (e, submit_no_notice (mark_of batch)) refl
epochs (Get n key None) words said e = rw e refl
epochs (Get n key (Some at)) words said e = rw e refl
epochs (Rows n range at) words said e = rw (e, no_notice range.backward) refl
epochs (Open n at) words said e = rw e refl
epochs (Close n number) words said e = rw e refl
epochs (Deliver place) words said e = rw e refl
epochs (Notice n epoch) words said e = rw (e, number_back epoch said.1) refl
epochs (Tick n) words said e = rw e refl
epochs (Tend n) words said e = rw e refl
epochs (Start n) words said e = rw e refl
epochs (Stop n junk) words said (inl e) = rw e.1 refl
epochs (Stop n junk) words said (inr e) = rw e.2 refl

bears_by_name : (what : EventKind) → may_bear_fault (name_of what) ≡ bears_fault what
bears_by_name (Submit node batch) =
    of_submit (λ name. may_bear_fault name ≡ true) refl refl (mark_of batch)
bears_by_name (Get node key at) = refl
bears_by_name (Rows node range at) =
    of_walk (λ name. may_bear_fault name ≡ true) refl refl range.backward
bears_by_name (Open node at) = refl
bears_by_name (Close node number) = refl
bears_by_name (Deliver place) = refl
bears_by_name (Notice node epoch) = refl
bears_by_name (Tick node) = refl
bears_by_name (Tend node) = refl
bears_by_name (Start node) = refl
bears_by_name (Stop node junk) = refl

-- a kind bears a fault if its name does
pub bears : (what : EventKind) (name : List ℕ) (args : List (List ℕ))
    → IsSpelled what (name ∷ args) → may_bear_fault name ≡ bears_fault what
bears what name args e = rw (named what (name ∷ args) e) (bears_by_name what)

-- the fault of a statement that is spelled is that of its place
pub is_of_place : (before : ParserState) (name : List ℕ) (args : List (List ℕ)) (what : EventKind)
    → spelling_fault before.faults name args ≡ None → CanBeSaid what
    → IsSpelled what (name ∷ before_fault args) → statement_fault before name args
    ≡ place_fault (epoch_in what) before.configs (node_in what)
is_of_place before name args what good said spelled =
    rw (
      good,
      names what (name ∷ before_fault args) said spelled,
      epochs what (name ∷ before_fault args) said spelled,
    ) refl

-- a node that a statement may name is one of a configuration
pub stands : (configs : Option Configurations) (n : ℕ) → node_fault configs (Some n) ≡ None →
    (cs : Configurations) × (configs ≡ Some cs) × (has (at_epoch cs 0) n ≡ true)
stands None n e = grind (arith, common_steps)
stands (Some cs) n e = elim (cases_Bool (has (at_epoch cs 0) n)) [
  | inl t ↦ (cs, refl, t)
  | inr f ↦ grind (arith, common_steps)
]

-- words without a fault, and those of a fault behind them
pub no_spelling : (faults : Bool) (name : List ℕ) (args cut behind : List (List ℕ))
    → cut ≡ before_fault args → behind ≡ from_fault args → fault_of_words (name ∷ cut) ≡ None
    → junk_fault faults name cut ≡ None → fault_word faults name behind ≡ None
    → spelling_fault faults name args ≡ None
no_spelling faults name args cut behind first others good bare free =
    rw (← first, good, bare, ← others) free

-- what the reader knows of a statement whose place it looks for
pub record IsRead (faults : Bool) (name : List ℕ) (args : List (List ℕ))
    (event : EventContent) :
    Type 0
  where
    pub good : spelling_fault faults name args ≡ None
    pub said : CanBeSaid event.kind
    pub spelled : IsSpelled event.kind (name ∷ before_fault args)
    pub spells : SpellsEvent (name ∷ args) event

pub is_read : (faults : Bool) (name : List ℕ) (args cut behind : List (List ℕ))
    (event : EventContent) → cut ≡ before_fault args → behind ≡ from_fault args
    → fault_of_words (name ∷ cut) ≡ None → junk_fault faults name cut ≡ None
    → CanBeSaid event.kind → IsSpelled event.kind (name ∷ cut)
    → ReadsFaultAs faults name behind event.fault → IsRead faults name args event
is_read faults name args cut behind event first others good bare said spelled reads = record {
  good = no_spelling faults name args cut behind first others good bare reads.good;
  said = said;
  spelled = subst (λ (ws : List (List ℕ)). IsSpelled event.kind (name ∷ ws)) first spelled;
  spells = record {
    first = name ∷ cut;
    behind = behind;
    parts = rw (first, others) (ap (λ (ws : List (List ℕ)). name ∷ ws) (split_words args));
    kind_said = said;
    kind = spelled;
    fault_said = reads.said;
    fault = reads.spelled;
    none = λ no. reads.none (bears event.kind name cut spelled ∙ no);
  };
}

-- what a command asks for is no notice
pub no_epoch : (command : Command) → epoch_in (what_of command) ≡ None
no_epoch (command.Rows node range at) = refl
no_epoch (command.Open node at) = refl
no_epoch (command.Close node number) = refl
no_epoch (command.Tick node) = refl
no_epoch (command.Tend node) = refl
no_epoch (command.Stop node junk) = refl
no_epoch (command.Start node) = refl

-- a statement that stands in its place, and one that does not
pub is_placed : (before : ParserState) (name : List ℕ) (args : List (List ℕ))
    (event : EventContent)
    (action : Action) (node : ℕ) → IsRead before.faults name args event
    → node_in event.kind ≡ Some node
    → epoch_in event.kind ≡ None → node_fault before.configs (Some node) ≡ None
    → action ≡ action_of event → Places before name args (Ok action)
is_placed before name args event action node r at none free is =
    let found = stands before.configs node free in
    let named : NamesNode found.0 event.kind = rw at found.2 in
    let known : NamesEpoch found.0 event.kind = rw none tt in (
      is_of_place before name args event.kind r.good r.said r.spelled ∙ rw (at, none) free,
      (found.0, found.1, inr (event, r.spells, named, known, is)),
    )

pub is_misplaced : (before : ParserState) (name : List ℕ) (args : List (List ℕ))
    (event : EventContent) (node : ℕ) (e : ScriptError) → IsRead before.faults name args event
    → node_in event.kind ≡ Some node → epoch_in event.kind ≡ None
    → node_fault before.configs (Some node) ≡ Some e → Places before name args (Err e)
is_misplaced before name args event node e r at none fault =
    λ _. is_of_place before name args event.kind r.good r.said r.spelled ∙ rw (at, none) fault

pub is_config : (before : ParserState) (words args : List (List ℕ)) (ids : List ℕ)
    → words ≡ codes "config" ∷ args → args ≡ map decimal ids → MayFollow before.configs ids
    → numbers_of args ≡ ids → before.begun ≡ false → config_fault before args ≡ None
    → (cs : Configurations) → cs ≡ up_to before.configs ids
    → ReadsWords before words (Ok (Config cs))
is_config before words args ids e a follows numbers rests good cs one = (
  rw (e, good) refl,
  (ids, rw (e, a) refl, follows, one, rests),
  rw (e, numbers, one) refl,
)

-- there is no configuration, or one
no_config : (configs : Option Configurations) → is_none configs ≡ true →
    node_fault configs None ≡ Some OutOfPlace
no_config None e = refl
no_config (Some cs) e = grind (arith, common_steps)

some_config : (configs : Option Configurations) → is_none configs ≡ false →
    (cs : Configurations) × (configs ≡ Some cs)
some_config None e = grind (arith, common_steps)
some_config (Some cs) e = (cs, refl)

abbrev delivery : ℕ → Fault → EventContent
delivery place fault = record { kind = Deliver place; fault = fault }

pub read_delivery : (faults : Bool) (args cut behind : List (List ℕ)) (place : ℕ) (fault : Fault)
    → cut ≡ before_fault args → behind ≡ from_fault args → place < 2 ^ 63
    → cut ≡ decimal place ∷ [] → ReadsFaultAs faults (codes "deliver") behind fault
    → IsRead faults (codes "deliver") args (delivery place fault)
read_delivery faults args cut behind place fault first others small is reads =
    let spelled : IsSpelled (Deliver place) (codes "deliver" ∷ cut) = rw is refl in
    is_read faults (codes "deliver") args cut behind (delivery place fault) first others
    (event_read (Deliver place) (codes "deliver" ∷ cut) small spelled) refl small spelled reads

pub delivers : (before : ParserState) (args : List (List ℕ)) (place : ℕ) (fault : Fault)
    → IsRead before.faults (codes "deliver") args (delivery place fault)
    → is_none before.configs ≡ false
    → Places before (codes "deliver") args (Ok (Event (delivery place fault)))
delivers before args place fault r some =
    let found = some_config before.configs some in
    let names_none : node_fault before.configs None ≡ None = rw found.1 refl in (
      is_of_place before (codes "deliver") args (Deliver place) r.good r.said r.spelled
          ∙ names_none,
      (found.0, found.1, inr (delivery place fault, r.spells, tt, tt, refl)),
    )

pub undelivered : (before : ParserState) (args : List (List ℕ)) (place : ℕ) (fault : Fault)
    → IsRead before.faults (codes "deliver") args (delivery place fault)
    → is_none before.configs ≡ true
    → Places before (codes "deliver") args (Err OutOfPlace)
undelivered before args place fault r none =
    let nothing : node_fault before.configs None ≡ Some OutOfPlace =
    no_config before.configs none in
    λ _. is_of_place before (codes "deliver") args (Deliver place) r.good r.said r.spelled
    ∙ nothing

pub flows : (before : ParserState) (args : List (List ℕ)) → [] ≡ before_fault args
    → [] ≡ from_fault args → is_none before.configs ≡ false
    → Places before (codes "flow") args (Ok Flow)
flows before args first others some =
    let found = some_config before.configs some in
    let empty : args ≡ [] = rw (← first, ← others) at (split_words args) in
    (rw (empty, found.1) refl, (found.0, found.1, inl (inl (refl, rw empty refl))))

-- ---- a statement that names one node and is no event

-- a place that is refused is not refused for want of memory
pub place_refused : (configs : Option Configurations) (node : ℕ) (result : Result ℕ ScriptError)
    → MatchResult result
    (λ id. (id ≡ node) × (node_fault configs (Some node) ≡ None))
    (λ e. node_fault configs (Some node) ≡ Some e) → IfErr result (λ e. e ≢ OutOfMemory)
place_refused configs node (Ok id) found = tt
place_refused None node (Err e) found = λ memory. cc
place_refused (Some cs) node (Err e) found = elim (cases_Bool (has (at_epoch cs 0) node)) [
  | inl t ↦ λ memory. let none = rw t at found in cc
  | inr f ↦ λ memory. let unknown = rw f at found in cc
]

-- where its words are good, its fault is that of its place
pub of_one_node : (before : ParserState) (name : List ℕ) (args : List (List ℕ)) (word : List ℕ)
    (node : ℕ) → IsOfOneNode name → before_fault args ≡ word ∷ [] → from_fault args ≡ [] →
    is_number word ≡ true → digits_value 10 word ≡ node →
    statement_fault before name args ≡ node_fault before.configs (Some node)
of_one_node before name args word node (inl is) first others good back =
    rw (is, first, others, good, back) refl
of_one_node before name args word node (inr is) first others good back =
    rw (is, first, others, good, back) refl

pub one_node_placed : (before : ParserState) (name : List ℕ) (args : List (List ℕ))
    (word : List ℕ) (node : ℕ) → IsOfOneNode name → word ∷ [] ≡ before_fault args →
    [] ≡ from_fault args → is_number word ≡ true → node < 2 ^ 63 → word ≡ decimal node →
    digits_value 10 word ≡ node → (result : Result ℕ ScriptError) → MatchResult result
    (λ id. (id ≡ node) × (node_fault before.configs (Some node) ≡ None))
    (λ e. node_fault before.configs (Some node) ≡ Some e) → PlacesNode before name args result
one_node_placed before name args word node of_one first others good small is back (Ok id) found =
    let stand = stands before.configs node found.1 in
    let whole : args ≡ decimal id ∷ [] = split_words args
    ∙ rw (← first, ← others, is, found.0) refl in (
      of_one_node before name args word node of_one (sym first) (sym others) good back ∙ found.1,
      whole,
      subst (λ (n : ℕ). n < 2 ^ 63) (sym found.0) small,
      (stand.0, stand.1, rw found.0 stand.2),
    )
one_node_placed before name args word node of_one first others good small is back (Err e) found =
    of_one_node before name args word node of_one (sym first) (sym others) good back ∙ found

-- the faults of its words
pub one_node_count : (before : ParserState) (name : List ℕ) (args cut : List (List ℕ)) →
    IsOfOneNode name → cut ≡ before_fault args → (length cut == 1) ≡ false →
    statement_fault before name args ≡ Some WrongNumberOfWords
one_node_count before name args cut (inl is) first few = rw (is, ← first, few) refl
one_node_count before name args cut (inr is) first few = rw (is, ← first, few) refl

pub one_node_number : (before : ParserState) (name : List ℕ) (args : List (List ℕ))
    (word : List ℕ) → IsOfOneNode name → word ∷ [] ≡ before_fault args →
    is_number word ≡ false → statement_fault before name args ≡ Some BadNumber
one_node_number before name args word (inl is) first bad = rw (is, ← first, bad) refl
one_node_number before name args word (inr is) first bad = rw (is, ← first, bad) refl

no_fault_there : (faults : Bool) (name : List ℕ) (behind : List (List ℕ)) →
    may_bear_fault name ≡ false → (length behind == 0) ≡ false →
    fault_word faults name behind ≡ Some BadFault
no_fault_there faults name [] none some = absurd (grind (arith, nat_tests))
no_fault_there faults name (w ∷ ws) none some = rw none refl

pub one_node_fault : (before : ParserState) (name : List ℕ) (args behind : List (List ℕ))
    (word : List ℕ) → IsOfOneNode name → word ∷ [] ≡ before_fault args →
    behind ≡ from_fault args → is_number word ≡ true → (length behind == 0) ≡ false →
    statement_fault before name args ≡ Some BadFault
one_node_fault before name args behind word (inl is) first others good some =
    rw (
      is,
      ← first,
      ← others,
      good,
      no_fault_there before.faults (codes "settle") behind refl some,
    ) refl
one_node_fault before name args behind word (inr is) first others good some =
    rw (
      is,
      ← first,
      ← others,
      good,
      no_fault_there before.faults (codes "show") behind refl some,
    ) refl

pub settles : (before : ParserState) (args : List (List ℕ)) (node : ℕ) →
    PlacesNode before (codes "settle") args (Ok node) →
    Places before (codes "settle") args (Ok (Settle node))
settles before args node (good, is, small, (cs, at, there)) = (
  good,
  (
    cs,
    at,
    inl (inr (record {
      node = node;
      small = small;
      there = there;
      said = inl (refl, ap (λ (ws : List (List ℕ)). codes "settle" ∷ ws) is);
    })),
  ),
)

pub shows : (before : ParserState) (args : List (List ℕ)) (node : ℕ) →
    PlacesNode before (codes "show") args (Ok node) →
    Places before (codes "show") args (Ok (Show node))
shows before args node (good, is, small, (cs, at, there)) = (
  good,
  (
    cs,
    at,
    inl (inr (record {
      node = node;
      small = small;
      there = there;
      said = inr (refl, ap (λ (ws : List (List ℕ)). codes "show" ∷ ws) is);
    })),
  ),
)
