-- What the parts of the script's reader promise.
use Rattle.std.specs.Prelude.{◌≡◌, ◌≢◌, ◌≤◌, ℕ, Bool, ◌||◌, true, false, List, [], ◌∷◌, ◌++◌, map}
use Rattle.std.specs.Prelude.{codes, Option, Some, None, Result, Ok, Err, ◌⊎◌, ◌<◌, ◌^◌, length}
use Rattle.std.specs.Fmt.{decimal}
use Rattle.std.specs.Str.{bytes_eq}
use Rattle.disk.specs.declared.Fault.{Fault}
use Rattle.events.specs.declared.EventKind.{EventKind}
use Rattle.kv_types.specs.{BatchContent, has}
use Rattle.kv_types.specs.declared.KvError.{KvError}
use Rattle.configurations.specs.NodeLists.{Configurations, at_epoch}
use Rattle.script_words.specs.declared.error.ScriptError.{ScriptError}
use Rattle.script_words.specs.declared.error.ScriptError.TheVariants.{OutOfMemory}
use Rattle.scripts.specs.declared.command.Command.{Command}
use Rattle.scripts.specs.declared.command.Command.TheVariants.{Tick, Tend, Stop, Start}
use Rattle.scripts.specs.declared.command.Command.TheVariants.{Rows, Open, Close}
use Rattle.scripts.specs.declared.look_up.RawLookup.{RawLookup}
use Rattle.scripts.specs.declared.statement.ParserState.{ParserState}
use Rattle.scripts.specs.declared.statement.LineItem.{LineItem}
use Rattle.scripts.specs.declared.statement.LineItem.TheVariants.{Skipped, Limit, Config, Asks}
use Rattle.scripts.specs.declared.statement.Action.{Action}
use Rattle.scripts.specs.declared.statement.Statement.{Statement}
use Rattle.scripts.specs.Actions.{submit_error}
use Rattle.scripts.specs.Statements.{CanBeSaid, IsSpelled, fault_of_words}
use Rattle.script_words.specs.FaultWords.{fault_word, ReadsFaultAs}
use Rattle.script_words.specs.Limits.{SetsLimit, limits_with}
use Rattle.scripts.specs.Scripts.{IsStatement, MayFollow, begins, is_skipped, statement, up_to}
use Rattle.script_words.specs.Lines.{words_of}
use Rattle.scripts.specs.Faults.{statement_fault, words_fault, after_words, line_fault, after_line}
use Rattle.scripts.specs.Faults.{numbered_fault, junk_fault}
use Rattle.std.specs.Option.{option_or}
use Rattle.events.specs.declared.EventKind.TheVariants as what

-- the event that a command asks for
abbrev pub what_of : Command → EventKind
what_of (Rows node range at) = what.Rows node range at
what_of (Open node at) = what.Open node at
what_of (Close node number) = what.Close node number
what_of (Stop node junk) = what.Stop node junk
what_of (Tick node) = what.Tick node
what_of (Tend node) = what.Tend node
what_of (Start node) = what.Start node

-- the name of a statement that has no reader of its own
abbrev pub IsReadAsCommand : List ℕ → Type 0
IsReadAsCommand name =
    (bytes_eq name (codes "submit") ≡ false) × (bytes_eq name (codes "once") ≡ false)
    × (bytes_eq name (codes "get") ≡ false) × (bytes_eq name (codes "deliver") ≡ false)
    × (bytes_eq name (codes "notice") ≡ false) × (bytes_eq name (codes "flow") ≡ false)
    × (bytes_eq name (codes "settle") ≡ false) × (bytes_eq name (codes "show") ≡ false)

-- a reader gives the statement that is spelled, or the least fault, unless memory runs out
abbrev pub ReadsCommand : List (List ℕ) → Result Command ScriptError → Type 0
ReadsCommand words (Ok command) =
    (fault_of_words words ≡ None) × CanBeSaid (what_of command) × IsSpelled (what_of command) words
ReadsCommand words (Err e) = (e ≢ OutOfMemory) → fault_of_words words ≡ Some e

-- the event that a get asks for
abbrev pub looking_up : RawLookup → EventKind
looking_up it = what.Get it.node it.key it.at

-- a reader gives the get that is spelled, or the least fault, unless memory runs out
abbrev pub ReadsLookup : List (List ℕ) → Result RawLookup ScriptError → Type 0
ReadsLookup words (Ok lookup) =
    (fault_of_words words ≡ None) × CanBeSaid (looking_up lookup)
    × IsSpelled (looking_up lookup) words
ReadsLookup words (Err e) = (e ≢ OutOfMemory) → fault_of_words words ≡ Some e

-- what became of a batch that words ask for: itself, or its first error
abbrev pub IsBatchOf : BatchContent → Result BatchContent KvError → Type 0
IsBatchOf asked (Ok batch) = (submit_error asked ≡ None) × (batch ≡ asked)
IsBatchOf asked (Err e) = submit_error asked ≡ Some e

-- a reader gives the node and the batch of the submit that is spelled, or the least fault, unless
-- memory runs out
abbrev pub ReadsSubmit : List (List ℕ) → Result (ℕ × Result BatchContent KvError) ScriptError
    → Type 0
ReadsSubmit words (Ok (node, batch)) =
    (fault_of_words words ≡ None) × ((asked : BatchContent)
    × CanBeSaid (what.Submit node asked)
    × IsSpelled (what.Submit node asked) words × IsBatchOf asked batch)
ReadsSubmit words (Err e) = (e ≢ OutOfMemory) → fault_of_words words ≡ Some e

-- what a reader returned for what a statement bears besides its own words
abbrev pub ReadsBorne : Bool → List ℕ → List (List ℕ) → List (List ℕ) → Result Fault ScriptError
    → Type 0
ReadsBorne faults name args words (Ok fault) =
    (junk_fault faults name args ≡ None) × ReadsFaultAs faults name words fault
ReadsBorne faults name args words (Err e) = (e ≢ OutOfMemory)
    → option_or (junk_fault faults name args) (fault_word faults name words) ≡ Some e

-- the words say so, behind such lines
abbrev pub IsItemOfWords : ParserState → List (List ℕ) → LineItem → Type 0
IsItemOfWords before words Skipped = ⊥
IsItemOfWords before words (Limit name number) =
    SetsLimit words name number × (before.configs ≡ None)
IsItemOfWords before words (Config cs) =
    (ids : List ℕ) × (words ≡ codes "config" ∷ map decimal ids) × MayFollow before.configs ids
    × (cs ≡ up_to before.configs ids) × (before.begun ≡ false)
IsItemOfWords before words (Asks action) =
    (cs : Configurations) × (before.configs ≡ Some cs) × IsStatement cs words action

-- the line says so
abbrev pub IsItem : ParserState → List ℕ → LineItem → Type 0
IsItem before line Skipped = is_skipped line ≡ true
IsItem before line item = IsItemOfWords before (words_of line) item

-- what an item leaves for the lines behind it
abbrev pub after_item : ParserState → LineItem → ParserState
after_item before Skipped = before
after_item before (Limit name number) =
    record before { limits = limits_with before.limits name number }
after_item before (Config cs) = record before { configs = Some cs }
after_item before (Asks action) = record before { begun = before.begun || begins action }

-- the statement of an item, if it has one
abbrev pub statements_of : ℕ → LineItem → List Statement
statements_of n Skipped = []
statements_of n (Limit name number) = []
statements_of n (Config cs) = []
statements_of n (Asks action) = statement n action ∷ []

-- there are configurations, and one of this epoch
abbrev pub HasEpoch : Option Configurations → ℕ → Type 0
HasEpoch configs epoch =
    (cs : Configurations) × (configs ≡ Some cs) × (epoch < length cs)

-- a statement that may stand here
abbrev pub Places : ParserState → List ℕ → List (List ℕ) → Result Action ScriptError → Type 0
Places before name args (Ok action) =
    (statement_fault before name args ≡ None)
    × ((cs : Configurations) × (before.configs ≡ Some cs) × IsStatement cs (name ∷ args) action)
Places before name args (Err e) = (e ≢ OutOfMemory) → statement_fault before name args ≡ Some e

-- the name of a statement that names one node and is no event
abbrev pub IsOfOneNode : List ℕ → Type 0
IsOfOneNode name = (name ≡ codes "settle") ⊎ (name ≡ codes "show")

-- such a statement may stand here, with its node
abbrev pub PlacesNode : ParserState → List ℕ → List (List ℕ) → Result ℕ ScriptError → Type 0
PlacesNode before name args (Ok node) =
    (statement_fault before name args ≡ None) × (args ≡ decimal node ∷ []) × (node < 2 ^ 63)
    × ((cs : Configurations) × (before.configs ≡ Some cs) × (has (at_epoch cs 0) node ≡ true))
PlacesNode before name args (Err e) = statement_fault before name args ≡ Some e

-- what a reader returned for the words of a line: their item, or their least fault
abbrev pub ReadsWords : ParserState → List (List ℕ) → Result LineItem ScriptError → Type 0
ReadsWords before words (Ok item) =
    (words_fault before words ≡ None) × IsItemOfWords before words item
    × (after_words before words ≡ after_item before item)
ReadsWords before words (Err e) = (e ≢ OutOfMemory) → words_fault before words ≡ Some e

-- what a reader returned for a line: its item, or its least fault
abbrev pub ReadsLine : ParserState → List ℕ → Result LineItem ScriptError → Type 0
ReadsLine before line (Ok item) =
    (line_fault before line ≡ None) × IsItem before line item
    × (after_line before line ≡ after_item before item)
ReadsLine before line (Err e) = (e ≢ OutOfMemory) → line_fault before line ≡ Some e

-- a line that is one too many counts last
abbrev pub ReadsNext : ParserState → ParserState → ℕ → List ℕ → List Statement → List Statement
    → Result (Unit {0}) ScriptError → Type 0
ReadsNext before after n line old new (Ok _) =
    (numbered_fault before n line ≡ None) × (n ≤ 100000) × (after_line before line ≡ after)
    × ((item : LineItem) × IsItem before line item × (after ≡ after_item before item)
    × (new ≡ old ++ statements_of n item))
ReadsNext before after n line old new (Err e) =
    (e ≢ OutOfMemory) → numbered_fault before n line ≡ Some e
