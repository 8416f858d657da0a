-- The least fault of the first faulty line of a script.
use Rattle.std.specs.Prelude.{◌≡◌, ◌≢◌, ◌<◌, ◌≤◌, ◌==◌, ℕ, suc, Bool, false, ◌&&◌, ◌||◌, not}
use Rattle.std.specs.Prelude.{nat_lt, if◌then◌else◌, List, [], ◌∷◌, length, map, codes, is_some}
use Rattle.std.specs.Prelude.{is_none, Option, Some, None}
use Rattle.std.specs.List.{list_all}
use Rattle.std.specs.Option.{option_map_or, option_or}
use Rattle.std.specs.Str.{bytes_eq}
use Rattle.std.specs.Str.Parse.{digits_value}
use Rattle.kv_types.specs.{has}
use Rattle.configurations.specs.NodeLists.{Configurations, at_epoch, last_of, leaves_out}
use Rattle.configurations.specs.Configs.{is_config}
use Rattle.script_words.specs.declared.error.ScriptError.{ScriptError}
use Rattle.script_words.specs.declared.error.ScriptError.TheVariants.{LineTooLong, BadNumber}
use Rattle.script_words.specs.declared.error.ScriptError.TheVariants.{UnknownStatement}
use Rattle.script_words.specs.declared.error.ScriptError.TheVariants.{WrongNumberOfWords, BadLimit}
use Rattle.script_words.specs.declared.error.ScriptError.TheVariants.{BadFault, OutOfPlace}
use Rattle.script_words.specs.declared.error.ScriptError.TheVariants.{BadConfiguration, UnknownNode}
use Rattle.script_words.specs.declared.error.ScriptError.TheVariants.{OutOfMemory, TooManyLines}
use Rattle.script_words.specs.declared.limits.ScriptLimits.{ScriptLimits}
use Rattle.scripts.specs.declared.statement.ParserState.{ParserState}
use Rattle.script_words.specs.Words.{is_number, has_fault, before_fault, from_fault}
use Rattle.scripts.specs.Statements.{fault_of_words}
use Rattle.script_words.specs.FaultWords.{fault_word}
use Rattle.kv_types.specs.Limits.{is_allowed}
use Rattle.script_words.specs.Limits.{default_limits, limit_named, limits_with}
use Rattle.scripts.specs.Scripts.{is_skipped, up_to}
use Rattle.script_words.specs.Lines.{words_of}

-- the numbers that words spell
abbrev pub numbers_of : List (List ℕ) → List ℕ
numbers_of words = map (λ w. digits_value 10 w) words

-- whether ids may be the next configuration behind those of earlier lines, if there is one
abbrev pub may_follow : Option Configurations → List ℕ → Bool
may_follow None ids = is_config ids
may_follow (Some cs) ids = is_config ids && leaves_out ids (last_of cs)

-- the least fault of a configuration, by its numbers, the fault that it bears, its place, and the
-- configurations of earlier lines
abbrev pub config_fault : ParserState → List (List ℕ) → Option ScriptError
config_fault before args =
    if not (list_all is_number (before_fault args)) then Some BadNumber else
    if has_fault args then Some BadFault else
    if before.begun then Some OutOfPlace else
    if may_follow before.configs (numbers_of args) then None else Some BadConfiguration

-- a limit has this word, and may be this number
abbrev pub is_limit : List ℕ → ℕ → Bool
is_limit word number =
    option_map_or (λ name. is_allowed name number) (limit_named word) false

-- the least fault of the words of a limit, where a fault stands behind them or not: it stands
-- before the configuration
abbrev pub limit_words_fault : ParserState → Bool → List (List ℕ) → Option ScriptError
limit_words_fault before faulty (name ∷ word ∷ []) =
    if not (is_number word) then Some BadNumber else
    if faulty then Some BadFault else
    if is_some before.configs then Some OutOfPlace else
    if is_limit name (digits_value 10 word) then None else Some BadLimit
limit_words_fault before faulty words = Some WrongNumberOfWords

-- the least fault of a limit, by its words and by the fault that it bears
abbrev pub limit_fault : ParserState → List (List ℕ) → Option ScriptError
limit_fault before args = limit_words_fault before (has_fault args) (before_fault args)

-- a notice needs a configuration of its epoch, where there are configurations
abbrev pub epoch_fault : Option ℕ → Option Configurations → Option ScriptError
epoch_fault None configs = None
epoch_fault (Some epoch) None = None
epoch_fault (Some epoch) (Some cs) =
    if nat_lt epoch (length cs) then None else Some BadConfiguration

-- a statement needs a configuration, and a node of the first one where it names one
abbrev pub node_fault : Option Configurations → Option ℕ → Option ScriptError
node_fault None named = Some OutOfPlace
node_fault (Some cs) None = None
node_fault (Some cs) (Some n) = if has (at_epoch cs 0) n then None else Some UnknownNode

-- the least fault of the place of a statement: it needs a configuration, a notice one of its epoch,
-- and one that names a node a node of the first configuration
abbrev pub place_fault : Option ℕ → Option Configurations → Option ℕ → Option ScriptError
place_fault epoch configs named = option_or (epoch_fault epoch configs) (node_fault configs named)

-- The number that the first word behind a statement's name spells, where that is a node's; of
-- `deliver` none. It says something only of words without a fault.
abbrev pub node_named : List (List ℕ) → Option ℕ
node_named [] = None
node_named (name ∷ []) = None
node_named (name ∷ word ∷ args) =
    if bytes_eq name (codes "deliver") then None else Some (digits_value 10 word)

-- the epoch that the words behind a notice's name spell
abbrev pub epoch_word : List (List ℕ) → Option ℕ
epoch_word [] = None
epoch_word (node ∷ []) = None
epoch_word (node ∷ word ∷ words) = Some (digits_value 10 word)

-- the epoch that the words of a statement name
abbrev pub epoch_named : List (List ℕ) → Option ℕ
epoch_named [] = None
epoch_named (name ∷ args) = if bytes_eq name (codes "notice") then epoch_word args else None

-- what a stop leaves is spelled only where faults may be
abbrev pub junk_fault : Bool → List ℕ → List (List ℕ) → Option ScriptError
junk_fault faults name args =
    if bytes_eq name (codes "stop") && (length args == 2) && not faults then Some BadFault else None

-- the least fault of a statement, by its own words and by those of the fault that it bears, where
-- faults may be spelled or not
abbrev pub spelling_fault : Bool → List ℕ → List (List ℕ) → Option ScriptError
spelling_fault faults name args =
    option_or (fault_of_words (name ∷ before_fault args))
    (option_or (junk_fault faults name (before_fault args))
    (fault_word faults name (from_fault args)))

-- the least fault of a statement, by its words, the fault that it bears, its place
abbrev pub statement_fault : ParserState → List ℕ → List (List ℕ) → Option ScriptError
statement_fault before name args =
    option_or (spelling_fault before.faults name args)
    (place_fault (epoch_named (name ∷ before_fault args)) before.configs
    (node_named (name ∷ before_fault args)))

-- the least fault of the words of a line: each kind of line has its own
abbrev pub words_fault : ParserState → List (List ℕ) → Option ScriptError
words_fault before [] = Some UnknownStatement
words_fault before (name ∷ args) =
    if bytes_eq name (codes "config") then config_fault before args else
    if bytes_eq name (codes "limit") then limit_fault before args
    else statement_fault before name args

-- the least fault of a line, but for the number of lines
abbrev pub line_fault : ParserState → List ℕ → Option ScriptError
line_fault before line =
    if nat_lt 262144 (length line) then Some LineTooLong else
    if is_skipped line then None else words_fault before (words_of line)

-- the limits behind a line that sets one
abbrev pub limits_after : ScriptLimits → List (List ℕ) → ScriptLimits
limits_after limits [] = limits
limits_after limits (name ∷ []) = limits
limits_after limits (name ∷ word ∷ words) =
    option_map_or (λ it. limits_with limits it (digits_value 10 word)) (limit_named name) limits

-- what stands before the line behind these words
abbrev pub after_words : ParserState → List (List ℕ) → ParserState
after_words before [] = before
after_words before (name ∷ args) =
    if bytes_eq name (codes "config")
    then record before { configs = Some (up_to before.configs (numbers_of args)) } else
    if bytes_eq name (codes "limit")
    then record before { limits = limits_after before.limits args }
    else record before { begun = before.begun || not (bytes_eq name (codes "show")) }

-- what stands before the line after this one
abbrev pub after_line : ParserState → List ℕ → ParserState
after_line before line =
    if is_skipped line then before else after_words before (words_of line)

-- a line's fault; that it is one line too many counts last
abbrev pub numbered_fault : ParserState → ℕ → List ℕ → Option ScriptError
numbered_fault before n line =
    option_or (line_fault before line) (if nat_lt 100000 n then Some TooManyLines else None)

-- the least fault of the first faulty line, the first line having number n; that there is no
-- configuration counts for the line after the last
abbrev pub script_fault : ParserState → ℕ → List (List ℕ) → Option (ℕ × ScriptError)
script_fault before n [] = if is_none before.configs then Some (n, BadConfiguration) else None
script_fault before n (line ∷ lines) =
    option_map_or (λ e. Some (n, e)) (numbered_fault before n line)
    (script_fault (after_line before line) (suc n) lines)

-- nothing stands before the first line, where faults may be spelled or not
abbrev pub start : Bool → ParserState
start faults =
    record { configs = None; begun = false; limits = default_limits; faults = faults }

-- a line that was begun: it is one of these, and none before it is faulty
pub record LineIsBegun (faults : Bool) (lines : List (List ℕ)) (line : ℕ) : Type 0 where
  pub above : 0 < line
  pub below : line ≤ length lines
  pub sound : (n : ℕ) (e : ScriptError) → script_fault (start faults) 1 lines ≡ Some (n, e)
      → line ≤ n

-- what is reported of these lines: the least fault of the first faulty one, or want of memory at
-- one that was begun
pub record IsReported (faults : Bool) (lines : List (List ℕ)) (line : ℕ) (error : ScriptError) :
    Type 0
  where
    pub least : error ≢ OutOfMemory → script_fault (start faults) 1 lines ≡ Some (line, error)
    pub begun : error ≡ OutOfMemory → LineIsBegun faults lines line
