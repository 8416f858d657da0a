-- The statements of a script: how each is spelled, and the least fault of the words of one.
use Rattle.std.specs.Prelude.{◌≡◌, ℕ, Bool, false, ◌||◌, not, ◌==◌, if◌then◌else◌, List, [], ◌∷◌}
use Rattle.std.specs.Prelude.{length, map, codes, ◌⊎◌, Option, Some, None, ◌<◌, ◌^◌, All, IfSome}
use Rattle.std.specs.Prelude.{◌++◌}
use Rattle.std.specs.Fmt.{decimal}
use Rattle.std.specs.List.{list_any, zip}
use Rattle.std.specs.Option.{option_map_or}
use Rattle.std.specs.Str.{bytes_eq}
use Rattle.kv_types.specs.{Span, edits_of, mark_of}
use Rattle.kv_types.specs.declared.mark.Mark.{Mark}
use Rattle.disk.specs.declared.Junk.TheVariants.{Old}
use Rattle.events.specs.declared.EventKind.{EventKind}
use Rattle.events.specs.declared.EventKind.TheVariants.{Submit, Get, Deliver, Tick}
use Rattle.events.specs.declared.EventKind.TheVariants.{Tend, Start, Stop}
use Rattle.events.specs.declared.EventKind.TheVariants.{Rows, Open, Close, Notice}
use Rattle.script_words.specs.declared.error.ScriptError.{ScriptError}
use Rattle.script_words.specs.declared.error.ScriptError.TheVariants.{UnknownStatement}
use Rattle.script_words.specs.declared.error.ScriptError.TheVariants.{WrongNumberOfWords, BadNumber}
use Rattle.script_words.specs.declared.error.ScriptError.TheVariants.{BadBytes, BadFault}
use Rattle.script_words.specs.Words.{AreBytes, bound_text, bytes_text, is_bound, is_byte_string}
use Rattle.script_words.specs.Words.{IsPositive, is_number, is_positive}
use Rattle.script_words.specs.Edits.{AreBytesIn, edit_word, is_edit}
use Rattle.script_words.specs.Junks.{AreBytesOf, IsJunk, is_junk}

-- a range of bytes, and of a limit that a script may name
abbrev pub RangeCanBeSaid : Span → Type 0
RangeCanBeSaid range =
    AreBytes range.from × IfSome range.to AreBytes × (range.limit < 2 ^ 63)

-- a number, if there is one, that a script may name
abbrev pub NumberCanBeSaid : Option ℕ → Type 0
NumberCanBeSaid at = IfSome at (λ n. n < 2 ^ 63)

-- a mark that a script may name
abbrev pub MarkCanBeSaid : Mark → Type 0
MarkCanBeSaid mark = IsPositive mark.client × IsPositive mark.request

-- an event of bytes, and of numbers and a mark that a script may name
abbrev pub CanBeSaid : EventKind → Type 0
CanBeSaid (Submit node batch) =
    (node < 2 ^ 63) × All AreBytesIn (edits_of batch) × IfSome (mark_of batch) MarkCanBeSaid
CanBeSaid (Get node key None) = (node < 2 ^ 63) × AreBytes key
CanBeSaid (Get node key (Some at)) = (node < 2 ^ 63) × AreBytes key × (at < 2 ^ 63)
CanBeSaid (Rows node range at) =
    (node < 2 ^ 63) × RangeCanBeSaid range × NumberCanBeSaid at
CanBeSaid (Open node at) = (node < 2 ^ 63) × NumberCanBeSaid at
CanBeSaid (Close node number) = (node < 2 ^ 63) × (number < 2 ^ 63)
CanBeSaid (Deliver place) = place < 2 ^ 63
CanBeSaid (Notice node epoch) = (node < 2 ^ 63) × (epoch < 2 ^ 63)
CanBeSaid (Tick node) = node < 2 ^ 63
CanBeSaid (Tend node) = node < 2 ^ 63
CanBeSaid (Start node) = node < 2 ^ 63
CanBeSaid (Stop node junk) = (node < 2 ^ 63) × AreBytesOf junk

-- the word for a number, if there is one
abbrev pub number_words : Option ℕ → List (List ℕ)
number_words None = []
number_words (Some n) = decimal n ∷ []

-- the name of a statement that asks for rows, by the direction of their walk
abbrev pub walk_name : Bool → List ℕ
walk_name backward = if backward then codes "back" else codes "rows"

-- the name of a statement that submits a batch, by the mark of the batch
abbrev pub submit_name : Option Mark → List ℕ
submit_name None = codes "submit"
submit_name (Some mark) = codes "once"

-- the words for a mark, if there is one
abbrev pub mark_words : Option Mark → List (List ℕ)
mark_words None = []
mark_words (Some mark) = decimal mark.client ∷ decimal mark.request ∷ []

-- these words spell the event
abbrev pub IsSpelled : EventKind → List (List ℕ) → Type 0
IsSpelled (Submit node batch) words =
    words ≡ submit_name (mark_of batch) ∷ decimal node ∷ mark_words (mark_of batch)
    ++ map edit_word (edits_of batch)
IsSpelled (Get node key None) words =
    words ≡ codes "get" ∷ decimal node ∷ bytes_text key ∷ []
IsSpelled (Get node key (Some at)) words =
    words ≡ codes "get" ∷ decimal node ∷ bytes_text key ∷ decimal at ∷ []
IsSpelled (Rows node range at) words =
    words ≡ walk_name range.backward ∷ decimal node ∷ bytes_text range.from ∷ bound_text range.to
    ∷ decimal range.limit ∷ number_words at
IsSpelled (Open node at) words = words ≡ codes "open" ∷ decimal node ∷ number_words at
IsSpelled (Close node number) words =
    words ≡ codes "close" ∷ decimal node ∷ decimal number ∷ []
IsSpelled (Stop node junk) words =
    ((junk ≡ Old) × (words ≡ codes "stop" ∷ decimal node ∷ []))
    ⊎ ((word : List ℕ) × IsJunk junk word × (words ≡ codes "stop" ∷ decimal node ∷ word ∷ []))
IsSpelled (Deliver place) words = words ≡ codes "deliver" ∷ decimal place ∷ []
IsSpelled (Notice node epoch) words =
    words ≡ codes "notice" ∷ decimal node ∷ decimal epoch ∷ []
IsSpelled (Tick node) words = words ≡ codes "tick" ∷ decimal node ∷ []
IsSpelled (Tend node) words = words ≡ codes "tend" ∷ decimal node ∷ []
IsSpelled (Start node) words = words ≡ codes "start" ∷ decimal node ∷ []

-- what stands in a word's place
pub data Kind : Type 0 where
  number : Kind
  positive : Kind
  text : Kind
  bound : Kind
  edit : Kind
  junk : Kind

-- a submit names a node, then edits
abbrev pub submit_shape : List (List ℕ) → Option (List Kind)
submit_shape [] = None
submit_shape (node ∷ edits) = Some (number ∷ map (λ _. edit) edits)

-- a once names a node, a client and a request, then edits
abbrev pub once_shape : List (List ℕ) → Option (List Kind)
once_shape [] = None
once_shape (node ∷ []) = None
once_shape (node ∷ client ∷ []) = None
once_shape (node ∷ client ∷ request ∷ edits) =
    Some (number ∷ positive ∷ positive ∷ map (λ _. edit) edits)

-- a get names a node, a key, and a number or none
abbrev pub get_shape : ℕ → Option (List Kind)
get_shape n =
    if n == 2 then Some (number ∷ text ∷ [])
    else if n == 3 then Some (number ∷ text ∷ number ∷ []) else None

-- a walk names a node, a key, a bound, a limit, and a number or none
abbrev pub rows_shape : ℕ → Option (List Kind)
rows_shape n =
    if n == 4 then Some (number ∷ text ∷ bound ∷ number ∷ [])
    else if n == 5 then Some (number ∷ text ∷ bound ∷ number ∷ number ∷ []) else None

-- an opening names a node, and a number or none
abbrev pub open_shape : ℕ → Option (List Kind)
open_shape n =
    if n == 1 then Some (number ∷ [])
    else if n == 2 then Some (number ∷ number ∷ []) else None

-- a closing names a node and a number, a notice a node and an epoch
abbrev pub pair_shape : ℕ → Option (List Kind)
pair_shape n = if n == 2 then Some (number ∷ number ∷ []) else None

-- a stop names a node, and what it leaves or nothing
abbrev pub stop_shape : ℕ → Option (List Kind)
stop_shape n =
    if n == 1 then Some (number ∷ [])
    else if n == 2 then Some (number ∷ junk ∷ []) else None

-- a statement of a name alone
abbrev pub none_shape : ℕ → Option (List Kind)
none_shape n = if n == 0 then Some [] else None

-- the kinds of the words behind a statement's name, if there may be so many
abbrev pub shape : List ℕ → List (List ℕ) → Option (List Kind)
shape name args =
    if bytes_eq name (codes "submit") then submit_shape args else
    if bytes_eq name (codes "once") then once_shape args else
    if bytes_eq name (codes "get") then get_shape (length args) else
    if bytes_eq name (codes "rows") then rows_shape (length args) else
    if bytes_eq name (codes "back") then rows_shape (length args) else
    if bytes_eq name (codes "open") then open_shape (length args) else
    if bytes_eq name (codes "close") then pair_shape (length args) else
    if bytes_eq name (codes "notice") then pair_shape (length args) else
    if bytes_eq name (codes "stop") then stop_shape (length args) else
    if bytes_eq name (codes "flow") then none_shape (length args) else
    if length args == 1 then Some (number ∷ []) else None

-- a word that is not what has to stand there
abbrev pub is_bad_number : Kind × List ℕ → Bool
is_bad_number (number, w) = not (is_number w)
is_bad_number (positive, w) = not (is_positive w)
is_bad_number (_, w) = false

-- a word that is not the byte string, bound or edit that has to stand there
abbrev pub is_bad_text : Kind × List ℕ → Bool
is_bad_text (text, w) = not (is_byte_string w)
is_bad_text (bound, w) = not (is_bound w)
is_bad_text (edit, w) = not (is_edit w)
is_bad_text (_, w) = false

-- a word that is not what a stop leaves, where that has to stand
abbrev pub is_bad_junk : Kind × List ℕ → Bool
is_bad_junk (junk, w) = not (is_junk w)
is_bad_junk (_, w) = false

-- the least fault of words, each with the kind that has to stand in its place
abbrev pub fault_of_places : List (Kind × List ℕ) → Option ScriptError
fault_of_places places =
    if list_any is_bad_number places then Some BadNumber else
    if list_any is_bad_text places then Some BadBytes else
    if list_any is_bad_junk places then Some BadFault else None

-- the name of a statement
abbrev pub is_name : List ℕ → Bool
is_name w =
    bytes_eq w (codes "submit") || bytes_eq w (codes "once") || bytes_eq w (codes "get")
    || bytes_eq w (codes "rows") || bytes_eq w (codes "back") || bytes_eq w (codes "open")
    || bytes_eq w (codes "close") || bytes_eq w (codes "notice") || bytes_eq w (codes "stop")
    || bytes_eq w (codes "start") || bytes_eq w (codes "deliver") || bytes_eq w (codes "flow")
    || bytes_eq w (codes "tick") || bytes_eq w (codes "tend") || bytes_eq w (codes "settle")
    || bytes_eq w (codes "show")

-- the least fault of the words of a statement by their name, their number and their spelling,
-- without their place
abbrev pub fault_of_words : List (List ℕ) → Option ScriptError
fault_of_words [] = Some UnknownStatement
fault_of_words (name ∷ args) =
    if is_name name then option_map_or (λ kinds. fault_of_places (zip kinds args))
    (shape name args) (Some WrongNumberOfWords)
    else Some UnknownStatement
