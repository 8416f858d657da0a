-- What a statement comes to: its event, or the first thing wrong with its keys, values or batch.
use Rattle.std.specs.Prelude.{ℕ, ◌==◌, ◌||◌, nat_lt, if◌then◌else◌, List, [], ◌∷◌, length, Option}
use Rattle.std.specs.Prelude.{Some, None}
use Rattle.std.specs.Option.{option_map_or, option_or}
use Rattle.byte_fields.specs.declared.stored_key.TheConstants.{MAX_KEY}
use Rattle.kv_types.specs.declared.bounds.TheConstants.{MAX_VALUE, MAX_ROWS}
use Rattle.kv_types.specs.declared.Edit.{Edit}
use Rattle.kv_types.specs.declared.Edit.TheVariants.{Put, Delete}
use Rattle.kv_types.specs.declared.KvError.{KvError}
use Rattle.kv_types.specs.declared.KvError.TheVariants.{KeyTooLong, ValueTooLong, BadLimit}
use Rattle.kv_types.specs.{BatchContent, Span, batch_error, edits_of}
use Rattle.events.specs.declared.EventKind.{EventKind}
use Rattle.events.specs.declared.EventKind.TheVariants.{Submit, Get, Deliver, Tick}
use Rattle.events.specs.declared.EventKind.TheVariants.{Tend, Start, Stop}
use Rattle.events.specs.declared.EventKind.TheVariants.{Rows, Open, Close, Notice}
use Rattle.scripts.specs.declared.statement.Action.{Action}
use Rattle.scripts.specs.declared.statement.Action.TheVariants.{Event, Invalid}
use Rattle.events.specs.declared.EventContent.{EventContent}

-- what is wrong with a key, if anything is
abbrev pub key_error : List ℕ → Option KvError
key_error key = if nat_lt MAX_KEY (length key) then Some KeyTooLong else None

-- what is wrong with a value, if anything is
abbrev pub value_error : List ℕ → Option KvError
value_error value = if nat_lt MAX_VALUE (length value) then Some ValueTooLong else None

-- of an edit, the key comes before the value
abbrev pub edit_error : Edit → Option KvError
edit_error (Put key value) = option_or (key_error key) (value_error value)
edit_error (Delete key) = key_error key

-- the first error of the edits in order
abbrev pub edits_error : List Edit → Option KvError
edits_error [] = None
edits_error (edit ∷ edits) = option_or (edit_error edit) (edits_error edits)

-- the first error of the edits of a batch, that of the batch last
abbrev pub submit_error : BatchContent → Option KvError
submit_error batch = option_or (edits_error (edits_of batch)) (batch_error batch)

-- what is wrong with an upper bound of keys, if anything is
abbrev pub bound_error : Option (List ℕ) → Option KvError
bound_error None = None
bound_error (Some key) = key_error key

-- what is wrong with the greatest number of rows, if anything is
abbrev pub limit_error : ℕ → Option KvError
limit_error limit = if (limit == 0) || nat_lt MAX_ROWS limit then Some BadLimit else None

-- of a range, the least key comes before the bound, and both before the limit
abbrev pub range_error : Span → Option KvError
range_error range =
    option_or (key_error range.from)
    (option_or (bound_error range.to) (limit_error range.limit))

-- the first error of a statement, that of the batch or range last
abbrev pub error_of : EventKind → Option KvError
error_of (Submit node batch) = submit_error batch
error_of (Get node key at) = key_error key
error_of (Rows node range at) = range_error range
error_of (Open node at) = None
error_of (Close node number) = None
error_of (Deliver place) = None
error_of (Notice node epoch) = None
error_of (Tick node) = None
error_of (Tend node) = None
error_of (Start node) = None
error_of (Stop node junk) = None

-- a statement with an error is no event
abbrev pub action_of : EventContent → Action
action_of event = option_map_or (λ e. Invalid e) (error_of event.kind) (Event event)
