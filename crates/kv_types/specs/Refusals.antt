-- Why edits are no batch, and the numbers of refusals.
use Rattle.std.specs.Prelude.{ℕ, ◌==◌, nat_lt, if◌then◌else◌, length, true, Option, Some, None}
use Rattle.std.specs.Option.{option_map_or}
use Rattle.kv_types.specs.declared.bounds.TheConstants.{MAX_EDITS, MAX_BATCH}
use Rattle.kv_types.specs.declared.error.KvError.{KvError}
use Rattle.kv_types.specs.declared.error.KvError.TheVariants.{NoEdits, TooManyEdits, BatchTooLong}
use Rattle.kv_types.specs.declared.error.KvError.TheVariants.{KeyTooLong, ValueTooLong, BadLimit}
use Rattle.kv_types.specs.declared.error.KvError.TheVariants.{BadBytes, Memory, BadMark}
use Rattle.kv_types.specs.Marks.{is_mark}
use Rattle.kv_types.specs.Content.{BatchContent, edits_of, mark_of}
use Rattle.kv_types.specs.Spelling.{batch_bytes}

-- what is wrong with the content of this batch, if anything is
abbrev pub content_error : BatchContent → Option KvError
content_error batch =
    if length (edits_of batch) == 0 then Some NoEdits else
    if nat_lt MAX_EDITS (length (edits_of batch)) then Some TooManyEdits else
    if nat_lt MAX_BATCH (length (batch_bytes batch)) then Some BatchTooLong else None

-- what is wrong with mark and edits as one batch, if anything is
abbrev pub batch_error : BatchContent → Option KvError
batch_error batch =
    if option_map_or is_mark (mark_of batch) true then content_error batch else Some BadMark

-- the number of a refusal
abbrev pub error_number : KvError → ℕ
error_number KeyTooLong = 1
error_number ValueTooLong = 2
error_number NoEdits = 3
error_number TooManyEdits = 4
error_number BatchTooLong = 5
error_number BadBytes = 6
error_number Memory = 7
error_number BadLimit = 8
error_number BadMark = 9
