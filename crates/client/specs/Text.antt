-- The text of a run: what is printed for each line of a report, and for each invalid statement.
use Rattle.std.specs.Prelude.{ℕ, ◌-◌, List, [], ◌∷◌, ◌++◌, codes, take, drop, replicate, slice_get}
use Rattle.std.specs.Prelude.{length, map, Bool, true, false}
use Rattle.std.specs.Prelude.{Option, Some, None}
use Rattle.std.specs.Fmt.{decimal}
use Rattle.std.specs.List.{flat_map}
use Rattle.std.specs.Option.{option_map_or}
use Rattle.kv_types.specs.declared.KvError.{KvError}
use Rattle.kv_types.specs.declared.KvError.TheVariants as kv
use Rattle.kv_types.specs.{Row}
use Rattle.kv_types.specs.Spans as page
use Rattle.lab.specs.Refusal.{Refusal}
use Rattle.lab.specs.Refusal.TheVariants as refused
use Rattle.lab.specs.Reply.{Reply}
use Rattle.lab.specs.Reply.TheVariants.{Committed, Value, Rows, Opened, Closed, Refused}
use Rattle.lab.specs.Stop.{Stop}
use Rattle.lab.specs.Stop.TheVariants as stop
use Rattle.lab.specs.Tended.{Tended}
use Rattle.lab.specs.Tended.TheVariants as tended
use Rattle.lab.specs.DropReason.{DropReason}
use Rattle.lab.specs.DropReason.TheVariants as reason
use Rattle.lab.specs.declared.Line.{Line}
use Rattle.lab.specs.declared.Line.TheVariants as line
use Rattle.client.specs.declared.statement_result.StatementResult.{StatementResult}
use Rattle.client.specs.declared.statement_result.Note.{Note}
use Rattle.client.specs.declared.statement_result.Note.TheVariants as note
use Rattle.script_words.specs.declared.error.ScriptError.{ScriptError}
use Rattle.script_words.specs.declared.error.ScriptError.TheVariants as fault
use Rattle.script_words.specs.Words.{bytes_text}
use Rattle.store_texts.specs.Texts.{numbers_text, printed_row}

-- a refusal's number and name
abbrev pub refusal_text : Refusal → List ℕ
refusal_text refused.NotRunning = codes "1 NotRunning"
refusal_text refused.NotHead = codes "2 NotHead"
refusal_text refused.TooOld = codes "3 TooOld"
refusal_text refused.NotCommitted = codes "4 NotCommitted"
refusal_text refused.NoSuchSnapshot = codes "5 NoSuchSnapshot"
refusal_text refused.TooManySnapshots = codes "6 TooManySnapshots"
refusal_text refused.Removed = codes "7 Removed"
refusal_text refused.Exhausted = codes "8 Exhausted"
refusal_text refused.OldRequest = codes "9 OldRequest"

-- the number and name of what is wrong with a statement
abbrev pub error_text : KvError → List ℕ
error_text kv.KeyTooLong = codes "1 KeyTooLong"
error_text kv.ValueTooLong = codes "2 ValueTooLong"
error_text kv.NoEdits = codes "3 NoEdits"
error_text kv.TooManyEdits = codes "4 TooManyEdits"
error_text kv.BatchTooLong = codes "5 BatchTooLong"
error_text kv.BadBytes = codes "6 BadBytes"
error_text kv.Memory = codes "7 Memory"
error_text kv.BadLimit = codes "8 BadLimit"
error_text kv.BadMark = codes "9 BadMark"

-- the name of the reason for a drop
abbrev pub reason_text : DropReason → List ℕ
reason_text reason.NotRunning = codes "NotRunning"
reason_text reason.Running = codes "Running"
reason_text reason.Removed = codes "Removed"
reason_text reason.OtherEpoch = codes "OtherEpoch"
reason_text reason.NotPredecessor = codes "NotPredecessor"
reason_text reason.NotSuccessor = codes "NotSuccessor"
reason_text reason.OtherNumber = codes "OtherNumber"
reason_text reason.BadAck = codes "BadAck"
reason_text reason.OldNotice = codes "OldNotice"
reason_text reason.BadNotice = codes "BadNotice"
reason_text reason.NotForNodes = codes "NotForNodes"
reason_text reason.Unreadable = codes "Unreadable"

-- what stopped a node
abbrev pub cause_text : Stop → List ℕ
cause_text stop.Disk = codes "disk"
cause_text stop.Damaged = codes "damaged"
cause_text stop.Memory = codes "memory"
cause_text stop.NotCreated = codes "not created"
cause_text stop.OldFormat = codes "old format"

-- what is said where rows were left
abbrev pub more_text : Bool → List ℕ
more_text true = codes " more"
more_text false = []

-- how many rows an answer has, and at which number
abbrev pub rows_text : ℕ → page.Rows → List ℕ
rows_text n it =
    codes "rows " ++ (decimal (length it.rows) ++ (codes " at " ++ (decimal n
    ++ more_text it.more)))

-- a reply to a client, but for its rows
abbrev pub reply_text : Reply → List ℕ
reply_text (Committed request n) = codes "committed " ++ decimal n
reply_text (Value request n None) = codes "none at " ++ decimal n
reply_text (Value request n (Some value)) =
    codes "value " ++ (bytes_text value ++ (codes " at " ++ decimal n))
reply_text (Rows request n it) = rows_text n it
reply_text (Opened request n) = codes "opened " ++ decimal n
reply_text (Closed request n) = codes "closed " ++ decimal n
reply_text (Refused request refusal) = codes "refused " ++ refusal_text refusal

-- a node that started, with what it has
abbrev pub started_text : ℕ → ℕ → ℕ → ℕ → List ℕ
started_text node epoch count committed =
    codes "node " ++ (decimal node ++ (codes " started epoch " ++ (decimal epoch
    ++ (codes " count " ++ (decimal count ++ (codes " committed " ++ decimal committed))))))

-- a node that adopted a configuration, with its epoch
abbrev pub adopted_text : ℕ → ℕ → List ℕ
adopted_text node epoch =
    codes "node " ++ (decimal node ++ (codes " adopted " ++ decimal epoch))

-- a frame: its place among all, the nodes that it goes between, and the sender's epoch
abbrev pub frame_text : ℕ → ℕ → ℕ → List ℕ → ℕ → List ℕ
frame_text place from to kind epoch =
    codes "#" ++ (decimal place ++ (codes " " ++ (decimal from ++ (codes ">" ++ (decimal to
    ++ (codes " " ++ (kind ++ (codes " " ++ decimal epoch))))))))

-- a frame that forwards a batch
abbrev pub forwarded_text : ℕ → ℕ → ℕ → ℕ → ℕ → List ℕ
forwarded_text place from to epoch number =
    frame_text place from to (codes "forward") epoch ++ (codes " " ++ decimal number)

-- a frame that acknowledges batches
abbrev pub acknowledged_text : ℕ → ℕ → ℕ → ℕ → ℕ → ℕ → List ℕ
acknowledged_text place from to epoch committed have =
    frame_text place from to (codes "ack") epoch
    ++ (codes " " ++ (decimal committed ++ (codes " " ++ decimal have)))

-- a node that stopped, with the cause if it stopped by itself
abbrev pub stopped_text : ℕ → Option Stop → List ℕ
stopped_text node None = codes "node " ++ (decimal node ++ codes " stopped")
stopped_text node (Some cause) =
    codes "node " ++ (decimal node ++ (codes " stopped: " ++ cause_text cause))

-- what a tend did
abbrev pub tended_text : Tended → List ℕ
tended_text tended.Idle = codes "idle"
tended_text tended.Worked = codes "tended"
tended_text tended.Full = codes "full"

-- a line of a report, but for the rows of an answer
abbrev pub line_text : Line → List ℕ
line_text line.Nothing = codes "nothing"
line_text line.Lost = codes "lost"
line_text (line.Dropped reason) = codes "dropped " ++ reason_text reason
line_text (line.Started node epoch count committed) = started_text node epoch count committed
line_text (line.Adopted node epoch) = adopted_text node epoch
line_text (line.Forwarded place from to epoch number) =
    forwarded_text place from to epoch number
line_text (line.Acknowledged place from to epoch committed have) =
    acknowledged_text place from to epoch committed have
line_text (line.Replied reply) = reply_text reply
line_text (line.Stopped node cause) = stopped_text node cause
line_text (line.Tended did) = tended_text did

-- the rows of a reply
abbrev pub rows_of_reply : Reply → List Row
rows_of_reply (Committed request n) = []
rows_of_reply (Value request n value) = []
rows_of_reply (Rows request n it) = it.rows
rows_of_reply (Opened request n) = []
rows_of_reply (Closed request n) = []
rows_of_reply (Refused request refusal) = []

-- the rows of a line of a report
abbrev pub rows_of_line : Line → List Row
rows_of_line (line.Replied reply) = rows_of_reply reply
rows_of_line line.Nothing = []
rows_of_line line.Lost = []
rows_of_line (line.Dropped reason) = []
rows_of_line (line.Started node epoch count committed) = []
rows_of_line (line.Adopted node epoch) = []
rows_of_line (line.Forwarded place from to epoch number) = []
rows_of_line (line.Acknowledged place from to epoch committed have) = []
rows_of_line (line.Stopped node cause) = []
rows_of_line (line.Tended did) = []

-- the lines that are printed for a line of a report: one for each of its rows, then its own
abbrev pub line_texts : Line → List (List ℕ)
line_texts line = map printed_row (rows_of_line line) ++ line_text line ∷ []

-- a line of output: a number of a line of the script, and what is said of it
abbrev pub numbered_line : ℕ → List ℕ → List ℕ
numbered_line n text = decimal n ++ (codes ": " ++ (text ++ 10 ∷ []))

-- the lines of the script where the events stand, in order
abbrev pub event_lines : List StatementResult → List ℕ
event_lines turns = flat_map (λ turn. replicate turn.events turn.line) turns

-- the line of a request, which has the number of its event, from 1; one of no event stands here
abbrev pub line_of_request : List ℕ → ℕ → ℕ → ℕ
line_of_request places here request =
    option_map_or (λ n. n) (slice_get places (request - 1)) here

-- the number of the request that a reply answers
abbrev pub request_of : Reply → ℕ
request_of (Committed request n) = request
request_of (Value request n value) = request
request_of (Rows request n it) = request
request_of (Opened request n) = request
request_of (Closed request n) = request
request_of (Refused request refusal) = request

-- a reply is told at its request's line, all else here
abbrev pub reply_place : List ℕ → ℕ → Line → ℕ
reply_place places here (line.Replied reply) = line_of_request places here (request_of reply)
reply_place places here line.Nothing = here
reply_place places here line.Lost = here
reply_place places here (line.Dropped reason) = here
reply_place places here (line.Started node epoch count committed) = here
reply_place places here (line.Adopted node epoch) = here
reply_place places here (line.Forwarded place from to epoch number) = here
reply_place places here (line.Acknowledged place from to epoch committed have) = here
reply_place places here (line.Stopped node cause) = here
reply_place places here (line.Tended did) = here

-- what is printed for a line of a report
abbrev pub line_output : List ℕ → ℕ → Line → List ℕ
line_output places here line =
    flat_map (numbered_line (reply_place places here line)) (line_texts line)

-- what is printed for the lines of a step
abbrev pub step_text : List ℕ → ℕ → List Line → List ℕ
step_text places here step = flat_map (line_output places here) step

-- what is said of a statement besides
abbrev pub note_text : ℕ → Note → List ℕ
note_text here note.Nothing = []
note_text here (note.Invalid e) = numbered_line here (codes "invalid " ++ error_text e)
note_text here note.Busy = numbered_line here (codes "busy")
note_text here (note.Running node numbers) = numbered_line here (numbers_text node numbers)
note_text here (note.Down node) = numbered_line here (stopped_text node None)

-- what is printed at a statement: the lines of its steps, but of the silent first ones, then what
-- is said of it
abbrev pub result_text : List ℕ → StatementResult → List (List Line) → List ℕ
result_text places turn steps =
    flat_map (step_text places turn.line) (drop turn.silent (take turn.events steps))
    ++ note_text turn.line turn.note

-- what is printed for statements in order, behind others whose events stand at these lines: each
-- takes the steps of its events, and a reply is told at the line of its request, of an event so far
abbrev pub results_text : List ℕ → List StatementResult → List (List Line) → List ℕ
results_text places [] steps = []
results_text places (turn ∷ turns) steps =
    let own = places ++ replicate turn.events turn.line in
    result_text own turn steps ++ results_text own turns (drop turn.events steps)

-- the text of a run of statements, each event of which had a step: the texts of its statements, one
-- after another
abbrev pub run_text : List StatementResult → List (List Line) → List ℕ
run_text turns steps = results_text [] turns steps

-- the text of what is wrong with a script's line
abbrev pub fault_text : ScriptError → List ℕ
fault_text fault.LineTooLong = codes "line too long"
fault_text fault.UnknownStatement = codes "unknown statement"
fault_text fault.WrongNumberOfWords = codes "wrong number of words"
fault_text fault.BadNumber = codes "bad number"
fault_text fault.BadBytes = codes "bad bytes"
fault_text fault.BadFault = codes "bad fault"
fault_text fault.OutOfPlace = codes "out of place"
fault_text fault.BadConfiguration = codes "bad configuration"
fault_text fault.UnknownNode = codes "unknown node"
fault_text fault.BadLimit = codes "bad limit"
fault_text fault.TooManyLines = codes "too many lines"
fault_text fault.OutOfMemory = codes "out of memory"
