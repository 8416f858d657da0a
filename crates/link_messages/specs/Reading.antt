-- Reading a frame from left to right.
use Rattle.std.specs.Prelude.{◌≡◌, ℕ, zero, suc, List, [], ◌∷◌, length, take, drop, nat_lt}
use Rattle.std.specs.Prelude.{nat_le, ◌==◌, Bool, true, false, ◌&&◌, Option, Some, None}
use Rattle.std.specs.Prelude.{Result, Ok, Err, if◌then◌else◌}
use Rattle.std.specs.Global.{Vec}
use Rattle.std.specs.List.{sum_by}
use Rattle.std.specs.Int.{w8, w16, w32, w64}
use Rattle.byte_fields.specs.{Reader, both, mapped, only, counted, number_at, ◌>>=◌, text_at}
use Rattle.configurations.specs.{is_config}
use Rattle.byte_fields.specs.declared.stored_key.TheConstants.{MAX_KEY}
use Rattle.kv_types.specs.declared.bounds.TheConstants.{MAX_VALUE, MAX_ROWS, MAX_PAGE, MAX_NUMBER}
use Rattle.kv_types.specs.{Row, Span, Rows, row_size, batch_at}
use Rattle.chain_model.specs.declared.Refusal.{Refusal}
use Rattle.chain_model.specs.declared.Refusal.TheVariants as refused
use Rattle.link_messages.specs.declared.frame.Frame.{Frame}
use Rattle.link_messages.specs.declared.frame.Frame.TheVariants as frame
use Rattle.link_messages.specs.declared.frame.TheConstants.{MAX_FRAME}
use Rattle.link_messages.specs.declared.error.FrameError.{FrameError}
use Rattle.link_messages.specs.declared.error.FrameError.TheVariants as fault
use Rattle.link_messages.specs.Stream.{length_field}

-- ---- fields

-- a truth value: the byte 0 or 1
unfoldable pub truth_at : Reader Bool
truth_at [] = None
truth_at (zero ∷ rest) = Some (false, rest)
truth_at (suc zero ∷ rest) = Some (true, rest)
truth_at (suc (suc b) ∷ rest) = None

-- a truth value, and behind `true` what is read there
abbrev pub optional_at : {A : Type 0} → Reader A → Reader (Option A)
optional_at read bytes = truth_at bytes >>= λ there. if there.0 then mapped Some read there.1 else
    Some (None, there.1)

-- the place of one of at most 16 configurations, in four bytes
unfoldable pub epoch_at : Reader ℕ
epoch_at bytes = only (λ n. nat_le n 15) (number_at w32) bytes

-- a node's id, from 1, in two bytes
unfoldable pub id_at : Reader ℕ
id_at bytes = only (λ n. nat_le 1 n) (number_at w16) bytes

-- a number of a batch or a request
unfoldable pub count_at : Reader ℕ
count_at bytes = only (λ n. nat_le n MAX_NUMBER) (number_at w64) bytes

-- the number of a batch, from 1
unfoldable pub place_at : Reader ℕ
place_at bytes = only (λ n. nat_le 1 n) count_at bytes

-- the number that a read is asked at, if any
unfoldable pub at_at : Reader (Option ℕ)
at_at bytes = optional_at count_at bytes

-- the value that was found, if any
unfoldable pub found_at : Reader (Option (List ℕ))
found_at bytes = optional_at (text_at MAX_VALUE) bytes

-- the ids of a configuration, behind their number in one byte
unfoldable pub config_at : Reader (List ℕ)
config_at bytes = only is_config (counted (number_at w8) (number_at w16)) bytes

-- the parts of a range, as a range
abbrev pub as_range : List ℕ × (Option (List ℕ) × (Bool × ℕ)) → Span
as_range x = record { from = x.0; to = x.1.0; backward = x.1.1.0; limit = x.1.1.1 }

-- the greatest number of rows of a page, from 1 to a page's limit
unfoldable pub limit_at : Reader ℕ
limit_at bytes = only (λ n. nat_le 1 n && nat_le n MAX_ROWS) (number_at w32) bytes

-- the key that a range ends before, if any
unfoldable pub bound_at : Reader (Option (List ℕ))
bound_at bytes = optional_at (text_at MAX_KEY) bytes

-- the first key of a range, its bound, its direction and its limit
unfoldable pub range_at : Reader Span
range_at bytes =
    mapped as_range (both (text_at MAX_KEY) (both bound_at (both truth_at limit_at))) bytes

-- a key and a value, as a row
abbrev pub as_row : List ℕ × List ℕ → Row
as_row x = record { key = x.0; value = x.1 }

-- a row: its key and its value
unfoldable pub row_at : Reader Row
row_at bytes = mapped as_row (both (text_at MAX_KEY) (text_at MAX_VALUE)) bytes

-- whether more rows follow, and the rows, as a page
abbrev pub as_page : Bool × List Row → Rows
as_page x = record { rows = x.1; more = x.0 }

-- at most as many rows as a page may have
unfoldable pub rows_at : Reader (List Row)
rows_at bytes = counted (only (λ n. nat_le n MAX_ROWS) (number_at w16)) row_at bytes

-- a page whose rows are within the limit of its bytes
unfoldable pub page_at : Reader Rows
page_at bytes =
    only (λ page. nat_le (sum_by row_size page.rows) MAX_PAGE)
    (mapped as_page (both truth_at rows_at)) bytes

-- the refusal of a code
abbrev pub refusal_of : ℕ → Option Refusal
refusal_of zero = None
refusal_of (suc zero) = Some refused.NotRunning
refusal_of (suc (suc zero)) = Some refused.NotHead
refusal_of (suc (suc (suc zero))) = Some refused.TooOld
refusal_of (suc (suc (suc (suc zero)))) = Some refused.NotCommitted
refusal_of (suc (suc (suc (suc (suc zero))))) = Some refused.NoSuchSnapshot
refusal_of (suc (suc (suc (suc (suc (suc zero)))))) = Some refused.TooManySnapshots
refusal_of (suc (suc (suc (suc (suc (suc (suc zero))))))) = Some refused.Removed
refusal_of (suc (suc (suc (suc (suc (suc (suc (suc zero)))))))) = Some refused.Exhausted
refusal_of (suc (suc (suc (suc (suc (suc (suc (suc (suc zero))))))))) = Some refused.OldRequest
refusal_of (suc (suc (suc (suc (suc (suc (suc (suc (suc (suc n)))))))))) = None

-- a refusal, by its code in one byte
unfoldable pub refusal_at : Reader Refusal
refusal_at bytes = number_at w8 bytes >>= λ code. refusal_of code.0 >>= λ refusal. Some
    (refusal, code.1)

-- ---- frames, without their kind

-- a forwarded batch: epoch, sender, number and batch
unfoldable pub forward_at : Reader Frame
forward_at bytes =
    mapped (λ x. frame.Forward x.0 x.1.0 x.1.1.0 x.1.1.1)
    (both epoch_at (both id_at (both place_at batch_at))) bytes

-- an acknowledgement: epoch, sender, committed number and number of batches
unfoldable pub ack_at : Reader Frame
ack_at bytes =
    mapped (λ x. frame.Ack x.0 x.1.0 x.1.1.0 x.1.1.1)
    (both epoch_at (both id_at (both count_at count_at))) bytes

-- a notice of a configuration: its epoch and its ids
unfoldable pub notice_at : Reader Frame
notice_at bytes = mapped (λ x. frame.Notice x.0 x.1) (both epoch_at config_at) bytes

-- a submitted batch, behind the number of its request
unfoldable pub submit_at : Reader Frame
submit_at bytes = mapped (λ x. frame.Submit x.0 x.1) (both count_at batch_at) bytes

-- a read of one key: request, number and key
unfoldable pub get_at : Reader Frame
get_at bytes =
    mapped (λ x. frame.Get x.0 x.1.0 x.1.1) (both count_at (both at_at (text_at MAX_KEY))) bytes

-- a read of a range: request, number and range
unfoldable pub rows_frame_at : Reader Frame
rows_frame_at bytes =
    mapped (λ x. frame.Rows x.0 x.1.0 x.1.1) (both count_at (both at_at range_at)) bytes

-- a request to open a snapshot, at a number if one is given
unfoldable pub open_at : Reader Frame
open_at bytes = mapped (λ x. frame.Open x.0 x.1) (both count_at at_at) bytes

-- a request to close a snapshot at a number
unfoldable pub close_at : Reader Frame
close_at bytes = mapped (λ x. frame.Close x.0 x.1) (both count_at count_at) bytes

-- an answer that a batch is committed, with its number
unfoldable pub committed_at : Reader Frame
committed_at bytes = mapped (λ x. frame.Committed x.0 x.1) (both count_at count_at) bytes

-- an answer to a read of one key: the number and what was found
unfoldable pub value_at : Reader Frame
value_at bytes =
    mapped (λ x. frame.Value x.0 x.1.0 x.1.1) (both count_at (both count_at found_at)) bytes

-- an answer to a read of a range: the number and the page
unfoldable pub rows_are_at : Reader Frame
rows_are_at bytes =
    mapped (λ x. frame.RowsAre x.0 x.1.0 x.1.1) (both count_at (both count_at page_at)) bytes

-- an answer that a snapshot is open, with its number
unfoldable pub opened_at : Reader Frame
opened_at bytes = mapped (λ x. frame.Opened x.0 x.1) (both count_at count_at) bytes

-- an answer that refuses a request, with the reason
unfoldable pub refused_at : Reader Frame
refused_at bytes = mapped (λ x. frame.Refused x.0 x.1) (both count_at refusal_at) bytes

-- an answer that a snapshot is closed, with its number
unfoldable pub closed_at : Reader Frame
closed_at bytes = mapped (λ x. frame.Closed x.0 x.1) (both count_at count_at) bytes

-- the readers in the order of their kinds, from 1
abbrev pub readers : List (Reader Frame)
readers =
    forward_at ∷ ack_at ∷ notice_at ∷ submit_at ∷ get_at ∷ rows_frame_at ∷ open_at ∷ close_at
    ∷ committed_at ∷ value_at ∷ rows_are_at ∷ opened_at ∷ refused_at ∷ closed_at ∷ []

-- the item at this place, from 0, if there are so many
abbrev pub nth : {A : Type 0} → List A → ℕ → Option A
nth [] n = None
nth (x ∷ xs) zero = Some x
nth (x ∷ xs) (suc n) = nth xs n

-- the reader of a kind, if the kind is known
abbrev pub reader_of : ℕ → Option (Reader Frame)
reader_of zero = None
reader_of (suc n) = nth readers n

-- ---- the content of a frame, and a frame in a stream

-- the frame, if no bytes are left behind it
abbrev pub ended : Option (Frame × List ℕ) → Result Frame FrameError
ended None = Err fault.BadField
ended (Some (f, [])) = Ok f
ended (Some (f, b ∷ more)) = Err fault.Trailing

-- the frame that this reader reads from all of the bytes; none reads an unknown kind
abbrev pub read_by : Option (Reader Frame) → List ℕ → Result Frame FrameError
read_by None bytes = Err fault.BadKind
read_by (Some read) bytes = ended (read bytes)

-- the frame of these bytes: its kind in one byte, then its fields
unfoldable pub content_at : List ℕ → Result Frame FrameError
content_at [] = Err fault.BadField
content_at (k ∷ bytes) = read_by (reader_of k) bytes

-- a frame that was read, as an answer
abbrev pub as_answer : Result Frame FrameError → Result (Option Frame) FrameError
as_answer (Ok f) = Ok (Some f)
as_answer (Err e) = Err e

-- The frame at the front of a stream, or none while bytes are wanting. A length over the limit is
-- refused at once, and so is one of 0.
unfoldable pub answer_at : List ℕ → Result (Option Frame) FrameError
answer_at bytes =
    if nat_lt (length bytes) 4 then Ok None else
    (if nat_lt MAX_FRAME (length_field bytes) then Err fault.TooLong else
    (if length_field bytes == 0 then Err fault.BadField else
    (if nat_lt (length (drop 4 bytes)) (length_field bytes) then Ok None else as_answer
    (content_at (take (length_field bytes) (drop 4 bytes))))))

-- ---- results of functions

-- the cause of a field's refusal: `BadField` only where nothing can be read
abbrev pub RefusesField : {Y : Type 0} → FrameError → Option Y → Type 0
RefusesField fault.BadField read = read ≡ None
RefusesField fault.Memory read = Unit {0}
RefusesField _ read = ⊥

-- a function's result is what was read, with the bytes behind it, unless memory ran out
abbrev pub ReadsField : {X : Type 0} → Result X FrameError → List ℕ → Option (X × List ℕ) → Type 0
ReadsField (Ok x) rest read = read ≡ Some (x, rest)
ReadsField (Err e) rest read = RefusesField e read

-- the same for a frame of a kind that may be unknown
abbrev pub ReadsKind : Result Frame FrameError → List ℕ → Option (Reader Frame) → List ℕ → Type 0
ReadsKind result rest (Some read) bytes = ReadsField result rest (read bytes)
ReadsKind result rest None bytes = result ≡ Err fault.BadKind

-- the function returned this result, unless memory ran out for content of a known kind
abbrev pub IsOr : Result Frame FrameError → Result Frame FrameError → Type 0
IsOr (Ok f) told = told ≡ Ok f
IsOr (Err fault.Memory) told = told ≡ Err fault.BadKind → ⊥
IsOr (Err e) told = told ≡ Err e

-- a result of a vector as a result of its list
abbrev pub items_of : {A E : Type 0} → Result (Vec A) E → Result (List A) E
items_of (Ok v) = Ok v.items
items_of (Err e) = Err e

-- the answer with the length of the frame, as an answer with the bytes behind the frame
abbrev pub frame_found : Result (Option (Frame × ℕ)) FrameError → Result (Option Frame) FrameError
frame_found (Ok None) = Ok None
frame_found (Ok (Some x)) = Ok (Some x.0)
frame_found (Err e) = Err e

-- the bytes behind the frame that was found; all of them where none was
abbrev pub bytes_left : Result (Option (Frame × ℕ)) FrameError → List ℕ → List ℕ
bytes_left (Ok (Some x)) bytes = drop x.1 bytes
bytes_left _ bytes = bytes
