-- The frames, and the one spelling of each.
use Rattle.std.specs.Prelude.{ℕ, ◌≤◌, List, [], ◌∷◌, ◌++◌, length, Bool, true, false, Option}
use Rattle.std.specs.Prelude.{Some, None, IfSome, All}
use Rattle.std.specs.List.{flat_map}
use Rattle.std.specs.Int.{w8, w16, w32, w64, to_be_bytes}
use Rattle.configurations.specs.{IsConfig, config_text, IsId}
use Rattle.byte_fields.specs.declared.stored_key.TheConstants.{MAX_KEY}
use Rattle.kv_types.specs.declared.bounds.TheConstants.{MAX_VALUE, MAX_ROWS, MAX_PAGE, MAX_NUMBER}
use Rattle.kv_types.specs.{Row, Span, Rows, IsBatch, batch_bytes as batch_text, KeepsLimits}
use Rattle.byte_fields.specs.{text_bytes}
use Rattle.chain_model.specs.declared.Refusal.{Refusal}
use Rattle.chain_model.specs.declared.Refusal.TheVariants as refused
use Rattle.link_messages.specs.declared.frame.Frame.{Frame}
use Rattle.link_messages.specs.declared.frame.Frame.TheVariants as frame

-- ---- fields

-- a number in one, two, four or eight bytes, the most significant first
abbrev pub u8 : ℕ → List ℕ
u8 n = to_be_bytes w8 n

-- a number in two bytes
abbrev pub u16 : ℕ → List ℕ
u16 n = to_be_bytes w16 n

-- a number in four bytes
abbrev pub u32 : ℕ → List ℕ
u32 n = to_be_bytes w32 n

-- a number in eight bytes
abbrev pub u64 : ℕ → List ℕ
u64 n = to_be_bytes w64 n

-- a truth value is the byte 0 or 1
abbrev pub truth : Bool → List ℕ
truth false = 0 ∷ []
truth true = 1 ∷ []

-- an optional value: the byte 0, or the byte 1 and the value
abbrev pub optional : {A : Type 0} → (A → List ℕ) → Option A → List ℕ
optional spell None = 0 ∷ []
optional spell (Some x) = 1 ∷ spell x

-- the number of a read, if the request has one
abbrev pub at_text : Option ℕ → List ℕ
at_text at = optional u64 at

-- the first key, the bound, the direction and the limit
abbrev pub range_text : Span → List ℕ
range_text range =
    text_bytes range.from ++
    (optional text_bytes range.to ++ (truth range.backward ++ u32 range.limit))

-- the key and the value
abbrev pub row_text : Row → List ℕ
row_text row = text_bytes row.key ++ text_bytes row.value

-- whether the range has more rows, the number of rows in two bytes, and the rows
abbrev pub page_text : Rows → List ℕ
page_text page = truth page.more ++ (u16 (length page.rows) ++ flat_map row_text page.rows)

-- the refusals, numbered from 1
abbrev pub refusal_number : Refusal → ℕ
refusal_number refused.NotRunning = 1
refusal_number refused.NotHead = 2
refusal_number refused.TooOld = 3
refusal_number refused.NotCommitted = 4
refusal_number refused.NoSuchSnapshot = 5
refusal_number refused.TooManySnapshots = 6
refusal_number refused.Removed = 7
refusal_number refused.Exhausted = 8
refusal_number refused.OldRequest = 9

-- ---- frames

-- the kinds of frames, numbered from 1
abbrev pub kind : Frame → ℕ
kind (frame.Forward epoch from number batch) = 1
kind (frame.Ack epoch from committed have) = 2
kind (frame.Notice epoch config) = 3
kind (frame.Submit request batch) = 4
kind (frame.Get request at key) = 5
kind (frame.Rows request at range) = 6
kind (frame.Open request at) = 7
kind (frame.Close request number) = 8
kind (frame.Committed request number) = 9
kind (frame.Value request number value) = 10
kind (frame.RowsAre request number page) = 11
kind (frame.Opened request number) = 12
kind (frame.Refused request refusal) = 13
kind (frame.Closed request number) = 14

-- the fields of a frame, one behind the other
abbrev pub fields : Frame → List ℕ
fields (frame.Forward epoch from number batch) =
    u32 epoch ++ (u16 from ++ (u64 number ++ batch_text batch))
fields (frame.Ack epoch from committed have) =
    u32 epoch ++ (u16 from ++ (u64 committed ++ u64 have))
fields (frame.Notice epoch config) = u32 epoch ++ config_text config
fields (frame.Submit request batch) = u64 request ++ batch_text batch
fields (frame.Get request at key) = u64 request ++ (at_text at ++ text_bytes key)
fields (frame.Rows request at range) = u64 request ++ (at_text at ++ range_text range)
fields (frame.Open request at) = u64 request ++ at_text at
fields (frame.Close request number) = u64 request ++ u64 number
fields (frame.Committed request number) = u64 request ++ u64 number
fields (frame.Value request number value) = u64 request ++ (u64 number ++ optional text_bytes value)
fields (frame.RowsAre request number page) = u64 request ++ (u64 number ++ page_text page)
fields (frame.Opened request number) = u64 request ++ u64 number
fields (frame.Refused request refusal) = u64 request ++ u8 (refusal_number refusal)
fields (frame.Closed request number) = u64 request ++ u64 number

-- the kind in one byte, and the fields
abbrev pub body : Frame → List ℕ
body f = kind f ∷ fields f

-- the length in four bytes, and that many bytes
abbrev pub frame_bytes : Frame → List ℕ
frame_bytes f = u32 (length (body f)) ++ body f

-- ---- ranges of the fields

-- an epoch is the place of one of at most 16 configurations
abbrev pub IsEpoch : ℕ → Type 0
IsEpoch epoch = epoch ≤ 15

-- a number of a batch or a request
abbrev pub IsNumber : ℕ → Type 0
IsNumber n = n ≤ MAX_NUMBER

-- batches are numbered from 1
abbrev pub IsPlace : ℕ → Type 0
IsPlace n = (1 ≤ n) × (n ≤ MAX_NUMBER)

-- a key within its limit
abbrev pub IsKey : List ℕ → Type 0
IsKey key = length key ≤ MAX_KEY

-- a value within its limit
abbrev pub IsValue : List ℕ → Type 0
IsValue value = length value ≤ MAX_VALUE

-- a range of keys within their limit, and of rows within those of a page
pub record IsRange (range : Span) : Type 0 where
  pub from : IsKey range.from
  pub to : IfSome range.to IsKey
  pub limit : (1 ≤ range.limit) × (range.limit ≤ MAX_ROWS)

-- a row whose key and value are within their limits
abbrev pub IsRow : Row → Type 0
IsRow row = IsKey row.key × IsValue row.value

-- a page has at most 1,024 rows and 98,304 bytes
pub record IsSmall (page : Rows) : Type 0 where
  pub each : All IsRow page.rows
  pub limits : KeepsLimits MAX_ROWS MAX_PAGE page.rows

-- each field is in its range
abbrev pub IsFrame : Frame → Type 0
IsFrame (frame.Forward epoch from number batch) =
    IsEpoch epoch × IsId from × IsPlace number × IsBatch batch
IsFrame (frame.Ack epoch from committed have) =
    IsEpoch epoch × IsId from × IsNumber committed × IsNumber have
IsFrame (frame.Notice epoch config) = IsEpoch epoch × IsConfig config
IsFrame (frame.Submit request batch) = IsNumber request × IsBatch batch
IsFrame (frame.Get request at key) = IsNumber request × IfSome at IsNumber × IsKey key
IsFrame (frame.Rows request at range) = IsNumber request × IfSome at IsNumber × IsRange range
IsFrame (frame.Open request at) = IsNumber request × IfSome at IsNumber
IsFrame (frame.Close request number) = IsNumber request × IsNumber number
IsFrame (frame.Committed request number) = IsNumber request × IsNumber number
IsFrame (frame.Value request number value) =
    IsNumber request × IsNumber number × IfSome value IsValue
IsFrame (frame.RowsAre request number page) = IsNumber request × IsNumber number × IsSmall page
IsFrame (frame.Opened request number) = IsNumber request × IsNumber number
IsFrame (frame.Refused request refusal) = IsNumber request
IsFrame (frame.Closed request number) = IsNumber request × IsNumber number

-- the bounds that the types of the fields do not imply
abbrev pub HasBounds : Frame → Type 0
HasBounds (frame.Forward epoch from number batch) = 1 ≤ number
HasBounds (frame.RowsAre request number page) = KeepsLimits MAX_ROWS MAX_PAGE page.rows
HasBounds _ = Unit {0}
