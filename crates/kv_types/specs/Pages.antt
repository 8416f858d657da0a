-- The rows of a map in a range, and the page of them in an answer.
use Rattle.std.specs.Prelude.{◌≡◌, ◌≢◌, ◌⊎◌, ◌↔◌, ◌≤◌, ◌+◌, ◌-◌, ℕ, zero, suc, List, [], ◌∷◌, ◌++◌}
use Rattle.std.specs.Prelude.{length, reverse, Bool, true, false, not, ◌&&◌, IsTrue, nat_lt, nat_le}
use Rattle.std.specs.Prelude.{if◌then◌else◌, Option, Some, None, IfSome}
use Rattle.std.specs.List.{All, AllPairs, Contains, sum_by, filter_map}
use Rattle.std.specs.Option.{option_map, option_map_or}
use Rattle.std.specs.Ordering.{nat_cmp, is_lt, match_ordering}
use Rattle.std.specs.Cmp.Lexicographic.{slice_cmp}
use Rattle.byte_fields.specs.Order.{IsBelow}
use Rattle.kv_types.specs.declared.bounds.TheConstants.{MAX_PAGE, ROW_OVERHEAD}
use Rattle.kv_types.specs.declared.edit.Edit.{Edit}
use Rattle.kv_types.specs.Spans.{Row}
use Rattle.kv_types.specs.Content.{BatchContent}
use Rattle.kv_types.specs.Maps.{key_of, joined, map_of}
use Rattle.kv_types.specs.Spans.{Span, Rows}

-- a map: the value of each key, or none
abbrev pub Map : Type 0
Map = List ℕ → Option (List ℕ)

-- the key lies in the range: from <= key < to
abbrev pub IsWithin : Span → List ℕ → Type 0
IsWithin range key =
    ((range.from ≡ key) ⊎ IsBelow range.from key) × IfSome range.to (λ to. IsBelow key to)

-- the row is one of the map, and its key lies in the range
abbrev pub IsRowOf : Map → Span → Row → Type 0
IsRowOf map range row = (map row.key ≡ Some row.value) × IsWithin range row.key

-- a forward walk visits lesser keys first, a backward walk greater keys
abbrev pub PrecedesRow : Bool → Row → Row → Type 0
PrecedesRow false a b = IsBelow a.key b.key
PrecedesRow true a b = IsBelow b.key a.key

-- the rows are all rows of the map in the range, in the order of the walk
pub record IsWalk (map : Map) (range : Span) (rows : List Row) : Type 0 where
  pub each : All (IsRowOf map range) rows
  pub all : (row : Row) → IsRowOf map range row → Contains rows row
  pub ordered : AllPairs (PrecedesRow range.backward) rows

-- the size of a row: the bytes of its key and its value, and a fixed overhead
abbrev pub row_size : Row → ℕ
row_size row = length row.key + length row.value + ROW_OVERHEAD

-- the rows stay within the limits on their number and their bytes
abbrev pub KeepsLimits : ℕ → ℕ → List Row → Type 0
KeepsLimits limit size rows = (length rows ≤ limit) × (sum_by row_size rows ≤ size)

-- the next row would exceed the limits
abbrev pub IsFull : ℕ → ℕ → List Row → List Row → Type 0
IsFull limit size rows [] = Unit {0}
IsFull limit size rows (next ∷ left) = KeepsLimits limit size (rows ++ next ∷ []) → ⊥

-- the longest prefix of the walk within the limits, and whether rows remain behind it
pub record IsPage (map : Map) (range : Span) (page : Rows) : Type 0 where
  pub left : List Row
  pub walk : IsWalk map range (page.rows ++ left)
  pub fits : KeepsLimits range.limit MAX_PAGE page.rows
  pub full : IsFull range.limit MAX_PAGE page.rows left
  pub more : IsTrue page.more ↔ (left ≢ [])

-- ---- the page as a function

-- inserts a key into keys in byte order, unless it is there already
abbrev pub with_key : List ℕ → List (List ℕ) → List (List ℕ)
with_key key [] = key ∷ []
with_key key (first ∷ keys) =
    match_ordering (slice_cmp nat_cmp key first) (key ∷ first ∷ keys) (first ∷ keys)
    (first ∷ with_key key keys)

-- the keys of the edits in byte order, each once
abbrev pub keys_of : List Edit → List (List ℕ)
keys_of [] = []
keys_of (edit ∷ edits) = with_key (key_of edit) (keys_of edits)

-- the decision procedure of `IsWithin`
abbrev pub is_within : Span → List ℕ → Bool
is_within range key =
    not (is_lt (slice_cmp nat_cmp key range.from)) && option_map_or
    (λ to. is_lt (slice_cmp nat_cmp key to)) range.to true

-- the row of a key that lies in the range and has a value
abbrev pub row_of_key : List BatchContent → Span → List ℕ → Option Row
row_of_key batches range key =
    if is_within range key then option_map (λ value. record { key = key; value = value })
    (map_of batches key) else None

-- all rows in the range, in the order of the walk
abbrev pub walk_of : List BatchContent → Span → List Row
walk_of batches range =
    let rows = filter_map (row_of_key batches range) (keys_of (joined batches)) in
    if range.backward then reverse rows else rows

-- the longest prefix of the rows within the limits
abbrev pub fitting_rows : ℕ → ℕ → List Row → List Row
fitting_rows zero size rows = []
fitting_rows (suc limit) size [] = []
fitting_rows (suc limit) size (row ∷ rows) =
    if nat_le (row_size row) size then row ∷ fitting_rows limit (size - row_size row) rows else []

-- the page of a range in the map of the batches
abbrev pub page_of : List BatchContent → Span → Rows
page_of batches range =
    let walk = walk_of batches range in
    let rows = fitting_rows range.limit MAX_PAGE walk in
    record { rows = rows; more = nat_lt (length rows) (length walk) }

-- the function returns a page of the map of the batches
abbrev pub PagesAgree : Type 0
PagesAgree = (batches : List BatchContent) (range : Span)
    → IsPage (map_of batches) range (page_of batches range)

-- a map has at most one page in a range
abbrev pub OnePage : Type 0
OnePage = (map : Map) (range : Span) (p q : Rows) → IsPage map range p → IsPage map range q → p ≡ q
