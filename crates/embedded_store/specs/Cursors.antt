-- A cursor over the map of a store at a number: on which row it stands, and what its moves promise.
use Rattle.std.specs.Prelude.{◌≡◌, ◌≢◌, ◌⊎◌, ◌+◌, ◌<◌, ◌≤◌, ◌++◌, ℕ, suc, List, []}
use Rattle.std.specs.Prelude.{Bool, true, false, length, Option, Some, None}
use Rattle.std.specs.Prelude.{IsSome, Result, IfErr, IfOk, MatchResult}
use Rattle.std.specs.List.{slice_get}
use Rattle.byte_fields.specs.Order.{IsBelow}
use Rattle.byte_fields.specs.declared.stored_key.TheConstants.{MAX_KEY}
use Rattle.kv_types.specs.{BatchContent, Rows, Span, map_of, row_size, Row}
use Rattle.kv_types.specs.Pages.{IsPage, Map, PrecedesRow}
use Rattle.kv_types.specs.declared.bounds.TheConstants.{MAX_VALUE, ROW_OVERHEAD}
use Rattle.disk.specs.declared.Disk.{Ghosts}
use Rattle.engine.specs.EngineError.{EngineError}
use Rattle.engine.specs.EngineError.TheVariants as engine
use Rattle.engine.specs.{IsReadableAnswer, ReadsEngine, look_ups}
use Rattle.embedded_store.specs.declared.cursor.RowCursor.{RowCursor}
use Rattle.embedded_store.specs.declared.store.EmbeddedStore.{EmbeddedStore}
use Rattle.embedded_store.specs.Stores.{HoldsBatches, IsReadRefusal, ShowsBatches}
use Rattle.embedded_store.specs.Stores.{first_batches, store_engine, whether}
use Rattle.embedded_store.specs.declared.cursor.TheConstants.{ROWS}

-- ---- rows of a map

-- the map has this row
abbrev pub HasRow : Map → Row → Type 0
HasRow map row = map row.key ≡ Some row.value

-- of the map's rows that are so, this one is the first in the direction
pub record IsFirstRow (backward : Bool) (map : Map) (IsSo : Row → Type 0) (row : Row)
    : Type 0 where
  pub has : HasRow map row
  pub so : IsSo row
  pub first : (other : Row) → HasRow map other → IsSo other →
      (other ≡ row) ⊎ PrecedesRow backward row other

-- the first of the map's rows that are so, or none where the map has no such row
abbrev pub FindsRow : Bool → Map → (Row → Type 0) → Option Row → Type 0
FindsRow backward map IsSo None = (row : Row) → HasRow map row → IsSo row → ⊥
FindsRow backward map IsSo (Some row) = IsFirstRow backward map IsSo row

-- the row behind this one in the direction, or none; and none behind none
abbrev pub StepsRow : Bool → Map → Option Row → Option Row → Type 0
StepsRow backward map None now = now ≡ None
StepsRow backward map (Some row) now = FindsRow backward map (PrecedesRow backward row) now

-- the key of the row is this one, or behind it
abbrev pub IsAtOrBehind : List ℕ → Row → Type 0
IsAtOrBehind key row = (key ≡ row.key) ⊎ IsBelow key row.key

-- any row
abbrev pub IsAnyRow : Row → Type 0
IsAnyRow row = Unit {0}

-- these are rows of the map, and behind each stands the one that follows it in the map
pub record AreNeighbours (backward : Bool) (map : Map) (rows : List Row) : Type 0 where
  pub each : (n : ℕ) (row : Row) → slice_get rows n ≡ Some row → HasRow map row
  pub next : (n : ℕ) (row next : Row) → slice_get rows n ≡ Some row →
      slice_get rows (suc n) ≡ Some next →
      IsFirstRow backward map (PrecedesRow backward row) next

-- ---- cursors

-- the row on which a cursor stands, or none
abbrev pub cursor_row : RowCursor → Option Row
cursor_row cursor = slice_get cursor.page.rows cursor.place

-- the number of the map that it goes through
abbrev pub cursor_number : RowCursor → ℕ
cursor_number cursor = cursor.at

-- the map of its number, in a store of this list
abbrev pub cursor_map : RowCursor → List BatchContent → Map
cursor_map cursor list = map_of (first_batches (Some cursor.at) list)

-- the rows that it has read are neighbours in its map, of a store of this list
abbrev pub CursorIsOf : List BatchContent → RowCursor → Type 0
CursorIsOf list cursor =
    AreNeighbours cursor.is_backward (cursor_map cursor list) cursor.page.rows

-- what a cursor has read is of its map too where more batches are written behind it
abbrev pub CursorsOutliveWrites : Type 0
CursorsOutliveWrites = (list more : List BatchContent) (cursor : RowCursor) →
    cursor_number cursor ≤ length list → CursorIsOf list cursor → CursorIsOf (list ++ more) cursor

-- rows were read at this number, if it can be read, and the call is refused as that was
pub record ReadsRows {D : Type 0} (g : Ghosts D) (at : ℕ) (old new : EmbeddedStore D g)
    (result : Result (Unit {0}) EngineError) : Type 0 where
  pub answer : Result Rows EngineError
  pub reads : ReadsEngine g (store_engine old) (store_engine new) answer
  pub readable : IsReadableAnswer (look_ups (store_engine old)) at answer
  pub same : result ≡ whether answer

-- rows were read at this number; or nothing was read, since memory was wanting, or it was answered
-- in this case
abbrev pub ReadsUnless : {D : Type 0} (g : Ghosts D) → Type 0 → ℕ → (old new : EmbeddedStore D g) →
    Result (Unit {0}) EngineError → Type 0
ReadsUnless g unread at old new result =
    ((new ≡ old) × MatchResult result (λ _. unread) (λ e. e ≡ engine.Memory))
    ⊎ ReadsRows g at old new result

-- what a move of a cursor promises, whatever it finds
pub record MovesRowCursor {D : Type 0} (g : Ghosts D) (old new : EmbeddedStore D g)
    (before now : RowCursor) (unread : Type 0) (result : Result (Unit {0}) EngineError) : Type 0
  where
    -- the store is read at the cursor's number; it answers without a read in this case alone
    pub reads : ReadsUnless g unread (cursor_number before) old new result
    -- the number stays
    pub number : cursor_number now ≡ cursor_number before
    -- a move that is refused leaves the cursor where it stood
    pub kept : IfErr result (λ _. now ≡ before)
    -- and is refused as a read at its number
    pub refused : (list : List BatchContent) → HoldsBatches g old list →
        IfErr result (IsReadRefusal (look_ups (store_engine old)) (Some (cursor_number before)))

-- The cursor stands on one of the rows that it had read. In the map of each list of which these
-- are, that is the row behind the one on which it stood.
pub record StepsAmongRead (backward : Bool) (before now : RowCursor) : Type 0 where
  pub on : IsSome (cursor_row now)
  pub rows : now.page ≡ before.page
  pub number : cursor_number now ≡ cursor_number before
  pub follows : (list : List BatchContent) → CursorIsOf list before → CursorIsOf list now
      × StepsRow backward (cursor_map before list) (cursor_row before) (cursor_row now)

-- a step without a read: the cursor steps among the rows that it has read, or it stands on none and
-- stays so
abbrev pub StepsUnread : Bool → (before now : RowCursor) → Type 0
StepsUnread backward before now =
    ((cursor_row before ≡ None) × (now ≡ before)) ⊎ StepsAmongRead backward before now

-- The row that follows in the direction is on the page that was read last: one place on, where the
-- page was read in this direction, and else one place back.
abbrev pub HasReadNext : Bool → RowCursor → Type 0
HasReadNext backward cursor =
    ((backward ≡ cursor.is_backward) × (cursor.place + 1 < length cursor.page.rows))
    ⊎ ((backward ≢ cursor.is_backward) × (0 < cursor.place)
    × (cursor.place < length cursor.page.rows))

-- a step in the direction needs no read: the cursor stands on no row, or the one that follows is on
-- the page that was read last
abbrev pub NeedsNoRead : Bool → RowCursor → Type 0
NeedsNoRead backward cursor = (cursor_row cursor ≡ None) ⊎ HasReadNext backward cursor

-- a move that answers leaves the cursor on the row of its map that is said, or on none, and what it
-- has read is of that map
abbrev pub FindsIn : {D : Type 0} (g : Ghosts D) → EmbeddedStore D g → (before now : RowCursor) →
    (Map → Option Row → Type 0) → Result (Unit {0}) EngineError → Type 0
FindsIn g store before now IsThere result =
    (list : List BatchContent) → ShowsBatches g store list →
    IfOk result (λ _. CursorIsOf list now × IsThere (cursor_map before list) (cursor_row now))

-- a step that answers leaves the cursor on the row behind the one on which it stood, or on none,
-- where what it had read is of its map
abbrev pub StepsIn : {D : Type 0} (g : Ghosts D) → EmbeddedStore D g → (before now : RowCursor) →
    Bool → Result (Unit {0}) EngineError → Type 0
StepsIn g store before now backward result =
    (list : List BatchContent) → ShowsBatches g store list → CursorIsOf list before →
    IfOk result (λ _. CursorIsOf list now
    × StepsRow backward (cursor_map before list) (cursor_row before) (cursor_row now))

-- ---- the ranges that moves read

-- the range of the rows from a key on
abbrev pub span_from : List ℕ → Span
span_from key = record { from = key; to = None; backward = false; limit = ROWS }

-- the range of the rows before a key, or of all, from the last one back
abbrev pub span_before : Option (List ℕ) → Span
span_before key = record { from = []; to = key; backward = true; limit = ROWS }

-- the range that has the rows behind this one in the direction: backward those before it, else this
-- one and those behind it
abbrev pub span_beside : Bool → Row → Span
span_beside false row = span_from row.key
span_beside true row = span_before (Some row.key)

-- ---- private calls

-- the place in the walk of that range where the row behind this one stands
abbrev pub place_in_span : Bool → ℕ
place_in_span false = 1
place_in_span true = 0

-- the cursor stands at this place of the page of a range in its map, whose rows fit pages
pub record IsOnPage (list : List BatchContent) (span : Span) (place : ℕ) (before now : RowCursor)
    : Type 0 where
  pub page : IsPage (cursor_map before list) span now.page
  pub fits : (row : Row) → HasRow (cursor_map before list) row →
      row_size row ≤ MAX_KEY + MAX_VALUE + ROW_OVERHEAD
  pub stands : now.place ≡ place
  pub backward : now.is_backward ≡ span.backward
  pub number : now.at ≡ before.at

-- the cursor stands on the row that follows on the page that was read last; or that is not on it,
-- and the cursor stands where it stood
abbrev pub StepsWhereRead : Bool → (before now : RowCursor) → Bool → Type 0
StepsWhereRead backward before now true = StepsAmongRead backward before now
StepsWhereRead backward before now false =
    (now ≡ before) × (HasReadNext backward before → ⊥)
