-- The walk over all rows of a store, page after page, and a seek of one.
use Rattle.std.specs.Prelude.{◌≡◌, ℕ, ◌-◌, ◌==◌, List, [], ◌∷◌, ◌++◌, length, slice_get}
use Rattle.std.specs.Prelude.{Bool, true, false, IsSomeAnd, Option, Some, None, if◌then◌else◌}
use Rattle.std.specs.Option.{option_map_or}
use Rattle.byte_fields.specs.declared.stored_key.TheConstants.{MAX_KEY}
use Rattle.kv_types.specs.{Row, Rows, Span}
use Rattle.benchmarks.specs.declared.count.Count.{Count}
use Rattle.benchmarks.specs.Counts.{with_found, with_operations, with_page}

-- all keys, for the first page of a walk
abbrev pub first_range : Bool → Span
first_range backward = record { from = []; to = None; backward = backward; limit = 1024 }

-- the keys from this one on, for one row
abbrev pub seek_range : List ℕ → Span
seek_range key = record { from = key; to = None; backward = false; limit = 1 }

-- The keys that a walk has left behind this one: those below it in a walk backward, else those
-- above it, of which the least has one byte more, 0.
abbrev pub range_behind : Bool → List ℕ → Span
range_behind true key = record { from = []; to = Some key; backward = true; limit = 1024 }
range_behind false key =
    record { from = key ++ 0 ∷ []; to = None; backward = false; limit = 1024 }

-- the last of the rows, if there is one
abbrev pub last_row : List Row → Option Row
last_row rows = slice_get rows (length rows - 1)

-- the range behind the rows: the same where there is none
abbrev pub range_left : Span → List Row → Span
range_left range rows =
    option_map_or (λ row. range_behind range.backward row.key) (last_row rows) range

-- the range behind a page: that of a seek stays, and that of a walk where no row is left
abbrev pub range_passed : Span → Rows → Span
range_passed range page =
    if range.limit == 1 then range else
    if page.more then range_left range page.rows else range

-- a walk can't go on above the last row, whose key and a byte more are no key
abbrev pub NoneFits : List Row → Type 0
NoneFits rows = IsSomeAnd (last_row rows) (λ row. length row.key ≡ MAX_KEY)

-- a walk forward is to go on behind a page, and can't
abbrev pub NoneBehind : Span → Rows → Type 0
NoneBehind range page = ((range.limit == 1) ≡ false) × (range.backward ≡ false)
    × (page.more ≡ true) × NoneFits page.rows

-- a walk ends where no more rows follow
abbrev pub with_end : Bool → Count → Count
with_end true count = count
with_end false count = record count { ended = true }

-- What a page counts. A seek is an operation, and finds its row where that has the key. Of a walk
-- each row is an operation, and a page behind which no row is left ends it.
abbrev pub with_passed : Count → Span → Rows → Count
with_passed count range page =
    if range.limit == 1 then with_found (with_operations count 1) page.rows range.from else
    with_end page.more (with_page count page)
