-- Where a cursor stands behind a read of rows.
use Rattle.std.proofs.Common.{◌≡◌, ◌≤◌, ◌+◌, ◌⊎◌, inl, inr, ℕ, suc, Bool, true, false, List, []}
use Rattle.std.proofs.Common.{◌∷◌, ◌++◌, ◌∙◌, length, Option, Some, None, arith, refl, sym, subst}
use Rattle.std.specs.List.{All, slice_get}
use Rattle.std.specs.Prelude.{Result, Ok, Err, IfOk}
use Rattle.byte_fields.specs.declared.stored_key.TheConstants.{MAX_KEY}
use Rattle.byte_fields.specs.Order.{IsBelow}
use Rattle.byte_fields.specs.ByteOrderLemmas.{below_is_strict}
use Rattle.kv_types.specs.{Row}
use Rattle.std.proofs.lemmas.List.Elements.{Contains-append_cases}
use Rattle.kv_types.specs.Content.{edits_of}
use Rattle.kv_types.specs.Maps.{MapsAgree, joined}
use Rattle.kv_types.specs.Spelling.{IsEdit}
use Rattle.kv_types.specs.declared.edit.Edit.{Edit}
use Rattle.kv_types.specs.declared.edit.Edit.TheVariants.{Put}
use Rattle.kv_types.specs.{BatchContent, IsBatch, Span, map_of, row_size}
use Rattle.kv_types.specs.declared.bounds.TheConstants.{MAX_VALUE, ROW_OVERHEAD}
use Rattle.kv_types.specs.OrderLemmas.{Among, Contains-among, among_from_Contains, among_of_All}
use Rattle.kv_types.specs.Pages.{IsRowOf, IsWithin, Map, PrecedesRow}
use Rattle.disk.specs.declared.Disk.{Ghosts}
use Rattle.engine.specs.EngineError.{EngineError}
use Rattle.embedded_store.specs.Cursors.{AreNeighbours, CursorIsOf, FindsRow, HasRow, IsAnyRow}
use Rattle.embedded_store.specs.Cursors.{HasReadNext, IsAtOrBehind, IsOnPage, MovesRowCursor}
use Rattle.embedded_store.specs.Cursors.{NeedsNoRead, ReadsUnless}
use Rattle.embedded_store.specs.Cursors.{StepsRow, cursor_map, cursor_number, cursor_row}
use Rattle.embedded_store.specs.Cursors.{place_in_span, span_before, span_beside, span_from}
use Rattle.embedded_store.specs.Stores.{first_batches}
use Rattle.embedded_store.specs.declared.cursor.RowCursor.{RowCursor}
use Rattle.embedded_store.specs.declared.store.EmbeddedStore.{EmbeddedStore}
use Rattle.embedded_store.proofs.PageRows.{are_neighbours, few_are_all, found_first, found_second}

-- ---- rows fit pages

-- each edit of batches is within its limits
all_edits : (list : List BatchContent) → All IsBatch list → (edit : Edit) →
    Among edit (joined list) → IsEdit edit
all_edits [] each edit among = absurd among
all_edits (batch ∷ list) each edit among =
    let edits = edits_of batch in
    let first = (among_of_All IsBatch (batch ∷ list) batch each (inl refl)).each in
    elim (Contains-append_cases edits (joined list) edit
    (Contains-among (edits ++ joined list) edit among)) [
      | inl here ↦ among_of_All IsEdit edits edit first (among_from_Contains edits edit here)
      | inr later ↦ all_edits list (λ k d short. each (suc k) d (omega (arith, short))) edit
          (among_from_Contains (joined list) edit later)
    ]

-- an edit stands between those before it and those after it
among_middle : (before after : List Edit) (edit : Edit) → Among edit (before ++ edit ∷ after)
among_middle [] after edit = inl refl
among_middle (first ∷ before) after edit = inr (among_middle before after edit)

-- a row of a map of batches is within the limits of a key and a value
pub rows_fit : MapsAgree → (list : List BatchContent) → All IsBatch list → (row : Row) →
    HasRow (map_of list) row → row_size row ≤ MAX_KEY + MAX_VALUE + ROW_OVERHEAD
rows_fit agree list each row has =
    let last = (agree list row.key row.value).0 has in
    let put : Edit = Put row.key row.value in
    let among : Among put (joined list) =
    subst (Among put) (sym last.parts) (among_middle last.before last.after put) in
    let is : IsEdit put = all_edits list each put among in
    omega (arith, is.0, is.1)

-- ---- a cursor on a page

-- the first of the rows that are so is the first of those that are so in other words
finds_as : (backward : Bool) (map : Map) (P Q : Row → Type 0) → ((row : Row) → P row → Q row) →
    ((row : Row) → Q row → P row) → (found : Option Row) → FindsRow backward map P found →
    FindsRow backward map Q found
finds_as backward map P Q on back None none = λ row has is. none row has (back row is)
finds_as backward map P Q on back (Some row) is = record {
  has = is.has;
  so = on row is.so;
  first = λ other has so. is.first other has (back other so);
}

-- no key is below that without bytes
pub least_key : (key : List ℕ) → ([] ≡ key) ⊎ IsBelow [] key
least_key [] = inl refl
least_key (byte ∷ key) = inr tt

-- all behind a row that is from a key on are from it on
ahead_from : (key : List ℕ) (a b : Row) → IsWithin (span_from key) a.key → PrecedesRow false a b →
    IsWithin (span_from key) b.key
ahead_from key a b (inl same, _) lower =
    (inr (subst (λ (k : List ℕ). IsBelow k b.key) (sym same) lower), tt)
ahead_from key a b (inr below, _) lower =
    (inr (below_is_strict.through key a.key b.key below lower), tt)

-- nothing from a key on is below it
never_from : (key other : List ℕ) → (key ≡ other) ⊎ IsBelow key other → IsBelow other key → ⊥
never_from key other (inl same) lower =
    below_is_strict.never key (subst (λ (k : List ℕ). IsBelow k key) (sym same) lower)
never_from key other (inr above) lower =
    below_is_strict.never key (below_is_strict.through key other key above lower)

-- all before a row that is before a key are before it
ahead_before : (key : Option (List ℕ)) (a b : Row) → IsWithin (span_before key) a.key →
    PrecedesRow true a b → IsWithin (span_before key) b.key
ahead_before None a b within lower = (least_key b.key, tt)
ahead_before (Some key) a b within lower =
    (least_key b.key, below_is_strict.through b.key a.key key lower within.1)

-- what a cursor has read on a page of its range is of its map
on_page : (list : List BatchContent) (span : Span) (place : ℕ) (before now : RowCursor) →
    ((a b : Row) → IsWithin span a.key → PrecedesRow span.backward a b → IsWithin span b.key) →
    IsOnPage list span place before now → CursorIsOf list now
on_page list span place before now ahead is =
    let rows = now.page.rows in
    let are = are_neighbours (cursor_map before list) span rows is.page.left is.page.walk ahead in
    subst (λ (b : Bool). AreNeighbours b (cursor_map now list) rows) (sym is.backward)
    (subst (λ (n : ℕ). AreNeighbours span.backward (map_of (first_batches (Some n) list)) rows)
    (sym is.number) are)

-- the page has all rows where it has at most one
few_of : (list : List BatchContent) (span : Span) (place : ℕ) (before now : RowCursor) →
    2 ≤ span.limit → (is : IsOnPage list span place before now) →
    length now.page.rows ≤ 1 → is.page.left ≡ []
few_of list span place before now more is few =
    few_are_all span now.page.rows is.page.left more few
    (λ row among. is.fits row (among_of_All (IsRowOf (cursor_map before list) span)
    (now.page.rows ++ is.page.left) row is.page.walk.each among).0) is.page.full

-- the row on which it stands
on_row : (list : List BatchContent) (span : Span) (place : ℕ) (before now : RowCursor)
    (P : Option Row → Type 0) → IsOnPage list span place before now →
    P (slice_get now.page.rows place) → P (cursor_row now)
on_row list span place before now P is found =
    subst (λ (n : ℕ). P (slice_get now.page.rows n)) (sym is.stands) found

-- ---- moves

-- the rows from a key on
pub from_found : (list : List BatchContent) (span : Span) (before now : RowCursor)
    (key : List ℕ) → span ≡ span_from key → IsOnPage list span 0 before now →
    CursorIsOf list now
    × FindsRow false (cursor_map before list) (IsAtOrBehind key) (cursor_row now)
from_found list span before now key same on =
    let is = subst (λ (s : Span). IsOnPage list s 0 before now) same on in
    let map = cursor_map before list in
    let first = found_first map (span_from key) now.page.rows is.page.left is.page.walk
    (few_of list (span_from key) 0 before now (omega arith) is) in (
      on_page list (span_from key) 0 before now (ahead_from key) is,
      on_row list (span_from key) 0 before now (FindsRow false map (IsAtOrBehind key)) is
          (finds_as false map (λ row. IsWithin (span_from key) row.key) (IsAtOrBehind key)
          (λ row within. within.0) (λ row so. (so, tt)) (slice_get now.page.rows 0) first),
    )

-- the rows back from the last one
pub last_found : (list : List BatchContent) (span : Span) (before now : RowCursor) →
    span ≡ span_before None → IsOnPage list span 0 before now →
    CursorIsOf list now × FindsRow true (cursor_map before list) IsAnyRow (cursor_row now)
last_found list span before now same on =
    let is = subst (λ (s : Span). IsOnPage list s 0 before now) same on in
    let map = cursor_map before list in
    let first = found_first map (span_before None) now.page.rows is.page.left is.page.walk
    (few_of list (span_before None) 0 before now (omega arith) is) in (
      on_page list (span_before None) 0 before now (ahead_before None) is,
      on_row list (span_before None) 0 before now (FindsRow true map IsAnyRow) is
          (finds_as true map (λ row. IsWithin (span_before None) row.key) IsAnyRow
          (λ row within. tt) (λ row so. (least_key row.key, tt)) (slice_get now.page.rows 0) first),
    )

-- the row behind another
pub step_found : (backward : Bool) (list : List BatchContent) (span : Span) (place : ℕ)
    (before now : RowCursor) (row : Row) → span ≡ span_beside backward row →
    place ≡ place_in_span backward → HasRow (cursor_map before list) row →
    IsOnPage list span place before now → CursorIsOf list now
    × FindsRow backward (cursor_map before list) (PrecedesRow backward row) (cursor_row now)
step_found false list span place before now row same there has on =
    let is = subst (λ (n : ℕ). IsOnPage list (span_from row.key) n before now) there
    (subst (λ (s : Span). IsOnPage list s place before now) same on) in
    let map = cursor_map before list in
    let second = found_second map (span_from row.key) now.page.rows is.page.left is.page.walk
    (few_of list (span_from row.key) 1 before now (omega arith) is) row has (inl refl, tt)
    (λ other within lower. never_from row.key other.key within.0 lower) (ahead_from row.key) in (
      on_page list (span_from row.key) 1 before now (ahead_from row.key) is,
      on_row list (span_from row.key) 1 before now (FindsRow false map (PrecedesRow false row)) is
          second,
    )
step_found true list span place before now row same there has on =
    let is = subst (λ (n : ℕ). IsOnPage list (span_before (Some row.key)) n before now) there
    (subst (λ (s : Span). IsOnPage list s place before now) same on) in
    let map = cursor_map before list in
    let span' = span_before (Some row.key) in
    let first = found_first map span' now.page.rows is.page.left is.page.walk
    (few_of list span' 0 before now (omega arith) is) in (
      on_page list span' 0 before now (ahead_before (Some row.key)) is,
      on_row list span' 0 before now (FindsRow true map (PrecedesRow true row)) is
          (finds_as true map (λ other. IsWithin span' other.key) (PrecedesRow true row)
          (λ other within. within.1) (λ other so. (least_key other.key, so))
          (slice_get now.page.rows 0) first),
    )

-- a step from the row on which the cursor stood, where what it had read is of its map
pub steps_found : (backward : Bool) (list : List BatchContent) (span : Span) (place : ℕ)
    (before now : RowCursor) (row : Row) → cursor_row before ≡ Some row →
    span ≡ span_beside backward row → place ≡ place_in_span backward → CursorIsOf list before →
    IsOnPage list span place before now → CursorIsOf list now
    × StepsRow backward (cursor_map before list) (cursor_row before) (cursor_row now)
steps_found backward list span place before now row at same there are on =
    let found = step_found backward list span place before now row same there
    (are.each before.place row at) on in (
      found.0,
      subst (λ (a : Option Row). StepsRow backward (cursor_map before list) a (cursor_row now))
          (sym at) found.1,
    )

-- a cursor on a row needs a read, where the row that follows is not among those that were read
pub needs_read : (backward : Bool) (cursor : RowCursor) (row : Row) →
    cursor_row cursor ≡ Some row → (HasReadNext backward cursor → ⊥) →
    NeedsNoRead backward cursor → ⊥
needs_read backward cursor row at none (inl off) = let both = sym at ∙ off in cc
needs_read backward cursor row at none (inr there) = none there

-- what follows from an answer's promise is so of the answer
pub if_ok : {T E : Type 0} {P Q : Type 0} (result : Result T E) → (P → Q) → IfOk result (λ _. P) →
    IfOk result (λ _. Q)
if_ok (Ok answer) so is = so is
if_ok (Err e) so is = tt

-- the first row at or behind the key without bytes is the first of all
pub first_found : (list : List BatchContent) (before now : RowCursor) (key : List ℕ) → key ≡ [] →
    CursorIsOf list now
    × FindsRow false (cursor_map before list) (IsAtOrBehind key) (cursor_row now)
    → CursorIsOf list now × FindsRow false (cursor_map before list) IsAnyRow (cursor_row now)
first_found list before now key none found = (
  found.0,
  finds_as false (cursor_map before list) (IsAtOrBehind key) IsAnyRow (λ row so. tt)
      (λ row so. subst (λ (k : List ℕ). IsAtOrBehind k row) (sym none) (least_key row.key))
      (cursor_row now) found.1,
)

-- ---- what moves promise

-- rows were read at a number, or the answer is another one too
reads_more : {D : Type 0} {g : Ghosts D} (unread : Type 0) (at : ℕ) (old new : EmbeddedStore D g)
    (result : Result (Unit {0}) EngineError) → ReadsUnless g ⊥ at old new result →
    ReadsUnless g unread at old new result
reads_more unread at old new result (inr rows) = inr rows
reads_more unread at old new (Ok x) (inl none) = absurd none.1
reads_more unread at old new (Err e) (inl none) = inl none

-- a move that answers behind a read alone is one that may answer without
pub moves_more : {D : Type 0} {g : Ghosts D} (unread : Type 0) (old new : EmbeddedStore D g)
    (before now : RowCursor) (result : Result (Unit {0}) EngineError) →
    MovesRowCursor g old new before now ⊥ result →
    MovesRowCursor g old new before now unread result
moves_more unread old new before now result moves = record {
  reads = reads_more unread (cursor_number before) old new result moves.reads;
  number = moves.number;
  kept = moves.kept;
  refused = moves.refused;
}
