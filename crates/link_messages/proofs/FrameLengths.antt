-- How long a frame is: each keeps the limit.
use Rattle.std.proofs.Common.{◌≡◌, ℕ, ◌+◌, ◌*◌, ◌≤◌, Bool, true, false, List, [], ◌∷◌, ◌++◌, length}
use Rattle.std.proofs.Common.{Option, Some, None, IfSome, refl, ap, ◌∙◌, arith}
use Rattle.std.specs.List.{flat_map, sum_by}
use Rattle.std.proofs.lemmas.List.{length-append}
use Rattle.std.proofs.lemmas.List.Concat.{flat_map-cons}
use Rattle.std.proofs.lemmas.List.Sums.{sum_by-cons}
use Rattle.byte_fields.specs.declared.stored_key.TheConstants.{MAX_KEY}
use Rattle.kv_types.specs.{Row, row_size, Span, Rows}
use Rattle.byte_fields.specs.{text_bytes}
use Rattle.kv_types.specs.declared.bounds.TheConstants.{MAX_VALUE, MAX_PAGE}
use Rattle.link_messages.specs.declared.frame.Frame.TheVariants as frame
use Rattle.link_messages.specs.Spelling.{u16, u32, row_text}
use Rattle.link_messages.specs.Spelling.{truth, optional, at_text, range_text, page_text, IsRange}
use Rattle.link_messages.specs.Spelling.{IsSmall}
use Rattle.link_messages.specs.Stream.{FramesFit}

rows_length : (rows : List Row) → length (flat_map row_text rows) ≡ sum_by row_size rows
rows_length [] = refl
rows_length (row ∷ rows) =
    ap length (flat_map-cons row_text row rows)
    ∙ length-append (row_text row) (flat_map row_text rows)
    ∙ rw (rows_length rows, sum_by-cons row_size row rows)
    (omega (arith, length-append row.key (text_bytes row.value)))

ids_length : (ids : List ℕ) → length (flat_map u16 ids) ≡ 2 * length ids
ids_length [] = refl
ids_length (id ∷ ids) = ap length (flat_map-cons u16 id ids) ∙ omega (arith, ids_length ids)

at_length : (at : Option ℕ) → length (at_text at) ≤ 9
at_length None = omega arith
at_length (Some n) = omega arith

optional_length : (limit : ℕ) (o : Option (List ℕ)) → IfSome o (λ t. length t ≤ limit)
    → length (optional text_bytes o) ≤ 3 + limit
optional_length limit None is = omega arith
optional_length limit (Some t) is = omega (arith, is)

truth_length : (b : Bool) → length (truth b) ≡ 1
truth_length true = refl
truth_length false = refl

range_length : (range : Span) → IsRange range → length (range_text range) ≤ 2060
range_length range is =
    let way = truth range.backward ++ u32 range.limit in
    omega (
      arith,
      is.from,
      optional_length MAX_KEY range.to is.to,
      truth_length range.backward,
      length-append range.from (optional text_bytes range.to ++ way),
      length-append (optional text_bytes range.to) way,
      length-append (truth range.backward) (u32 range.limit),
    )

page_length : (page : Rows) → IsSmall page → length (page_text page) ≤ 3 + MAX_PAGE
page_length page is =
    omega (
      arith,
      is.limits.1,
      rows_length page.rows,
      truth_length page.more,
      length-append (truth page.more) (u16 (length page.rows) ++ flat_map row_text page.rows),
    )

pub frames_fit : FramesFit
frames_fit (frame.Forward epoch from number batch) is = omega (arith, is.3.short)
frames_fit (frame.Ack epoch from committed have) is = omega arith
frames_fit (frame.Notice epoch config) is = omega (arith, is.1.few, ids_length config)
frames_fit (frame.Submit request batch) is = omega (arith, is.1.short)
frames_fit (frame.Get request at key) is =
    omega (arith, is.2, at_length at, length-append (at_text at) (text_bytes key))
frames_fit (frame.Rows request at range) is =
    omega (
      arith,
      range_length range is.2,
      at_length at,
      length-append (at_text at)
          (range_text range),
    )
frames_fit (frame.Open request at) is = omega (arith, at_length at)
frames_fit (frame.Close request number) is = omega arith
frames_fit (frame.Committed request number) is = omega arith
frames_fit (frame.Value request number value) is =
    omega (arith, optional_length MAX_VALUE value is.2)
frames_fit (frame.RowsAre request number page) is = omega (arith, page_length page is.2)
frames_fit (frame.Opened request number) is = omega arith
frames_fit (frame.Refused request refusal) is = omega arith
frames_fit (frame.Closed request number) is = omega arith
