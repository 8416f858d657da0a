-- The cursor stands on the entry of the next row, from the begin of the walk to its end.
use Rattle.std.proofs.Common.{◌≡◌, ◌⊎◌, ℕ, List, [], ◌∷◌, ◌++◌, inl, inr, refl, sym, ap}
use Rattle.std.proofs.Common.{subst, ◌∙◌, Bool, true, false, Option, Some, None, OnOk, Ok, Err}
use Rattle.std.proofs.Common.{Result, append_assoc, IfSome, arith}
use Rattle.std.specs.Prelude.{IsSome}
use Rattle.byte_fields.specs.Order.{IsBelow}
use Rattle.byte_fields.specs.ByteOrderLemmas.{below_is_strict}
use Rattle.byte_fields.specs.{StoredKey, row_key}
use Rattle.kv_types.specs.{Row}
use Rattle.kv_types.specs.declared.bounds.TheConstants.{MAX_PAGE}
use Rattle.kv_types.specs.Pages.{IsPage, IsRowOf, IsWalk, IsWithin, Map, PrecedesRow}
use Rattle.kv_types.specs.OrderLemmas.{Among, among_from_Contains, among_of_All}
use Rattle.kv_types.specs.OrderLemmas.{Rises, rises_from_AllPairs}
use Rattle.kv_types.specs.SpansLemmas.{row_key-below, row_within, within_row}
use Rattle.kv_types.specs.{Entry, KeepsLimits, Span, stored_span}
use Rattle.merge_iter.specs.declared.CursorError.{CursorError}
use Rattle.merge_iter.specs.declared.Direction.{Direction}
use Rattle.merge_iter.specs.declared.Direction.TheVariants.{Forward, Backward}
use Rattle.merge_iter.specs.Unions.{same_first}
use Rattle.merge_iter.specs.{After, Broken, EntryPrecedes, IfOn, IsAlike, IsFirst, MoveFinds}
use Rattle.merge_iter.specs.{IsBroken, Off, On, Position}
use Rattle.row_pages.specs.Rows.{HasRowsOf, row_entry}
use Rattle.row_pages.specs.Additions.{AddsRowOf, AddsRow}
use Rattle.row_pages.specs.Walking.{HasBegun, KeyIsBefore, ReadsUpTo, StandsAt, StandsWithin}
use Rattle.row_pages.specs.Walking.{way_of}
use Rattle.row_pages.proofs.Orders.{entry_before, key_before, key_cases, key_chain, key_never}

-- ---- rows of a walk

key_of_row : (backward : Bool) (a b : Row) → PrecedesRow backward a b
    → KeyIsBefore (way_of backward) (row_key a.key) (row_key b.key)
key_of_row false a b h = row_key-below a.key b.key h
key_of_row true a b h = row_key-below b.key a.key h

among_left : (row : Row) (rows left : List Row) → Among row left → Among row (rows ++ left)
among_left row [] left a = a
among_left row (x ∷ rows) left a = inr (among_left row rows left a)

among_parts : (row : Row) (rows left : List Row) → Among row (rows ++ left)
    → Among row rows ⊎ Among row left
among_parts row [] left a = inr a
among_parts row (x ∷ rows) left (inl e) = inl (inl e)
among_parts row (x ∷ rows) left (inr a) = elim (among_parts row rows left a) [
  | inl b ↦ inl (inr b)
  | inr b ↦ inr b
]

rises_left : (R : Row → Row → Type 0) (rows left : List Row) → Rises R (rows ++ left)
    → Rises R left
rises_left R [] left r = r
rises_left R (x ∷ rows) left r = rises_left R rows left r.1

rises_between : (R : Row → Row → Type 0) (rows left : List Row) → Rises R (rows ++ left)
    → (x y : Row) → Among x rows → Among y left → R x y
rises_between R [] left r x y a b = absurd a
rises_between R (z ∷ rows) left r x y (inl e) b =
    subst (λ w. R w y) e (r.0 y (among_left y rows left b))
rises_between R (z ∷ rows) left r x y (inr a) b = rises_between R rows left r.1 x y a b

-- ---- the range is convex

within_from : (way : Direction) (range : Span) (low key high : List ℕ) → HasBegun way range key
    → IsWithin range high → (key ≡ high) ⊎ KeyIsBefore way key high → IsWithin range key
within_from way range low key high begun within (inl same) = subst (IsWithin range) (sym same)
    within
within_from Forward range low key high begun within (inr lower) =
    (begun, below_end range.to within.1)
  where
    below_end : (to : Option (List ℕ)) → IfSome to (λ t. IsBelow high t)
        → IfSome to (λ t. IsBelow key t)
    below_end None h = tt
    below_end (Some t) h = below_is_strict.through key high t lower h
within_from Backward range low key high begun within (inr lower) = (
  elim within.0 [
    | inl same ↦ inr (subst (λ k. IsBelow k key) (sym same) lower)
    | inr more ↦ inr (below_is_strict.through range.from high key more lower)
  ],
  begun,
)

-- a key of the range is not before its bound
begun_of : (way : Direction) (range : Span) (key : List ℕ) → IsWithin range key
    → HasBegun way range key
begun_of Forward range key within = within.0
begun_of Backward range key within = within.1

-- nor is one that is met after a key of the range
begun_after : (way : Direction) (range : Span) (low key : List ℕ) → IsWithin range low
    → KeyIsBefore way low key → HasBegun way range key
begun_after Forward range low key within more = elim within.0 [
  | inl same ↦ inr (subst (λ k. IsBelow k key) (sym same) more)
  | inr lower ↦ inr (below_is_strict.through range.from low key lower more)
]
begun_after Backward range low key within more = before_end range.to within.1
  where
    before_end : (to : Option (List ℕ)) → IfSome to (λ t. IsBelow low t)
        → IfSome to (λ t. IsBelow key t)
    before_end None h = tt
    before_end (Some t) h = below_is_strict.through key low t more h

-- ---- the rows of a cursor's entries

module _ (map : Map) (range : Span) (entries : Entry → Type 0) (has : HasRowsOf map range entries)
  where
    abbrev way : Direction
    way = way_of range.backward

    -- the stored keys of rows in the range
    abbrev span : Span
    span = stored_span range

    -- an entry whose key lies in the range is a row
    pub row_of : (e : Entry) → entries e → IsWithin span e.key
        → (row : Row) × (e ≡ row_entry row e.number) × IsRowOf map range row
    row_of e here within = by_value e.value refl (has.put e here)
      where
        by_value : (value : Option (List ℕ)) → e.value ≡ value → IsSome e.value
            → (row : Row) × (e ≡ row_entry row e.number) × IsRowOf map range row
        by_value None is put = absurd cc
        by_value (Some v) is put =
            let key = within_row range e.key within in
            let row : Row = record { key = key.0; value = v } in
            let same : e ≡ row_entry row e.number =
            λ i. record { key = key.1 i; number = e.number; value = is i } in
            (row, same, ((has.rows row key.2).1 (e.number, subst entries same here), key.2))

    module _ (ahead : List ℕ → Type 0) (left : List Row)
        (are_ahead : (row : Row) → Among row left → ahead (row_key row.key))
        (all_left : (row : Row) → IsRowOf map range row → ahead (row_key row.key) → Among row left)
        (convex : (key : StoredKey) (row : Row) → Among row left → ahead key
        → (key ≡ row_key row.key) ⊎ KeyIsBefore way key (row_key row.key) → IsWithin span key)
        (each : (row : Row) → Among row left → IsRowOf map range row)
        (rises : Rises (PrecedesRow range.backward) left) where
      -- the entry of a row that is left
      entry_of_row : (row : Row) → Among row left → (number : ℕ) × entries (row_entry row number)
      entry_of_row row a = let is = each row a in (has.rows row is.1).0 is.0

      none_left : (at : Position) → left ≡ []
          → IsFirst way (λ e. entries e × ahead e.key) at → StandsAt range entries [] at
      none_left (On e) none first = λ within.
          let r = row_of e first.0.0 within in
          let key : e.key ≡ row_key (r.0).key = ap (λ (x : Entry). x.key) r.1 in
          subst (Among r.0) none (all_left r.0 r.2 (subst ahead key first.0.1))
      none_left Off none first = tt
      none_left Broken none first = first

      first_left : (at : Position) (row : Row) (more : List Row) → left ≡ row ∷ more
          → IsFirst way (λ e. entries e × ahead e.key) at → StandsAt range entries (row ∷ more) at
      first_left (On e) row more is first =
          let a : Among row left = subst (Among row) (sym is) (inl refl) in
          let own = entry_of_row row a in
          let not_after : KeyIsBefore way (row_key row.key) e.key → ⊥ = λ h.
          first.1 (row_entry row own.0) (own.1, are_ahead row a)
          (entry_before way (row_entry row own.0) e h)
          in
          let reached : (e.key ≡ row_key row.key) ⊎ KeyIsBefore way e.key (row_key row.key) =
          elim (key_cases way e.key (row_key row.key)) [
            | inl h ↦ inr h
            | inr other ↦ elim other [ inl same ↦ inl same | inr h ↦ absurd (not_after h) ]
          ]
          in
          let r = row_of e first.0.0 (convex e.key row a first.0.1 reached) in
          let key : e.key ≡ row_key (r.0).key = ap (λ (x : Entry). x.key) r.1 in
          let found : (row ≡ r.0) ⊎ Among r.0 more =
          subst (Among r.0) is (all_left r.0 r.2 (subst ahead key first.0.1)) in
          let up : Rises (PrecedesRow range.backward) (row ∷ more) =
          subst (Rises (PrecedesRow range.backward)) is rises in (
            first.0.0,
            elim found [
              | inl same ↦ r.1 ∙ ap (λ x. row_entry x e.number) (sym same)
              | inr b ↦ absurd (not_after (subst (KeyIsBefore way (row_key row.key)) (sym key)
                  (key_of_row range.backward row r.0 (up.0 r.0 b))))
            ],
          )
      first_left Off row more is first =
          let a : Among row left = subst (Among row) (sym is) (inl refl) in
          let own = entry_of_row row a in
          first (row_entry row own.0) (own.1, are_ahead row a)
      first_left Broken row more is first = first

      stands : (at : Position) (rows : List Row) → left ≡ rows
          → IsFirst way (λ e. entries e × ahead e.key) at → StandsAt range entries rows at
      stands at [] is first = none_left at is first
      stands at (row ∷ more) is first = first_left at row more is first

    -- ---- along a walk

    module _ (walk : List Row) (is : IsWalk map range walk) where
      rows_of_walk : (row : Row) → Among row walk → IsRowOf map range row
      rows_of_walk row a = among_of_All (IsRowOf map range) walk row is.each a

      in_span : (row : Row) → Among row walk → IsWithin span (row_key row.key)
      in_span row a = row_within range row.key (rows_of_walk row a).1

      in_walk : (row : Row) → IsRowOf map range row → Among row walk
      in_walk row h = among_from_Contains walk row (is.all row h)

      rises_walk : Rises (PrecedesRow range.backward) walk
      rises_walk = rises_from_AllPairs (PrecedesRow range.backward) walk is.ordered

      -- the first entry of the range is that of the first row
      pub begun : {R : Type 0} (result : Result R CursorError) (x : R) (at : Position)
          → result ≡ Ok x
          → OnOk result (IsFirst way (λ e. entries e × HasBegun way span e.key) at)
          → ReadsUpTo range entries walk [] at
      begun (Err e) x at ok first = absurd cc
      begun (Ok y) x at ok first = record {
        left = walk;
        parts = refl;
        stands = stands (HasBegun way span) walk
            (λ row a. begun_of way span (row_key row.key) (in_span row a))
            (λ row h begun. in_walk row h)
            (λ key row a begun reached.
            within_from way span (row_key row.key) key (row_key row.key) begun (in_span row a)
            reached)
            rows_of_walk rises_walk at walk refl first;
        fits = (omega arith, omega arith);
      }

      -- behind the entry of a row stands that of the next
      next_row : (rows : List Row) (row : Row) (left : List Row) → walk ≡ rows ++ row ∷ left
          → (at : Position)
          → IsFirst way (λ e. entries e × KeyIsBefore way (row_key row.key) e.key) at
          → StandsAt range entries left at
      next_row rows row left parts at first =
          let all : Rises (PrecedesRow range.backward) (rows ++ row ∷ left) =
          subst (Rises (PrecedesRow range.backward)) parts rises_walk in
          let up : Rises (PrecedesRow range.backward) (row ∷ left) =
          rises_left (PrecedesRow range.backward) rows (row ∷ left) all in
          let each : (r : Row) → Among r (row ∷ left) → IsRowOf map range r = λ r a.
          rows_of_walk r (subst (Among r) (sym parts) (among_left r rows (row ∷ left) a)) in
          let within : (r : Row) → Among r (row ∷ left) → IsWithin span (row_key r.key) = λ r a.
          row_within range r.key (each r a).1 in
          let later : (r : Row) → Among r left → KeyIsBefore way (row_key row.key) (row_key r.key) =
          λ r a. key_of_row range.backward row r (up.0 r a) in
          stands (KeyIsBefore way (row_key row.key)) left later
          (λ r h after. elim
          (among_parts r rows (row ∷ left) (subst (Among r) parts (in_walk r h))) [
            | inl a ↦ absurd (key_never way (row_key r.key) (key_chain way (row_key r.key)
                (row_key row.key) (row_key r.key)
                (key_of_row range.backward r row
                (rises_between (PrecedesRow range.backward) rows (row ∷ left) all r row a
                (inl refl)))
                after))
            | inr b ↦ elim b [
              | inl same ↦ absurd (key_never way (row_key r.key)
                  (subst (λ (x : Row). KeyIsBefore way (row_key x.key) (row_key r.key)) same after))
              | inr a ↦ a
            ]
          ])
          (λ key r a after reached. within_from way span (row_key row.key) key (row_key r.key)
          (begun_after way span (row_key row.key) key (within row (inl refl)) after)
          (within r (inr a)) reached)
          (λ r a. each r (inr a)) up.1 at left refl first

      -- the entry on which the cursor stands within the range is that of the next row
      pub record IsNext (rows : List Row) (e : Entry) : Type 0 where
        pub row : Row
        pub more : List Row
        pub parts : walk ≡ rows ++ row ∷ more
        pub here : entries e
        pub of_row : e ≡ row_entry row e.number
        pub fits : KeepsLimits range.limit MAX_PAGE rows

      pub next_of : (rows : List Row) (e : Entry) → IsWithin span e.key
          → ReadsUpTo range entries walk rows (On e) → IsNext rows e
      next_of rows e within r = by_left r.left r.parts r.stands
        where
          by_left : (left : List Row) → walk ≡ rows ++ left → StandsAt range entries left (On e)
              → IsNext rows e
          by_left [] parts beyond = absurd (beyond within)
          by_left (row ∷ more) parts stands = record {
            row = row;
            more = more;
            parts = parts;
            here = stands.0;
            of_row = stands.1;
            fits = r.fits;
          }

      added_row : (rows new : List Row) (added : Bool) (e : Entry) (row : Row)
          → e ≡ row_entry row e.number → AddsRowOf range.limit rows e new added
          → AddsRow range.limit rows row new added
      added_row rows new added e row same adds =
          subst (λ (x : Entry). AddsRowOf range.limit rows x new added) same adds

      -- it is added, and the cursor moves on
      pub steps_on : {R : Type 0} (now : Entry → Type 0) → IsAlike now entries
          → (rows new : List Row) (was at : Position) (result : Result R CursorError) (x : R)
          → StandsWithin range was → IfOn was (λ e. AddsRowOf range.limit rows e new true)
          → result ≡ Ok x → IfOn was (λ e. MoveFinds way (After e) now result at)
          → ReadsUpTo range entries walk rows was → ReadsUpTo range entries walk new at
      steps_on now alike rows new (On e) at (Err y) x within adds ok finds r = absurd cc
      steps_on now alike rows new (On e) at (Ok y) x within adds ok finds r =
          let n = next_of rows e within r in
          let row = n.row in
          let added = added_row rows new true e row n.of_row adds in
          let key : e.key ≡ row_key row.key = ap (λ (z : Entry). z.key) n.of_row in
          let first : IsFirst way (λ p. entries p × KeyIsBefore way (row_key row.key) p.key) at =
          same_first way (λ p. now p × EntryPrecedes way e p)
          (λ p. entries p × KeyIsBefore way (row_key row.key) p.key) at
          (λ p. (
            (λ h. let there = (alike p).0 h.0 in (
              there,
              subst (λ k. KeyIsBefore way k p.key) key
                  (key_before way entries has.single e p n.here there h.1),
            )),
            (λ h. (
              (alike p).1 h.0,
              entry_before way e p
                  (subst (λ k. KeyIsBefore way k p.key) (sym key) h.1),
            )),
          )) finds in
          record {
            left = n.more;
            parts = n.parts ∙ sym (append_assoc rows (row ∷ []) n.more)
                ∙ ap (λ l. l ++ n.more) (sym added.0);
            stands = next_row rows row n.more n.parts at first;
            fits = subst (KeepsLimits range.limit MAX_PAGE) (sym added.0) added.1;
          }
      steps_on now alike rows new Off at result x within adds ok finds r = absurd within
      steps_on now alike rows new Broken at result x within adds ok finds r = absurd within

      -- ---- the page

      -- it would exceed the limits
      pub full_page : (rows new : List Row) (was : Position) → StandsWithin range was
          → IfOn was (λ e. AddsRowOf range.limit rows e new false)
          → ReadsUpTo range entries walk rows was
          → IsPage map range (record { rows = new; more = true })
      full_page rows new (On e) within adds r =
          let n = next_of rows e within r in
          let added = added_row rows new false e n.row n.of_row adds in
          let page : IsPage map range (record { rows = rows; more = true }) = record {
            left = n.row ∷ n.more;
            walk = subst (IsWalk map range) n.parts is;
            fits = n.fits;
            full = added.1;
            more = ((λ t none. absurd cc), (λ h. refl));
          } in
          subst (λ l. IsPage map range (record { rows = l; more = true })) (sym added.0) page
      full_page rows new Off within adds r = absurd within
      full_page rows new Broken within adds r = absurd within

      -- no entry is left in the range
      pub last_page : (rows : List Row) (was : Position) → (StandsWithin range was → ⊥)
          → ReadsUpTo range entries walk rows was
          → IsPage map range (record { rows = rows; more = false })
      last_page rows was beyond r = by_left r.left was beyond r.parts r.stands
        where
          by_left : (left : List Row) (at : Position) → (StandsWithin range at → ⊥)
              → walk ≡ rows ++ left → StandsAt range entries left at
              → IsPage map range (record { rows = rows; more = false })
          by_left [] at beyond parts stands = record {
            left = [];
            walk = subst (IsWalk map range) parts is;
            fits = r.fits;
            full = tt;
            more = ((λ t. absurd cc), (λ h. absurd (h refl)));
          }
          by_left (row ∷ more) (On e) beyond parts stands =
              let a : Among row walk = subst (Among row) (sym parts)
              (among_left row rows (row ∷ more) (inl refl)) in
              let key : e.key ≡ row_key row.key = ap (λ (z : Entry). z.key) stands.1 in
              absurd (beyond (subst (IsWithin span) (sym key) (in_span row a)))
          by_left (row ∷ more) Off beyond parts stands = absurd stands
          by_left (row ∷ more) Broken beyond parts stands = absurd stands

-- a cursor that stands within the range is not broken
pub unbroken : (range : Span) (at : Position) → StandsWithin range at → IsBroken at → ⊥
unbroken range (On e) within broken = broken
unbroken range Off within broken = broken
unbroken range Broken within broken = within
