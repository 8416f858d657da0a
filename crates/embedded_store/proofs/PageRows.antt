-- The rows of a page, in the order of their map, and the steps among them.
use Rattle.std.proofs.Common.{◌≡◌, ◌<◌, ◌≤◌, ◌+◌, ◌⊎◌, inl, inr, ℕ, zero, suc, Bool, true, false}
use Rattle.std.proofs.Common.{List, [], ◌∷◌, ◌++◌, length, Option, Some, None, arith, refl, sym}
use Rattle.std.proofs.Common.{subst, ◌∙◌, ap}
use Rattle.std.specs.List.{slice_get}
use Rattle.std.specs.Prelude.{IsSome}
use Rattle.std.proofs.lemmas.Option.{slice_get_cases}
use Rattle.byte_fields.specs.declared.stored_key.TheConstants.{MAX_KEY}
use Rattle.byte_fields.specs.Order.{IsBelow}
use Rattle.byte_fields.specs.ByteOrderLemmas.{below_is_strict}
use Rattle.kv_types.specs.{Row, Span, row_size}
use Rattle.kv_types.specs.declared.bounds.TheConstants.{MAX_PAGE, MAX_VALUE, ROW_OVERHEAD}
use Rattle.kv_types.specs.OrderLemmas.{Among, Rises, among_from_Contains, among_of_All}
use Rattle.kv_types.specs.OrderLemmas.{rises_from_AllPairs}
use Rattle.kv_types.specs.Pages.{IsFull, IsRowOf, IsWalk, IsWithin, Map, PrecedesRow}
use Rattle.embedded_store.specs.Cursors.{AreNeighbours, FindsRow, HasRow, IsFirstRow, StepsRow}

-- ---- the order of rows

-- no row precedes itself
pub never_before : (backward : Bool) (row : Row) → PrecedesRow backward row row → ⊥
never_before false row is = below_is_strict.never row.key is
never_before true row is = below_is_strict.never row.key is

-- what precedes a row precedes all that it precedes
pub before_through : (backward : Bool) (a b c : Row) → PrecedesRow backward a b →
    PrecedesRow backward b c → PrecedesRow backward a c
before_through false a b c first later = below_is_strict.through a.key b.key c.key first later
before_through true a b c first later = below_is_strict.through c.key b.key a.key later first

-- the row of this key and this value
abbrev pub row_of : List ℕ → List ℕ → Row
row_of key value = record { key = key; value = value }

-- of two rows of a map one precedes the other, or they are the same
pub rows_total : (backward : Bool) (map : Map) (a b : Row) → HasRow map a → HasRow map b →
    (a ≡ b) ⊎ (PrecedesRow backward a b ⊎ PrecedesRow backward b a)
rows_total backward map a b has has' = elim (below_is_strict.total a.key b.key) [
  | inl below ↦ inr (of_below backward below)
  | inr (inl same) ↦ inl (same_row same)
  | inr (inr below) ↦ inr (of_above backward below)
]
  where
    of_below : (backward : Bool) → IsBelow a.key b.key →
        PrecedesRow backward a b ⊎ PrecedesRow backward b a
    of_below false below = inl below
    of_below true below = inr below

    of_above : (backward : Bool) → IsBelow b.key a.key →
        PrecedesRow backward a b ⊎ PrecedesRow backward b a
    of_above false below = inr below
    of_above true below = inl below

    same_row : a.key ≡ b.key → a ≡ b
    same_row same =
        let both : Some a.value ≡ Some b.value = sym has ∙ (ap map same ∙ has') in
        let value : a.value ≡ b.value = cc both in
        ap (λ (k : List ℕ). row_of k a.value) same ∙ ap (row_of b.key) value

-- ---- places of a list

-- what stands at a place is one of the list
pub among_place : {X : Type 0} (xs : List X) (n : ℕ) (x : X) → slice_get xs n ≡ Some x → Among x xs
among_place [] n x is = absurd (let no : None ≡ Some x = is in cc)
among_place (y ∷ ys) zero x is = inl (let same : Some y ≡ Some x = is in cc)
among_place (y ∷ ys) (suc n) x is = inr (among_place ys n x is)

-- it stands there too where more follows
pub place_in_front : {X : Type 0} (xs ys : List X) (n : ℕ) (x : X) → slice_get xs n ≡ Some x →
    slice_get (xs ++ ys) n ≡ Some x
place_in_front [] ys n x is = absurd (let no : None ≡ Some x = is in cc)
place_in_front (y ∷ xs) ys zero x is = is
place_in_front (y ∷ xs) ys (suc n) x is = place_in_front xs ys n x is

-- of a list that rises the second of two neighbours is behind the first
pub next_is_behind : {X : Type 0} (R : X → X → Type 0) (xs : List X) → Rises R xs → (n : ℕ)
    (x y : X) → slice_get xs n ≡ Some x → slice_get xs (suc n) ≡ Some y → R x y
next_is_behind R [] rises n x y at then = absurd (let no : None ≡ Some x = at in cc)
next_is_behind R (z ∷ zs) rises zero x y at then =
    let same : z ≡ x = (let is : Some z ≡ Some x = at in cc) in
    subst (λ w. R w y) same (rises.0 y (among_place zs 0 y then))
next_is_behind R (z ∷ zs) rises (suc n) x y at then = next_is_behind R zs rises.1 n x y at then

-- and no other stands between them
pub none_between : {X : Type 0} (R : X → X → Type 0) → ((x : X) → R x x → ⊥) →
    ((x y z : X) → R x y → R y z → R x z) → (xs : List X) → Rises R xs → (n : ℕ) (x y other : X) →
    slice_get xs n ≡ Some x → slice_get xs (suc n) ≡ Some y → Among other xs → R x other →
    (other ≡ y) ⊎ R y other
none_between R never through [] rises n x y other at then among behind = absurd among
none_between R never through (z ∷ []) rises zero x y other at then one behind =
    absurd (let no : None ≡ Some y = then in cc)
none_between R never through (z ∷ w ∷ zs) rises zero x y other at then (inl is) behind =
    let same : z ≡ x = (let it : Some z ≡ Some x = at in cc) in
    absurd (never x (subst (R x) (sym is ∙ same) behind))
none_between R never through (z ∷ w ∷ zs) rises zero x y other at then (inr (inl is)) behind =
    let same : w ≡ y = (let it : Some w ≡ Some y = then in cc) in
    inl (sym is ∙ same)
none_between R never through (z ∷ w ∷ zs) rises zero x y other at then (inr (inr one)) behind =
    let same : w ≡ y = (let it : Some w ≡ Some y = then in cc) in
    inr (subst (λ v. R v other) same (rises.1.0 other one))
none_between R never through (z ∷ zs) rises (suc n) x y other at then (inl is) behind =
    absurd (never x (through x z x (subst (R x) (sym is) behind)
    (rises.0 x (among_place zs n x at))))
none_between R never through (z ∷ zs) rises (suc n) x y other at then (inr one) behind =
    none_between R never through zs rises.1 n x y other at then one behind

-- something stands at each place of it
pub is_place : {X : Type 0} (xs : List X) (n : ℕ) → n < length xs → IsSome (slice_get xs n)
is_place [] n inside = absurd (omega (arith, inside))
is_place (x ∷ xs) zero inside = refl
is_place (x ∷ xs) (suc n) inside = is_place xs n (omega (arith, inside))

-- ---- pages

-- a page of at most one row, of a range for more, has all rows
pub few_are_all : (span : Span) (rows left : List Row) → 2 ≤ span.limit → length rows ≤ 1 →
    ((row : Row) → Among row (rows ++ left) → row_size row ≤ MAX_KEY + MAX_VALUE + ROW_OVERHEAD) →
    IsFull span.limit MAX_PAGE rows left → left ≡ []
few_are_all span rows [] more few fits full = refl
few_are_all span [] (row ∷ left) more few fits full =
    let small = fits row (inl refl) in
    absurd (full (omega (arith, more), omega (arith, small)))
few_are_all span (first ∷ []) (row ∷ left) more few fits full =
    let small = fits first (inl refl) in
    let small' = fits row (inr (inl refl)) in
    absurd (full (omega (arith, more), omega (arith, small, small')))
few_are_all span (first ∷ second ∷ rows) (row ∷ left) more few fits full =
    absurd (omega (arith, few))

module _ (map : Map) (span : Span) (rows left : List Row) (walk : IsWalk map span (rows ++ left))
  where
    -- a row of the page is one of the map, in the range
    row_is : (n : ℕ) (row : Row) → slice_get rows n ≡ Some row → IsRowOf map span row
    row_is n row at =
        among_of_All (IsRowOf map span) (rows ++ left) row walk.each
        (among_place (rows ++ left) n row (place_in_front rows left n row at))

    -- its rows are neighbours, where all that follow one are in the range
    pub are_neighbours : ((row other : Row) → IsWithin span row.key →
        PrecedesRow span.backward row other → IsWithin span other.key) →
        AreNeighbours span.backward map rows
    are_neighbours ahead = record {
      each = λ n row at. (row_is n row at).0;
      next = λ n row next at then. record {
        has = (row_is (suc n) next then).0;
        so = next_is_behind (PrecedesRow span.backward) (rows ++ left) rises n row next
            (place_in_front rows left n row at) (place_in_front rows left (suc n) next then);
        first = λ other has behind.
            none_between (PrecedesRow span.backward) (never_before span.backward)
            (before_through span.backward) (rows ++ left) rises n row next other
            (place_in_front rows left n row at) (place_in_front rows left (suc n) next then)
            (among_from_Contains (rows ++ left) other
            (walk.all other (has, ahead row other (row_is n row at).1 behind))) behind;
      };
    }
      where
        rises : Rises (PrecedesRow span.backward) (rows ++ left)
        rises = rises_from_AllPairs (PrecedesRow span.backward) (rows ++ left) walk.ordered

-- the first row of a page is the first of its range
pub found_first : (map : Map) (span : Span) (rows left : List Row) →
    IsWalk map span (rows ++ left) → (length rows ≤ 1 → left ≡ []) →
    FindsRow span.backward map (λ row. IsWithin span row.key) (slice_get rows 0)
found_first map span [] left walk few = λ row has within.
    let there = among_from_Contains left row (walk.all row (has, within)) in
    subst (Among row) (few (omega arith)) there
found_first map span (top ∷ rows) left walk few = record {
  has = (row_is map span (top ∷ rows) left walk 0 top refl).0;
  so = (row_is map span (top ∷ rows) left walk 0 top refl).1;
  first = λ other has within.
      elim (among_from_Contains (top ∷ rows ++ left) other (walk.all other (has, within))) [
        | inl is ↦ inl (sym is)
        | inr one ↦ inr ((rises_from_AllPairs (PrecedesRow span.backward) (top ∷ rows ++ left)
            walk.ordered).0 other one)
      ];
}

-- the least row of a range that the map has is the first of its page
begins : (map : Map) (span : Span) (top : Row) (rest left : List Row) →
    IsWalk map span (top ∷ rest ++ left) → (row : Row) → HasRow map row → IsWithin span row.key →
    ((other : Row) → IsWithin span other.key → PrecedesRow span.backward other row → ⊥) → top ≡ row
begins map span top rest left walk row has within least =
    elim (among_from_Contains (top ∷ rest ++ left) row (walk.all row (has, within))) [
      | inl is ↦ is
      | inr one ↦ absurd (least top (row_is map span (top ∷ rest) left walk 0 top refl).1
          ((rises_from_AllPairs (PrecedesRow span.backward) (top ∷ rest ++ left)
          walk.ordered).0 row one))
    ]

-- of a page that begins with a row of the map, the second row is the one behind that
pub found_second : (map : Map) (span : Span) (rows left : List Row) →
    IsWalk map span (rows ++ left) → (length rows ≤ 1 → left ≡ []) → (row : Row) → HasRow map row →
    IsWithin span row.key →
    ((other : Row) → IsWithin span other.key → PrecedesRow span.backward other row → ⊥) →
    ((a b : Row) → IsWithin span a.key → PrecedesRow span.backward a b → IsWithin span b.key) →
    FindsRow span.backward map (PrecedesRow span.backward row) (slice_get rows 1)
found_second map span [] left walk few row has within least ahead =
    let there = among_from_Contains left row (walk.all row (has, within)) in
    absurd (subst (Among row) (few (omega arith)) there)
found_second map span (top ∷ []) left walk few row has within least ahead = λ other is behind.
    let all = among_from_Contains (top ∷ left) other
    (walk.all other (is, ahead row other within behind)) in
    elim all [
      | inl same ↦ never_before span.backward row
          (subst (PrecedesRow span.backward row)
          (sym same ∙ begins map span top [] left walk row has within least) behind)
      | inr one ↦ subst (Among other) (few (omega arith)) one
    ]
found_second map span (top ∷ next ∷ rows) left walk few row has within least ahead =
    subst (λ (r : Row). IsFirstRow span.backward map (PrecedesRow span.backward r) next)
    (begins map span top (next ∷ rows) left walk row has within least)
    ((are_neighbours map span (top ∷ next ∷ rows) left walk ahead).next 0 top next refl refl)

-- ---- steps among rows that are at hand

-- what precedes one way follows the other way
turns : (backward forward : Bool) → (backward ≡ forward → ⊥) → (a b : Row) →
    PrecedesRow forward a b → PrecedesRow backward b a
turns false false other a b is = absurd (other refl)
turns false true other a b is = is
turns true false other a b is = is
turns true true other a b is = absurd (other refl)

-- where a row is the first behind another, that is the first behind it the other way
turned : (backward forward : Bool) → (backward ≡ forward → ⊥) → (map : Map) (row next : Row) →
    HasRow map row → IsFirstRow forward map (PrecedesRow forward row) next →
    IsFirstRow backward map (PrecedesRow backward next) row
turned backward forward other map row next has is = record {
  has = has;
  so = turns backward forward other row next is.so;
  first = λ third has' behind.
      let before = turns forward backward (λ same. other (sym same)) next third behind in
      elim (rows_total forward map third row has' has) [
        | inl same ↦ inl same
        | inr (inl lower) ↦ inr (turns backward forward other third row lower)
        | inr (inr upper) ↦ elim (is.first third has' upper) [
          | inl same ↦ absurd (never_before forward next
              (subst (λ (r : Row). PrecedesRow forward r next) same before))
          | inr above ↦ absurd (never_before forward next
              (before_through forward next third next above before))
        ]
      ];
}

-- a row stands at a place of the list
at_place : (rows : List Row) (k : ℕ) → k < length rows →
    (row : Row) × (slice_get rows k ≡ Some row)
at_place rows k inside = elim (slice_get_cases rows k).1 [
  | inl there ↦ (there.0, there.2)
  | inr past ↦ absurd (let far = past.0 in omega (arith, inside, far))
]

-- on to the next row
pub steps_on : (map : Map) (rows : List Row) (backward : Bool) (n k : ℕ) → k ≡ n + 1 →
    k < length rows → AreNeighbours backward map rows →
    StepsRow backward map (slice_get rows n) (slice_get rows k)
steps_on map rows backward n k is inside are =
    let first = at_place rows n (omega (arith, is, inside)) in
    let second = at_place rows k inside in
    let behind : suc n ≡ k = omega (arith, is) in
    subst (λ (a : Option Row). StepsRow backward map a (slice_get rows k)) (sym first.1)
    (subst (FindsRow backward map (PrecedesRow backward first.0)) (sym second.1)
    (are.next n first.0 second.0 first.1 (ap (slice_get rows) behind ∙ second.1)))

-- and back to the one before
pub steps_back : (map : Map) (rows : List Row) (backward forward : Bool) →
    (backward ≡ forward → ⊥) → (n k : ℕ) → k ≡ n + 1 → k < length rows →
    AreNeighbours forward map rows → StepsRow backward map (slice_get rows k) (slice_get rows n)
steps_back map rows backward forward other n k is inside are =
    let first = at_place rows n (omega (arith, is, inside)) in
    let second = at_place rows k inside in
    let behind : suc n ≡ k = omega (arith, is) in
    subst (λ (a : Option Row). StepsRow backward map a (slice_get rows n)) (sym second.1)
    (subst (FindsRow backward map (PrecedesRow backward second.0)) (sym first.1)
    (turned backward forward other map first.0 second.0 (are.each n first.0 first.1)
    (are.next n first.0 second.0 first.1 (ap (slice_get rows) behind ∙ second.1))))
