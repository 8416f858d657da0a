-- Cursors over the tables whose keys meet a range.
use Rattle.std.proofs.Common.{◌≡◌, ◌≢◌, ◌↔◌, inl, inr, ℕ, zero, suc, ◌<◌, List, [], ◌∷◌, ◌++◌}
use Rattle.std.proofs.Common.{length, Contains, Bool, true, false, Option, Some, None, slice_get}
use Rattle.std.proofs.Common.{get_or, refl, sym, ◌∙◌, ap, subst, arith, cond, take, ◌≤◌}
use Rattle.std.specs.Prelude.{IfSome, not}
use Rattle.std.specs.List.{AllZip, filter}
use Rattle.std.specs.Option.{option_map_or}
use Rattle.std.specs.Ordering.{is_lt}
use Rattle.std.proofs.lemmas.Bool.{cases_lt}
use Rattle.std.proofs.lemmas.List.{append-nil}
use Rattle.std.proofs.lemmas.List.Elements.{filter-append}
use Rattle.std.proofs.lemmas.List.Kept.{AllPairs-filter}
use Rattle.std.proofs.lemmas.Option.{slice_get_within}
use Rattle.std.proofs.lemmas.Option.{slice_get_within}
use Rattle.std.specs.declared.cmp.Ordering.{Ordering}
use Rattle.std.specs.declared.cmp.Ordering.TheVariants.{Less, Equal, Greater}
use Rattle.byte_fields.specs.{StoredKey, stored_cmp}
use Rattle.byte_fields.specs.ByteOrderLemmas.{Less-below, below-Less, from_below}
use Rattle.byte_fields.specs.Order.{IsBelow}
use Rattle.kv_types.specs.{Entry, Span}
use Rattle.kv_types.specs.Pages.{IsWithin}
use Rattle.merge_iter.specs.{AreApart, EachChild, IsAlike, UnionHolds, equal_parts}
use Rattle.merge_iter.specs.declared.Cursor.{Ghosts}
use Rattle.store_model.specs.{AreLeveled, FitsRange, KeyPrecedes, KeyRange, LevelTable}
use Rattle.store_model.specs.{RangeHolds, tables_entries}
use Rattle.store_model.specs.KeysLemmas.{upto_precedes}
use Rattle.store_model.specs.PlacesLemmas.{contains_cases, contains_head, contains_next}
use Rattle.store_model.specs.PlacesLemmas.{contains_none}
use Rattle.store_tables.specs.declared.levels.OpenTable.{OpenTable}
use Rattle.store_tables.specs.RangeReads.{HasTable, HaveOwnFiles, meets_span, tables_in}
use Rattle.store_tables.proofs.LevelLemmas.{either}
use Rattle.store_tables.proofs.SideBySide.{all_taken, zip_push}

-- ---- which tables meet

not_less : (o : Ordering) → (o ≡ Less → ⊥) → not (is_lt o) ≡ true
not_less Less other = absurd (other refl)
not_less Equal other = refl
not_less Greater other = refl

-- no key of the span is past its end
within_end : (least key : StoredKey) (to : Option (List ℕ)) → (KeyPrecedes key least → ⊥)
    → IfSome to (λ end. IsBelow key end)
    → option_map_or (λ end. is_lt (stored_cmp least end)) to true ≡ true
within_end least key None from below = refl
within_end least key (Some end) from below =
    ap is_lt (upto_precedes least key end from (Less-below key end below))

-- a key behind one that ends before the span begins would be there too
precedes_from : (keys : KeyRange) (span : Span) (key : StoredKey) → RangeHolds keys key
    → KeyPrecedes keys.greatest span.from → KeyPrecedes key span.from
precedes_from keys span key holds less = upto_precedes key keys.greatest span.from holds.1 less

-- a table that has a key of the span meets it
pub key_meets : (keys : KeyRange) (span : Span) (key : StoredKey) → RangeHolds keys key
    → IsWithin span key → meets_span keys span ≡ true
key_meets keys span key holds within =
    let starts : not (is_lt (stored_cmp keys.greatest span.from)) ≡ true =
    not_less (stored_cmp keys.greatest span.from) (λ less.
    from_below span.from key within.0
    (below-Less key span.from (precedes_from keys span key holds less))) in
    rw starts (within_end keys.least key span.to holds.0 within.1)

-- ---- filters

-- what a filter keeps was there
pub kept_was : {A : Type 0} (p : A → Bool) (xs : List A) (x : A) → Contains (filter p xs) x
    → Contains xs x
kept_was p [] x has = has
kept_was p (y ∷ xs) x has = elim (either (p y)) [
  | inl passes ↦
      let there : Contains (y ∷ filter p xs) x = rw passes at has in
      elim (contains_cases y (filter p xs) x there) [
        | inl is ↦ subst (Contains (y ∷ xs)) is (contains_head y xs)
        | inr later ↦ contains_next y xs x (kept_was p xs x later)
      ]
  | inr fails ↦
      let there : Contains (filter p xs) x = rw fails at has in
      contains_next y xs x (kept_was p xs x there)
]

-- what passes is kept
pub is_kept : {A : Type 0} (p : A → Bool) (xs : List A) (x : A) → Contains xs x → p x ≡ true
    → Contains (filter p xs) x
is_kept p [] x has passes = has
is_kept p (y ∷ xs) x has passes = elim (contains_cases y xs x has) [
  | inl is ↦
      let first : p y ≡ true = ap p is ∙ passes in
      rw first (subst (Contains (y ∷ filter p xs)) is (contains_head y (filter p xs)))
  | inr later ↦ elim (either (p y)) [
    | inl here ↦ rw here (contains_next y (filter p xs) x (is_kept p xs x later passes))
    | inr fails ↦ rw fails (is_kept p xs x later passes)
  ]
]

-- ---- cursors and their tables, side by side

-- what stands at a place is contained
pub at_place : {A : Type 0} (xs : List A) (i : ℕ) (x : A) → slice_get xs i ≡ Some x → Contains xs x
at_place [] i x is = absurd cc
at_place (y ∷ xs) zero x is = let same : y ≡ x = cc in
    subst (Contains (y ∷ xs)) same (contains_head y xs)
at_place (y ∷ xs) (suc i) x is = contains_next y xs x (at_place xs i x is)

-- a list that contains an element has it at some place
pub place_of : {A : Type 0} (xs : List A) (x : A) → Contains xs x
    → (i : ℕ) × (slice_get xs i ≡ Some x)
place_of [] x has = absurd (contains_none x has)
place_of (y ∷ xs) x has = elim (contains_cases y xs x has) [
  | inl is ↦ (0, ap (λ z. Some z) is)
  | inr later ↦ let p = place_of xs x later in (suc p.0, p.1)
]

module _ {A B : Type 0} (R : A → B → Type 0) where
  -- what stands beside the element at a place
  pub beside_left : (xs : List A) (ys : List B) → AllZip R xs ys → (i : ℕ) (x : A)
      → slice_get xs i ≡ Some x → (y : B) × (slice_get ys i ≡ Some y) × R x y
  beside_left [] ys zip i x is = absurd cc
  beside_left (a ∷ xs) [] zip i x is = absurd zip
  beside_left (a ∷ xs) (b ∷ ys) zip zero x is =
      let same : a ≡ x = cc in (b, refl, subst (λ (z : A). R z b) same zip.0)
  beside_left (a ∷ xs) (b ∷ ys) zip (suc i) x is = beside_left xs ys zip.1 i x is

  beside_right : (xs : List A) (ys : List B) → AllZip R xs ys → (i : ℕ) (y : B)
      → slice_get ys i ≡ Some y → (x : A) × (slice_get xs i ≡ Some x) × R x y
  beside_right xs [] zip i y is = absurd cc
  beside_right [] (b ∷ ys) zip i y is = absurd zip
  beside_right (a ∷ xs) (b ∷ ys) zip zero y is =
      let same : b ≡ y = cc in (a, refl, subst (λ (z : B). R a z) same zip.0)
  beside_right (a ∷ xs) (b ∷ ys) zip (suc i) y is = beside_right xs ys zip.1 i y is

-- the element at a place, whatever stands for one past the end
pub index_of : {A : Type 0} (xs : List A) (i : ℕ) (x d : A) → slice_get xs i ≡ Some x
    → get_or xs i d ≡ x
index_of [] i x d is = absurd cc
index_of (y ∷ xs) zero x d is = cc
index_of (y ∷ xs) (suc i) x d is = index_of xs i x d is

-- tables with files of their own stand at one place each
pub own_before : (tables : List LevelTable) → HaveOwnFiles tables → (i j : ℕ) (t u : LevelTable)
    → slice_get tables i ≡ Some t → slice_get tables j ≡ Some u → t ≡ u → i < j → ⊥
own_before tables own i j t u is_t is_u same lt =
    let within = slice_get_within tables j u is_u in
    own i j t lt within (ap (λ (x : LevelTable). x.file)
    (index_of tables i t t is_t ∙ same ∙ sym (index_of tables j u t is_u)))

own_places : (tables : List LevelTable) → HaveOwnFiles tables → (i j : ℕ) (t u : LevelTable)
    → slice_get tables i ≡ Some t → slice_get tables j ≡ Some u → t ≡ u → i ≡ j
own_places tables own i j t u is_t is_u same = elim (cases_lt i j) [
  | inl lt ↦ absurd (own_before tables own i j t u is_t is_u same lt)
  | inr le ↦ elim (cases_lt j i) [
    | inl gt ↦ absurd (own_before tables own j i u t is_u is_t (sym same) gt)
    | inr ge ↦ omega (arith, le, ge)
  ]
]

module _ {C S : Type 0} (g : Ghosts C S) (meant : g.Meant) (source : S) (cursors : List C)
    (tables : List LevelTable) (zip : AllZip (HasTable g meant source) cursors tables) where
  -- each cursor is sound
  pub each_sound : EachChild (λ c. g.is_sound meant c source) cursors
  each_sound i c is = (beside_left (HasTable g meant source) cursors tables zip i c is).2.sound

  -- together they have the entries of the tables
  pub all_entries_of : IsAlike (UnionHolds (λ c. g.holds meant c source) cursors)
      (tables_entries tables)
  all_entries_of entry = (
    λ held.
        let it = beside_left (HasTable g meant source) cursors tables zip held.0 held.1 held.2 in
        (it.0, at_place tables held.0 it.0 it.1, (it.2.holds entry).0 held.3),
    λ has.
        let place = place_of tables has.0 has.1 in
        let it = beside_right (HasTable g meant source) cursors tables zip place.0 has.0 place.1 in
        (place.0, it.0, it.1, (it.2.holds entry).1 has.2),
  )

  -- tables of different places are different
  pub all_apart : ((t u : LevelTable) → Contains tables t → Contains tables u → (a b : Entry)
      → Contains t.entries a → Contains u.entries b → a.key ≡ b.key → a.number ≡ b.number
      → t ≡ u) → HaveOwnFiles tables → AreApart (λ c. g.holds meant c source) cursors
  all_apart unique own i j c d a b is_c is_d has_a has_b same =
      let t = beside_left (HasTable g meant source) cursors tables zip i c is_c in
      let u = beside_left (HasTable g meant source) cursors tables zip j d is_d in
      let parts = equal_parts a b same in
      own_places tables own i j t.0 u.0 t.1 u.1
      (unique t.0 u.0 (at_place tables i t.0 t.1) (at_place tables j u.0 u.1) a b
      ((t.2.holds a).0 has_a) ((u.2.holds b).0 has_b) parts.0 parts.1)

-- ---- a loop over the tables

module _ {T : Type 0} (test : T → Bool) (passed now : List T) (t : T)
    (taken : now ≡ passed ++ t ∷ []) where
  -- a filter keeps an element that passes
  pub kept_more : test t ≡ true → filter test now ≡ filter test passed ++ t ∷ []
  kept_more meets =
      ap (filter test) taken ∙ filter-append test passed (t ∷ [])
      ∙ ap (λ (b : Bool). filter test passed ++ cond b (t ∷ []) []) meets

  -- and not one that does not
  pub kept_same : test t ≡ false → filter test now ≡ filter test passed
  kept_same meets =
      ap (filter test) taken ∙ filter-append test passed (t ∷ [])
      ∙ ap (λ (b : Bool). filter test passed ++ cond b (t ∷ []) []) meets
      ∙ append-nil (filter test passed)

module _ {C T : Type 0} (R : C → T → Type 0) (test : T → Bool) (passed now : List T) (t : T)
    (taken : now ≡ passed ++ t ∷ []) where
  -- a table that passes the test has a cursor
  pub one_met : (cursors made : List C) (c : C) → AllZip R cursors (filter test passed)
      → made ≡ cursors ++ c ∷ [] → test t ≡ true → R c t → AllZip R made (filter test now)
  one_met cursors made c so_far pushed meets is =
      let both = zip_push R cursors (filter test passed) c t so_far is in
      subst (λ (l : List C). AllZip R l (filter test now)) (sym pushed)
      (subst (λ (l : List T). AllZip R (cursors ++ c ∷ []) l)
      (sym (kept_more test passed now t taken meets)) both)

  -- and one that does not has none
  pub one_passed : (cursors : List C) → AllZip R cursors (filter test passed)
      → test t ≡ false → AllZip R cursors (filter test now)
  one_passed cursors so_far meets =
      subst (λ (l : List T). AllZip R cursors l) (sym (kept_same test passed now t taken meets))
      so_far

-- a loop that has passed all open tables has passed all tables
pub all_asked : (span : Span) (W : OpenTable → LevelTable → Type 0)
    (items passed : List OpenTable) (tables : List LevelTable) (i : ℕ) → passed ≡ items
    → AllZip W items tables → length passed ≤ i
    → tables_in span (take i tables) ≡ tables_in span tables
all_asked span W items passed tables i same zip le =
    let past = subst (λ (l : List OpenTable). length l ≤ i) same le in
    ap (tables_in span) (all_taken W items tables i zip past)

-- ---- the tables of a store

-- of tables within their ranges, those that meet a span have each entry with a key in it
pub span_has : (span : Span) (tables : List LevelTable)
    → ((t : LevelTable) → Contains tables t → FitsRange t) → (entry : Entry)
    → IsWithin span entry.key
    → tables_entries tables entry ↔ tables_entries (tables_in span tables) entry
span_has span tables fit entry within = (
  λ has. (
    has.0,
    is_kept (λ (t : LevelTable). meets_span t.range span) tables has.0 has.1
        (key_meets has.0.range span entry.key ((fit has.0 has.1).within entry has.2) within),
    has.2,
  ),
  λ has. (has.0, kept_was (λ (t : LevelTable). meets_span t.range span) tables has.0 has.1, has.2),
)

-- of tables that may stand together, those that meet a span share no key and number
pub span_unique : (span : Span) (flushed : ℕ) (tables : List LevelTable)
    → AreLeveled flushed tables → (t u : LevelTable) → Contains (tables_in span tables) t
    → Contains (tables_in span tables) u → (a b : Entry) → Contains t.entries a
    → Contains u.entries b → a.key ≡ b.key → a.number ≡ b.number → t ≡ u
span_unique span flushed tables leveled t u has_t has_u a b in_t in_u key number =
    (leveled.unique t u (kept_was (λ (t : LevelTable). meets_span t.range span) tables t has_t)
    (kept_was (λ (t : LevelTable). meets_span t.range span) tables u has_u) a b in_t in_u key
    number).0

-- and have files of their own
pub span_own : (span : Span) (tables : List LevelTable) → HaveOwnFiles tables
    → HaveOwnFiles (tables_in span tables)
span_own span tables own =
    AllPairs-filter (λ (a : LevelTable) (b : LevelTable). a.file ≢ b.file)
    (λ (t : LevelTable). meets_span t.range span) tables own
