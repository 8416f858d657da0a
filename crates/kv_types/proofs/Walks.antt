-- The rows of `walk_of` are all rows of the map in the range, in the order of the walk.
use Rattle.std.proofs.Common.{◌≡◌, ◌⊎◌, inl, inr, ℕ, Bool, true, false, not, cond, List, [], ◌∷◌}
use Rattle.std.proofs.Common.{reverse, All, AllPairs, Contains, Option, Some, None, IfSome}
use Rattle.std.proofs.Common.{Ordering, is_eq, refl, sym, ap, subst, ◌∙◌}
use Rattle.std.specs.declared.cmp.Ordering.TheVariants.{Less, Equal, Greater}
use Rattle.std.specs.Bool.{Decides}
use Rattle.std.specs.List.{filter_map, cons_option}
use Rattle.std.specs.Option.{option_or, option_map, option_map_or, option_flatten}
use Rattle.std.specs.Ordering.{MatchOrdering, nat_cmp, is_lt, match_ordering, ordering_reverse}
use Rattle.std.specs.Cmp.Lexicographic.{slice_cmp, nat_list_cmp_total}
use Rattle.std.specs.Str.{bytes_eq}
use Rattle.std.proofs.lemmas.Bool.Decides.{Decides-and}
use Rattle.std.proofs.lemmas.Map.Text.{is_eq-slice_cmp}
use Rattle.std.proofs.lemmas.Slice.Eq.{bytes_eq-Decides}
use Rattle.byte_fields.specs.Order.{IsBelow}
use Rattle.byte_fields.specs.ByteOrderLemmas.{below-Less, lt_below, below_is_strict}
use Rattle.kv_types.specs.declared.edit.Edit.{Edit}
use Rattle.kv_types.specs.Spans.{Row}
use Rattle.kv_types.specs.Content.{BatchContent}
use Rattle.kv_types.specs.Maps.{key_of, value_put, joined, last_edit, map_of}
use Rattle.kv_types.specs.Spans.{Span}
use Rattle.kv_types.specs.Pages.{IsWithin, IsRowOf, PrecedesRow, IsWalk, with_key, keys_of}
use Rattle.kv_types.specs.Pages.{is_within, row_of_key, walk_of}
use Rattle.kv_types.specs.OrderLemmas.{Among, Contains-among, All-among, Rises, AllPairs-rises}
use Rattle.kv_types.specs.OrderLemmas.{Contains-reverse, All-reverse, AllPairs-reverse}

-- ---- the answers of `cmp` for two keys

says : (a b : List ℕ) (o : Ordering) → slice_cmp nat_cmp a b ≡ o
    → MatchOrdering o (IsBelow a b) (a ≡ b) (IsBelow b a)
says a b Less is = below-Less a b is
says a b Equal is = (bytes_eq-Decides a b).0 (sym (is_eq-slice_cmp a b) ∙ ap is_eq is)
says a b Greater is = below-Less b a (nat_list_cmp_total.antisymm b a ∙ ap ordering_reverse is)

-- ---- the keys of edits

module _ (key first : List ℕ) (keys rest : List (List ℕ)) where
  abbrev joined_at : Ordering → List (List ℕ)
  joined_at o = match_ordering o (key ∷ first ∷ keys) (first ∷ keys) (first ∷ rest)

  among_step : (o : Ordering) (z : List ℕ) → (Among z rest → (key ≡ z) ⊎ Among z keys)
      → Among z (joined_at o) → (key ≡ z) ⊎ Among z (first ∷ keys)
  among_step Less z f a = a
  among_step Equal z f a = inr a
  among_step Greater z f (inl e) = inr (inl e)
  among_step Greater z f (inr a) = elim (f a) [ inl e ↦ inl e | inr b ↦ inr (inr b) ]

  step_among : (o : Ordering) (z : List ℕ)
      → MatchOrdering o (IsBelow key first) (key ≡ first) (IsBelow first key)
      → ((key ≡ z) ⊎ Among z keys → Among z rest)
      → (key ≡ z) ⊎ Among z (first ∷ keys) → Among z (joined_at o)
  step_among Less z m f a = a
  step_among Equal z m f (inl e) = inl (sym m ∙ e)
  step_among Equal z m f (inr a) = a
  step_among Greater z m f (inl e) = inr (f (inl e))
  step_among Greater z m f (inr (inl e)) = inl e
  step_among Greater z m f (inr (inr a)) = inr (f (inr a))

  rises_step : (o : Ordering)
      → MatchOrdering o (IsBelow key first) (key ≡ first) (IsBelow first key)
      → Rises IsBelow (first ∷ keys) → Rises IsBelow rest
      → ((z : List ℕ) → Among z rest → (key ≡ z) ⊎ Among z keys) → Rises IsBelow (joined_at o)
  rises_step Less m rises more f = (
    λ y a. elim a [
      | inl e ↦ subst
          (IsBelow key) e m
      | inr b ↦ below_is_strict.through key first y m (rises.0 y b)
    ],
    rises,
  )
  rises_step Equal m rises more f = rises
  rises_step Greater m rises more f =
      (λ y a. elim (f y a) [ inl e ↦ subst (IsBelow first) e m | inr b ↦ rises.0 y b ], more)

among-with_key : (key : List ℕ) (keys : List (List ℕ)) (z : List ℕ) → Among z (with_key key keys)
    → (key ≡ z) ⊎ Among z keys
among-with_key key [] z a = a
among-with_key key (first ∷ keys) z a =
    among_step key first keys (with_key key keys) (slice_cmp nat_cmp key first) z
    (among-with_key key keys z) a

with_key-among : (key : List ℕ) (keys : List (List ℕ)) (z : List ℕ) → (key ≡ z) ⊎ Among z keys
    → Among z (with_key key keys)
with_key-among key [] z a = a
with_key-among key (first ∷ keys) z a =
    let o = slice_cmp nat_cmp key first in
    step_among key first keys (with_key key keys) o z (says key first o refl)
    (with_key-among key keys z) a

rises-with_key : (key : List ℕ) (keys : List (List ℕ)) → Rises IsBelow keys
    → Rises IsBelow (with_key key keys)
rises-with_key key [] rises = (λ y a. absurd a, tt)
rises-with_key key (first ∷ keys) rises =
    let o = slice_cmp nat_cmp key first in
    rises_step key first keys (with_key key keys) o (says key first o refl) rises
    (rises-with_key key keys rises.1) (among-with_key key keys)

rises-keys_of : (edits : List Edit) → Rises IsBelow (keys_of edits)
rises-keys_of [] = tt
rises-keys_of (edit ∷ edits) = rises-with_key (key_of edit) (keys_of edits) (rises-keys_of edits)

-- a key with a last edit is among them
abbrev IsKept : List ℕ → List (List ℕ) → Option (Option (List ℕ)) → Type 0
IsKept key keys found = IfSome found (λ _. Among key keys)

kept_step : (edit : Edit) (key : List ℕ) (keys : List (List ℕ)) (found : Option (Option (List ℕ)))
    (same : Bool) → (same ≡ true → key_of edit ≡ key) → IsKept key keys found
    → IsKept key (with_key (key_of edit) keys)
    (option_or found (cond same (Some (value_put edit)) None))
kept_step edit key keys (Some left) same is a = with_key-among (key_of edit) keys key (inr a)
kept_step edit key keys None true is a = with_key-among (key_of edit) keys key (inl (is refl))
kept_step edit key keys None false is a = tt

kept : (edits : List Edit) (key : List ℕ) → IsKept key (keys_of edits) (last_edit edits key)
kept [] key = tt
kept (edit ∷ edits) key =
    kept_step edit key (keys_of edits) (last_edit edits key) (bytes_eq (key_of edit) key)
    (bytes_eq-Decides (key_of edit) key).0 (kept edits key)

has_key : (batches : List BatchContent) (key value : List ℕ) → map_of batches key ≡ Some value
    → Among key (keys_of (joined batches))
has_key batches key value is =
    by_found (last_edit (joined batches) key) (kept (joined batches) key) is
  where
    by_found : (found : Option (Option (List ℕ))) → IsKept key (keys_of (joined batches)) found
        → option_flatten found ≡ Some value → Among key (keys_of (joined batches))
    by_found None a e = absurd cc
    by_found (Some left) a e = a

-- ---- the rows of keys

among-cons_option : (o : Option Row) (rest : List Row) (row : Row) → Among row (cons_option o rest)
    → (o ≡ Some row) ⊎ Among row rest
among-cons_option None rest row a = inr a
among-cons_option (Some x) rest row (inl e) = inl (ap Some e)
among-cons_option (Some x) rest row (inr a) = inr a

cons_option-among : (o : Option Row) (rest : List Row) (row : Row) → (o ≡ Some row) ⊎ Among row rest
    → Among row (cons_option o rest)
cons_option-among None rest row (inl e) = absurd cc
cons_option-among None rest row (inr a) = a
cons_option-among (Some x) rest row (inl e) = let is : x ≡ row = cc in inl is
cons_option-among (Some x) rest row (inr a) = inr a

abbrev Rising : Row → Row → Type 0
Rising a b = IsBelow a.key b.key

rises-cons_option : (o : Option Row) (rest : List Row)
    → ((x : Row) → o ≡ Some x → (y : Row) → Among y rest → Rising x y) → Rises Rising rest
    → Rises Rising (cons_option o rest)
rises-cons_option None rest h rises = rises
rises-cons_option (Some x) rest h rises = (h x refl, rises)

module _ (row_of : List ℕ → Option Row) where
  among_rows : (keys : List (List ℕ)) (row : Row) → Among row (filter_map row_of keys)
      → (key : List ℕ) × Among key keys × (row_of key ≡ Some row)
  among_rows [] row a = absurd a
  among_rows (key ∷ keys) row a =
      elim (among-cons_option (row_of key) (filter_map row_of keys) row a) [
        | inl is ↦ (key, inl refl, is)
        | inr b ↦ let r = among_rows keys row b in (r.0, inr r.1, r.2)
      ]

  rows_among : (keys : List (List ℕ)) (key : List ℕ) (row : Row) → Among key keys
      → row_of key ≡ Some row → Among row (filter_map row_of keys)
  rows_among [] key row a is = absurd a
  rows_among (first ∷ keys) key row (inl e) is =
      cons_option-among (row_of first) (filter_map row_of keys) row (inl (ap row_of e ∙ is))
  rows_among (first ∷ keys) key row (inr a) is =
      cons_option-among (row_of first) (filter_map row_of keys) row
      (inr (rows_among keys key row a is))

  rises_rows : ((key : List ℕ) (row : Row) → row_of key ≡ Some row → row.key ≡ key)
      → (keys : List (List ℕ)) → Rises IsBelow keys → Rises Rising (filter_map row_of keys)
  rises_rows own [] rises = tt
  rises_rows own (key ∷ keys) rises =
      let lower : (x : Row) → row_of key ≡ Some x → (y : Row) → Among y (filter_map row_of keys)
      → Rising x y = λ x is y a.
      let r = among_rows keys y a in
      let below = rises.0 r.0 r.1 in
      subst (λ k. IsBelow k y.key) (sym (own key x is))
      (subst (IsBelow key) (sym (own r.0 y r.2)) below)
      in
      rises-cons_option (row_of key) (filter_map row_of keys) lower (rises_rows own keys rises.1)

-- ---- the test of the range

from_test : (a b : List ℕ) (o : Ordering) → MatchOrdering o (IsBelow a b) (a ≡ b) (IsBelow b a)
    → Decides (not (is_lt o)) ((b ≡ a) ⊎ IsBelow b a)
from_test a b Less m = (
  λ e. absurd cc,
  λ h. elim h [
    | inl same ↦ absurd (below_is_strict.never a (subst (IsBelow a) same m))
    | inr lower ↦ absurd (below_is_strict.never a (below_is_strict.through a b a m lower))
  ],
)
from_test a b Equal m = (λ e. inl (sym m), λ h. refl)
from_test a b Greater m = (λ e. inr m, λ h. refl)

to_test : (key : List ℕ) (to : Option (List ℕ))
    → Decides (option_map_or (λ t. is_lt (slice_cmp nat_cmp key t)) to true)
    (IfSome to (λ t. IsBelow key t))
to_test key None = (λ e. tt, λ h. refl)
to_test key (Some t) = lt_below key t

within : (range : Span) (key : List ℕ) → Decides (is_within range key) (IsWithin range key)
within range key =
    let o = slice_cmp nat_cmp key range.from in
    Decides-and (not (is_lt o)) (option_map_or (λ t. is_lt (slice_cmp nat_cmp key t)) range.to true)
    (from_test key range.from o (says key range.from o refl)) (to_test key range.to)

-- ---- the row of a key

abbrev made : List ℕ → List ℕ → Row
made key value = record { key = key; value = value }

parts : (inside : Bool) (found : Option (List ℕ)) (key : List ℕ) (row : Row)
    → cond inside (option_map (made key) found) None ≡ Some row
    → (inside ≡ true) × (row.key ≡ key) × (found ≡ Some row.value)
parts false found key row is = absurd cc
parts true None key row is = absurd cc
parts true (Some value) key row is = let same : made key value ≡ row = cc in
    (refl, sym (ap (λ r. r.key) same), ap (λ r. Some r.value) same)

module _ (batches : List BatchContent) (range : Span) where
  own_key : (key : List ℕ) (row : Row) → row_of_key batches range key ≡ Some row → row.key ≡ key
  own_key key row is = (parts (is_within range key) (map_of batches key) key row is).1

  row_at-is : (key : List ℕ) (row : Row) → row_of_key batches range key ≡ Some row
      → IsRowOf (map_of batches) range row
  row_at-is key row is =
      let p = parts (is_within range key) (map_of batches key) key row is in
      (ap (map_of batches) p.1 ∙ p.2, subst (IsWithin range) (sym p.1) ((within range key).0 p.0))

  is-row_at : (row : Row) → IsRowOf (map_of batches) range row
      → row_of_key batches range row.key ≡ Some row
  is-row_at row is =
      let inside = (within range row.key).1 is.1 in
      ap (λ b. cond b (option_map (made row.key) (map_of batches row.key)) None) inside
      ∙ ap (option_map (made row.key)) is.0

  abbrev forward : List Row
  forward = filter_map (row_of_key batches range) (keys_of (joined batches))

  each : All (IsRowOf (map_of batches) range) forward
  each = All-among (IsRowOf (map_of batches) range) forward
      (λ row a. let r = among_rows (row_of_key batches range) (keys_of (joined batches)) row a in
      row_at-is r.0 row r.2)

  all : (row : Row) → IsRowOf (map_of batches) range row → Contains forward row
  all row is =
      Contains-among forward row
      (rows_among (row_of_key batches range) (keys_of (joined batches)) row.key row
      (has_key batches row.key row.value is.0) (is-row_at row is))

  ordered : AllPairs (PrecedesRow false) forward
  ordered = AllPairs-rises (PrecedesRow false) forward
      (rises_rows (row_of_key batches range) own_key (keys_of (joined batches))
      (rises-keys_of (joined batches)))

  -- walked from either end
  pub record IsTurned (backward : Bool) (rows : List Row) : Type 0 where
    pub each : All (IsRowOf (map_of batches) range) rows
    pub all : (row : Row) → IsRowOf (map_of batches) range row → Contains rows row
    pub ordered : AllPairs (PrecedesRow backward) rows

  turned : (backward : Bool) → IsTurned backward (cond backward (reverse forward) forward)
  turned false = record { each = each; all = all; ordered = ordered }
  turned true = record {
    each = All-reverse (IsRowOf (map_of batches) range) forward each;
    all = λ row is. Contains-reverse forward row (all row is);
    ordered = AllPairs-reverse (PrecedesRow false) (PrecedesRow true) forward (λ x y h. h) ordered;
  }

  pub walks : IsWalk (map_of batches) range (walk_of batches range)
  walks = let t = turned range.backward in
      record { each = t.each; all = t.all; ordered = t.ordered }
